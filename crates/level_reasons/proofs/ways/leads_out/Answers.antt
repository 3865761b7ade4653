use Rattle.std.proofs.Common.{not, refl, sym, ap, ◌∙◌}
use Rattle.level_reasons.proofs.BodyFacts.{leaves_is}
use Rattle.level_reasons.proofs.ways.leads_out.Goals as goal

pub returns-in-Some-clause-out : goal.returns-in-Some-clause-out
returns-in-Some-clause-out c =
    let tree = c.requires.program.tree in
    let out = leaves_is c.args.program.now.graph.now c.args.program.now.tree.now tree.0 c.requires.program.flow tree.1 c.args.l c.args.e c.in-Some.k c.requires.within (c.in-Some.ensures.within c.in-Some.k refl) c.requires.inside (c.in-Some.ensures.some c.in-Some.k refl) in
    λ leads. record {
      edge = c.edge.result;
      there = c.edge.ensures;
      stub = sym c.can_switch.ensures ∙ c.if-not-can_switch.false;
      leaves = out ∙ ap not (sym c.in_body.ensures) ∙ leads;
    }

pub returns-in-Some-clause-all : goal.returns-in-Some-clause-all
returns-in-Some-clause-all c =
    let tree = c.requires.program.tree in
    let out = leaves_is c.args.program.now.graph.now c.args.program.now.tree.now tree.0 c.requires.program.flow tree.1 c.args.l c.args.e c.in-Some.k c.requires.within (c.in-Some.ensures.within c.in-Some.k refl) c.requires.inside (c.in-Some.ensures.some c.in-Some.k refl) in
    λ way. ap not c.in_body.ensures ∙ sym out ∙ way.leaves
