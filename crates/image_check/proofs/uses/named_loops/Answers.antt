use Rattle.std.proofs.Common.{◌≡◌, ◌+◌, ◌<◌, ℕ, List, [], length, All, Vec, Global, Option, Some, None, sym, ◌∙◌, subst, arith}
use Rattle.std.proofs.lemmas.Option.{get_or_from_slice_get}
use Rattle.foreign_scan.specs.declared.fragment.ForeignFragment.{ForeignFragment}
use Rattle.foreign_scan.specs.Form.{IsForeign}
use Rattle.image_check.specs.Uses.{on_edge, AreNamed}
use Rattle.image_check.proofs.FoundFacts.{fine_on}
use Rattle.image_check.proofs.TreeFacts.{turn_one, turn_zero}
use Rattle.image_check.proofs.UseLaws.{named_skip, named_more}
use Rattle.image_check.proofs.uses.named_loops.Goals as goal
use Rattle.image_check.proofs.uses.named_loops.Goals.{in-Some, in-None}

pub name_loop-requires-clause-foreign : goal.name_loop-requires-clause-foreign
name_loop-requires-clause-foreign c =
    let is = c.requires.3 in
    let count = c.edge_count-e-end.ensures.count in
    let el : c.loop-e.e < length c.args.graph.now.code.edges = omega (arith, count) in
    let on : on_edge c.args.sites.now c.loop-e.e ≡ c.fragments.result.now = get_or_from_slice_get c.args.sites.now.fragments c.loop-e.e c.fragments.result.now [] c.fragments.ensures in
    subst (λ (fs : List ForeignFragment). All IsForeign fs) on (fine_on c.requires.0 c.requires.1 c.args.graph.now c.args.tree.now c.requires.2 c.args.sites.now is c.loop-e.e el).foreign

pub loop-e-preserved : goal.loop-e-preserved
loop-e-preserved c =
    let is = c.requires.3 in
    let count = c.edge_count-e-end.ensures.count in
    let el : c.loop-e.e < length c.args.graph.now.code.edges = omega (arith, count) in
    elim c.match-back_loop.branch [
      | in-Some w ↦
          let on : on_edge c.args.sites.now c.loop-e.e ≡ w.fragments.result.now = get_or_from_slice_get c.args.sites.now.fragments c.loop-e.e w.fragments.result.now [] w.fragments.ensures in
          let turn = turn_one c.args.graph.now c.args.tree.now is.tree.0 is.code.flow is.tree.1 w.in-Some.k c.loop-e.e w.in-Some.ensures in
          subst (λ (x : Vec (Option ℕ) Global). AreNamed c.args.graph.now c.args.tree.now c.args.sites.now (c.loop-e.e + 1) x.items) (sym w.owners-is)
          (named_more c.args.graph.now c.args.tree.now c.args.sites.now c.loop-e.e c.loop-e.owners.items c.loop-e.invariant w.in-Some.k w.fragments.result.now w.name_loop.new.owners.items turn.0 turn.1 on w.name_loop.ensures.size w.name_loop.ensures.named)
      | in-None w ↦ subst (λ (x : Vec (Option ℕ) Global). AreNamed c.args.graph.now c.args.tree.now c.args.sites.now (c.loop-e.e + 1) x.items) (sym w.owners-is)
          (named_skip c.args.graph.now c.args.tree.now c.args.sites.now c.loop-e.e c.loop-e.owners.items c.loop-e.invariant
          (λ k kl. turn_zero c.args.graph.now c.args.tree.now is.tree.0 is.code.flow is.tree.1 k c.loop-e.e kl el (λ some. let none = w.in-None.ensures in let both : Some None ≡ Some (Some k) = sym none ∙ some in let bad : ⊥ = cc in bad)))
    ]
