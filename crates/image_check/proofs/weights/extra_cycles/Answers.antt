use Rattle.std.proofs.Common.{ap, ◌∙◌, Some}
use Rattle.power_model.specs.Price.{cycles_of}
use Rattle.image_check.proofs.Extras.{extra_of_same, extra_of_patched, few_listed}
use Rattle.image_check.proofs.weights.extra_cycles.Goals as goal

pub returns-then-not-patched-clause-extra : goal.returns-then-not-patched-clause-extra
returns-then-not-patched-clause-extra c = λ original foreign t owner found is.
    extra_of_same original foreign c.args.graph.now t owner found c.args.sites.now is (cycles_of c.args.costs.now) c.args.e c.source.result c.requires.edge c.source.ensures.node
    (c.patched.ensures ∙ ap Some c.if-not-patched.true)

pub fragments_cycles-requires : goal.fragments_cycles-requires
fragments_cycles-requires c =
    let h = c.requires.found in
    record {
      few = few_listed h.1.0 h.1.1 c.args.graph.now h.0 (λ k. Rattle.std.proofs.Common.None) h.1.2 c.args.sites.now h.1.3 c.args.e c.source.result c.edge.result c.fragments.result.now c.edge.ensures c.source.ensures.node
          (c.patched.ensures ∙ ap Some c.if-not-patched.false) c.fragments.ensures;
    }

pub returns-clause-extra : goal.returns-clause-extra
returns-clause-extra c = λ original foreign t owner found is.
    let whole = extra_of_patched original foreign c.args.graph.now t owner found c.args.sites.now is c.args.e c.source.result c.edge.result c.fragments.result.now c.edge.ensures c.source.ensures.node
    (c.patched.ensures ∙ ap Some c.if-not-patched.false) c.fragments.ensures (cycles_of c.args.costs.now) in
    rw (c.stub_jumps-jumps.ensures.jumps, c.from.ensures, c.fragments_cycles.ensures.cost) whole
