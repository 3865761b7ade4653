use Rattle.std.proofs.Common.{inl, inr, refl}
use Rattle.worst_cycles.proofs.BodyLaws.{back_by}
use Rattle.worst_cycles.proofs.FallLaws.{plain_by}
use Rattle.worst_cycles.proofs.OverLaws.{over_plain}
use Rattle.worst_cycles.proofs.visits.over.Goals as goal

pub returns-in-Some-clause-over : goal.returns-in-Some-clause-over
returns-in-Some-clause-over c = λ n s known. inr ((back_by c.args.planned.now.graph.now c.args.planned.now.tree.now c.requires.planned.tree.0 c.requires.planned.tree.1 c.args.e _ c.in-Some.ensures).2, refl)

pub returns-in-None-clause-over : goal.returns-in-None-clause-over
returns-in-None-clause-over c = λ n s known.
    let plain = plain_by c.args.planned.now.graph.now c.args.planned.now.tree.now c.requires.planned.tree.0 c.requires.planned.tree.1 c.args.e c.requires.edge c.in-None.ensures in
    inl (
      plain,
      over_plain c.cost_of.result c.behind.result s c.requires.edge known plain (c.cost_of.ensures.cost n known.called) c.behind.ensures.behind,
    )
