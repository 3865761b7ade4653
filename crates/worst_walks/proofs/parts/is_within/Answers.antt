use Rattle.worst_walks.proofs.EnterLaws.{round_at}
use Rattle.worst_walks.proofs.parts.is_within.Goals as goal

pub returns-then-is_step-clause-stays : goal.returns-then-is_step-clause-stays
returns-then-is_step-clause-stays c = λ h.
    let m = c.is_inside.ensures h in
    round_at c.args.graph.now c.args.tree.now c.requires.tree.0 c.requires.tree.1 c.args.e c.args.l m.0 (c.target.ensures.some m.0 m.1) (c.target.ensures.within m.0 m.1) m.2
