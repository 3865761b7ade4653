use Rattle.std.proofs.Common.{sym}
use Rattle.shown_bounds.proofs.Cases.{called_so}
use Rattle.shown_bounds.proofs.edges.calls_so.Goals as goal

pub returns-in-Some : goal.returns-in-Some
returns-in-Some c so = called_so c.args.case.now c.requires.case c.args.e c.source-k.result c.entry_node.result c.in-Some.f c.source-k.ensures.node (sym c.in-Some.ensures) c.entry_node.ensures.node (c.is_called_so.ensures so)
