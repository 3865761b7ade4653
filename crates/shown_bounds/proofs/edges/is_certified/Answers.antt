use Rattle.std.proofs.Common.{refl}
use Rattle.shown_bounds.proofs.WholeCases.{certified}
use Rattle.shown_bounds.proofs.edges.is_certified.Goals as goal

pub returns : goal.returns
returns c so = certified c.args.case.now c.requires (c.if-not-is_begun.ensures refl) (c.are_edges_certified.ensures so)
