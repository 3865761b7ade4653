use Rattle.copy_checks.proofs.Whole.{kept}
use Rattle.copy_checks.proofs.kept.are_calls_kept.Goals as goal

pub returns : goal.returns
returns c so m t of are = kept c.args.code.now c.args.meant.now m t of are (c.are_edges_kept.ensures so)
