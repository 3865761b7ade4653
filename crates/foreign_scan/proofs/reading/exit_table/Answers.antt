use Rattle.std.proofs.Common.{ap, Some}
use Rattle.stub_writer.specs.Fragments.{t0, t1, hi, lo}
use Rattle.scale_base.specs.declared.instruction.LoadOp.TheVariants.{Lw}
use Rattle.foreign_scan.proofs.ReadLaws.{same_some, low_kept, exit_upper, exit_lower}
use Rattle.foreign_scan.proofs.reading.exit_table.Goals as goal

pub returns : goal.returns
returns c =
    λ counter shift table lt h.
    ap Some (c.joined.ensures table lt (same_some _ _ (c.in_ok-high.ensures t1 (hi table) (exit_upper c.args.key.now c.args.at counter shift table h)))
    (low_kept c.in_ok-low.low table (same_some _ _ (c.in_ok-low.ensures Lw t1 t0 (lo table) (exit_lower c.args.key.now c.args.at counter shift table h)))))
