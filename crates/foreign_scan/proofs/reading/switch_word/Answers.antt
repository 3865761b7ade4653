use Rattle.std.proofs.Common.{ap, Some}
use Rattle.stub_writer.specs.Fragments.{t1, hi, lo}
use Rattle.scale_base.specs.declared.instruction.ImmOp.TheVariants.{Addi}
use Rattle.foreign_scan.proofs.ReadLaws.{same_some, low_kept, switch_upper, switch_lower}
use Rattle.foreign_scan.proofs.reading.switch_word.Goals as goal

pub returns : goal.returns
returns c =
    λ word lt h.
    ap Some (c.joined.ensures word lt (same_some _ _ (c.in_ok-high.ensures t1 (hi word) (switch_upper c.args.key.now c.args.at word h)))
    (low_kept c.in_ok-low.low word (same_some _ _ (c.in_ok-low.ensures Addi t1 t1 (lo word) (switch_lower c.args.key.now c.args.at word h)))))
