use Rattle.std.proofs.Common.{sym, ◌∙◌, arith}
use Rattle.elf_image.specs.Segment.{segment_value}
use Rattle.foreign_scan.proofs.LoadedLaws.{loaded_none, loaded_some, loaded_more}
use Rattle.foreign_scan.proofs.bytes.loaded.Goals as goal

pub loop-k-preserved : goal.loop-k-preserved
loop-k-preserved c =
    loaded_more c.args.view.now c.args.at c.loop-k.k (segment_value c.segment-segment.result) c.segment-segment.ensures (sym c.covers.ensures ∙ c.if-covers.false) c.loop-k.invariant

pub returns-then-covers : goal.returns-then-covers
returns-then-covers c =
    c.segment_byte.ensures ∙ sym (loaded_some c.args.view.now c.args.at c.loop-k.k (segment_value c.segment-segment.result) c.segment-segment.ensures (sym c.covers.ensures ∙ c.if-covers.true) c.loop-k.invariant)

pub returns : goal.returns
returns c = sym (loaded_none c.args.view.now c.args.at c.loop-k.k (omega (arith, c.segment_count-k-end.ensures)) c.loop-k.invariant)
