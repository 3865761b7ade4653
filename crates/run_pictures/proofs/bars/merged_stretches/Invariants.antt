use Rattle.std.proofs.Common.{◌≡◌, ◌+◌, ◌*◌, ◌^◌, ◌≤◌, drop}
use Rattle.run_stretches.specs.Stretches.{no_end}
use Rattle.run_pictures.specs.PictureTexts.{merged_from}
use Rattle.run_pictures.proofs.bars.merged_stretches.Given as goal

abbrev pub invariant-loop-end : goal.invariant-loop-end
invariant-loop-end l = record {
  sum : l.merged + merged_from l.begin (drop l.end-index l.ends) ≡ merged_from no_end l.ends;
  small : l.merged ≤ l.end-index * 2 ^ 64;
}
