use Rattle.std.proofs.Common.{◌≡◌, ◌+◌, ◌≤◌, drop}
use Rattle.run_stretches.specs.Stretches.{no_end}
use Rattle.run_pictures.specs.PictureTexts.{hatched_from}
use Rattle.run_pictures.proofs.bars.hatched_bars.Given as goal

abbrev pub invariant-loop-end : goal.invariant-loop-end
invariant-loop-end l = record {
  sum : l.hatched + hatched_from l.begin (drop l.end-index l.ends) ≡ hatched_from no_end l.ends;
  small : l.hatched ≤ l.end-index;
}
