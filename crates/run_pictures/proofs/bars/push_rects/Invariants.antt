use Rattle.std.proofs.Common.{◌≡◌, ◌++◌, drop, string_bytes}
use Rattle.run_stretches.specs.Stretches.{no_end}
use Rattle.run_pictures.specs.PictureTexts.{bar_rects}
use Rattle.run_pictures.proofs.bars.push_rects.Given as goal

abbrev pub invariant-loop-end : goal.invariant-loop-end
invariant-loop-end l =
    string_bytes l.text ++ bar_rects l.axis l.levels l.base l.begin (drop l.end-index l.ends) ≡ string_bytes l.initial.text ++ bar_rects l.axis l.levels l.base no_end l.ends
