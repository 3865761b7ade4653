use Rattle.std.proofs.Common.{◌≡◌, ◌++◌, string_bytes}
use Rattle.std.specs.Prelude.{codes}
use Rattle.image_maker.specs.MadeTexts.{made_loop_tables}
use Rattle.image_maker.proofs.texts.loops_text.Given as goal

abbrev pub invariant-loop-c : goal.invariant-loop-c
invariant-loop-c l = string_bytes l.text ≡ codes "version = 1\n" ++ made_loop_tables l.headers l.c
