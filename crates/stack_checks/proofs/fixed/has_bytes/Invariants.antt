use Rattle.std.proofs.Common.{◌≡◌, ℕ, ◌<◌, ◌+◌}
use Rattle.std.specs.Prelude.{slice_index}
use Rattle.scale_base.specs.Image.{loaded_byte}
use Rattle.stack_checks.proofs.fixed.has_bytes.Given as goal

abbrev pub invariant-loop-k : goal.invariant-loop-k
invariant-loop-k l = (j : ℕ) → j < l.k → loaded_byte l.view (l.part.from + j) ≡ slice_index l.part.bytes.items j
