use Rattle.std.proofs.Common.{◌≡◌, ℕ, length, Option, Some, None}
use Rattle.std.specs.Prelude.{slice_get}
use Rattle.foreign_scan.proofs.counts.no_edges.Given as goal

abbrev pub invariant-loop : goal.invariant-loop
invariant-loop l = record {
  size : length l.firsts.items ≡ l.counter;
  none : (c : ℕ) (o : Option ℕ) → slice_get l.firsts.items c ≡ Some o → o ≡ None;
}
