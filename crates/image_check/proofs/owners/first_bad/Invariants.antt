use Rattle.std.proofs.Common.{◌≡◌, ℕ, ◌<◌, false}
use Rattle.std.specs.Prelude.{slice_index_or}
use Rattle.image_check.specs.Known.{owner_by}
use Rattle.image_check.specs.Uses.{is_bad_tally, no_tally}
use Rattle.image_check.proofs.owners.first_bad.Given as goal

abbrev pub invariant-loop-c : goal.invariant-loop-c
invariant-loop-c l = (d : ℕ) → d < l.c → is_bad_tally l.turns l.exits (slice_index_or l.tallies d no_tally) (owner_by l.owners d) ≡ false
