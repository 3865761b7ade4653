use Rattle.std.proofs.Common.{◌≡◌, ℕ, ◌+◌, ◌*◌, ◌≤◌, length, drop}
use Rattle.std.specs.Prelude.{slice_index_or}
use Rattle.image_check.specs.Known.{owner_by}
use Rattle.image_check.specs.Uses.{fits_on, taken, no_tally}
use Rattle.image_check.proofs.uses.take_edge.Given as goal

abbrev pub invariant-loop-fragment : goal.invariant-loop-fragment
invariant-loop-fragment l = record {
  size : length l.tallies.items ≡ 511;
  taken : (c : ℕ) → taken c (fits_on l.scanned.graph.now l.scanned.tree.now l.scanned.sites.now (owner_by l.owners c) c l.e) (drop l.fragment-index l.fragments) (slice_index_or l.tallies.items c no_tally)
      ≡ taken c (fits_on l.scanned.graph.now l.scanned.tree.now l.scanned.sites.now (owner_by l.owners c) c l.e) l.fragments (slice_index_or l.fn.tallies.items c no_tally);
  small : (c : ℕ) → ((slice_index_or l.tallies.items c no_tally).counts ≤ 64 * l.e + l.fragment-index) × ((slice_index_or l.tallies.items c no_tally).clears ≤ 64 * l.e + l.fragment-index);
}
