-- The lemmas of this crate that crates above may cite.
pub use Rattle.level_tables.proofs.Budgets.{both_in_budget, both_in_time, budgets_alike}
pub use Rattle.level_tables.proofs.Entries.{entries-low, entry-is, entry-least, row-at, row_by-at, word-at, word_by-at}
pub use Rattle.level_tables.proofs.Least.{first_are, least_are}
pub use Rattle.level_tables.proofs.Lowest.{goes_where, lowest_goes, lowest_later, meets_later, tallies_safe, tallies_safe_in_time, tally_small}
pub use Rattle.level_tables.proofs.Searching.{IsFound, least-is}
pub use Rattle.level_tables.proofs.Shifts.{trips_left-le}
pub use Rattle.level_tables.proofs.Words.{nibbles-fit}
