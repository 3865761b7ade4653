-- The lemmas of this crate that crates above may cite.
pub use Rattle.stack_tables.proofs.Seen.{address_is}
pub use Rattle.stack_tables.proofs.Numbers.{each_number}
