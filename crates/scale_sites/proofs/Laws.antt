-- The lemmas of this crate that crates above may cite.
pub use Rattle.scale_sites.proofs.OneExit.{switches-one}
pub use Rattle.scale_sites.proofs.FirstMarks.{marks_store_first}
pub use Rattle.scale_sites.proofs.FormLaws.{behind_quiet, counter_behind_append, first_tally_from, formed_all, formed_counts, formed_few, formed_jumps, formed_no_longer, formed_patched, formed_some, formed_stores_first, plain_quiet}
