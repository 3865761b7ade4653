-- The lemmas of this crate that crates above may cite.
pub use Rattle.code_text.proofs.Rising.{addresses_rise}
pub use Rattle.code_text.proofs.Rows.{next_range, sorted_rise}
pub use Rattle.code_text.proofs.Searches.{among, found_in}
pub use Rattle.code_text.proofs.Walks.{walked_in}
pub use Rattle.code_text.proofs.KindFacts.{kind_facts}
pub use Rattle.code_text.proofs.RangesApart.{ranges_apart}
pub use Rattle.code_text.proofs.StoredWords.{instruction_stored, kind_stored}
pub use Rattle.code_text.proofs.WeightLaws.{weights_are}
