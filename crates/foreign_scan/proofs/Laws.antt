-- The lemmas of this crate that crates above may cite.
pub use Rattle.foreign_scan.proofs.AgreeLaws.{causes_agree, found_agree, scan_is_not_refused}
