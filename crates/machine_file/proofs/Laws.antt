-- The lemmas of this crate that crates above may cite.
pub use Rattle.machine_file.proofs.RangeLaws.{model-from_bytes}
