-- The lemmas of this crate that crates above may cite.
pub use Rattle.elf_image.proofs.Booleans.{both_true, one_true, le_of}
