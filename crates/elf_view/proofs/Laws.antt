-- The lemmas of this crate that crates above may cite.
pub use Rattle.elf_image.proofs.Laws.{both_true, le_of}
pub use Rattle.elf_view.proofs.Below.{length-headers}
pub use Rattle.elf_view.proofs.First.{none_broken}
pub use Rattle.elf_view.proofs.Whole.{whole}
