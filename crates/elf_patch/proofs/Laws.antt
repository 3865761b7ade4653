-- The lemmas of this crate that crates above may cite.
pub use Rattle.elf_patch.proofs.PlaceLemmas.{page_at-le, page_at-least, page_at-mod}
pub use Rattle.elf_patch.proofs.Room.{some_place}
pub use Rattle.elf_patch.proofs.AddedLemmas.{sections_in_file}
