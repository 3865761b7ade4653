-- The lemmas of this crate that crates above may cite.
pub use Rattle.image_maker.proofs.OneImage.{one_image}
pub use Rattle.image_maker.proofs.SmallFiles.{small_image, small_loops, small_machine}
