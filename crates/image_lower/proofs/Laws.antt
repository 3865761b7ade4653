-- The lemmas of this crate that crates above may cite.
pub use Rattle.image_lower.proofs.SafeLowered.{answers as lowered_answers, safe as lowered_safe}
-- the memory of an image with a block of code and patched words
pub use Rattle.image_lower.proofs.MadeBy.{IsMadeFile, made_added}
pub use Rattle.image_lower.proofs.MadeMemory.{IsMade, text_off, word_in, byte_same, plain_byte, patched_byte, block_byte, text_is, no_key_too, alike, fetched_too, unfetched, is_unkeyed, is_unkeyed_too}
