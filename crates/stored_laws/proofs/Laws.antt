-- The lemmas of this crate that crates above may cite.
pub use Rattle.stored_laws.proofs.Bytes.{get_or-behind, get_or-slice_range, half-same, half_little, length-put, length-slice_range, put-inside, put-outside, word-same, word_little}
pub use Rattle.stored_laws.proofs.Fields.{IsStored, Places, stored-is}
pub use Rattle.stored_laws.proofs.Law.{a_held_image, file_of, held_place}
pub use Rattle.stored_laws.proofs.Patched.{Away, TextPlace, fold-away, length-patched, length-put_at, patched-away, put_at-away, text_place}
pub use Rattle.stored_laws.proofs.Whole.{law}
pub use Rattle.stored_laws.proofs.Known.{Known, known}
pub use Rattle.stored_laws.proofs.Segments.{loads-split}
pub use Rattle.stored_laws.proofs.Table.{kept_header, keyed_header, loads-kept, stored-headers}
