-- The lemmas of this crate that crates above may cite.
pub use Rattle.machine_laws.proofs.EmptyKey.{run_same}
pub use Rattle.machine_laws.proofs.KeylessRuns.{EndsKeyless, run_without_port, step_keyless}
pub use Rattle.machine_laws.proofs.Parts.{IsPlaced, file_fits, in_part, part_covered, part_held, part_placed, part_word, parts_placed}
pub use Rattle.machine_laws.proofs.Ranges.{All-ranges_of, IsTextRange, list_any-ranges_of, text_ranges_kept}
pub use Rattle.machine_laws.proofs.RegisterLaws.{step_length}
pub use Rattle.machine_laws.proofs.Segments.{SegmentsKept, loaded_byte-is, not_zeroed, one_covers, segments_of}
pub use Rattle.machine_laws.proofs.Tests.{any_from_found, find-map, found_from_any, found_in, found_keeps, found_passes, list_any-map, mapped_from}
pub use Rattle.machine_laws.proofs.TextBytes.{InText, byte_loaded, in_text, word_in_text}
pub use Rattle.machine_laws.proofs.TextWords.{word_loaded}
pub use Rattle.machine_laws.proofs.Spans.{share_address}
pub use Rattle.machine_laws.proofs.StepLaws.{step_performs}
