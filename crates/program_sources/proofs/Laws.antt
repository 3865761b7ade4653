-- The lemmas of this crate that crates above may cite.
pub use Rattle.program_sources.proofs.Answering.{answers_go, answers_stop, goes_on, stops_at, then_is, then_ok}
pub use Rattle.program_sources.proofs.Parts.{IsOriginal, key_unscaled, machine_stops, no_key, original_is, original_parts, original_stops, sources_are, sources_parts}
