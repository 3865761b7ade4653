-- The lemmas of this crate that crates above may cite.
pub use Rattle.stored_runs.proofs.Follow.{patched_runs, stubbed_patched}
pub use Rattle.stored_runs.proofs.Frame.{frame, hidden}
pub use Rattle.stored_runs.proofs.LegLaws.{cost_of_legs, long_legs, short_legs, text_of_legs}
pub use Rattle.stored_runs.proofs.Meetings.{meetings_once}
pub use Rattle.stored_runs.proofs.PatchedFrame.{key_below}
pub use Rattle.stored_runs.proofs.LaidBytes.{byte_seen, laid}
pub use Rattle.stored_runs.proofs.Placed.{patched_word, word_by, word_stays}
pub use Rattle.stored_runs.proofs.SameStep.{SeeAlike, over, seen, step_alike}
pub use Rattle.stored_runs.proofs.StoredBytes.{IsOff}
pub use Rattle.stored_runs.proofs.BlockLaws.{block_length, block_stands, codes_small, lie_left, lie_right, rows_lie, stub_anywhere, words_length}
pub use Rattle.stored_runs.proofs.Cycles.{fragments_cycles, way_cycles}
pub use Rattle.stored_runs.proofs.Held.{keyed_fetched}
pub use Rattle.stored_runs.proofs.Passage.{goes_on, goes_taken, goes_untaken, one_lies, row_lies, word_lies}
pub use Rattle.stored_runs.proofs.Steps.{leads_first, leads_none, leads_on}
pub use Rattle.stored_runs.proofs.Ways.{codes_length, stand_left}
