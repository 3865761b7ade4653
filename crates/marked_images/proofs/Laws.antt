-- The lemmas of this crate that crates above may cite.
pub use Rattle.marked_images.proofs.Parts.{HoldAnswers, IsNear, file_is, found_below, found_in_time, is_unscaled, near_of, no_key, read_again, then_goes, then_is, then_ok, then_stops}
pub use Rattle.marked_images.proofs.Lists.{get_some, map_take_more, step_is, take_all}
pub use Rattle.marked_images.proofs.Numbered.{counted_as, numbers_of, weighed_by}
pub use Rattle.marked_images.proofs.SameMarks.{jumps_same}
pub use Rattle.marked_images.proofs.EdgeBlocks.{map_none}
pub use Rattle.marked_images.proofs.WantedKinds.{marked_kind, marked_led, marks_of_edge, other as slack_stored, plain as slack_plain, rows_by_count, weighed as slack_weighed}
pub use Rattle.marked_images.proofs.CallWeights.{calls_unmarked}
pub use Rattle.marked_images.proofs.SafeStubs.{bound_small}
pub use Rattle.marked_images.proofs.MarkingLaws.{IsLoud, counted_loop, mark_is, marking_alone, marking_switches, tally_is}
pub use Rattle.marked_images.proofs.Storing.{IsMade, can_store, made_of, safe, start_low}
pub use Rattle.marked_images.proofs.Given.{stubbed_of}
