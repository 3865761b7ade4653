-- The lemmas of this crate that crates above may cite.
pub use Rattle.graph_runs.proofs.Images.{image_starts, text_of_layout, text_off_stack}
pub use Rattle.graph_runs.proofs.KeptLaws.{AreLate, kept_parts}
pub use Rattle.graph_runs.proofs.Lengths.{going_length}
pub use Rattle.graph_runs.proofs.LessKept.{kept_by_less}
pub use Rattle.graph_runs.proofs.Programs.{image_runs_are_below, image_runs_are_kept_transitions, image_runs_end}
pub use Rattle.graph_runs.proofs.RunLaws.{after-append, exited_at, went_at}
pub use Rattle.graph_runs.proofs.StepFacts.{EndsBy, IsDone, IsExit, IsTrap, step_done}
pub use Rattle.graph_runs.proofs.StepTransitions.{IsTransitionKind, IsTransitionOf, place}
pub use Rattle.graph_runs.proofs.TextFacts.{entry_is, not_written, word_bound, word_same, word_within}
pub use Rattle.graph_runs.proofs.TransitionLaws.{Goes, went}
