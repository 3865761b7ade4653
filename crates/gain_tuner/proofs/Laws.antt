-- The lemmas of this crate that crates above may cite.
pub use Rattle.gain_tuner.proofs.Chosen.{first_choice, next_choice, tried_or, tried_safe}
pub use Rattle.gain_tuner.proofs.Numbered.{Answer}
pub use Rattle.gain_tuner.proofs.Runs.{original_runs, simulated_plain}
pub use Rattle.gain_tuner.proofs.SameTunings.{tuned_answers}
pub use Rattle.gain_tuner.proofs.SafeTunings.{tuned_safe}
pub use Rattle.gain_tuner.proofs.Steps.{AreCounted, counted_flags, flag_at, input_at, input_below, items_of}
pub use Rattle.gain_tuner.proofs.Sums.{kept_more, left_more, none_spent}
pub use Rattle.gain_tuner.proofs.Trials.{IsOne, made_one}
