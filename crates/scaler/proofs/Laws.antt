-- The lemmas of this crate that crates above may cite.
pub use Rattle.scaler.proofs.Safe.{safe as held_safe, went_through as held_parts, WentThrough}
pub use Rattle.scaler.proofs.HeldPromise.{held_promise}
pub use Rattle.scaler.proofs.SafeRewritten.{WentThrough as RewrittenParts, went_through as rewritten_parts, safe as rewritten_safe}
pub use Rattle.scaler.proofs.SafeAs.{safe as rewritten_as_safe}
pub use Rattle.scaler.proofs.agree.Helds.{held_answers}
pub use Rattle.scaler.proofs.agree.Rewrites.{rewritten_answers, rewritten_as_answers}
pub use Rattle.scaler.proofs.Given.{held_answer, held_stops, rewritten_answer}
pub use Rattle.scaler.proofs.TimedFacts.{held_by, timed_are, timed_calls, timed_count, timed_low, timed_plain, timed_short, timed_slow, timed_total}
pub use Rattle.scaler.proofs.Gains.{model_with}
