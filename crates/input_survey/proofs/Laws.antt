-- The lemmas of this crate that crates above may cite.
pub use Rattle.input_survey.proofs.SameSurveys.{surveyed_answers}
pub use Rattle.input_survey.proofs.Saying.{surveyed_says}
