-- The lemmas of this crate that crates above may cite.
pub use Rattle.cycle_laws.proofs.Alike.{charged_agree, least_same}
pub use Rattle.cycle_laws.proofs.Exist.{Turn, body_owner, charged_exist, closing_run, inner_rank, nest}
pub use Rattle.cycle_laws.proofs.KeptWalks.{exit_behind}
pub use Rattle.cycle_laws.proofs.PlainReturns.{plain_returns}
pub use Rattle.cycle_laws.proofs.Charges.{charged_back, charged_into, charged_on}
pub use Rattle.cycle_laws.proofs.Headers.{headers_different}
pub use Rattle.cycle_laws.proofs.Iterations.{closing_over, iteration_closing}
pub use Rattle.cycle_laws.proofs.PlainPaths.{plain_over, plain_within_worst, worst_plain}
