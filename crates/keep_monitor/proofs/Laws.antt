-- What other crates may use.
pub use Rattle.keep_monitor.proofs.RunLaws.{watched_is_kept}
pub use Rattle.keep_monitor.proofs.AlikeLaws.{AreAlike, relaxed_at}
pub use Rattle.keep_monitor.proofs.CountedLaws.{relaxed_free}
pub use Rattle.keep_monitor.proofs.CountedRuns.{IsCounted, counted_is}
pub use Rattle.keep_monitor.proofs.BoundLaws.{NeedNotTurn}
pub use Rattle.keep_monitor.proofs.BoundedRuns.{AreLower, IsTight, within_bounds, no_bound, tight_breaks}
