-- The laws of drafts, for the proofs of crates above.
pub use Rattle.loop_drafts.proofs.Promises.{bounds_kept, files_need_returns, returns_go_back, files_kept, counts_taken}
pub use Rattle.loop_drafts.proofs.Untrusting.{nothing_trusted, trust_before}
pub use Rattle.loop_drafts.proofs.SameShape.{bounds_free}
pub use Rattle.loop_drafts.proofs.SameCounts.{counts_free}
pub use Rattle.loop_drafts.proofs.Turning.{shown_as}
pub use Rattle.loop_drafts.proofs.Lists.{same_list}
