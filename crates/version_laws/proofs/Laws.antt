-- The lemmas of this crate that crates above may cite.
pub use Rattle.version_laws.proofs.Law.{runs_follow as versioned_runs_follow}
pub use Rattle.version_laws.proofs.Exits.{runs_exit as versioned_runs_exit, stay_outside as exited_runs_stay_outside}
pub use Rattle.version_laws.proofs.Legs.{plain_local}
pub use Rattle.version_laws.proofs.Law.{frame_of, runs_pair as versioned_runs_pair}
-- the steps of both runs side by side
pub use Rattle.version_laws.proofs.Pairs.{ArePaired, IsPair, all_but_last, but_last, gone, gone_by, is_local}
pub use Rattle.version_laws.proofs.Pairs.IsPair.{as_it_was, in_copy, at_call, at_return}
pub use Rattle.version_laws.proofs.Pairs.ArePaired.{none as none_paired, passed as passed_paired, both as both_paired}
