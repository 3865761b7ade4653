-- The lemmas of this crate that crates above may cite.
pub use Rattle.loop_forest.proofs.AmongLaws.{among_at, at_among, or_right}
pub use Rattle.loop_forest.proofs.BodyLaws.{body_at}
pub use Rattle.loop_forest.proofs.NodeLaws.{one_number, source_number}
