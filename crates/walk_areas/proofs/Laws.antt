-- The laws of walks, for the proofs of crates above.
pub use Rattle.walk_areas.proofs.Counts.{walks_bound}
