-- The lemmas of this crate that crates above may cite.
pub use Rattle.graph_algorithms.proofs.ChainLaws.{key_within}
pub use Rattle.graph_algorithms.proofs.CycleLaws.{IsRound, cycle_turned}
pub use Rattle.graph_algorithms.proofs.BitLaws.{bit_cases}
pub use Rattle.graph_algorithms.proofs.EdgeLaws.{place, place_less}
pub use Rattle.graph_algorithms.proofs.EntryLaws.{least_more, least_same}
