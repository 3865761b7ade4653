-- The lemmas of this crate that crates above may cite.
pub use Rattle.walk_laws.proofs.Balance.{counts_are, called_sum, taken-add}
pub use Rattle.walk_laws.proofs.Joined.{total-append, sum-add}
pub use Rattle.walk_laws.proofs.Sums.{mul-add, sum-mul}
pub use Rattle.walk_laws.proofs.Exact.{Each, each_map, each_both, total_same, total_counted, IsExact, exact_walk, called_exact}
