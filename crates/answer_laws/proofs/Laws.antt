-- The lemmas of this crate that crates above may cite.
pub use Rattle.answer_laws.proofs.Alike.{numbers_alike}
pub use Rattle.answer_laws.proofs.Codes.{graphs_renumbered, weights_same}
pub use Rattle.answer_laws.proofs.Refusals.{code_refusals_agree, graph_is_not_refused}
pub use Rattle.answer_laws.proofs.SameCharged.{charged_alike}
pub use Rattle.answer_laws.proofs.Trees.{loop_refusals_agree, tree_is_not_refused, trees_agree}
