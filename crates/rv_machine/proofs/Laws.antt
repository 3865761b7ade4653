-- The lemmas of this crate that crates above may cite.
pub use Rattle.rv_machine.proofs.CodeLaws.{code_stays, known_fixed}
