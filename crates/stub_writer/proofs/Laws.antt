-- The lemmas of this crate that crates above may cite.
pub use Rattle.stub_writer.proofs.Reach.{jump_fits}
pub use Rattle.stub_writer.proofs.SiteLaws.{all_near}
