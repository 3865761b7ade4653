-- The lemmas of this crate that crates above may cite.
pub use Rattle.power_model.proofs.PriceLaws.{cycles-price, held-price, one_more, start-price}
