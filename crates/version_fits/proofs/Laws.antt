-- How long a draft is as it is printed, for the proofs of crates above.
pub use Rattle.version_fits.proofs.Printed.{printed_short, printed_shorter}
