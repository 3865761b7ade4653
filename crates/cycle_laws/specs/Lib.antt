pub mod Passes
pub mod Charged
pub mod LeastLaws
pub mod Met
