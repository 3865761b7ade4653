pub mod Drawn
pub mod Sketched
pub mod Program
