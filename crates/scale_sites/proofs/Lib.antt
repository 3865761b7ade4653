mod Costing
pub mod OneExit
mod CounterLaws
mod SiteLaws
pub mod FormLaws
pub mod FirstMarks
pub mod Laws
