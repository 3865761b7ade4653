pub mod AccessLaws
pub mod CodeLaws
pub mod Laws
pub mod PlaceLaws
