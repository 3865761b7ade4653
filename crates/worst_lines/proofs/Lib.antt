pub mod TextLines
pub mod LineLaws
pub mod SortLaws
