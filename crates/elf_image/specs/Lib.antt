pub mod View
pub mod Segment
pub mod Ascending
pub mod Table
