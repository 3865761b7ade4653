pub mod WorstRanges
