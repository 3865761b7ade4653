mod Seen
mod Cases
mod Whole
mod Endings
