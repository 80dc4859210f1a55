-- What is counted.
pub mod Counts
