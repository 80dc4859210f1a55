-- Declarations: heads of functions, sizes of data, and what is asked besides bodies.
pub mod Index
pub mod Rows
pub mod Heads
pub mod Collect
pub mod Steps
pub mod View
pub mod Declares
pub mod Source
pub mod Fit
pub mod Collected
pub mod Lent
pub mod Tables
pub mod Sizes
pub mod Known
pub mod Settled
pub mod Rest
pub mod Asked
