-- A machine of words, and that it does what the meaning says.
pub mod Machine
pub mod Lowering
pub mod Sizes
pub mod Pooling
pub mod Borrows
pub mod Fitting
pub mod Says
pub mod Outputs
