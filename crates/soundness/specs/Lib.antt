-- What the theorems of this crate say.
pub mod Numbers
pub mod Trees
pub mod Borrows
pub mod Invariant
pub mod Frames
pub mod Preserved
pub mod References
pub mod Counterexamples
