-- The proofs, each file or folder after those that it rests on.
pub mod Basics
pub mod fuel
pub mod numbers
pub mod memory
pub mod loans
pub mod invariant
pub mod statics
pub mod frames
pub mod Safety
pub mod drops
pub mod exprs
pub mod matches
pub mod stmts
pub mod calls
pub mod Theorems
pub mod Counterexamples
