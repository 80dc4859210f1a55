-- The proofs, each file after those that it rests on.
pub mod Sums
pub mod Watch
pub mod Apart
pub mod Pointing
pub mod Steadies
pub mod Drops
pub mod Names
pub mod Exprs
pub mod Calls
pub mod Matches
pub mod Boxes
pub mod Writes
pub mod Stmts
pub mod Theorem
