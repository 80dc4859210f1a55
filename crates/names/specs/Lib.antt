-- A table of names.
pub mod Hash
pub mod Table
pub mod Passes
pub mod Canonical
