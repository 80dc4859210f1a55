-- The reader as a machine: its symbols, its steps, its run; and what they are in words.
pub mod Symbol
pub mod Lists
pub mod Reader
pub mod Steps
pub mod Tokens
pub mod Stack
pub mod Growth
pub mod Machine
pub mod Answer
