-- The instruction set.
pub mod Instr
pub mod Means
pub mod Slots
pub mod Words
