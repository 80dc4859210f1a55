-- Numbers while a program runs, and what is shown.
pub mod Memory
pub mod Meets
pub mod Keeps
pub mod Grows
pub mod Reads
pub mod Small
