pub mod Places
pub mod Peaks
pub mod Steps
