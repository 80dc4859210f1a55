-- What is promised of accepted programs.
pub mod Promise
