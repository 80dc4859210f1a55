pub mod Log
pub mod Loans
pub mod Slots
