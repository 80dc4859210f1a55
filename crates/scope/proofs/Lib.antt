pub mod LogWords
pub mod JoinWords
pub mod LoanWords
pub mod SlotWords
