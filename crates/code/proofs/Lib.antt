pub mod RoundTrip
pub mod InWords
pub mod Filled
