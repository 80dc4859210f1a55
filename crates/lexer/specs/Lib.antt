-- What tokens and names are, over the text.
pub mod Spelling
pub mod Places
pub mod Tokens
pub mod Ahead
pub mod Left
pub mod Asks
