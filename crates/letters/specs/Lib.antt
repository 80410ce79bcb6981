pub mod Classes
pub mod Keywords
pub mod Symbols
pub mod Numerals
pub mod Tokens
pub mod Texts
pub mod Scans
