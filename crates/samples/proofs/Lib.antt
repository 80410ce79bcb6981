pub mod Scanning
pub mod Scripts
