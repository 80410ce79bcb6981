pub mod Bitwise
pub mod Wraps
pub mod Keeps
