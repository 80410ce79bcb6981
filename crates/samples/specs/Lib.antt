-- The worked samples, in reading order.
pub mod Scripts
pub mod Samples
