-- The spelling of scripts, in reading order.
pub mod Spelling
pub mod Buffers
pub mod Parts
