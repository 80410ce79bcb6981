-- Scripts and their lists, in reading order.
pub mod Trees
pub mod Names
pub mod Scripts
pub mod Form
pub mod Decoder
pub mod Forms
pub mod Parts
pub mod Held
pub mod Emits
pub mod OpenBlocks
