pub mod Registers
pub mod Chunks
pub mod Zeros
pub mod ByteLayout
