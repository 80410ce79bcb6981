-- Read in this order: Words, Cleared, Laws.
pub mod Words
pub mod Cleared
pub mod Laws
