-- Why the definitions of specs/ fit together, and lemmas for what reads, writes or runs a held program.
pub mod Prefix
pub mod Complete
pub mod Sound
pub mod Opens
pub mod Forms
pub mod Spelled
pub mod Appends
pub mod Placing
pub mod HeldRows
pub mod Emitting
