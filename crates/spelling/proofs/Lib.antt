-- Why a spelling reads back (Lexemes, Writable, ReadsBack), and why what is written is the spelling (Appends, Appending, Putting, Nodes, Whole).
pub mod Lexemes
pub mod Writable
pub mod ReadsBack
pub mod Appends
pub mod Appending
pub mod Putting
pub mod Nodes
pub mod Whole
