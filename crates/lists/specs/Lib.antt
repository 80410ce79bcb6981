-- Lists that are written into.
pub mod Overlay
