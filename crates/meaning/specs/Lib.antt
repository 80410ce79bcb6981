-- What scripts and their rewriting mean, in reading order.
pub mod Families
pub mod Machine
pub mod Rules
pub mod Rewriting
pub mod Places
pub mod Runs
pub mod Sessions
pub mod Confinement
pub mod RunLaws
pub mod FlowLaws
pub mod WellFormedness
pub mod Tolls
pub mod Structured
