-- Lemmas for what writes lists.
pub mod Laws
