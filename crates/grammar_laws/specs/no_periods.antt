-- Forms that take no period.
pub mod Plain
-- What statements take.
pub mod Laws
