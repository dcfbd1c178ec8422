-- Items for whole numbers, and programs with their entries.
pub mod Items
-- What they change.
pub mod Laws
-- What references stand for.
pub mod References
