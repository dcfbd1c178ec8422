-- Which terms have room where they are printed.
pub mod Room
-- Which values may be moved.
pub mod Move
-- The tests.
pub mod Own
-- What holds of them.
pub mod Laws
