-- The items for the cells of ranges.
pub mod Items
-- What split programs declare.
pub mod Laws
