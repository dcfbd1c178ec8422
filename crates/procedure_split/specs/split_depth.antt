-- arms that choices have
pub mod Arms
-- how deep a split program nests
pub mod Laws
