-- which parts of a source program may be written
pub mod Served
-- what may be written of a source may be written of its graphs
pub mod Laws
