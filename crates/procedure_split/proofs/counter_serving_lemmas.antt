-- What all rules keep of cells.
pub mod Kept
-- What the table has of a counter.
pub mod Served
