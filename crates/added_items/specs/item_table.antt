-- the cells of all ranges in one row
pub mod Row
-- which item each of them has
pub mod Owners
-- the names of the items, and their entries
pub mod Naming
-- the table of cells
pub mod Tables
-- shaped ranges, as the theory has them
pub mod Seen
-- the numbers of items, beside the list of the cells that have them
pub mod Assignment
-- the numbers of items, by places of cells
pub mod Numbering
-- the first choice by each cell
pub mod Choices
-- what writing asks of cells
pub mod CellItem
-- what is stated of the table
pub mod Laws
