-- numbers that stand once each, and their places
pub mod Places
-- cells at their places in the row
pub mod RowLemmas
-- the first choice by a cell
pub mod Chosen
-- each cell has one of the entries
pub mod Entered
-- what the rules write of cells may be written
pub mod Served
-- where no range stands twice
pub mod Once
-- one more item, and one more choice
pub mod HoldingLemmas
-- the places that are named are within the row
pub mod Within
-- what writing asks, range after range
pub mod Asked
