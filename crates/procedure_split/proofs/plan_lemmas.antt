-- the table of returning ranges, as it grows
pub mod Tabling
-- in the order each number stands, before those that it calls
pub mod Ordering
-- in a program that isn't faulty no range performs itself
pub mod Layers
-- the ranges of a summary are apart
pub mod Apart
-- each stands before those that it calls
pub mod Numbers
-- what stands in an order by paths is entered, and what is entered stands in it
pub mod Entering
-- the plan by a summary is as flow paths ask
pub mod ByPaths
-- COBOL programs that aren't faulty are planned as flow paths ask
pub mod CobolPlans
