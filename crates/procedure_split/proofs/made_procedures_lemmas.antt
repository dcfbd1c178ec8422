-- statements that leave no section are seen alike
pub mod Alike
-- what is written leaves no section
pub mod Stays
-- the closed graphs of a plan
pub mod Plans
-- lists with an item for each range
pub mod Rows
-- the paragraphs are what is written
pub mod Making
