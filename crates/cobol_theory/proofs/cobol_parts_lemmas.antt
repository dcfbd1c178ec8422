-- statements that do nothing
pub mod Skips
-- the arms that choices give
pub mod Gives
-- programs that name their own items and paragraphs
pub mod Sources
-- no choice is without an arm
pub mod SomeArm
