-- the items that a part names
pub mod Within
-- programs with items after their own
pub mod Widened
-- parts that name items of their own
pub mod Own
-- what is stated of them
pub mod Laws
-- items of level 01 after all others
pub mod Laying
