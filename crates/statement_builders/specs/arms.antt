-- where the procedures of ranges are
pub mod Placing
-- what becomes of empty arms
pub mod EmptyArms
-- statements with arms, by what their arms hold
pub mod Choosing
-- what is written of statements
pub mod Written
