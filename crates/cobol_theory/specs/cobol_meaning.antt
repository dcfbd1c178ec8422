-- what the parts of a program do to what it stores and to the world
pub mod Acting
-- how a program runs, step by step and by its nested statements
pub mod Runs
-- two programs behave the same
pub mod Same
-- laws
pub mod Laws
