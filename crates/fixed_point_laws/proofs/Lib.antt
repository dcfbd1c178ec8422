-- What parts are called, once and again.
pub mod NameLemmas
-- What sets and steps each VARYING does something.
pub mod TurningLemmas
-- How many arms choices have.
pub mod CountingLemmas
-- The table of cells tells it.
pub mod TableLemmas
-- Choices choose again.
pub mod ChoiceLemmas
-- What levels of a structured program come to.
pub mod LevelLemmas
-- Each paragraph of a result is entered.
pub mod EnteringLemmas
-- Numbers that call larger ones alone stand as they are.
pub mod OrderLemmas
-- So do the ranges of a plan.
pub mod OrderingLemmas
-- Nothing is added.
pub mod AddingLemmas
-- Procedures are called as they are.
pub mod PlacingLemmas
-- Structured programs aren't faulty.
pub mod FaultlessLemmas
-- They name few ranges.
pub mod RangeLemmas
-- Each statement is a token at least.
pub mod TokenLemmas
-- STOP RUN comes again.
pub mod ExampleLemmas
-- What is split is written again as it was.
pub mod AgainLemmas
-- It is split into itself.
pub mod SplittingLemmas
-- Graphs of which nothing need be made.
pub mod HavingLemmas
-- No limit is passed.
pub mod LimitLemmas
-- Of programs that are read.
pub mod ResultLemmas
