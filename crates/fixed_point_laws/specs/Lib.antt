-- What parts are called in a result, and again in what that is restructured to.
pub mod Names
-- How the loops of programs turn.
pub mod Turning
-- How many arms the choices of procedures have.
pub mod Counting
-- The table of cells tells how many arms their choices have.
pub mod Tables
-- COBOL's choices choose again as they do.
pub mod Choices
-- What the levels of a structured program perform.
pub mod Levels
-- Which paragraphs of a result flow paths enter.
pub mod Entering
-- In which order the procedures of a structured program come.
pub mod Ordering
-- What restructuring a result adds: nothing.
pub mod Adding
-- What the procedures of a result are called again.
pub mod Placing
-- No flow path of a structured program comes to a fault.
pub mod Faultless
-- How many ranges a structured program names.
pub mod Ranges
-- How many tokens a program is printed as.
pub mod Tokens
-- A program of one STOP RUN, which comes again.
pub mod Example
-- What a program is split into is split into itself.
pub mod Splitting
-- Splitting a result passes no limit.
pub mod Limits
-- The fixed point, of programs that are read.
pub mod Results
