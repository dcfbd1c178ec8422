-- Uses of operands and expressions.
pub mod Uses
-- The parts of statements.
pub mod Fit
-- What the printed tokens tell of procedures.
pub mod Told
-- A program that is read.
pub mod Joint
