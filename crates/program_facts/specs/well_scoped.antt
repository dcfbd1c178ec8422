-- Numbers, places, operands and expressions that are named.
pub mod Part
-- Conditions, arithmetic, choices and loops.
pub mod Beside
-- Statements, and programs.
pub mod Named
-- What holds of them.
pub mod Laws
