-- Reads PERFORM up to the statements that it holds, over any readers of operands, references,
-- conditions and names (`Parts`).
pub mod perform
