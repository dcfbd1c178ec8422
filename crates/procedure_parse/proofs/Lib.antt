mod DivisionEnds
-- Reads statements to any level, over any readers of operands, references, conditions and names
-- (`Parts`).
pub mod statements_lemmas
