-- What is answered for a division.
pub mod Answer
-- What is left of a form after its first parts.
pub mod Step
-- What a statement that holds others is made of, in boxes, and what is read of it before and
-- after what it holds, over any readers of operands, references, conditions and names (`Parts`).
pub mod drafts
