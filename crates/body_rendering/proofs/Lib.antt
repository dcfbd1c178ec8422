-- the numbers of labels
pub mod LeafRows
-- lists of statements, and the arms of choices
pub mod BodyRows
-- what is written of pieces and ends
pub mod PieceRows
-- what is written of a procedure
pub mod ProcedureRows
-- The program's own statements as they stand in a structured program: each PERFORM of paragraphs
-- names its procedure, and empty arms are written by `statement_builders::arms`.
pub mod own_statements_lemmas
