-- what is written of a body
pub mod Pieces
-- what is written of a procedure
pub mod Procedure
-- The program's own statements as they are in a structured program: each PERFORM of paragraphs
-- names its procedure, and empty arms are written by `statement_builders::arms`.
pub mod own_statements
