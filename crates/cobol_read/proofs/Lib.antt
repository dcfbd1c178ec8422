-- The form of a whole program is lawful.
pub mod ProgramLaws
-- No token is left behind a program.
pub mod ProgramEnds
-- Each answer tells its cause, and each cause has one answer.
pub mod AnswerLemmas
-- A source is read one way.
pub mod OneWay
-- Uses of operands in statements, and names of files, records and procedures: each function does
-- what the definition of its name in `cobol_grammar` says.
pub mod operand_uses_lemmas
