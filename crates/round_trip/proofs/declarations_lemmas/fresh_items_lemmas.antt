-- Words that begin as the stems do.
pub mod Stems
-- Numbers of one stem.
pub mod Numbers
-- The names.
pub mod Names
-- The words of a program.
pub mod Program
