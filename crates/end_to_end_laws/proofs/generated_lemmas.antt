-- The names and numbers of generated programs.
pub mod Names
-- The entry of the counter.
pub mod Counter
-- They can be printed.
pub mod Printable
-- No name of a paragraph stands twice.
pub mod Different
-- Their paragraphs, by their names.
pub mod Procedures
-- What the paragraphs have in them.
pub mod Bodies
-- They are spelled.
pub mod Spelled
-- What is printed of a generated program has no more bytes and tokens than a source may have.
pub mod short_generated_lemmas
-- What is printed of a generated program reads to that very program.
pub mod readable_generated_lemmas
