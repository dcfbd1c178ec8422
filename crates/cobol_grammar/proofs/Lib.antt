-- When a name is a word in capitals.
pub mod WordLemmas
-- The parts of statements are lawful.
pub mod PartLaws
-- A subject is compared as a side of a relation is.
pub mod SubjectLemmas
-- How references, operands and arithmetic expressions are spelled: a form for each production.
pub mod expr_forms_lemmas
-- How conditions are spelled, abbreviated ones too: a form for each production.
pub mod cond_forms_lemmas
-- How statements, sentences, paragraphs and sections are spelled, over open forms of their parts.
pub mod stmt_forms_lemmas
-- How the divisions before the PROCEDURE DIVISION are spelled, over an open form of status items.
pub mod data_forms_lemmas
-- What the limit on nested statements does to what is read of them.
pub mod stmt_levels_lemmas
