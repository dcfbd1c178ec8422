-- What is wrong with how operands are used in statements.
pub mod Use
-- Names of files, records and procedures.
pub mod Name
-- All parts together, and the whole division.
pub mod Whole
-- What holds of it.
pub mod Laws
-- How references, operands and arithmetic expressions are spelled: a form for each production.
pub mod expr_forms
-- How conditions are spelled, abbreviated ones too: a form for each production.
pub mod cond_forms
-- How statements, sentences, paragraphs and sections are spelled, over open forms of their parts.
pub mod stmt_forms
-- How the divisions before the PROCEDURE DIVISION are spelled, over an open form of status items.
pub mod data_forms
-- What the limit on nested statements does to what is read of them.
pub mod stmt_levels
