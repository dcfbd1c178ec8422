-- Pictures that are read.
pub mod Pictures
-- Clauses that break no rule.
pub mod Entries
-- Entries that break none.
pub mod Kept
-- Entries one behind the other.
pub mod Sections
-- Files and FDs.
pub mod Groups
-- Programs that can be printed.
pub mod Printable
-- What is declared.
pub mod Declared
-- What is printed of it.
pub mod ReadBack
-- The text that a picture is printed as is read back as that picture.
pub mod printed_pictures_lemmas
-- Drafts of a program's files and entries declare exactly these, where they keep the rules.
pub mod printed_declarations_lemmas
-- With entries of whole numbers behind its own a program keeps its rules, and each name its item.
pub mod added_entries_lemmas
-- Items that are named by the next free numbers may be added to a program.
pub mod fresh_items_lemmas
