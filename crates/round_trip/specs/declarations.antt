-- Programs whose names may be names, and whose values are literals.
pub mod Named
-- What divisions declare with no fault.
pub mod Laws
-- The text that a picture is printed as is read back as that picture.
pub mod printed_pictures
-- Drafts of a program's files and entries declare exactly these, where they keep the rules.
pub mod printed_declarations
-- With entries of whole numbers after its own a program keeps its rules, and each name its item.
pub mod added_entries
-- Items that are named by the next free numbers may be added to a program.
pub mod fresh_items
