-- Which fault counts.
pub mod Fault
-- Clauses by their kind.
pub mod Clause
-- What a draft says of its entry by itself.
pub mod Base
-- Where an entry is.
pub mod Standing
-- Whether a literal fits an item.
pub mod Literal
-- The rules on levels, pictures, signs and repetitions.
pub mod Item
-- Usages, which groups hand down, and the rules on them.
pub mod Usage
-- The rules on VALUE.
pub mod Value
-- What an entry redefines.
pub mod Redefining
-- What entries are judged by, in tables.
pub mod Tables
-- The rules on an entry.
pub mod Rule
-- The rules on files.
pub mod File
-- The rules on files, by their names alone.
pub mod FileNames
-- What drafts declare, and their first fault.
pub mod Declaring
