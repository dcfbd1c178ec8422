-- the names of a generated program are words
pub mod NameLemmas
-- one more group
pub mod GroupLemmas
-- items that perform nothing, and those of the first paragraph
pub mod QuietLemmas
-- the items of generated programs
pub mod FlatLemmas
-- flow paths over such items come to no fault
pub mod PathLemmas
-- the ranges that generated programs name
pub mod RangeLemmas
