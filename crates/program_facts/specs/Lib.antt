-- Named programs: each item, file and paragraph that a program's statements name is there, its
-- numbers are numbers, and no list that is required is empty.
pub mod well_scoped
-- Programs whose counts are whole numbers: definitions alone.
pub mod whole_counts
-- How many terms the largest condition or expression of a program has, and the limit on them that
-- holds of the result.
pub mod term_counts
-- Which statements can't complete, and lists that are cut after them.
pub mod completion
-- Whether a statement is one of the program's own, without a word on an added item.
pub mod own_items
