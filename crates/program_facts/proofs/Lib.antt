-- Named programs: each item, file and paragraph that a program's statements name is there, its
-- numbers are numbers, and no list that is required is empty.
pub mod well_scoped_lemmas
-- Which statements can't complete, and lists that are cut behind them.
pub mod completion_lemmas
-- Whether a statement is one of the program's own, in which no word on an added item stands.
pub mod own_items_lemmas
