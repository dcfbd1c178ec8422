-- Statements with arms, by the lists that their arms hold, as they are in a structured program:
-- an empty list that is required holds CONTINUE, and other empty arms are left out.
pub mod arms
-- Words on cells as statements, conditions and choices by the items that stand for the cells.
pub mod item_words
