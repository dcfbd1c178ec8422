-- bodies that go on
pub mod Bodies
-- statements without an escape
pub mod EscapeFreeRows
-- statements that hold one
pub mod EscapeRows
-- the arms of choices
pub mod ArmRows
-- the arms of READ and of arithmetic
pub mod PhraseRows
-- going along a list
pub mod ListRows
-- what holds of the parts of a statement
pub mod PartRows
-- the turns of a loop
pub mod LoopPartRows
-- The rests of a program by place: the statements from there to the end of their list, and where
-- control goes on behind them.
pub mod continuations_lemmas
