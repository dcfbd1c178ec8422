-- trees that are joined
pub mod JoinedRows
-- the labels on which rules are to be tried, as graphs change
pub mod CandidateRows
-- sets of such labels
pub mod SetRows
-- what the rules make of both
pub mod ReduceRows
-- the steps of the rules
pub mod StepRows
-- how many items the steps add
pub mod RoomRows
-- the one node that is left
pub mod ShapeRows
-- Exits: a node with a jump to itself, whose other live leaves have several targets, becomes a
-- loop, and then a choice of its targets.
pub mod exit_rule_lemmas
-- How deep the statements of a tree nest as they are written.
pub mod written_nesting_lemmas
