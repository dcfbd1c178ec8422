-- the labels on which rules are to be tried
pub mod Candidates
-- where the rules apply
pub mod Rules
-- a graph while the rules reduce it
pub mod Reducing
-- one step of the rules
pub mod Steps
-- a graph as one body
pub mod Shaping
-- Exits: a node with a jump to itself, whose other live leaves have several targets, becomes a
-- loop, and then a choice of its targets.
pub mod exit_rule
-- How deep the statements of a tree nest as they are written.
pub mod written_nesting
