-- What statements weigh: one each, and three a loop over statements.
pub mod Weights
-- What makers of forms give weighs no more than the tokens that they take.
pub mod Weighing
-- Statements that hold no others weigh no more than their tokens.
pub mod Simple
-- Nor do those that hold others.
pub mod Holding
-- Nor do paragraphs.
pub mod Paragraphs
-- A range has no more nodes than its program weighs.
pub mod NodeCounts
-- No range of a program that is read has as many nodes as a state item has numbers.
pub mod Few
