-- The graphs as lists of nodes.
pub mod graphs
-- What is performed, by paths, in graphs and in procedures.
pub mod calls
-- What the rules make of statements that can be written can be written: each choice by a cell stands where the cell isn't zero.
pub mod StandKept
-- The whole chain.
pub mod Chain
-- For any parts there is a structured result of the same behaviour.
pub mod SomeResult
-- A plan of one small program.
pub mod PlanExample
-- The premises in records, and that they can be met.
pub mod Whole
