-- Graphs that a program is lowered to have arms.
pub mod Graphs
