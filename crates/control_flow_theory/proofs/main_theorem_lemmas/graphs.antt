-- The graphs of a lowered program: their family is the lowered one, and their jumps are to their nodes.
pub mod LoweredGraphs
-- The graphs of a lowered program are a family: each range performs later ones alone, and names its own cells.
pub mod LaterCalls
-- The graphs of a lowered program can be written, and so can what closing leaves of them.
pub mod LoweredStand
-- What lowering makes of a source whose every part is so is so in every part.
pub mod EachLowered
-- The cells that lowered nodes name are counters of loops by TIMES.
pub mod NamedCells
-- The counter of a small program.
pub mod NamedCellsExample
-- How large the numbers are that the rules put into cells: no larger than the number of a range's nodes, and one more.
pub mod Bounds
-- The counters of a range's kept loops are numbered apart, and listed.
pub mod Numbering
-- No rule changes how many arms a choice has.
pub mod ArmCounts
-- what the rules make of the arms of a choice
pub mod Becoming
-- The rules lose no choice by a cell.
pub mod ChoicesKept
-- What a graph on the way has of cells and choices, the closed one has.
pub mod CellsKept
-- A choice by a cell stands in statements, and how many arms the first one has.
pub mod Choosing
-- What is so of each choice by a cell.
pub mod OneCount
-- All choices of a closed graph by one cell have equally many arms.
pub mod OneCountKept
