-- The paths that control can take through a program, whatever its data, and the trails that show
-- a fault on one.
pub mod paths
-- Flow paths here and in the theory of control are the same.
pub mod machine_paths
-- A program's places, by number: what control does at each, whatever the data.
pub mod point_table
-- The ranges that the PERFORM statements of a program name.
pub mod perform_ranges
-- A program's places, numbered: the tree to a table.
pub mod numbering
-- A whole program's places, by number.
pub mod table_building
