-- The paths that control can take through a program, whatever its data, and the trails that show
-- a fault on one.
pub mod paths_lemmas
-- Flow paths here and in the theory of control are the same.
pub mod machine_paths_lemmas
-- The ranges that the PERFORM statements of a program name.
pub mod perform_ranges_lemmas
-- A program's places, numbered: the tree to a table.
pub mod numbering_lemmas
-- A whole program's places, by number.
pub mod table_building_lemmas
