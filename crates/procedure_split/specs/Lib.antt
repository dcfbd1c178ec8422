-- the places of procedures
pub mod Placing
-- shaped ranges, as the theory has them
pub mod Rows
-- paragraphs of one sentence
pub mod Paragraphs
-- how many items of each kind are added
pub mod Counting
-- what is written of shaped ranges
pub mod Writing
-- the structured program of a program without a fault
pub mod Splitting
-- The counters of graphs have items that serve.
pub mod counter_serving
-- The graphs of a program's ranges, and the bodies that these are shaped to.
pub mod shaped_ranges
-- The paragraphs made of shaped ranges are the program that the headline speaks of.
pub mod made_procedures
-- What a program without a fault is split into is structured and behaves as the program.
pub mod split_behaviour
-- What it is split into is structured as the tests of the tree tell it: there is no EXIT in it.
pub mod split_form
-- How deep a program nests that is split, where choices have arms.
pub mod split_depth
-- A program is split in one way: into one structured program, or past one limit, and not both.
pub mod one_split
-- A program has one summary of its ranges.
pub mod one_summary
-- The rules of restructuring keep the arms of choices.
pub mod kept_arms
-- Lowering gives each choice of a graph its arms, where statements are as they are read.
pub mod lowered_arms
-- A program written of shaped bodies nests no deeper than is judged of these bodies.
pub mod written_depth
-- The plan of a program that isn't faulty, by the summary of its ranges: which ranges return, and
-- in which order they come as procedures.
pub mod plan
-- What a restructured program's report tells, and its lines.
pub mod report
