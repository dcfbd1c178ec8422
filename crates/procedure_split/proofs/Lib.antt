-- places of procedures, one after the other
pub mod PlaceRows
-- shaped ranges, one after the other
pub mod RowLemmas
-- paragraphs, one after the other
pub mod ParagraphRows
-- how many words and names there are
pub mod WordCounts
-- the ranges of a plan
pub mod Planning
-- what is written, by its parts
pub mod WrittenRows
-- The counters of graphs have items that serve.
pub mod counter_serving_lemmas
-- The graphs of a program's ranges, and the bodies that these are shaped to.
pub mod shaped_ranges_lemmas
-- The paragraphs made of shaped ranges are the program that the headline speaks of.
pub mod made_procedures_lemmas
-- What a program without a fault is split into is structured and behaves as the program.
pub mod split_behaviour_lemmas
-- What it is split into is structured as the tests of the tree tell it: no EXIT stands in it.
pub mod split_form_lemmas
-- How deep a program nests that is split, where choices have arms.
pub mod split_depth_lemmas
-- A program is split in one way: into one structured program, or past one limit, and not both.
pub mod one_split_lemmas
-- A program has one summary of its ranges.
pub mod one_summary_lemmas
-- The rules of restructuring keep the arms of choices.
pub mod kept_arms_lemmas
-- Lowering gives each choice of a graph its arms, where statements are as they are read.
pub mod lowered_arms_lemmas
-- A program written of shaped bodies nests no deeper than is judged of these bodies.
pub mod written_depth_lemmas
-- The plan of a program that isn't faulty, by the summary of its ranges: which ranges return, and
-- in which order they stand as procedures.
pub mod plan_lemmas
-- What a restructured program's report tells, and its lines.
pub mod report_lemmas
