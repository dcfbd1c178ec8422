-- the labels of nodes rise
pub mod Within
-- what a graph has at the labels of a statement
pub mod Turns
-- rests that are added
pub mod Adding
-- continuations in which a paragraph's end is another
pub mod Leaves
-- rests of a list, one statement further
pub mod Steps
-- rests of arms
pub mod ArmContinuations
-- rests of the bodies of loops
pub mod LoopContinuations
-- where sentences begin
pub mod Begins
-- begins, one sentence back
pub mod BeginSteps
-- rests of a paragraph
pub mod ParagraphContinuations
-- rests of paragraphs
pub mod ProgramContinuations
