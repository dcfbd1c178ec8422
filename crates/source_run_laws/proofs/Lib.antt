-- Sources that are run show what nested statements mean.
pub mod SourceLemmas
-- So do calls that run a source.
pub mod AskLemmas
-- A program without a fault of flow meets none as it runs.
pub mod FaultlessLemmas
-- A source and its result are never told to differ.
pub mod ComparisonLemmas
