-- the cut as it is found
pub mod CutLemmas
-- one answer
pub mod PairLemmas
