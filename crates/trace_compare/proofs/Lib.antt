-- two runs, and where they differ
pub mod DifferingLemmas
-- a program and what behaves as it does
pub mod ResultLemmas
-- what is next of the two
pub mod NextLemmas
-- what is known of two runs, by what they have shown so far
pub mod VerdictLemmas
-- events, and ways to end
pub mod EventLemmas
-- one of two programs that run beside each other
pub mod SideLemmas
-- both, step by step
pub mod PairLemmas
-- what comes of comparing two programs
pub mod ComparingLemmas
