-- With more units a structured program shows more.
pub mod Units
-- Two meanings are tied where each run of the first stands between two runs of the second.
pub mod Pacing
-- Tied meanings are the same behaviour.
pub mod Tying
-- The source machine and the recursion keep pace on a structured program.
pub mod Agreement
-- A structural run goes on or stops, and so a structured program meets no fault of its flow.
pub mod Faultless
-- In a structured program control never passes from the end of one paragraph to the next.
pub mod NoFallThrough
