-- What Join, Inline and Loop do to a graph keeps what walks do.
pub mod RuleWalks
-- So do all rules, by the calls that apply them.
pub mod Applied
-- Graphs that are the same for each range of an order are the same family.
pub mod Agreeing
-- Which labels are come to from an entry, of finitely many that lead on.
pub mod Reachable
-- For each range there is a choice of exactly the nodes that are reached.
pub mod KeptNodes
-- A range has no more nodes than its program has tokens.
pub mod weights
-- The graphs of a plan are a sound family.
pub mod Plans
-- The graphs of a program's ranges are a sound family.
pub mod LoweredFamily
