-- What each rule keeps, all rules in their order keep.
pub mod InOrder
-- The rules keep it that every part is so.
pub mod EachKept
-- The rules lose no part: what stands in a graph stands in what they make of it.
pub mod SomeKept
-- Where a node's live leaves have several targets, its exits are two or more.
pub mod TwoExits
-- Exits and the dispatch, as functions of a graph, are in their relations.
pub mod Closes
-- A graph whose jumps are to its nodes stays one: after Exits, and after the dispatch.
pub mod StayClosed
-- A graph whose jumps are to its nodes stays one, whatever rule applies.
pub mod RulesStayClosed
-- Join is done always: each tree of a graph that the rules reduce is as Join leaves it.
pub mod StayJoined
-- A family whose graphs are closed by all rules in their order does what it did.
pub mod AllClosed
-- The rules end: where none applies one node is left, or the dispatch makes one; it has no jump.
pub mod ClosedEnding
-- What a rule keeps of every walk it keeps of the walk of the whole program.
pub mod Mains
-- The premises of the rules' laws hold of a worked program.
pub mod Examples
