-- Where a free flow path of a range's level comes to a PERFORM, a reached node of the range performs that range.
pub mod CallsReached
-- An order in which each range is performed by a path of an earlier one is one in which a kept node of an earlier one performs it.
pub mod CalledEarlier
-- The rules lose no PERFORM.
pub mod CallsKept
-- Each procedure of the closed graphs is performed by an earlier one, as its range was.
pub mod PerformedProcedures
