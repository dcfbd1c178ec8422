-- Places that are named are among the items, and literals name none.
pub mod Within
-- Programs.
pub mod Proper
