-- single steps, and what they come to
mod Steps
-- what an item of each statement does
mod Rows
-- calls and loops
mod Turning
-- branches
mod Branches
-- GO TO DEPENDING
mod Naming
-- statements, one after the other
mod Statements
-- sentences, one after the other
mod Sentences
-- what a trail is to come to, and when it is there
mod Meeting
-- from the start of one paragraph to the next
mod Legs
-- lemmas and hops, one after the other
mod Trails
-- A trail for a program that is faulty.
pub mod finding_lemmas
