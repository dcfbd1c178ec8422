-- what a program declares and stores
pub mod Plan
-- what is still to do, as the theory of control has it
pub mod Frames
-- what holds of each part that is in a program
pub mod Standing
-- programs whose runs need no device
pub mod Plain
-- the same as a test of the tree
pub mod PlainTests
-- programs without a word on an added item
pub mod Own
-- statements on files
pub mod Filing
-- what the head of the rest comes to
pub mod NextStep
-- the machine as a state of the source machine
pub mod Machine
-- what a run comes to
pub mod Running
-- how far a run comes
pub mod Points
-- what a run leaves of the devices of its bench
pub mod Falling
-- steps and runs over devices that tell their files
pub mod Over
-- what a step shows, event by event
pub mod Events
-- What a run of a structured program shows is what its nested statements show.
pub mod structured_runs
