-- what is still to do, past statements and sentences
pub mod FrameLemmas
-- what holds of each part of a program holds of what is still to do
pub mod Standing
-- what passes the test of the tree is plain
pub mod PlainLemmas
-- what MOVE and ADD of VARYING do
pub mod HeldLemmas
-- zero is zero
pub mod AlwaysLemmas
-- programs in which no word on an added item stands
pub mod OwnLemmas
-- what the head of the rest comes to
pub mod WayLemmas
-- what a statement comes to is what control says of it
pub mod StatementLemmas
-- statements on files stand in no plain program
pub mod FilingLemmas
-- what a trace displays
pub mod DisplayLemmas
-- what a statement on files does is what control says of it
pub mod FiledLemmas
-- READ, with and without arms
pub mod ReadLemmas
-- a step over devices that tell their files
pub mod OverLemmas
-- the machine's parts as those of the source machine
pub mod MachineLemmas
-- what a run has come to so far
pub mod RunningLemmas
-- the same over devices that tell their files
pub mod OverRunLemmas
-- what a step shows, event by event
pub mod EventLemmas
-- what a run leaves of the devices of its bench
pub mod FallLemmas
-- where no file is open, nothing is left to close
pub mod ShutLemmas
-- a run whose events are kept
pub mod TrackLemmas
pub mod TurnLemmas
-- What a run of a structured program shows is what its nested statements show.
pub mod structured_runs_lemmas
