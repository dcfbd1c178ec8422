-- In reading order.
-- what a test of one word tells
pub mod WordsLemmas
-- what was read piece by piece
pub mod ReadingLemmas
-- what goes to the notes, and what is written
pub mod WritingLemmas
-- how long the bytes are that are read, or refused
pub mod LengthLemmas
-- what is made for an ask
pub mod MadeLemmas
-- how the parts of a call make its end
pub mod EndLemmas
-- how a call that runs a source ends
pub mod RunLemmas
-- a device fault that is told is one of a device
pub mod DeviceLemmas
-- how a call that compares two programs ends
pub mod CompareLemmas
-- which words are of an ask
pub mod AskLemmas
-- what follows of how a call ends
pub mod LawLemmas
-- at most one end of a run is due, and it comes
pub mod RunLawLemmas
-- the same over files
pub mod FilesLawLemmas
-- what a run leaves of its bench, by its status
pub mod BenchLawLemmas
-- at most one answer is due to two programs that are compared, and it comes
pub mod CompareLawLemmas
-- what was written is written again
pub mod AgainLawLemmas
