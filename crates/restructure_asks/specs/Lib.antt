-- In reading order.
-- what the words ask
pub mod Ask
-- how a call ended, and why an ask isn't done
pub mod Status
-- the kinds of what isn't in the subset
pub mod Kind
pub mod Refusal
-- what is written
pub mod Texts
-- what is due to an ask, whatever the outside does
pub mod Answer
-- what is read and what is written
pub mod Reading
pub mod Writing
-- how a call that runs a source ends
pub mod Running
-- how a call that compares two programs ends
pub mod Comparing
-- how a call of the top call ends
pub mod Tool
-- how a call of the program ends
pub mod Program
-- what follows of these
pub mod Laws
