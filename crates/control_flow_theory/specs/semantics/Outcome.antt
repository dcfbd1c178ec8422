-- How a run stands, and what a part of a step comes to.
use Rattle.std.specs.Prelude.{ℕ, List}
use Rattle.control_flow_theory.specs.runs.Run as runs

-- an event is whatever is seen from outside; the theory never looks inside
abbrev pub Event : Type 0
Event = List ℕ

-- what a run showed, in order
abbrev pub Trace : Type 0
Trace = List Event

-- how a run stops: normally, or by a fault of the data
pub data How : Type 0 where
  Normally : How
  Abend : (kind : ℕ) → How

-- why control can't go on
pub data FlowFault : Type 0 where
  Overlap : (paragraph : ℕ) → FlowFault
  Reentry : (paragraph : ℕ) → FlowFault

-- what a run comes to: it stops, and leaves this; it met a fault of its flow; it returned from the
-- range in which it began;
-- or it was lost at a place where no run can be
pub data Ending (Left : Type 0) : Type 0 where
  Stopped : (how : How) → (left : Left) → Ending Left
  Faulted : (fault : FlowFault) → Ending Left
  Returned : (left : Left) → Ending Left
  Lost : Ending Left

-- a run of a program: what it showed, and how it stands
abbrev pub Run : Type 0 → Type 0
Run Left = runs.Run Event (Ending Left)

-- a run of a program is still going, or came to an ending
abbrev pub Standing : Type 0 → Type 0
Standing Left = runs.Standing (Ending Left)

-- a part of a step gives a value, with what it showed and the memory after it, or ends the run
pub data Tried (Memory Value : Type 0) : Type 0 where
  Got : (trace : Trace) → (value : Value) → (memory : Memory) → Tried Memory Value
  Ends : (trace : Trace) → (kind : ℕ) → (memory : Memory) → Tried Memory Value
