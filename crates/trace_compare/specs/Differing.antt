-- What is compared of two runs, and at which event they differ.
use Rattle.std.specs.Prelude.{ℕ, suc, ◌≡◌, ◌≢◌, ◌<◌, ◌==◌, Bool, true, false, if◌then◌else◌, [], ◌∷◌, length, Option, Some, None, slice_get}
use Rattle.std.specs.Str.{bytes_eq}
use Rattle.control_flow_theory.specs.runs.Run.{Going, Over}
use Rattle.control_flow_theory.specs.semantics.Outcome.{Abend, Ending, Event, Faulted, FlowFault, How, Lost, Normally, Overlap, Reentry, Returned, Run, Standing, Stopped, Trace}
use Rattle.trace_compare.specs.declared.compared.Compared.{Compared}
use Rattle.trace_compare.specs.declared.compared.Compared.TheVariants as compared

-- ---- what is compared of a run

-- a way to end, whatever is left
abbrev pub Way : Type 0
Way = Ending (Unit {0})

-- the way of an ending, whatever it left
abbrev pub way_of : {Left : Type 0} → Ending Left → Way
way_of (Stopped how left) = Stopped how tt
way_of (Faulted fault) = Faulted fault
way_of (Returned left) = Returned tt
way_of Lost = Lost

-- the way in which a run ended; one that goes on has none
abbrev pub way_ended : {Left : Type 0} → Standing Left → Option Way
way_ended Going = None
way_ended (Over ending) = Some (way_of ending)

-- what is compared of a run: its events in order, and the way in which it ended, if it did
pub record Course : Type 0 where
  pub events : Trace
  pub ended : Option Way

-- what is compared of this run
abbrev pub course_of : {Left : Type 0} → Run Left → Course
course_of run = record { events = run.trace; ended = way_ended run.standing }

-- ---- where two runs differ

-- the run ended in this way, with so many events
abbrev pub EndsWith : Course → ℕ → Way → Type 0
EndsWith course count way = (length course.events ≡ count) × (course.ended ≡ Some way)

-- after so many events two runs part
pub data PartBehind (count : ℕ) (first second : Course) : Type 0 where
  -- both have a next event, and these differ
  OtherEvent : (one other : Event) → slice_get first.events count ≡ Some one →
      slice_get second.events count ≡ Some other → one ≢ other → PartBehind count first second
  -- the first has ended, and the second has a next event
  FirstEnded : (way : Way) (next : Event) → EndsWith first count way →
      slice_get second.events count ≡ Some next → PartBehind count first second
  -- the second has ended, and the first has a next event
  SecondEnded : (way : Way) (next : Event) → slice_get first.events count ≡ Some next →
      EndsWith second count way → PartBehind count first second
  -- both have ended, in different ways
  OtherWay : (one other : Way) → EndsWith first count one → EndsWith second count other →
      one ≢ other → PartBehind count first second

-- two runs differ at the event of that number: it is the least at which they part
pub record DifferAt (number : ℕ) (first second : Course) : Type 0 where
  -- how many events come before it
  pub before : ℕ
  -- events are counted from 1
  pub counted : number ≡ suc before
  -- after those the runs part
  pub part : PartBehind before first second
  -- and after fewer they don't
  pub least : (fewer : ℕ) → fewer < before → PartBehind fewer first second → ⊥

-- two runs ended in the same way, with the same events, so many
pub record SameWith (count : ℕ) (first second : Course) : Type 0 where
  pub way : Way
  -- the first ended in this way
  pub first_ended : EndsWith first count way
  -- and so did the second
  pub second_ended : EndsWith second count way
  pub same : first.events ≡ second.events

-- two runs, as far as they are known, aren't the same, and don't differ
pub record Undecided (first second : Course) : Type 0 where
  -- they aren't the same with any count of events
  pub unlike : (count : ℕ) → SameWith count first second → ⊥
  -- and differ at no event
  pub alike : (number : ℕ) → DifferAt number first second → ⊥

-- the answer is that of two runs
abbrev pub IsAnswer : Compared → Course → Course → Type 0
IsAnswer (compared.Same count) first second = SameWith count first second
IsAnswer (compared.Differ number) first second = DifferAt number first second
IsAnswer compared.Budget first second = Undecided first second
IsAnswer _ first second = ⊥

-- ---- the answer, computed

-- whether two ways to stop are the same
abbrev pub how_eq : How → How → Bool
how_eq Normally Normally = true
how_eq (Abend one) (Abend other) = one == other
how_eq Normally (Abend other) = false
how_eq (Abend one) Normally = false

-- whether two faults of flow are the same
abbrev pub fault_eq : FlowFault → FlowFault → Bool
fault_eq (Overlap one) (Overlap other) = one == other
fault_eq (Reentry one) (Reentry other) = one == other
fault_eq (Overlap one) (Reentry other) = false
fault_eq (Reentry one) (Overlap other) = false

-- whether two ways to end are the same
abbrev pub way_eq : Way → Way → Bool
way_eq (Stopped one left) (Stopped other left_other) = how_eq one other
way_eq (Faulted one) (Faulted other) = fault_eq one other
way_eq (Returned left) (Returned left_other) = true
way_eq Lost Lost = true
way_eq _ _ = false

-- the answer where both show no more, so many events being the same before
abbrev pub ends_from : ℕ → (first second : Option Way) → Compared
ends_from count (Some one) (Some other) =
    if way_eq one other then compared.Same count else compared.Differ (suc count)
ends_from count None second = compared.Budget
ends_from count (Some one) None = compared.Budget

-- the answer where one of them has a next event and the other one none
abbrev pub ahead_from : ℕ → Option Way → Compared
ahead_from count (Some way) = compared.Differ (suc count)
ahead_from count None = compared.Budget

-- the answer of what is left of two runs, so many events being the same before
abbrev pub answer_from : ℕ → (first : Trace) → Option Way → (second : Trace) → Option Way → Compared
answer_from count [] one [] other = ends_from count one other
answer_from count [] one (next ∷ second) other = ahead_from count one
answer_from count (next ∷ first) one [] other = ahead_from count other
answer_from count (event ∷ first) one (next ∷ second) other =
    if bytes_eq event next
    then answer_from (suc count) first one second other
    else compared.Differ (suc count)

-- the answer of two runs
abbrev pub answer_of : (first second : Course) → Compared
answer_of first second = answer_from 0 first.events first.ended second.events second.ended
