-- What is next of two programs that run beside each other.
use Rattle.std.specs.Prelude.{ℕ, suc, ◌≡◌, ◌⊎◌, ◌<◌, ◌&&◌, not, nat_lt, Bool, true, false, if◌then◌else◌, [], ◌∷◌, Option, Some, None}
use Rattle.std.specs.Str.{bytes_eq}
use Rattle.control_flow_theory.specs.semantics.Outcome.{Trace}
use Rattle.trace_compare.specs.declared.compared.Compared.TheVariants as compared
use Rattle.trace_compare.specs.declared.next.Decision.{Decision}
use Rattle.trace_compare.specs.declared.next.Decision.TheVariants as next
use Rattle.trace_compare.specs.Differing.{Way, answer_from, way_eq}

-- whether there are some events
abbrev pub are_some : Trace → Bool
are_some [] = false
are_some (event ∷ events) = true

-- how many events at the front of these are the same
abbrev pub front_of : (first second : Trace) → ℕ
front_of [] second = 0
front_of (event ∷ first) [] = 0
front_of (event ∷ first) (next ∷ second) =
    if bytes_eq event next then suc (front_of first second) else 0

-- ---- what is next

-- whether a program that ended so, or goes on, can make one more of so many steps
abbrev pub may_step : Option Way → ℕ → Bool
may_step None left = nat_lt 0 left
may_step (Some way) left = false

-- what is next where the other program has one more event
abbrev pub behind_ended : Option Way → Decision
behind_ended None = next.Budget
behind_ended (Some way) = next.Differ

-- what is next where neither has one more event
abbrev pub both_without : (first second : Option Way) → Decision
both_without (Some one) (Some other) = if way_eq one other then next.Same else next.Differ
both_without None second = next.Budget
both_without (Some one) None = next.Budget

-- what is next where neither needs one more step, or can make it
abbrev pub settled : (first : Trace) → Option Way → (second : Trace) → Option Way → Decision
settled [] one [] other = both_without one other
settled [] one (event ∷ second) other = behind_ended one
settled (event ∷ first) one [] other = behind_ended other
settled (event ∷ first) one (following ∷ second) other = next.Differ

-- what is next, by the events of each that aren't compared, its end and the steps that it may make
abbrev pub next_of : (first : Trace) → Option Way → ℕ → (second : Trace) → Option Way → ℕ → Decision
next_of first one left second other left_other =
    if not (are_some first) && may_step one left then next.First
    else if not (are_some second) && may_step other left_other then next.Second
    else settled first one second other

-- ---- what that means

-- the program shows no more within its steps, and hasn't ended
abbrev pub IsOut : Trace → Option Way → ℕ → Type 0
IsOut events ended left = (events ≡ []) × (ended ≡ None) × (left ≡ 0)

-- what is next is right, where the next events of both differ, if both have one: a step is made
-- where it is wanted and can be made, and otherwise the answer is known
abbrev pub IsNext : Decision → (first : Trace) → Option Way → ℕ → (second : Trace) → Option Way → ℕ →
    Type 0
IsNext next.First first one left second other left_other =
    (first ≡ []) × (one ≡ None) × (0 < left)
IsNext next.Second first one left second other left_other =
    (second ≡ []) × (other ≡ None) × (0 < left_other)
IsNext next.Same first one left second other left_other =
    (count : ℕ) → answer_from count first one second other ≡ compared.Same count
IsNext next.Differ first one left second other left_other = front_of first second ≡ 0 →
    (count : ℕ) → answer_from count first one second other ≡ compared.Differ (suc count)
IsNext next.Budget first one left second other left_other =
    IsOut first one left ⊎ IsOut second other left_other
