-- Flow paths, whatever the data, and the faults on them.
use Rattle.std.specs.Prelude.{ℕ, suc, ◌≡◌, Bool, true, false, if◌then◌else◌, ◌==◌, List, [], ◌∷◌, map, Option, Some, None, ◌⊎◌}
use Rattle.cob_tree.specs.declared.program.Range.{Range}
use Rattle.cob_tree.specs.declared.ending.FlowFault.{FlowFault}
use Rattle.cob_tree.specs.declared.ending.FlowFault.TheVariants.{Overlap, Reentry}
use Rattle.control_flow_theory.specs.language.Language.{Chooser, Program}
use Rattle.program_points.specs.paths.Step.{Point, start, Next, Ways, Calls, Stops, Ends, next, way_at, is_paragraph}

-- the range of the whole program, which has no exit
abbrev pub main_range : Range
main_range = record { entry = 0; exit = None }

-- the range from an entry to an exit
abbrev pub part : ℕ → ℕ → Range
part entry exit = record { entry = entry; exit = Some exit }

-- the range's exit is this paragraph
abbrev pub is_exit : Option ℕ → ℕ → Bool
is_exit None paragraph = false
is_exit (Some exit) paragraph = exit == paragraph

-- a return that is pending: the paragraph at whose end it is made, and where control goes on then
pub record Pending : Type 0 where
  pub end : ℕ
  -- where control goes on then
  pub back : Point

-- a return that is pending at this end, and goes back there
abbrev pub returning : ℕ → Point → Pending
returning end back = record { end = end; back = back }

-- the exit of the level that runs, where this range alone was pending to begin with
abbrev pub top_exit : Range → List Pending → Option ℕ
top_exit range [] = range.exit
top_exit range (top ∷ others) = Some top.end

-- A flow step without faults: a PERFORM always pushes, and at a paragraph's end only the return
-- that was made last is looked at. The range is the one that was pending to begin with; its own
-- return ends the path.
pub data FreeStep (never_first : Chooser → Bool) (program : Program) (range : Range) : Point →
    List Pending → Point → List Pending → Type 0 where
  goes : (from to : Point) (pending : List Pending) (ways : List (Option Point)) (number : ℕ) →
      next never_first program from ≡ Ways ways → way_at ways number ≡ Some to →
      FreeStep never_first program range from pending to pending
  calls : (from after : Point) (pending : List Pending) (entry exit : ℕ) →
      next never_first program from ≡ Calls entry exit after →
      FreeStep never_first program range from pending (start program entry) (returning exit
      after ∷ pending)
  returns : (from back : Point) (pending : List Pending) (exit : ℕ) →
      next never_first program from ≡ Ends exit →
      FreeStep never_first program range from (returning exit back ∷ pending) back pending
  falls : (from : Point) (pending : List Pending) (paragraph : ℕ) →
      next never_first program from ≡ Ends paragraph →
      is_exit (top_exit range pending) paragraph ≡ false →
      is_paragraph program (suc paragraph) ≡ true →
      FreeStep never_first program range from pending (start program (suc paragraph)) pending

-- a free flow path comes here from the range's entry, with the range alone pending
pub data FreePath (never_first : Chooser → Bool) (program : Program) (range : Range) : Point →
    List Pending → Type 0 where
  begins : FreePath never_first program range (start program range.entry) []
  steps : (from to : Point) (before after : List Pending) →
      FreePath never_first program range from before →
      FreeStep never_first program range from before to after →
      FreePath never_first program range to after

-- one of these is the end
abbrev pub is_among : ℕ → List ℕ → Bool
is_among end [] = false
is_among end (other ∷ ends) = if other == end then true else is_among end ends

-- the fault of a step, where these are the pending ends, the last made first
abbrev pub fault_of : Next → List ℕ → Option FlowFault
fault_of (Ways ways) ends = None
fault_of (Calls entry exit after) ends = if is_among exit ends then Some (Reentry exit) else None
fault_of Stops ends = None
fault_of (Ends paragraph) [] = None
fault_of (Ends paragraph) (top ∷ others) = if top == paragraph then None
    else (if is_among paragraph others then Some (Overlap paragraph) else None)

-- the ends of the returns that are pending
abbrev pub ends_of : List Pending → List ℕ
ends_of pending = map (λ (return : Pending). return.end) pending

-- a flow step is a free one that isn't a fault
pub data FlowPath (never_first : Chooser → Bool) (program : Program) : Point → List Pending →
    Type 0 where
  begins_flow : FlowPath never_first program (start program 0) []
  steps_flow : (from to : Point) (before after : List Pending) →
      FlowPath never_first program from before →
      fault_of (next never_first program from) (ends_of before) ≡ None →
      FreeStep never_first program main_range from before to after →
      FlowPath never_first program to after

-- some flow path ends in a fault
pub record IsFaulty (never_first : Chooser → Bool) (program : Program) : Type 0 where
  pub point : Point
  pub pending : List Pending
  pub fault : FlowFault
  -- a flow path comes to this point
  pub path : FlowPath never_first program point pending
  -- where a step is this fault
  pub meets : fault_of (next never_first program point) (ends_of pending) ≡ Some fault

-- What a summary tells of a program, by paths.

-- the range's level performs this range
abbrev pub CallsIn : (Chooser → Bool) → Program → Range → Range → Type 0
CallsIn never_first program range called = (point : Point) × (entry : ℕ) × (exit : ℕ)
    × (after : Point) ×
    FreePath never_first program range point []
    × (next never_first program point ≡ Calls entry exit after) × (called ≡ part entry exit)

-- the range's level passes this paragraph's end, without a return
abbrev pub EndsIn : (Chooser → Bool) → Program → Range → ℕ → Type 0
EndsIn never_first program range paragraph = (point : Point) ×
    FreePath never_first program range point [] × (next never_first program point ≡ Ends paragraph)
    × (is_exit range.exit paragraph ≡ false)

-- the range's level comes to its return
abbrev pub ReturnsIn : (Chooser → Bool) → Program → Range → Type 0
ReturnsIn never_first program range = (point : Point) × (exit : ℕ) ×
    FreePath never_first program range point [] × (next never_first program point ≡ Ends exit)
    × (is_exit range.exit exit ≡ true)

-- the range is main, or some free flow path performs it
abbrev pub IsRange : (Chooser → Bool) → Program → Range → Type 0
IsRange never_first program range = (range ≡ main_range) ⊎ ((point : Point)
    × (pending : List Pending) × (entry : ℕ) × (exit : ℕ) × (after : Point) ×
    FreePath never_first program main_range point pending
    × (next never_first program point ≡ Calls entry exit after) × (range ≡ part entry exit))

-- control comes to the paragraph from main, by some free flow path
abbrev pub IsReached : (Chooser → Bool) → Program → ℕ → Type 0
IsReached never_first program paragraph = (point : Point) × (pending : List Pending)
    × FreePath never_first program main_range point pending × (point.paragraph ≡ paragraph)
