-- Flow paths: the source machine itself, in which a list of ways takes the place of the memory.
use Rattle.std.specs.Prelude.{ℕ, zero, suc, ◌≡◌, Bool, true, false, if◌then◌else◌, ◌==◌, List, [], ◌∷◌, slice_get}
use Rattle.control_flow_theory.specs.runs.Run.{Going, Over}
use Rattle.control_flow_theory.specs.runs.Machine.{meaning}
use Rattle.control_flow_theory.specs.semantics.Outcome.{Tried, Got, Faulted, FlowFault, Standing}
use Rattle.control_flow_theory.specs.language.Language.{Picker, If, By, ByCell, Program}
use Rattle.control_flow_theory.specs.semantics.Doing.{Doing, arm_of}
use Rattle.control_flow_theory.specs.language.Items.{Item}
use Rattle.control_flow_theory.specs.semantics.Items.{Way, On, Halts, Into, To, ToEnd, item_way}
use Rattle.control_flow_theory.specs.language.Items.{Pending}
use Rattle.control_flow_theory.specs.semantics.Source.{SourceState, goes_to, goes, falls, source_machine}
use Rattle.control_flow_theory.specs.lowering.FlowFacts.{FlowFacts}

-- the next way; where none is given, the first
abbrev pub next_way : List ℕ → ℕ
next_way [] = 0
next_way (way ∷ ways) = way

-- the ways after the next one
abbrev pub later_ways : List ℕ → List ℕ
later_ways [] = []
later_ways (way ∷ ways) = ways

-- the way is the first
abbrev pub is_first : ℕ → Bool
is_first zero = true
is_first (suc n) = false

-- the first number is below the second
abbrev pub is_below : ℕ → ℕ → Bool
is_below k zero = false
is_below zero (suc n) = true
is_below (suc k) (suc n) = is_below k n

-- the first arm that may be given
abbrev pub first_arm : Bool → ℕ
first_arm true = 1
first_arm false = 0

-- the arm with this number, or the second where it is the first and is never given
abbrev pub not_dead : Bool → ℕ → ℕ
not_dead true zero = 1
not_dead true (suc n) = suc n
not_dead false n = n

-- the arm that the way names, where it may be given
abbrev pub arm_for : ℕ → Bool → ℕ → ℕ
arm_for width never_first way =
    if is_below way width then not_dead never_first way else first_arm never_first

-- a choice goes the next way; one by a cell gives the first arm and takes no way
abbrev pub free_pick : FlowFacts → Picker → List ℕ → Tried (List ℕ) ℕ
free_pick told (If test) ways = Got [] (arm_of (is_first (next_way ways))) (later_ways ways)
free_pick told (By chooser) ways =
    Got [] (arm_for (told.width chooser) (told.never_first chooser) (next_way ways))
    (later_ways ways)
free_pick told (ByCell cell) ways = Got [] 0 ways

-- each choice and each loop test may go any of its ways, whatever the data; a counted loop may take
-- any number of turns
abbrev pub free : FlowFacts → Doing (List ℕ)
free told = record {
  act = λ act ways. Got [] tt ways;
  test = λ test ways. Got [] (is_first (next_way ways)) (later_ways ways);
  pick = free_pick told;
  count = λ amount ways. Got [] (next_way ways) (later_ways ways);
}

-- the state of a flow path: a state of the source whose memory is the ways that are left
abbrev pub Flow : Type 0
Flow = SourceState (List ℕ) (Unit {0})

-- a flow path that stops leaves nothing
abbrev pub nothing_left : List ℕ → Unit {0}
nothing_left ways = tt

-- a flow path at this paragraph and rest, with these pending returns and ways
abbrev pub flow : ℕ → List Item → List Pending → List ℕ → Flow
flow number rest pending ways =
    record {
      paragraph = number;
      rest = rest;
      pending = pending;
      memory = ways;
      run = record { trace = []; standing = Going };
    }

-- some flow path ends in a fault of flow
abbrev pub HasFaultyRun : FlowFacts → Program → Type 0
HasFaultyRun told program = (ways : List ℕ) × (n : ℕ) × (fault : FlowFault)
    × ((meaning (source_machine (free told) nothing_left program) ways n).standing
    ≡ Over (Faulted fault))

module _ (told : FlowFacts) (program : Program) where
  -- Free flow steps: a PERFORM always pushes, and at a paragraph's end only the top of pending is
  -- looked at.

  -- the state after the head of the rest went this way; a PERFORM is never a reentry
  abbrev pub free_goes : Way (List ℕ) → Flow → Flow
  free_goes (On trace ways rest) state =
      goes (free told) nothing_left program (On trace ways rest) state
  free_goes (Halts trace how ways) state =
      goes (free told) nothing_left program (Halts trace how ways) state
  free_goes (Into entry exit rest) state =
      goes_to (free told) nothing_left program entry
      (record state
      { pending = record { end = exit; paragraph = state.paragraph; rest = rest } ∷ state.pending })
  free_goes (To trace ways number) state =
      goes (free told) nothing_left program (To trace ways number) state
  free_goes (ToEnd trace ways number) state =
      goes (free told) nothing_left program (ToEnd trace ways number) state

  -- the step at the end of a paragraph, which is never an overlap
  abbrev pub free_end : List Pending → Flow → Flow
  free_end [] state =
      falls (free told) nothing_left program (slice_get program.paragraphs (suc state.paragraph))
      state
  free_end (top ∷ others) state =
      if top.end == state.paragraph
      then record state { paragraph = top.paragraph; rest = top.rest; pending = others }
      else falls (free told) nothing_left program
      (slice_get program.paragraphs (suc state.paragraph)) state

  -- the free step at this rest of a paragraph
  abbrev pub free_rest : List Item → Flow → Flow
  free_rest [] state = free_end state.pending state
  free_rest (item ∷ rest) state = free_goes (item_way (free told) item rest state.memory) state

  -- the free step of a path that stands so; one that is over stays
  abbrev pub free_by : Standing (Unit {0}) → Flow → Flow
  free_by Going state = free_rest state.rest state
  free_by (Over ending) state = state

  -- one free flow step
  abbrev pub free_step : Flow → Flow
  free_step state = free_by state.run.standing state
