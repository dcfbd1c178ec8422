-- How a source program runs: step by step, with the rest of its paragraph and the returns that are
-- pending.
use Rattle.std.specs.Prelude.{ℕ, suc, if◌then◌else◌, ◌==◌, List, [], ◌∷◌, ◌++◌, Option, Some, None, slice_get}
use Rattle.control_flow_theory.specs.runs.Run.{Going, Over}
use Rattle.control_flow_theory.specs.runs.Machine.{Machine}
use Rattle.control_flow_theory.specs.semantics.Outcome.{Event, Trace, How, Normally, Overlap, Reentry, Ending, Stopped, Faulted, Run, Standing}
use Rattle.control_flow_theory.specs.language.Language.{Paragraph, Program, paragraph_at}
use Rattle.control_flow_theory.specs.semantics.Doing.{Doing}
use Rattle.control_flow_theory.specs.language.Items.{Item, Pending, ends_at, items_of}
use Rattle.control_flow_theory.specs.semantics.Items.{Way, On, Halts, Into, To, ToEnd, item_way}

-- the pending return that was made last comes first
pub record SourceState (Memory Left : Type 0) : Type 0 where
  -- the number of the paragraph
  pub paragraph : ℕ
  -- what is still to do in it
  pub rest : List Item
  -- the returns that are pending
  pub pending : List Pending
  pub memory : Memory
  pub run : Run Left

-- the whole rest of a paragraph
abbrev pub rest_of : Program → ℕ → List Item
rest_of program number = items_of (paragraph_at program number)

-- a program whose parts do this to a memory, which leaves that
module _ {Memory Left : Type 0} (doing : Doing Memory) (left : Memory → Left) (program : Program)
  where
    abbrev State : Type 0
    State = SourceState Memory Left

    -- the state after this was shown, with this memory
    abbrev pub shows : Trace → Memory → State → State
    shows trace memory state =
        record state {
          memory = memory;
          run =
              record { trace = state.run.trace ++ trace; standing = state.run.standing };
        }

    -- the state in which the run came to this ending
    abbrev pub comes_to : Ending Left → State → State
    comes_to ending state =
        record state { run = record { trace = state.run.trace; standing = Over ending } }

    -- the state in which the run stopped so
    abbrev pub stops : How → State → State
    stops how state = comes_to (Stopped how (left state.memory)) state

    -- the state at the beginning of the paragraph with this number
    abbrev pub goes_to : ℕ → State → State
    goes_to number state = record state { paragraph = number; rest = rest_of program number }

    -- the state at the end of a paragraph
    abbrev pub ends_in : ℕ → State → State
    ends_in number state = record state { paragraph = number; rest = [] }

    -- the state in a range, with its return pending; to perform one whose exit is pending already
    -- is a fault
    abbrev pub performs : ℕ → ℕ → List Item → State → State
    performs entry exit rest state =
        if ends_at exit state.pending
        then comes_to (Faulted (Reentry exit)) state
        else goes_to entry
        (record state {
          pending = record { end = exit; paragraph = state.paragraph; rest = rest }
              ∷ state.pending;
        })

    -- the state after the head of the rest went this way
    abbrev pub goes : Way Memory → State → State
    goes (On trace memory rest) state = record (shows trace memory state) { rest = rest }
    goes (Halts trace how memory) state = stops how (shows trace memory state)
    goes (Into entry exit rest) state = performs entry exit rest state
    goes (To trace memory number) state = goes_to number (shows trace memory state)
    goes (ToEnd trace memory number) state = ends_in number (shows trace memory state)

    -- on to the next paragraph; past the last one the run stops
    abbrev pub falls : Option Paragraph → State → State
    falls None state = stops Normally state
    falls (Some next) state = goes_to (suc state.paragraph) state

    -- the step at the end of a paragraph: the return that was made last is taken where it ends
    -- here; where another one does, that is a fault
    abbrev pub end_step : List Pending → State → State
    end_step [] state = falls (slice_get program.paragraphs (suc state.paragraph)) state
    end_step (top ∷ others) state =
        if top.end == state.paragraph
        then record state { paragraph = top.paragraph; rest = top.rest; pending = others }
        else (if ends_at state.paragraph others
        then comes_to (Faulted (Overlap state.paragraph)) state
        else falls (slice_get program.paragraphs (suc state.paragraph)) state)

    -- the step at this rest of a paragraph
    abbrev pub rest_step : List Item → State → State
    rest_step [] state = end_step state.pending state
    rest_step (item ∷ rest) state = goes (item_way doing item rest state.memory) state

    -- the next step, where the run so stands; a run that is over stays
    abbrev pub step_by : Standing Left → State → State
    step_by Going state = rest_step state.rest state
    step_by (Over ending) state = state

    -- one step of a source program
    abbrev pub source_step : State → State
    source_step state = step_by state.run.standing state

    -- the state before the first step: at the first paragraph, with this memory
    abbrev pub source_begun : Memory → State
    source_begun memory =
        record {
          paragraph = 0;
          rest = rest_of program 0;
          pending = [];
          memory = memory;
          run =
              record { trace = []; standing = Going };
        }

    -- a source program as a machine
    abbrev pub source_machine : Machine Memory Event (Ending Left) State
    source_machine = record { step = source_step; run = λ state. state.run; begun = source_begun }
