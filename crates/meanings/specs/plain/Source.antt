-- How a source program runs: step by step, with the rest of its paragraph and the returns that are
-- pending.
use Rattle.std.specs.Prelude.{ℕ, suc, Bool, true, false, if◌then◌else◌, ◌==◌, List, [], ◌∷◌, ◌++◌, Option, Some, None, slice_get}
use Rattle.control_flow_theory.specs.runs.Run.{Going, Over}
use Rattle.control_flow_theory.specs.runs.Machine.{Machine, meaning}
use Rattle.cob_tree.specs.declared.program.Program as tree
use Rattle.cob_tree.specs.declared.ending.FlowFault.TheVariants.{Overlap, Reentry}
use Rattle.meanings.specs.plain.Language.{Stmt, Display, Go, Perform, StopRun, Other, Paragraph, Program, Item, Do, SentenceEnd, items_of, paragraph_at, seen}
use Rattle.meanings.specs.plain.World.{World, Event, Stopping, Normally, Ending, Stopped, Faulted, Run, Standing, displayed}
use Rattle.meanings.specs.plain.World as outside

-- a return that is pending: the paragraph at whose end it is made, with the paragraph and the rest
-- to go on with
pub record Pending : Type 0 where
  pub end : ℕ
  pub paragraph : ℕ
  pub rest : List Item

-- the pending return that was made last comes first
pub record SourceState : Type 0 where
  pub paragraph : ℕ
  pub rest : List Item
  pub pending : List Pending
  pub world : World
  pub run : Run

-- the whole rest of a paragraph
abbrev pub rest_of : Program → ℕ → List Item
rest_of program number = items_of (paragraph_at program number)

-- a return is pending at the end of the paragraph with this number
abbrev pub ends_at : ℕ → List Pending → Bool
ends_at number [] = false
ends_at number (return ∷ returns) = if return.end == number then true else ends_at number returns

-- the state after these bytes were shown
abbrev pub shows : List ℕ → SourceState → SourceState
shows bytes state = record state {
  run = record {
    trace = state.run.trace ++ outside.Display bytes ∷ [];
    standing = state.run.standing;
  };
}

-- the state in which the run came to this ending
abbrev pub comes_to : Ending → SourceState → SourceState
comes_to ending state = record state
    { run = record { trace = state.run.trace; standing = Over ending } }

-- the state in which the run stopped so
abbrev pub stops : Stopping → SourceState → SourceState
stops how state = comes_to (Stopped how state.world.files) state

-- the state at the beginning of the paragraph with this number
abbrev pub goes_to : Program → ℕ → SourceState → SourceState
goes_to program number state = record state { paragraph = number; rest = rest_of program number }

-- a range that ends where one does that is pending is a fault
abbrev pub performs : Program → SourceState → List Item → ℕ → ℕ → SourceState
performs program state rest entry exit =
    if ends_at exit state.pending
    then comes_to (Faulted (Reentry exit)) state
    else goes_to program entry (record state {
      pending = record { end = exit; paragraph = state.paragraph; rest = rest } ∷ state.pending;
    })

-- a statement at the head of the rest; one that isn't of the plain form has no meaning yet, and is
-- dropped
abbrev pub stmt_step : Program → SourceState → List Item → Stmt → SourceState
stmt_step program state rest (Display items advance) =
    shows (displayed items advance) (record state { rest = rest })
stmt_step program state rest (Go to) = goes_to program to state
stmt_step program state rest (Perform entry exit) = performs program state rest entry exit
stmt_step program state rest StopRun = stops Normally state
stmt_step program state rest Other = record state { rest = rest }

-- on to the next paragraph; past the last one the run stops
abbrev pub falls : Program → SourceState → Option Paragraph → SourceState
falls program state None = stops Normally state
falls program state (Some next) = goes_to program (suc state.paragraph) state

-- the step at the end of a paragraph: the return that was made last is taken where it ends here;
-- where another one does, that is a fault
abbrev pub end_step : Program → SourceState → List Pending → SourceState
end_step program state [] = falls program state (slice_get program.paragraphs (suc state.paragraph))
end_step program state (top ∷ others) =
    if top.end == state.paragraph
    then record state { paragraph = top.paragraph; rest = top.rest; pending = others }
    else (if ends_at state.paragraph others then comes_to (Faulted (Overlap state.paragraph)) state
    else falls program state (slice_get program.paragraphs (suc state.paragraph)))

-- the step at this rest of a paragraph
abbrev pub rest_step : Program → SourceState → List Item → SourceState
rest_step program state [] = end_step program state state.pending
rest_step program state (Do stmt ∷ rest) = stmt_step program state rest stmt
rest_step program state (SentenceEnd ∷ rest) = record state { rest = rest }

-- the next step, where the run so stands; a run that is over stays
abbrev pub step_by : Program → SourceState → Standing → SourceState
step_by program state Going = rest_step program state state.rest
step_by program state (Over ending) = state

-- one step of a source program
abbrev pub source_step : Program → SourceState → SourceState
source_step program state = step_by program state state.run.standing

-- the state before the first step, at the first paragraph
abbrev pub source_begun : Program → World → SourceState
source_begun program world = record {
  paragraph = 0;
  rest = rest_of program 0;
  pending = [];
  world = world;
  run = record { trace = []; standing = Going };
}

-- a source program as a machine
abbrev pub source_machine : Program → Machine World Event Ending SourceState
source_machine program = record {
  step = source_step program;
  run = λ state. state.run;
  begun = source_begun program;
}

-- what the program shows in this many steps, and how it stands then
abbrev pub source_run : tree.Program → World → ℕ → Run
source_run program = meaning (source_machine (seen program))
