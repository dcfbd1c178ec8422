-- The machine as a state of the source machine.
use Rattle.std.specs.Prelude.{ℕ, suc, ◌≡◌, ◌<◌, ◌^◌, List, [], ◌∷◌, ◌++◌, length, slice_get}
use Rattle.file_model.specs.World.{World}
use Rattle.control_flow_theory.specs.runs.Run.{Going, Over}
use Rattle.control_flow_theory.specs.semantics.Outcome.{Trace, Normally, Overlap, Reentry, Stopped, Faulted}
use Rattle.control_flow_theory.specs.semantics.Outcome as outcome
use Rattle.control_flow_theory.specs.semantics.Items as control
use Rattle.control_flow_theory.specs.semantics.Source.{end_step, falls, goes, performs, rest_step}
use Rattle.cob_act.specs.declared.acting.ActOutcome.{ActOutcome}
use Rattle.cob_act.specs.declared.acting.ActOutcome.TheVariants as done
use Rattle.cob_tree.specs.declared.ending.FlowFault.{FlowFault}
use Rattle.cob_tree.specs.declared.ending.FlowFault.TheVariants as flow
use Rattle.control_flow_theory.specs.language.Control.{control_of}
use Rattle.control_flow_theory.specs.language.Items.{Item, Pending}
use Rattle.cobol_theory.specs.cobol_meaning.Acting.{Memory, abend_number}
use Rattle.cobol_theory.specs.cobol_meaning.Runs.{Files, State, doing_in, files_left, step_in}
use Rattle.cobol_run.specs.declared.held.Plan.{Plan}
use Rattle.cobol_run.specs.declared.machine.Ending.{Ending}
use Rattle.cobol_run.specs.declared.machine.Ending.TheVariants as ending
use Rattle.cobol_run.specs.declared.machine.StepOutcome.{StepOutcome}
use Rattle.cobol_run.specs.declared.machine.StepOutcome.TheVariants as step
use Rattle.cobol_run.specs.declared.machine.Machine.{Machine}
use Rattle.cobol_run.specs.Frames.{last_of, pending_of, rest_of}
use Rattle.cobol_run.specs.Plan.{declared_by, memory_in}

-- the machine's state with this rest and this memory, having shown this
abbrev pub state_with : Machine → List Item → Memory → Trace → State
state_with machine rest memory trace = record {
  paragraph = machine.paragraph;
  rest = rest;
  pending = pending_of machine.plan.program.now machine.frames;
  memory = memory;
  run = record { trace = trace; standing = Going };
}

-- the rest of its paragraph, by its frames
abbrev pub rest_in : Machine → List Item
rest_in machine = rest_of (last_of machine.plan.program.now machine.paragraph) machine.frames

-- the machine's state in this world, having shown this
abbrev pub state_in : Machine → World → Trace → State
state_in machine world trace =
    state_with machine (rest_in machine) (memory_in machine.held.store world) trace

-- ---- how it ends

-- a fault of flow as the theory has it
abbrev pub fault_seen : FlowFault → outcome.FlowFault
fault_seen (flow.Overlap paragraph) = Overlap paragraph
fault_seen (flow.Reentry paragraph) = Reentry paragraph

-- how a run ended, as the theory has it, leaving these files
abbrev pub ending_seen : Ending → Files → outcome.Ending Files
ending_seen ending.Stopped left = Stopped Normally left
ending_seen (ending.Abended abend) left = Stopped (outcome.Abend (abend_number abend)) left
ending_seen (ending.Faulted fault) left = Faulted (fault_seen fault)

-- the state is that of the machine, and goes on; or its run came to this end. No device fails.
abbrev pub Follows : StepOutcome → Machine → World → Trace → State → Type 0
Follows step.On machine world trace state = state ≡ state_in machine world trace
Follows step.Shown machine world trace state =
    state ≡ state_in machine world (trace ++ (0 ∷ machine.held.shown) ∷ [])
Follows (step.Over ending) machine world trace state =
    (state.run ≡ record { trace = trace; standing = Over (ending_seen ending world.shelves) })
    × (state.memory.world ≡ world)
Follows step.Failed machine world trace state = ⊥

-- what a step comes to whose statement did this
abbrev pub step_of : ActOutcome → StepOutcome
step_of done.Went = step.On
step_of done.Shown = step.Shown
step_of (done.Chose arm) = step.On
step_of (done.Abended abend) = step.Over (ending.Abended abend)

-- ---- steps of the source machine, by what the machine plans

-- the state after the head of the rest went this way
abbrev pub goes_by : Plan → control.Way Memory → State → State
goes_by plan way state =
    goes (doing_in (declared_by plan)) files_left (control_of plan.program.now) way state

-- the state after a PERFORM of this range
abbrev pub performs_by : Plan → ℕ → ℕ → List Item → State → State
performs_by plan entry exit rest state =
    performs (doing_in (declared_by plan)) files_left (control_of plan.program.now) entry exit rest
    state

-- the state past the end of this paragraph
abbrev pub falls_by : Plan → ℕ → State → State
falls_by plan paragraph state =
    falls (doing_in (declared_by plan)) files_left (control_of plan.program.now)
    (slice_get (control_of plan.program.now).paragraphs (suc paragraph)) state

-- the state at the end of a paragraph, with these pending returns
abbrev pub ends_by : Plan → List Pending → State → State
ends_by plan pending state =
    end_step (doing_in (declared_by plan)) files_left (control_of plan.program.now) pending state

-- the state after one step at this rest
abbrev pub rests_by : Plan → List Item → State → State
rests_by plan rest state =
    rest_step (doing_in (declared_by plan)) files_left (control_of plan.program.now) rest state

-- the state after one step
abbrev pub steps_by : Plan → State → State
steps_by plan state = step_in plan.program.now (declared_by plan) state

-- the machine's numbers of paragraphs fit
abbrev pub IsNumbered : Plan → Type 0
IsNumbered plan = length plan.program.now.paragraphs < 2 ^ 32
