-- An event as it lies in the machine that showed it, and how a program ended.
use Rattle.std.specs.Prelude.{◌∷◌, [], Option, Some, None}
use Rattle.cob_act.specs.files.Work.{verb_seen}
use Rattle.cobol_run.specs.declared.machine.Ending.{Ending}
use Rattle.cobol_run.specs.Machine.{ending_seen}
use Rattle.cobol_theory.specs.cobol_meaning.Acting.{event_seen}
use Rattle.control_flow_theory.specs.semantics.Outcome as outcome
use Rattle.file_model.specs.World.{Filed}
use Rattle.trace_compare.specs.declared.event.Event.{Event}
use Rattle.trace_compare.specs.declared.event.Event.TheVariants as event
use Rattle.trace_compare.specs.Differing.{Way, way_of}

-- the event as the theory of control has it
abbrev pub event_of : Event → outcome.Event
event_of (event.Displayed bytes) = 0 ∷ bytes.now
event_of (event.Filed done bytes) =
    event_seen (Filed (verb_seen done.verb) done.file bytes.now done.status)

-- the way in which a program ended, whatever files it left
abbrev pub way_by : Ending → Way
way_by ending = way_of (ending_seen ending [])

-- the same where it ended
abbrev pub way_if : Option Ending → Option Way
way_if None = None
way_if (Some ending) = Some (way_by ending)
