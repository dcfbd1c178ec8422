-- A plain state as one of the source meaning, and when a later one is a step after it.
use Rattle.std.specs.Prelude.{ℕ, ◌≡◌, List, [], map, Option, Some, None}
use Rattle.std.specs.List.{flat_map}
use Rattle.control_flow_theory.specs.runs.Run.{Going}
use Rattle.control_flow_theory.specs.runs.Run as runs
use Rattle.cob_tree.specs.declared.program.Program as tree
use Rattle.meanings.specs.declared.plain.state.Item.{Item}
use Rattle.meanings.specs.declared.plain.state.Item.TheVariants.{Stmt, SentenceEnd}
use Rattle.meanings.specs.declared.plain.state.Waiting.{Waiting}
use Rattle.meanings.specs.declared.plain.state.Over.{Over}
use Rattle.meanings.specs.declared.plain.state.Over.TheVariants as over
use Rattle.meanings.specs.declared.plain.state.PlainState.{PlainState}
use Rattle.meanings.specs.plain.Language.{Do, seen, seen_stmt}
use Rattle.meanings.specs.plain.Language as language
use Rattle.meanings.specs.plain.World.{World, Event, Display, Normally, Stopped, Faulted, Standing, Trace}
use Rattle.meanings.specs.plain.Source.{Pending, SourceState, source_step, source_begun}

-- what is still to do, as the meaning has it
abbrev pub item_seen : Item → language.Item
item_seen (Stmt stmt) = Do (seen_stmt stmt)
item_seen SentenceEnd = language.SentenceEnd

-- a return that is pending, as the meaning has it
abbrev pub waiting_seen : Waiting → Pending
waiting_seen waiting = record {
  end = waiting.end;
  paragraph = waiting.paragraph;
  rest = map item_seen waiting.rest;
}

-- how it stands where these files are
abbrev pub standing_in : World → Option Over → Standing
standing_in world None = Going
standing_in world (Some over.Stopped) = runs.Over (Stopped Normally world.files)
standing_in world (Some (over.Fault fault)) = runs.Over (Faulted fault)

-- the source's state in this world, having shown these events
abbrev pub state_in : World → Trace → PlainState → SourceState
state_in world trace state = record {
  paragraph = state.paragraph;
  rest = map item_seen state.rest;
  pending = map waiting_seen state.pending;
  world = world;
  run = record { trace = trace; standing = standing_in world state.over };
}

-- the bytes that an event showed
abbrev pub event_bytes : Event → List ℕ
event_bytes (Display bytes) = bytes

-- all bytes that events showed
abbrev pub bytes_shown : Trace → List ℕ
bytes_shown trace = flat_map event_bytes trace

-- the source's step leads from the first state to the second, whatever the world, and whatever
-- events showed what the first has shown, with events that showed what the second has shown
abbrev pub IsStep : tree.Program → PlainState → PlainState → Type 0
IsStep program first second =
    (world : World) (trace : Trace) → bytes_shown trace ≡ first.shown →
    (later : Trace) × (bytes_shown later ≡ second.shown)
    × (source_step (seen program) (state_in world trace first) ≡ state_in world later second)

-- the state is where the source begins, in each world, and nothing was shown
abbrev pub IsBegun : tree.Program → PlainState → Type 0
IsBegun program state =
    (state.shown ≡ [])
    × ((world : World) → state_in world [] state ≡ source_begun (seen program) world)
