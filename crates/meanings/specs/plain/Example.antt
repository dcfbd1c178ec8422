-- A small program, run both ways.
use Rattle.std.specs.Prelude.{ℕ, ◌≡◌, refl, List, [], ◌∷◌, true}
use Rattle.control_flow_theory.specs.runs.Run.{Going, Over}
use Rattle.control_flow_theory.specs.runs.Machine.{meaning}
use Rattle.cob_tree.specs.declared.place.Operand.TheVariants.{Text}
use Rattle.meanings.specs.plain.Language.{Stmt, Display, Go, StopRun, Program}
use Rattle.meanings.specs.plain.World.{World, Event, Normally, Stopped}
use Rattle.meanings.specs.plain.World as outside
use Rattle.meanings.specs.plain.Source.{source_machine}
use Rattle.meanings.specs.plain.Structural.{structural}

-- DISPLAY of one byte
abbrev pub display : ℕ → Stmt
display byte = Display (Text (byte ∷ []) ∷ []) true

-- the DISPLAY of one byte as it is seen, with its line feed
abbrev pub event : ℕ → Event
event byte = outside.Display (byte ∷ 10 ∷ [])

-- shows 49 and goes to its third paragraph, which shows 51 and stops
abbrev pub jumping : Program
jumping = record {
  paragraphs = ((display 49 ∷ []) ∷ (Go 2 ∷ []) ∷ []) ∷ ((display 50 ∷ []) ∷ []) ∷
      ((display 51 ∷ []) ∷ (StopRun ∷ []) ∷ []) ∷ [];
}

-- the same without the jump
abbrev pub nested : Program
nested = record { paragraphs = ((display 49 ∷ display 51 ∷ StopRun ∷ []) ∷ []) ∷ [] }

-- what both show
abbrev pub shown : List Event
shown = event 49 ∷ event 51 ∷ []

-- both show the same and stop, the first after six steps, the second within three units
abbrev pub RunsAs : Type 0
RunsAs = (world : World) →
    (meaning (source_machine jumping) world 5 ≡ record { trace = shown; standing = Going })
    × (meaning (source_machine jumping) world 6
    ≡ record { trace = shown; standing = Over (Stopped Normally world.files) })
    × (structural nested world 2 ≡ record { trace = shown; standing = Going })
    × (structural nested world 3 ≡ record
    { trace = shown; standing = Over (Stopped Normally world.files) })

-- the proof that they do
pub runs_as : RunsAs
runs_as world = (refl, refl, refl, refl)
