-- Flow paths here and in the theory of control are the same.
use Rattle.std.specs.Prelude.{ℕ, List}
use Rattle.control_flow_theory.specs.language.Language.{Chooser, Program, Range}
use Rattle.control_flow_theory.specs.language.Items.{Item}
use Rattle.control_flow_theory.specs.lowering.FlowFacts.{FlowFacts, MayGive, IsSource}
use Rattle.control_flow_theory.specs.lowering.flow.Entered.{FreelyComes}
use Rattle.control_flow_theory.specs.lowering.flow.Paths as theory
use Rattle.program_points.specs.paths.Flow.{IsFaulty}
use Rattle.program_points.specs.paths.Levels.{Comes}
use Rattle.program_points.specs.machine_paths.Uncounted.{point_at, range_of}

-- what chooses gives some arm
abbrev pub SomeArmIsGiven : FlowFacts → Type 0
SomeArmIsGiven told =
    (chooser : Chooser) → (arm : ℕ) × MayGive (told.width chooser) (told.never_first chooser) arm

-- A level comes to a paragraph and a rest in the theory exactly where it comes to their point here:
-- with any numbers of turns left in the counted loops of the rest.
abbrev pub LevelsAreTheTheorys : Type 0
LevelsAreTheTheorys =
    (told : FlowFacts) (program : Program) → IsSource told program → SomeArmIsGiven told →
    (range : Range) (number : ℕ) (rest : List Item) →
    (FreelyComes told program range number rest →
    Comes told.never_first program (range_of range) (point_at number rest))
    × (Comes told.never_first program (range_of range) (point_at number rest) →
    FreelyComes told program range number rest)

-- A program is faulty in the theory exactly where it is here.
abbrev pub FaultyIsTheTheorys : Type 0
FaultyIsTheTheorys =
    (told : FlowFacts) (program : Program) → IsSource told program → SomeArmIsGiven told →
    (theory.HasFaultyRun told program → IsFaulty told.never_first program)
    × (IsFaulty told.never_first program → theory.HasFaultyRun told program)
