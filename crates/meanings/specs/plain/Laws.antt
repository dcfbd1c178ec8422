-- Laws of the two meanings.
use Rattle.std.specs.Prelude.{ℕ, ◌≡◌, ◌+◌}
use Rattle.control_flow_theory.specs.runs.Run.{Covers}
use Rattle.control_flow_theory.specs.runs.Tied.{Steady, ComesToWithin, Tied}
use Rattle.control_flow_theory.specs.runs.Machine.{ReachesWithin, meaning, Grows}
use Rattle.cob_tree.specs.declared.program.Program as tree
use Rattle.meanings.specs.plain.Language.{Program}
use Rattle.meanings.specs.plain.World.{World, Run}
use Rattle.meanings.specs.plain.Source.{SourceState, source_step, source_begun, source_machine, source_run}
use Rattle.meanings.specs.plain.Structural.{structural, structural_run}
use Rattle.meanings.specs.plain.Same.{IsMatchedBy, SameBehaviour}

-- a step of the source shows more, and a state that is over stays
abbrev pub TheSourceGrows : Type 0
TheSourceGrows = (program : Program) → Grows (source_machine program)

-- the source shows more with more steps
abbrev pub MoreStepsShowMore : Type 0
MoreStepsShowMore = (program : Program) → Steady (meaning (source_machine program))

-- the source comes from the state to one with this run, in at most so many steps
abbrev pub RunsTo : Program → ℕ → SourceState → Run → Type 0
RunsTo program most state run = (later : SourceState)
    × ReachesWithin most (source_step program) state later × (later.run ≡ run)

-- what a reached state runs to, the one before runs to
abbrev pub ReachingRunsOn : Type 0
ReachingRunsOn = (program : Program) (m n : ℕ) (first second : SourceState) (run : Run) →
    ReachesWithin m (source_step program) first second → RunsTo program n second run →
    RunsTo program (m + n) first run

-- what its first state runs to, the program comes to
abbrev pub TheFirstStateRuns : Type 0
TheFirstStateRuns = (program : Program) (most : ℕ) (world : World) (run : Run) →
    RunsTo program most (source_begun program world) run →
    ComesToWithin most (meaning (source_machine program)) world run

-- nested statements show more with more units
abbrev pub MoreUnitsShowMore : Type 0
MoreUnitsShowMore = (program : Program) → Steady (structural program)

-- a run that covers another matches it
abbrev pub CoveringMatches : Type 0
CoveringMatches = (first second : Run) → Covers first second → IsMatchedBy first second

-- tied meanings are the same behaviour
abbrev pub TiedBehavesTheSame : Type 0
TiedBehavesTheSame = (program structured : tree.Program) →
    Tied (source_run program) (structural_run structured) → SameBehaviour program structured
