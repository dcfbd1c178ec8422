-- Laws of machines: a step shows more, and a state that is over stays.
use Rattle.control_flow_theory.specs.runs.Machine.{Grows}
use Rattle.control_flow_theory.specs.language.Language.{Program, Range}
use Rattle.control_flow_theory.specs.semantics.Doing.{Acting, Doing}
use Rattle.control_flow_theory.specs.semantics.Source.{source_machine}
use Rattle.control_flow_theory.specs.semantics.Graph.{Family}
use Rattle.control_flow_theory.specs.semantics.Walk.{walk_machine, main_machine}

-- a step of the source shows more, and a state that is over stays
abbrev pub TheSourceGrows : Type 0 → Type 0 → Type 0
TheSourceGrows Memory Left = (doing : Doing Memory) (left : Memory → Left) (program : Program) →
    Grows (source_machine doing left program)

-- a step of a walk shows more, and a walk that is over stays
abbrev pub WalksGrow : Type 0 → Type 0 → Type 0
WalksGrow Memory Left =
    (acting : Acting Memory) (left : Memory → Left) (family : Family) (range : Range) →
    Grows (walk_machine acting left family range)

-- so does a step of the walk of a whole program
abbrev pub TheMainWalkGrows : Type 0 → Type 0 → Type 0
TheMainWalkGrows Memory Left = (acting : Acting Memory) (left : Memory → Left) (family : Family) →
    Grows (main_machine acting left family)
