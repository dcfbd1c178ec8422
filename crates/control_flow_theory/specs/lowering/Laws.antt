-- What holds of lowering: what the source does the walk does, no walk is lost, and flow paths
-- tell all that is asked.
use Rattle.std.specs.Prelude.{ℕ, ◌≢◌, ◌<◌, length, [], ◌∷◌, ◌≡◌, true, Bool, List}
use Rattle.control_flow_theory.specs.runs.Run.{Over, Going}
use Rattle.control_flow_theory.specs.runs.Tied.{Tied}
use Rattle.control_flow_theory.specs.runs.Machine.{meaning, iterate}
use Rattle.control_flow_theory.specs.semantics.Outcome.{Faulted, FlowFault, Lost}
use Rattle.control_flow_theory.specs.language.Language.{Program, Perform, Range, Main, Part, Stmt}
use Rattle.control_flow_theory.specs.semantics.Doing.{Acting, alone, Celled}
use Rattle.control_flow_theory.specs.semantics.Source.{rest_of, source_machine, SourceState, source_step}
use Rattle.control_flow_theory.specs.semantics.Graph.{Family, Label}
use Rattle.control_flow_theory.specs.semantics.Walk.{main_machine, walk_machine}
use Rattle.control_flow_theory.specs.lowering.FlowFacts.{FlowFacts, IsTold, IsSource, OwnStmt}
use Rattle.control_flow_theory.specs.lowering.flow.Comes.{AreReturning, IsLowered}
use Rattle.control_flow_theory.specs.language.Items.{Do, Item}
use Rattle.control_flow_theory.specs.lowering.Completes.{completes}
use Rattle.control_flow_theory.specs.lowering.Lowered.{lowered}
use Rattle.control_flow_theory.specs.lowering.Reached.{kept, AreReached}
use Rattle.control_flow_theory.specs.lowering.Renamed.{numbered_anew}
use Rattle.control_flow_theory.specs.lowering.flow.Paths.{HasFaultyRun}
use Rattle.control_flow_theory.specs.lowering.flow.Entered.{FreelyComes, IsEntered, NamesWhatReturns}

-- no run of the program meets a fault of its flow
abbrev pub NoFlowFault : {Memory Left : Type 0} → Acting Memory → (Memory → Left) → Program → Type 0
NoFlowFault {Memory} acting left program = (memory : Memory) (n : ℕ) (fault : FlowFault) →
    (meaning (source_machine (alone acting) left program) memory n).standing ≢ Over (Faulted fault)

-- the walk of a lowered family does what the source does
abbrev pub LoweringKeepsMeaning : Type 0 → Type 0 → Type 0
LoweringKeepsMeaning Memory Left =
    (acting : Acting Memory) (left : Memory → Left) (told : FlowFacts) (program : Program)
    (place_of : ℕ → ℕ) (family : Family) →
    IsTold told acting → IsSource told program → 0 < length program.paragraphs →
    IsLowered told program place_of family →
    AreReturning (alone acting) program 0 (rest_of program 0) told.returning →
    NoFlowFault acting left program →
    Tied (meaning (source_machine (alone acting) left program))
    (meaning (main_machine acting left family))

-- a source that is about to perform the range, and then has nothing to do: it stands past the last
-- paragraph
abbrev pub before_range : {Memory Left : Type 0} → Program → ℕ → ℕ → Memory →
    SourceState Memory Left
before_range program entry exit memory = record {
  paragraph = length program.paragraphs;
  rest = Do (Perform entry exit) ∷ [];
  pending = [];
  memory = memory;
  run = record { trace = []; standing = Going };
}

-- the range comes to a fault of flow from no memory, where it alone is pending
abbrev pub RangeHasNoFlowFault : {Memory Left : Type 0} → Acting Memory → (Memory → Left) →
    Program → ℕ → ℕ → Type 0
RangeHasNoFlowFault {Memory} acting left program entry exit =
    (memory : Memory) (n : ℕ) (fault : FlowFault) →
    (iterate (source_step (alone acting) left program) n
    (before_range program entry exit memory)).run.standing ≢ Over (Faulted fault)

-- no walk of the range, from any memory and any cells, is lost
abbrev pub IsSoundAt : {Memory Left : Type 0} → Acting Memory → (Memory → Left) → Family → Range →
    Type 0
IsSoundAt {Memory} acting left family range = (memory : Celled Memory) (n : ℕ) →
    (meaning (walk_machine acting left family range) memory n).standing ≢ Over Lost

-- a lowered range that meets no fault of flow is sound
abbrev pub LoweredRangeIsSound : Type 0 → Type 0 → Type 0
LoweredRangeIsSound Memory Left =
    (acting : Acting Memory) (left : Memory → Left) (told : FlowFacts) (program : Program)
    (place_of : ℕ → ℕ) (family : Family) →
    IsTold told acting → IsSource told program → IsLowered told program place_of family →
    AreReturning (alone acting) program 0 (rest_of program 0) told.returning →
    (entry exit : ℕ) → entry < length program.paragraphs → exit < length program.paragraphs →
    RangeHasNoFlowFault acting left program entry exit →
    IsSoundAt acting left family (Part entry exit)

-- the same of main, where no run of the program meets a fault of flow
abbrev pub LoweredMainIsSound : Type 0 → Type 0 → Type 0
LoweredMainIsSound Memory Left =
    (acting : Acting Memory) (left : Memory → Left) (told : FlowFacts) (program : Program)
    (place_of : ℕ → ℕ) (family : Family) →
    IsTold told acting → IsSource told program → 0 < length program.paragraphs →
    IsLowered told program place_of family →
    AreReturning (alone acting) program 0 (rest_of program 0) told.returning →
    NoFlowFault acting left program →
    IsSoundAt acting left family Main

-- no run of a program that isn't faulty meets a fault of its flow
abbrev pub NotFaultyHasNoFlowFault : Type 0 → Type 0 → Type 0
NotFaultyHasNoFlowFault Memory Left =
    (acting : Acting Memory) (left : Memory → Left) (told : FlowFacts) (program : Program) →
    IsTold told acting → IsSource told program → (HasFaultyRun told program → ⊥) →
    NoFlowFault acting left program

-- the walk of the reached nodes of a program that isn't faulty does what the program does
abbrev pub LoweredFamilyKeepsMeaning : Type 0 → Type 0 → Type 0
LoweredFamilyKeepsMeaning Memory Left =
    (acting : Acting Memory) (left : Memory → Left) (told : FlowFacts) (program : Program)
    (keep : Range → Label → Bool) →
    IsTold told acting → IsSource told program → 0 < length program.paragraphs →
    NamesWhatReturns told program → (HasFaultyRun told program → ⊥) →
    AreReached (lowered told program) keep →
    Tied (meaning (source_machine (alone acting) left program))
    (meaning (main_machine acting left (kept keep (lowered told program))))

-- no walk of a range that is entered is lost, in what a source is lowered to
abbrev pub LoweredFamilyIsSound : Type 0 → Type 0 → Type 0
LoweredFamilyIsSound Memory Left =
    (acting : Acting Memory) (left : Memory → Left) (told : FlowFacts) (program : Program)
    (keep : Range → Label → Bool) →
    IsTold told acting → IsSource told program → 0 < length program.paragraphs →
    NamesWhatReturns told program → (HasFaultyRun told program → ⊥) →
    AreReached (lowered told program) keep →
    IsSoundAt acting left (kept keep (lowered told program)) Main
    × ((entry exit : ℕ) → IsEntered told program (Part entry exit) →
    IsSoundAt acting left (kept keep (lowered told program)) (Part entry exit))

-- a numbering of each range's cells, under which no two are one
abbrev pub KeepsApart : (Range → ℕ → ℕ) → Type 0
KeepsApart numbers =
    (range : Range) (one other : ℕ) → numbers range one ≡ numbers range other → one ≡ other

-- the same of the reached nodes, where counters are numbered as one likes
abbrev pub NumberedFamilyKeepsMeaning : Type 0 → Type 0 → Type 0
NumberedFamilyKeepsMeaning Memory Left =
    (acting : Acting Memory) (left : Memory → Left) (told : FlowFacts) (program : Program)
    (keep : Range → Label → Bool) (numbers : Range → ℕ → ℕ) →
    IsTold told acting → IsSource told program → 0 < length program.paragraphs →
    NamesWhatReturns told program → (HasFaultyRun told program → ⊥) →
    AreReached (lowered told program) keep → KeepsApart numbers →
    Tied (meaning (source_machine (alone acting) left program))
    (meaning (main_machine acting left
    (numbered_anew numbers (kept keep (lowered told program)))))
    × IsSoundAt acting left (numbered_anew numbers (kept keep (lowered told program))) Main
    × ((entry exit : ℕ) → IsEntered told program (Part entry exit) →
    IsSoundAt acting left (numbered_anew numbers (kept keep (lowered told program)))
    (Part entry exit))

-- where the table names only ranges that return, a free flow path passes each statement that is
-- said to complete
abbrev pub WhatCompletesIsPassed : Type 0
WhatCompletesIsPassed =
    (told : FlowFacts) (program : Program) (paragraphs : ℕ) →
    ((entry exit : ℕ) → told.returning entry exit ≡ true →
    FreelyComes told program (Part entry exit) exit []) →
    (range : Range) (number : ℕ) (stmt : Stmt) (rest : List Item) → OwnStmt told paragraphs stmt →
    completes told stmt ≡ true →
    FreelyComes told program range number (Do stmt ∷ rest) →
    FreelyComes told program range number rest
