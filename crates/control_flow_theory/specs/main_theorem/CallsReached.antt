-- Where a flow path comes to a PERFORM, a reached node performs that range: so an order by paths is
-- one of the graphs.
use Rattle.std.specs.Prelude.{ℕ, ◌≡◌, ◌<◌, ◌≤◌, Bool, List, ◌∷◌, length, Some, slice_get}
use Rattle.control_flow_theory.specs.runs.Machine.{meaning}
use Rattle.control_flow_theory.specs.language.Language.{Picker, Chooser, Program, Range, Main, Part}
use Rattle.control_flow_theory.specs.semantics.Doing.{Acting, Celled, alone}
use Rattle.control_flow_theory.specs.semantics.Source.{source_machine}
use Rattle.control_flow_theory.specs.semantics.Structural.{structural}
use Rattle.control_flow_theory.specs.language.Structured.{IsStructuredControl}
use Rattle.control_flow_theory.specs.semantics_agree.Same.{SameBehaviour}
use Rattle.control_flow_theory.specs.rendering.Rendering.{Empty, Naming, rendered}
use Rattle.control_flow_theory.specs.semantics.Graph.{Label}
use Rattle.control_flow_theory.specs.lowering.FlowFacts.{FlowFacts, MayGive, IsTold, IsSource}
use Rattle.control_flow_theory.specs.lowering.Lowered.{lowered}
use Rattle.control_flow_theory.specs.lowering.Reached.{IsReached}
use Rattle.control_flow_theory.specs.lowering.flow.Paths.{HasFaultyRun}
use Rattle.control_flow_theory.specs.lowering.flow.Entered.{IsEntered, NamesWhatReturns}
use Rattle.control_flow_theory.specs.lowering.WellFormed.{IsRangeOf}
use Rattle.control_flow_theory.specs.lowering.flow.Called.{IsCalled}
use Rattle.control_flow_theory.specs.graph_rules.Families.{Added}
use Rattle.control_flow_theory.specs.main_theorem.Chain.{TreeCalls, lowered_graphs, procedures_of, IsNumberedPlan, CalledFromEarlier}

-- each chooser may give some arm
abbrev pub GivesSome : FlowFacts → Type 0
GivesSome told =
    (chooser : Chooser) → (arm : ℕ) × MayGive (told.width chooser) (told.never_first chooser) arm

-- what a free flow path performs in the level of a range that is entered, a reached node of the
-- range performs
abbrev pub WhatIsCalledStands : Type 0
WhatIsCalledStands =
    (told : FlowFacts) (program : Program) → IsSource told program → GivesSome told →
    NamesWhatReturns told program →
    (range : Range) → IsRangeOf program range → IsEntered told program range → (entry exit : ℕ) →
    IsCalled told program range entry exit →
    (label : Label) × IsReached (lowered told program) range label
    × TreeCalls (Part entry exit) ((lowered told program).node range label)

-- each range of the order but main is performed by a free flow path of an earlier one's level
abbrev pub CalledByPaths : FlowFacts → Program → List Range → Type 0
CalledByPaths told program order =
    (number : ℕ) (entry exit : ℕ) → slice_get order number ≡ Some (Part entry exit) → 1 ≤ number →
    (from : ℕ) × (caller : Range) × (from < number) × (slice_get order from ≡ Some caller)
    × IsCalled told program caller entry exit

-- each range of an order by flow paths is performed by a kept node of an earlier one
abbrev pub OrderByPathsIsOfGraphs : Type 0
OrderByPathsIsOfGraphs =
    (told : FlowFacts) (program : Program) (keep : Range → Label → Bool) (numbers : Range → ℕ → ℕ)
    (added : Range → List Added) (others : List Range) →
    IsSource told program → GivesSome told → 0 < length program.paragraphs →
    IsNumberedPlan told program keep numbers added others →
    CalledByPaths told program (Main ∷ others) →
    CalledFromEarlier (Main ∷ others) (lowered_graphs told program keep numbers added)

-- so, by paths alone, for any parts there is a structured result of the same behaviour
abbrev pub SomeResultByPaths : Type 0 → Type 0 → Type 0 → Type 0
SomeResultByPaths Memory Left World =
    (acting : Acting Memory) (left : Memory → Left) (first : World → Memory)
    (empty : Range → Picker → ℕ → Empty)
    (told : FlowFacts) (program : Program) (keep : Range → Label → Bool) (numbers : Range → ℕ → ℕ)
    (added : Range → List Added) (others : List Range) →
    IsTold told acting → IsSource told program → 0 < length program.paragraphs →
    (HasFaultyRun told program → ⊥) →
    IsNumberedPlan told program keep numbers added others →
    let procedures =
    procedures_of (Main ∷ others) (lowered_graphs told program keep numbers added) in
    GivesSome told → CalledByPaths told program (Main ∷ others) →
    (result : Acting (Celled Memory)) × (naming : Naming) × (naming.empty ≡ empty)
    × IsStructuredControl (rendered naming procedures)
    × SameBehaviour (λ world. meaning (source_machine (alone acting) left program) (first world))
    (λ world. structural (alone result) (λ memory. left memory.own) (rendered naming procedures)
    (record { own = first world; cells = λ range cell. 0 }))
