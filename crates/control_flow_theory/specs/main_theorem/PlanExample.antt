-- A program of one paragraph that jumps to itself, and its plan.
use Rattle.std.specs.Prelude.{ℕ, Bool, true, false, ◌==◌, ◌≡◌, List, [], ◌∷◌}
use Rattle.control_flow_theory.specs.runs.Machine.{meaning}
use Rattle.control_flow_theory.specs.language.Language.{Picker, Go, none, also, Program, Range, Main, Part}
use Rattle.control_flow_theory.specs.semantics.Doing.{Acting, Celled, alone}
use Rattle.control_flow_theory.specs.semantics.Source.{source_machine}
use Rattle.control_flow_theory.specs.semantics.Graph.{Label}
use Rattle.control_flow_theory.specs.semantics.Structural.{structural}
use Rattle.control_flow_theory.specs.language.Structured.{IsStructuredControl}
use Rattle.control_flow_theory.specs.semantics_agree.Same.{SameBehaviour}
use Rattle.control_flow_theory.specs.rendering.Rendering.{Empty, Naming, rendered}
use Rattle.control_flow_theory.specs.lowering.FlowFacts.{FlowFacts, IsTold, IsSource}
use Rattle.control_flow_theory.specs.lowering.flow.Paths.{HasFaultyRun}
use Rattle.control_flow_theory.specs.graph_rules.Families.{Added}
use Rattle.control_flow_theory.specs.main_theorem.Chain.{IsNumberedPlan, lowered_graphs, procedures_of}

-- A. GO TO A.
abbrev pub again : Program
again = record { paragraphs = (also (Go 0) none ∷ []) ∷ [] }

-- no range is named, since none is performed; a chooser gives one arm, and none is in the
-- program
abbrev pub again_told : FlowFacts
again_told =
    record {
      returning = λ entry exit. false;
      skipped = λ simple. false;
      never_first = λ chooser. false;
      width = λ chooser. 1;
    }

-- the nodes that are kept: of main, the paragraph's node
abbrev pub again_kept : Range → Label → Bool
again_kept Main label = label == 0
again_kept (Part entry exit) label = true

-- each cell keeps its number
abbrev pub same_numbers : Range → ℕ → ℕ
same_numbers range cell = cell

-- no range has an added cell
abbrev pub no_added : Range → List Added
no_added range = []

-- this is a plan, of a source that isn't faulty
abbrev pub APlanCanBeMade : Type 0
APlanCanBeMade = IsSource again_told again × (HasFaultyRun again_told again → ⊥)
    × IsNumberedPlan again_told again again_kept same_numbers no_added []

-- for any parts that do what is known of them, there is a structured result that behaves alike
abbrev pub ThePlanIsFollowed : Type 0 → Type 0 → Type 0 → Type 0
ThePlanIsFollowed Memory Left World =
    (acting : Acting Memory) (left : Memory → Left) (first : World → Memory)
    (empty : Range → Picker → ℕ → Empty) → IsTold again_told acting →
    let procedures =
    procedures_of (Main ∷ []) (lowered_graphs again_told again again_kept same_numbers no_added)
    in
    (result : Acting (Celled Memory)) × (naming : Naming) × (naming.empty ≡ empty)
    × IsStructuredControl (rendered naming procedures)
    × SameBehaviour (λ world. meaning (source_machine (alone acting) left again) (first world))
    (λ world. structural (alone result) (λ memory. left memory.own) (rendered naming procedures)
    (record { own = first world; cells = λ range cell. 0 }))
