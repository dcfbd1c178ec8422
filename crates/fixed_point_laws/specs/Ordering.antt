-- In which order the procedures of a structured program come.
use Rattle.std.specs.Prelude.{ℕ, suc, ◌≡◌, ◌≤◌, ◌<◌, List, ◌∷◌, length, Some, slice_get}
use Rattle.cob_tree.specs.declared.program.Range as tree
use Rattle.control_flow_theory.specs.language.Language.{Program, Range, Main, Part}
use Rattle.control_flow_theory.specs.language.Structured.{IsStructuredControl}
use Rattle.control_flow_theory.specs.lowering.FlowFacts.{FlowFacts, IsSource}
use Rattle.control_flow_theory.specs.lowering.flow.Entered.{IsEntered}
use Rattle.control_flow_theory.specs.lowering.flow.Paths.{HasFaultyRun}
use Rattle.control_flow_theory.specs.main_theorem.CallsReached.{GivesSome}
use Rattle.pending_returns.specs.declared.facts.Summary.{Summary}
use Rattle.pending_returns.specs.Summary.{IsSummary}
use Rattle.procedure_split.specs.plan.Planned.{IsPlanOf}
use Rattle.procedure_split.specs.plan.Laws.{others_of}
use Rattle.fixed_point.specs.Again.{IsRangeAt}

-- the ranges of the plan are the program's paragraphs, in their order
pub record GoesByPlaces (program : Program) (order : List tree.Range) : Type 0 where
  -- there are as many
  pub many : suc (length (others_of order)) ≡ length program.paragraphs
  -- each range is the paragraph with its number
  pub each : (number : ℕ) (range : Range) →
      slice_get (Main ∷ others_of order) number ≡ Some range → IsRangeAt number range
  -- and begins there
  pub begins : (number : ℕ) (range : tree.Range) → slice_get order number ≡ Some range →
      range.entry ≡ number

-- the order of a structured program is that of its paragraphs, where flow paths enter each of them
abbrev pub PlansGoByPlaces : Type 0
PlansGoByPlaces =
    (told : FlowFacts) (program : Program) (summary : Summary) (returning : List (List ℕ))
    (order : List tree.Range) → IsSource told program → GivesSome told →
    IsStructuredControl program →
    (HasFaultyRun told program → ⊥) → IsSummary told.never_first program summary →
    IsPlanOf summary.ranges returning order →
    ((number : ℕ) → 1 ≤ number → number < length program.paragraphs →
    IsEntered told program (Part number number)) → GoesByPlaces program order
