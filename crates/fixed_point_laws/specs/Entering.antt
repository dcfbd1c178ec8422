-- Which paragraphs of a result flow paths enter.
use Rattle.std.specs.Prelude.{ℕ, ◌≡◌, ◌≤◌, ◌<◌, true, length, Some, slice_get}
use Rattle.control_flow_theory.specs.language.Language.{Program, Part}
use Rattle.control_flow_theory.specs.language.Structured.{StmtsNest, IsStructuredControl}
use Rattle.control_flow_theory.specs.lowering.FlowFacts.{FlowFacts, IsSource}
use Rattle.control_flow_theory.specs.lowering.flow.Entered.{IsEntered}
use Rattle.control_flow_theory.specs.rendering.Rendering.{Naming, Procedure}
use Rattle.control_flow_theory.specs.main_theorem.CallsReached.{GivesSome}
use Rattle.control_flow_theory.specs.main_theorem.Chain.{IsPlan}
use Rattle.control_flow_theory.specs.main_theorem.MainTheorem.{Plan, procedures_by}
use Rattle.fixed_point.specs.Fixed.{stands_in, result_by}
use Rattle.fixed_point.specs.Written.{NamesAlike}

-- a source is written by this plan and naming, and lowering knows this of the result
pub record IsFirstWritten (plan : Plan) (program : Program) (naming : Naming) (told : FlowFacts)
    : Type 0 where
  pub source : IsSource plan.told program
  -- each chooser that may be left out gives some arm
  pub gives : GivesSome plan.told
  pub planned : IsPlan plan.told program plan.keep plan.others
  -- each procedure performs procedures, and nests
  pub nests : (number : ℕ) (procedure : Procedure) →
      slice_get (procedures_by plan program) number ≡ Some procedure →
      StmtsNest (λ entry exit. stands_in (procedures_by plan program) entry exit ≡ true)
      procedure.body
  pub structured : IsStructuredControl (result_by plan program naming)
  pub result : IsSource told (result_by plan program naming)
  pub names : NamesAlike naming plan.told told

-- flow paths enter each paragraph of the result after the first
abbrev pub ResultsAreEntered : Type 0
ResultsAreEntered =
    (plan : Plan) (program : Program) (naming : Naming) (told : FlowFacts) →
    IsFirstWritten plan program naming told → (number : ℕ) → 1 ≤ number →
    number < length (result_by plan program naming).paragraphs →
    IsEntered told (result_by plan program naming) (Part number number)
