-- What the levels of a structured program perform.
use Rattle.std.specs.Prelude.{ℕ, ◌≡◌, ◌≤◌, ◌<◌, length}
use Rattle.control_flow_theory.specs.language.Language.{Program, Range, Part}
use Rattle.control_flow_theory.specs.language.Structured.{NamesLater, IsStructuredControl}
use Rattle.control_flow_theory.specs.lowering.FlowFacts.{FlowFacts}
use Rattle.control_flow_theory.specs.lowering.flow.Called.{IsCalled}
use Rattle.control_flow_theory.specs.lowering.flow.Entered.{IsEntered}
use Rattle.fixed_point.specs.Again.{IsRangeAt}

-- the level of a paragraph performs only later ones, each by itself
abbrev pub LevelsPerformLater : Type 0
LevelsPerformLater =
    (told : FlowFacts) (program : Program) → IsStructuredControl program →
    (number : ℕ) (range : Range) →
    number < length program.paragraphs → IsRangeAt number range → (entry exit : ℕ) →
    IsCalled told program range entry exit →
    NamesLater (length program.paragraphs) number entry exit

-- each range of a structured program that is entered, but main, is a paragraph by itself
abbrev pub EnteredAreParagraphs : Type 0
EnteredAreParagraphs =
    (told : FlowFacts) (program : Program) → IsStructuredControl program → (entry exit : ℕ) →
    IsEntered told program (Part entry exit) →
    (entry ≡ exit) × (1 ≤ entry) × (entry < length program.paragraphs)
