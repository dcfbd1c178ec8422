-- COBOL's choices choose again as they do.
use Rattle.std.specs.Prelude.{ℕ, List}
use Rattle.control_flow_theory.specs.language.Language.{Picker, Arms, Range}
use Rattle.control_flow_theory.specs.rendering.Rendering.{Procedure}
use Rattle.program_facts.specs.completion.FlowFacts.{width_of}
use Rattle.statement_builders.specs.arms.Written.{Way, naming_in}
use Rattle.fixed_point.specs.Choices.{ChoiceFits}
use Rattle.fixed_point.specs.Written.{PickerAgain}
use Rattle.fixed_point_laws.specs.Counting.{counting}

-- a choice that has its arms is written once more as it was written
abbrev pub CountedChoicesComeAgain : Type 0
CountedChoicesComeAgain =
    (way other : Way) (place again_place : Range → ℕ) (range again_range : Range)
    (procedures : List Procedure) (picker : Picker) (arms : Arms) →
    ChoiceFits (naming_in way) (counting width_of way.table.most) procedures range picker arms →
    PickerAgain (naming_in way) place range (naming_in other) again_place again_range picker arms
