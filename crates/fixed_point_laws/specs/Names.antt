-- What parts are called in a result, and again in what that is restructured to.
use Rattle.std.specs.Prelude.{ℕ, ◌≡◌, Bool, false, List}
use Rattle.cob_tree.specs.declared.file.FileEntry.{FileEntry}
use Rattle.control_flow_theory.specs.language.Language.{Act, Picker, Range}
use Rattle.control_flow_theory.specs.lowering.Completes.{skips}
use Rattle.control_flow_theory.specs.rendering.Rendering.{written_act}
use Rattle.program_facts.specs.completion.FlowFacts.{flow_facts_of}
use Rattle.statement_builders.specs.arms.Written.{Way, naming_in}
use Rattle.fixed_point.specs.Written.{NamesAlike, KeepsParts}
use Rattle.fixed_point.specs.Choices.{ChooserAgain}

-- the parts of COBOL keep their names
abbrev pub PartsKeepNames : Type 0
PartsKeepNames = (way : Way) → KeepsParts (naming_in way)

-- where AT END is there in what is written, the first arm may be given, and nowhere else
abbrev pub ReadsAreAlike : Type 0
ReadsAreAlike = (way : Way) (files : List FileEntry) (once again : List (List ℕ)) →
    NamesAlike (naming_in way) (flow_facts_of files once) (flow_facts_of files again)

-- what does something is written as what does something
abbrev pub WhatActsIsWrittenSo : Type 0
WhatActsIsWrittenSo = (way : Way) (place : Range → ℕ) (files : List FileEntry)
    (once again : List (List ℕ)) (range : Range) (act : Act) →
    skips (flow_facts_of files once) act ≡ false →
    skips (flow_facts_of files again) (written_act (naming_in way) place range act) ≡ false

-- a chooser that is written is written as itself
abbrev pub ChoosersComeAgain : Type 0
ChoosersComeAgain = (way other : Way) (range : Range) (picker : Picker) (arms : List Bool) →
    ChooserAgain (naming_in way) range (naming_in other) picker arms
