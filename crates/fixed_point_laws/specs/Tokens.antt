-- How many tokens a program is printed as.
use Rattle.std.specs.Prelude.{ℕ, suc, ◌+◌, ◌≤◌, List, [], ◌∷◌, All, IsSome, length}
use Rattle.cob_tree.specs.declared.program.Paragraph.{Paragraph}
use Rattle.cob_tree.specs.declared.program.Program.{Program}
use Rattle.control_flow_theory.specs.language.Control.{control_of}
use Rattle.control_flow_theory.specs.language.Language as language
use Rattle.control_flow_theory.specs.lowering.Lowered.{total}
use Rattle.cobol_print.specs.Unit.{all_tokens}
use Rattle.cobol_print.specs.units.Division.{program_units}

-- how many paragraphs and statements there are
abbrev pub parts_of : List language.Paragraph → ℕ
parts_of [] = 0
parts_of (paragraph ∷ others) = suc (total paragraph) + parts_of others

-- the paragraph has a name
abbrev pub IsNamed : Paragraph → Type 0
IsNamed paragraph = IsSome paragraph.name

-- there is one token at least for each paragraph that has a name, and for each statement
abbrev pub EachPartIsAToken : Type 0
EachPartIsAToken = (program : Program) → All IsNamed program.paragraphs →
    parts_of (control_of program).paragraphs ≤ length (all_tokens (program_units program))
