-- What control keeps of a program.
use Rattle.std.specs.Prelude.{◌≡◌, List, map}
use Rattle.cob_tree.specs.declared.stmt.Stmt.{Stmt}
use Rattle.cob_tree.specs.declared.program.Paragraph.{Paragraph}
use Rattle.cob_tree.specs.declared.program.Program.{Program}
use Rattle.control_flow_theory.specs.language.Control.{control_of}
use Rattle.control_flow_theory.specs.language.Own.{OwnParagraphs}
use Rattle.control_flow_theory.specs.language.OwnItems.{NamesOwnItems}

-- the statements of paragraphs, sentence by sentence
abbrev pub statements_of : List Paragraph → List (List (List Stmt))
statements_of paragraphs =
    map (λ paragraph. map (λ sentence. sentence.stmts) paragraph.sentences) paragraphs

-- two programs with one control, without a word on an added item, have the same statements
abbrev pub ControlLosesNothing : Type 0
ControlLosesNothing =
    (program other : Program) → OwnParagraphs (control_of program).paragraphs →
    control_of program ≡ control_of other →
    statements_of program.paragraphs ≡ statements_of other.paragraphs

-- where each item number is below 2^31 there is no word on an added item
abbrev pub OwnItemsAlone : Type 0
OwnItemsAlone =
    (program : Program) → NamesOwnItems program → OwnParagraphs (control_of program).paragraphs

-- two programs with one control, of which one names its own items alone, have the same statements
abbrev pub SourceControlLosesNothing : Type 0
SourceControlLosesNothing =
    (program other : Program) → NamesOwnItems program → control_of program ≡ control_of other →
    statements_of program.paragraphs ≡ statements_of other.paragraphs
