-- The paragraphs and sections of a program by name, as its own paragraphs tell them where they are
-- printed: the header of a section is three tokens, and that of a paragraph two.
use Rattle.std.specs.Prelude.{ℕ, ◌+◌, false, List, [], ◌∷◌, length, Option, Some, None}
use Rattle.cob_tree.specs.declared.program.Paragraph.{Paragraph}
use Rattle.cob_tree.specs.declared.program.Program.{Program}
use Rattle.cob_tree.specs.declared.program.Sentence.{Sentence}
use Rattle.cobol_print.specs.Unit.{all_tokens}
use Rattle.cobol_print.specs.units.Division.{paragraph_units}
use Rattle.symbol_tables.specs.declared.procedure_names.scan.Scan.{Scan}
use Rattle.symbol_tables.specs.declared.procedure_names.table.ProcedureTable.{ProcedureTable}
use Rattle.symbol_tables.specs.procedure_names.Procedures.{start, section_headed, paragraph_headed, unheaded, closed}

-- the header of a section, if there is one
abbrev pub section_told : Option (List ℕ) → (index : ℕ) → Scan → Scan
section_told None index scan = scan
section_told (Some section) index scan = section_headed section index scan

-- how many tokens there are, with that header
abbrev pub behind_section : Option (List ℕ) → (index : ℕ) → ℕ
behind_section None index = index
behind_section (Some section) index = index + 3

-- the name of a paragraph, if it has one
abbrev pub name_told : Option (List ℕ) → (index : ℕ) → Scan → Scan
name_told None index scan = scan
name_told (Some name) index scan = paragraph_headed name index scan

-- sentences, if there are any
abbrev pub sentences_told : List Sentence → Scan → Scan
sentences_told [] scan = scan
sentences_told (sentence ∷ sentences) scan = unheaded false scan

-- a paragraph, after so many tokens
abbrev pub paragraph_told : (name section : Option (List ℕ)) → List Sentence → (index : ℕ) →
    Scan → Scan
paragraph_told name section sentences index scan =
    sentences_told sentences
    (name_told name (behind_section section index) (section_told section index scan))

-- each after the tokens of those before it
abbrev pub paragraphs_told : Program → List Paragraph → (index : ℕ) → Scan → Scan
paragraphs_told program [] index scan = scan
paragraphs_told program (paragraph ∷ paragraphs) index scan =
    paragraphs_told program paragraphs
    (index + length (all_tokens (paragraph_units program paragraph)))
    (paragraph_told paragraph.name paragraph.section paragraph.sentences index scan)

-- all of a program, before whose paragraphs there are so many tokens
abbrev pub own_procedures : Program → (taken : ℕ) → ProcedureTable
own_procedures program taken = closed (paragraphs_told program program.paragraphs taken start)
