-- What holds of the procedures that a program's own paragraphs tell.
use Rattle.std.specs.Prelude.{ℕ, ◌≡◌, List, ◌∷◌, None}
use Rattle.cob_tree.specs.declared.entry.Entry.{Entry}
use Rattle.cob_tree.specs.declared.program.Paragraph.{Paragraph}
use Rattle.cob_tree.specs.declared.program.Program.{Program}
use Rattle.cobol_lex.specs.declared.token.Token.{Token}
use Rattle.cobol_print.specs.Unit.{all_tokens}
use Rattle.cobol_print.specs.units.Division.{paragraphs_units}
use Rattle.symbol_tables.specs.data_names.Names.{Names}
use Rattle.parser_combinators.specs.Form.{Input, Got}
use Rattle.grammar_laws.specs.form_results.Giving.{Each}
use Rattle.round_trip.specs.printable.Whole.{IsPrintableParagraph}
use Rattle.symbol_tables.specs.declared.procedure_names.table.ProcedureTable.{ProcedureTable}
use Rattle.symbol_tables.specs.procedure_names.Procedures.{procedures_of}
use Rattle.cobol_grammar.specs.Whole.{parts_of}
use Rattle.cobol_grammar.specs.stmt_forms.Paragraph.{division}
use Rattle.round_trip.specs.spelled_forms.Spelling.{kinds_of}
use Rattle.round_trip.specs.spelling.stmt_spelling.Division.{SpellsDivision}
use Rattle.round_trip.specs.spelling.Kept.{kept_of}
use Rattle.round_trip.specs.procedures.Names.{AreTitled}
use Rattle.round_trip.specs.procedures.Outline.{AreOutlined, HaveNamesAlone, HasProcedures}
use Rattle.round_trip.specs.procedures.Own.{AreHeaders, AreLabelled, IsReadWith, without_indices}
use Rattle.round_trip.specs.procedures.Told.{own_procedures}

-- Tokens of the kinds that the paragraphs are printed with tell exactly these, after so many
-- tokens, where the paragraphs are spelled over any table.
abbrev pub PrintedProceduresAreTold : Type 0
PrintedProceduresAreTold =
    (names : Names) (entries : List Entry) (table : ProcedureTable) (program : Program)
    (taken : ℕ) →
    SpellsDivision (parts_of names entries table) (kept_of names program) program taken
    program.paragraphs →
    (tokens : List Token) →
    kinds_of tokens ≡ all_tokens (paragraphs_units program program.paragraphs) →
    procedures_of tokens taken ≡ own_procedures program taken

-- where each header is printed its name finds it
abbrev pub PrintedHeadersAreOwn : Type 0
PrintedHeadersAreOwn =
    (program : Program) (taken : ℕ) → HasProcedures program →
    AreHeaders (own_procedures program taken) program program.paragraphs taken

-- what a name stands for in a table that differs in places alone is named by labels
abbrev pub PrintedLabelsAreOwn : Type 0
PrintedLabelsAreOwn =
    (program : Program) (taken : ℕ) → HasProcedures program → (source : ProcedureTable) →
    without_indices source ≡ without_indices (own_procedures program taken) →
    AreLabelled source (own_procedures program taken) program

-- the procedures of a division that is read with no fault are those that its tokens tell
abbrev pub ReadProceduresAreOwn : Type 0
ReadProceduresAreOwn =
    (names : Names) (entries : List Entry) (p : Input) (found : List Paragraph) (q : Input) →
    (division (parts_of names entries (procedures_of p.rest p.taken))).reads p ≡ Got found q →
    q.fault ≡ None → IsReadWith (procedures_of p.rest p.taken) found

-- names that can be printed may be names of paragraphs and sections
abbrev pub PrintableNamesAreTitles : Type 0
PrintableNamesAreTitles =
    (paragraphs : List Paragraph) → Each IsPrintableParagraph paragraphs → AreTitled paragraphs

-- no source is needed to tell such paragraphs apart
abbrev pub NamedParagraphsAreOutlined : Type 0
NamedParagraphsAreOutlined =
    (paragraph : Paragraph) (paragraphs : List Paragraph) →
    HaveNamesAlone (paragraph ∷ paragraphs) → AreOutlined (paragraph ∷ paragraphs)
