-- What holds of the procedures of a split program.
use Rattle.std.specs.Prelude.{ℕ, ◌+◌, ◌^◌, ◌≡◌, ◌≤◌, ◌<◌, ◌==◌, ◌&&◌, nat_lt, Bool, true, false, List, length}
use Rattle.cob_tree.specs.Depth.{program_depth}
use Rattle.cob_tree.specs.declared.program.Paragraph.{Paragraph}
use Rattle.cob_tree.specs.declared.program.Program.{Program}
use Rattle.cob_tree.specs.declared.program.Range.{Range}
use Rattle.cob_tree.specs.declared.program.Sentence.{Sentence}
use Rattle.cob_tree.specs.declared.stmt.Stmt.{Stmt}
use Rattle.control_flow_theory.specs.language.Control.{control_of}
use Rattle.control_flow_theory.specs.rendering.Rendering.{Naming, Procedure, rendered}
use Rattle.program_facts.specs.well_scoped.Part.{is_filled}
use Rattle.grammar_laws.specs.form_results.Giving.{Each}
use Rattle.cobol_read.specs.Reading.{Reads}
use Rattle.out_names.specs.Naming.{names_of}
use Rattle.out_names.specs.Words.{program_words}
use Rattle.pending_returns.specs.declared.facts.Summary.{Summary}
use Rattle.procedure_split.specs.Splitting.{IsSplit}
use Rattle.struct_form.specs.Nested.{stmts_nest}
use Rattle.struct_form.specs.Structured.{IsStructured}
use Rattle.cobol_grammar.specs.declared.stmt_forms.scope.Scope.{Scope}
use Rattle.cob_base.specs.Limit.{max_nesting}
use Rattle.cobol_grammar.specs.Whole.{parts_of}
use Rattle.round_trip.specs.printable.printable_tokens.Header.{IsHeaderName}
use Rattle.round_trip.specs.printable.Whole.{IsPrintableProgram}
use Rattle.round_trip.specs.spelling.Kept.{kept_of}
use Rattle.round_trip.specs.spelling.Named.{IsRange}
use Rattle.round_trip.specs.fitting_statements.Fits.{Fits}
use Rattle.round_trip.specs.fitting_statements.Given.{FitParagraphs}
use Rattle.round_trip.specs.fitting_statements.Scope.{are_in_scope}
use Rattle.round_trip.specs.fitting_statements.Spelling.{FitsSpell}
use Rattle.round_trip.specs.fitting_statements.Statement.{are_fit_paragraphs}
use Rattle.round_trip.specs.fitting_statements.own_fits.Own.{own_names, own_fits}
use Rattle.round_trip.specs.procedures.Names.{AreDifferent, IsTitle}
use Rattle.round_trip.specs.procedures.Outline.{HasProcedures}
use Rattle.round_trip.specs.procedures.Told.{own_procedures}
use Rattle.end_to_end_laws.specs.read_programs.readable_programs.Readable.{tokens_before, IsSpelled}

-- ---- names

-- its words, and so many procedures, are so few that each number after a name has ten digits
abbrev pub AreFew : Program → ℕ → Type 0
AreFew program count = length (program_words program) + count < 2 ^ 31

-- each may be the name of a paragraph, and none comes twice
pub record AreTitles (names : List (List ℕ)) : Type 0 where
  pub titled : Each IsTitle names
  pub different : AreDifferent names

-- the names of procedures may be names of paragraphs, where those of the program's own procedures
-- may
abbrev pub ProcedureNamesAreTitles : Type 0
ProcedureNamesAreTitles =
    (program : Program) (order : List Range) → HasProcedures program →
    AreFew program (length order) → AreTitles (names_of program order)

-- the names of procedures can be printed
abbrev pub ProcedureNamesArePrintable : Type 0
ProcedureNamesArePrintable =
    (program : Program) (order : List Range) → IsPrintableProgram program →
    AreFew program (length order) → Each IsHeaderName (names_of program order)

-- ---- paragraphs

-- the procedures of a program that is read are told apart by their headers, and none has the name
-- of another one
abbrev pub ProgramsThatAreReadHaveProcedures : Type 0
ProgramsThatAreReadHaveProcedures =
    (bytes : List ℕ) (program : Program) → Reads bytes program → HasProcedures program

-- the procedures of a result are told apart by their names
abbrev pub SplitProgramsHaveProcedures : Type 0
SplitProgramsHaveProcedures =
    (program made : Program) (summary : Summary) → HasProcedures program →
    AreFew program (length made.paragraphs) → IsSplit program summary made → IsStructured made →
    HasProcedures made

-- each of them by itself is named by its label, after any number of tokens
abbrev pub StructuredProceduresAreRanges : Type 0
StructuredProceduresAreRanges =
    (program : Program) (taken number : ℕ) → HasProcedures program → IsStructured program →
    number < length program.paragraphs → IsRange (own_procedures program taken) program number
    number

-- ---- sentences

-- the statements of a structured program are in scope
abbrev pub NestedStatementsAreInScope : Type 0
NestedStatementsAreInScope =
    (count here : ℕ) (scope : Scope) (list : List Stmt) → stmts_nest count here list ≡ true →
    are_in_scope list scope ≡ true

-- the sentence has a statement
abbrev pub IsFilled : Sentence → Type 0
IsFilled sentence = is_filled sentence.stmts ≡ true

-- one statement or more is in each sentence
abbrev pub AreFilled : List Paragraph → Type 0
AreFilled paragraphs = Each (λ paragraph. Each IsFilled paragraph.sentences) paragraphs

-- each sentence of a program that is written of procedures has a statement
abbrev pub WrittenSentencesAreFilled : Type 0
WrittenSentencesAreFilled =
    (program : Program) (naming : Naming) (procedures : List Procedure) →
    control_of program ≡ rendered naming procedures → AreFilled program.paragraphs

-- the sentences of a structured program fit, where all its statements pass the tests
abbrev pub StructuredSentencesFit : Type 0
StructuredSentencesFit =
    (fits : Fits) (program : Program) → IsStructured program →
    program_depth program ≤ max_nesting → AreFilled program.paragraphs →
    are_fit_paragraphs fits program.paragraphs ≡ true →
    FitParagraphs fits false program.paragraphs

-- ---- all of it

-- what passes the tests spells what is asked of it, by the names and the paragraphs of the program
abbrev pub Spell : Fits → Program → Type 0
Spell fits program =
    FitsSpell
    (parts_of (own_names program) program.entries (own_procedures program (tokens_before program)))
    (kept_of (own_names program) program) program fits

-- the tokens of a program whose sentences fit spell it, be it structured or not
abbrev pub FitProgramsAreSpelled : Type 0
FitProgramsAreSpelled =
    (fits : Fits) (program : Program) → HasProcedures program → Spell fits program →
    FitParagraphs fits false program.paragraphs → IsSpelled program

-- one procedure of so many, by itself
abbrev pub is_alone : (count entry exit : ℕ) → Bool
is_alone count entry exit = entry == exit && nat_lt entry count

-- the tests of the parts of a result, by the names of the program; nothing goes to a label, and
-- each procedure may be performed
abbrev pub result_fits : Program → Fits
result_fits made =
    own_fits made (λ number. false) (λ entry exit. is_alone (length made.paragraphs) entry exit)

-- the tokens of a result whose statements pass the tests spell it
abbrev pub FitResultsAreSpelled : Type 0
FitResultsAreSpelled =
    (program made : Program) (summary : Summary) → HasProcedures program →
    AreFew program (length made.paragraphs) → IsSplit program summary made → IsStructured made →
    program_depth made ≤ max_nesting → AreFilled made.paragraphs →
    are_fit_paragraphs (result_fits made) made.paragraphs ≡ true → IsSpelled made
