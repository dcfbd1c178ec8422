-- What the printed tokens of a program tell of its procedures, and which headers it has.
use Rattle.std.proofs.Common.{◌≡◌, ℕ, zero, suc, ◌+◌, List, [], ◌∷◌, ◌++◌, length, drop, Option, Some, None, refl, ap, ◌∙◌}
use Rattle.cob_tree.specs.declared.entry.Entry.{Entry}
use Rattle.cob_tree.specs.declared.program.Paragraph.{Paragraph}
use Rattle.cob_tree.specs.declared.program.Program.{Program}
use Rattle.cobol_lex.specs.declared.token.Token.{Token}
use Rattle.cobol_lex.specs.declared.token.TokenKind.{TokenKind}
use Rattle.cobol_print.specs.Unit.{all_tokens}
use Rattle.cobol_print.proofs.PrintsAll.{prints_all}
use Rattle.cobol_print.specs.units.Division.{paragraphs_units, program_units}
use Rattle.symbol_tables.specs.data_names.Names.{Names}
use Rattle.symbol_tables.specs.declared.procedure_names.table.ProcedureTable.{ProcedureTable}
use Rattle.symbol_tables.specs.procedure_names.Procedures.{procedures_of}
use Rattle.cobol_grammar.specs.declared.expr_forms.side.Side.{Side}
use Rattle.cobol_grammar.specs.stmt_forms.Part.{Parts}
use Rattle.cobol_grammar.specs.declared.subject_kind.SubjectKind.{SubjectKind}
use Rattle.cobol_grammar.specs.Whole.{parts_of}
use Rattle.cobol_grammar.proofs.PartLaws as part_laws
use Rattle.grammar_laws.proofs.no_periods_lemmas.Plainly as plainly
use Rattle.round_trip.specs.spelled_forms.Spelling.{kinds_of}
use Rattle.round_trip.specs.spelling.stmt_spelling.Division.{SpellsHeader, SpellsDivision}
use Rattle.round_trip.specs.spelling.Kept.{kept_of}
use Rattle.round_trip.proofs.spelling_lemmas.Headers.{header_spelled}
use Rattle.round_trip.proofs.spelling_lemmas.Told.{parts_are_told}
use Rattle.round_trip.specs.procedures.Own as own
use Rattle.round_trip.specs.procedures.Told.{own_procedures, behind_section}
use Rattle.round_trip.proofs.procedures_lemmas.Printed.{named-header, procedures-told}
use Rattle.end_to_end_laws.specs.read_programs.readable_programs.Readable.{units_before, tokens_before, own_tokens}
use Rattle.end_to_end_laws.proofs.read_programs_lemmas.readable_programs_lemmas.Units.{split-units}
use Rattle.round_trip.specs.procedures.readable_stmts.Body as body

-- what the tokens of printed paragraphs tell
pub own-told : (names : Names) (entries : List Entry) (table : ProcedureTable) (program : Program) (taken : ℕ) →
    SpellsDivision (parts_of names entries table) (kept_of names program) program taken program.paragraphs → (tokens : List Token) →
    kinds_of tokens ≡ all_tokens (paragraphs_units program program.paragraphs) → procedures_of tokens taken ≡ own_procedures program taken
own-told names entries table program taken h tokens e =
    procedures-told (part_laws.parts names entries table) (plainly.parts names entries table) (parts_are_told names entries table program) program
    (named-header (parts_of names entries table) (kept_of names program) program) taken h tokens e

-- ---- the tokens of the paragraphs

kinds-drop : (n : ℕ) (tokens : List Token) → kinds_of (drop n tokens) ≡ drop n (kinds_of tokens)
kinds-drop zero tokens = refl
kinds-drop (suc n) [] = refl
kinds-drop (suc n) (t ∷ tokens) = kinds-drop n tokens

behind-front : (front back : List TokenKind) → drop (length front) (front ++ back) ≡ back
behind-front [] back = refl
behind-front (kind ∷ front) back = behind-front front back

pub own-kinds : (program : Program) → kinds_of (drop (tokens_before program) (own_tokens program)) ≡ all_tokens (paragraphs_units program program.paragraphs)
own-kinds program =
    kinds-drop (tokens_before program) (own_tokens program)
    ∙ (ap (drop (tokens_before program)) (prints_all 0 (program_units program) ∙ split-units program)
    ∙ behind-front (all_tokens (units_before program)) (all_tokens (paragraphs_units program program.paragraphs)))

-- ---- headers where they are printed

module _ (names : Names) (entries : List Entry) (table : ProcedureTable) (program : Program) where
  abbrev again : Parts Side SubjectKind
  again = parts_of names entries table

  header : (name : List ℕ) (taken : ℕ) → own.IfHeader table (Some name) taken → SpellsHeader again (kept_of names program) program name taken
  header name taken h = header_spelled names entries table program name taken h

  headed : (taken : ℕ) (name section : Option (List ℕ)) → own.IfHeader table section taken → own.IfHeader table name (behind_section section taken) →
      body.IsHeaded again (kept_of names program) program taken name section
  headed taken None None s n = tt
  headed taken (Some name) None s n = header name taken n
  headed taken None (Some section) s n = header section taken s
  headed taken (Some name) (Some section) s n = (header section taken s, header name (taken + 3) n)

  pub headers : (taken : ℕ) (list : List Paragraph) → own.AreHeaders table program list taken → body.AreHeaders again (kept_of names program) program taken list
  headers taken [] h = tt
  headers taken (paragraph ∷ list) h = (headed taken paragraph.name paragraph.section h.0 h.1.0, headers (taken + _) list h.1.1)
