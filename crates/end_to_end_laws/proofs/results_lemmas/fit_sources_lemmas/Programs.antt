-- The statements of a program that is read pass the tests of its own names.
use Rattle.std.proofs.Common.{◌≡◌, ℕ, zero, suc, List, [], ◌∷◌, drop, None, ap, sym, ◌∙◌, subst}
use Rattle.std.specs.Prelude.{false}
use Rattle.cob_tree.specs.declared.program.Program.{Program}
use Rattle.cobol_lex.specs.declared.token.Token.{Token}
use Rattle.parser_combinators.specs.Form.{Input, Got}
use Rattle.parser_combinators.specs.Reading.{start}
use Rattle.symbol_tables.specs.data_names.Names.{names_of}
use Rattle.declaration_checks.specs.Declaring.{declared_of}
use Rattle.symbol_tables.specs.declared.procedure_names.table.ProcedureTable.{ProcedureTable}
use Rattle.symbol_tables.specs.procedure_names.Procedures.{procedures_of}
use Rattle.cobol_grammar.specs.stmt_forms.Paragraph.{division}
use Rattle.cobol_grammar.specs.Whole.{parts_of}
use Rattle.cobol_grammar.proofs.PartLaws as part_laws
use Rattle.cobol_read.specs.declared.program.Declarations.{Declarations}
use Rattle.cobol_read.specs.declared.program.ProgramDraft.{ProgramDraft}
use Rattle.cobol_read.specs.Program as forms
use Rattle.cobol_read.specs.Program.{declarations_of, program_of}
use Rattle.cobol_read.proofs.ProgramLaws as program_laws
use Rattle.grammar_laws.specs.form_results.Giving.{AreOf}
use Rattle.round_trip.specs.printable.printable_tokens.Printable.{IsPrintable}
use Rattle.round_trip.proofs.printable_lemmas.printable_tokens_lemmas.Tokens.{printable}
use Rattle.end_to_end_laws.proofs.read_programs_lemmas.division_readings_lemmas.Begin.{read-where-counted}
use Rattle.end_to_end_laws.proofs.read_programs_lemmas.own_names_lemmas.Own.{read-own}
use Rattle.round_trip.proofs.declarations_lemmas.Entries.{none_of}
use Rattle.round_trip.specs.fitting_statements.Given.{FitParagraphs}
use Rattle.round_trip.proofs.fitting_statements_lemmas.Paragraphs as fit_paragraphs
use Rattle.round_trip.specs.fitting_statements.own_fits.Own.{own_names, source_fits}
use Rattle.end_to_end_laws.specs.results.fit_sources.Laws.{ProgramsThatAreReadFit}
use Rattle.end_to_end_laws.proofs.results_lemmas.fit_sources_lemmas.Parts.{read-pass}

-- what is left of tokens of a kind
each-drop : (n : ℕ) (tokens : List Token) → AreOf IsPrintable tokens → AreOf IsPrintable (drop n tokens)
each-drop zero tokens are = are
each-drop (suc n) [] are = tt
each-drop (suc n) (t ∷ tokens) are = each-drop n tokens are.1

-- its paragraphs, over what its tokens declare
module _ (tokens : List Token) (are : AreOf IsPrintable tokens) (draft : ProgramDraft) (q : Input) (read : (forms.program (declarations_of tokens)).reads (start tokens) ≡ Got draft q) (clean : q.fault ≡ None) where
  abbrev known : Declarations
  known = declarations_of tokens

  abbrev program : Program
  program = program_of known draft

  abbrev there : Input
  there = (read-where-counted tokens draft q read).input

  abbrev source : ProcedureTable
  source = procedures_of there.rest there.taken

  names-are : known.names ≡ own_names program
  names-are =
      let own = read-own tokens draft q read in
      own.names ∙ ap (λ entries. names_of (declared_of draft.divisions).files entries) (sym own.entries)

  procedures-are : known.procedures ≡ source
  procedures-are =
      let r = read-where-counted tokens draft q read in
      sym (ap (λ list. procedures_of list there.taken) r.rest ∙ ap (λ n. procedures_of (drop n tokens) n) r.taken)

  reads-own : (division (parts_of (own_names program) program.entries source)).reads there ≡ Got draft.paragraphs q
  reads-own =
      let r = read-where-counted tokens draft q read in
      sym (ap (λ names. (division (parts_of names known.entries known.procedures)).reads there) names-are
      ∙ ap (λ table. (division (parts_of (own_names program) known.entries table)).reads there) procedures-are)
      ∙ r.reads

  are-there : AreOf IsPrintable there.rest
  are-there =
      let r = read-where-counted tokens draft q read in
      subst (λ list. AreOf IsPrintable list) (sym r.rest) (each-drop there.taken tokens are)

  pub own-fit : FitParagraphs (source_fits program) false program.paragraphs
  own-fit =
      let lawful = part_laws.parts (own_names program) program.entries source in
      ((fit_paragraphs.division lawful (read-pass program source)).gives there draft.paragraphs q reads-own are-there clean).1

pub read-fit : ProgramsThatAreReadFit
read-fit bytes found reads =
    let h = reads.has_room.has_syntax in
    let words = h.has_words.has_few in
    let known = declarations_of h.tokens in
    let none = none_of known.fault h.noted (sym h.fault_is) in
    let read = (program_laws.program known).lawful.complete (start h.tokens) h.draft h.spelled.0 h.spelled.1 in
    let are = printable bytes words.has_tokens.text h.tokens words.has_tokens.has_text.formatted words.has_tokens.lexed in
    subst (λ p. FitParagraphs (source_fits p) false p.paragraphs) (sym h.is) (own-fit h.tokens are h.draft h.spelled.0 read (h.spelled.3 ∙ none.1))
