-- The procedures of a program that is read have names of their own.
use Rattle.std.proofs.Common.{◌≡◌, List, None, ap, sym, ◌∙◌, subst, drop}
use Rattle.cobol_lex.specs.declared.token.Token.{Token}
use Rattle.parser_combinators.specs.Form.{Input, Got}
use Rattle.parser_combinators.specs.Reading.{start}
use Rattle.symbol_tables.specs.declared.procedure_names.table.ProcedureTable.{ProcedureTable}
use Rattle.symbol_tables.specs.procedure_names.Procedures.{procedures_of}
use Rattle.cobol_grammar.specs.stmt_forms.Paragraph.{division}
use Rattle.cobol_grammar.specs.Whole.{parts_of}
use Rattle.cobol_read.specs.declared.program.Declarations.{Declarations}
use Rattle.cobol_read.specs.declared.program.ProgramDraft.{ProgramDraft}
use Rattle.cobol_read.specs.Program as forms
use Rattle.cobol_read.specs.Program.{declarations_of, program_of}
use Rattle.cobol_read.proofs.ProgramLaws as program_laws
use Rattle.end_to_end_laws.proofs.read_programs_lemmas.printable_reading_lemmas.Whole.{read-printable}
use Rattle.round_trip.specs.printable.Whole.{IsPrintableProgram}
use Rattle.end_to_end_laws.proofs.read_programs_lemmas.division_readings_lemmas.Begin.{read-where-counted}
use Rattle.round_trip.proofs.declarations_lemmas.Entries.{none_of}
use Rattle.round_trip.specs.procedures.Outline.{HasProcedures}
use Rattle.round_trip.specs.procedures.Own.{IsReadWith}
use Rattle.round_trip.proofs.procedures_lemmas.Division.{division-is-told}
use Rattle.round_trip.proofs.procedures_lemmas.Titles.{titled}
use Rattle.end_to_end_laws.specs.results.result_procedures.Laws.{ProgramsThatAreReadHaveProcedures}

module _ (tokens : List Token) (draft : ProgramDraft) (q : Input) (read : (forms.program (declarations_of tokens)).reads (start tokens) ≡ Got draft q) (clean : q.fault ≡ None) where
  abbrev known : Declarations
  known = declarations_of tokens

  abbrev there : Input
  there = (read-where-counted tokens draft q read).input

  abbrev source : ProcedureTable
  source = procedures_of there.rest there.taken

  procedures-are : known.procedures ≡ source
  procedures-are =
      let r = read-where-counted tokens draft q read in
      sym (ap (λ list. procedures_of list there.taken) r.rest ∙ ap (λ n. procedures_of (drop n tokens) n) r.taken)

  is-read : IsReadWith source draft.paragraphs
  is-read =
      let r = read-where-counted tokens draft q read in
      division-is-told known.names known.entries there draft.paragraphs q
      (subst (λ table. (division (parts_of known.names known.entries table)).reads there ≡ Got draft.paragraphs q) procedures-are r.reads) clean

  has-procedures : IsPrintableProgram (program_of known draft) → HasProcedures (program_of known draft)
  has-procedures can = record {
    outlined = is-read.outlined;
    titled = titled draft.paragraphs can.paragraphs;
    different = is-read.different;
  }

pub read-have : ProgramsThatAreReadHaveProcedures
read-have bytes program reads =
    let h = reads.has_room.has_syntax in
    let known = declarations_of h.tokens in
    let none = none_of known.fault h.noted (sym h.fault_is) in
    let read = (program_laws.program known).lawful.complete (start h.tokens) h.draft h.spelled.0 h.spelled.1 in
    let can = read-printable bytes program reads in
    subst (λ p. HasProcedures p) (sym h.is) (has-procedures h.tokens h.draft h.spelled.0 read (h.spelled.3 ∙ none.1) (subst (λ p. IsPrintableProgram p) h.is can))
