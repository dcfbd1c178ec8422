-- A program whose sentences fit is spelled by what is printed of it.
use Rattle.std.proofs.Common.{◌≡◌, ℕ, Bool, true, false, ◌||◌, is_some, List, [], ◌∷◌, drop, Option, Some, None, refl, sym, subst}
use Rattle.cob_tree.specs.declared.program.Paragraph.{Paragraph}
use Rattle.cob_tree.specs.declared.program.Program.{Program}
use Rattle.cob_tree.specs.declared.program.Sentence.{Sentence}
use Rattle.cobol_grammar.specs.declared.expr_forms.side.Side.{Side}
use Rattle.symbol_tables.specs.declared.procedure_names.table.ProcedureTable.{ProcedureTable}
use Rattle.cobol_grammar.specs.stmt_forms.Paragraph.{scope_of}
use Rattle.cobol_grammar.specs.stmt_forms.Part.{Parts}
use Rattle.cobol_grammar.specs.declared.subject_kind.SubjectKind.{SubjectKind}
use Rattle.cobol_grammar.specs.Whole.{parts_of}
use Rattle.round_trip.specs.spelling.stmt_spelling.Division.{SpellsDivision}
use Rattle.round_trip.specs.spelling.stmt_spelling.Part.{Kept}
use Rattle.round_trip.specs.spelling.Kept.{kept_of}
use Rattle.round_trip.specs.fitting_statements.Fits.{Fits}
use Rattle.round_trip.specs.fitting_statements.Given.{FitSentences, FitParagraphs}
use Rattle.round_trip.specs.fitting_statements.Spelling.{FitsSpell}
use Rattle.round_trip.proofs.fitting_statements_lemmas.Spelled as fit_sentences
use Rattle.round_trip.specs.procedures.readable_stmts.Body.{SpellsBody, SpellsBehind, SpellsFirstBody, SpellsBodies}
use Rattle.round_trip.proofs.procedures_lemmas.readable_stmts_lemmas.Headed as headed
use Rattle.round_trip.specs.procedures.Outline.{MayFollow, is_bare, AreHeaded, MayBegin, AreOutlined, HasProcedures}
use Rattle.round_trip.specs.procedures.Told as told_procedures
use Rattle.round_trip.proofs.procedures_lemmas.Labels as labels
use Rattle.round_trip.specs.fitting_statements.own_fits.Own.{own_names}
use Rattle.end_to_end_laws.specs.read_programs.readable_programs.Readable.{own_procedures, own_tokens, tokens_before, IsSpelled}
use Rattle.end_to_end_laws.proofs.read_programs_lemmas.readable_division_lemmas.Told as told
use Rattle.end_to_end_laws.specs.results.result_procedures.Laws.{Spell, FitProgramsAreSpelled}

-- ---- over open parts

module _ {Side SubjectKind : Type 0} {parts : Parts Side SubjectKind} {kept : Kept Side} {program : Program} {fits : Fits} (F : FitsSpell parts kept program fits) where
  body : (bare in_section : Bool) (name section : Option (List ℕ)) (list : List Sentence) → MayFollow bare name section → FitSentences fits (scope_of (is_some section || in_section)) list →
      SpellsBody parts kept program bare in_section name section list
  body bare in_section None None list follows fit = absurd follows
  body bare in_section (Some name) None list follows fit = (follows, fit_sentences.sentences F (scope_of in_section) list fit)
  body bare in_section None (Some section) list follows fit = fit_sentences.sentences F (scope_of true) list fit
  body bare in_section (Some name) (Some section) list follows fit = fit_sentences.sentences F (scope_of true) list fit

  behind : (bare in_section : Bool) (list : List Paragraph) → AreHeaded bare list → FitParagraphs fits in_section list → SpellsBehind parts kept program bare in_section list
  behind bare in_section [] outlined fit = tt
  behind bare in_section (paragraph ∷ list) outlined fit = (
    body bare in_section paragraph.name paragraph.section paragraph.sentences outlined.0 fit.0,
    behind (is_bare paragraph) (is_some paragraph.section || in_section) list outlined.1 fit.1,
  )

  first-body : (name section : Option (List ℕ)) (paragraph : Paragraph) (list : List Paragraph) → name ≡ paragraph.name → section ≡ paragraph.section → MayBegin name section paragraph list →
      FitParagraphs fits false (paragraph ∷ list) → SpellsFirstBody parts kept program name section paragraph list
  first-body None None paragraph list n s begins fit =
      let within = subst (λ o. FitSentences fits (scope_of (is_some o || false)) paragraph.sentences × FitParagraphs fits (is_some o || false) list) (sym s) fit in
      (fit_sentences.sentences F (scope_of false) paragraph.sentences within.0, (begins.0, behind false false list begins.1 within.1))
  first-body (Some name) None paragraph list n s begins fit = behind false false (paragraph ∷ list) begins fit
  first-body None (Some section) paragraph list n s begins fit = behind false false (paragraph ∷ list) begins fit
  first-body (Some name) (Some section) paragraph list n s begins fit = behind false false (paragraph ∷ list) begins fit

  bodies : (list : List Paragraph) → AreOutlined list → FitParagraphs fits false list → SpellsBodies parts kept program list
  bodies [] outlined fit = absurd outlined
  bodies (paragraph ∷ list) outlined fit = first-body paragraph.name paragraph.section paragraph list refl refl outlined fit

-- ---- over the names and paragraphs of the program

module _ (fits : Fits) (program : Program) (H : HasProcedures program) (F : Spell fits program) (fit : FitParagraphs fits false program.paragraphs) where
  abbrev taken : ℕ
  taken = tokens_before program

  abbrev table : ProcedureTable
  table = told_procedures.own_procedures program taken

  abbrev parts : Parts Side SubjectKind
  parts = parts_of (own_names program) program.entries table

  abbrev kept : Kept Side
  kept = kept_of (own_names program) program

  spelled : SpellsDivision parts kept program taken program.paragraphs
  spelled =
      headed.division parts kept program taken program.paragraphs (bodies F program.paragraphs H.outlined fit)
      (told.headers (own_names program) program.entries table program taken program.paragraphs (labels.headers program taken H))

  own-spelled : IsSpelled program
  own-spelled =
      let same : own_procedures program ≡ table =
      told.own-told (own_names program) program.entries table program taken spelled (drop taken (own_tokens program)) (told.own-kinds program) in
      subst (λ t. SpellsDivision (parts_of (own_names program) program.entries t) kept program taken program.paragraphs) (sym same) spelled

pub fit-spelled : FitProgramsAreSpelled
fit-spelled fits program H F fit = own-spelled fits program H F fit
