-- Paragraphs whose sentences fit pass as a whole.
use Rattle.std.proofs.Common.{◌≡◌, Bool, true, ◌||◌, is_some, inl, inr, List, [], ◌∷◌, refl, ap, sym, ◌∙◌}
use Rattle.cob_tree.specs.declared.choice.Subject.{Subject}
use Rattle.cob_tree.specs.declared.program.Paragraph.{Paragraph}
use Rattle.cob_tree.specs.declared.program.Sentence.{Sentence}
use Rattle.cob_tree.specs.declared.stmt.Stmt.{fold-roll-Stmt}
use Rattle.cob_tree.specs.declared.stmt.Stmt.TheOpen.{Stmt-F}
use Rattle.cob_tree.specs.declared.stmt.Stmt.TheVariants as stmts
use Rattle.program_facts.proofs.well_scoped_lemmas.Made.{both}
use Rattle.cobol_grammar.specs.declared.stmt_forms.scope.Scope.{Scope}
use Rattle.round_trip.specs.spelling.stmt_spelling.Stmt.{Each}
use Rattle.round_trip.specs.fitting_statements.Fits.{Fits}
use Rattle.round_trip.specs.fitting_statements.Given.{FitSentence, FitSentences, FitParagraphs}
use Rattle.round_trip.specs.fitting_statements.Statement as fit
use Rattle.round_trip.specs.fitting_statements.Statement.{fit_stmt, are_fit_sentences, are_fit_paragraphs}

module _ (fits : Fits) where
  exit-passes : fit_stmt fits stmts.Exit ≡ true
  exit-passes =
      ap (fit_stmt fits) (sym stmts.rolls-Exit) ∙ fold-roll-Stmt Bool Bool (Subject → Bool) (fit.stmt_step fits) (fit.arms_step fits) (fit.when_step fits) Stmt-F.Exit

  each-passes : (scope : Scope) (list : List Sentence) → Each (FitSentence fits scope) list → are_fit_sentences fits list ≡ true
  each-passes scope [] h = refl
  each-passes scope (sentence ∷ list) h = let first = h.0 in both first.fit (each-passes scope list h.1)

  sentences-pass : (scope : Scope) (list : List Sentence) → FitSentences fits scope list → are_fit_sentences fits list ≡ true
  sentences-pass scope list (inl alone) = ap (are_fit_sentences fits) alone ∙ both (both exit-passes refl) refl
  sentences-pass scope list (inr each) = each-passes scope list each

  pub paragraphs-pass : (in_section : Bool) (list : List Paragraph) → FitParagraphs fits in_section list → are_fit_paragraphs fits list ≡ true
  paragraphs-pass in_section [] h = refl
  paragraphs-pass in_section (paragraph ∷ list) h =
      both (sentences-pass _ paragraph.sentences h.0) (paragraphs-pass (is_some paragraph.section || in_section) list h.1)
