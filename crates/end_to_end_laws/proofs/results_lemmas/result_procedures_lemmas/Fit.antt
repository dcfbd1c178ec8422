-- The sentences of a structured program fit, where its statements pass the tests.
use Rattle.std.proofs.Common.{◌≡◌, ◌≤◌, ℕ, suc, Bool, true, false, ◌&&◌, ◌||◌, is_some, inr, List, [], ◌∷◌, map, length, refl, arith}
use Rattle.std.specs.Prelude.{is_none, max}
use Rattle.std.proofs.lemmas.Bool.{and_parts, both_ways}
use Rattle.cob_tree.specs.Depth.{largest, stmts_depth, sentence_depth, paragraph_depth}
use Rattle.cob_tree.specs.declared.program.Paragraph.{Paragraph}
use Rattle.cob_tree.specs.declared.program.Sentence.{Sentence}
use Rattle.grammar_laws.specs.form_results.Giving.{Each}
use Rattle.cobol_grammar.specs.declared.stmt_forms.scope.Scope.{Scope}
use Rattle.cobol_grammar.specs.stmt_forms.Paragraph.{scope_of}
use Rattle.cob_base.specs.Limit.{max_nesting}
use Rattle.struct_form.specs.Nested.{sentences_nest, paragraph_nests, paragraphs_nest}
use Rattle.struct_form.proofs.Structured.{structured_nests}
use Rattle.round_trip.specs.fitting_statements.Fits.{Fits}
use Rattle.round_trip.specs.fitting_statements.Given.{FitSentences, FitParagraphs}
use Rattle.round_trip.specs.fitting_statements.Statement.{fit_sentence, are_fit_sentences, are_fit_paragraphs}
use Rattle.end_to_end_laws.specs.results.result_procedures.Laws.{IsFilled, AreFilled, StructuredSentencesFit}
use Rattle.end_to_end_laws.proofs.results_lemmas.result_procedures_lemmas.Scope.{in-scope}

left-under : (a b n : ℕ) → max a b ≤ n → a ≤ n
left-under a b n h = omega (arith, h)

right-under : (a b n : ℕ) → max a b ≤ n → b ≤ n
right-under a b n h = omega (arith, h)

module _ (fits : Fits) (count : ℕ) where
  sentences-fit : (here : ℕ) (scope : Scope) (list : List Sentence) → sentences_nest count here list ≡ true → largest (map sentence_depth list) ≤ max_nesting → Each IsFilled list →
      are_fit_sentences fits list ≡ true → FitSentences fits scope list
  sentences-fit here scope [] nests depth filled fit = absurd (both_ways false refl nests)
  sentences-fit here scope (sentence ∷ []) nests depth filled fit =
      let parts = and_parts (fit_sentence fits sentence) true fit in
      inr (
        record {
          filled = filled.0;
          fit = parts.0;
          in_scope = in-scope count here scope sentence.stmts nests;
          depth = left-under (stmts_depth sentence.stmts) 0 max_nesting depth;
        },
        tt,
      )
  sentences-fit here scope (sentence ∷ next ∷ others) nests depth filled fit = absurd (both_ways false refl nests)

  paragraphs-fit : (here : ℕ) (in_section : Bool) (list : List Paragraph) → paragraphs_nest count here list ≡ true → largest (map paragraph_depth list) ≤ max_nesting → AreFilled list →
      are_fit_paragraphs fits list ≡ true → FitParagraphs fits in_section list
  paragraphs-fit here in_section [] nests depth filled fit = tt
  paragraphs-fit here in_section (paragraph ∷ list) nests depth filled fit =
      let one = and_parts (paragraph_nests count here paragraph) (paragraphs_nest count (suc here) list) nests in
      let its = and_parts (is_some paragraph.name && is_none paragraph.section) (sentences_nest count here paragraph.sentences) one.0 in
      let pass = and_parts (are_fit_sentences fits paragraph.sentences) (are_fit_paragraphs fits list) fit in
      let within = is_some paragraph.section || in_section in (
        sentences-fit here (scope_of within) paragraph.sentences its.1 (left-under (paragraph_depth paragraph) (largest (map paragraph_depth list)) max_nesting depth) filled.0 pass.0,
        paragraphs-fit (suc here) within list one.1 (right-under (paragraph_depth paragraph) (largest (map paragraph_depth list)) max_nesting depth) filled.1 pass.1,
      )

pub sentences-pass : StructuredSentencesFit
sentences-pass fits program structured depth filled fit =
    paragraphs-fit fits (length program.paragraphs) 0 false program.paragraphs (structured_nests program structured) depth filled fit
