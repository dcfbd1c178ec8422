-- What a program is restructured to is structured.
use Rattle.std.proofs.Common.{◌≡◌, ℕ, zero, suc, Bool, true, false, not, List, [], ◌∷◌, map, Some, slice_get, refl, ap, sym, ◌∙◌, subst}
use Rattle.std.specs.Prelude.{All, is_some}
use Rattle.cob_tree.specs.declared.program.Paragraph.{Paragraph}
use Rattle.cob_tree.specs.declared.program.Program.{Program}
use Rattle.cob_tree.specs.declared.program.Sentence.{Sentence}
use Rattle.cob_tree.specs.declared.stmt.Stmt.{Stmt}
use Rattle.control_flow_theory.specs.language.Control.{control_of, seen_paragraph, seen_paragraphs, seen_sentence, section_last}
use Rattle.control_flow_theory.specs.language.Language as language
use Rattle.struct_form.specs.Structured.{NoExit, IsProcedure, stmts_exitless}
use Rattle.grammar_laws.specs.short_lists.lone_exits.Alone.{is_exit, exits_alone}
use Rattle.program_facts.specs.completion.FlowFacts.{flow_facts_of}
use Rattle.control_flow_theory.specs.rendering.Rendering.{Naming, Procedure, place_of, written_paragraph}
use Rattle.control_flow_theory.proofs.rendering_lemmas.Written.{or_else}
use Rattle.control_flow_theory.specs.main_theorem.MainTheorem.{procedures_by}
use Rattle.control_flow_theory.specs.expressible_graphs.Served.{ProgramIsServed}
use Rattle.pending_returns.specs.FaultFree.{IsFaultFree}
use Rattle.pending_returns.specs.declared.facts.Summary.{Summary}
use Rattle.cobol_theory.specs.cobol_headline.Alike.{naming_of}
use Rattle.out_names.specs.Naming.{names_of}
use Rattle.procedure_split.specs.split_behaviour.Alike.{IsWellMade}
use Rattle.procedure_split.proofs.made_procedures_lemmas.Rows.{beside}
use Rattle.procedure_split.proofs.split_behaviour_lemmas.Named.{all-at}
use Rattle.procedure_split.proofs.split_form_lemmas.Lacking.{StmtsLack}
use Rattle.procedure_split.proofs.split_form_lemmas.Exitless.{all-exitless}
use Rattle.procedure_split.proofs.split_form_lemmas.Sources.{no_exits, paragraphs-are}
use Rattle.procedure_split.proofs.split_form_lemmas.Standing.{stands-exitless}
use Rattle.procedure_split.proofs.split_form_lemmas.WrittenLack.{LackExits, sentence-lacks}
use Rattle.end_to_end_laws.specs.results.restructured_programs.Result.{IsRestructuredTo}
use Rattle.end_to_end_laws.specs.results.restructured_programs.Laws.{ResultsAreStructured}
use Rattle.end_to_end_laws.proofs.read_programs_lemmas.exit_reading_lemmas.Alone.{read-alone}
use Rattle.end_to_end_laws.proofs.results_lemmas.read_headline_lemmas.WellMade.{well-made}
use Rattle.end_to_end_laws.proofs.results_lemmas.restructured_programs_lemmas.Behaving.{is-written, results-alike, writing}
use Rattle.end_to_end_laws.proofs.results_lemmas.restructured_programs_lemmas.OneResult.{names-as-many}
use Rattle.end_to_end_laws.proofs.results_lemmas.restructured_programs_lemmas.Planned as planned

-- ---- lists

seen-at : (number : ℕ) (paragraphs : List Paragraph) (at : ℕ) (paragraph : Paragraph) →
    slice_get paragraphs at ≡ Some paragraph →
    (last : ℕ) × (slice_get (seen_paragraphs number paragraphs) at
    ≡ Some (seen_paragraph last paragraph))
seen-at number [] at paragraph is = cc
seen-at number (first ∷ others) zero paragraph is =
    let last = section_last number others in
    (last, ap (λ p. Some (seen_paragraph last p)) (ap (or_else first) is))
seen-at number (first ∷ others) (suc at) paragraph is =
    seen-at (suc number) others at paragraph is

from-map : {A B : Type 0} (f : A → B) (xs : List A) (at : ℕ) (y : B) →
    slice_get (map f xs) at ≡ Some y → (x : A) × (slice_get xs at ≡ Some x) × (f x ≡ y)
from-map f [] at y is = cc
from-map f (x ∷ xs) zero y is = (x, refl, ap (or_else (f x)) is)
from-map f (x ∷ xs) (suc at) y is = from-map f xs at y is

abbrev SentencesLack : language.Paragraph → Type 0
SentencesLack [] = Unit {0}
SentencesLack (sentence ∷ sentences) = StmtsLack sentence × SentencesLack sentences

sentence-at : (last : ℕ) (sentences : List Sentence) →
    SentencesLack (map (seen_sentence last) sentences) → (at : ℕ) (sentence : Sentence) →
    slice_get sentences at ≡ Some sentence → stmts_exitless sentence.stmts ≡ true
sentence-at last [] lack at sentence is = cc
sentence-at last (first ∷ sentences) lack zero sentence is =
    subst (λ (s : Sentence). stmts_exitless s.stmts ≡ true) (ap (or_else first) is)
    (all-exitless last first.stmts lack.0)
sentence-at last (first ∷ sentences) lack (suc at) sentence is =
    sentence-at last sentences lack.1 at sentence is

no-exit : (simple : Stmt) → not (is_exit simple) ≡ true → is_exit simple ≡ false
no-exit simple = turned (is_exit simple)
  where
    turned : (b : Bool) → not b ≡ true → b ≡ false
    turned true h = absurd (cc)
    turned false h = refl

-- ---- the paragraphs that are made

module _ (program made : Program) (summary : Summary) (well : IsWellMade program)
    (alone : exits_alone program ≡ true) (flows : IsFaultFree program summary)
    (result : IsRestructuredTo program summary made) where
  abbrev naming : Naming
  naming = naming_of program (writing program made summary well flows result)

  abbrev procedures : List Procedure
  procedures =
      procedures_by (writing program made summary well flows result).plan (control_of program)

  abbrev write : Procedure → language.Paragraph
  write = written_paragraph naming (place_of procedures)

  lack : LackExits naming no_exits
  lack = record {
    nothing = refl;
    simples = no-exit;
    set = λ range cell value. refl;
    take = λ range cell amount. refl;
    lower = λ range cell. refl;
  }

  served : (range : language.Range) → ProgramIsServed naming no_exits
      (flow_facts_of program.files result.plan.returning) range (control_of program)
  served range =
      paragraphs-are naming (flow_facts_of program.files result.plan.returning) range refl 0
      program.paragraphs alone

  exitless-at : (at : ℕ) (paragraph : Paragraph) → slice_get made.paragraphs at ≡ Some paragraph →
      NoExit paragraph
  exitless-at at paragraph is =
      let seen = seen-at 0 made.paragraphs at paragraph is in
      let control = (is-written program made summary well flows result).control in
      let same = ap (λ (whole : language.Program). slice_get whole.paragraphs at) control in
      let from = from-map write procedures at (seen_paragraph seen.0 paragraph)
      (sym same ∙ seen.1) in
      let stands = stands-exitless naming (writing program made summary well flows result).plan
      (control_of program)
      (planned.is-source program summary well flows result.plan result.graphs result.lowered)
      (planned.some program summary well flows result.plan result.graphs result.lowered)
      (planned.is-plan program summary well flows result.plan result.graphs result.lowered) served at
      from.0 from.1 in
      let lacks : SentencesLack (write from.0) =
      (sentence-lacks naming no_exits lack procedures from.0 stands, tt) in
      all-at (λ (sentence : Sentence). stmts_exitless sentence.stmts ≡ true) paragraph.sentences
      (sentence-at seen.0 paragraph.sentences (subst SentencesLack from.2 lacks))

  procedure-at : (at : ℕ) (paragraph : Paragraph) →
      slice_get made.paragraphs at ≡ Some paragraph → IsProcedure paragraph
  procedure-at at paragraph is =
      let name = beside made.paragraphs (names_of program result.plan.order)
      (names-as-many program result.plan.order ∙ sym result.many) at paragraph is in
      let one = result.called at name.0 paragraph name.1 is in
      record {
        named = ap is_some one.named;
        free = one.free;
        exitless = exitless-at at paragraph is;
      }

  each-procedure : All IsProcedure made.paragraphs
  each-procedure = all-at IsProcedure made.paragraphs procedure-at

pub results-structured : ResultsAreStructured
results-structured bytes program made summary reads flows result = record {
  procedures = each-procedure program made summary (well-made bytes program reads)
      (read-alone bytes program reads) flows result;
  structured = (results-alike bytes program made summary reads flows result).0;
}
