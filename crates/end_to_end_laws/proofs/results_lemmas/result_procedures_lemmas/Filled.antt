-- A statement stands in each sentence that is written of a procedure.
use Rattle.std.proofs.Common.{◌≡◌, ℕ, suc, Bool, true, false, List, [], ◌∷◌, map, refl, sym, subst}
use Rattle.cob_tree.specs.declared.program.Paragraph.{Paragraph}
use Rattle.cob_tree.specs.declared.program.Sentence.{Sentence}
use Rattle.cob_tree.specs.declared.stmt.Stmt.{Stmt}
use Rattle.control_flow_theory.specs.language.Control.{seen_stmts, seen_sentence, seen_paragraphs, section_last}
use Rattle.control_flow_theory.specs.language.Language as language
use Rattle.control_flow_theory.specs.language.Language.{Range, Simple, Stmts, none, also}
use Rattle.grammar_laws.specs.form_results.Giving.{Each}
use Rattle.program_facts.specs.well_scoped.Part.{is_filled}
use Rattle.control_flow_theory.specs.rendering.Rendering.{Naming, Procedure, required, then_stmts, written_stmts, closing, written_paragraph, place_of}
use Rattle.end_to_end_laws.specs.results.result_procedures.Laws.{IsFilled, AreFilled, WrittenSentencesAreFilled}

abbrev stands : Stmts → Bool
stands none = false
stands (also stmt stmts) = true

abbrev Stand : language.Paragraph → Type 0
Stand paragraph = Each (λ sentence. stands sentence ≡ true) paragraph

required-stands : (nothing : Simple) (stmts : Stmts) → stands (required nothing stmts) ≡ true
required-stands nothing none = refl
required-stands nothing (also stmt stmts) = refl

written-stand : (naming : Naming) (place : Range → ℕ) (procedures : List Procedure) → Each Stand (map (written_paragraph naming place) procedures)
written-stand naming place [] = tt
written-stand naming place (procedure ∷ procedures) = (
  (required-stands naming.nothing (then_stmts (written_stmts naming place procedure.range procedure.body) (closing procedure.range procedure.end)), tt),
  written-stand naming place procedures,
)

-- ---- and so in the tree

stmts-stand : (last : ℕ) (list : List Stmt) → stands (seen_stmts last list) ≡ true → is_filled list ≡ true
stmts-stand last [] h = h
stmts-stand last (stmt ∷ list) h = refl

sentences-stand : (last : ℕ) (list : List Sentence) → Stand (map (seen_sentence last) list) → Each IsFilled list
sentences-stand last [] h = tt
sentences-stand last (sentence ∷ list) h = (stmts-stand last sentence.stmts h.0, sentences-stand last list h.1)

paragraphs-stand : (first : ℕ) (list : List Paragraph) → Each Stand (seen_paragraphs first list) → AreFilled list
paragraphs-stand first [] h = tt
paragraphs-stand first (paragraph ∷ list) h = (sentences-stand (section_last first list) paragraph.sentences h.0, paragraphs-stand (suc first) list h.1)

pub filled : WrittenSentencesAreFilled
filled program naming procedures is =
    paragraphs-stand 0 program.paragraphs
    (subst (λ (written : language.Program). Each Stand written.paragraphs) (sym is) (written-stand naming (place_of procedures) procedures))
