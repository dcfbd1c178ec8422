-- Two programs with one control have the same statements.
use Rattle.std.proofs.Common.{◌≡◌, ℕ, suc, List, [], ◌∷◌, map, refl, ap, sym, ◌∙◌, subst}
use Rattle.cob_tree.specs.declared.stmt.Stmt.{Stmt}
use Rattle.cob_tree.specs.declared.program.Sentence.{Sentence}
use Rattle.cob_tree.specs.declared.program.Paragraph.{Paragraph}
use Rattle.control_flow_theory.specs.language.Language as language
use Rattle.control_flow_theory.specs.language.Control.{seen_sentence, section_last, seen_paragraphs}
use Rattle.control_flow_theory.specs.language.Own.{OwnParagraph, OwnParagraphs}
use Rattle.control_flow_theory.specs.language.Laws.{statements_of, ControlLosesNothing}
use Rattle.control_flow_theory.proofs.language_lemmas.Unseen.{unseen_stmts}
use Rattle.control_flow_theory.proofs.language_lemmas.ReadBack.{stmts-back}

abbrev sentences_of : List Sentence → List (List Stmt)
sentences_of sentences = map (λ sentence. sentence.stmts) sentences

sentences-back : (last : ℕ) (sentences : List Sentence) → OwnParagraph (map (seen_sentence last) sentences) → map unseen_stmts (map (seen_sentence last) sentences) ≡ sentences_of sentences
sentences-back last [] own = refl
sentences-back last (s ∷ ss) own =
    ap (λ x. x ∷ map unseen_stmts (map (seen_sentence last) ss)) (stmts-back last s.stmts own.0) ∙ ap (λ xs. s.stmts ∷ xs) (sentences-back last ss own.1)

abbrev unseen_paragraphs : List language.Paragraph → List (List (List Stmt))
unseen_paragraphs paragraphs = map (λ paragraph. map unseen_stmts paragraph) paragraphs

paragraphs-back : (number : ℕ) (paragraphs : List Paragraph) → OwnParagraphs (seen_paragraphs number paragraphs) → unseen_paragraphs (seen_paragraphs number paragraphs) ≡ statements_of paragraphs
paragraphs-back number [] own = refl
paragraphs-back number (p ∷ ps) own =
    ap (λ x. x ∷ unseen_paragraphs (seen_paragraphs (suc number) ps)) (sentences-back (section_last number ps) p.sentences own.0)
    ∙ ap (λ xs. sentences_of p.sentences ∷ xs) (paragraphs-back (suc number) ps own.1)

pub control-loses_nothing : ControlLosesNothing
control-loses_nothing program other own e =
    sym (paragraphs-back 0 program.paragraphs own)
    ∙ ap (λ c. unseen_paragraphs c.paragraphs) e
    ∙ paragraphs-back 0 other.paragraphs (subst (λ c. OwnParagraphs c.paragraphs) e own)
