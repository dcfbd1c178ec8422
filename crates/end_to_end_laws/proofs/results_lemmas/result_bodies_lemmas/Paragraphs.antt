-- The paragraphs of control that is written of procedures.
use Rattle.std.proofs.Common.{◌≡◌, ℕ, zero, suc, List, [], ◌∷◌, map, Some, slice_get, refl, ap, sym, ◌∙◌}
use Rattle.cob_tree.specs.declared.program.Paragraph.{Paragraph}
use Rattle.cob_tree.specs.declared.program.Sentence.{Sentence}
use Rattle.control_flow_theory.specs.language.Control.{seen_stmts, seen_sentence, seen_paragraph, seen_paragraphs, section_last}
use Rattle.control_flow_theory.specs.language.Language as language
use Rattle.control_flow_theory.specs.rendering.Rendering.{place_of, written_paragraph}
use Rattle.control_flow_theory.proofs.rendering_lemmas.Written.{or_else}
use Rattle.end_to_end_laws.specs.results.result_bodies.Bodies.{written_sentence}
use Rattle.end_to_end_laws.specs.results.result_bodies.Laws.{ParagraphsAreWritten}

seen-at : (number : ℕ) (paragraphs : List Paragraph) (at : ℕ) (paragraph : Paragraph) →
    slice_get paragraphs at ≡ Some paragraph →
    (last : ℕ) × (slice_get (seen_paragraphs number paragraphs) at
    ≡ Some (seen_paragraph last paragraph))
seen-at number [] at paragraph is = cc
seen-at number (first ∷ others) zero paragraph is =
    let last = section_last number others in
    (last, ap (λ p. Some (seen_paragraph last p)) (ap (or_else first) is))
seen-at number (first ∷ others) (suc at) paragraph is =
    seen-at (suc number) others at paragraph is

from-map : {A B : Type 0} (f : A → B) (xs : List A) (at : ℕ) (y : B) →
    slice_get (map f xs) at ≡ Some y → (x : A) × (slice_get xs at ≡ Some x) × (f x ≡ y)
from-map f [] at y is = cc
from-map f (x ∷ xs) zero y is = (x, refl, ap (or_else (f x)) is)
from-map f (x ∷ xs) (suc at) y is = from-map f xs at y is

-- sentences whose control is one list are one
one-sentence : (last : ℕ) (sentences : List Sentence) (whole : language.Stmts) →
    whole ∷ [] ≡ map (seen_sentence last) sentences →
    (sentence : Sentence) × (sentences ≡ sentence ∷ []) × (seen_stmts last sentence.stmts ≡ whole)
one-sentence last [] whole is = cc
one-sentence last (sentence ∷ []) whole is = (sentence, refl, first-is whole _ is)
  where
    first-is : (a b : language.Stmts) → a ∷ [] ≡ b ∷ [] → b ≡ a
    first-is a b e = cc
one-sentence last (sentence ∷ next ∷ sentences) whole is = cc

pub are-written : ParagraphsAreWritten
are-written made naming procedures control at paragraph is =
    let seen = seen-at 0 made.paragraphs at paragraph is in
    let same = ap (λ (whole : language.Program). slice_get whole.paragraphs at) control in
    let from = from-map (written_paragraph naming (place_of procedures)) procedures at
    (seen_paragraph seen.0 paragraph) (sym same ∙ seen.1) in
    let one = one-sentence seen.0 paragraph.sentences
    (written_sentence naming procedures from.0) from.2 in (
      from.0,
      from.1,
      record { sentence = one.0; alone = one.1; last = seen.0; seen = one.2 },
    )
