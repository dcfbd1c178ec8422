-- Places of paragraphs.
use Rattle.std.proofs.Common.{◌≡◌, ℕ, zero, suc, ◌+◌, ◌≤◌, ◌<◌, List, [], ◌∷◌, ◌++◌, map, drop, get_or, length, sum_by, refl, ap, sym, ◌∙◌, arith, add-one}
use Rattle.std.proofs.Math.Seq.{drop-cons}
use Rattle.std.proofs.lemmas.List.Sums.{sum_by-cons}
use Rattle.std.proofs.lemmas.List.{drop_all, append_assoc}
use Rattle.cob_tree.specs.Places.{stmt_places, sentence_places, paragraph_places, program_places}
use Rattle.cob_tree.specs.declared.program.Sentence.{Sentence}
use Rattle.cob_tree.specs.declared.program.Paragraph.{Paragraph}
use Rattle.cob_tree.specs.declared.program.Program.{Program}
use Rattle.control_flow_theory.specs.language.Control.{seen_paragraphs, seen_sentence, section_last}
use Rattle.control_flow_theory.specs.lowering.Lowered.{total, place_from}
use Rattle.lowering_labels.specs.points.Layout.{paragraph_size, places_from, end_from, place_at, IsLayout}
use Rattle.lowering_labels.proofs.points_lemmas.SizeLemmas.{sizes-seen}

total-seen : (last : ℕ) (sentences : List Sentence) → total (map (seen_sentence last) sentences) ≡ sum_by (λ s. sum_by stmt_places s.stmts) sentences
total-seen last [] = refl
total-seen last (sentence ∷ sentences) =
    ap (λ n. n + total (map (seen_sentence last) sentences)) (sizes-seen last sentence.stmts)
    ∙ ap (λ n. sum_by stmt_places sentence.stmts + n) (total-seen last sentences)
    ∙ sym (sum_by-cons (λ (s : Sentence). sum_by stmt_places s.stmts) sentence sentences)

-- the table gives the places
at_table : (first place : ℕ) (paragraphs : List Paragraph) (number : ℕ) →
    place_at (places_from place paragraphs) (end_from place paragraphs) number ≡ place_from place (seen_paragraphs first paragraphs) number
at_table first place [] number = refl
at_table first place (paragraph ∷ others) zero = refl
at_table first place (paragraph ∷ others) (suc number) =
    at_table (suc first) (place + 1 + paragraph_size paragraph) others number
    ∙ ap (λ n. place_from (place + 1 + n) (seen_paragraphs (suc first) others) number) (sym (total-seen (section_last first others) paragraph.sentences))

pub table_is_layout : (program : Program) (places : List ℕ) (end : ℕ) → places ≡ places_from 0 program.paragraphs → end ≡ end_from 0 program.paragraphs →
    IsLayout program places end
table_is_layout program places end h g = record {
  table = h;
  last = g;
  places_in = λ number.
      ap (λ t. place_at t end number) h ∙ ap (λ e. place_at (places_from 0 program.paragraphs) e number) g
      ∙ at_table 0 0 program.paragraphs number;
}

-- the end is no less than where it begins, and no more than the program's places

pub end_above : (place : ℕ) (paragraphs : List Paragraph) → place ≤ end_from place paragraphs
end_above place [] = omega arith
end_above place (paragraph ∷ others) = omega (arith, end_above (place + 1 + paragraph_size paragraph) others)

sentences_below : (sentences : List Sentence) → sum_by (λ s. sum_by stmt_places s.stmts) sentences ≤ sum_by sentence_places sentences
sentences_below [] = omega arith
sentences_below (sentence ∷ sentences) =
    omega (
      arith,
      sentences_below sentences,
      sum_by-cons (λ (s : Sentence). sum_by stmt_places s.stmts) sentence sentences,
      sum_by-cons sentence_places sentence sentences,
    )

end_below : (place : ℕ) (paragraphs : List Paragraph) → end_from place paragraphs ≤ place + sum_by paragraph_places paragraphs
end_below place [] = omega arith
end_below place (paragraph ∷ others) =
    omega (
      arith,
      end_below (place + 1 + paragraph_size paragraph) others,
      sentences_below paragraph.sentences,
      sum_by-cons paragraph_places paragraph others,
    )

pub end_is_small : (program : Program) → end_from 0 program.paragraphs ≤ program_places program
end_is_small program = omega (arith, end_below 0 program.paragraphs)

pub one_placed : (place i : ℕ) (paragraphs : List Paragraph) (paragraph : Paragraph) → i < length paragraphs → paragraph ≡ get_or paragraphs i paragraph →
    (places_from place (drop i paragraphs) ≡ place ∷ places_from (place + 1 + paragraph_size paragraph) (drop (i + 1) paragraphs))
    × (end_from place (drop i paragraphs) ≡ end_from (place + 1 + paragraph_size paragraph) (drop (i + 1) paragraphs))
one_placed place i paragraphs paragraph lt is =
    let e : drop i paragraphs ≡ paragraph ∷ drop (i + 1) paragraphs = rw (add-one i) (drop-cons paragraphs i paragraph lt) ∙ ap (λ p. p ∷ drop (i + 1) paragraphs) (sym is) in
    (ap (places_from place) e, ap (end_from place) e)

pub over_placed : (place i : ℕ) (paragraphs : List Paragraph) → length paragraphs ≤ i →
    (places_from place (drop i paragraphs) ≡ []) × (end_from place (drop i paragraphs) ≡ place)
over_placed place i paragraphs le =
    let none : drop i paragraphs ≡ [] = drop_all i paragraphs le in (ap (places_from place) none, ap (end_from place) none)

-- one more paragraph is placed
pub placed_more : (placed : List ℕ) (place i : ℕ) (paragraphs : List Paragraph) (paragraph : Paragraph) (size : ℕ) → i < length paragraphs →
    paragraph ≡ get_or paragraphs i paragraph → size ≡ paragraph_size paragraph →
    placed ++ places_from place (drop i paragraphs) ≡ places_from 0 paragraphs → end_from place (drop i paragraphs) ≡ end_from 0 paragraphs →
    ((placed ++ place ∷ []) ++ places_from (place + 1 + size) (drop (i + 1) paragraphs) ≡ places_from 0 paragraphs)
    × (end_from (place + 1 + size) (drop (i + 1) paragraphs) ≡ end_from 0 paragraphs)
placed_more placed place i paragraphs paragraph size lt is e h g =
    let one = one_placed place i paragraphs paragraph lt is in (
      append_assoc placed (place ∷ []) (places_from (place + 1 + size) (drop (i + 1) paragraphs))
          ∙ ap (λ n. placed ++ place ∷ places_from (place + 1 + n) (drop (i + 1) paragraphs)) e
          ∙ sym (ap (λ l. placed ++ l) one.0) ∙ h,
      ap (λ n. end_from (place + 1 + n) (drop (i + 1) paragraphs)) e ∙ sym one.1 ∙ g,
    )

-- what is left fits below the end
pub placed_below : (place i : ℕ) (paragraphs : List Paragraph) (paragraph : Paragraph) → i < length paragraphs →
    paragraph ≡ get_or paragraphs i paragraph → place + 1 + paragraph_size paragraph ≤ end_from place (drop i paragraphs)
placed_below place i paragraphs paragraph lt is =
    let one = one_placed place i paragraphs paragraph lt is in
    omega (arith, one.1, end_above (place + 1 + paragraph_size paragraph) (drop (i + 1) paragraphs))
