-- The rests of paragraphs, one after the other.
use Rattle.std.proofs.Common.{◌≡◌, ℕ, suc, ◌+◌, ◌-◌, ◌*◌, ◌≤◌, ◌<◌, true, false, if◌then◌else◌, List, [], ◌∷◌, ◌++◌, map, drop, get_or, length, is_some, refl, ap, ap₂, sym, ◌∙◌, subst, arith, add-one}
use Rattle.std.proofs.Math.Seq.{drop-cons}
use Rattle.std.proofs.lemmas.Bool.{and_parts}
use Rattle.std.proofs.lemmas.List.{drop_all}
use Rattle.std.proofs.lemmas.List.Sums.{sum_by-cons}
use Rattle.cob_tree.specs.declared.program.Paragraph.{Paragraph}
use Rattle.cob_tree.specs.declared.program.Program.{Program}
use Rattle.cob_tree.specs.declared.program.Sentence.{Sentence}
use Rattle.control_flow_theory.specs.language.Control.{control_of, section_last, seen_paragraph, seen_paragraphs, seen_sentence}
use Rattle.control_flow_theory.specs.language.Language as language
use Rattle.control_flow_theory.specs.language.OwnItems.{paragraphs_own, sentences_own}
use Rattle.control_flow_theory.specs.semantics.Graph as graph
use Rattle.control_flow_theory.specs.lowering.FlowFacts.{FlowFacts}
use Rattle.control_flow_theory.specs.lowering.Completes.{sizes}
use Rattle.control_flow_theory.specs.lowering.Lower as lower
use Rattle.control_flow_theory.specs.lowering.Lowered.{nodes_from, nodes_left, place_in, total, Within}
use Rattle.control_flow_theory.specs.lowering.Rests.{leaf_of, leaving_of, rest_from, tree_of}
use Rattle.lowering_labels.proofs.points_lemmas.SizeLemmas.{sizes-seen}
use Rattle.lowering_labels.specs.declared.points.layout.PlaceTable.{PlaceTable}
use Rattle.lowering_labels.specs.points.Layout.{end_from, IsLayout, paragraph_size, place_at, places_from}
use Rattle.statement_lowering.specs.declared.context.LoweringContext.{LoweringContext}
use Rattle.statement_lowering.specs.LowerList.{flow_facts_by}
use Rattle.statement_lowering.specs.declared.continuations.continuation.Continuation.{Continuation}
use Rattle.statement_lowering.specs.continuations.Successors.{Lowering}
use Rattle.statement_lowering.specs.continuations.Paragraphs.{AddsParagraph, AreRestsOf, EndsBefore, graph_of, HasParagraph, left_at, nodes_of_paragraph, nodes_of_sentences, rest_behind, sentence_size, sentence_sizes}
use Rattle.statement_lowering.specs.continuations.Statements.{Agrees, AllFit, AreRests}
use Rattle.statement_lowering.proofs.continuations_lemmas.Adding.{fit_append, longer_by, rests_append}
use Rattle.statement_lowering.proofs.continuations_lemmas.Begins.{within-sentences}
use Rattle.statement_lowering.proofs.continuations_lemmas.Within.{agrees_left, agrees_right, within-append, within-lower}

-- Sections.

pub section_next : (j last : ℕ) (paragraph : Paragraph) (others : List Paragraph) → last ≡ section_last j (paragraph ∷ others) → j + 1 ≤ last → last ≡ section_last (j + 1) others
section_next j last paragraph others is le =
    elim (is_some paragraph.section) as (λ b. last ≡ (if b then j else section_last (suc j) others) → last ≡ section_last (j + 1) others) [
      | true ↦ λ e. absurd (omega (arith, e, le))
      | false ↦ λ e. e ∙ ap (λ n. section_last n others) (omega arith)
    ] is

pub section_on : (paragraphs : List Paragraph) (number last : ℕ) → number < length paragraphs → EndsBefore paragraphs number last → 0 < number → number ≤ last →
    last ≡ section_last number (drop (number + 1) paragraphs)
section_on [] number last lt h gt le = absurd (omega (arith, lt))
section_on (first ∷ rest) number last lt h gt le =
    let all : List Paragraph = first ∷ rest in
    let j : number ≡ (number - 1) + 1 = omega (arith, gt) in
    let cons : drop number all ≡ get_or all number first ∷ drop (number + 1) all = rw (add-one number) (drop-cons all number first lt) in
    section_next (number - 1) last (get_or all number first) (drop (number + 1) all) (h (number - 1) j ∙ ap (section_last (number - 1)) cons) (omega (arith, le, j))
    ∙ ap (λ n. section_last n (drop (number + 1) all)) (sym j)

-- Places.

total_is : (last : ℕ) (sentences : List Sentence) → total (map (seen_sentence last) sentences) ≡ sentence_sizes sentences
total_is last [] = refl
total_is last (sentence ∷ others) = ap₂ (λ a b. a + b) (sizes-seen last sentence.stmts) (total_is last others) ∙ sym (sum_by-cons sentence_size sentence others)

pub place_first : (place : ℕ) (paragraphs : List Paragraph) → place_at (places_from place paragraphs) (end_from place paragraphs) 0 ≡ place
place_first place [] = refl
place_first place (paragraph ∷ others) = refl

pub paragraphs_below : (place : ℕ) (paragraphs : List Paragraph) → place + length paragraphs ≤ end_from place paragraphs
paragraphs_below place [] = omega arith
paragraphs_below place (paragraph ∷ others) = omega (arith, paragraphs_below (place + 1 + paragraph_size paragraph) others)

-- Nodes.

module _ (told : FlowFacts) (program : language.Program) (leaving : lower.EscapeTargets) where
  nodes_alike : (place : ℕ) (sentences : List language.Stmts) → nodes_left told program leaving (rest_from told place sentences) ≡ nodes_of_sentences told (place_in program) leaving place sentences
  nodes_alike place [] = refl
  nodes_alike place (sentence ∷ others) =
      let rest = rest_behind told (place_in program) leaving sentence place others in
      ap (λ xs. lower.nodes told (place_in program) sentence place (leaving_of told (place_in program) leaving rest) (leaf_of told (place_in program) leaving rest) (tree_of told (place_in program) leaving rest) ++ xs)
      (nodes_alike (place + sizes sentence) others)

module _ (told : FlowFacts) (program : language.Program) (range : language.Range) where
  abbrev ends : ℕ → graph.End
  ends = lower.paragraph_end_target (place_in program) program range

  abbrev first_nodes : ℕ → ℕ → language.Paragraph → List lower.Node
  first_nodes number place paragraph = nodes_of_paragraph told (place_in program) (left_at ends number) place paragraph

  pub from_first : (number place : ℕ) (paragraph : language.Paragraph) (others : List language.Paragraph) →
      nodes_from told program range number place (paragraph ∷ others) ≡ first_nodes number place paragraph ++ nodes_from told program range (suc number) (place + 1 + total paragraph) others
  from_first number place paragraph others =
      ap (λ xs. lower.node (lower.point place) (tree_of told (place_in program) (left_at ends number) (rest_from told (place + 1) paragraph)) ∷ (xs ++ nodes_from told program range (suc number) (place + 1 + total paragraph) others))
      (nodes_alike told program (left_at ends number) (place + 1) paragraph)

  within-paragraph : (number last place : ℕ) (paragraph : Paragraph) → Within (3 * place) (3 * (place + 1 + paragraph_size paragraph)) (first_nodes number place (seen_paragraph last paragraph))
  within-paragraph number last place paragraph =
      let xs = nodes_of_sentences told (place_in program) (left_at ends number) (place + 1) (map (seen_sentence last) paragraph.sentences) in (
        omega arith,
        within-lower (3 * (place + 1)) (3 * place + 1) (3 * (place + 1 + paragraph_size paragraph)) xs (omega arith) (within-sentences told (place_in program) (left_at ends number) last (place + 1) paragraph.sentences),
      )

  within-from : (number place : ℕ) (paragraphs : List Paragraph) → Within (3 * place) (3 * end_from place paragraphs) (nodes_from told program range number place (seen_paragraphs number paragraphs))
  within-from number place [] = omega arith
  within-from number place (paragraph ∷ others) =
      let last = section_last number others in
      let seen = seen_paragraph last paragraph in
      let next = place + 1 + paragraph_size paragraph in
      let ys = nodes_from told program range (suc number) (place + 1 + total seen) (seen_paragraphs (suc number) others) in
      let far : place + 1 + total seen ≡ next = ap (λ n. place + 1 + n) (total_is last paragraph.sentences) in
      subst (Within (3 * place) (3 * end_from place (paragraph ∷ others))) (sym (from_first number place seen (seen_paragraphs (suc number) others)))
      (within-append (3 * place) (3 * next) (3 * end_from place (paragraph ∷ others)) (first_nodes number place seen) ys (within-paragraph number last place paragraph)
      (subst (λ n. Within (3 * next) (3 * end_from place (paragraph ∷ others)) (nodes_from told program range (suc number) n (seen_paragraphs (suc number) others))) (sym far) (within-from (suc number) next others)))

  -- those of a paragraph, and of the paragraphs behind it
  pub paragraph_split : (node : graph.Label → graph.Tree) (number place : ℕ) (paragraph : Paragraph) (others : List Paragraph) →
      Agrees node (3 * place) (3 * end_from place (paragraph ∷ others)) (nodes_from told program range number place (seen_paragraphs number (paragraph ∷ others))) →
      Agrees node (3 * place) (3 * (place + 1 + paragraph_size paragraph)) (first_nodes number place (seen_paragraph (section_last number others) paragraph))
      × Agrees node (3 * (place + 1 + paragraph_size paragraph)) (3 * end_from (place + 1 + paragraph_size paragraph) others)
      (nodes_from told program range (suc number) (place + 1 + paragraph_size paragraph) (seen_paragraphs (suc number) others))
  paragraph_split node number place paragraph others has =
      let last = section_last number others in
      let seen = seen_paragraph last paragraph in
      let next = place + 1 + paragraph_size paragraph in
      let end = end_from next others in
      let ys = nodes_from told program range (suc number) next (seen_paragraphs (suc number) others) in
      let far : place + 1 + total seen ≡ next = ap (λ n. place + 1 + n) (total_is last paragraph.sentences) in
      let all : Agrees node (3 * place) (3 * end) (first_nodes number place seen ++ ys) =
      subst (Agrees node (3 * place) (3 * end))
      (from_first number place seen (seen_paragraphs (suc number) others)
      ∙ ap (λ n. first_nodes number place seen ++ nodes_from told program range (suc number) n (seen_paragraphs (suc number) others)) far) has in
      let left = within-paragraph number last place paragraph in
      let right = within-from (suc number) next others in
      let le : 3 * next ≤ 3 * end = omega (arith, paragraphs_below next others) in (
        agrees_left node (3 * place) (3 * next) (3 * end) (first_nodes number place seen) ys left right le all,
        agrees_right node (3 * place) (3 * next) (3 * end) (first_nodes number place seen) ys left (omega arith) all,
      )

-- A table so far.

module _ (telling : LoweringContext) (program : Program) where
  abbrev layout : PlaceTable
  layout = telling.layout.now

  abbrev paragraphs : List Paragraph
  paragraphs = program.paragraphs

  abbrev Placed : Type 0
  Placed = IsLayout program layout.places.items layout.end

  abbrev graph_in : language.Range → Placed → Lowering layout
  graph_in range placed = graph_of telling program range placed

  pub record Paragraphs (i last : ℕ) (spots : List Continuation) : Type 0 where
    pub end : end_from (length spots) (drop i paragraphs) ≡ layout.end
    pub places : (j : ℕ) → place_at layout.places.items layout.end (i + j) ≡ place_at (places_from (length spots) (drop i paragraphs)) (end_from (length spots) (drop i paragraphs)) j
    pub own : paragraphs_own (drop i paragraphs) ≡ true
    pub section : (j : ℕ) → i ≡ j + 1 → last ≡ section_last j (drop i paragraphs)
    pub fit : AllFit layout.end 0 spots
    pub rests : (range : language.Range) (placed : Placed) → AreRests layout (graph_in range placed) 0 spots
    pub left : (range : language.Range) (placed : Placed) →
        Agrees (graph_in range placed).node (3 * length spots) (3 * layout.end)
        (nodes_from (flow_facts_by telling) (control_of program) range i (length spots) (seen_paragraphs i (drop i paragraphs)))

  pub paragraphs_begin : (last : ℕ) → Placed → paragraphs_own paragraphs ≡ true → Paragraphs 0 last []
  paragraphs_begin last placed own = record {
    end = sym placed.last;
    places = λ j. ap (place_at layout.places.items layout.end) (omega arith) ∙ ap₂ (λ t e. place_at t e j) placed.table placed.last;
    own = own;
    section = λ j is. absurd (omega (arith, is));
    fit = tt;
    rests = λ range at. tt;
    left = λ range at label low high. refl;
  }

  pub paragraphs_over : (i last : ℕ) (spots : List Continuation) → length paragraphs ≤ i → Paragraphs i last spots → AreRestsOf telling program spots
  paragraphs_over i last spots le a = record {
    count = sym (ap (end_from (length spots)) (drop_all i paragraphs le)) ∙ a.end;
    fit = a.fit;
    rests = a.rests;
  }

  module _ (i : ℕ) (paragraph : Paragraph) (lt : i < length paragraphs) (at : paragraph ≡ get_or paragraphs i paragraph) where
    abbrev behind : List Paragraph
    behind = drop (i + 1) paragraphs

    first_left : drop i paragraphs ≡ paragraph ∷ behind
    first_left = rw (add-one i) (drop-cons paragraphs i paragraph lt) ∙ ap (λ p. p ∷ behind) (sym at)

    module _ (last : ℕ) (spots : List Continuation) (a : Paragraphs i last spots) where
      abbrev next : ℕ
      next = length spots + 1 + paragraph_size paragraph

      pub own_first : (sentences_own paragraph.sentences ≡ true) × (paragraphs_own behind ≡ true)
      own_first = and_parts (sentences_own paragraph.sentences) (paragraphs_own behind) (sym (ap paragraphs_own first_left) ∙ a.own)

      -- the place behind it
      pub next_place : place_at layout.places.items layout.end (i + 1) ≡ next
      next_place =
          a.places 1 ∙ ap (λ ps. place_at (places_from (length spots) ps) (end_from (length spots) ps) 1) first_left ∙ place_first next behind

      end_behind : end_from next behind ≡ layout.end
      end_behind = sym (ap (end_from (length spots)) first_left) ∙ a.end

      pub next_below : next + length behind ≤ layout.end
      next_below = omega (arith, paragraphs_below next behind, end_behind)

      -- the last one of its section
      pub section_kept : i ≤ last → 0 < i → last ≡ section_last i behind
      section_kept le gt =
          let j : i ≡ (i - 1) + 1 = omega arith in
          section_next (i - 1) last paragraph behind (a.section (i - 1) j ∙ ap (section_last (i - 1)) first_left) (omega (arith, le, j)) ∙ ap (λ n. section_last n behind) (sym j)

      here : (range : language.Range) (placed : Placed) →
          Agrees (graph_in range placed).node (3 * length spots) (3 * end_from (length spots) (paragraph ∷ behind))
          (nodes_from (flow_facts_by telling) (control_of program) range i (length spots) (seen_paragraphs i (paragraph ∷ behind)))
      here range placed =
          subst (λ ps. Agrees (graph_in range placed).node (3 * length spots) (3 * end_from (length spots) ps) (nodes_from (flow_facts_by telling) (control_of program) range i (length spots) (seen_paragraphs i ps))) first_left
          (subst (λ n. Agrees (graph_in range placed).node (3 * length spots) (3 * n) (nodes_from (flow_facts_by telling) (control_of program) range i (length spots) (seen_paragraphs i (drop i paragraphs)))) (sym a.end) (a.left range placed))

      split : (range : language.Range) (placed : Placed) →
          Agrees (graph_in range placed).node (3 * length spots) (3 * next)
          (nodes_of_paragraph (flow_facts_by telling) (place_in (control_of program)) (left_at (lower.paragraph_end_target (place_in (control_of program)) (control_of program) range) i) (length spots) (seen_paragraph (section_last i behind) paragraph))
          × Agrees (graph_in range placed).node (3 * next) (3 * end_from next behind) (nodes_from (flow_facts_by telling) (control_of program) range (suc i) next (seen_paragraphs (suc i) behind))
      split range placed = paragraph_split (flow_facts_by telling) (control_of program) range (graph_in range placed).node i (length spots) paragraph behind (here range placed)

      has_first : (range : language.Range) (placed : Placed) (number : ℕ) → number ≡ i → HasParagraph telling (graph_in range placed) paragraph (length spots) number (section_last i behind)
      has_first range placed number is =
          subst (λ n. HasParagraph telling (graph_in range placed) paragraph (length spots) n (section_last i behind)) (sym is)
          (record { files = refl; returning = refl; nodes = (split range placed).0 })

      pub paragraphs_more : (number found : ℕ) (new : List Continuation) → number ≡ i → found ≡ section_last i behind → AddsParagraph telling paragraph number found spots new → Paragraphs (i + 1) found new
      paragraphs_more number found new is found_is h =
          let far : length new ≡ next = longer_by layout (1 + paragraph_size paragraph) (λ g. HasParagraph telling g paragraph (length spots) number found) spots new h ∙ omega arith in
          record {
            end = ap (λ n. end_from n behind) far ∙ end_behind;
            places = λ j.
                ap (place_at layout.places.items layout.end) (omega arith)
                ∙ a.places (suc j)
                ∙ ap (λ ps. place_at (places_from (length spots) ps) (end_from (length spots) ps) (suc j)) first_left
                ∙ ap (λ n. place_at (places_from n behind) (end_from n behind) j) (sym far);
            own = own_first.1;
            section = λ j at. found_is ∙ ap (λ n. section_last n behind) (omega (arith, at));
            fit = subst (AllFit layout.end 0) (sym h.is) (fit_append layout.end 0 spots h.made a.fit (subst (λ n. AllFit layout.end n h.made) (omega arith) h.fits));
            rests = λ range placed.
                subst (AreRests layout (graph_in range placed) 0) (sym h.is)
                (rests_append layout (graph_in range placed) 0 spots h.made (a.rests range placed)
                (subst (λ n. AreRests layout (graph_in range placed) n h.made) (omega arith)
                (h.rests (graph_in range placed) (subst (HasParagraph telling (graph_in range placed) paragraph (length spots) number) (sym found_is) (has_first range placed number is)))));
            left = λ range placed.
                subst (λ n. Agrees (graph_in range placed).node (3 * n) (3 * layout.end) (nodes_from (flow_facts_by telling) (control_of program) range (i + 1) n (seen_paragraphs (i + 1) behind))) (sym far)
                (subst (λ k. Agrees (graph_in range placed).node (3 * next) (3 * layout.end) (nodes_from (flow_facts_by telling) (control_of program) range k next (seen_paragraphs k behind))) (sym (add-one i))
                (subst (λ n. Agrees (graph_in range placed).node (3 * next) (3 * n) (nodes_from (flow_facts_by telling) (control_of program) range (suc i) next (seen_paragraphs (suc i) behind))) end_behind (split range placed).1));
          }
