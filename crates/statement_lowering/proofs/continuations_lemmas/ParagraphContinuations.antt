-- The rests of a paragraph.
use Rattle.std.proofs.Common.{◌≡◌, ℕ, ◌+◌, ◌-◌, ◌*◌, ◌≤◌, ◌<◌, Bool, true, false, if◌then◌else◌, List, [], ◌∷◌, ◌++◌, map, drop, get_or, length, reverse, sum_by, Option, None, refl, ap, ap₂, sym, ◌∙◌, subst, arith, add-one}
use Rattle.std.proofs.Math.Seq.{drop-cons}
use Rattle.std.proofs.lemmas.Bool.{and_parts}
use Rattle.std.proofs.lemmas.List.{drop_all}
use Rattle.std.proofs.lemmas.List.Sums.{sum_by-cons}
use Rattle.cob_tree.specs.Places.{stmt_places}
use Rattle.cob_tree.specs.declared.program.Paragraph.{Paragraph}
use Rattle.cob_tree.specs.declared.program.Sentence.{Sentence}
use Rattle.control_flow_theory.specs.language.Control.{seen_sentence, seen_stmts}
use Rattle.control_flow_theory.specs.language.OwnItems.{sentences_own, stmts_own}
use Rattle.control_flow_theory.specs.semantics.Graph as graph
use Rattle.program_facts.specs.completion.FlowFacts.{flow_facts_of}
use Rattle.control_flow_theory.specs.lowering.Completes.{cuts, leave_sentence}
use Rattle.control_flow_theory.specs.lowering.Lower as lower
use Rattle.control_flow_theory.specs.lowering.Rests.{rest_from, tree_of}
use Rattle.lowering_labels.specs.declared.points.layout.PlaceTable.{PlaceTable}
use Rattle.lowering_labels.specs.points.Layout.{paragraph_size}
use Rattle.statement_lowering.specs.declared.context.LoweringContext.{LoweringContext}
use Rattle.statement_lowering.specs.LowerList.{flow_facts_by}
use Rattle.statement_lowering.specs.declared.continuations.paragraphs.Begin.{Begin}
use Rattle.statement_lowering.specs.declared.continuations.continuation.Successors.{Successors}
use Rattle.statement_lowering.specs.declared.continuations.continuation.Continuation.{Continuation}
use Rattle.statement_lowering.specs.continuations.Successors.{Lowering, GoesLater, after_by, behind_by, leaving_by}
use Rattle.statement_lowering.specs.continuations.Paragraphs.{AddsParagraph, AreBegins, AreStacked, HasParagraph, TakesTop, inside, left_at, nodes_of_sentences, paragraph_end, sentence_size, sentence_sizes}
use Rattle.statement_lowering.specs.continuations.Statements.{Adds, AddsRests, AddsContinuation, Agrees, Fits, HasNodes, IsRest, told, turn_by}
use Rattle.statement_lowering.proofs.continuations_lemmas.Adding.{adds_both, adds_one, adds_under, longer_by}
use Rattle.statement_lowering.proofs.continuations_lemmas.Begins.{begins_later, first_tree, HasSentences, next_has, sentence_has, within-sentences}
use Rattle.statement_lowering.proofs.continuations_lemmas.Within.{agrees_behind, find_below, find_first}

-- the last of lists
pub last_same : (xs ys : List Begin) (x y : Begin) → xs ++ x ∷ [] ≡ ys ++ y ∷ [] → (xs ≡ ys) × (x ≡ y)
last_same [] [] x y e = (refl, cc)
last_same [] (b ∷ []) x y e = absurd cc
last_same [] (b ∷ c ∷ ys) x y e = absurd cc
last_same (a ∷ []) [] x y e = absurd cc
last_same (a ∷ c ∷ xs) [] x y e = absurd cc
last_same (a ∷ xs) (b ∷ ys) x y e =
    let tails : xs ++ x ∷ [] ≡ ys ++ y ∷ [] = cc in
    let heads : a ≡ b = cc in
    let both = last_same xs ys x y tails in (ap₂ (λ z zs. z ∷ zs) heads both.0, both.1)

paragraph_sizes : (paragraph : Paragraph) → sentence_sizes paragraph.sentences ≡ paragraph_size paragraph
paragraph_sizes paragraph = refl

-- behind a sentence that may be left the tree ends, or goes on
inside_later : (leaves : Bool) (place end : ℕ) (next : Option ℕ) → GoesLater place end next → GoesLater place end (if leaves then None else next)
inside_later true place end next h = tt
inside_later false place end next h = h

module _ (telling : LoweringContext) (paragraph : Paragraph) (number last : ℕ) where
  abbrev layout : PlaceTable
  layout = telling.layout.now

  abbrev sentences : List Sentence
  sentences = paragraph.sentences

  -- of the graph that has a paragraph's nodes
  module _ (place : ℕ) (g : Lowering layout) (has : HasParagraph telling g paragraph place number last) where
    abbrev head_node : lower.Node
    head_node = lower.node (lower.point place) (tree_of (told layout g) g.place_of (left_at g.ends number) (rest_from (told layout g) (place + 1) (map (seen_sentence last) sentences)))

    abbrev others : List lower.Node
    others = nodes_of_sentences (told layout g) g.place_of (left_at g.ends number) (place + 1) (map (seen_sentence last) sentences)

    behind_head : Agrees g.node (3 * place + 1) (3 * (place + 1 + paragraph_size paragraph)) others
    behind_head = agrees_behind g.node (3 * (place + 1 + paragraph_size paragraph)) head_node others has.nodes

    pub sentences_have : HasSentences layout g number last (place + 1) sentences
    sentences_have = λ label low high. behind_head label (omega (arith, low)) high

    pub no_turn_label : (is_head : Bool) → g.node (if is_head then lower.loop_head_label place else lower.loop_step_label place) ≡ lower.end_alone graph.Dead
    no_turn_label true =
        behind_head (lower.loop_head_label place) (omega arith) (omega arith)
        ∙ find_below (lower.loop_head_label place) (3 * (place + 1)) _ others (within-sentences (told layout g) g.place_of (left_at g.ends number) last (place + 1) sentences) (omega arith)
    no_turn_label false =
        behind_head (lower.loop_step_label place) (omega arith) (omega arith)
        ∙ find_below (lower.loop_step_label place) (3 * (place + 1)) _ others (within-sentences (told layout g) g.place_of (left_at g.ends number) last (place + 1) sentences) (omega arith)

    pub head_tree : (next : Begin) (found : List Begin) → AreBegins layout (place + 1) sentences (next ∷ found) →
        g.node (lower.point place) ≡ behind_by layout g (inside next false number last)
    head_tree next found begins =
        has.nodes (lower.point place) (omega arith) (omega arith) ∙ find_first head_node others
        ∙ first_tree layout g number last (place + 1) sentences next found begins sentences_have

  -- the rest at its place
  pub own_rest : (g : Lowering layout) (place : ℕ) (next : Begin) (found : List Begin) (spot : Continuation) → spot.stmts.now ≡ [] → spot.onward ≡ inside next false number last →
      AreBegins layout (place + 1) sentences (next ∷ found) → HasParagraph telling g paragraph place number last → IsRest layout g place spot
  own_rest g place next found spot none goes begins has = record {
    point =
        head_tree place g has next found begins
        ∙ ap₂ (λ (o : Successors) ss. lower.build (told layout g) g.place_of (seen_stmts o.last ss) place (leaving_by layout g o) (after_by layout g o) (behind_by layout g o)) (sym goes) (sym none);
    turn = λ is_head.
        no_turn_label place g has is_head
        ∙ ap₂ (λ (o : Successors) ss. turn_by (told layout g) g.place_of is_head (seen_stmts o.last ss) place (leaving_by layout g o) (after_by layout g o)) (sym goes) (sym none);
  }

  own_fits : (place : ℕ) (next : Begin) (found : List Begin) (spot : Continuation) → spot.stmts.now ≡ [] → spot.onward ≡ inside next false number last →
      AreBegins layout (place + 1) sentences (next ∷ found) → place + 1 + paragraph_size paragraph ≤ layout.end → Fits layout.end place spot
  own_fits place next found spot none goes begins le = record {
    own = ap stmts_own none;
    within = omega (arith, ap (sum_by stmt_places) none, le);
    later = subst (λ (o : Successors). GoesLater (place + 1) layout.end o.behind) (sym goes) (begins_later layout (place + 1) sentences next found begins le);
  }

  -- a table so far
  pub record Sentences (i : ℕ) (old now : List Continuation) (begins : List Begin) : Type 0 where
    pub next : Begin
    pub places : ℕ
    pub left : places + sentence_sizes (drop i sentences) ≡ 1 + paragraph_size paragraph
    pub own : sentences_own (drop i sentences) ≡ true
    pub adds : Adds layout places (λ g. HasParagraph telling g paragraph (length old) number last) old now
    pub rest : (g : Lowering layout) → HasParagraph telling g paragraph (length old) number last → HasSentences layout g number last (length now) (drop i sentences)
    pub firsts : List Begin
    pub begun : AreBegins layout (length now) (drop i sentences) (next ∷ firsts)
    pub stacked : begins ≡ reverse firsts

  pub sentences_begin : (old now : List Continuation) (spot : Continuation) (next : Begin) (firsts begins : List Begin) → now ≡ old ++ spot ∷ [] → spot.stmts.now ≡ [] → spot.onward ≡ inside next false number last →
      AreBegins layout (length old + 1) sentences (next ∷ firsts) → begins ≡ reverse firsts → sentences_own sentences ≡ true → length old + 1 + paragraph_size paragraph ≤ layout.end →
      Sentences 0 old now begins
  sentences_begin old now spot next firsts begins is none goes begun stacked own le =
      let adds : Adds layout 1 (λ g. HasParagraph telling g paragraph (length old) number last) old now =
      adds_one layout (λ g. HasParagraph telling g paragraph (length old) number last) old now spot is (own_fits (length old) next firsts spot none goes begun le)
      (λ g has. own_rest g (length old) next firsts spot none goes begun has) in
      let far : length old + 1 ≡ length now = sym (longer_by layout 1 (λ g. HasParagraph telling g paragraph (length old) number last) old now adds) in
      record {
        next = next;
        places = 1;
        left = ap (λ n. 1 + n) (paragraph_sizes paragraph);
        own = own;
        adds = adds;
        rest = λ g has. subst (λ n. HasSentences layout g number last n sentences) far (sentences_have (length old) g has);
        firsts = firsts;
        begun = subst (λ n. AreBegins layout n sentences (next ∷ firsts)) far begun;
        stacked = stacked;
      }

  -- by the begins as they are stacked
  top_of : (place : ℕ) (slice : List Sentence) (firsts : List Begin) → AreBegins layout place slice firsts → (first : Begin) × (others : List Begin) × (firsts ≡ first ∷ others)
  top_of place [] firsts h = (paragraph_end, [], h)
  top_of place (sentence ∷ slice) [] h = absurd h
  top_of place (sentence ∷ slice) (first ∷ []) h = absurd h
  top_of place (sentence ∷ slice) (first ∷ next ∷ found) h = (first, next ∷ found, refl)

  pub sentences_start : (end : ℕ) (old now : List Continuation) (slice : List Sentence) (stack left : List Begin) (first : Begin) (own : Successors) → slice ≡ sentences → length old + 1 + paragraph_size paragraph ≡ end →
      end ≤ layout.end → sentences_own sentences ≡ true → AreStacked layout (end - sentence_sizes slice) slice stack → TakesTop stack left first → own ≡ inside first false number last →
      AddsContinuation [] own old now → Sentences 0 old now left
  sentences_start end old now slice stack left first own same place fits owns st takes is one =
      let top = top_of (end - sentence_sizes slice) slice st.firsts st.are in
      let both = takes top.0 top.1 (st.is ∙ ap reverse top.2) in
      let sizes : sentence_sizes slice ≡ paragraph_size paragraph = ap sentence_sizes same ∙ paragraph_sizes paragraph in
      let begun : AreBegins layout (length old + 1) sentences (first ∷ top.1) =
      subst (λ b. AreBegins layout (length old + 1) sentences (b ∷ top.1)) (sym both.0)
      (subst (AreBegins layout (length old + 1) sentences) top.2
      (subst (λ ss. AreBegins layout (length old + 1) ss st.firsts) same
      (subst (λ n. AreBegins layout n slice st.firsts) (omega (arith, sizes, place)) st.are))) in
      sentences_begin old now one.spot first top.1 left one.is one.stands (one.goes ∙ is) begun both.1 owns (omega (arith, place, fits))

  pub sentences_over : (i : ℕ) (old now : List Continuation) (begins : List Begin) → length sentences ≤ i → Sentences i old now begins → AddsParagraph telling paragraph number last old now
  sentences_over i old now begins le a =
      let none = ap sentence_sizes (drop_all i sentences le) in
      adds_under layout a.places (1 + paragraph_size paragraph) (λ g. HasParagraph telling g paragraph (length old) number last) (λ g. HasParagraph telling g paragraph (length old) number last) old now
      (λ g has. has) (omega (arith, a.left, none)) a.adds

  pub sentences_place : (i : ℕ) (old now : List Continuation) (begins : List Begin) → Sentences i old now begins →
      length now + sentence_sizes (drop i sentences) ≡ length old + 1 + paragraph_size paragraph
  sentences_place i old now begins a =
      omega (arith, a.left, longer_by layout a.places (λ g. HasParagraph telling g paragraph (length old) number last) old now a.adds)

  -- one sentence further
  module _ (i : ℕ) (sentence : Sentence) (lt : i < length sentences) (at : sentence ≡ get_or sentences i sentence) where
    abbrev left_over : List Sentence
    left_over = drop (i + 1) sentences

    first_left : drop i sentences ≡ sentence ∷ left_over
    first_left = rw (add-one i) (drop-cons sentences i sentence lt) ∙ ap (λ s. s ∷ left_over) (sym at)

    module _ (old now : List Continuation) (begins : List Begin) (a : Sentences i old now begins) where
      begun_here : AreBegins layout (length now) (sentence ∷ left_over) (a.next ∷ a.firsts)
      begun_here = subst (λ ss. AreBegins layout (length now) ss (a.next ∷ a.firsts)) first_left a.begun

      -- the begin of the next one is on top
      next_of : (firsts : List Begin) → AreBegins layout (length now) (sentence ∷ left_over) (a.next ∷ firsts) →
          (next : Begin) × (found : List Begin) × (firsts ≡ next ∷ found) × AreBegins layout (length now + sentence_size sentence) left_over (next ∷ found)
      next_of [] h = absurd h
      next_of (next ∷ found) h = (next, found, refl, h.1)

      pub next_taken : (left : List Begin) (taken : Begin) → TakesTop begins left taken →
          (found : List Begin) × (left ≡ reverse found) × AreBegins layout (length now + sentence_size sentence) left_over (taken ∷ found)
      next_taken left taken takes =
          let next = next_of a.firsts begun_here in
          let both = takes next.0 next.1 (a.stacked ∙ ap reverse next.2) in
          (next.1, both.1, subst (λ b. AreBegins layout (length now + sentence_size sentence) left_over (b ∷ next.1)) (sym both.0) next.3)

      sums : sentence_sizes (drop i sentences) ≡ sentence_size sentence + sentence_sizes left_over
      sums = ap sentence_sizes first_left ∙ sum_by-cons sentence_size sentence left_over

      owns : (stmts_own sentence.stmts ≡ true) × (sentences_own left_over ≡ true)
      owns = and_parts (stmts_own sentence.stmts) (sentences_own left_over) (sym (ap sentences_own first_left) ∙ a.own)

      -- what the call asks
      pub sentence_fits : (left : List Begin) (taken : Begin) (leaves : Bool) → TakesTop begins left taken → length old + 1 + paragraph_size paragraph ≤ layout.end →
          (stmts_own sentence.stmts ≡ true) × (length now + sum_by stmt_places sentence.stmts ≤ layout.end)
          × GoesLater (length now + sum_by stmt_places sentence.stmts) layout.end (inside taken leaves number last).behind
      sentence_fits left taken leaves takes le =
          let next = next_taken left taken takes in
          let stands = sentences_place i old now begins a in
          let fits : length now + sentence_size sentence + sentence_sizes left_over ≤ layout.end = omega (arith, sums, stands, le) in
          let later : GoesLater (length now + sentence_size sentence) layout.end taken.behind = begins_later layout (length now + sentence_size sentence) left_over taken next.0 next.2 fits in
          (owns.0, omega (arith, fits), inside_later leaves (length now + sentence_size sentence) layout.end taken.behind later)

      pub sentences_more : (left : List Begin) (taken : Begin) (leaves : Bool) (new : List Continuation) → TakesTop begins left taken → leaves ≡ leave_sentence (cuts (flow_facts_by telling) (seen_sentence last sentence)) →
          AddsRests layout sentence.stmts (inside taken leaves number last) now new → Sentences (i + 1) old new left
      sentences_more left taken leaves new takes is h =
          let next = next_taken left taken takes in
          let premise : Lowering layout → Type 0 = λ g. HasParagraph telling g paragraph (length old) number last in
          let here : (g : Lowering layout) → premise g → HasSentences layout g number last (length now) (sentence ∷ left_over) =
          λ g has. subst (HasSentences layout g number last (length now)) first_left (a.rest g has) in
          let lists : Adds layout (sentence_size sentence) premise now new =
          adds_under layout (sum_by stmt_places sentence.stmts) (sentence_size sentence) (λ g. HasNodes layout g sentence.stmts (length now) (inside taken leaves number last)) premise now new
          (λ g has.
          sentence_has layout g number last (length now) sentence left_over taken next.0 leaves next.2
          (is ∙ ap₂ (λ f r. leave_sentence (cuts (flow_facts_of f r) (seen_sentence last sentence))) (sym has.files) (sym has.returning)) (here g has)) refl h in
          let far : length now + sentence_size sentence ≡ length new = sym (longer_by layout (sentence_size sentence) premise now new lists) in
          record {
            next = taken;
            places = a.places + sentence_size sentence;
            left = omega (arith, a.left, sums);
            own = owns.1;
            adds =
                adds_under layout (a.places + sentence_size sentence) (a.places + sentence_size sentence) (λ g. premise g × premise g) premise old new (λ g has. (has, has)) refl
                (adds_both layout a.places (sentence_size sentence) premise premise old now new a.adds lists);
            rest = λ g has. subst (λ n. HasSentences layout g number last n left_over) far (next_has layout g number last (length now) sentence left_over (here g has));
            firsts = next.0;
            begun = subst (λ n. AreBegins layout n left_over (taken ∷ next.0)) far next.2;
            stacked = next.1;
          }
