-- Where sentences begin: what is left of a paragraph there.
use Rattle.std.proofs.Common.{◌≡◌, ℕ, ◌+◌, ◌*◌, ◌≤◌, Bool, true, false, if◌then◌else◌, List, [], ◌∷◌, map, sum_by, Option, None, refl, ap, ap₂, sym, ◌∙◌, subst, arith}
use Rattle.std.proofs.lemmas.List.Sums.{sum_by-cons}
use Rattle.cob_tree.specs.Places.{stmt_places}
use Rattle.cob_tree.specs.declared.program.Sentence.{Sentence}
use Rattle.cob_tree.specs.declared.stmt.Stmt.{Stmt}
use Rattle.control_flow_theory.specs.language.Control.{seen_sentence, seen_stmts}
use Rattle.control_flow_theory.specs.language.Language as language
use Rattle.control_flow_theory.specs.semantics.Graph as graph
use Rattle.control_flow_theory.specs.lowering.FlowFacts.{FlowFacts}
use Rattle.control_flow_theory.specs.lowering.Completes.{cuts, leave_sentence, sizes}
use Rattle.control_flow_theory.specs.lowering.Lower as lower
use Rattle.control_flow_theory.specs.lowering.Lowered.{Within}
use Rattle.control_flow_theory.specs.lowering.Rests.{Rest, Over, Sent, after_loop, at_loop, leaf_of, leaving_of, rest_from, tree_of}
use Rattle.lowering_labels.proofs.points_lemmas.SizeLemmas.{sizes-seen, stmt_above}
use Rattle.lowering_labels.specs.declared.points.layout.PlaceTable.{PlaceTable}
use Rattle.statement_lowering.specs.declared.continuations.paragraphs.Begin.{Begin}
use Rattle.statement_lowering.specs.continuations.Successors.{Lowering, GoesLater, after_by, begun, behind_by, ended, leaving_by, tree_behind}
use Rattle.statement_lowering.specs.continuations.Paragraphs.{AreBegins, IsBegin, inside, left_at, nodes_of_sentences, paragraph_end, rest_behind, sentence_size, sentence_sizes}
use Rattle.statement_lowering.specs.continuations.Statements.{Agrees, HasNodes, told}
use Rattle.statement_lowering.proofs.continuations_lemmas.Leaves.{leaf_ended}
use Rattle.statement_lowering.proofs.continuations_lemmas.Steps.{later_less}
use Rattle.statement_lowering.proofs.continuations_lemmas.Within.{agrees_left, agrees_right, find_first, within-append, within-nodes}

-- no loop is held at the begin of a sentence
pub no_loop : (told : FlowFacts) (place : ℕ) (sentences : List language.Stmts) → after_loop (rest_from told place sentences) ≡ Over
no_loop told place [] = refl
no_loop told place (sentence ∷ others) = no_loop told (place + sizes sentence) others

pub no_turn : (told : FlowFacts) (place : ℕ) (sentences : List language.Stmts) → at_loop (rest_from told place sentences) ≡ Over
no_turn told place [] = refl
no_turn told place (sentence ∷ others) = no_turn told (place + sizes sentence) others

-- the labels of sentences
pub within-sentences : (told : FlowFacts) (place_of : ℕ → ℕ) (leaving : lower.EscapeTargets) (last place : ℕ) (sentences : List Sentence) →
    Within (3 * place) (3 * (place + sentence_sizes sentences)) (nodes_of_sentences told place_of leaving place (map (seen_sentence last) sentences))
within-sentences told place_of leaving last place [] = omega arith
within-sentences told place_of leaving last place (sentence ∷ others) =
    let stmts = seen_sentence last sentence in
    let rest = rest_behind told place_of leaving stmts place (map (seen_sentence last) others) in
    let xs = lower.nodes told place_of stmts place (leaving_of told place_of leaving rest) (leaf_of told place_of leaving rest) (tree_of told place_of leaving rest) in
    let ys = nodes_of_sentences told place_of leaving (place + sizes stmts) (map (seen_sentence last) others) in
    let size : sizes stmts ≡ sentence_size sentence = sizes-seen last sentence.stmts in
    within-append (3 * place) (3 * (place + sizes stmts)) (3 * (place + sentence_sizes (sentence ∷ others))) xs ys
    (within-nodes told place_of stmts place (leaving_of told place_of leaving rest) (leaf_of told place_of leaving rest) (tree_of told place_of leaving rest))
    (subst (λ n. Within (3 * (place + sizes stmts)) n ys) (omega (arith, size, sum_by-cons sentence_size sentence others)) (within-sentences told place_of leaving last (place + sizes stmts) others))

-- the place at which the tree goes on
begun_first : (stmts : List Stmt) (place end : ℕ) (next : Option ℕ) → place + sum_by stmt_places stmts ≤ end → GoesLater (place + sum_by stmt_places stmts) end next → GoesLater place end (begun stmts place next)
begun_first [] place end next le h = later_less (place + sum_by stmt_places []) place end next (omega arith) h
begun_first (stmt ∷ others) place end next le h = (omega arith, omega (arith, le, sum_by-cons stmt_places stmt others, stmt_above stmt))

pub begins_later : (layout : PlaceTable) (place : ℕ) (sentences : List Sentence) (first : Begin) (found : List Begin) → AreBegins layout place sentences (first ∷ found) →
    place + sentence_sizes sentences ≤ layout.end → GoesLater place layout.end first.behind
begins_later layout place [] first found h le =
    let is : first ≡ paragraph_end = cc in
    subst (λ (b : Begin). GoesLater place layout.end b.behind) (sym is) tt
begins_later layout place (sentence ∷ others) first [] h le = absurd h
begins_later layout place (sentence ∷ others) first (next ∷ found) h le =
    let sums = sum_by-cons sentence_size sentence others in
    let one : IsBegin layout sentence.stmts place next first = h.0 in
    subst (GoesLater place layout.end) (sym one.behind)
    (begun_first sentence.stmts place layout.end next.behind (omega (arith, sums, le)) (begins_later layout (place + sentence_size sentence) others next found h.1 (omega (arith, sums, le))))

module _ (layout : PlaceTable) (g : Lowering layout) (number last : ℕ) where
  abbrev leaving : lower.EscapeTargets
  leaving = left_at g.ends number

  abbrev rest_at : ℕ → List Sentence → Rest
  rest_at place sentences = rest_from (told layout g) place (map (seen_sentence last) sentences)

  abbrev leaf_at : Rest → graph.End
  leaf_at rest = leaf_of (told layout g) g.place_of leaving rest

  abbrev tree_at : Rest → graph.Tree
  tree_at rest = tree_of (told layout g) g.place_of leaving rest

  -- the graph has the nodes of sentences
  abbrev pub HasSentences : ℕ → List Sentence → Type 0
  HasSentences place sentences =
      Agrees g.node (3 * place) (3 * (place + sentence_sizes sentences)) (nodes_of_sentences (told layout g) g.place_of leaving place (map (seen_sentence last) sentences))

  pub first_leaf : (place : ℕ) (sentences : List Sentence) (first : Begin) (found : List Begin) → AreBegins layout place sentences (first ∷ found) →
      leaf_at (rest_at place sentences) ≡ ended (g.ends number) first.after
  first_leaf place [] first found h =
      let is : first ≡ paragraph_end = cc in
      ap (λ (b : Begin). ended (g.ends number) b.after) (sym is)
  first_leaf place (sentence ∷ others) first [] h = absurd h
  first_leaf place (sentence ∷ others) first (next ∷ found) h =
      let one : IsBegin layout sentence.stmts place next first = h.0 in
      let stmts = seen_sentence last sentence in
      ap (lower.leaf (told layout g) g.place_of stmts place)
      (ap (λ n. leaf_at (rest_at (place + n) others)) (sizes-seen last sentence.stmts) ∙ first_leaf (place + sentence_size sentence) others next found h.1)
      ∙ sym (leaf_ended (told layout g) g.place_of (g.ends number) stmts place next.after first.after (one.after g.files g.returning last g.place_of g.at))

  -- those of the first, and of those behind it
  module _ (place : ℕ) (sentence : Sentence) (others : List Sentence) (has : HasSentences place (sentence ∷ others)) where
    abbrev stmts : language.Stmts
    stmts = seen_sentence last sentence

    abbrev rest : Rest
    rest = rest_behind (told layout g) g.place_of leaving stmts place (map (seen_sentence last) others)

    abbrev nodes_first : List lower.Node
    nodes_first =
        lower.nodes (told layout g) g.place_of stmts place (leaving_of (told layout g) g.place_of leaving rest) (leaf_of (told layout g) g.place_of leaving rest)
        (tree_of (told layout g) g.place_of leaving rest)

    size_is : sizes stmts ≡ sentence_size sentence
    size_is = sizes-seen last sentence.stmts

    far : 3 * (place + sizes stmts) ≤ 3 * (place + sentence_sizes (sentence ∷ others))
    far = omega (arith, size_is, sum_by-cons sentence_size sentence others)

    abbrev nodes_next : List lower.Node
    nodes_next = nodes_of_sentences (told layout g) g.place_of leaving (place + sizes stmts) (map (seen_sentence last) others)

    within_first : Within (3 * place) (3 * (place + sizes stmts)) nodes_first
    within_first =
        within-nodes (told layout g) g.place_of stmts place (leaving_of (told layout g) g.place_of leaving rest) (leaf_of (told layout g) g.place_of leaving rest)
        (tree_of (told layout g) g.place_of leaving rest)

    within_next : Within (3 * (place + sizes stmts)) (3 * (place + sentence_sizes (sentence ∷ others))) nodes_next
    within_next =
        subst (λ n. Within (3 * (place + sizes stmts)) n nodes_next) (omega (arith, size_is, sum_by-cons sentence_size sentence others))
        (within-sentences (told layout g) g.place_of leaving last (place + sizes stmts) others)

    pub first_has : Agrees g.node (3 * place) (3 * (place + sentence_size sentence)) nodes_first
    first_has =
        subst (λ n. Agrees g.node (3 * place) (3 * (place + n)) nodes_first) size_is
        (agrees_left g.node (3 * place) (3 * (place + sizes stmts)) (3 * (place + sentence_sizes (sentence ∷ others))) nodes_first nodes_next within_first within_next far has)

    pub next_has : HasSentences (place + sentence_size sentence) others
    next_has =
        subst (λ n. Agrees g.node (3 * (place + sentence_size sentence)) n (nodes_of_sentences (told layout g) g.place_of leaving (place + sentence_size sentence) (map (seen_sentence last) others)))
        (omega (arith, sum_by-cons sentence_size sentence others))
        (subst (λ n. Agrees g.node (3 * (place + n)) (3 * (place + sentence_sizes (sentence ∷ others))) (nodes_of_sentences (told layout g) g.place_of leaving (place + n) (map (seen_sentence last) others))) size_is
        (agrees_right g.node (3 * place) (3 * (place + sizes stmts)) (3 * (place + sentence_sizes (sentence ∷ others))) nodes_first nodes_next within_first (omega arith) has))

  -- the tree where a sentence begins
  begun_tree : (place : ℕ) (list : List Stmt) (next : Option ℕ) (after end : graph.End) (behind : graph.Tree) (high : ℕ) (l : lower.EscapeTargets) →
      Agrees g.node (3 * place) (3 * (place + sum_by stmt_places list)) (lower.nodes (told layout g) g.place_of (seen_stmts last list) place l end behind) →
      ((list ≡ []) → tree_behind layout g next after ≡ behind) →
      tree_behind layout g (begun list place next) after ≡ lower.build (told layout g) g.place_of (seen_stmts last list) place l end behind
  begun_tree place [] next after end behind high l has h = h refl
  begun_tree place (stmt ∷ list) next after end behind high l has h =
      has (lower.point place) (omega arith) (omega (arith, sum_by-cons stmt_places stmt list, stmt_above stmt))
      ∙ find_first (lower.node (lower.point place) (lower.build (told layout g) g.place_of (seen_stmts last (stmt ∷ list)) place l end behind)) _

  -- behind a sentence without a statement
  empty_tree : (place : ℕ) (sentence : Sentence) (others : List Sentence) (first next : Begin) (found : List Begin) → sentence.stmts ≡ [] → IsBegin layout sentence.stmts place next first →
      leaf_at (rest_at (place + sentence_size sentence) others) ≡ ended (g.ends number) next.after →
      tree_at (rest_at (place + sentence_size sentence) others) ≡ tree_behind layout g next.behind (ended (g.ends number) next.after) →
      tree_behind layout g next.behind (ended (g.ends number) first.after)
      ≡ tree_at (rest_behind (told layout g) g.place_of leaving (seen_sentence last sentence) place (map (seen_sentence last) others))
  empty_tree place sentence others first next found none one leaf tree =
      let stmts = seen_sentence last sentence in
      let empty : stmts ≡ language.none = ap (seen_stmts last) none in
      let same : ended (g.ends number) first.after ≡ ended (g.ends number) next.after =
      leaf_ended (told layout g) g.place_of (g.ends number) stmts place next.after first.after (one.after g.files g.returning last g.place_of g.at)
      ∙ ap (λ s. lower.leaf (told layout g) g.place_of s place (ended (g.ends number) next.after)) empty in
      ap (tree_behind layout g next.behind) same
      ∙ sym tree
      ∙ ap (λ n. tree_at (rest_at (place + n) others)) (sym (sizes-seen last sentence.stmts))
      ∙ sym (ap (λ s. tree_at (Sent (leave_sentence (cuts (told layout g) s)) (rest_at (place + sizes stmts) others))) empty)

  pub first_tree : (place : ℕ) (sentences : List Sentence) (first : Begin) (found : List Begin) → AreBegins layout place sentences (first ∷ found) → HasSentences place sentences →
      tree_at (rest_at place sentences) ≡ tree_behind layout g first.behind (ended (g.ends number) first.after)
  first_tree place [] first found h has =
      let is : first ≡ paragraph_end = cc in
      ap (λ (b : Begin). tree_behind layout g b.behind (ended (g.ends number) b.after)) (sym is)
  first_tree place (sentence ∷ others) first [] h has = absurd h
  first_tree place (sentence ∷ others) first (next ∷ found) h has =
      let one : IsBegin layout sentence.stmts place next first = h.0 in
      sym (ap (λ b. tree_behind layout g b (ended (g.ends number) first.after)) one.behind
      ∙ begun_tree place sentence.stmts next.behind (ended (g.ends number) first.after) _ _ 0 _ (first_has place sentence others has)
      (λ none.
      empty_tree place sentence others first next found none h.0 (first_leaf (place + sentence_size sentence) others next found h.1)
      (first_tree (place + sentence_size sentence) others next found h.1 (next_has place sentence others has))))

  sent_tree : (leaves : Bool) (behind : Rest) (next : Begin) → leaf_at behind ≡ ended (g.ends number) next.after → tree_at behind ≡ tree_behind layout g next.behind (ended (g.ends number) next.after) →
      tree_at (Sent leaves behind) ≡ tree_behind layout g (if leaves then None else next.behind) (ended (g.ends number) next.after)
  sent_tree true behind next leaf tree = ap lower.end_alone leaf
  sent_tree false behind next leaf tree = tree

  -- the nodes of a sentence are those of its rests
  pub sentence_has : (place : ℕ) (sentence : Sentence) (others : List Sentence) (next : Begin) (found : List Begin) (leaves : Bool) →
      AreBegins layout (place + sentence_size sentence) others (next ∷ found) → leaves ≡ leave_sentence (cuts (told layout g) (seen_sentence last sentence)) →
      HasSentences place (sentence ∷ others) → HasNodes layout g sentence.stmts place (inside next leaves number last)
  sentence_has place sentence others next found leaves begins is has =
      let onward = inside next leaves number last in
      let stmts = seen_sentence last sentence in
      let behind = rest_at (place + sizes stmts) others in
      let rest = rest_behind (told layout g) g.place_of leaving stmts place (map (seen_sentence last) others) in
      let there = ap (λ n. leaf_at (rest_at (place + n) others)) (sizes-seen last sentence.stmts) ∙ first_leaf (place + sentence_size sentence) others next found begins in
      let left : leaving_of (told layout g) g.place_of leaving rest ≡ leaving_by layout g onward =
      ap₂ (λ s l. record { sentence = s; paragraph = g.ends number; section = g.ends; loop = leaf_at l; cycle = leaf_at (at_loop behind) }) there (no_loop (told layout g) (place + sizes stmts) (map (seen_sentence last) others))
      ∙ ap (λ l. record { sentence = ended (g.ends number) next.after; paragraph = g.ends number; section = g.ends; loop = g.ends number; cycle = leaf_at l }) (no_turn (told layout g) (place + sizes stmts) (map (seen_sentence last) others)) in
      let tree : tree_at rest ≡ behind_by layout g onward =
      ap (λ b. tree_at (Sent b behind)) (sym is)
      ∙ sent_tree leaves behind next there
      (ap (λ n. tree_at (rest_at (place + n) others)) (sizes-seen last sentence.stmts)
      ∙ first_tree (place + sentence_size sentence) others next found begins (next_has place sentence others has)) in
      subst (λ x. Agrees g.node (3 * place) (3 * (place + sum_by stmt_places sentence.stmts)) (lower.nodes (told layout g) g.place_of stmts place (leaving_by layout g onward) (after_by layout g onward) x)) tree
      (subst (λ x. Agrees g.node (3 * place) (3 * (place + sum_by stmt_places sentence.stmts)) (lower.nodes (told layout g) g.place_of stmts place (leaving_by layout g onward) x (tree_at rest))) there
      (subst (λ x. Agrees g.node (3 * place) (3 * (place + sum_by stmt_places sentence.stmts)) (lower.nodes (told layout g) g.place_of stmts place x (leaf_at rest) (tree_at rest))) left (first_has place sentence others has)))
