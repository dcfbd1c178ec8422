-- The arms of choices.
use Rattle.std.proofs.Common.{◌≡◌, ℕ, ◌+◌, ◌<◌, ◌≤◌, Bool, false, if◌then◌else◌, List, [], ◌∷◌, ◌++◌, map, drop, get_or, length, Option, Some, None, refl, ap, sym, ◌∙◌, add-one}
use Rattle.std.proofs.Math.Seq.{drop-cons}
use Rattle.std.proofs.lemmas.List.{drop_all}
use Rattle.cob_tree.specs.declared.stmt.Stmt.{Stmt}
use Rattle.cob_tree.specs.declared.stmt.When.{When, out-When}
use Rattle.control_flow_theory.specs.language.Control.{arm_before, Branch, else_of, seen, seen_stmts, seen_when, stmts_of}
use Rattle.control_flow_theory.specs.language.Language as language
use Rattle.control_flow_theory.proofs.language_lemmas.Rows.{seen_when_is}
use Rattle.control_flow_theory.specs.semantics.Graph as graph
use Rattle.control_flow_theory.specs.lowering.FlowFacts.{FlowFacts}
use Rattle.control_flow_theory.specs.lowering.Completes.{sizes}
use Rattle.control_flow_theory.specs.lowering.Lower as lower
use Rattle.branch_tree.specs.Tree.{seen_tree, seen_trees, trees_of}
use Rattle.branch_tree.specs.declared.tree.Tree as code
use Rattle.lowering_labels.specs.loop_nodes.Ends.{AddsArm}
use Rattle.statement_lowering.specs.Arms.{if_arms, seen_phrase, when_arms}

-- trees before others
abbrev pub trees_before : List graph.Tree → graph.Trees → graph.Trees
trees_before [] others = others
trees_before (t ∷ ts) others = graph.more t (trees_before ts others)

trees_more : (ts : List graph.Tree) (t : graph.Tree) (others : graph.Trees) → trees_before (ts ++ t ∷ []) others ≡ trees_before ts (graph.more t others)
trees_more [] t others = refl
trees_more (first ∷ ts) t others = ap (graph.more first) (trees_more ts t others)

trees_all : (ts : List graph.Tree) → trees_of ts ≡ trees_before ts graph.no_more
trees_all [] = refl
trees_all (t ∷ ts) = ap (graph.more t) (trees_all ts)

-- one more, before others
pub arm_more : (old new : List code.Tree) (t : graph.Tree) (others : graph.Trees) → AddsArm t old new →
    trees_before (map seen_tree new) others ≡ trees_before (map seen_tree old) (graph.more t others)
arm_more old new t others h = ap (λ ts. trees_before ts others) h ∙ trees_more (map seen_tree old) t others

-- the last one
pub arm_last : (old new : List code.Tree) (t : graph.Tree) → AddsArm t old new → seen_trees new ≡ trees_before (map seen_tree old) (graph.more t graph.no_more)
arm_last old new t h = trees_all (map seen_tree new) ∙ arm_more old new t graph.no_more h

-- one alone, and two
pub one_alone : (old new : List code.Tree) (t : graph.Tree) → old ≡ [] → AddsArm t old new → seen_trees new ≡ graph.more t graph.no_more
one_alone old new t none h = arm_last old new t h ∙ ap (λ l. trees_before (map seen_tree l) (graph.more t graph.no_more)) none

pub two_alone : (old mid new : List code.Tree) (t u : graph.Tree) → old ≡ [] → AddsArm t old mid → AddsArm u mid new →
    seen_trees new ≡ graph.more t (graph.more u graph.no_more)
two_alone old mid new t u none h k =
    arm_last mid new u k ∙ arm_more old mid t (graph.more u graph.no_more) h
    ∙ ap (λ l. trees_before (map seen_tree l) (graph.more t (graph.more u graph.no_more))) none

module _ (told : FlowFacts) (place_of : ℕ → ℕ) (last : ℕ) (leaving : lower.EscapeTargets) (after : graph.End) where
  abbrev pub arm_at : language.Stmts → ℕ → graph.Tree
  arm_at stmts place = lower.build told place_of stmts place leaving after (lower.end_alone after)

  abbrev pub arms_at : Bool → language.Arms → ℕ → graph.Trees
  arms_at first arms place = lower.build_arms told place_of first arms place leaving after

  else_at : (stmts : List language.Stmt) (place : ℕ) → arms_at false (arm_before (else_of stmts) language.done) place ≡ graph.more (arm_at (stmts_of stmts) place) graph.no_more
  else_at [] place = refl
  else_at (stmt ∷ stmts) place = refl

  -- of an IF
  pub if_at : (met unmet : List Stmt) (place next : ℕ) → next ≡ place + sizes (seen_stmts last met) →
      arms_at false (if_arms met unmet last) place ≡ graph.more (arm_at (seen_stmts last met) place) (graph.more (arm_at (seen_stmts last unmet) next) graph.no_more)
  if_at met unmet place next h =
      ap (graph.more (arm_at (seen_stmts last met) place)) (ap (arms_at false (arm_before (else_of (map (seen last) unmet)) language.done)) (sym h) ∙ else_at (map (seen last) unmet) next)

  -- of one arm that may be missing
  abbrev pub phrase_at : Option (List Stmt) → ℕ → graph.Tree
  phrase_at None place = lower.end_alone after
  phrase_at (Some stmts) place = arm_at (seen_stmts last stmts) place

  pub phrase_alone : (phrase : Option (List Stmt)) (place : ℕ) → arms_at false (arm_before (seen_phrase last phrase) language.done) place ≡ graph.more (phrase_at phrase place) graph.no_more
  phrase_alone None place = refl
  phrase_alone (Some stmts) place = refl

  -- of two
  pub first_missing : (is_dead : Bool) (first second : Option (List Stmt)) (place : ℕ) → first ≡ None →
      arms_at is_dead (arm_before (seen_phrase last first) (arm_before (seen_phrase last second) language.done)) place
      ≡ graph.more (lower.end_alone (if is_dead then graph.Dead else after)) (graph.more (phrase_at second place) graph.no_more)
  first_missing is_dead first second place h =
      ap (λ f. arms_at is_dead (arm_before (seen_phrase last f) (arm_before (seen_phrase last second) language.done)) place) h
      ∙ ap (graph.more (lower.end_alone (if is_dead then graph.Dead else after))) (phrase_alone second place)

  pub first_stands : (is_dead : Bool) (first second : Option (List Stmt)) (stmts : List Stmt) (place next : ℕ) → first ≡ Some stmts → next ≡ place + sizes (seen_stmts last stmts) →
      arms_at is_dead (arm_before (seen_phrase last first) (arm_before (seen_phrase last second) language.done)) place
      ≡ graph.more (arm_at (seen_stmts last stmts) place) (graph.more (phrase_at second next) graph.no_more)
  first_stands is_dead first second stmts place next h is =
      ap (λ f. arms_at is_dead (arm_before (seen_phrase last f) (arm_before (seen_phrase last second) language.done)) place) h
      ∙ ap (graph.more (arm_at (seen_stmts last stmts) place))
      (ap (arms_at false (arm_before (seen_phrase last second) language.done)) (sym is) ∙ phrase_alone second next)

  -- of an EVALUATE, one WHEN further
  pub when_step : (whens : List When) (other : Option (List Stmt)) (i : ℕ) (when : When) (here next : ℕ) (old new : List code.Tree) →
      i < length whens → when ≡ get_or whens i when → next ≡ here + sizes (seen_stmts last (out-When when).stmts) →
      AddsArm (arm_at (seen_stmts last (out-When when).stmts) here) old new →
      trees_before (map seen_tree new) (arms_at false (when_arms (drop (i + 1) whens) other last) next)
      ≡ trees_before (map seen_tree old) (arms_at false (when_arms (drop i whens) other last) here)
  when_step whens other i when here next old new lt is e adds =
      let left = drop (i + 1) whens in
      let cons : drop i whens ≡ when ∷ left = rw (add-one i) (drop-cons whens i when lt) ∙ ap (λ w. w ∷ left) (sym is) in
      let arm : (seen_when last when).arm ≡ seen_stmts last (out-When when).stmts = ap (λ (b : Branch). b.arm) (seen_when_is last when) in
      let rest : language.Arms = when_arms left other last in
      arm_more old new (arm_at (seen_stmts last (out-When when).stmts) here) (arms_at false rest next) adds
      ∙ ap (λ ts. trees_before (map seen_tree old) ts)
      (ap (λ n. graph.more (arm_at (seen_stmts last (out-When when).stmts) here) (arms_at false rest n)) e
      ∙ ap (λ a. graph.more (arm_at a here) (arms_at false rest (here + sizes a))) (sym arm)
      ∙ ap (λ ws. arms_at false (when_arms ws other last) here) (sym cons))

  pub whens_over : (whens : List When) (other : Option (List Stmt)) (i here : ℕ) (old new : List code.Tree) → length whens ≤ i →
      AddsArm (phrase_at other here) old new →
      seen_trees new ≡ trees_before (map seen_tree old) (arms_at false (when_arms (drop i whens) other last) here)
  whens_over whens other i here old new le adds =
      arm_last old new (phrase_at other here) adds
      ∙ ap (λ ts. trees_before (map seen_tree old) ts)
      (sym (phrase_alone other here)
      ∙ ap (λ ws. arms_at false (when_arms ws other last) here) (sym (drop_all i whens le)))
