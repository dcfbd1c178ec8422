-- The rests of a list, one statement further.
use Rattle.std.proofs.Common.{◌≡◌, ℕ, ◌+◌, ◌*◌, ◌≤◌, ◌<◌, Bool, true, if◌then◌else◌, List, [], ◌∷◌, drop, get_or, length, sum_by, Option, Some, None, refl, ap, ap₂, sym, ◌∙◌, subst, arith, add-one}
use Rattle.std.proofs.Math.Seq.{drop-cons}
use Rattle.std.proofs.lemmas.List.{drop_all}
use Rattle.std.proofs.lemmas.List.Sums.{sum_by-cons}
use Rattle.cob_tree.specs.Places.{stmt_places}
use Rattle.cob_tree.specs.declared.stmt.Stmt.{Stmt}
use Rattle.control_flow_theory.specs.language.Control.{seen, seen_stmts}
use Rattle.control_flow_theory.specs.language.OwnItems.{stmt_own, stmts_own}
use Rattle.control_flow_theory.specs.semantics.Graph as graph
use Rattle.control_flow_theory.specs.lowering.FlowFacts.{FlowFacts}
use Rattle.control_flow_theory.specs.lowering.Completes.{size}
use Rattle.control_flow_theory.specs.lowering.Lower as lower
use Rattle.lowering_labels.proofs.points_lemmas.SizeLemmas.{size-seen, stmt_above}
use Rattle.lowering_labels.specs.declared.points.layout.PlaceTable.{PlaceTable}
use Rattle.statement_lowering.proofs.PartRows.{stmt_in_own, stmt_in_places}
use Rattle.statement_lowering.specs.declared.continuations.continuation.Successors.{Successors}
use Rattle.statement_lowering.specs.declared.continuations.continuation.Continuation.{Continuation}
use Rattle.statement_lowering.specs.continuations.Successors.{Lowering, GoesLater, IsBefore, after_by, begun, behind_by, leaving_by}
use Rattle.statement_lowering.specs.continuations.Statements.{Adds, AddsRests, AddsContinuation, AddsWithin, Agrees, Fits, HasInner, HasNodes, inner_places, IsRest, told, turn_by}
use Rattle.statement_lowering.proofs.continuations_lemmas.Adding.{adds_both, adds_none, adds_one, adds_under, longer_by}
use Rattle.statement_lowering.proofs.continuations_lemmas.Leaves.{after_before, behind_before, last_before, leaving_before}
use Rattle.statement_lowering.proofs.continuations_lemmas.Turns.{inner_agrees, others_agree, point_agrees, turn_agrees}

-- the place at which the tree goes on

pub later_less : (m n end : ℕ) (next : Option ℕ) → n ≤ m → GoesLater m end next → GoesLater n end next
later_less m n end None le h = tt
later_less m n end (Some next) le h = (omega (arith, le, h.0), h.1)

begun_later : (rest : List Stmt) (place end : ℕ) (next : Option ℕ) → place + sum_by stmt_places rest ≤ end → GoesLater (place + sum_by stmt_places rest) end next →
    GoesLater place end (begun rest place next)
begun_later [] place end next le h = later_less (place + sum_by stmt_places []) place end next (omega arith) h
begun_later (stmt ∷ others) place end next le h = (omega arith, omega (arith, le, sum_by-cons stmt_places stmt others, stmt_above stmt))

pub before_later : (layout : PlaceTable) (rest : List Stmt) (place : ℕ) (onward inner : Successors) → IsBefore layout rest place onward inner →
    place + sum_by stmt_places rest ≤ layout.end → GoesLater (place + sum_by stmt_places rest) layout.end onward.behind → GoesLater place layout.end inner.behind
before_later layout rest place onward inner before le h =
    subst (GoesLater place layout.end) (sym (ap (λ (o : Successors). o.behind) before.same)) (begun_later rest place layout.end onward.behind le h)

-- the nodes of a statement's lists, said otherwise
inner_same : (told : FlowFacts) (place_of : ℕ → ℕ) (node : graph.Label → graph.Tree) (stmt : Stmt) (place last other high end : ℕ) (l m : lower.EscapeTargets) (a b : graph.End) (t u : graph.Tree) →
    last ≡ other → high ≡ end → l ≡ m → a ≡ b → t ≡ u →
    Agrees node (3 * place + 1) high (lower.nodes_in told place_of (seen last stmt) place l a t) →
    Agrees node (3 * place + 1) end (lower.nodes_in told place_of (seen other stmt) place m b u)
inner_same told place_of node stmt place last other high end l m a b t u e f g h k has =
    subst (λ x. Agrees node (3 * place + 1) end (lower.nodes_in told place_of (seen other stmt) place m b x)) k
    (subst (λ x. Agrees node (3 * place + 1) end (lower.nodes_in told place_of (seen other stmt) place m x t)) h
    (subst (λ x. Agrees node (3 * place + 1) end (lower.nodes_in told place_of (seen other stmt) place x a t)) g
    (subst (λ x. Agrees node (3 * place + 1) x (lower.nodes_in told place_of (seen other stmt) place l a t)) f
    (subst (λ x. Agrees node (3 * place + 1) high (lower.nodes_in told place_of (seen x stmt) place l a t)) e has))))

first_within : (last place : ℕ) (stmt : Stmt) (others : List Stmt) → 3 * (place + size (seen last stmt)) ≤ 3 * (place + sum_by stmt_places (stmt ∷ others))
first_within last place stmt others = omega (arith, size-seen last stmt, sum_by-cons stmt_places stmt others)

-- of a graph that has the nodes of a list
module _ (layout : PlaceTable) (g : Lowering layout) (onward : Successors) where
  pub point_of_rest : (rest : List Stmt) (place : ℕ) → HasNodes layout g rest place onward → (first : Stmt) (others : List Stmt) → rest ≡ first ∷ others →
      g.node (lower.point place)
      ≡ lower.build (told layout g) g.place_of (seen_stmts onward.last rest) place (leaving_by layout g onward) (after_by layout g onward) (behind_by layout g onward)
  point_of_rest [] place h first others is = absurd cc
  point_of_rest (stmt ∷ rest) place h first others is =
      point_agrees (told layout g) g.place_of true (seen_stmts onward.last rest) place (leaving_by layout g onward) (after_by layout g onward) (behind_by layout g onward)
      g.node (seen onward.last stmt) (3 * (place + sum_by stmt_places (stmt ∷ rest))) (first_within onward.last place stmt rest) h

  pub turn_of_rest : (rest : List Stmt) (place : ℕ) → HasNodes layout g rest place onward → (first : Stmt) (others : List Stmt) → rest ≡ first ∷ others → (is_head : Bool) →
      g.node (if is_head then lower.loop_head_label place else lower.loop_step_label place)
      ≡ turn_by (told layout g) g.place_of is_head (seen_stmts onward.last rest) place (leaving_by layout g onward) (after_by layout g onward)
  turn_of_rest [] place h first others is is_head = absurd cc
  turn_of_rest (stmt ∷ rest) place h first others is is_head =
      turn_agrees (told layout g) g.place_of is_head (seen_stmts onward.last rest) place (leaving_by layout g onward) (after_by layout g onward) (behind_by layout g onward)
      g.node (seen onward.last stmt) (3 * (place + sum_by stmt_places (stmt ∷ rest))) (first_within onward.last place stmt rest) h

  pub is_rest : (rest : List Stmt) (place : ℕ) (spot : Continuation) (first : Stmt) (others : List Stmt) → rest ≡ first ∷ others → spot.stmts.now ≡ rest → spot.onward ≡ onward →
      HasNodes layout g rest place onward → IsRest layout g place spot
  is_rest rest place spot first others is stands goes h = record {
    point =
        point_of_rest rest place h first others is
        ∙ ap₂ (λ (o : Successors) ss. lower.build (told layout g) g.place_of (seen_stmts o.last ss) place (leaving_by layout g o) (after_by layout g o) (behind_by layout g o)) (sym goes) (sym stands);
    turn = λ is_head.
        turn_of_rest rest place h first others is is_head
        ∙ ap₂ (λ (o : Successors) ss. turn_by (told layout g) g.place_of is_head (seen_stmts o.last ss) place (leaving_by layout g o) (after_by layout g o)) (sym goes) (sym stands);
  }

  -- those of its first statement, and of what stands behind it
  module _ (stmt : Stmt) (others : List Stmt) (place next : ℕ) (far : next ≡ place + stmt_places stmt) (h : HasNodes layout g (stmt ∷ others) place onward) where
    there : place + size (seen onward.last stmt) ≡ next
    there = ap (λ n. place + n) (size-seen onward.last stmt) ∙ sym far

    end_of_all : 3 * (place + sum_by stmt_places (stmt ∷ others)) ≡ 3 * (next + sum_by stmt_places others)
    end_of_all = omega (arith, far, sum_by-cons stmt_places stmt others)

    pub others_left : HasNodes layout g others next onward
    others_left =
        subst (λ n. Agrees g.node (3 * next) n (lower.nodes (told layout g) g.place_of (seen_stmts onward.last others) next (leaving_by layout g onward) (after_by layout g onward) (behind_by layout g onward))) end_of_all
        (subst (λ n. Agrees g.node (3 * n) (3 * (place + sum_by stmt_places (stmt ∷ others))) (lower.nodes (told layout g) g.place_of (seen_stmts onward.last others) n (leaving_by layout g onward) (after_by layout g onward) (behind_by layout g onward))) there
        (others_agree (told layout g) g.place_of true (seen_stmts onward.last others) place (leaving_by layout g onward) (after_by layout g onward) (behind_by layout g onward)
        g.node (seen onward.last stmt) (3 * (place + sum_by stmt_places (stmt ∷ others))) (first_within onward.last place stmt others) h))

    pub inner_left : (inner : Successors) → IsBefore layout others next onward inner → HasInner layout g (seen inner.last stmt) place (inner_places stmt) inner
    inner_left inner before =
        let after : lower.leaf (told layout g) g.place_of (seen_stmts onward.last others) (place + size (seen onward.last stmt)) (after_by layout g onward) ≡ after_by layout g inner =
        ap (λ n. lower.leaf (told layout g) g.place_of (seen_stmts onward.last others) n (after_by layout g onward)) there ∙ sym (after_before layout g others next onward inner before) in
        let further : lower.build (told layout g) g.place_of (seen_stmts onward.last others) (place + size (seen onward.last stmt)) (leaving_by layout g onward) (after_by layout g onward) (behind_by layout g onward) ≡ behind_by layout g inner =
        ap (λ n. lower.build (told layout g) g.place_of (seen_stmts onward.last others) n (leaving_by layout g onward) (after_by layout g onward) (behind_by layout g onward)) there
        ∙ sym (behind_before layout g others next onward inner before (point_of_rest others next others_left)) in
        inner_same (told layout g) g.place_of g.node stmt place onward.last inner.last (3 * (place + size (seen onward.last stmt))) (3 * (place + 1 + inner_places stmt))
        (leaving_by layout g onward) (leaving_by layout g inner) _ _ _ _
        (sym (last_before layout g others next onward inner before)) (omega (arith, size-seen onward.last stmt, stmt_above stmt)) (sym (leaving_before layout g others next onward inner before)) after further
        (inner_agrees (told layout g) g.place_of true (seen_stmts onward.last others) place (leaving_by layout g onward) (after_by layout g onward) (behind_by layout g onward)
        g.node (seen onward.last stmt) (3 * (place + sum_by stmt_places (stmt ∷ others))) (first_within onward.last place stmt others) h)

-- a table so far, along a list
pub record Along (layout : PlaceTable) (stmts : List Stmt) (onward : Successors) (i : ℕ)
    (old new : List Continuation) : Type 0 where
  pub places : ℕ
  pub left : places + sum_by stmt_places (drop i stmts) ≡ sum_by stmt_places stmts
  pub own : stmts_own (drop i stmts) ≡ true
  pub adds : Adds layout places (λ g. HasNodes layout g stmts (length old) onward) old new
  pub rest : (g : Lowering layout) → HasNodes layout g stmts (length old) onward →
      HasNodes layout g (drop i stmts) (length new) onward

pub along_none : (layout : PlaceTable) (stmts : List Stmt) (onward : Successors) (old : List Continuation) → stmts_own stmts ≡ true → Along layout stmts onward 0 old old
along_none layout stmts onward old own = record {
  places = 0;
  left = omega arith;
  own = own;
  adds = adds_none layout (λ g. HasNodes layout g stmts (length old) onward) old;
  rest = λ g h. h;
}

pub along_over : (layout : PlaceTable) (stmts : List Stmt) (onward : Successors) (i : ℕ) (old new : List Continuation) → length stmts ≤ i → Along layout stmts onward i old new →
    AddsRests layout stmts onward old new
along_over layout stmts onward i old new le a =
    let none = ap (sum_by stmt_places) (drop_all i stmts le) in
    adds_under layout a.places (sum_by stmt_places stmts) (λ g. HasNodes layout g stmts (length old) onward) (λ g. HasNodes layout g stmts (length old) onward) old new (λ g h. h)
    (omega (arith, a.left, none)) a.adds

-- where a table stands
pub along_place : (layout : PlaceTable) (stmts : List Stmt) (onward : Successors) (i : ℕ) (old new : List Continuation) → Along layout stmts onward i old new →
    length new + sum_by stmt_places (drop i stmts) ≡ length old + sum_by stmt_places stmts
along_place layout stmts onward i old new a =
    omega (arith, a.left, longer_by layout a.places (λ g. HasNodes layout g stmts (length old) onward) old new a.adds)

module _ (layout : PlaceTable) (stmts : List Stmt) (onward : Successors) (i : ℕ) (stmt : Stmt) (lt : i < length stmts) (at : stmt ≡ get_or stmts i stmt) where
  abbrev behind : List Stmt
  behind = drop (i + 1) stmts

  first_left : drop i stmts ≡ stmt ∷ behind
  first_left = rw (add-one i) (drop-cons stmts i stmt lt) ∙ ap (λ s. s ∷ behind) (sym at)

  module _ (old now : List Continuation) (place : ℕ) (here : place ≡ length now) (fits : length old + sum_by stmt_places stmts ≤ layout.end)
      (later : GoesLater (length old + sum_by stmt_places stmts) layout.end onward.behind) (a : Along layout stmts onward i old now) where
    -- the rest itself
    spot_fits : (spot : Continuation) → spot.stmts.now ≡ drop i stmts → spot.onward ≡ onward → Fits layout.end (length now) spot
    spot_fits spot stands goes = record {
      own = ap stmts_own stands ∙ a.own;
      within = omega (arith, ap (sum_by stmt_places) stands, along_place layout stmts onward i old now a, fits);
      later =
          subst (λ (o : Successors). GoesLater (length now + 1) layout.end o.behind) (sym goes)
          (later_less (length old + sum_by stmt_places stmts) (length now + 1) layout.end onward.behind
          (omega (arith, along_place layout stmts onward i old now a, stmt_in_places stmts i stmt lt at, stmt_above stmt)) later);
    }

    pub spot_added : (new : List Continuation) → AddsContinuation (drop i stmts) onward now new → Adds layout 1 (λ g. HasNodes layout g (drop i stmts) (length now) onward) now new
    spot_added new one =
        adds_one layout (λ g. HasNodes layout g (drop i stmts) (length now) onward) now new one.spot one.is (spot_fits one.spot one.stands one.goes)
        (λ g h. is_rest layout g onward (drop i stmts) (length now) one.spot stmt behind first_left one.stands one.goes h)

    pub spot_counts : (mid : List Continuation) → AddsContinuation (drop i stmts) onward now mid → length mid ≡ place + 1
    spot_counts mid one = longer_by layout 1 (λ g. HasNodes layout g (drop i stmts) (length now) onward) now mid (spot_added mid one) ∙ ap (λ n. n + 1) (sym here)

    -- and the lists of its first statement
    pub along_more : (mid new : List Continuation) (next : ℕ) (inner : Successors) → AddsContinuation (drop i stmts) onward now mid → next ≡ place + stmt_places stmt →
        IsBefore layout behind next onward inner → AddsWithin layout stmt place inner mid new → Along layout stmts onward (i + 1) old new
    along_more mid new next inner one far before within =
        let premise : Lowering layout → Type 0 = λ g. HasNodes layout g (drop i stmts) (length now) onward in
        let spot = spot_added mid one in
        let is_next : next ≡ length now + stmt_places stmt = omega (arith, far, here) in
        let parts : (g : Lowering layout) → premise g → HasNodes layout g (stmt ∷ behind) (length now) onward = λ g h. subst (λ l. HasNodes layout g l (length now) onward) first_left h in
        let lists : Adds layout (inner_places stmt) premise mid new =
        adds_under layout (inner_places stmt) (inner_places stmt) (λ g. HasInner layout g (seen inner.last stmt) place (inner_places stmt) inner) premise mid new
        (λ g h. subst (λ n. HasInner layout g (seen inner.last stmt) n (inner_places stmt) inner) (sym here) (inner_left layout g onward stmt behind (length now) next is_next (parts g h) inner before))
        refl within in
        let both = adds_both layout 1 (inner_places stmt) premise premise now mid new spot lists in
        let far_now = longer_by layout (1 + inner_places stmt) (λ g. premise g × premise g) now new both in
        let sums = stmt_in_places stmts i stmt lt at in
        let is_there : next ≡ length new = omega (arith, is_next, far_now, stmt_above stmt) in
        record {
          places = a.places + (1 + inner_places stmt);
          left = omega (arith, a.left, sums, stmt_above stmt);
          own = (stmt_in_own stmts i stmt lt at a.own).1;
          adds =
              adds_under layout (a.places + (1 + inner_places stmt)) (a.places + (1 + inner_places stmt))
              (λ g. HasNodes layout g stmts (length old) onward × (premise g × premise g)) (λ g. HasNodes layout g stmts (length old) onward) old new
              (λ g h. (h, (a.rest g h, a.rest g h))) refl
              (adds_both layout a.places (1 + inner_places stmt) (λ g. HasNodes layout g stmts (length old) onward) (λ g. premise g × premise g) old now new a.adds both);
          rest = λ g h.
              subst (λ n. HasNodes layout g behind n onward) is_there (others_left layout g onward stmt behind (length now) next is_next (parts g (a.rest g h)));
        }

    -- what the calls of a turn ask
    pub inner_fits : (next : ℕ) (inner : Successors) → next ≡ place + stmt_places stmt → IsBefore layout behind next onward inner →
        (stmt_own stmt ≡ true) × (next + sum_by stmt_places behind ≤ layout.end) × GoesLater (place + 1 + inner_places stmt) layout.end inner.behind
    inner_fits next inner far before =
        let sums = stmt_in_places stmts i stmt lt at in
        let stands = along_place layout stmts onward i old now a in
        let le : next + sum_by stmt_places behind ≤ layout.end = omega (arith, far, here, sums, stands, fits) in (
          (stmt_in_own stmts i stmt lt at a.own).0,
          le,
          subst (λ n. GoesLater n layout.end inner.behind) (omega (arith, far, stmt_above stmt))
              (before_later layout behind next onward inner before le
              (subst (λ n. GoesLater n layout.end onward.behind) (omega (arith, far, here, sums, stands)) later)),
        )
