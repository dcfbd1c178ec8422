-- A family whose graphs are closed by all rules in their order does what it did.
use Rattle.std.proofs.Common.{◌≡◌, ℕ, zero, suc, ◌-◌, ◌*◌, true, false, if◌then◌else◌, List, [], ◌∷◌, Option, Some, None, refl, ap, sym, ◌∙◌, subst}
use Rattle.control_flow_theory.proofs.runs_lemmas.Ties.{tied-trans, tied-at}
use Rattle.control_flow_theory.specs.language.Language.{Range, Main, same_range}
use Rattle.control_flow_theory.specs.semantics.Doing.{Acting, is_above}
use Rattle.control_flow_theory.specs.semantics.Graph.{Label}
use Rattle.control_flow_theory.specs.graph_rules.Walked.{is_in, In, walked_from}
use Rattle.control_flow_theory.specs.graph_rules.Families.{Never, Has, MaySet, IsFamily, Ready, Extends, IsSound}
use Rattle.control_flow_theory.specs.graph_rules.Reduced.{Graph, Graphs, tree_in, count, family_of, kinds_of, with_graph, join_graph, lowest, rule_step, stepped, shaped, size}
use Rattle.control_flow_theory.specs.graph_rules.Laws.{AsBefore}
use Rattle.control_flow_theory.specs.structuring.Dispatches.{Numbered, labels_of, tree_returns}
use Rattle.control_flow_theory.specs.structuring.Targets.{targets_of}
use Rattle.control_flow_theory.specs.structuring.Keeps.{Twins, Kept}
use Rattle.control_flow_theory.specs.structuring.Closes.{none_left_out, has_exits, exits_graph, exits_step, or_exits, any_step, reduced_by_all, dispatch_graph, dispatch_rest, closed_graph, IsClosed, all_closed}
use Rattle.control_flow_theory.specs.structuring.Laws.{ClosedKeeps}
use Rattle.control_flow_theory.proofs.graph_rules_lemmas.walks.Charges.{matched-tied}
use Rattle.control_flow_theory.proofs.graph_rules_lemmas.walks.Walks.{steady-from}
use Rattle.control_flow_theory.proofs.semantics_lemmas.Ranges.{same-self}
use Rattle.control_flow_theory.proofs.graph_rules_lemmas.shapes.Shaped.{Replaced, replaced-by, join-before, step-before, reduced-before, shaped-before}
use Rattle.control_flow_theory.proofs.structuring_lemmas.gathering.Targets.{closed-exits}
use Rattle.control_flow_theory.proofs.structuring_lemmas.gathering.DispatchKeeps.{exits-kept, dispatch-kept}
use Rattle.control_flow_theory.proofs.structuring_lemmas.closing.Closes.{exits-gain, exits-close, dispatch-gains, dispatch-closes}
use Rattle.control_flow_theory.proofs.structuring_lemmas.closing.RulesStayClosed.{lowest-in, shaped-closed, all-reduced-closed, closed-closed}

module _ {Memory Left : Type 0} (acting : Acting Memory) (left : Memory → Left) (order : List Range) where
  abbrev Family-is : Graphs → Type 0
  Family-is graphs = IsFamily (kinds_of graphs) (family_of graphs) order

  abbrev Sound-is : Graphs → Type 0
  Sound-is graphs = IsSound acting left (kinds_of graphs) (family_of graphs) order

  abbrev Before : Graphs → Graphs → Type 0
  Before graphs others = AsBefore acting left graphs others order

  before-then : (one two three : Graphs) → Before one two → Before two three → Before one three
  before-then one two three a b = record {
    extends = λ r c k is. b.extends r c k (a.extends r c k is);
    family = b.family;
    sound = b.sound;
    tied = λ r here.
        let memory = λ (start : Ready Memory (kinds_of three)). start.memory in
        let narrow = λ (start : Ready Memory (kinds_of three)). (let s : Ready Memory (kinds_of two) = record { memory = start.memory; ready = λ x c e. start.ready x c (b.extends x c Never e) } in s) in
        tied-trans (walked_from acting left memory (family_of one) order r) (walked_from acting left memory (family_of two) order r) (walked_from acting left memory (family_of three) order r)
        (tied-at narrow (walked_from acting left (λ (start : Ready Memory (kinds_of two)). start.memory) (family_of one) order r) (walked_from acting left (λ (start : Ready Memory (kinds_of two)). start.memory) (family_of two) order r) (a.tied r here)) (b.tied r here);
  }

  -- where a rule brought a cell
  kept-before : (graphs others : Graphs) → Extends (kinds_of graphs) (kinds_of others) → Family-is graphs → Kept acting left (kinds_of graphs) (kinds_of others) (family_of graphs) (family_of others) order → Before graphs others
  kept-before graphs others extends family kept = record {
    extends = extends;
    family = kept.family;
    sound = kept.sound;
    tied = λ r here.
        let memory = λ (start : Ready Memory (kinds_of others)). start.memory in
        let twin = λ (start : Ready Memory (kinds_of others)).
        (let w : Twins Memory (kinds_of graphs) (kinds_of others) = record { first = start.memory; second = start.memory; first_ready = λ x c e. start.ready x c (extends x c Never e); second_ready = start.ready; own = refl; cells = λ x c has. refl } in w) in
        matched-tied 8 (walked_from acting left memory (family_of graphs) order r) (walked_from acting left memory (family_of others) order r)
        (steady-from acting left memory (family_of graphs) (Has (kinds_of graphs)) (MaySet (kinds_of graphs)) order family r here) (steady-from acting left memory (family_of others) (Has (kinds_of others)) (MaySet (kinds_of others)) order kept.family r here)
        (λ start m. kept.matched r here (twin start) m);
  }

  exits-before : (graphs others : Graphs) (range : Range) (label : Label) → Family-is graphs → Sound-is graphs → Numbered (labels_of (graphs range).nodes) label → Replaced graphs others range (exits_graph label (graphs range)) → Before graphs others
  exits-before graphs others range label family sound there rep =
      let t = tree_in (graphs range).nodes label in
      let cell = count (graphs range).added in
      let gains = exits-gain graphs others range label there rep in
      kept-before graphs others gains.extends family
      (exits-kept acting left none_left_out (kinds_of graphs) (kinds_of others) (family_of graphs) (family_of others) order range cell gains family sound label (targets_of label t) (tree_returns t)
      (closed-exits none_left_out range label cell (family_of graphs) (family_of others) (exits-close graphs others range label there rep)))

  dispatch-before : (graphs others : Graphs) (range : Range) → Family-is graphs → Sound-is graphs → IsClosed (graphs range) → Replaced graphs others range (dispatch_graph (graphs range)) → Before graphs others
  dispatch-before graphs others range family sound closed rep =
      let gains = dispatch-gains graphs others range closed rep in
      kept-before graphs others gains.extends family
      (dispatch-kept acting left none_left_out (kinds_of graphs) (kinds_of others) (family_of graphs) (family_of others) order range (count (graphs range).added) gains family sound (graphs range).nodes (dispatch-closes graphs others range closed rep))

  same-before : (graphs others : Graphs) (range : Range) → Family-is graphs → Sound-is graphs → Replaced graphs others range (graphs range) → Before graphs others
  same-before graphs others range family sound rep = reduced-before acting left order 0 graphs others range family sound rep

  again : (graphs mid others : Graphs) (range : Range) (one two : Graph) → Replaced graphs mid range one → Replaced graphs others range two → Replaced mid others range two
  again graphs mid others range one two a b = record { here = b.here; rest = λ r d. b.rest r d ∙ sym (a.rest r d) }

  exits-step-before : (graphs others : Graphs) (range : Range) (found : Option Label) → lowest (has_exits (graphs range)) (graphs range).nodes ≡ found → Family-is graphs → Sound-is graphs → Replaced graphs others range (stepped (graphs range) (exits_step (graphs range) found)) → Before graphs others
  exits-step-before graphs others range None e family sound rep = same-before graphs others range family sound rep
  exits-step-before graphs others range (Some label) e family sound rep =
      let first = exits_graph label (graphs range) in
      let mid = with_graph graphs range first in
      let there = replaced-by graphs range first in
      let a = exits-before graphs mid range label family sound (lowest-in (has_exits (graphs range)) (graphs range).nodes label e) there in
      before-then graphs mid others a
      (join-before acting left order mid others range a.family a.sound (subst (λ x. Replaced mid others range (join_graph x)) (sym there.here) (again graphs mid others range first (join_graph first) there rep)))

  any-step-before : (graphs others : Graphs) (range : Range) → Family-is graphs → Sound-is graphs → Replaced graphs others range (stepped (graphs range) (any_step (graphs range))) → Before graphs others
  any-step-before graphs others range family sound rep =
      let g = graphs range in
      elim (rule_step g) as (λ o. rule_step g ≡ o → Replaced graphs others range (stepped g (or_exits g o)) → Before graphs others) [
        | Some next ↦ λ e rep. step-before acting left order graphs others range family sound (subst (λ o. Replaced graphs others range (stepped g o)) (sym e) rep)
        | None ↦ λ e rep. exits-step-before graphs others range (lowest (has_exits g) g.nodes) refl family sound rep
      ] refl rep

  all-reduced-before : (most : ℕ) (graphs others : Graphs) (range : Range) → Family-is graphs → Sound-is graphs → Replaced graphs others range (reduced_by_all most (graphs range)) → Before graphs others
  all-reduced-before zero graphs others range family sound rep = same-before graphs others range family sound rep
  all-reduced-before (suc most) graphs others range family sound rep =
      let next = stepped (graphs range) (any_step (graphs range)) in
      let mid = with_graph graphs range next in
      let there = replaced-by graphs range next in
      let a = any-step-before graphs mid range family sound there in
      before-then graphs mid others a
      (all-reduced-before most mid others range a.family a.sound (subst (λ x. Replaced mid others range (reduced_by_all most x)) (sym there.here) (again graphs mid others range next (reduced_by_all most next) there rep)))

  dispatch-rest-before : (graphs others : Graphs) (range : Range) → Family-is graphs → Sound-is graphs → IsClosed (graphs range) → Replaced graphs others range (dispatch_rest (graphs range)) → Before graphs others
  dispatch-rest-before graphs others range family sound closed rep =
      elim (is_above (size (graphs range).nodes - 1)) as (λ b. Replaced graphs others range (if b then dispatch_graph (graphs range) else graphs range) → Before graphs others) [
        | true ↦ λ rep. dispatch-before graphs others range family sound closed rep
        | false ↦ λ rep. same-before graphs others range family sound rep
      ] rep

  closed-before : (graphs others : Graphs) (range : Range) → Family-is graphs → Sound-is graphs → IsClosed (graphs range) → Replaced graphs others range (closed_graph (graphs range)) → Before graphs others
  closed-before graphs others range family sound closed rep =
      let most = 3 * size (graphs range).nodes in
      let one = shaped (graphs range) in
      let two = reduced_by_all most one in
      let mid = with_graph graphs range one in
      let there = replaced-by graphs range one in
      let a = shaped-before acting left order graphs mid range family sound there in
      let next = with_graph mid range two in
      let then_there = replaced-by mid range two in
      let b = all-reduced-before most mid next range a.family a.sound (subst (λ x. Replaced mid next range (reduced_by_all most x)) (sym there.here) then_there) in
      let last : IsClosed (next range) = subst IsClosed (sym then_there.here) (all-reduced-closed most one (shaped-closed (graphs range) closed)) in
      before-then graphs mid others a
      (before-then mid next others b
      (dispatch-rest-before next others range b.family b.sound last
      (subst (λ x. Replaced next others range (dispatch_rest x)) (sym then_there.here) (again mid next others range two (dispatch_rest two) then_there (again graphs mid others range one (dispatch_rest two) there rep)))))

  abbrev AllClosed : Graphs → Type 0
  AllClosed graphs = (r : Range) → In r order → IsClosed (graphs r)

  still-closed : (graphs : Graphs) (range : Range) → In range order → AllClosed graphs → AllClosed (with_graph graphs range (closed_graph (graphs range)))
  still-closed graphs range here closed r there =
      elim (same_range r range) as (λ b. IsClosed (if b then closed_graph (graphs range) else graphs r)) [ true ↦ closed-closed (graphs range) (closed range here) | false ↦ closed r there ]

  all-before : (ranges : List Range) (graphs : Graphs) → ((r : Range) → In r ranges → In r order) → Family-is graphs → Sound-is graphs → AllClosed graphs → Before graphs (all_closed ranges graphs) × AllClosed (all_closed ranges graphs)
  all-before [] graphs among family sound closed = (same-before graphs graphs Main family sound (record { here = refl; rest = λ r d. refl }), closed)
  all-before (range ∷ ranges) graphs among family sound closed =
      let mid = all_closed ranges graphs in
      let here = among range (ap (λ b. if b then true else is_in range ranges) (same-self range)) in
      let rest = λ (r : Range) (k : In r ranges). among r (elim (same_range range r) as (λ b. (if b then true else is_in r ranges) ≡ true) [ true ↦ refl | false ↦ k ]) in
      let a = all-before ranges graphs rest family sound closed in (
        before-then graphs mid (all_closed (range ∷ ranges) graphs) a.0 (closed-before mid (all_closed (range ∷ ranges) graphs) range a.0.family a.0.sound (a.1 range here) (replaced-by mid range (closed_graph (mid range)))),
        still-closed mid range here a.1,
      )

pub closed-keeps : {Memory Left : Type 0} → ClosedKeeps Memory Left
closed-keeps = λ acting left graphs order family sound closed. all-before acting left order order graphs (λ r k. k) family sound closed
