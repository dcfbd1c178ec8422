-- The graph of a lowered program, numbered.
use Rattle.std.proofs.Common.{◌≡◌, ℕ, ◌+◌, ◌*◌, ◌≤◌, Bool, true, false, if◌then◌else◌, List, [], ◌∷◌, ◌++◌, map, refl, ap, sym, ◌∙◌, subst, arith, inl, inr, Option, Some, None}
use Rattle.std.specs.Prelude.{nat_le}
use Rattle.std.proofs.lemmas.Bool.Decides.{eqb_tells, leb_tells}
use Rattle.control_flow_theory.specs.language.Language.{Program, Range}
use Rattle.control_flow_theory.specs.semantics.Graph.{Label, end_of}
use Rattle.control_flow_theory.specs.graph_rules.Reduced.{Graph, each_tree}
use Rattle.control_flow_theory.specs.graph_rules.Reduced as reduced
use Rattle.control_flow_theory.specs.structuring.Closes.{IsClosed}
use Rattle.control_flow_theory.specs.lowering.FlowFacts.{FlowFacts, IsSource}
use Rattle.control_flow_theory.specs.lowering.Lower.{Node, loop_head_label}
use Rattle.control_flow_theory.specs.lowering.Lowered.{nodes_of, lowered, Within}
use Rattle.control_flow_theory.specs.lowering.Reached.{kept_nodes}
use Rattle.control_flow_theory.specs.lowering.Renamed.{tree_anew}
use Rattle.control_flow_theory.proofs.lowering_lemmas.graphs.Families.{within-program}
use Rattle.control_flow_theory.specs.main_theorem.Chain.{graph_nodes}
use Rattle.control_flow_theory.specs.main_theorem.Numbering.{place_among, counters_of, counts, numbers_by, added_by}
use Rattle.control_flow_theory.proofs.main_theorem_lemmas.graphs.LoweredGraphs.{graphs-closed}
use Rattle.added_items.specs.counters.Counting.{if_head, if_above, ended_cell, counters_from, counters_in, numbered_graph}
use Rattle.added_items.specs.counters.Placed.{placed_node, placed_graph, NumbersPlaced, ClosesPlaced}
use Rattle.added_items.proofs.counters_lemmas.Heads.{listed, heads, heads-count}

-- a counter stands at its loop's head
head-is : (label : Label) (found : Option ℕ) (cell : ℕ) → if_head label found ≡ Some cell → label ≡ loop_head_label cell
head-is label None cell h = absurd (let k : None ≡ Some cell = h in cc)
head-is label (Some other) cell h = elim (eqb_tells label (loop_head_label other)) [
  | inl e ↦ (
      let k : Some other ≡ Some cell = sym (ap (λ b. if b then Some other else None) e.0) ∙ h in
      let s : other ≡ cell = cc in
      e.1 ∙ ap loop_head_label s
      )
  | inr e ↦ absurd (let k : None ≡ Some cell = sym (ap (λ b. if b then Some other else None) e.0) ∙ h in cc)
]

at-least : (least cell : ℕ) → least ≤ cell → nat_le least cell ≡ true
at-least least cell h = elim (leb_tells least cell) [
  | inl e ↦ e.0
  | inr e ↦ absurd (let k = e.1 in omega (arith, k, h))
]

-- where labels rise, so do the counters at kept heads
module _ (keep : Label → Bool) where
  abbrev taken : ℕ → List Node → Option ℕ → List ℕ
  taken least others found = elim (if_above least found) [
    | None ↦ counters_from least (map placed_node (kept_nodes keep others))
    | Some cell ↦ cell ∷ counters_from (cell + 1) (map placed_node (kept_nodes keep others))
  ]

  found-all : (least low high : ℕ) (xs : List Node) → 3 * least ≤ low + 1 → Within low high xs →
      counters_from least (map placed_node (kept_nodes keep xs)) ≡ heads keep xs
  found-all least low high [] le w = refl
  found-all least low high (x ∷ xs) le w =
      let found = if_head x.key (ended_cell (end_of x.tree)) in
      let later : 3 * least ≤ x.key + 1 + 1 = (let k = w.0 in omega (arith, k, le)) in
      elim (keep x.key) as (λ b. counters_from least (map placed_node (if b then x ∷ kept_nodes keep xs else kept_nodes keep xs)) ≡ (if b then listed found else []) ++ heads keep xs) [
        | true ↦ (
            elim found as (λ o. found ≡ o → taken least xs o ≡ listed o ++ heads keep xs) [
              | None ↦ λ is. found-all least (x.key + 1) high xs later w.1
              | Some cell ↦ λ is. (
                  let at : x.key ≡ loop_head_label cell = head-is x.key (ended_cell (end_of x.tree)) cell is in
                  let above : nat_le least cell ≡ true = (let k = w.0 in at-least least cell (omega (arith, k, le, at))) in
                  ap (λ b. elim (if b then Some cell else None) [
                    | None ↦ counters_from least (map placed_node (kept_nodes keep xs))
                    | Some c ↦ c ∷ counters_from (c + 1) (map placed_node (kept_nodes keep xs))
                  ]) above
                  ∙ ap (λ cells. cell ∷ cells) (found-all (cell + 1) (x.key + 1) high xs (omega (arith, at)) w.1)
                  )
            ] refl
            )
        | false ↦ found-all least (x.key + 1) high xs later w.1
      ]

nodes-anew : (number : ℕ → ℕ) (xs : List Node) → each_tree (tree_anew number) (map placed_node xs) ≡ graph_nodes number xs
nodes-anew number [] = refl
nodes-anew number (x ∷ xs) = ap (λ ys. record { label = x.key; tree = tree_anew number x.tree } ∷ ys) (nodes-anew number xs)

module _ (told : FlowFacts) (program : Program) (range : Range) (keep : Label → Bool) where
  abbrev all : List Node
  all = nodes_of told program range

  placed-counters : IsSource told program → counters_in (map placed_node (kept_nodes keep all)) ≡ counters_of keep program
  placed-counters source =
      let w = within-program told program range 0 0 program.paragraphs in
      found-all keep 0 (3 * 0) w.0 all (omega arith) w.1 ∙ heads-count told program range keep source

  abbrev made : List ℕ → Graph
  made cells = record {
    entry = (lowered told program).entry range;
    nodes = each_tree (tree_anew (place_among cells)) (map placed_node (kept_nodes keep all));
    added = counts cells;
  }

  abbrev with_nodes : List ℕ → List reduced.Node → Graph
  with_nodes cells nodes = record { entry = (lowered told program).entry range; nodes = nodes; added = counts cells }

  pub placed-numbered : IsSource told program → numbered_graph (placed_graph told program range keep) ≡ with_nodes (counters_of keep program) (graph_nodes (place_among (counters_of keep program)) (kept_nodes keep all))
  placed-numbered source =
      ap made (placed-counters source)
      ∙ ap (with_nodes (counters_of keep program)) (nodes-anew (place_among (counters_of keep program)) (kept_nodes keep all))

pub numbers-placed : (old new : Graph) → new ≡ numbered_graph old → NumbersPlaced old new
numbers-placed old new h = λ told program keep range source is.
    h ∙ ap numbered_graph is ∙ placed-numbered told program range (keep range) source

pub closes-placed : (old new : Graph) → new ≡ numbered_graph old → ClosesPlaced old new
closes-placed old new h = λ told program range keep source within just is.
    let kept : Range → Label → Bool = λ r. keep in
    subst IsClosed (sym (numbers-placed old new h told program kept range source is))
    (graphs-closed told program kept (numbers_by kept program) (added_by kept program) source range within just)
