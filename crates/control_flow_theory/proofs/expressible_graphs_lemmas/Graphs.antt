-- What may be written of a source may be written of its lowered graphs.
use Rattle.std.proofs.Common.{◌≡◌, ℕ, zero, suc, Bool, true, false, if◌then◌else◌, ◌==◌, List, [], ◌∷◌, refl, Some}
use Rattle.control_flow_theory.specs.language.Language.{Program, Range, Main}
use Rattle.control_flow_theory.specs.semantics.Graph.{Label}
use Rattle.control_flow_theory.specs.lowering.FlowFacts.{FlowFacts}
use Rattle.control_flow_theory.specs.lowering.Lower.{Node}
use Rattle.control_flow_theory.specs.lowering.Lowered.{nodes_of}
use Rattle.control_flow_theory.specs.lowering.Reached.{kept_nodes}
use Rattle.control_flow_theory.specs.lowering.Renamed.{tree_anew}
use Rattle.control_flow_theory.specs.graph_rules.Families.{Added, Count, Has, MaySet}
use Rattle.control_flow_theory.specs.graph_rules.Reduced.{kind_at, kinds_of, tree_in}
use Rattle.control_flow_theory.specs.rendering.Rendering.{Naming, Procedure}
use Rattle.control_flow_theory.specs.rendering.Procedures.{Writable}
use Rattle.control_flow_theory.specs.main_theorem.Chain.{TreeNames, TreeServed, graph_nodes, procedures_of}
use Rattle.control_flow_theory.specs.main_theorem.Numbering.{counts, counters_of, numbers_by}
use Rattle.control_flow_theory.specs.main_theorem.MainTheorem.{graphs_by}
use Rattle.control_flow_theory.proofs.main_theorem_lemmas.graphs.Numbering.{counters-numbered}
use Rattle.control_flow_theory.specs.expressible_graphs.Laws.{ServedSourcesHaveServedGraphs}
use Rattle.control_flow_theory.proofs.expressible_graphs_lemmas.Ranges.{EachFine, nodes-of-fine}
use Rattle.control_flow_theory.proofs.expressible_graphs_lemmas.Numbered.{tree-anew}

-- each cell that is listed is a counter
counter-at : (places : List ℕ) (cell : ℕ) (kind : Added) → kind_at (counts places) cell ≡ Some kind → kind_at (counts places) cell ≡ Some Count
counter-at [] cell kind is = cc
counter-at (place ∷ places) zero kind is = refl
counter-at (place ∷ places) (suc cell) kind is = counter-at places cell kind is

module _ (naming : Naming) (kinds : Writable) (told : FlowFacts) (range : Range) (program : Program) where
  kept-fine : (keep : Label → Bool) (xs : List Node) → EachFine naming kinds told range program xs → EachFine naming kinds told range program (kept_nodes keep xs)
  kept-fine keep [] h = tt
  kept-fine keep (x ∷ xs) h = elim (keep x.key) as (λ b. EachFine naming kinds told range program (if b then x ∷ kept_nodes keep xs else kept_nodes keep xs)) [
    | true ↦ (h.0, kept-fine keep xs h.1)
    | false ↦ kept-fine keep xs h.1
  ]

  module _ (procedures : List Procedure) (number : ℕ → ℕ) (R W : ℕ → Type 0)
      (aboves : (cell : ℕ) → R cell → kinds.aboves range cell ≡ true) (counted : (cell : ℕ) → W cell → kinds.counts range cell ≡ true) where
    graph-served : (xs : List Node) → EachFine naming kinds told range program xs → (label : Label) → TreeNames R W (tree_in (graph_nodes number xs) label) →
        TreeServed naming kinds procedures range (tree_in (graph_nodes number xs) label)
    graph-served [] h label = λ k. (tt, tt)
    graph-served (x ∷ xs) h label =
        elim (x.key == label) as (λ b. TreeNames R W (if b then tree_anew number x.tree else tree_in (graph_nodes number xs) label) →
        TreeServed naming kinds procedures range (if b then tree_anew number x.tree else tree_in (graph_nodes number xs) label)) [
          | true ↦ λ k. tree-anew naming kinds procedures range number R W aboves counted x.tree h.0 k
          | false ↦ λ k. graph-served xs h.1 label k
        ]

pub served-graphs : ServedSourcesHaveServedGraphs
served-graphs = λ naming kinds plan program source just served counters range here label.
    let graphs = graphs_by plan program in
    let cells = counters_of (plan.keep range) program in
    graph-served naming kinds plan.told range program (procedures_of (Main ∷ plan.others) graphs) (numbers_by plan.keep program range)
    (Has (kinds_of graphs) range) (MaySet (kinds_of graphs) range)
    (λ cell has. (counters range here cell (counter-at cells cell has.0 has.1)).1)
    (λ cell set. (counters range here cell (counter-at cells cell set.0.0 set.0.1)).0)
    (kept_nodes (plan.keep range) (nodes_of plan.told program range))
    (kept-fine naming kinds plan.told range program (plan.keep range) (nodes_of plan.told program range) (nodes-of-fine naming kinds plan.told range program source (served range here)))
    label ((counters-numbered plan.told program plan.keep source).1 range (just range here) label)
