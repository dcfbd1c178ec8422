-- The graph that the nodes at the sorted labels make.
use Rattle.std.proofs.Common.{◌≡◌, ℕ, ◌*◌, Bool, List, [], ◌∷◌, map, ap, ap₂, ◌∙◌, arith}
use Rattle.std.specs.List.Sorted.{IsNonDecreasingBy, IsPermutation}
use Rattle.cob_tree.specs.declared.program.Program.{Program}
use Rattle.cob_tree.specs.declared.program.Range as code
use Rattle.control_flow_theory.specs.language.Control.{control_of}
use Rattle.control_flow_theory.specs.semantics.Graph as graph
use Rattle.control_flow_theory.specs.graph_rules.Families as families
use Rattle.control_flow_theory.specs.graph_rules.Reduced as reduced
use Rattle.control_flow_theory.specs.lowering.Lower as lower
use Rattle.control_flow_theory.specs.lowering.Lowered.{nodes_of, place_in}
use Rattle.control_flow_theory.specs.lowering.Reached.{kept_nodes}
use Rattle.control_flow_theory.specs.lowering.Rests.{Has}
use Rattle.control_flow_theory.specs.lowering.FlowFacts.{FlowFacts}
use Rattle.control_flow_theory.specs.lowering.WellFormed.{IsLabelOf}
use Rattle.control_flow_theory.specs.lowering.flow.Comes.{entry_of}
use Rattle.control_flow_theory.proofs.lowering_lemmas.graphs.Families.{found-self}
use Rattle.branch_tree.specs.Graph.{seen_added}
use Rattle.branch_tree.specs.declared.graph.Graph.{Graph}
use Rattle.lowering_labels.specs.points.FallThrough.{seen_range}
use Rattle.lowering_labels.specs.points.Layout.{end_from, place_at}
use Rattle.lowering_labels.specs.points.JumpTarget.{point_of}
use Rattle.statement_lowering.specs.LowerList.{flow_facts_by}
use Rattle.statement_lowering.specs.declared.context.LoweringContext.{LoweringContext}
use Rattle.statement_lowering.specs.declared.continuations.continuation.Continuation.{Continuation}
use Rattle.flow_graph.specs.label_trees.Node.{node_in}
use Rattle.pending_returns.specs.levels.Reach.{IsMarked}
use Rattle.flow_graph.specs.Lowered.{AreNodesAt, IsLoweredIn, node_of}
use Rattle.flow_graph.specs.Reaching.{AreReachedIn, Begins, IsRangeIn}
use Rattle.flow_graph.proofs.LabelRows.{nodes_within, reached_label}
use Rattle.flow_graph.proofs.NodeRows.{Found, from_sorted, in_is, is_in, is_there, IsIn, same_nodes, sorted_rising, to_sorted}

pub found_by : (told : FlowFacts) (place_of : ℕ → ℕ) (trees : graph.Label → graph.Tree) (xs : List lower.Node) → Has told place_of trees xs → Found trees xs
found_by told place_of trees [] h = tt
found_by told place_of trees (x ∷ xs) h = (h.0, found_by told place_of trees xs h.1)

abbrev graph_with : graph.Label → List reduced.Node → List families.Added → reduced.Graph
graph_with entry nodes added = record { entry = entry; nodes = nodes; added = added }

module _ (telling : LoweringContext) (spots : List Continuation) (range : code.Range) where
  abbrev placed_at : ℕ → ℕ
  placed_at number = place_at telling.layout.now.places.items telling.layout.now.end number

  first_place : (program : Program) → IsRangeIn telling spots range program → (place number : ℕ) → number ≡ entry_of (seen_range range) → place ≡ placed_at number →
      place ≡ place_in (control_of program) (entry_of (seen_range range))
  first_place program is place number first at = at ∙ is.table.placed.places_in number ∙ ap (place_in (control_of program)) first

  pub begins : (place number : ℕ) → number ≡ entry_of (seen_range range) → place ≡ placed_at number → Begins telling spots range (place * 3)
  begins place number first at program is =
      let turned : place * 3 ≡ 3 * place = omega arith in
      turned ∙ ap lower.point (first_place program is place number first at)

  module _ (places sorted : List ℕ) (marks : List Bool) (marked : IsMarked places marks) (moved : IsPermutation places sorted) (reached : AreReachedIn telling spots range places) where
    pub is_lowered : IsNonDecreasingBy (λ (n : ℕ). n) sorted → (made : Graph) (place number : ℕ) → number ≡ entry_of (seen_range range) → place ≡ placed_at number → made.entry ≡ point_of place →
        AreNodesAt telling spots range sorted made.nodes.items → made.added.items ≡ [] → IsLoweredIn telling spots range made
    is_lowered up made place number first at entry nodes none program is =
        let told = flow_facts_by telling in
        let seen = control_of program in
        let own = seen_range range in
        let all = nodes_of told seen own in
        let end = 3 * end_from 0 program.paragraphs in
        let within = nodes_within told program own in
        let trees = node_in telling program range in
        let found : Found trees all = found_by told (place_in seen) trees all (found-self told (place_in seen) 0 end all within) in
        let of_all : (label : ℕ) → IsIn sorted label → IsLabelOf all label = λ label there.
        reached_label told seen own label is.table.source is.own ((reached program is).0 label (from_sorted places marks marked sorted moved label there)) in
        let same = same_nodes (is_in sorted) trees 0 end all sorted within (sorted_rising places marks marked sorted moved up) found of_all (in_is sorted) (λ label l on. is_there sorted label on) in (
          is_in sorted,
          (
            λ label on. (reached program is).0 label (from_sorted places marks marked sorted moved label (is_there sorted label on)),
            λ label h. in_is sorted label (to_sorted places marks marked sorted moved label ((reached program is).1 label h)),
          ),
          ap₂ (λ e ns. graph_with e ns (map seen_added made.added.items)) (entry ∙ ap lower.point (first_place program is place number first at)) (nodes program is.table ∙ same)
              ∙ ap (λ items. graph_with (lower.point (place_in seen (entry_of own))) (map node_of (kept_nodes (is_in sorted) all)) (map seen_added items)) none,
        )
