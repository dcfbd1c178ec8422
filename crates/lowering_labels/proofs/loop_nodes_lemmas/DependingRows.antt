-- The arms of a GO TO DEPENDING.
use Rattle.std.proofs.Common.{◌≡◌, ℕ, List, [], ◌∷◌, ◌++◌, map, refl, ap, ap₂, ◌∙◌}
use Rattle.control_flow_theory.specs.semantics.Graph as graph
use Rattle.control_flow_theory.specs.lowering.Lower as lower
use Rattle.control_flow_theory.specs.lowering.FlowFacts.{FlowFacts}
use Rattle.branch_tree.specs.declared.tree.Tree as code
use Rattle.branch_tree.specs.Tree.{seen_tree, seen_trees, trees_of}
use Rattle.lowering_labels.specs.declared.points.layout.PlaceTable.{PlaceTable}
use Rattle.lowering_labels.specs.points.Layout.{AreAt}
use Rattle.lowering_labels.specs.loop_nodes.Ends.{jump_to, AddsArm, AddsJumps}

depending_rows : (told : FlowFacts) (place_of : ℕ → ℕ) (places : List ℕ) (end : ℕ) (to : List ℕ) (after : graph.End) → AreAt places end place_of →
    trees_of (map (jump_to places end) to ++ lower.end_alone after ∷ []) ≡ lower.depending told place_of to after
depending_rows told place_of places end [] after at = refl
depending_rows told place_of places end (first ∷ others) after at =
    ap₂ (λ place rest. graph.more (lower.end_alone (graph.Jump (lower.point place))) rest) (at first) (depending_rows told place_of places end others after at)

-- jumps, and then an end, where there was nothing
pub depending_arms : (told : FlowFacts) (place_of : ℕ → ℕ) (layout : PlaceTable) (to : List ℕ) (last after : graph.End) (old mid new : List code.Tree) →
    AreAt layout.places.items layout.end place_of → old ≡ [] → AddsJumps layout to old mid → AddsArm (lower.end_alone last) mid new → last ≡ after →
    seen_trees new ≡ lower.depending told place_of to after
depending_arms told place_of layout to last after old mid new at none jumps arm is =
    ap trees_of (arm ∙ ap (λ l. l ++ lower.end_alone last ∷ []) (jumps ∙ ap (λ l. map seen_tree l ++ map (jump_to layout.places.items layout.end) to) none))
    ∙ ap (λ e. trees_of (map (jump_to layout.places.items layout.end) to ++ lower.end_alone e ∷ [])) is
    ∙ depending_rows told place_of layout.places.items layout.end to after at
