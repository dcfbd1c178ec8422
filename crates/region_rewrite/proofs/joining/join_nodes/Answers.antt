use Rattle.std.proofs.Common.{◌≡◌, ◌<◌, ◌≤◌, ◌++◌, length, take, drop, get_or, set, ap, sym, ◌∙◌, arith, add-one}
use Rattle.std.proofs.lemmas.Grind.{common_steps}
use Rattle.std.proofs.lemmas.List.{map-set, length-map}
use Rattle.control_flow_theory.specs.graph_rules.Reduced.{each_tree}
use Rattle.control_flow_theory.specs.graph_rules.Shapes.{joined}
use Rattle.branch_tree.specs.Graph.{seen_node, seen_nodes}
use Rattle.branch_tree.specs.Tree.{seen_tree}
use Rattle.tree_rules.proofs.JoinRows.{joins_joined}
use Rattle.region_rewrite.proofs.StepRows.{each_next, each_all, get_changed, seen_node_at}
use Rattle.region_rewrite.proofs.joining.join_nodes.Goals as goal

pub loop-at-preserved : goal.loop-at-preserved
loop-at-preserved c =
    let all = seen_nodes c.args.nodes.now in
    let now = c.loop-at.nodes in
    let at = c.loop-at.at in
    let d = c.index-nodes-at.result in
    let mapped = length-map c.args.nodes.now seen_node in
    let within : at < length all = grind (arith, common_steps, mapped) in
    let before = each_tree joined (take at all) ++ drop at all in
    let node : seen_node (get_or now at d) ≡ get_or all at (seen_node d) =
    sym (seen_node_at now at d) ∙ ap (λ l. get_or l at (seen_node d)) c.loop-at.invariant
    ∙ get_changed joined all at (seen_node d) within in
    map-set seen_node now at _
    ∙ ap (λ l. set l at (record { label = (get_or now at d).label; tree = seen_tree c.join.new.tree })) c.loop-at.invariant
    ∙ ap (λ t. set before at (record { label = (get_or now at d).label; tree = t })) (joins_joined _ _ _ c.in_ok-join.ensures)
    ∙ ap (λ n. set before at (record { label = n.label; tree = joined n.tree })) node
    ∙ each_next joined all at (seen_node d) within
    ∙ ap (λ n. each_tree joined (take n all) ++ drop n all) (sym (add-one at))

pub returns : goal.returns
returns c =
    let all = seen_nodes c.args.nodes.now in
    let mapped = length-map c.args.nodes.now seen_node in
    let most : length all ≤ c.loop-at.at = grind (arith, common_steps, mapped) in
    c.loop-at.invariant ∙ each_all joined all c.loop-at.at most
