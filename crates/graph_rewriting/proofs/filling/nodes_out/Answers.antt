use Rattle.std.proofs.Common.{◌++◌, [], ◌∷◌, ap, sym, ◌∙◌, arith}
use Rattle.std.proofs.lemmas.Grind.{common_steps}
use Rattle.std.proofs.lemmas.List.{map-append}
use Rattle.branch_tree.specs.Graph.{seen_node, seen_nodes}
use Rattle.graph_rewriting.specs.Work.{nodes_by}
use Rattle.graph_rewriting.proofs.FillRows.{emptying_led, emptying_next}
use Rattle.graph_rewriting.proofs.filling.nodes_out.Goals as goal

pub loop-key-preserved-in-None : goal.loop-key-preserved-in-None
loop-key-preserved-in-None c =
    absurd (emptying_led c.loop-key.keys c.loop-key.slots c.in-Some.field-0-0 c.in-Some.key
    (seen_nodes c.loop-key.nodes.items) (seen_nodes (nodes_by c.args.slots c.args.keys.entries)) c.loop-key.invariant.emptying
    c.in-Some.ensures.value (sym c.try_remove.ensures.value ∙ c.in-None.is))

pub loop-key-preserved : goal.loop-key-preserved
loop-key-preserved c =
    let nodes = c.loop-key.nodes.items in
    record {
      emptying =
          emptying_next c.loop-key.keys c.pop_first.new.self c.loop-key.slots c.try_remove.new.self c.in-Some.field-0-0 c.in-Some.key
          c.in-Some-try_remove.kept (seen_nodes nodes) (seen_nodes c.push_reserved.new.self.items)
          (seen_nodes (nodes_by c.args.slots c.args.keys.entries)) c.loop-key.invariant.emptying
          c.in-Some.ensures.removal c.in-Some.ensures.value c.in-Some.ensures.updates c.pop_first.ensures.ordered
          c.try_remove.ensures.updates (sym c.try_remove.ensures.value ∙ c.in-Some-try_remove.is)
          (ap seen_nodes c.push_reserved.ensures.items
          ∙ map-append seen_node nodes (c.node_of.result ∷ [])
          ∙ ap (λ n. seen_nodes nodes ++ seen_node n ∷ []) c.node_of.ensures);
      enough = grind (arith, common_steps);
    }
