use Rattle.std.proofs.Common.{List, refl, ap}
use Rattle.control_flow_theory.specs.graph_rules.Reduced.{Node, Graph}
use Rattle.branch_tree.specs.Graph.{seen_graph}
use Rattle.graph_rewriting.specs.declared.work.Work.TheInside.{Inside}
use Rattle.graph_rewriting.proofs.StoredRows.{made_stored}
use Rattle.graph_rewriting.proofs.work.Work.from_graph.Goals as goal

pub invariant_of-result : goal.invariant_of-result
invariant_of-result c =
    let work : Inside = record {
      slots = c.fill.new.slots;
      keys = c.empty_slots.new.keys;
      entry = c.args.graph.entry;
      added = c.args.graph.added;
    } in
    (made_stored work (seen_graph c.args.graph) c.requires c.fill.ensures c.if-none_full.ensures refl).whole

pub returns-then-none_full : goal.returns-then-none_full
returns-then-none_full c =
    let graph = seen_graph c.args.graph in
    let work : Inside = record {
      slots = c.fill.new.slots;
      keys = c.empty_slots.new.keys;
      entry = c.args.graph.entry;
      added = c.args.graph.added;
    } in
    let made : List Node → Graph = λ ns. record { entry = graph.entry; nodes = ns; added = graph.added } in
    ap made (made_stored work graph c.requires c.fill.ensures c.if-none_full.ensures refl).are
