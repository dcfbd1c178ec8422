use Rattle.std.proofs.Common.{◌≡◌, sym, ◌∙◌}
use Rattle.std.specs.Map.{keys_of}
use Rattle.control_flow_theory.specs.structuring.Dispatches.{labels_of}
use Rattle.branch_tree.specs.Graph.{seen_nodes}
use Rattle.graph_rewriting.proofs.FindRows.{if_ok, labels_seen}
use Rattle.graph_rewriting.proofs.work.Work.labels.Goals as goal

pub returns : goal.returns
returns c =
    if_ok c.listed.result (λ labels. labels.items ≡ keys_of c.self.inside.keys.entries)
    (λ labels. labels.items ≡ labels_of (seen_nodes c.args.self.now.nodes))
    (λ labels h. h ∙ sym (labels_seen c.self.inside c.self.invariant c.args.self.now c.self.view_is)) c.listed.ensures
