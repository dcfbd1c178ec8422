use Rattle.std.proofs.Common.{◌≡◌, ◌*◌, length, ap, sym, ◌∙◌, rules}
use Rattle.region_rewrite.proofs.StepRows.{size_is}
use Rattle.region_rewrite.proofs.joining.enough_steps.Goals as goal

pub returns : goal.returns
returns c =
    let sized : c.len-nodes.result ≡ length c.args.graph.now.nodes.items = search rules in
    ap (λ n. 3 * n) (sized ∙ sym (size_is c.args.graph.now.nodes.items))
