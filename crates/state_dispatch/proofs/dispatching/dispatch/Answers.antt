use Rattle.std.proofs.Common.{◌≡◌, length, ap, ◌∙◌, arith}
use Rattle.control_flow_theory.specs.structuring.Dispatches.{labels_of}
use Rattle.state_dispatch.proofs.DispatchRows.{labels_len}
use Rattle.state_dispatch.proofs.dispatching.dispatch.Goals as goal

pub number_in-requires : goal.number_in-requires
number_in-requires c =
    let nodes = c.args.work.now.nodes in
    let same : length c.as_slice.result.now ≡ length nodes =
    ap length (c.as_slice.ensures.value ∙ c.in_ok-labels.ensures)
    ∙ ap (λ g. length (labels_of g.nodes)) c.in_ok-reserve_added.ensures.graph ∙ labels_len nodes in
    omega (arith, same, c.requires.numbered)
