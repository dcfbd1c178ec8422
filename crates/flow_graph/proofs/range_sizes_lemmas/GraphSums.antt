-- What the labels that are reached come to is the size of the graph.
use Rattle.std.proofs.Common.{ℕ, ◌-◌, ◌^◌, min, Bool, List, ap, sym, ◌∙◌}
use Rattle.cob_tree.specs.declared.program.Range as code
use Rattle.flow_graph.specs.Counts.{CountsTo}
use Rattle.flow_graph.specs.Reaching.{AreReachedIn}
use Rattle.flow_graph.proofs.KeptSums.{places-just, sum-whole}
use Rattle.flow_graph.proofs.NodeRows.{is_in}
use Rattle.pending_returns.specs.levels.Reach.{IsMarked}
use Rattle.statement_lowering.specs.declared.context.LoweringContext.{LoweringContext}
use Rattle.statement_lowering.specs.declared.continuations.continuation.Continuation.{Continuation}
use Rattle.flow_graph.specs.range_sizes.Sizing.{IsSizeIn}

pub size-in : (telling : LoweringContext) (spots : List Continuation) (range : code.Range) (places : List ℕ)
    (marks : List Bool) → IsMarked places marks → AreReachedIn telling spots range places →
    (count : ℕ) → CountsTo telling spots range places count → IsSizeIn telling spots range count
size-in telling spots range places marks marked reached count counts program is =
    let all = (reached program is).1 in
    let just = places-just telling spots range places marks marked
    (λ other on. (reached other on).0) program is all in
    let whole = sum-whole telling spots range places marks marked
    (λ other on. (reached other on).0) program is all (is_in places) just in (
      is_in places,
      just,
      counts program is.table ∙ ap (λ (n : ℕ). min n (2 ^ 64 - 1)) (sym whole),
    )
