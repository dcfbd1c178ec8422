-- The labels of a range, counted one after the other.
use Rattle.std.proofs.Common.{◌≡◌, ℕ, ◌+◌, ◌-◌, ◌^◌, ◌<◌, ◌≤◌, min, sum_by, List, [], ◌∷◌, take, length, Some, slice_get, ap, ◌∙◌, subst, arith}
use Rattle.std.proofs.lemmas.List.{take_all}
use Rattle.std.proofs.lemmas.List.Sums.{sum_by_push}
use Rattle.cob_tree.specs.declared.program.Range as code
use Rattle.flow_graph.proofs.MadeRows.{one_more}
use Rattle.flow_graph.specs.graph_sizes.Sizing.{tree_size}
use Rattle.statement_lowering.specs.declared.context.LoweringContext.{LoweringContext}
use Rattle.flow_graph.specs.label_trees.Node.{node_in}
use Rattle.statement_lowering.specs.declared.continuations.continuation.Continuation.{Continuation}
use Rattle.flow_graph.specs.Counts.{CountsTo, IsSizeAt}

module _ (telling : LoweringContext) (spots : List Continuation) (range : code.Range) where
  pub counts-none : (places : List ℕ) → CountsTo telling spots range (take 0 places) 0
  counts-none [] program table = omega arith
  counts-none (place ∷ places) program table = omega arith

  pub counts-more : (before later : List ℕ) →
      ((at other : ℕ) → slice_get before at ≡ Some other → slice_get later at ≡ Some other) →
      (at here count size next : ℕ) → at < length before → slice_get before at ≡ Some here →
      CountsTo telling spots range (take at before) count →
      IsSizeAt telling spots range here size →
      next ≡ min (min (count + size) (2 ^ 64 - 1) + 1) (2 ^ 64 - 1) →
      CountsTo telling spots range (take (at + 1) later) next
  counts-more before later kept at here count size next lt is counts sized adds =
      λ program table.
      let weight : ℕ → ℕ = λ label. 1 + tree_size (node_in telling program range label) in
      let front = take at before in
      let total = ap (λ (l : List ℕ). sum_by weight l) (one_more before later kept at here lt is)
      ∙ sum_by_push weight front here in
      let was = counts program table in
      let own = sized program table in
      omega (arith, adds, was, own, total)

  pub counts-all : (places : List ℕ) (at count : ℕ) → length places ≤ at →
      CountsTo telling spots range (take at places) count →
      CountsTo telling spots range places count
  counts-all places at count le counts =
      subst (λ l. CountsTo telling spots range l count) (take_all at places le) counts
