-- The own run of a rest in ranges that go on alike.
use Rattle.std.proofs.Common.{◌≡◌, ℕ, ◌+◌, ◌<◌, List, [], get_or, length, Option, Some, None, slice_get, refl, ap, sym, ◌∙◌, subst, arith}
use Rattle.cob_tree.specs.declared.program.Program.{Program}
use Rattle.cob_tree.specs.declared.program.Range as code
use Rattle.control_flow_theory.specs.language.Language.{none}
use Rattle.control_flow_theory.specs.semantics.Graph as graph
use Rattle.control_flow_theory.specs.lowering.Lower.{point}
use Rattle.branch_tree.specs.Changes.{gone_on}
use Rattle.branch_tree.specs.Tree.{seen_body, seen_end, seen_tree}
use Rattle.branch_tree.specs.declared.tree.End.{End}
use Rattle.branch_tree.specs.declared.tree.Piece.{Piece}
use Rattle.lowering_labels.specs.points.FallThrough.{seen_range}
use Rattle.lowering_labels.specs.points.JumpTarget.{seen_target}
use Rattle.lowering_labels.specs.declared.points.jump_target.JumpTarget.{JumpTarget}
use Rattle.statement_lowering.specs.LowerList.{Runs}
use Rattle.statement_lowering.specs.declared.context.EscapeTargets.{EscapeTargets}
use Rattle.statement_lowering.specs.declared.context.LoweringContext.{LoweringContext}
use Rattle.statement_lowering.proofs.Bodies.{before_nothing}
use Rattle.lowering_labels.specs.loop_nodes.Loops.{before}
use Rattle.statement_lowering.specs.continuations.Successors.{Lowering, GoesLater, after_by, behind_by, tree_behind}
use Rattle.statement_lowering.specs.continuations.Statements.{Fits, IsRest}
use Rattle.statement_lowering.specs.declared.continuations.continuation.Continuation.{Continuation}
use Rattle.flow_graph.specs.label_trees.Node.{GoAlike, GoesOnIn, IsTableOf, IsWhole, LeavesIn, node_in}
use Rattle.flow_graph.specs.label_trees.Run.{IsBehind, IsStraightRunAlike, RunsOn}
use Rattle.flow_graph.specs.declared.label_trees.run.StraightRun.{StraightRun}
use Rattle.flow_graph.proofs.label_trees_lemmas.NodeSteps.{before_only, fit_at, goes_alike, graph_in, here_is, leaves_alike, rest_at_index, run_ends, run_goes}

same-spot : (one spot : Continuation) → Some one ≡ Some spot → one ≡ spot
same-spot one spot e = cc

pub fits-there : (telling : LoweringContext) (spots : List Continuation) (place : ℕ) (spot : Continuation) →
    IsWhole telling spots → place < length spots → spot ≡ get_or spots place spot →
    Fits telling.layout.now.end place spot
fits-there telling spots place spot whole lt is =
    subst (λ n. Fits telling.layout.now.end n spot) (omega arith)
    (fit_at telling.layout.now.end 0 spots place spot lt is whole.fit)

pub is-behind : (telling : LoweringContext) (spots : List Continuation) (place next : ℕ) (spot : Continuation) →
    IsWhole telling spots → place < length spots → spot ≡ get_or spots place spot →
    spot.onward.behind ≡ Some next → IsBehind spots place next
is-behind telling spots place next spot whole lt is behind =
    let end = telling.layout.now.end in
    let later : GoesLater (place + 1) end (Some next) =
    subst (GoesLater (place + 1) end) behind (fits-there telling spots place spot whole lt is).later
    in
    record {
      later = omega (arith, later.0);
      within = omega (arith, later.1, whole.count);
      behind = λ one there.
          let same = same-spot one spot (sym there ∙ here_is spots place spot lt is) in
          ap (λ (s : Continuation). s.onward.behind) same ∙ behind;
    }

-- going along the statements of the rest at a place, from nothing
pub record RanAlong (telling : LoweringContext) (spots : List Continuation) (range : code.Range) (place : ℕ)
    (spot : Continuation) (after : JumpTarget) (found : Option End) (news : List Piece) : Type 0 where
  pub lt : place < length spots
  pub is : spot ≡ get_or spots place spot
  pub leaving : EscapeTargets
  pub leaves : LeavesIn telling range spot.onward leaving
  pub goes : GoesOnIn telling range spot.onward after
  pub bodies : List Piece
  pub empty : bodies ≡ []
  pub runs : Runs telling leaving spot.stmts.now place after found bodies news

module _ (telling : LoweringContext) (spots : List Continuation) (range : code.Range) (place : ℕ) (spot : Continuation)
    (after : JumpTarget) (found : Option End) (news : List Piece)
    (ran : RanAlong telling spots range place spot after found news) where
  module _ (other : code.Range) (alike : GoAlike range other spot.onward) (program : Program)
      (table : IsTableOf telling spots program) where
    abbrev graph_there : Lowering telling.layout.now
    graph_there = graph_in telling other program table.placed

    abbrev node : graph.Tree
    node = node_in telling program other (point place)

    rest-there : IsRest telling.layout.now graph_there place spot
    rest-there =
        subst (λ n. IsRest telling.layout.now graph_there n spot) (omega arith)
        (rest_at_index telling.layout.now graph_there 0 spots place spot ran.lt ran.is
        (table.rests.rests (seen_range other) table.placed))

    leaves-there : LeavesIn telling other spot.onward ran.leaving
    leaves-there = leaves_alike telling range other spot.onward ran.leaving alike ran.leaves

    goes-there : GoesOnIn telling other spot.onward after
    goes-there = goes_alike telling range other spot.onward after alike ran.goes

    from-nothing : none ≡ seen_body ran.bodies
    from-nothing = sym (ap seen_body ran.empty)

    ends-there : (end : End) → found ≡ Some end → node ≡ graph.tree (seen_body news) (seen_end end)
    ends-there end at =
        sym (before_nothing node)
        ∙ run_ends telling other program table.placed place spot ran.leaving after rest-there
        leaves-there goes-there none ran.bodies news found from-nothing ran.runs end at

    goes-behind : found ≡ None →
        node ≡ before (seen_body news) (behind_by telling.layout.now graph_there spot.onward)
    goes-behind at =
        sym (before_nothing node)
        ∙ run_goes telling other program table.placed place spot ran.leaving after rest-there
        leaves-there goes-there none ran.bodies news found from-nothing ran.runs at

    ends-behind : found ≡ None → spot.onward.behind ≡ None →
        node ≡ graph.tree (seen_body news) (seen_target after)
    ends-behind at behind =
        let end = after_by telling.layout.now graph_there spot.onward in
        goes-behind at
        ∙ ap (λ b. before (seen_body news) (tree_behind telling.layout.now graph_there b end)) behind
        ∙ before_only (seen_body news) end
        ∙ ap (graph.tree (seen_body news)) (sym (goes-there program table.placed))

    on-behind : (next : ℕ) → found ≡ None → spot.onward.behind ≡ Some next →
        node ≡ before (seen_body news) (node_in telling program other (point next))
    on-behind next at behind =
        let end = after_by telling.layout.now graph_there spot.onward in
        goes-behind at
        ∙ ap (λ b. before (seen_body news) (tree_behind telling.layout.now graph_there b end)) behind

  -- at whatever the spot there is called
  alike-there : (other : code.Range) (one : Continuation) → slice_get spots place ≡ Some one →
      GoAlike range other one.onward → GoAlike range other spot.onward
  alike-there other one there alike =
      subst (λ (s : Continuation). GoAlike range other s.onward)
      (same-spot one spot (sym there ∙ here_is spots place spot ran.lt ran.is)) alike

  pub run-ends : (run : StraightRun) (end : End) → found ≡ Some end → run.next ≡ None →
      seen_tree run.tree ≡ graph.tree (seen_body news) (seen_end end) →
      IsStraightRunAlike telling spots range place run
  run-ends run end at next is = λ other one there alike program table.
      let so = alike-there other one there alike in
      subst (λ n. RunsOn (node_in telling program other) (seen_tree run.tree) n
      (node_in telling program other (point place))) (sym next)
      (ends-there other so program table end at ∙ sym is)

  pub run-leaves : (run : StraightRun) → found ≡ None → spot.onward.behind ≡ None → run.next ≡ None →
      seen_tree run.tree ≡ graph.tree (seen_body news) (seen_target after) →
      IsStraightRunAlike telling spots range place run
  run-leaves run at behind next is = λ other one there alike program table.
      let so = alike-there other one there alike in
      subst (λ n. RunsOn (node_in telling program other) (seen_tree run.tree) n
      (node_in telling program other (point place))) (sym next)
      (ends-behind other so program table at behind ∙ sym is)

  pub run-goes : (run : StraightRun) (to : ℕ) → found ≡ None → spot.onward.behind ≡ Some to →
      run.next ≡ Some to → seen_tree run.tree ≡ graph.tree (seen_body news) graph.Dead →
      IsStraightRunAlike telling spots range place run
  run-goes run to at behind next is = λ other one there alike program table.
      let so = alike-there other one there alike in
      let node = node_in telling program other in
      subst (λ n. RunsOn node (seen_tree run.tree) n (node (point place))) (sym next) (
        ap graph.end_of is,
        on-behind other so program table to at behind
            ∙ sym (ap (λ t. gone_on t (node (point to))) is),
      )
