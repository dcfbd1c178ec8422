-- The turns of a loop.
use Rattle.std.proofs.Common.{◌≡◌, ℕ, ◌+◌, List, [], Option, Some, None, refl, ap, sym, ◌∙◌, subst}
use Rattle.cob_tree.specs.declared.stmt.Stmt.{Stmt}
use Rattle.control_flow_theory.specs.language.Control.{seen_stmts}
use Rattle.control_flow_theory.specs.language.Language as language
use Rattle.control_flow_theory.specs.semantics.Graph as graph
use Rattle.control_flow_theory.specs.graph_rules.Shapes.{followed}
use Rattle.control_flow_theory.specs.lowering.Lower as lower
use Rattle.branch_tree.specs.Tree.{seen_body, seen_tree}
use Rattle.branch_tree.specs.declared.tree.End.{End}
use Rattle.branch_tree.specs.declared.tree.Piece.{Piece}
use Rattle.branch_tree.specs.declared.tree.Tree as code
use Rattle.lowering_labels.specs.points.JumpTarget.{seen_target}
use Rattle.lowering_labels.specs.declared.points.jump_target.JumpTarget.{JumpTarget}
use Rattle.lowering_labels.specs.loop_nodes.Loops.{before, turn_start}
use Rattle.lowering_labels.specs.loop_nodes.Nodes.{Adds}
use Rattle.lowering_labels.proofs.loop_nodes_lemmas.StartRows.{followed_none}
use Rattle.statement_lowering.specs.declared.context.LoweringContext.{LoweringContext}
use Rattle.statement_lowering.specs.declared.context.EscapeTargets.{EscapeTargets}
use Rattle.statement_lowering.specs.LowerList.{Along, AreEscapeTargets, RunsTo, Setting, flow_facts_by}
use Rattle.statement_lowering.specs.LoopParts.{body_tree, end_or, turn_end}

-- along statements, and then the continuation
pub along_to : (end : Option End) (old new : language.Stmts) (made : graph.Tree → graph.Tree) (after : JumpTarget) → Along end old new made → graph.tree new (end_or end after) ≡ before old (made (lower.end_alone (seen_target after)))
along_to None old new made after h = sym (h (lower.end_alone (seen_target after)) ∙ ap (λ b. graph.tree b (seen_target after)) (sym (followed_none new)))
along_to (Some end) old new made after h = sym (h (lower.end_alone (seen_target after)))

inner_leaves : (leaving inner : EscapeTargets) (after turn : JumpTarget) (last : ℕ) (theirs : lower.EscapeTargets) (end : graph.End) →
    inner ≡ record leaving { behind_loop = after; cycle = turn } → seen_target turn ≡ end → AreEscapeTargets leaving last theirs →
    AreEscapeTargets inner last (lower.within_loop theirs (seen_target after) end)
inner_leaves leaving inner after turn last theirs end is e h =
    subst (λ (l : EscapeTargets). AreEscapeTargets l last (lower.within_loop theirs (seen_target after) end)) (sym is) (record {
      sentence = h.sentence;
      paragraph = h.paragraph;
      section = h.section;
      loop = refl;
      cycle = sym e;
    })

module _ (telling : LoweringContext) (leaving inner : EscapeTargets) (s : Setting telling leaving) (control : Option language.Control) (place : ℕ) (after turn : JumpTarget) (turns : List Stmt)
    (is : inner ≡ record leaving { behind_loop = after; cycle = turn }) (e : seen_target turn ≡ turn_end control place) where
  -- within the loop
  abbrev inside : Setting telling inner
  inside = record {
    place_of = s.place_of;
    last = s.last;
    theirs = lower.within_loop s.theirs (seen_target after) (turn_end control place);
    at = s.at;
    leaves = inner_leaves leaving inner after turn s.last s.theirs (turn_end control place) is e s.leaves;
  }

  pub turn_built : (old body : List Piece) (made : code.Tree) → old ≡ [] → Adds (turn_start control place) old body → RunsTo telling inner turns (place + 1) turn body made →
      seen_tree made
      ≡ before (turn_start control place) (body_tree (flow_facts_by telling) s.place_of control (seen_stmts s.last turns) place s.theirs (seen_target after))
  turn_built old body made none adds runs =
      runs inside
      ∙ ap (λ end. before (seen_body body) (lower.build (flow_facts_by telling) s.place_of (seen_stmts s.last turns) (place + 1) (lower.within_loop s.theirs (seen_target after) (turn_end control place)) end (lower.end_alone end))) e
      ∙ ap (λ b. before b (body_tree (flow_facts_by telling) s.place_of control (seen_stmts s.last turns) place s.theirs (seen_target after)))
      (adds ∙ ap (λ l. followed (seen_body l) (turn_start control place)) none)
