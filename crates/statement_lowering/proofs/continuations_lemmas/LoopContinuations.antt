-- The rests of the bodies of loops.
use Rattle.std.proofs.Common.{◌≡◌, ℕ, ◌+◌, ◌*◌, List, length, sum_by, Option, Some, refl, ap, sym, ◌∙◌, subst, arith}
use Rattle.cob_tree.specs.Places.{stmt_places}
use Rattle.cob_tree.specs.declared.stmt.Stmt.{Stmt}
use Rattle.control_flow_theory.specs.language.Control.{loop_of, seen_stmts}
use Rattle.control_flow_theory.specs.language.Language as language
use Rattle.control_flow_theory.specs.semantics.Graph as graph
use Rattle.control_flow_theory.specs.lowering.Lower as lower
use Rattle.control_flow_theory.specs.lowering.Lowered.{Within}
use Rattle.lowering_labels.specs.points.JumpTarget.{seen_target}
use Rattle.lowering_labels.specs.declared.points.layout.PlaceTable.{PlaceTable}
use Rattle.lowering_labels.specs.declared.points.jump_target.JumpTarget.{JumpTarget}
use Rattle.statement_lowering.specs.declared.continuations.continuation.Successors.{Successors}
use Rattle.statement_lowering.specs.declared.continuations.continuation.Continuation.{Continuation}
use Rattle.statement_lowering.specs.continuations.Successors.{Lowering, after_by, behind_by, ended, IsInLoop, leaving_by, tree_behind}
use Rattle.statement_lowering.specs.continuations.Statements.{Adds, AddsRests, Agrees, HasInner, HasNodes, told}
use Rattle.statement_lowering.proofs.continuations_lemmas.Adding.{adds_under}
use Rattle.statement_lowering.proofs.continuations_lemmas.Leaves.{ended_is, replaced}
use Rattle.statement_lowering.proofs.continuations_lemmas.Within.{agrees_right, within-loop}

-- a turn's end is a jump, whatever the paragraph's end
ended_jump : (end : graph.End) (at : JumpTarget) (to : graph.Label) → seen_target at ≡ graph.Jump to → ended end at ≡ graph.Jump to
ended_jump end at to is = ended_is end at ∙ ap (replaced end) is

module _ (layout : PlaceTable) (g : Lowering layout) (control : language.Control) (place : ℕ) (old new : Successors) (in_loop : IsInLoop (Some control) place old new) where
  abbrev turn : graph.End
  turn = graph.Jump (lower.loop_back_label control place)

  abbrev inner : lower.EscapeTargets
  inner = lower.within_loop (leaving_by layout g old) (after_by layout g old) turn

  turn_after : ended (g.ends old.paragraph) new.after ≡ turn
  turn_after = ended_jump (g.ends old.paragraph) new.after (lower.loop_back_label control place) in_loop.turn

  after_within : after_by layout g new ≡ turn
  after_within = ap (λ (o : Successors). ended (g.ends o.paragraph) new.after) in_loop.same ∙ turn_after

  leaving_within : leaving_by layout g new ≡ inner
  leaving_within = ap (leaving_by layout g) in_loop.same ∙ ap (lower.within_loop (leaving_by layout g old) (after_by layout g old)) turn_after

  behind_within : behind_by layout g new ≡ lower.end_alone turn
  behind_within = ap (λ (o : Successors). tree_behind layout g o.behind (after_by layout g new)) in_loop.same ∙ ap lower.end_alone after_within

  last_within : new.last ≡ old.last
  last_within = ap (λ (o : Successors). o.last) in_loop.same

  -- the nodes of its body are among those of the loop
  pub turns_have : (turns : List Stmt) (next : ℕ) → place + 1 ≡ next →
      HasInner layout g (language.Loop control (language.Nested (seen_stmts old.last turns))) place (sum_by stmt_places turns) old → HasNodes layout g turns next new
  turns_have turns next is has =
      let stmts = seen_stmts old.last turns in
      let places = sum_by stmt_places turns in
      let built = lower.build (told layout g) g.place_of stmts (place + 1) inner turn (lower.end_alone turn) in
      let xs = lower.loop_nodes control place built (after_by layout g old) in
      let left : Within (3 * place + 1) (3 * (place + 1)) xs = within-loop control place built (after_by layout g old) in
      let body : Agrees g.node (3 * (place + 1)) (3 * (place + 1 + places)) (lower.nodes (told layout g) g.place_of stmts (place + 1) inner turn (lower.end_alone turn)) =
      agrees_right g.node (3 * place + 1) (3 * (place + 1)) (3 * (place + 1 + places)) xs (lower.nodes (told layout g) g.place_of stmts (place + 1) inner turn (lower.end_alone turn)) left (omega arith) has in
      subst (λ n. HasNodes layout g turns n new) is
      (subst (λ x. Agrees g.node (3 * (place + 1)) (3 * (place + 1 + places)) (lower.nodes (told layout g) g.place_of (seen_stmts x turns) (place + 1) (leaving_by layout g new) (after_by layout g new) (behind_by layout g new))) (sym last_within)
      (subst (λ x. Agrees g.node (3 * (place + 1)) (3 * (place + 1 + places)) (lower.nodes (told layout g) g.place_of stmts (place + 1) x (after_by layout g new) (behind_by layout g new))) (sym leaving_within)
      (subst (λ x. Agrees g.node (3 * (place + 1)) (3 * (place + 1 + places)) (lower.nodes (told layout g) g.place_of stmts (place + 1) inner x (behind_by layout g new))) (sym after_within)
      (subst (λ x. Agrees g.node (3 * (place + 1)) (3 * (place + 1 + places)) (lower.nodes (told layout g) g.place_of stmts (place + 1) inner turn x)) (sym behind_within) body))))

-- so its rests are those of the loop
pub turns_added : (layout : PlaceTable) (control : Option language.Control) (one : language.Control) (turns : List Stmt) (place : ℕ) (onward within : Successors) (old new : List Continuation) →
    control ≡ Some one → place + 1 ≡ length old → IsInLoop control place onward within → AddsRests layout turns within old new →
    Adds layout (sum_by stmt_places turns) (λ g. HasInner layout g (loop_of control (seen_stmts onward.last turns)) place (sum_by stmt_places turns) onward) old new
turns_added layout control one turns place onward within old new is at in_loop h =
    subst (λ c. IsInLoop c place onward within → Adds layout (sum_by stmt_places turns) (λ g. HasInner layout g (loop_of c (seen_stmts onward.last turns)) place (sum_by stmt_places turns) onward) old new) (sym is)
    (λ within_one.
    adds_under layout (sum_by stmt_places turns) (sum_by stmt_places turns) (λ g. HasNodes layout g turns (length old) within)
    (λ g. HasInner layout g (language.Loop one (language.Nested (seen_stmts onward.last turns))) place (sum_by stmt_places turns) onward) old new
    (λ g has. turns_have layout g one place onward within within_one turns (length old) at has) refl h)
    in_loop
