-- The arms of READ and of arithmetic.
use Rattle.std.proofs.Common.{◌≡◌, ℕ, ◌+◌, ◌-◌, ◌<◌, ◌^◌, min, Bool, if◌then◌else◌, List, [], sum_by, Some, None, ap, ap₂, sym, ◌∙◌, arith}
use Rattle.cob_tree.specs.Places.{arms_places, stmt_places}
use Rattle.cob_tree.specs.declared.stmt.Arms.{Arms, out-Arms}
use Rattle.cob_tree.specs.declared.stmt.Stmt.{Stmt}
use Rattle.control_flow_theory.specs.language.Control.{seen_stmts}
use Rattle.control_flow_theory.specs.semantics.Graph as graph
use Rattle.control_flow_theory.specs.lowering.FlowFacts.{FlowFacts}
use Rattle.control_flow_theory.specs.lowering.Completes.{sizes}
use Rattle.control_flow_theory.specs.lowering.Lower as lower
use Rattle.branch_tree.specs.Tree.{seen_trees}
use Rattle.branch_tree.specs.declared.tree.Tree as code
use Rattle.lowering_labels.specs.loop_nodes.Ends.{AddsArm}
use Rattle.statement_lowering.specs.Arms.{phrase_arms, phrase_places}
use Rattle.statement_lowering.proofs.ArmRows.{arm_at, arms_at, first_missing, first_stands, phrase_at, two_alone}
use Rattle.statement_lowering.proofs.EscapeRows.{both_seen}
use Rattle.statement_lowering.proofs.PartRows.{phrases_places}

module _ (told : FlowFacts) (place_of : ℕ → ℕ) (last : ℕ) (leaving : lower.EscapeTargets) (after : graph.End) where
  -- the first is missing
  pub second_alone : (is_dead : Bool) (arms : Arms) (place : ℕ) (stmts slice : List Stmt) (end : graph.End) (old mid new : List code.Tree) → old ≡ [] →
      (out-Arms arms).first ≡ None → (out-Arms arms).second ≡ Some stmts → slice ≡ stmts → end ≡ (if is_dead then graph.Dead else after) →
      AddsArm (lower.end_alone end) old mid → AddsArm (arm_at told place_of last leaving after (seen_stmts last slice) place) mid new →
      seen_trees new ≡ arms_at told place_of last leaving after is_dead (phrase_arms arms last) place
  second_alone is_dead arms place stmts slice end old mid new none first second is dead h k =
      two_alone old mid new (lower.end_alone end) (arm_at told place_of last leaving after (seen_stmts last slice) place) none h k
      ∙ ap₂ (λ e l. graph.more (lower.end_alone e) (graph.more (arm_at told place_of last leaving after (seen_stmts last l) place) graph.no_more)) dead is
      ∙ ap (λ p. graph.more (lower.end_alone (if is_dead then graph.Dead else after)) (graph.more (phrase_at told place_of last leaving after p place) graph.no_more)) (sym second)
      ∙ sym (ap (λ a. arms_at told place_of last leaving after is_dead a place) (both_seen last arms)
      ∙ first_missing told place_of last leaving after is_dead (out-Arms arms).first (out-Arms arms).second place first)

  -- it stands, and another may behind it
  pub first_before : (is_dead : Bool) (arms : Arms) (place next : ℕ) (stmts slice : List Stmt) (old mid new : List code.Tree) → old ≡ [] →
      (out-Arms arms).first ≡ Some stmts → slice ≡ stmts → next ≡ place + sizes (seen_stmts last slice) →
      AddsArm (arm_at told place_of last leaving after (seen_stmts last slice) place) old mid →
      AddsArm (phrase_at told place_of last leaving after (out-Arms arms).second next) mid new →
      seen_trees new ≡ arms_at told place_of last leaving after is_dead (phrase_arms arms last) place
  first_before is_dead arms place next stmts slice old mid new none first is far h k =
      two_alone old mid new (arm_at told place_of last leaving after (seen_stmts last slice) place) (phrase_at told place_of last leaving after (out-Arms arms).second next) none h k
      ∙ sym (ap (λ a. arms_at told place_of last leaving after is_dead a place) (both_seen last arms)
      ∙ first_stands told place_of last leaving after is_dead (out-Arms arms).first (out-Arms arms).second slice place next (first ∙ ap Some (sym is)) far)

-- how many places are left

pub first_exact : (arms : Arms) (place found : ℕ) (stmts slice : List Stmt) → (out-Arms arms).first ≡ Some stmts → slice ≡ stmts → place + arms_places arms < 2 ^ 32 → found ≡ min (sum_by stmt_places slice) (2 ^ 64 - 1) →
    (found ≡ sum_by stmt_places slice) × (place + found + phrase_places (out-Arms arms).second < 2 ^ 32)
first_exact arms place found stmts slice first is fits h =
    let parts = phrases_places arms in
    let one : phrase_places (out-Arms arms).first ≡ sum_by stmt_places slice = ap phrase_places first ∙ ap (sum_by stmt_places) (sym is) in
    let lt : sum_by stmt_places slice < 2 ^ 32 = omega (arith, parts, one, fits) in
    let exact : found ≡ sum_by stmt_places slice = omega (arith, h, lt) in (exact, omega (arith, parts, one, fits, exact))
