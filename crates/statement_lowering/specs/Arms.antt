-- The arms of choices, and the choice among them.
use Rattle.std.specs.Prelude.{ℕ, ◌≡◌, Bool, true, false, if◌then◌else◌, List, map, sum_by, Option, Some, None}
use Rattle.cob_tree.specs.Places.{stmt_places}
use Rattle.cob_tree.specs.declared.choice.Test.{Test}
use Rattle.cob_tree.specs.declared.stmt.Arms.{Arms}
use Rattle.cob_tree.specs.declared.stmt.Stmt.{Stmt}
use Rattle.cob_tree.specs.declared.stmt.When.{When, out-When}
use Rattle.control_flow_theory.specs.language.Control.{arm_before, both_arms, branches_before, else_of, seen, seen_both, seen_stmts, seen_when}
use Rattle.control_flow_theory.specs.language.Language as language
use Rattle.control_flow_theory.specs.language.OwnItems.{stmts_own}
use Rattle.control_flow_theory.specs.semantics.Graph as graph
use Rattle.control_flow_theory.specs.lowering.Lower as lower
use Rattle.branch_tree.specs.Tree.{seen_end, seen_trees}
use Rattle.branch_tree.specs.declared.tree.End.{End}
use Rattle.branch_tree.specs.declared.tree.Tree as code
use Rattle.lowering_labels.specs.points.JumpTarget.{seen_target}
use Rattle.lowering_labels.specs.declared.points.jump_target.JumpTarget.{JumpTarget}
use Rattle.lowering_labels.specs.loop_nodes.Ends.{AddsArm}
use Rattle.statement_lowering.specs.declared.context.LoweringContext.{LoweringContext}
use Rattle.statement_lowering.specs.declared.context.EscapeTargets.{EscapeTargets}
use Rattle.statement_lowering.specs.LowerList.{Setting, flow_facts_by}

-- the arms as the theory has them, in a section with this last paragraph

-- the arms of IF; an empty ELSE is missing
abbrev pub if_arms : (met unmet : List Stmt) → ℕ → language.Arms
if_arms met unmet last =
    language.given (seen_stmts last met)
    (arm_before (else_of (map (seen last) unmet)) language.done)

-- the statements of a phrase, which may be missing
abbrev pub seen_phrase : ℕ → Option (List Stmt) → Option language.Stmts
seen_phrase last None = None
seen_phrase last (Some stmts) = Some (seen_stmts last stmts)

-- the arms of the WHENs, and WHEN OTHER, which may be missing
abbrev pub when_arms : List When → Option (List Stmt) → ℕ → language.Arms
when_arms whens other last =
    branches_before (map (seen_when last) whens)
    (arm_before (seen_phrase last other) language.done)

-- the two arms of READ or of arithmetic, either of which may be missing
abbrev pub phrase_arms : Arms → ℕ → language.Arms
phrase_arms arms last = both_arms (seen_both last arms)

-- one arm alone
abbrev pub one_arm : List Stmt → ℕ → language.Arms
one_arm stmts last = language.given (seen_stmts last stmts) language.done

-- the tests of each WHEN
abbrev pub when_tests : List When → List (List Test)
when_tests whens = map (λ when. (out-When when).tests) whens

module _ (telling : LoweringContext) (leaving : EscapeTargets) where
  -- the tree of an arm from a place on, before that continuation
  abbrev pub arm_tree : Setting telling leaving → List Stmt → ℕ → JumpTarget → graph.Tree
  arm_tree s stmts place after =
      lower.build (flow_facts_by telling) s.place_of (seen_stmts s.last stmts) place s.theirs
      (seen_target after) (lower.end_alone (seen_target after))

  -- the tree of an arm that may be missing
  abbrev pub phrase_tree : Setting telling leaving → Option (List Stmt) → ℕ → JumpTarget →
      graph.Tree
  phrase_tree s None place after = lower.end_alone (seen_target after)
  phrase_tree s (Some stmts) place after = arm_tree s stmts place after

  -- one arm more, which has these statements
  abbrev pub AddsArmOf : List Stmt → ℕ → JumpTarget → (old new : List code.Tree) → Type 0
  AddsArmOf stmts place after old new =
      (s : Setting telling leaving) → AddsArm (arm_tree s stmts place after) old new

  -- one arm more, which has these statements or is missing
  abbrev pub AddsPhrase : Option (List Stmt) → ℕ → JumpTarget → (old new : List code.Tree) → Type 0
  AddsPhrase stmts place after old new =
      (s : Setting telling leaving) → AddsArm (phrase_tree s stmts place after) old new

  -- the arms from a place on; where the first is missing, it may be dead
  abbrev pub AreArms : Bool → (ℕ → language.Arms) → ℕ → JumpTarget → List code.Tree → Type 0
  AreArms is_dead arms place after made =
      (s : Setting telling leaving) →
      seen_trees made
      ≡ lower.build_arms (flow_facts_by telling) s.place_of is_dead (arms s.last) place s.theirs
      (seen_target after)

  -- the end is the choice among these arms
  abbrev pub IsChoice : language.Picker → Bool → (ℕ → language.Arms) → ℕ → JumpTarget → End → Type 0
  IsChoice picker is_dead arms place after made =
      (s : Setting telling leaving) →
      seen_end made
      ≡ graph.Pick picker
      (lower.build_arms (flow_facts_by telling) s.place_of is_dead (arms s.last) place s.theirs
      (seen_target after))

-- the end of a first arm that is missing
abbrev pub missing_end : Bool → JumpTarget → graph.End
missing_end is_dead after = if is_dead then graph.Dead else seen_target after

-- the target to which EXIT PERFORM leads
abbrev pub left_by : Bool → EscapeTargets → JumpTarget
left_by false leaving = leaving.behind_loop
left_by true leaving = leaving.cycle

-- of statements that may be missing

-- the statements of a phrase name own items, or it is missing
abbrev pub phrase_own : Option (List Stmt) → Bool
phrase_own None = true
phrase_own (Some stmts) = stmts_own stmts

-- how many places the statements of a phrase take
abbrev pub phrase_places : Option (List Stmt) → ℕ
phrase_places None = 0
phrase_places (Some stmts) = sum_by stmt_places stmts
