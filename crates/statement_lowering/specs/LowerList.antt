-- What going along statements comes to.
use Rattle.std.specs.Prelude.{ℕ, ◌≡◌, List, Option, Some, None}
use Rattle.cob_tree.specs.declared.stmt.Stmt.{Stmt}
use Rattle.control_flow_theory.specs.language.Control.{seen, seen_stmts}
use Rattle.control_flow_theory.specs.language.Language.{Stmts}
use Rattle.control_flow_theory.specs.semantics.Graph as graph
use Rattle.control_flow_theory.specs.lowering.FlowFacts.{FlowFacts}
use Rattle.control_flow_theory.specs.lowering.Lower as lower
use Rattle.program_facts.specs.completion.FlowFacts.{flow_facts_of}
use Rattle.branch_tree.specs.Tree.{seen_body, seen_end, seen_tree}
use Rattle.branch_tree.specs.declared.tree.End.{End}
use Rattle.branch_tree.specs.declared.tree.Piece.{Piece}
use Rattle.branch_tree.specs.declared.tree.Tree as code
use Rattle.lowering_labels.specs.points.Layout.{AreAt}
use Rattle.lowering_labels.specs.points.JumpTarget.{seen_target}
use Rattle.lowering_labels.specs.declared.points.jump_target.JumpTarget.{JumpTarget}
use Rattle.lowering_labels.specs.loop_nodes.Loops.{before}
use Rattle.statement_lowering.specs.declared.context.LoweringContext.{LoweringContext}
use Rattle.statement_lowering.specs.declared.context.EscapeTargets.{EscapeTargets}

-- what lowering knows
abbrev pub flow_facts_by : LoweringContext → FlowFacts
flow_facts_by telling = flow_facts_of telling.files.now telling.returning.now

-- the theory's words for where what leaves a rest goes on, in a section with this last paragraph
pub record AreEscapeTargets (leaving : EscapeTargets) (last : ℕ)
    (theirs : lower.EscapeTargets) : Type 0 where
  -- after the sentence
  pub sentence : theirs.sentence ≡ seen_target leaving.sentence
  -- at the end of the paragraph
  pub paragraph : theirs.paragraph ≡ seen_target leaving.paragraph
  -- at the end of the section
  pub section : theirs.section last ≡ seen_target leaving.section
  -- after the innermost loop
  pub loop : theirs.loop ≡ seen_target leaving.behind_loop
  -- at the next turn of that loop
  pub cycle : theirs.cycle ≡ seen_target leaving.cycle

-- where statements may be: the places of paragraphs, and a section that is left so
pub record Setting (telling : LoweringContext) (leaving : EscapeTargets) : Type 0 where
  -- the place of each paragraph
  pub place_of : ℕ → ℕ
  -- the last paragraph of the section
  pub last : ℕ
  -- where what leaves a rest goes on
  pub theirs : lower.EscapeTargets
  -- the table has these places
  pub at : AreAt telling.layout.now.places.items telling.layout.now.end place_of
  -- the section is left so
  pub leaves : AreEscapeTargets leaving last theirs

-- one body goes on as the other towards what follows: the tree, where it ends by itself; else what
-- is after, further on
abbrev pub Along : Option End → Stmts → Stmts → (graph.Tree → graph.Tree) → Type 0
Along None old new made = (behind : graph.Tree) → before old (made behind) ≡ before new behind
Along (Some end) old new made =
    (behind : graph.Tree) → before old (made behind) ≡ graph.tree new (seen_end end)

-- along these statements from a place on, with that continuation
abbrev pub Runs : LoweringContext → EscapeTargets → List Stmt → ℕ → JumpTarget → Option End →
    (old new : List Piece) → Type 0
Runs telling leaving stmts place after end old new =
    (s : Setting telling leaving) →
    Along end (seen_body old) (seen_body new)
    (λ behind. lower.build (flow_facts_by telling) s.place_of
    (seen_stmts s.last stmts) place s.theirs (seen_target after) behind)

-- along a statement
abbrev pub RunsBy : LoweringContext → EscapeTargets → Stmt → ℕ → JumpTarget → Option End →
    (old new : List Piece) →
    Type 0
RunsBy telling leaving stmt place after end old new =
    (s : Setting telling leaving) →
    Along end (seen_body old) (seen_body new) (λ behind. lower.build_stmt (flow_facts_by telling)
    s.place_of (seen s.last stmt) place s.theirs (seen_target after) behind)

-- the tree is the body, then what these statements are built to, and then the continuation
abbrev pub RunsTo : LoweringContext → EscapeTargets → List Stmt → ℕ → JumpTarget → List Piece →
    code.Tree → Type 0
RunsTo telling leaving stmts place after body made =
    (s : Setting telling leaving) →
    seen_tree made
    ≡ before (seen_body body)
    (lower.build (flow_facts_by telling) s.place_of (seen_stmts s.last stmts)
    place s.theirs (seen_target after) (lower.end_alone (seen_target after)))
