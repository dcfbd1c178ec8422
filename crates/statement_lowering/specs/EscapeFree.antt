-- Statements without an escape.
use Rattle.std.specs.Prelude.{ℕ, ◌≡◌, Bool, true, false, if◌then◌else◌, List, Option}
use Rattle.cob_tree.specs.declared.stmt.Stmt.{Stmt}
use Rattle.control_flow_theory.specs.language.Control.{seen}
use Rattle.control_flow_theory.specs.language.Language as language
use Rattle.control_flow_theory.specs.semantics.Graph as graph
use Rattle.control_flow_theory.specs.graph_rules.Shapes.{followed, alone}
use Rattle.control_flow_theory.specs.lowering.FlowFacts.{FlowFacts}
use Rattle.control_flow_theory.specs.lowering.Completes.{completes, cut, skips, whole}
use Rattle.control_flow_theory.specs.lowering.Lower as lower
use Rattle.program_facts.specs.completion.FlowFacts.{flow_facts_of}
use Rattle.cob_tree.specs.declared.file.FileEntry.{FileEntry}
use Rattle.branch_tree.specs.Tree.{seen_body}
use Rattle.branch_tree.specs.declared.tree.End.{End}
use Rattle.branch_tree.specs.declared.tree.Piece.{Piece}
use Rattle.statement_lowering.specs.declared.escape_free.StmtKind.{StmtKind}
use Rattle.statement_lowering.specs.declared.escape_free.StmtKind.TheVariants as kind
use Rattle.statement_lowering.specs.LowerList.{Along}

-- what a statement is in a tree, if there is no escape in it
abbrev pub kind_by : FlowFacts → language.Stmt → StmtKind
kind_by told (language.Do act) = if skips told act then kind.Nothing else kind.Stands
kind_by told language.StopRun = kind.Stops
kind_by told _ = kind.Stands

-- this is the kind of the statement, whatever lowering knows, and in whatever section
abbrev pub IsKind : Stmt → StmtKind → Type 0
IsKind stmt found =
    (files : List FileEntry) (returning : List (List ℕ)) (last : ℕ) →
    found ≡ kind_by (flow_facts_of files returning) (seen last stmt)

-- whether the statement has an escape once it is cut
abbrev pub Escapes : FlowFacts → Stmt → Bool → Type 0
Escapes told stmt escapes =
    (last : ℕ) → whole (cut told (seen last stmt)) ≡ (if escapes then false else true)

-- whether control can come to what follows the statement
abbrev pub Completes : FlowFacts → Stmt → Bool → Type 0
Completes told stmt is = (last : ℕ) → is ≡ completes told (seen last stmt)

-- the statement, cut, after a body
abbrev pub AddsCut : FlowFacts → Stmt → (old new : List Piece) → Type 0
AddsCut told stmt old new =
    (last : ℕ) →
    seen_body new ≡ followed (seen_body old) (alone (cut told (seen last stmt)))

-- along it, wherever it is
abbrev pub RunsWhole : FlowFacts → Stmt → Option End → (old new : List Piece) → Type 0
RunsWhole told stmt end old new =
    (last : ℕ) (place_of : ℕ → ℕ) (place : ℕ) (leaving : lower.EscapeTargets) (after : graph.End) →
    Along end (seen_body old) (seen_body new)
    (λ behind. lower.build_stmt told place_of (seen last stmt) place leaving after behind)
