-- Where a rest goes on, in whatever section it is.
use Rattle.std.specs.Prelude.{ℕ, ◌≡◌, if◌then◌else◌, List}
use Rattle.cob_tree.specs.declared.file.FileEntry.{FileEntry}
use Rattle.cob_tree.specs.declared.stmt.Stmt.{Stmt}
use Rattle.control_flow_theory.specs.language.Language as language
use Rattle.control_flow_theory.specs.language.Control.{seen, seen_stmts}
use Rattle.control_flow_theory.specs.semantics.Graph as graph
use Rattle.control_flow_theory.specs.lowering.FlowFacts.{FlowFacts}
use Rattle.control_flow_theory.specs.lowering.Completes.{skips}
use Rattle.control_flow_theory.specs.lowering.Lower as lower
use Rattle.program_facts.specs.completion.FlowFacts.{flow_facts_of}
use Rattle.lowering_labels.specs.points.Layout.{AreAt}
use Rattle.lowering_labels.specs.declared.points.jump_target.JumpTarget.{JumpTarget}
use Rattle.lowering_labels.specs.declared.points.jump_target.JumpTarget.TheVariants as leaf
use Rattle.lowering_labels.specs.declared.points.jump_target.Going.{Going}
use Rattle.lowering_labels.specs.declared.points.jump_target.Going.TheVariants as going

-- the point before a place
abbrev pub point_of : ℕ → ℕ
point_of place = lower.point place

-- an end without a choice, as the theory has it
abbrev pub seen_target : JumpTarget → graph.End
seen_target (leaf.Jump to) = graph.Jump to
seen_target leaf.Return = graph.Return
seen_target leaf.Stop = graph.Stop

-- how control comes by a statement, as far as a continuation goes
abbrev pub going_by : FlowFacts → language.Stmt → Going
going_by told (language.Do act) = if skips told act then going.Past else going.Here
going_by told (language.Go to) = going.To to
going_by told language.StopRun = going.Stops
going_by told _ = going.Here

-- this is how control goes on from the statement, whatever lowering knows, and in whatever section
abbrev pub IsGoing : Stmt → Going → Type 0
IsGoing stmt way =
    (files : List FileEntry) (returning : List (List ℕ)) (last : ℕ) →
    way ≡ going_by (flow_facts_of files returning) (seen last stmt)

-- the continuation of a rest by the places of paragraphs, whatever lowering knows and in whatever
-- section
abbrev pub IsJumpTarget : (places : List ℕ) (end : ℕ) → List Stmt → ℕ → JumpTarget → JumpTarget →
    Type 0
IsJumpTarget places end stmts place after found =
    (files : List FileEntry) (returning : List (List ℕ)) (last : ℕ) (place_of : ℕ → ℕ) →
    AreAt places end place_of →
    seen_target found
    ≡ lower.leaf (flow_facts_of files returning) place_of (seen_stmts last stmts) place
    (seen_target after)
