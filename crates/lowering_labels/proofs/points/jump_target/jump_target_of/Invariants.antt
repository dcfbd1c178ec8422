use Rattle.std.proofs.Common.{◌≡◌, ◌+◌, ℕ, List, drop}
use Rattle.cob_tree.specs.declared.file.FileEntry.{FileEntry}
use Rattle.control_flow_theory.specs.language.Control.{seen_stmts}
use Rattle.control_flow_theory.specs.lowering.Lower as lower
use Rattle.program_facts.specs.completion.FlowFacts.{flow_facts_of}
use Rattle.lowering_labels.specs.points.Layout.{AreAt}
use Rattle.lowering_labels.specs.points.JumpTarget.{seen_target}
use Rattle.lowering_labels.proofs.points.jump_target.jump_target_of.Given as goal

abbrev pub invariant-loop-stmt : goal.invariant-loop-stmt
invariant-loop-stmt l =
    (l.here ≡ l.place + l.stmt-index)
    × ((files : List FileEntry) (returning : List (List ℕ)) (last : ℕ) (place_of : ℕ → ℕ) → AreAt l.layout.places.items l.layout.end place_of →
    lower.leaf (flow_facts_of files returning) place_of (seen_stmts last (drop l.stmt-index l.stmts)) l.here (seen_target l.after)
    ≡ lower.leaf (flow_facts_of files returning) place_of (seen_stmts last l.stmts) l.place (seen_target l.after))
