-- Arms that are added to others, and those of a GO TO DEPENDING.
use Rattle.std.specs.Prelude.{ℕ, ◌≡◌, List, [], ◌∷◌, ◌++◌, map, length}
use Rattle.cob_tree.specs.declared.place.Place.{Place}
use Rattle.control_flow_theory.specs.language.Language.{By, Depending}
use Rattle.control_flow_theory.specs.semantics.Graph as graph
use Rattle.control_flow_theory.specs.lowering.Lower as lower
use Rattle.program_facts.specs.completion.FlowFacts.{flow_facts_of}
use Rattle.cob_tree.specs.declared.file.FileEntry.{FileEntry}
use Rattle.branch_tree.specs.declared.tree.Tree as code
use Rattle.branch_tree.specs.Tree.{seen_tree, seen_trees, seen_end}
use Rattle.branch_tree.specs.declared.tree.End.{End}
use Rattle.lowering_labels.specs.declared.points.layout.PlaceTable.{PlaceTable}
use Rattle.lowering_labels.specs.points.Layout.{place_at, AreAt}
use Rattle.lowering_labels.specs.points.JumpTarget.{point_of, seen_target}
use Rattle.lowering_labels.specs.declared.points.jump_target.JumpTarget.{JumpTarget}

-- one arm more
abbrev pub AddsArm : graph.Tree → List code.Tree → List code.Tree → Type 0
AddsArm arm old new = map seen_tree new ≡ map seen_tree old ++ arm ∷ []

-- the jump to a paragraph
abbrev pub jump_to : List ℕ → ℕ → ℕ → graph.Tree
jump_to places end number = lower.end_alone (graph.Jump (point_of (place_at places end number)))

-- a jump more for each paragraph
abbrev pub AddsJumps : PlaceTable → List ℕ → List code.Tree → List code.Tree → Type 0
AddsJumps layout to old new =
    map seen_tree new ≡ map seen_tree old ++ map (jump_to layout.places.items layout.end) to

-- the arms of a GO TO DEPENDING of these names, whatever lowering knows
abbrev pub IsDepending : PlaceTable → List ℕ → JumpTarget → List code.Tree → Type 0
IsDepending layout to after arms =
    (files : List FileEntry) (returning : List (List ℕ)) (place_of : ℕ → ℕ) →
    AreAt layout.places.items layout.end place_of →
    seen_trees arms
    ≡ lower.depending (flow_facts_of files returning) place_of to (seen_target after)

-- the end is the choice by GO TO DEPENDING among these paragraphs
abbrev pub IsDependingEnd : PlaceTable → List ℕ → Place → JumpTarget → End → Type 0
IsDependingEnd layout to on after made =
    (files : List FileEntry) (returning : List (List ℕ)) (place_of : ℕ → ℕ) →
    AreAt layout.places.items layout.end place_of →
    seen_end made
    ≡ graph.Pick (By (Depending on (length to)))
    (lower.depending (flow_facts_of files returning) place_of to (seen_target after))
