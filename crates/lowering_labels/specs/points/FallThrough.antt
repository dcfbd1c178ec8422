-- Where a range goes on after a paragraph.
use Rattle.std.specs.Prelude.{ℕ, ◌≡◌, ◌+◌, slice_get, List, Option, Some, None}
use Rattle.cob_tree.specs.declared.program.Program.{Program}
use Rattle.cob_tree.specs.declared.program.Range as code
use Rattle.control_flow_theory.specs.language.Control.{control_of}
use Rattle.control_flow_theory.specs.language.Language.{Range, Main, Part}
use Rattle.control_flow_theory.specs.lowering.Lower as lower
use Rattle.lowering_labels.specs.points.Layout.{AreAt, IsLayout}
use Rattle.lowering_labels.specs.points.JumpTarget.{seen_target, point_of}
use Rattle.lowering_labels.specs.declared.points.jump_target.JumpTarget.TheVariants as leaf
use Rattle.lowering_labels.specs.declared.points.jump_target.JumpTarget.{JumpTarget}

-- the range from an entry to an exit; without an exit it is main
abbrev pub range_by : ℕ → Option ℕ → Range
range_by entry None = Main
range_by entry (Some exit) = Part entry exit

-- a range as the theory has it
abbrev pub seen_range : code.Range → Range
seen_range range = range_by range.entry range.exit

-- the target before this place, or the stop of the run where there is none
abbrev pub fallen_to : Option ℕ → JumpTarget
fallen_to None = leaf.Stop
fallen_to (Some place) = leaf.Jump (point_of place)

-- the target after a paragraph that isn't the exit: before the next one, or the stop where there is
-- none
abbrev pub fallen : List ℕ → ℕ → JumpTarget
fallen places number = fallen_to (slice_get places (number + 1))

-- the end of a paragraph in a range of any program that has these places
abbrev pub IsEnd : (places : List ℕ) (end : ℕ) → code.Range → ℕ → JumpTarget → Type 0
IsEnd places end range number found =
    (program : Program) (place_of : ℕ → ℕ) → IsLayout program places end →
    AreAt places end place_of →
    seen_target found
    ≡ lower.paragraph_end_target place_of (control_of program) (seen_range range) number
