-- Which windows, places and operands have few enough terms to be read back, outside of expressions.
use Rattle.std.specs.Prelude.{ℕ, ◌+◌, nat_le, Bool, true, ◌&&◌}
use Rattle.cob_tree.specs.declared.place.Operand.{Operand}
use Rattle.cob_tree.specs.declared.place.Operand.TheVariants as operands
use Rattle.cob_tree.specs.declared.place.Place.{Place, out-Place}
use Rattle.cob_tree.specs.declared.place.Window.{Window, out-Window}
use Rattle.program_facts.specs.well_scoped.Part.{if_any}
use Rattle.program_facts.specs.term_counts.Expression as sizes
use Rattle.program_facts.specs.term_counts.Expression.{expr_terms}
use Rattle.cob_base.specs.Limit.{max_terms}

-- a window has room: its first expression is counted after what was counted before, its second one
-- anew
abbrev pub window_has_room : (before : ℕ) → Window → Bool
window_has_room before window =
    nat_le (before + expr_terms (out-Window window).from) max_terms
    && nat_le (sizes.if_any expr_terms (out-Window window).length) max_terms

-- a place has room for its window
abbrev pub place_has_room : (before : ℕ) → Place → Bool
place_has_room before place = if_any (window_has_room before) (out-Place place).window

-- an operand counts as one term itself, a place that can't be a literal doesn't
abbrev pub operand_has_room : Operand → Bool
operand_has_room (operands.Place place) = place_has_room 1 place
operand_has_room operand = true
