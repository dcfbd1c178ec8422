-- What becomes of an arm with nothing in it: it holds CONTINUE, or goes. The arms of IF and WHEN
-- continue; ELSE, NOT AT END and NOT ON SIZE ERROR go; WHEN OTHER and AT END continue where the
-- source has them. ON SIZE ERROR continues where it is given, as in each choice that rules make,
-- and is missing where it is so in a statement that is written whole. GO TO DEPENDING has no WHEN
-- OTHER, and neither has the choice of an exit, whose last arm is one in the result.
use Rattle.std.specs.Prelude.{ℕ, zero, suc, Bool, true, false, if◌then◌else◌, ◌==◌, ◌&&◌, nat_lt, length, Option, Some, None}
use Rattle.cob_tree.specs.declared.stmt.Stmt.TheVariants.{Continue}
use Rattle.control_flow_theory.specs.language.Language.{Range, Chooser, Evaluate, Read, Arith, Depending, Picker, If, By, ByCell, Stmts, none, also, Arms}
use Rattle.control_flow_theory.specs.rendering.Rendering.{Empty, Continues, Stays, Goes, required, written_arm}
use Rattle.cobol_theory.specs.cell_serving.Table.{CellTable}

-- what becomes of an empty arm that the source has, or lacks
abbrev pub if_had : Bool → Empty
if_had true = Continues
if_had false = Goes

-- what becomes of an empty arm of a choice with so many WHENs
abbrev pub of_whens : (whens : ℕ) → (has_other : Bool) → ℕ → Empty
of_whens whens has_other arm = if nat_lt arm whens then Continues else if_had has_other

-- what becomes of an empty arm of a choice by this chooser
abbrev pub of_chooser : Chooser → ℕ → Empty
of_chooser (Evaluate subject tests has_other) arm = of_whens (length tests) has_other arm
of_chooser (Read file into has_end) zero = if_had has_end
of_chooser (Read file into has_end) (suc arm) = Goes
of_chooser (Arith calc into) zero = Stays
of_chooser (Arith calc into) (suc arm) = Goes
of_chooser (Depending on names) arm = of_whens names false arm

-- a choice by a cell whose last arm is WHEN OTHER has as many arms as values are put into the cell
abbrev pub of_cell : (ends_in_other : Bool) → (most : ℕ) → ℕ → Empty
of_cell ends_in_other most arm = if ends_in_other && suc arm == most then Goes else Continues

-- what becomes of an empty arm of a choice in a range, by what chooses and the arm's number
abbrev pub empties : CellTable → Range → Picker → ℕ → Empty
empties table range (If test) zero = Continues
empties table range (If test) (suc arm) = Goes
empties table range (By chooser) arm = of_chooser chooser arm
empties table range (ByCell cell) arm =
    of_cell (table.ends_in_other range cell) (table.most range cell) arm

-- an arm with these statements, before others
abbrev pub put_arm : Empty → Stmts → Arms → Arms
put_arm empty stmts others = written_arm Continue empty true stmts others

-- whether it is there
abbrev pub stands_so : Bool → Stmts → Bool
stands_so continues (also stmt stmts) = true
stands_so continues none = continues

-- the statements of an arm that is there or not
abbrev pub kept_stmts : Bool → Stmts → Option Stmts
kept_stmts continues (also stmt stmts) = Some (also stmt stmts)
kept_stmts true none = Some (required Continue none)
kept_stmts false none = None
