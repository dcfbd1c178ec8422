-- What is written of the program's own statements.
use Rattle.std.specs.Prelude.{ℕ, ◌≡◌, List, map, Option, Some, None}
use Rattle.cob_tree.specs.declared.stmt.Stmt.{Stmt}
use Rattle.cob_tree.specs.declared.stmt.Stmt.TheVariants.{Continue}
use Rattle.cob_tree.specs.declared.stmt.When.{When}
use Rattle.control_flow_theory.specs.language.Control.{seen, seen_stmts, seen_when, Branch}
use Rattle.control_flow_theory.specs.language.Language as language
use Rattle.control_flow_theory.specs.language.Language.{Range}
use Rattle.control_flow_theory.specs.rendering.Rendering.{Naming, required, written_stmt, written_stmts}
use Rattle.cobol_theory.specs.cell_serving.Choosing.{written_chooser}
use Rattle.cobol_theory.specs.cell_serving.Entries.{whole_literal}
use Rattle.cobol_theory.specs.cell_serving.Naming.{cell_naming}
use Rattle.cobol_theory.specs.cell_serving.Table.{CellTable}
use Rattle.statement_builders.specs.arms.Placing.{ArePlaced}
use Rattle.statement_builders.specs.arms.EmptyArms.{empties}
use Rattle.statement_builders.specs.declared.arms.placing.ProcedurePlace.{ProcedurePlace}

-- the first added item and the items of cells, and the places of procedures, for the body of a
-- range
pub record Way : Type 0 where
  -- the number of the first added item
  pub first : ℕ
  -- the items of cells
  pub table : CellTable
  -- the places of procedures
  pub place : Range → ℕ
  pub range : Range

-- what the parts are called there
abbrev pub naming_in : Way → Naming
naming_in way =
    cell_naming whole_literal way.first way.table (written_chooser whole_literal)
    (empties way.table)

module _ (way : Way) where
  -- a statement as it is written there
  abbrev pub written : language.Stmt → language.Stmt
  written = written_stmt (naming_in way) way.place way.range

  -- statements as they are written there
  abbrev pub all_written : language.Stmts → language.Stmts
  all_written = written_stmts (naming_in way) way.place way.range

  -- statements as they are written there, or CONTINUE where there are none
  abbrev pub or_nothing : language.Stmts → language.Stmts
  or_nothing stmts = required Continue (all_written stmts)

  -- statements that may be absent, as they are written there
  abbrev pub written_if_any : Option (List Stmt) → language.Stmts
  written_if_any None = language.none
  written_if_any (Some stmts) = all_written (seen_stmts 0 stmts)

  -- a WHEN as it is written there
  abbrev pub written_branch : Branch → Branch
  written_branch branch = record { tests = branch.tests; arm = or_nothing branch.arm }

-- the statement is what is written of the other, whatever the items of cells, with procedures at
-- these places
abbrev pub IsWritten : List ProcedurePlace → (stmt made : Stmt) → Type 0
IsWritten places stmt made =
    (way : Way) → ArePlaced way.place places → seen 0 made ≡ written way (seen 0 stmt)

-- the same of these statements
abbrev pub AreWritten : List ProcedurePlace → (stmts made : List Stmt) → Type 0
AreWritten places stmts made = (way : Way) → ArePlaced way.place places →
    seen_stmts 0 made ≡ all_written way (seen_stmts 0 stmts)

-- the same of these statements, where CONTINUE is written for none
abbrev pub AreRequired : List ProcedurePlace → (stmts made : List Stmt) → Type 0
AreRequired places stmts made = (way : Way) → ArePlaced way.place places →
    seen_stmts 0 made ≡ or_nothing way (seen_stmts 0 stmts)

-- the same of an arm, which may be absent
abbrev pub IsArmWritten : List ProcedurePlace → Option (List Stmt) → (made : List Stmt) → Type 0
IsArmWritten places arm made =
    (way : Way) → ArePlaced way.place places → seen_stmts 0 made ≡ written_if_any way arm

-- the same of these WHENs
abbrev pub AreWhensWritten : List ProcedurePlace → (whens made : List When) → Type 0
AreWhensWritten places whens made = (way : Way) → ArePlaced way.place places →
    map (seen_when 0) made ≡ map (written_branch way) (map (seen_when 0) whens)

-- the statement is what is written of the other, whatever the items of cells and the places of
-- procedures
abbrev pub IsWrittenAlike : (stmt made : Stmt) → Type 0
IsWrittenAlike stmt made = (way : Way) → seen 0 made ≡ written way (seen 0 stmt)
