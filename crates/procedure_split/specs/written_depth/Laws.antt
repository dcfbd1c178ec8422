-- What holds of how deep a program nests that is written.
use Rattle.std.specs.Prelude.{ℕ, ◌≡◌, ◌≤◌, List, Some, slice_get}
use Rattle.cob_tree.specs.Depth.{stmts_depth, program_depth}
use Rattle.cob_tree.specs.declared.program.Program as trees
use Rattle.cob_tree.specs.declared.stmt.Stmt as stmts
use Rattle.control_flow_theory.specs.language.Control.{control_of, seen_stmts}
use Rattle.control_flow_theory.specs.language.Language.{Stmts, Range}
use Rattle.control_flow_theory.specs.rendering.Rendering.{Naming, Procedure, rendered, written_stmts}
use Rattle.region_rewrite.specs.written_nesting.Nesting.{nesting}
use Rattle.procedure_split.specs.written_depth.Levels.{levels, program_levels}
use Rattle.procedure_split.specs.written_depth.Fits.{LeavesOut, StmtsFit}

-- statements, and a program, nest as deep as their control
abbrev pub StatementsNestAsControl : Type 0
StatementsNestAsControl = (last : ℕ) (list : List stmts.Stmt) →
    stmts_depth list ≡ levels (seen_stmts last list)

-- a program nests as deep as its control
abbrev pub ProgramsNestAsControl : Type 0
ProgramsNestAsControl = (program : trees.Program) →
    program_depth program ≡ program_levels (control_of program)

-- what is written of a body nests at most as deep as is judged of it, also as a whole sentence
abbrev pub WrittenBodiesNestAsJudged : Type 0
WrittenBodiesNestAsJudged = (naming : Naming) (place : Range → ℕ) (range : Range) →
    LeavesOut naming range → (stmts : Stmts) → StmtsFit naming range stmts →
    levels (written_stmts naming place range stmts) ≤ nesting stmts

-- each procedure has a body that is written without a level more, and is judged to nest so deep
pub record NestsWithin (naming : Naming) (limit : ℕ) (procedure : Procedure) : Type 0 where
  -- empty arms go where they are judged to
  pub leaves : LeavesOut naming procedure.range
  -- each choice is written without a level more than is judged
  pub fits : StmtsFit naming procedure.range procedure.body
  pub within : nesting procedure.body ≤ limit

-- each of these procedures does
abbrev pub AllNestWithin : Naming → ℕ → List Procedure → Type 0
AllNestWithin naming limit procedures = (at : ℕ) (procedure : Procedure) →
    slice_get procedures at ≡ Some procedure → NestsWithin naming limit procedure

-- no program that is written of such procedures nests deeper
abbrev pub WrittenProgramsNestWithin : Type 0
WrittenProgramsNestWithin = (naming : Naming) (limit : ℕ) (procedures : List Procedure)
    (program : trees.Program) → control_of program ≡ rendered naming procedures →
    AllNestWithin naming limit procedures → program_depth program ≤ limit
