-- The headline for COBOL programs: what a program is written as behaves as it did.
use Rattle.std.specs.Prelude.{ℕ, ◌≡◌, ◌<◌, List, ◌∷◌, ◌++◌, length, IsTrue}
use Rattle.cob_tree.specs.declared.program.Program.{Program}
use Rattle.control_flow_theory.specs.language.Control.{control_of}
use Rattle.control_flow_theory.specs.language.Language.{Picker, Range, Main}
use Rattle.control_flow_theory.specs.language.OwnItems.{NamesOwnItems}
use Rattle.control_flow_theory.specs.language.Structured.{IsStructuredControl}
use Rattle.control_flow_theory.specs.lowering.flow.Paths.{HasFaultyRun}
use Rattle.program_facts.specs.completion.FlowFacts.{flow_facts_of}
use Rattle.control_flow_theory.specs.rendering.Rendering.{Empty, Naming, rendered}
use Rattle.control_flow_theory.specs.rendering.Procedures.{Writable}
use Rattle.control_flow_theory.specs.main_theorem.Chain.{IsPlan, EachCellServed, GraphsServed}
use Rattle.control_flow_theory.specs.main_theorem.CallsReached.{CalledByPaths}
use Rattle.control_flow_theory.specs.main_theorem.MainTheorem.{Plan, graphs_by, procedures_by}
use Rattle.cobol_theory.specs.cobol_parts.Named.{NamesOwnParagraphs}
use Rattle.cobol_theory.specs.cobol_meaning.Same.{SameBehaviour}
use Rattle.meanings.specs.statements.Does.{declared_in}
use Rattle.cobol_theory.specs.added_items.Laying.{begins_with_item, have_levels}
use Rattle.cobol_theory.specs.added_items.Own.{items}
use Rattle.cobol_theory.specs.added_items.Within.{entries_within, files_within}
use Rattle.cobol_theory.specs.cell_serving.Choosing.{written_chooser}
use Rattle.cobol_theory.specs.cell_serving.Entries.{whole_literal, CellEntry, entries_of, added_to, AreEntries}
use Rattle.cobol_theory.specs.cell_serving.Naming.{cell_naming}
use Rattle.cobol_theory.specs.cell_serving.Table.{CellTable}
use Rattle.cobol_theory.specs.cell_serving.Tested.{kinds_of}

-- a program as it is read: it names its own items and paragraphs, each entry has a level, the first
-- is no level 88, and level 88s and status items are of its own
pub record IsProper (program : Program) : Type 0 where
  pub own_items : NamesOwnItems program
  pub own_paragraphs : NamesOwnParagraphs program
  -- the first entry is no level 88
  pub begins : IsTrue (begins_with_item program.entries)
  -- each entry has a level
  pub levels : IsTrue (have_levels program.entries)
  -- the values of level 88s name its own items
  pub values : IsTrue (entries_within (items (declared_in program)) program.entries)
  -- the status items are its own
  pub statuses : IsTrue (files_within (items (declared_in program)) program.files)

-- how a program is written: which ranges return, which nodes are kept and in which order the ranges
-- come; the items of its cells; and what becomes of empty arms
pub record Writing : Type 0 where
  -- the exits of the ranges that return, by their entries
  pub returning : List (List ℕ)
  pub plan : Plan
  -- the items of the cells
  pub cells : List CellEntry
  -- which item each cell has
  pub table : CellTable
  -- what becomes of an empty arm
  pub empty : Range → Picker → ℕ → Empty

-- what the parts of the program are called in the result
abbrev pub naming_of : Program → Writing → Naming
naming_of program writing =
    cell_naming whole_literal (items (declared_in program)) writing.table
    (written_chooser whole_literal) writing.empty

-- which parts of the program may be written, and what its cells are for
abbrev pub writable_of : Program → Writing → Writable
writable_of program writing =
    kinds_of (declared_in program) (added_to program writing.cells) writing.table

-- the program has a paragraph, isn't faulty, and is written so
pub record CanBeWritten (program : Program) (writing : Writing) : Type 0 where
  -- lowering knows the files and the ranges that return
  pub told : writing.plan.told ≡ flow_facts_of program.files writing.returning
  -- the program has a paragraph
  pub some : 0 < length (control_of program).paragraphs
  -- no flow path comes to a fault
  pub fair : HasFaultyRun writing.plan.told (control_of program) → ⊥
  pub planned : IsPlan writing.plan.told (control_of program) writing.plan.keep writing.plan.others
  -- each range after main is performed by a path of an earlier one
  pub called : CalledByPaths writing.plan.told (control_of program) (Main ∷ writing.plan.others)
  -- the cells have items that serve
  pub entries : AreEntries writing.cells writing.table
  -- what the rules write of each cell may be written
  pub cells : EachCellServed (writable_of program writing) (Main ∷ writing.plan.others)
      (graphs_by writing.plan (control_of program))
  -- each part of the lowered graphs may be written
  pub parts : GraphsServed (naming_of program writing) (writable_of program writing)
      (Main ∷ writing.plan.others) (graphs_by writing.plan (control_of program))

-- the result has the program's files, its entries and after them those of the cells, and the
-- control that is written of the closed graphs
pub record IsWrittenOf (program result : Program) (writing : Writing) : Type 0 where
  pub files : result.files ≡ program.files
  pub entries : result.entries ≡ program.entries ++ entries_of writing.cells
  pub control : control_of result
      ≡ rendered (naming_of program writing) (procedures_by writing.plan (control_of program))

-- the headline for COBOL programs: what a program is written as is structured, and behaves as the
-- program over all files
abbrev pub WhatAProgramIsWrittenAsBehavesAlike : Type 0
WhatAProgramIsWrittenAsBehavesAlike =
    (program result : Program) (writing : Writing) →
    IsProper program → CanBeWritten program writing → IsWrittenOf program result writing →
    IsStructuredControl (control_of result) × SameBehaviour program result
