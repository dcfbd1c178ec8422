-- What is written of shaped ranges.
use Rattle.std.specs.Prelude.{◌≡◌, List, ◌++◌, length, map}
use Rattle.cob_tree.specs.declared.entry.Entry.{Entry}
use Rattle.cob_tree.specs.declared.program.Paragraph.{Paragraph}
use Rattle.cob_tree.specs.declared.program.Program.{Program}
use Rattle.cob_tree.specs.declared.program.Range.{Range}
use Rattle.cobol_theory.specs.cell_serving.Entries.{CellEntry, entries_of}
use Rattle.out_names.specs.Naming.{names_of}
use Rattle.out_names.specs.Words.{program_words, table_of}
use Rattle.statement_builders.specs.declared.arms.placing.ProcedurePlace.{ProcedurePlace}
use Rattle.statement_builders.specs.declared.item_words.cells.CellItem.{CellItem}
use Rattle.added_items.specs.item_table.CellItem.{AreCellItems}
use Rattle.added_items.specs.item_table.Owners.{item_kinds}
use Rattle.added_items.specs.item_table.Naming.{entries_for, item_kind, seen_item}
use Rattle.added_items.specs.declared.item_table.naming.AddedItem.{AddedItem}
use Rattle.procedure_split.specs.declared.shaped_ranges.shaping.Closed.{Closed}
use Rattle.procedure_split.specs.made_procedures.Made.{AreAsMany, AreParagraphsOf, ArePlacesIn}
use Rattle.procedure_split.specs.Counting.{counts_of}
use Rattle.procedure_split.specs.Rows.{rows_of}
use Rattle.procedure_split.specs.declared.writing.Split.{Split}

-- the program with other entries and paragraphs
abbrev pub with_parts : Program → List Entry → List Paragraph → Program
with_parts program entries paragraphs = record {
  name = program.name;
  files = program.files;
  entries = entries;
  paragraphs = paragraphs;
}

-- the program with these paragraphs, and entries for these items, which are counted
abbrev pub split_of : Program → List AddedItem → List Paragraph → Split
split_of program items paragraphs = record {
  program = with_parts program (program.entries ++ entries_of (map seen_item items)) paragraphs;
  added = counts_of (map item_kind items);
}

-- the entries of the items for the cells of the ranges
abbrev pub added_entries : Program → List Range → List Closed → List CellEntry
added_entries program order closed =
    entries_for (table_of (program_words program)) (rows_of order closed)

-- the program that is made has its entries after the program's own, and its paragraphs are those of
-- the ranges, by the items of their cells and the places of all procedures
pub record IsWrittenFrom (program : Program) (order : List Range) (closed : List Closed)
    (made : Program) : Type 0 where
  pub name : made.name ≡ program.name
  pub files : made.files ≡ program.files
  -- its entries are the program's, and after them those of the added items
  pub entries : made.entries
      ≡ program.entries ++ entries_of (added_entries program order closed)
  -- for each range the items of its cells
  pub cells : List (List CellItem)
  -- each cell has its item
  pub items : AreCellItems (length program.entries) (rows_of order closed) cells
  -- the places of the procedures
  pub places : List ProcedurePlace
  -- each range has its place
  pub placed : ArePlacesIn order places
  -- there are as many of each as ranges
  pub many : AreAsMany order closed cells (names_of program order)
  -- its paragraphs are those of the ranges
  pub paragraphs :
      AreParagraphsOf order closed cells places (names_of program order) made.paragraphs

-- the program is written so, and so many items of each kind are added: one for each entry
pub record IsWrittenWith (program : Program) (order : List Range) (closed : List Closed)
    (split : Split) : Type 0 where
  -- the result is written so
  pub written : IsWrittenFrom program order closed split.program
  -- so many items of each kind are added
  pub added : split.added ≡ counts_of (item_kinds (rows_of order closed))
