-- What is written of shaped ranges, by its parts.
use Rattle.std.proofs.Common.{◌≡◌, ℕ, List, ◌++◌, length, map, ap, ap₂, subst, ◌∙◌, refl}
use Rattle.cob_tree.specs.declared.program.Paragraph.{Paragraph}
use Rattle.cob_tree.specs.declared.program.Program.{Program}
use Rattle.cob_tree.specs.declared.program.Range.{Range}
use Rattle.cobol_theory.specs.cell_serving.Entries.{entries_of}
use Rattle.out_names.specs.Naming.{names_of}
use Rattle.out_names.specs.Words.{program_words, table_of}
use Rattle.statement_builders.specs.declared.arms.placing.ProcedurePlace.{ProcedurePlace}
use Rattle.statement_builders.specs.declared.item_words.cells.CellItem.{CellItem}
use Rattle.added_items.specs.item_table.CellItem.{AreCellItems}
use Rattle.added_items.specs.item_table.Naming.{entries_for, seen_item}
use Rattle.added_items.specs.item_table.Row.{CellRange}
use Rattle.added_items.specs.declared.item_table.naming.AddedItem.{AddedItem}
use Rattle.procedure_split.specs.declared.shaped_ranges.shaping.Closed.{Closed}
use Rattle.procedure_split.specs.made_procedures.Made.{AreAsMany, AreParagraphsOf, ArePlacesIn}
use Rattle.procedure_split.specs.Rows.{rows_of}
use Rattle.procedure_split.specs.Writing.{IsWrittenFrom, with_parts}

module _ (program : Program) (order : List Range) (closed : List Closed) (added : List AddedItem)
    (words : List (List ℕ)) (rows : List CellRange) (first : ℕ) (cells : List (List CellItem))
    (places : List ProcedurePlace) (labels : List (List ℕ)) (paragraphs : List Paragraph)
    (items : map seen_item added ≡ entries_for words rows)
    (all : words ≡ table_of (program_words program)) (row : rows ≡ rows_of order closed)
    (are : AreCellItems first rows cells) (begins : first ≡ length program.entries)
    (placed : ArePlacesIn order places) (called : labels ≡ names_of program order)
    (many : AreAsMany order closed cells labels)
    (made : AreParagraphsOf order closed cells places labels paragraphs) where
  pub written-from : IsWrittenFrom program order closed
      (with_parts program (program.entries ++ entries_of (map seen_item added)) paragraphs)
  written-from = record {
    name = refl;
    files = refl;
    entries = ap (λ l. program.entries ++ entries_of l)
        (items ∙ ap₂ (λ w r. entries_for w r) all row);
    cells = cells;
    items = subst (λ r. AreCellItems (length program.entries) r cells) row
        (subst (λ n. AreCellItems n rows cells) begins are);
    places = places;
    placed = placed;
    many = subst (λ l. AreAsMany order closed cells l) called many;
    paragraphs = subst (λ l. AreParagraphsOf order closed cells places l paragraphs) called made;
  }
