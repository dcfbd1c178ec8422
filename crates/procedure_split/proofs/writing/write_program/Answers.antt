use Rattle.std.proofs.Common.{◌≡◌, [], ap, sym, subst, ◌∙◌, length, map, arith}
use Rattle.std.proofs.lemmas.Result.{IfOk-weaker}
use Rattle.added_items.specs.item_table.CellItem.{AreCellItems}
use Rattle.added_items.specs.item_table.Owners.{item_kinds}
use Rattle.added_items.specs.item_table.Naming.{item_kind, seen_item}
use Rattle.added_items.specs.item_table.Seen.{seen_ranges}
use Rattle.out_names.specs.Words.{program_words, table_of}
use Rattle.procedure_split.specs.made_procedures.Made.{ArePlacesIn}
use Rattle.procedure_split.specs.Counting.{counts_of}
use Rattle.procedure_split.specs.Writing.{IsWrittenWith}
use Rattle.procedure_split.proofs.RowLemmas.{rows-length}
use Rattle.procedure_split.proofs.WordCounts.{names-length}
use Rattle.procedure_split.proofs.WrittenRows.{written-from}
use Rattle.procedure_split.proofs.writing.write_program.Goals as goal

pub paragraphs_of-requires : goal.paragraphs_of-requires
paragraphs_of-requires c =
    let program = c.args.program.now in
    record {
      trees = c.requires;
      items = ap length c.as_slice-cells.ensures ∙ c.in_ok-given.ensures.cells.0
          ∙ ap (λ r. length (seen_ranges r)) c.as_slice.ensures.value
          ∙ ap length c.in_ok-rows.ensures
          ∙ rows-length c.args.order.now c.args.closed.now c.requires;
      words = ap length c.as_slice-3.ensures ∙ ap length c.in_ok-labels.ensures
          ∙ names-length (table_of (program_words program)) program.paragraphs [] 1
          c.args.order.now;
    }

pub returns-in-Ok : goal.returns-in-Ok
returns-in-Ok c =
    let program = c.args.program.now in
    let begins : c.len-first.result ≡ length program.entries =
    omega (arith, c.len-first.ensures) in
    let row = ap seen_ranges c.as_slice.ensures.value ∙ c.in_ok-rows.ensures in
    IfOk-weaker c.split_of.result _ _
    (λ made e. subst (λ m. IsWrittenWith program c.args.order.now c.args.closed.now m) (sym e)
    (record {
      written = written-from program c.args.order.now c.args.closed.now c.as_slice-in-Ok.result.now
          _ (seen_ranges c.as_slice.result.now) c.len-first.result c.as_slice-cells.result.now
          c.as_slice-2.result.now c.as_slice-3.result.now c.in-Ok.paragraphs
          (ap (map seen_item) c.as_slice-in-Ok.ensures ∙ c.in_ok-given.ensures.entries)
          c.in_ok-words.ensures.value
          row
          (subst (λ l. AreCellItems c.len-first.result (seen_ranges c.as_slice.result.now) l)
          (sym c.as_slice-cells.ensures) c.in_ok-given.ensures.cells)
          begins
          (subst (λ l. ArePlacesIn c.args.order.now l) (sym c.as_slice-2.ensures.value)
          c.in_ok-places.ensures.places)
          (c.as_slice-3.ensures ∙ c.in_ok-labels.ensures)
          (record {
            trees = c.requires;
            items = ap length c.as_slice-cells.ensures ∙ c.in_ok-given.ensures.cells.0
                ∙ ap (λ r. length (seen_ranges r)) c.as_slice.ensures.value
                ∙ ap length c.in_ok-rows.ensures
                ∙ rows-length c.args.order.now c.args.closed.now c.requires;
            words = ap length c.as_slice-3.ensures ∙ ap length c.in_ok-labels.ensures
                ∙ names-length (table_of (program_words program)) program.paragraphs [] 1
                c.args.order.now;
          })
          c.in-Ok.ensures;
      added = ap counts_of (ap (map item_kind) c.as_slice-in-Ok.ensures
          ∙ c.in_ok-given.ensures.kinds ∙ ap item_kinds row);
    })) c.split_of.ensures
