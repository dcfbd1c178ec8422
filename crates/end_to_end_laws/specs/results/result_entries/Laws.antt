-- What split programs declare.
use Rattle.std.specs.Prelude.{◌≡◌, ◌^◌, ◌<◌, false, List, length, None}
use Rattle.cob_tree.specs.declared.program.Program.{Program}
use Rattle.cob_store.specs.sizes.Storage.{storage_limit, storage_of}
use Rattle.out_names.specs.Words.{program_words}
use Rattle.pending_returns.specs.declared.facts.Summary.{Summary}
use Rattle.added_items.specs.item_table.Owners.{item_kinds}
use Rattle.added_items.specs.item_table.Row.{CellRange}
use Rattle.procedure_split.specs.Rows.{rows_of}
use Rattle.procedure_split.specs.Splitting.{IsSplit}
use Rattle.end_to_end_laws.specs.results.result_entries.Items.{DeclaresItems, ServesCells}

-- a result declares the items of its cells after the program's own
abbrev pub SplitProgramsDeclareItems : Type 0
SplitProgramsDeclareItems =
    (program made : Program) (summary : Summary) (split : IsSplit program summary made) →
    DeclaresItems program made (rows_of split.plan.order split.closed)

-- each takes a byte at least, so within the limit of storage there are few
abbrev pub FewItemsAreDeclared : Type 0
FewItemsAreDeclared =
    (program made : Program) (ranges : List CellRange) → DeclaresItems program made ranges →
    storage_limit false (storage_of made.entries) ≡ None → length (item_kinds ranges) < 2 ^ 30

-- within that limit, where the program has fewer words than this
abbrev pub CellItemsServe : Type 0
CellItemsServe =
    (program made : Program) (ranges : List CellRange) → DeclaresItems program made ranges →
    length (program_words program) < 2 ^ 57 →
    storage_limit false (storage_of made.entries) ≡ None → ServesCells program made ranges
