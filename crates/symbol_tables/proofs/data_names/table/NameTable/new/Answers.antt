use Rattle.std.proofs.Common.{ap, length, arith, [], ◌∙◌}
use Rattle.std.proofs.lemmas.List.{length-map}
use Rattle.symbol_tables.specs.data_names.Index.{places_of, places_within}
use Rattle.symbol_tables.proofs.data_names_lemmas.NamesLemmas.{length-names_from}
use Rattle.symbol_tables.proofs.data_names.table.NameTable.new.Goals as goal

pub index_of-requires : goal.index_of-requires
index_of-requires c =
    let items = ap length c.in_ok-items.ensures ∙ length-names_from c.args.files.now [] c.args.entries.now in
    let slice = ap length c.as_slice.ensures in
    omega (arith, items, slice)

pub within_of-requires : goal.within_of-requires
within_of-requires c =
    let items = ap length c.in_ok-items.ensures ∙ length-names_from c.args.files.now [] c.args.entries.now in
    let slice = ap length c.as_slice-2.ensures in
    omega (arith, items, slice)

pub invariant_of-result : goal.invariant_of-result
invariant_of-result c =
    let items = ap length c.in_ok-items.ensures ∙ length-names_from c.args.files.now [] c.args.entries.now in
    let files = ap length c.in_ok-files.ensures ∙ ap length c.in_ok-words.ensures ∙ length-map c.args.files.now _ in
    (omega (arith, items), omega (arith, files), λ word. c.in_ok-index.ensures word ∙ ap (places_of word) c.as_slice.ensures, λ word. c.in_ok-within.ensures word ∙ ap (places_within word) c.as_slice-2.ensures)
