-- Items for cells serve.
use Rattle.std.proofs.Common.{◌≡◌, ℕ, zero, suc, ◌+◌, ◌^◌, ◌<◌, ◌≤◌, true, List, [], ◌∷◌, ◌++◌, length, Some, refl, ap, sym, ◌∙◌, subst, arith}
use Rattle.std.specs.Prelude.{slice_get}
use Rattle.std.proofs.lemmas.Option.{slice_get_within}
use Rattle.cob_base.specs.Limit.{max_storage}
use Rattle.control_flow_theory.specs.language.Language.{Range}
use Rattle.control_flow_theory.specs.graph_rules.Families.{Added}
use Rattle.out_names.specs.Words.{program_words, table_of}
use Rattle.round_trip.specs.spelling.expr_spelling.Printable.{judged_place}
use Rattle.cobol_theory.specs.cell_items.Cell.{cell_place}
use Rattle.added_items.specs.item_table.Owners.{item_kinds}
use Rattle.added_items.specs.item_table.Naming.{all_from_one, entries_for}
use Rattle.added_items.specs.item_table.Tables.{table_of_cells}
use Rattle.added_items.proofs.item_table_lemmas.Entered.{are-entries}
use Rattle.round_trip.specs.declarations.added_entries.Items.{WholeItem}
use Rattle.round_trip.specs.declarations.added_entries.References.{known_by}
use Rattle.round_trip.proofs.declarations_lemmas.added_entries_lemmas.References.{names_stay, added_names_stand}
use Rattle.round_trip.specs.declarations.fresh_items.Laws.{MayBeAdded}
use Rattle.round_trip.proofs.declarations_lemmas.fresh_items_lemmas.Names.{are-sized}
use Rattle.round_trip.proofs.declarations_lemmas.fresh_items_lemmas.Program.{fresh_items_may_be_added}
use Rattle.procedure_split.specs.Rows.{rows_of}
use Rattle.end_to_end_laws.specs.results.result_entries.Items.{items_for, whole_number, cell_number}
use Rattle.end_to_end_laws.specs.results.result_entries.Laws.{SplitProgramsDeclareItems, FewItemsAreDeclared, CellItemsServe}
use Rattle.end_to_end_laws.proofs.results_lemmas.result_entries_lemmas.Entries.{first-alike, entries-alike, length-entries, length-items}
use Rattle.end_to_end_laws.proofs.results_lemmas.result_entries_lemmas.Bytes.{few-items}

pub split_programs_declare_items : SplitProgramsDeclareItems
split_programs_declare_items program made summary split = record {
  name = split.written.name;
  added = record {
    files = split.written.files;
    entries = split.written.entries
        ∙ ap (λ list. program.entries ++ list)
        (entries-alike (table_of (program_words program)) all_from_one (λ kind. 1) (item_kinds (rows_of split.plan.order split.closed)) first-alike);
  };
}

-- what stands at a number below the length
there-is : (items : List WholeItem) (n : ℕ) → n < length items → (item : WholeItem) × (slice_get items n ≡ Some item)
there-is [] n h = absurd (omega (arith, h))
there-is (item ∷ items) zero h = (item, refl)
there-is (item ∷ items) (suc n) h = there-is items n (omega (arith, h))

pub few-kinds : FewItemsAreDeclared
few-kinds program made ranges declares stored =
    below (length items) (length kinds) (few-items program made items declares.added (are-sized words (λ kind. 1) kinds) stored) (length-items words (λ kind. 1) kinds)
  where
    words : List (List ℕ)
    words = table_of (program_words program)

    kinds : List Added
    kinds = item_kinds ranges

    items : List WholeItem
    items = items_for program ranges

    below : (items kinds : ℕ) → items ≤ max_storage → items ≡ kinds → kinds < 2 ^ 30
    below items kinds few same = omega (arith, few, same)

pub cell_items_serve : CellItemsServe
cell_items_serve program made ranges declares few stored = record {
  may = may;
  alike = names_stay.judged program made items declares.added may.new;
  cells = judged;
}
  where
    words : List (List ℕ)
    words = table_of (program_words program)

    kinds : List Added
    kinds = item_kinds ranges

    items : List WholeItem
    items = items_for program ranges

    as-many : length items ≡ length kinds
    as-many = length-items words (λ kind. 1) kinds

    may : MayBeAdded program items
    may = fresh_items_may_be_added program kinds (below (length (program_words program)) (length kinds) few (few-kinds program made ranges declares stored))
      where
        below : (words kinds : ℕ) → words < 2 ^ 57 → kinds < 2 ^ 30 → words + kinds < 2 ^ 58
        below words kinds few more = omega (arith, few, more)

    judged : (range : Range) (cell : ℕ) → (table_of_cells ranges).stands range cell ≡ true → judged_place (known_by made) made (cell_place (cell_number program ranges range cell)) ≡ whole_number
    judged range cell stands =
        let number = (table_of_cells ranges).item range cell in
        let entry = (are-entries words ranges).entry range cell stands in
        let below = slice_get_within (entries_for words ranges) number _ entry.1 in
        let there : number < length items = subst (λ n. number < n) (length-entries words all_from_one kinds ∙ sym as-many) below in
        let found = there-is items number there in
        added_names_stand.judged program made items number found.0 declares.added may.new may.different may.titled found.1
