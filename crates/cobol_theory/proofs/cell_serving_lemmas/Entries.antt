-- Literals, and the entries of the items that stand for cells.
use Rattle.std.proofs.Common.{◌≡◌, ℕ, zero, suc, ◌+◌, ◌/◌, ◌%◌, ◌^◌, ◌<◌, ◌≤◌, true, false, not, if◌then◌else◌, List, [], ◌∷◌, ◌++◌, length, map, Some, None, refl, ap, sym, subst, ◌∙◌, inr, arith, le-leb}
use Rattle.std.specs.Prelude.{IsTrue, slice_get, pos, option_and_then, is_some}
use Rattle.std.specs.Fmt.{decimal}
use Rattle.std.proofs.lemmas.Fmt.{decimal_by_steps, length-decimal-le}
use Rattle.cob_num.specs.declared.number.Dec.{Dec}
use Rattle.cob_num.specs.Digits.{FitsDigits}
use Rattle.cob_num.specs.Exact.{decimal_of}
use Rattle.cob_num.specs.Exact as exact
use Rattle.cob_num.proofs.LimitLemmas.{decimal_yes}
use Rattle.cob_num.proofs.PowerLemmas.{power_up_to}
use Rattle.cob_tree.specs.declared.entry.Entry.{Entry}
use Rattle.cob_tree.specs.declared.program.Program.{Program}
use Rattle.cob_tree.specs.declared.picture.Sign.TheVariants.{Within}
use Rattle.cob_tree.specs.declared.place.Operand.{out-roll-Operand}
use Rattle.cob_tree.specs.declared.place.Expr.TheOpen.{Operand-F}
use Rattle.cob_store.specs.declared.area.Form.TheVariants as forms
use Rattle.cob_store.specs.declared.area.Storage.TheVariants.{Digits}
use Rattle.cob_store.specs.Laying.{layout_of, area_of}
use Rattle.cob_tree.specs.Digits.{digits_after, digits_value}
use Rattle.cob_store.specs.Place.{signed_by, kept}
use Rattle.cob_store.specs.Starting.{store_of, started_by, value_in}
use Rattle.cob_store.specs.Store.{blank}
use Rattle.control_flow_theory.specs.language.All.{all}
use Rattle.meanings.specs.statements.Does.{declared_in}
use Rattle.meanings.specs.statements.Filing.{Declared}
use Rattle.cobol_theory.proofs.stored_numbers_lemmas.ReadBack.{behind, digit-read}
use Rattle.cobol_theory.specs.added_items.Laying.{begins_with_item, have_levels, stand_alone, areas_alone, size_alone, first_bytes}
use Rattle.cobol_theory.specs.added_items.Widened.{AddedItems, declared_beside, AreApart}
use Rattle.cobol_theory.proofs.added_items_lemmas.Layouts.{behind-all}
use Rattle.cobol_theory.proofs.added_items_lemmas.Starts.{starts-behind, started-long, blank-long}
use Rattle.cobol_theory.specs.cobol_meaning.Runs.{world_with}
use Rattle.cobol_theory.specs.cell_items.Cell.{cell_bytes}
use Rattle.cobol_theory.proofs.cell_items_lemmas.Lowers.{low-kept}
use Rattle.cobol_theory.specs.cell_serving.Table.{CellTable, AreCells}
use Rattle.cobol_theory.specs.cell_serving.Laws.{AreLiterals, StartsCarried}
use Rattle.cobol_theory.specs.cell_serving.Entries.{whole_literal, cell_entry, CellEntry, entries_of, added_to, AreSized, AreEntries, AreDeclared}
use Rattle.cobol_theory.proofs.cell_serving_lemmas.Numbers.{pos-fits}
use Rattle.cobol_theory.proofs.cell_serving_lemmas.Tails.{get-behind}

-- ---- literals

decimal-read : (number : ℕ) → number < 2 ^ 64 → digits_after 0 (decimal number) ≡ Some number
decimal-read number small = decimal_by_steps (λ m ds. digits_after 0 ds ≡ Some m) one more number small
  where
    one : (m : ℕ) → m < 10 → digits_after 0 ((48 + m) ∷ []) ≡ Some m
    one m less = digit-read 0 m less ∙ ap Some (omega arith)

    more : (m : ℕ) (ds : List ℕ) → 10 ≤ m → digits_after 0 ds ≡ Some (m / 10) → digits_after 0 (ds ++ ((48 + m % 10) ∷ [])) ≡ Some m
    more m ds large is =
        behind 0 ds ((48 + m % 10) ∷ [])
        ∙ ap (option_and_then (λ n. digits_after n ((48 + m % 10) ∷ []))) is
        ∙ digit-read (m / 10) (m % 10) (omega arith)
        ∙ ap Some (omega arith)

spelled-read : (number : ℕ) → number < 10 ^ 18 → digits_value (decimal number) ≡ Some number
spelled-read number small =
    ap (λ b. if b then digits_after 0 (decimal number) else None) (le-leb (length (decimal number)) 18 (length-decimal-le 18 number (omega arith) small (omega (arith, small))))
    ∙ decimal-read number (omega (arith, small))

pub are-literals : AreLiterals whole_literal
are-literals digits number short small =
    let more = power_up_to digits 18 short in
    let small-enough : number < 10 ^ 18 = omega (arith, small, more) in
    let fits : FitsDigits (pos number) = omega (arith, small-enough) in
    record {
      worth = decimal_of (pos number) 0 fits (omega arith);
      is = record {
        value = ap (option_and_then (λ n. exact.decimal (signed_by false n) 0)) (spelled-read number small-enough) ∙ decimal_yes (pos number) 0 fits (omega arith);
        whole = refl;
        fits = small;
      };
      value = refl;
    }

-- ---- where the items lie

area-at : (entries : List Entry) (root n : ℕ) (entry : Entry) → slice_get entries n ≡ Some entry →
    slice_get (areas_alone root entries) n ≡ Some (area_of entry (size_alone entry) (root + n) 0 [])
area-at [] root n entry is = cc
area-at (first ∷ entries) root zero entry is =
    let same : first ≡ entry = inner is in
    let here : root ≡ root + 0 = omega arith in
    ap (λ (e : Entry). Some (area_of e (size_alone e) root 0 [])) same ∙ ap (λ r. Some (area_of entry (size_alone entry) r 0 [])) here
  where
    inner : Some first ≡ Some entry → first ≡ entry
    inner e = cc
area-at (first ∷ entries) root (suc n) entry is =
    let next : root + 1 + n ≡ root + suc n = omega arith in
    area-at entries (root + 1) n entry is ∙ ap (λ r. Some (area_of entry (size_alone entry) r 0 [])) next

entry-at : (cells : List CellEntry) (n : ℕ) (cell : CellEntry) → slice_get cells n ≡ Some cell →
    slice_get (entries_of cells) n ≡ Some (cell_entry cell.name cell.digits cell.signed)
entry-at [] n cell is = cc
entry-at (first ∷ cells) zero cell is = ap (λ (c : CellEntry). Some (cell_entry c.name c.digits c.signed)) (inner is)
  where
    inner : Some first ≡ Some cell → first ≡ cell
    inner e = cc
entry-at (first ∷ cells) (suc n) cell is = entry-at cells n cell is

sized-at : (cells : List CellEntry) (n : ℕ) (cell : CellEntry) → AreSized cells → slice_get cells n ≡ Some cell →
    (1 ≤ cell.digits) × (cell.digits ≤ 18)
sized-at [] n cell sized is = cc
sized-at (first ∷ cells) zero cell sized is = subst (λ (c : CellEntry). (1 ≤ c.digits) × (c.digits ≤ 18)) (inner is) (sized.0, sized.1)
  where
    inner : Some first ≡ Some cell → first ≡ cell
    inner e = cc
sized-at (first ∷ cells) (suc n) cell sized is = sized-at cells n cell sized.2 is

areas-long : (entries : List Entry) (root : ℕ) → length entries ≡ length (areas_alone root entries)
areas-long [] root = refl
areas-long (entry ∷ entries) root = ap suc (areas-long entries (root + 1))

-- ---- they stand alone, and belong to no file

alone : (cells : List CellEntry) → stand_alone (entries_of cells) ≡ true
alone [] = refl
alone (cell ∷ cells) = alone cells

of-no-file : (cells : List CellEntry) → all (map (λ entry. not (is_some entry.file)) (entries_of cells)) ≡ true
of-no-file [] = refl
of-no-file (cell ∷ cells) = of-no-file cells

-- ---- what they hold first

zero-worth : Dec
zero-worth = (are-literals 18 0 (omega arith) (omega arith)).worth

first-held : (cell : CellEntry) → 1 ≤ cell.digits → cell.digits ≤ 18 → first_bytes (cell_entry cell.name cell.digits cell.signed) ≡ cell_bytes cell.digits cell.signed (pos 0)
unfolding zero-worth are-literals
first-held cell some few =
    let size : cell.digits + 0 + 0 ≡ cell.digits = omega arith in
    ap (λ y. started_by cell.signed (Digits Within) (cell.digits + 0 + 0) (option_and_then (kept cell.digits 0 false) (value_in y))) (out-roll-Operand (Operand-F.Number (whole_literal 0)))
    ∙ ap (λ value. started_by cell.signed (Digits Within) (cell.digits + 0 + 0) (option_and_then (kept cell.digits 0 false) value)) (are-literals 18 0 (omega arith) (omega arith)).is.value
    ∙ ap (λ size. started_by cell.signed (Digits Within) size (kept cell.digits 0 false zero-worth)) size
    ∙ ap (started_by cell.signed (Digits Within) cell.digits) (low-kept cell.digits zero-worth some few refl)
    ∙ ap (λ u. cell_bytes cell.digits cell.signed (pos u)) none-left
  where
    none-left : 0 % 10 ^ cell.digits ≡ 0
    none-left = omega arith

first-at : (cells : List CellEntry) (n : ℕ) (cell : CellEntry) → slice_get cells n ≡ Some cell → (1 ≤ cell.digits) × (cell.digits ≤ 18) →
    slice_get (map first_bytes (entries_of cells)) n ≡ Some (cell_bytes cell.digits cell.signed (pos 0))
first-at [] n cell is sized = cc
first-at (first ∷ cells) zero cell is sized =
    ap (λ (c : CellEntry). Some (first_bytes (cell_entry c.name c.digits c.signed))) (inner is) ∙ ap Some (first-held cell sized.0 sized.1)
  where
    inner : Some first ≡ Some cell → first ≡ cell
    inner e = cc
first-at (first ∷ cells) (suc n) cell is sized = first-at cells n cell is sized

module _ (program result : Program) (cells : List CellEntry) (table : CellTable) (begins : IsTrue (begins_with_item program.entries)) (levels : IsTrue (have_levels program.entries)) (files : result.files ≡ program.files) (entries : result.entries ≡ program.entries ++ entries_of cells) (are : AreEntries cells table) where
  abbrev declared : Declared
  declared = declared_in program

  abbrev added : AddedItems
  added = added_to program cells

  laid : declared_in result ≡ declared_beside added declared
  laid =
      ap (λ all. record { files = result.files; entries = all; areas = layout_of all }) entries
      ∙ ap (λ all. record { files = all; entries = program.entries ++ entries_of cells; areas = layout_of (program.entries ++ entries_of cells) }) files
      ∙ ap (λ areas. record { files = program.files; entries = program.entries ++ entries_of cells; areas = areas }) (behind-all program.entries (entries_of cells) levels (alone cells))

  apart : AreApart added
  apart = record { sized = areas-long (entries_of cells) (length (layout_of program.entries).roots); of_no_file = of-no-file cells }

  are-cells : AreCells declared added table
  are-cells = record {
    held = λ range cell stands.
        let found = are.entry range cell stands in
        let each : CellEntry = record { name = found.0; digits = table.digits range cell; signed = table.signed range cell } in
        let sized = sized-at cells (table.item range cell) each are.sized found.1 in
        let size : table.digits range cell + 0 + 0 ≡ table.digits range cell = omega arith in
        record {
          some = sized.0;
          few = sized.1;
          lies =
              get-behind declared.areas.items added.areas (table.item range cell)
              ∙ area-at (entries_of cells) (length declared.areas.roots) (table.item range cell) (cell_entry found.0 (table.digits range cell) (table.signed range cell)) (entry-at cells (table.item range cell) each found.1)
              ∙ ap (λ size. Some (record { root = length declared.areas.roots + table.item range cell; start = 0; size = size; form = forms.Number (table.signed range cell) (table.digits range cell) 0 (Digits Within); dims = []; mask = None })) size;
        };
    room = are.room;
    apart = are.apart;
  }

  starts : StartsCarried declared added table
  starts each =
      let stored = starts-behind program.entries (entries_of cells) begins levels (alone cells) in
      record {
        tail = map first_bytes (entries_of cells);
        own =
            ap (λ areas. record { store = store_of (program.entries ++ entries_of cells) areas; world = world_with declared each }) (sym (behind-all program.entries (entries_of cells) levels (alone cells)))
            ∙ ap (λ store. record { store = store; world = world_with declared each }) stored;
        long = started-long program.entries declared.areas.items (blank declared.areas.roots) ∙ blank-long declared.areas.roots;
        cells = λ range cell stands.
            let found = are.entry range cell stands in
            let entry : CellEntry = record { name = found.0; digits = table.digits range cell; signed = table.signed range cell } in
            let sized = sized-at cells (table.item range cell) entry are.sized found.1 in
            record {
              number = pos 0;
              fits = pos-fits (table.signed range cell) (table.digits range cell) 0 (let room = are.room range cell stands in omega (arith, room));
              bytes = first-at cells (table.item range cell) entry found.1 sized;
              stands = refl;
              within = inr (omega arith);
            };
      }

  pub are-declared : AreDeclared program result cells table
  are-declared = record { declared = laid; apart = apart; items = are-cells; starts = starts }
