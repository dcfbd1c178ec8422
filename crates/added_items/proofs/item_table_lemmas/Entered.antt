-- Each cell has one of the entries.
use Rattle.std.proofs.Common.{◌≡◌, ℕ, zero, suc, ◌+◌, ◌^◌, ◌<◌, ◌≤◌, true, false, not, List, [], ◌∷◌, ◌++◌, length, map, Option, Some, None, refl, ap, sym, ◌∙◌, arith}
use Rattle.std.specs.Prelude.{is_some, min, slice_get}
use Rattle.std.specs.Fmt.{decimal}
use Rattle.control_flow_theory.specs.language.Language.{Range}
use Rattle.control_flow_theory.specs.graph_rules.Families.{Added, Never, Flag, Count, State, Exit}
use Rattle.control_flow_theory.specs.graph_rules.Reduced.{kind_at}
use Rattle.control_flow_theory.specs.main_theorem.Chain.{stmts_arms}
use Rattle.out_names.specs.FreshWords.{fresh_number}
use Rattle.cobol_theory.specs.cell_serving.Entries.{AreSized, AreEntries}
use Rattle.control_flow_theory.proofs.rendering_lemmas.Written.{map-get}
use Rattle.added_items.specs.item_table.Owners.{is_never, or_never, kind_in, first_constant_cell, owner_of, place_in, counted_on, holders_of, item_kinds}
use Rattle.added_items.specs.item_table.Naming.{stem_of, digits_of, next_of, with_next, all_from_one, entry_named, entries_from, entries_for}
use Rattle.added_items.specs.declared.item_table.naming.NextNumbers.{NextNumbers}
use Rattle.added_items.specs.item_table.Row.{CellRange, of_range, cells_before, kinds_of_row, named_behind}
use Rattle.added_items.specs.item_table.Tables.{or_zero, most_by, kind_of, table_of_cells}
use Rattle.added_items.proofs.item_table_lemmas.Places.{Stands, once-stands, among-map, among-later, counted-has, place-holds, place-apart}
use Rattle.added_items.proofs.item_table_lemmas.RowLemmas.{kind-within, first-never, holder-own, holder-kind, holder-shared, row-kind, row-apart}

-- ---- entries

sized-kind : (kind : Added) → (1 ≤ digits_of kind) × (digits_of kind ≤ 18)
sized-kind Never = (omega arith, omega arith)
sized-kind Flag = (omega arith, omega arith)
sized-kind Count = (omega arith, omega arith)
sized-kind State = (omega arith, omega arith)
sized-kind Exit = (omega arith, omega arith)

sized : (words : List (List ℕ)) (next : NextNumbers) (kinds : List Added) → AreSized (entries_from words next kinds)
sized words next [] = tt
sized words next (kind ∷ kinds) =
    let number = fresh_number words (stem_of kind) (next_of next kind) in
    ((sized-kind kind).0, (sized-kind kind).1, sized words (with_next next kind (suc number)) kinds)

named-at : (words : List (List ℕ)) (next : NextNumbers) (kinds : List Added) (n : ℕ) (kind : Added) → slice_get kinds n ≡ Some kind →
    (name : List ℕ) × (slice_get (entries_from words next kinds) n ≡ Some (entry_named name kind))
named-at words next [] n kind is = cc
named-at words next (first ∷ kinds) zero kind is =
    let same : first ≡ kind = cc in
    let name = stem_of first ++ decimal (fresh_number words (stem_of first) (next_of next first)) in
    (name, ap (λ k. Some (entry_named name k)) same)
named-at words next (first ∷ kinds) (suc n) kind is =
    let number = fresh_number words (stem_of first) (next_of next first) in
    named-at words (with_next next first (suc number)) kinds n kind is

-- ---- room

room-of : (arms : Option ℕ) (kind : Added) → most_by arms kind < 10 ^ digits_of kind
room-of arms Never = omega arith
room-of arms Flag = omega arith
room-of arms Count = omega arith
room-of arms State = let e : min (or_zero arms) 999999 < 1000000 = omega arith in e
room-of arms Exit = let e : min (or_zero arms) 999999 < 1000000 = omega arith in e

-- ---- the table

module _ (words : List (List ℕ)) (ranges : List CellRange) where
  abbrev kinds : List Added
  kinds = kinds_of_row ranges

  abbrev place : Range → ℕ → ℕ
  place range cell = cells_before ranges range + cell

  -- what a cell that stands is for
  abbrev IsFor : Range → ℕ → Added → Type 0
  IsFor range cell kind = kind_at (of_range ranges range).added cell ≡ Some kind

  is-for : (range : Range) (cell : ℕ) → (table_of_cells ranges).stands range cell ≡ true → IsFor range cell (kind_of ranges range cell)
  is-for range cell stands = inner (kind_at (of_range ranges range).added cell) stands
    where
      inner : (found : Option Added) → is_some found ≡ true → found ≡ Some (or_never found)
      inner None some = cc
      inner (Some kind) some = refl

  in-row : (range : Range) (cell : ℕ) (kind : Added) → IsFor range cell kind → kind_in kinds (place range cell) ≡ kind
  in-row range cell kind is = ap or_never (row-kind ranges range cell kind is)

  -- its holder stands among those that have items
  stands-there : (range : Range) (cell : ℕ) (kind : Added) → IsFor range cell kind → Stands (holders_of ranges) (owner_of kinds (place range cell))
  stands-there range cell kind is =
      let at = place range cell in
      let within : at < length kinds = kind-within kinds at kind (row-kind ranges range cell kind is) in
      let named = named_behind 0 ranges in
      once-stands (map (owner_of kinds) (named ++ counted_on 0 (length kinds))) (owner_of kinds at)
      (among-map (owner_of kinds) at (named ++ counted_on 0 (length kinds))
      (among-later at named (counted_on 0 (length kinds)) (counted-has (length kinds) 0 at (omega arith) (omega (arith, within)))))

  abbrev number : Range → ℕ → ℕ
  number range cell = (table_of_cells ranges).item range cell

  at-number : (range : Range) (cell : ℕ) (kind : Added) → IsFor range cell kind →
      place_in (holders_of ranges) (owner_of kinds (place range cell)) ≡ Some (number range cell)
  at-number range cell kind is =
      let at = stands-there range cell kind is in
      at.1 ∙ ap Some (sym (ap or_zero at.1))

  entry-of : (range : Range) (cell : ℕ) (kind : Added) → IsFor range cell kind →
      (name : List ℕ) × (slice_get (entries_for words ranges) (number range cell) ≡ Some (entry_named name kind))
  entry-of range cell kind is =
      let held = owner_of kinds (place range cell) in
      let holds = place-holds (holders_of ranges) held (number range cell) (at-number range cell kind is) in
      let kind_is : kind_in kinds held ≡ kind = holder-kind kinds (place range cell) ∙ in-row range cell kind is in
      let got : slice_get (item_kinds ranges) (number range cell) ≡ Some kind =
      map-get (kind_in kinds) (holders_of ranges) (number range cell) held holds ∙ ap Some kind_is in
      named-at words all_from_one (item_kinds ranges) (number range cell) kind got

  -- what changes shares its item with no other
  own-item : (range other : Range) (cell other_cell : ℕ) (kind other_kind : Added) → IsFor range cell kind → IsFor other other_cell other_kind →
      is_never kind ≡ false → number other other_cell ≡ number range cell → (other ≡ range) × (other_cell ≡ cell)
  own-item range other cell other_cell kind other_kind is also_is changes same =
      let at = place range cell in
      let at_other = place other other_cell in
      let mine = at-number range cell kind is in
      let its : place_in (holders_of ranges) (owner_of kinds at_other) ≡ Some (number range cell) =
      at-number other other_cell other_kind also_is ∙ ap Some same in
      let held : owner_of kinds at ≡ owner_of kinds at_other = place-apart (holders_of ranges) _ _ _ mine its in
      let own : owner_of kinds at ≡ at = holder-own kinds at (ap is_never (in-row range cell kind is) ∙ changes) in
      elim (is_never (kind_in kinds at_other)) as (λ b. is_never (kind_in kinds at_other) ≡ b → (other ≡ range) × (other_cell ≡ cell)) [
        | true ↦ λ e.
            let first : at ≡ first_constant_cell kinds = sym own ∙ held ∙ holder-shared kinds at_other e in
            let never : kind ≡ Never = sym (in-row range cell kind is) ∙ ap (kind_in kinds) first ∙ first-never kinds in
            let no : true ≡ false = sym (ap is_never never) ∙ changes in
            absurd (cc)
        | false ↦ λ e.
            let places : at ≡ at_other = sym own ∙ held ∙ holder-own kinds at_other e in
            row-apart ranges range other cell other_cell kind other_kind is also_is places
      ] refl

  not-never : (kind : Added) → not (is_never kind) ≡ true → is_never kind ≡ false
  not-never Never is = cc
  not-never Flag is = refl
  not-never Count is = refl
  not-never State is = refl
  not-never Exit is = refl

  -- a cell that changes stands
  changing : (range : Range) (cell : ℕ) → (table_of_cells ranges).changes range cell ≡ true → IsFor range cell (kind_of ranges range cell)
  changing range cell changes = inner (kind_at (of_range ranges range).added cell) changes
    where
      inner : (found : Option Added) → not (is_never (or_never found)) ≡ true → found ≡ Some (or_never found)
      inner None change = cc
      inner (Some kind) change = refl

  pub are-entries : AreEntries (entries_for words ranges) (table_of_cells ranges)
  are-entries = record {
    sized = sized words all_from_one (item_kinds ranges);
    entry = λ range cell stands. entry-of range cell (kind_of ranges range cell) (is-for range cell stands);
    room = λ range cell stands. room-of (stmts_arms cell (of_range ranges range).body) (kind_of ranges range cell);
    apart = λ range other cell other_cell changes stands same.
        own-item range other cell other_cell (kind_of ranges range cell) (kind_of ranges other other_cell)
        (changing range cell changes) (is-for other other_cell stands)
        (not-never (kind_of ranges range cell) changes) same;
  }
