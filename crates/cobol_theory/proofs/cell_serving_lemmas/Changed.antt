-- One item is given another number, and the memories still go together.
use Rattle.std.proofs.Common.{◌≡◌, ◌≢◌, ℕ, ◌+◌, ◌≤◌, true, false, List, ◌++◌, length, refl, ap, sym, subst, ◌∙◌, ◌⊎◌, inl, inr}
use Rattle.std.specs.Prelude.{ℤ, slice_get, slice_set, ◌==◌, if◌then◌else◌}
use Rattle.std.proofs.lemmas.Bool.Decides.{eqb_tells}
use Rattle.cob_store.specs.Store.{Roots}
use Rattle.control_flow_theory.proofs.semantics_lemmas.Ranges.{same-self, same-range}
use Rattle.control_flow_theory.specs.semantics.Doing.{Celled, put}
use Rattle.control_flow_theory.specs.language.Language.{Range, same_range}
use Rattle.meanings.specs.statements.Filing.{Declared}
use Rattle.cobol_theory.specs.stored_numbers.Laws.{Fits}
use Rattle.cobol_theory.specs.cell_items.Cell.{cell_bytes, Holds}
use Rattle.cobol_theory.specs.added_items.Widened.{AddedItems}
use Rattle.cobol_theory.specs.cobol_meaning.Acting.{Memory}
use Rattle.cobol_theory.specs.cell_serving.Table.{CellTable, AreCells, HoldsCell, Carries, left_of}
use Rattle.cobol_theory.proofs.cell_serving_lemmas.Tails.{get-behind, set-behind, set-own, set-other}

pub same-number : (m n : ℕ) → ((m == n) ≡ true) × (m ≡ n) ⊎ ((m == n) ≡ false) × (m ≢ n)
same-number m n = eqb_tells m n

module _ (declared : Declared) (added : AddedItems) (table : CellTable) (are : AreCells declared added table) where
  -- the item's root, of all that is stored
  abbrev pub root_of : Range → ℕ → ℕ
  root_of range cell = length declared.areas.roots + table.item range cell

  module _ (memory : Celled Memory) (other : Memory) (carries : Carries declared table memory other) where
    root-is : (range : Range) (cell : ℕ) → root_of range cell ≡ length memory.own.store + table.item range cell
    root-is range cell = ap (λ n. n + table.item range cell) (sym carries.long)

    store-is : other.store ≡ memory.own.store ++ carries.tail
    store-is = ap (λ (m : Memory). m.store) carries.own

    -- what the item holds
    pub holding : (range : Range) (cell : ℕ) (stands : table.stands range cell ≡ true) →
        Holds other.store (root_of range cell) (table.digits range cell) (table.signed range cell) (carries.cells range cell stands).number
    holding range cell stands =
        ap (λ store. slice_get store (root_of range cell)) store-is
        ∙ ap (slice_get (memory.own.store ++ carries.tail)) (root-is range cell)
        ∙ get-behind memory.own.store carries.tail (table.item range cell)
        ∙ (carries.cells range cell stands).bytes

    module _ (range : Range) (cell : ℕ) (stands : table.stands range cell ≡ true) (changes : table.changes range cell ≡ true) (value : ℕ) (number : ℤ) (fits : Fits (table.signed range cell) (table.digits range cell) number) (is : left_of number ≡ value) (within : table.signed range cell ≡ true ⊎ value ≤ table.most range cell) where
      abbrev pub bytes : List ℕ
      bytes = cell_bytes (table.digits range cell) (table.signed range cell) number

      abbrev pub after : Roots
      after = slice_set carries.tail (table.item range cell) bytes

      abbrev HoldsNow : Range → ℕ → ℕ → ℕ → Type 0
      HoldsNow r c value item = HoldsCell (table.digits r c) (table.most r c) (table.signed r c) value after item

      itself : HoldsNow range cell ((put range cell value memory).cells range cell) (table.item range cell)
      itself = record {
        number = number;
        fits = fits;
        bytes = set-own carries.tail (table.item range cell) _ bytes (carries.cells range cell stands).bytes;
        stands = is ∙ sym now;
        within = subst (λ v. table.signed range cell ≡ true ⊎ v ≤ table.most range cell) (sym now) within;
      }
        where
          now : (put range cell value memory).cells range cell ≡ value
          now = ap (λ s. if s then (if cell == cell then value else memory.cells range cell) else memory.cells range cell) (same-self range) ∙ own-number (same-number cell cell)
            where
              own-number : ((cell == cell) ≡ true) × (cell ≡ cell) ⊎ ((cell == cell) ≡ false) × (cell ≢ cell) → (if cell == cell then value else memory.cells range cell) ≡ value
              own-number (inl same) = ap (λ s. if s then value else memory.cells range cell) same.0
              own-number (inr other) = absurd (other.1 refl)

      others : (r : Range) (c : ℕ) → table.stands r c ≡ true → table.item r c ≢ table.item range cell → HoldsNow r c ((put range cell value memory).cells r c) (table.item r c)
      others r c there apart =
          let it = carries.cells r c there in
          record {
            number = it.number;
            fits = it.fits;
            bytes = set-other carries.tail (table.item range cell) (table.item r c) bytes apart ∙ it.bytes;
            stands = it.stands ∙ sym now;
            within = subst (λ v. table.signed r c ≡ true ⊎ v ≤ table.most r c) (sym now) it.within;
          }
        where
          now : (put range cell value memory).cells r c ≡ memory.cells r c
          now = elim (same_range r range) as (λ s. same_range r range ≡ s → (if s then (if c == cell then value else memory.cells r c) else memory.cells r c) ≡ memory.cells r c) [
            | false ↦ λ e. refl
            | true ↦ λ e. not-cell (same-range r range e) (same-number c cell)
          ] refl
            where
              not-cell : r ≡ range → ((c == cell) ≡ true) × (c ≡ cell) ⊎ ((c == cell) ≡ false) × (c ≢ cell) → (if c == cell then value else memory.cells r c) ≡ memory.cells r c
              not-cell same (inl one) = absurd (apart (ap (λ r. table.item r c) same ∙ ap (table.item range) one.1))
              not-cell same (inr two) = ap (λ s. if s then value else memory.cells r c) two.0

      each : (r : Range) (c : ℕ) → table.stands r c ≡ true → HoldsNow r c ((put range cell value memory).cells r c) (table.item r c)
      each r c there = by_item (same-number (table.item r c) (table.item range cell))
        where
          by_item : ((table.item r c == table.item range cell) ≡ true) × (table.item r c ≡ table.item range cell) ⊎ ((table.item r c == table.item range cell) ≡ false) × (table.item r c ≢ table.item range cell) → HoldsNow r c ((put range cell value memory).cells r c) (table.item r c)
          by_item (inr two) = others r c there two.1
          by_item (inl one) =
              let same = are.apart range r cell c changes there one.1 in
              subst (λ r. HoldsNow r c ((put range cell value memory).cells r c) (table.item r c)) (sym same.0)
              (subst (λ c. HoldsNow range c ((put range cell value memory).cells range c) (table.item range c)) (sym same.1) itself)

      -- the memories behind it
      pub changed : Carries declared table (put range cell value memory) (record other { store = slice_set other.store (root_of range cell) bytes })
      changed = record {
        tail = after;
        own = ap (λ store. record other { store = store }) (ap (λ store. slice_set store (root_of range cell) bytes) store-is ∙ ap (λ root. slice_set (memory.own.store ++ carries.tail) root bytes) (root-is range cell) ∙ set-behind memory.own.store carries.tail (table.item range cell) bytes)
            ∙ ap (λ (m : Memory). record { store = memory.own.store ++ after; world = m.world }) carries.own;
        long = carries.long;
        cells = each;
      }
