-- Where no range stands twice, the table has each range's own cells.
use Rattle.std.proofs.Common.{◌≡◌, ℕ, zero, suc, ◌+◌, true, false, if◌then◌else◌, List, [], ◌∷◌, length, map, take, Some, refl, ap, sym, ◌∙◌, subst}
use Rattle.std.specs.Prelude.{slice_get}
use Rattle.std.proofs.lemmas.List.{length-append}
use Rattle.control_flow_theory.specs.language.Language.{Range, same_range}
use Rattle.control_flow_theory.proofs.semantics_lemmas.Ranges.{same-range, same-self}
use Rattle.control_flow_theory.specs.graph_rules.Walked.{is_in}
use Rattle.control_flow_theory.specs.main_theorem.Chain.{stmts_arms}
use Rattle.added_items.specs.item_table.CellItem.{IsAsked, AreAsked, AreAllAsked, StandOnce, AreCellItems}
use Rattle.branch_tree.specs.Graph.{seen_added}
use Rattle.added_items.specs.item_table.Owners.{kind_in, owner_of, holders_of, place_in}
use Rattle.added_items.specs.item_table.Numbering.{IsNumbering, number_at}
use Rattle.added_items.specs.declared.item_table.numbering.CellNumbering.{CellNumbering}
use Rattle.added_items.specs.item_table.Row.{CellRange, of_range, cells_before, kinds_of_row}
use Rattle.added_items.specs.item_table.Tables.{or_zero, ends_in_other, most_by, item_at, table_of_cells}
use Rattle.statement_builders.specs.declared.item_words.cells.CellItem.{CellItem}

some-same : {X : Type 0} (x y : X) → Some x ≡ Some y → x ≡ y
some-same x y e = cc

abbrev ranges_in : List CellRange → List Range
ranges_in ranges = map (λ (one : CellRange). one.range) ranges

stands-in : (ranges : List CellRange) (at : ℕ) (one : CellRange) → slice_get ranges at ≡ Some one → is_in one.range (ranges_in ranges) ≡ true
stands-in [] at one is = cc
stands-in (first ∷ others) zero one is =
    let same = some-same first one is in
    ap (λ b. if b then true else is_in one.range (ranges_in others)) (ap (λ (r : CellRange). same_range r.range one.range) same ∙ same-self one.range)
stands-in (first ∷ others) (suc at) one is =
    elim (same_range first.range one.range) as (λ b. (if b then true else is_in one.range (ranges_in others)) ≡ true) [
      | true ↦ refl
      | false ↦ stands-in others at one is
    ]

-- it isn't the first one's
other-range : (first one : CellRange) (others : List CellRange) (at : ℕ) → is_in first.range (ranges_in others) ≡ false →
    slice_get others at ≡ Some one → same_range first.range one.range ≡ false
other-range first one others at once is =
    elim (same_range first.range one.range) as (λ b. same_range first.range one.range ≡ b → b ≡ false) [
      | true ↦ λ e.
          let there = stands-in others at one is in
          let no : is_in first.range (ranges_in others) ≡ true = ap (λ r. is_in r (ranges_in others)) (same-range first.range one.range e) ∙ there in
          let clash : true ≡ false = sym no ∙ once in
          absurd (cc)
      | false ↦ λ e. refl
    ] refl

pub record StandsSo (ranges : List CellRange) (at : ℕ) (one : CellRange) : Type 0 where
  pub found : of_range ranges one.range ≡ one
  pub ahead : cells_before ranges one.range ≡ length (kinds_of_row (take at ranges))

pub stands-so : (ranges : List CellRange) (at : ℕ) (one : CellRange) → StandOnce ranges → slice_get ranges at ≡ Some one → StandsSo ranges at one
stands-so [] at one once is = cc
stands-so (first ∷ others) zero one once is =
    let same = some-same first one is in
    let here : same_range first.range one.range ≡ true = ap (λ (r : CellRange). same_range r.range one.range) same ∙ same-self one.range in
    record {
      found = ap (λ b. if b then first else of_range others one.range) here ∙ same;
      ahead = ap (λ b. if b then 0 else length first.added + cells_before others one.range) here;
    }
stands-so (first ∷ others) (suc at) one once is =
    let later = stands-so others at one once.1 is in
    let other = other-range first one others at once.0 is in
    record {
      found = ap (λ b. if b then first else of_range others one.range) other ∙ later.found;
      ahead =
          ap (λ b. if b then 0 else length first.added + cells_before others one.range) other
          ∙ ap (λ n. length first.added + n) later.ahead
          ∙ sym (length-append first.added (kinds_of_row (take at others)));
    }

-- so what writing asks of each range's cells is what the table has
by-table : (number : ℕ → ℕ) (first : ℕ) (ranges : List CellRange) (at : ℕ) (one : CellRange) (items : List CellItem) →
    ((place : ℕ) → number place ≡ item_at ranges place) → StandsSo ranges at one →
    AreAsked number first (length (kinds_of_row (take at ranges))) one.added (λ cell. stmts_arms cell one.body) items →
    (cell : ℕ) (found : CellItem) → slice_get items cell ≡ Some found →
    IsAsked (first + (table_of_cells ranges).item one.range cell) ((table_of_cells ranges).most one.range cell)
    ((table_of_cells ranges).ends_in_other one.range cell) found
by-table number first ranges at one items same so each cell found got =
    let by : (r : CellRange) (n : ℕ) → Type 0 = λ r n.
    IsAsked (first + item_at ranges (n + cell)) (most_by (stmts_arms cell r.body) (kind_in r.added cell)) (ends_in_other (kind_in r.added cell)) found in
    let before = length (kinds_of_row (take at ranges)) in
    let mine : by one before =
    subst (λ n. IsAsked (first + n) (most_by (stmts_arms cell one.body) (kind_in one.added cell)) (ends_in_other (kind_in one.added cell)) found)
    (same (before + cell)) (each.each cell found got) in
    subst (λ n. by (of_range ranges one.range) n) (sym so.ahead) (subst (λ (r : CellRange). by r before) (sym so.found) mine)

pub cell-items : (number : ℕ → ℕ) (first : ℕ) (ranges : List CellRange) (lists : List (List CellItem)) →
    ((place : ℕ) → number place ≡ item_at ranges place) → AreAllAsked number first ranges lists → AreCellItems first ranges lists
cell-items number first ranges lists same all = (
  all.count,
  λ once at one items is found.
      let so = stands-so ranges at one once is in
      let each = all.each at one items is found in (
        each.count,
        λ place. record {
          item = λ cell item got. (by-table number first ranges at one items same so each cell item got).item;
          ends = λ cell item got. (by-table number first ranges at one items same so each cell item got).ends;
          most = λ cell item got. (by-table number first ranges at one items same so each cell item got).most;
        },
      ),
)

pub number-same : (ranges : List CellRange) (numbering : CellNumbering) → IsNumbering ranges numbering → (place : ℕ) → number_at numbering place ≡ item_at ranges place
number-same ranges numbering is place =
    ap (λ held. or_zero (place_in held (owner_of (map seen_added numbering.kinds) place))) is.held
    ∙ ap (λ kinds. or_zero (place_in (holders_of ranges) (owner_of kinds place))) is.row
