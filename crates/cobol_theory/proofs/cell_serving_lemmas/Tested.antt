-- What passes the tests of a table is of the kinds that serve.
use Rattle.std.proofs.Common.{◌≡◌, ℕ, ◌^◌, ◌<◌, ◌≤◌, nat_le, nat_lt, Bool, true, false, ◌&&◌, not, if◌then◌else◌, List, length, None, Some, Option, refl, ap, ◌∙◌, arith, leb-true, ltb-true, inl, inr}
use Rattle.std.specs.Prelude.{ℤ, unsigned_abs, ◌==◌, is_some, slice_get, option_and_then}
use Rattle.std.proofs.lemmas.Bool.{and_parts, or_cases}
use Rattle.cob_num.specs.declared.number.Dec.{Dec}
use Rattle.cob_num.specs.Digits.{FitsDigits}
use Rattle.cob_num.specs.Exact.{decimal, decimal_of}
use Rattle.cob_num.proofs.LimitLemmas.{decimal_yes}
use Rattle.cob_tree.specs.declared.number.Number.{Number}
use Rattle.cob_tree.specs.declared.place.Figure.TheVariants as figures
use Rattle.cob_tree.specs.declared.place.Operand.{out-Operand}
use Rattle.cob_tree.specs.declared.place.Place.{Place, out-Place}
use Rattle.cob_tree.specs.declared.place.Window.{Window}
use Rattle.cob_tree.specs.declared.place.Expr.TheOpen.{Operand-F}
use Rattle.cob_store.specs.declared.area.Area.{Area}
use Rattle.cob_store.specs.declared.area.Form.{Form}
use Rattle.cob_store.specs.declared.area.Form.TheVariants as forms
use Rattle.cob_tree.specs.Digits.{digits_after, digits_value}
use Rattle.cob_store.specs.Place.{signed_by}
use Rattle.control_flow_theory.specs.language.Language.{Chooser, Evaluate, Arith, Depending}
use Rattle.control_flow_theory.specs.language.Language as language
use Rattle.meanings.specs.statements.Filing.{Declared, status_place}
use Rattle.cobol_theory.specs.cell_items.Laws.{IsWhole}
use Rattle.cobol_theory.proofs.cell_items_lemmas.Takes.{Layered}
use Rattle.cobol_theory.specs.added_items.Widened.{AddedItems, declared_beside}
use Rattle.cobol_theory.specs.cell_serving.Table.{CellTable}
use Rattle.cobol_theory.specs.cell_serving.Naming.{first_stands}
use Rattle.cobol_theory.specs.cell_serving.Amounts.{IsWholeArea, IsWholePlace, IsAmountBy}
use Rattle.cobol_theory.specs.cell_serving.Choosing.{Suits, written_chooser}
use Rattle.cobol_theory.specs.cell_serving.Tested.{is_whole_form, is_whole_area, is_whole_place, is_whole_number, is_amount_by, is_amount, suits, kinds_of}
use Rattle.cobol_theory.specs.cell_serving.Laws.{AreLiterals, AreOfKinds}
use Rattle.cobol_theory.proofs.cell_serving_lemmas.Amounts.{whole-item, whole-amount, value-bound, size-neg}
use Rattle.cobol_theory.proofs.cell_serving_lemmas.Changed.{same-number}
use Rattle.cobol_theory.proofs.cell_serving_lemmas.Choosers.{choose-alike}

equal : (m n : ℕ) → (m == n) ≡ true → m ≡ n
equal m n is = elim (same-number m n) [ inl same ↦ same.1 | inr other ↦ let no = other.0 in cc ]

no-sign : (b : Bool) → not b ≡ true → b ≡ false
no-sign true is = cc
no-sign false is = refl

-- ---- places and operands

whole-form : (area : Area) (form : Form) → area.form ≡ form → is_whole_form area.size form ≡ true → IsWholeArea area
whole-form area (forms.Number signed digits part storage) e is =
    let first = and_parts (part == 0 && nat_le digits 18) (area.size == _) is in
    let both = and_parts (part == 0) (nat_le digits 18) first.0 in
    record {
      signed = signed;
      digits = digits;
      storage = storage;
      form = e ∙ ap (λ part. forms.Number signed digits part storage) (equal part 0 both.0);
      few = leb-true digits 18 both.1;
      size = equal area.size _ first.1;
    }
whole-form area forms.Edited e is = cc
whole-form area forms.Group e is = cc
whole-form area forms.Text e is = cc

whole-area : (found : Option Area) → is_whole_area found ≡ true → (area : Area) × (found ≡ Some area) × IsWholeArea area
whole-area None is = cc
whole-area (Some area) is = (area, refl, whole-form area area.form refl is)

no-window : (window : Option Window) → not (is_some window) ≡ true → window ≡ None
no-window None is = refl
no-window (Some window) is = cc

whole-place : (areas : List Area) (p : Place) → is_whole_place areas p ≡ true → IsWholePlace areas p
whole-place areas p is =
    let both = and_parts (not (is_some (out-Place p).window)) (is_whole_area (slice_get areas (out-Place p).item)) is in
    let found = whole-area (slice_get areas (out-Place p).item) both.1 in
    record { area = found.0; plain = no-window (out-Place p).window both.0; lies = found.1; whole = found.2 }

size-signed : (negative : Bool) (n : ℕ) → unsigned_abs (signed_by negative n) ≡ n
size-signed true n = size-neg n
size-signed false n = refl

short-by : (digits : List ℕ) (n : ℕ) (t : Bool) → nat_le (length digits) 18 ≡ t → (if t then digits_after 0 digits else None) ≡ Some n → length digits ≤ 18
short-by digits n true e is = leb-true (length digits) 18 e
short-by digits n false e is = cc

short-of : (number : Number) (n : ℕ) → digits_value number.digits ≡ Some n → length number.digits ≤ 18
short-of number n is = short-by number.digits n (nat_le (length number.digits) 18) refl is

whole-number : (number : Number) → is_whole_number number ≡ true → (worth : Dec) × IsWhole number worth 18
whole-number number is =
    let both = and_parts (number.scale == 0) (is_some (digits_value number.digits)) is in
    by_digits (equal number.scale 0 both.0) (digits_value number.digits) refl both.1
  where
    by_digits : number.scale ≡ 0 → (read : Option ℕ) → digits_value number.digits ≡ read → is_some read ≡ true → (worth : Dec) × IsWhole number worth 18
    by_digits whole None e some = cc
    by_digits whole (Some n) e some = (
      decimal_of z 0 fits (omega arith),
      record {
        value =
            ap (option_and_then (λ n. decimal (signed_by number.negative n) number.scale)) e
            ∙ ap (decimal z) whole
            ∙ decimal_yes z 0 fits (omega arith);
        whole = refl;
        fits = small;
      },
    )
      where
        z : ℤ
        z = signed_by number.negative n

        small : unsigned_abs z < 10 ^ 18
        small = let short = value-bound number.digits 18 n (short-of number n e) e in let same = size-signed number.negative n in omega (arith, short, same)

        fits : FitsDigits z
        fits = omega (arith, small)

amount : (areas : List Area) (y : Layered) → is_amount_by areas y ≡ true → IsAmountBy areas y
amount areas (Operand-F.Place p) is = whole-place areas p is
amount areas (Operand-F.Number number) is = whole-number number is
amount areas (Operand-F.Text bytes) is = cc
amount areas (Operand-F.Figure figures.Zero) is = tt
amount areas (Operand-F.Figure figures.Space) is = cc
amount areas (Operand-F.Figure figures.HighValue) is = cc
amount areas (Operand-F.Figure figures.LowValue) is = cc
amount areas (Operand-F.Figure figures.Quote) is = cc

as-it-stood : (had stands : Bool) → (if had then stands else not stands) ≡ true → stands ≡ had
as-it-stood true stands is = is
as-it-stood false stands is = no-sign stands is

suited : (declared : Declared) (chooser : Chooser) (arms : List Bool) → suits declared chooser arms ≡ true → Suits declared chooser arms
suited declared (Evaluate subject tests has_other) arms is = tt
suited declared (language.Read file into has_end) arms is = elim (or_cases (if has_end then first_stands arms else not (first_stands arms)) (is_some (status_place declared file)) is) [
  | inl same ↦ inl (as-it-stood has_end (first_stands arms) same)
  | inr some ↦ inr some
]
suited declared (Arith calc into) arms is = tt
suited declared (Depending p names) arms is =
    let first = and_parts (is_whole_place declared.areas.items p && nat_le 1 names) (nat_lt names (10 ^ 18)) is in
    let both = and_parts (is_whole_place declared.areas.items p) (nat_le 1 names) first.0 in
    (whole-item declared.areas.items p (whole-place declared.areas.items p both.0), leb-true 1 names both.1, ltb-true names (10 ^ 18) first.1)

-- ---- all kinds

pub of-kinds : (declared : Declared) (added : AddedItems) (table : CellTable) (literal : ℕ → Number) → AreLiterals literal →
    AreOfKinds declared added table (written_chooser literal) (kinds_of declared added table)
of-kinds declared added table literal worth =
    let beside = declared_beside added declared in
    record {
      simples = λ simple is. is;
      conds = λ cond is. is;
      choosers = λ each arms is.
          let both = and_parts _ (suits beside each arms) is in
          (both.0, choose-alike beside literal each arms worth (suited beside each arms both.1));
      amounts = λ operand is.
          let both = and_parts _ (is_amount beside.areas.items operand) is in
          (both.0, whole-amount beside.areas.items operand (amount beside.areas.items (out-Operand operand) both.1));
      sets = λ range cell value is.
          let first = and_parts _ (nat_le value (table.most range cell)) is in
          let second = and_parts _ (table.changes range cell) first.0 in
          let both = and_parts (table.stands range cell) _ second.0 in
          (both.0, second.1, no-sign (table.signed range cell) both.1, leb-true value (table.most range cell) first.1);
      counts = λ range cell is.
          let first = and_parts _ (table.digits range cell == 18) is in
          let second = and_parts _ (table.signed range cell) first.0 in
          let both = and_parts (table.stands range cell) (table.changes range cell) second.0 in
          (both.0, both.1, second.1, equal (table.digits range cell) 18 first.1);
      compares = λ range cell value is.
          let first = and_parts _ (nat_le value (table.most range cell)) is in
          let both = and_parts (table.stands range cell) _ first.0 in
          (both.0, no-sign (table.signed range cell) both.1, leb-true value (table.most range cell) first.1);
      aboves = λ range cell is. is;
      chooses = λ range cell arms is.
          let first = and_parts _ (nat_lt arms (10 ^ table.digits range cell)) is in
          let second = and_parts _ (nat_le (table.most range cell) arms) first.0 in
          let both = and_parts (table.stands range cell) _ second.0 in
          (both.0, no-sign (table.signed range cell) both.1, leb-true (table.most range cell) arms second.1, ltb-true arms (10 ^ table.digits range cell) first.1);
    }
