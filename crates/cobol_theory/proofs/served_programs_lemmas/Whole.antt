-- A place or an amount that is whole by its entry is so by its area.
use Rattle.std.proofs.Common.{◌≡◌, ℕ, zero, suc, ◌+◌, ◌*◌, ◌-◌, nat_le, Bool, true, false, ◌&&◌, ◌||◌, not, if◌then◌else◌, ◌==◌, List, [], ◌∷◌, ◌++◌, length, map, Option, Some, None, refl, sym, ◌∙◌, subst, arith, eqb-true, eq-eqb}
use Rattle.std.specs.Prelude.{is_some, slice_get}
use Rattle.std.specs.List.{list_all}
use Rattle.std.proofs.lemmas.Bool.{and_parts, false≢true}
use Rattle.stored_forms.specs.Binary.{binary_size}
use Rattle.stored_forms.specs.Packed.{packed_size}
use Rattle.cob_tree.specs.declared.entry.Entry.{Entry}
use Rattle.cob_tree.specs.declared.number.Number.{Number}
use Rattle.cob_tree.specs.declared.picture.Picture.{Picture}
use Rattle.cob_tree.specs.declared.picture.Picture.TheVariants as pictures
use Rattle.cob_tree.specs.declared.picture.Sign.{Sign}
use Rattle.cob_tree.specs.declared.picture.Usage.{Usage}
use Rattle.cob_tree.specs.declared.picture.Usage.TheVariants as usages
use Rattle.cob_tree.specs.declared.place.Expr.{Expr}
use Rattle.cob_tree.specs.declared.place.Expr.TheOpen.{Operand-F}
use Rattle.cob_tree.specs.declared.place.Figure.TheVariants as figures
use Rattle.cob_tree.specs.declared.place.Operand.{Operand, out-Operand, fold_out-Operand, map-Operand}
use Rattle.cob_tree.specs.declared.place.Place.{Place, out-Place}
use Rattle.cob_tree.specs.declared.place.Sub.{Sub}
use Rattle.cob_tree.specs.declared.place.Window.{Window}
use Rattle.cob_store.specs.declared.area.Area.{Area}
use Rattle.cob_store.specs.declared.area.Form.TheVariants as forms
use Rattle.cob_store.specs.Laying.{layout_of}
use Rattle.cob_tree.specs.Digits.{digits_after, digits_value}
use Rattle.cob_store.specs.Number.{digit_count, storage_of}
use Rattle.cob_store.specs.Size.{sign_size, number_size, is_condition}
use Rattle.control_flow_theory.specs.language.All.{all}
use Rattle.cobol_theory.specs.added_items.Laying.{begins_with_item}
use Rattle.program_facts.specs.well_scoped.Part.{Counts, is_filled, is_digit, are_digits, number_named, place_named, operand_named, expr_named, sub_named, window_named}
use Rattle.program_facts.specs.well_scoped.Part as part
use Rattle.program_facts.proofs.well_scoped_lemmas.Made.{both}
use Rattle.program_facts.specs.whole_counts.Whole.{is_whole_picture, is_whole_entry, place_is_whole, amount_is_whole_by, amount_is_whole}
use Rattle.cobol_theory.specs.cell_serving.Tested.{is_whole_form, is_whole_area, is_whole_place, is_amount_by, is_amount}
use Rattle.cobol_theory.specs.fit_programs.Fit.{sign_fits, entry_fits}
use Rattle.cobol_theory.proofs.served_programs_lemmas.Areas.{AreaFits, area-of}

-- ---- an item

abbrev HasPicture : Option Picture → Type 0
HasPicture picture = (signed : Bool) × (whole : ℕ) × (part : ℕ) × (picture ≡ Some (pictures.Number signed whole part)) × ((part == 0 && nat_le whole 18) ≡ true)

picture-whole : (picture : Option Picture) → is_whole_picture picture ≡ true → HasPicture picture
picture-whole None e = absurd (false≢true e)
picture-whole (Some (pictures.Number signed whole part)) e = (signed, whole, part, refl, e)
picture-whole (Some (pictures.Edited mask)) e = absurd (false≢true e)
picture-whole (Some (pictures.Letters count)) e = absurd (false≢true e)
picture-whole (Some (pictures.Any count)) e = absurd (false≢true e)

form-whole : (usage : Usage) (signed : Bool) (whole part : ℕ) (sign : Sign) → (part == 0 && nat_le whole 18) ≡ true → (signed || sign_size sign == 0) ≡ true →
    is_whole_form (number_size usage sign whole part) (forms.Number signed whole part (storage_of sign usage (digit_count whole part))) ≡ true
form-whole usages.Display true whole part sign e f =
    let none = eqb-true part 0 (and_parts (part == 0) (nat_le whole 18) e).0 in both e (eq-eqb _ _ (omega (arith, none)))
form-whole usages.Display false whole part sign e f =
    let none = eqb-true part 0 (and_parts (part == 0) (nat_le whole 18) e).0 in
    let plain = eqb-true (sign_size sign) 0 f in
    both e (eq-eqb _ _ (omega (arith, none, plain)))
form-whole usages.Binary signed whole part sign e f = both e (eq-eqb (binary_size (digit_count whole part)) (binary_size (digit_count whole part)) refl)
form-whole usages.Packed signed whole part sign e f = both e (eq-eqb (packed_size (digit_count whole part)) (packed_size (digit_count whole part)) refl)

no-condition : (condition has : Bool) → has ≡ true → not (condition && has) ≡ true → condition ≡ false
no-condition true has h e = cc
no-condition false has h e = refl

area-whole : (entry : Entry) (area : Area) → is_whole_picture entry.picture ≡ true → entry_fits entry ≡ true → AreaFits entry area → is_whole_form area.size area.form ≡ true
area-whole entry area e f h =
    let number = picture-whole entry.picture e in
    let fits = and_parts (not (is_condition entry && is_some entry.picture)) (sign_fits entry.sign entry.picture) f in
    let item = no-condition (is_condition entry) (is_some entry.picture) (subst (λ p. is_some p ≡ true) (sym number.3) refl) fits.0 in
    let sign = subst (λ p. sign_fits entry.sign p ≡ true) number.3 fits.1 in
    let is = h item (pictures.Number number.0 number.1 number.2) number.3 in
    subst (λ size. is_whole_form size area.form ≡ true) (sym is.0)
    (subst (λ form. is_whole_form (number_size entry.usage entry.sign number.1 number.2) form ≡ true) (sym is.1) (form-whole entry.usage number.0 number.1 number.2 entry.sign number.4 sign))

-- ---- numbers

after-read : (bytes : List ℕ) (number : ℕ) → list_all is_digit bytes ≡ true → is_some (digits_after number bytes) ≡ true
after-read [] number e = refl
after-read (byte ∷ bytes) number e =
    let h = and_parts (is_digit byte) (list_all is_digit bytes) e in
    subst (λ b. is_some (if b then digits_after (number * 10 + (byte - 48)) bytes else None) ≡ true) (sym h.0) (after-read bytes (number * 10 + (byte - 48)) h.1)

digits-read : (number : Number) → number_named number ≡ true → is_some (digits_value number.digits) ≡ true
digits-read number e =
    let digits = number.digits in
    let h = (and_parts (are_digits digits) (nat_le number.scale (length digits)) e).0 in
    let k = and_parts (is_filled digits && nat_le (length digits) 18) (list_all is_digit digits) h in
    subst (λ b. is_some (if b then digits_after 0 digits else None) ≡ true) (sym (and_parts (is_filled digits) (nat_le (length digits) 18) k.0).1) (after-read digits 0 k.1)

-- ---- places

in-front : {X : Type 0} (xs ys : List X) (i : ℕ) (x : X) → slice_get xs i ≡ Some x → slice_get (xs ++ ys) i ≡ Some x
in-front [] ys i x is = absurd (cc)
in-front (y ∷ xs) ys zero x is = is
in-front (y ∷ xs) ys (suc i) x is = in-front xs ys i x is

abbrev SomeFits : Option Entry → Type 0
SomeFits None = Unit {0}
SomeFits (Some entry) = entry_fits entry ≡ true

each-fits : (entries : List Entry) → all (map entry_fits entries) ≡ true → (item : ℕ) → SomeFits (slice_get entries item)
each-fits [] e item = tt
each-fits (entry ∷ entries) e zero = (and_parts (entry_fits entry) (all (map entry_fits entries)) e).0
each-fits (entry ∷ entries) e (suc item) = each-fits entries (and_parts (entry_fits entry) (all (map entry_fits entries)) e).1 item

module _ (entries : List Entry) (begins : begins_with_item entries ≡ true) (fit : all (map entry_fits entries) ≡ true) (more : List Area) where
  abbrev areas : List Area
  areas = (layout_of entries).items ++ more

  item-whole : (item : ℕ) (entry : Option Entry) → slice_get entries item ≡ entry → is_whole_entry entry ≡ true → is_whole_area (slice_get areas item) ≡ true
  item-whole item None is e = absurd (false≢true e)
  item-whole item (Some entry) is e =
      let area = area-of entries begins item entry is in
      subst (λ a. is_whole_area a ≡ true) (sym (in-front (layout_of entries).items more item area.0 area.1))
      (area-whole entry area.0 e (subst SomeFits is (each-fits entries fit item)) area.2)

  pub place-whole : (place : Place) → place_is_whole entries place ≡ true → is_whole_place areas place ≡ true
  place-whole place e =
      let item = (out-Place place).item in
      let h = and_parts (not (is_some (out-Place place).window)) (is_whole_entry (slice_get entries item)) e in
      both h.0 (item-whole item (slice_get entries item) refl h.1)

  -- ---- amounts

  module _ (counts : Counts) where
    amount-by : (y : Operand-F Expr Operand Place Sub Window) →
        part.operand_step counts (map-Operand Expr Operand Place Sub Window Bool Bool Bool Bool Bool (expr_named counts) (operand_named counts) (place_named counts) (sub_named counts) (window_named counts) y) ≡ true →
        amount_is_whole_by entries y ≡ true → is_amount_by areas y ≡ true
    amount-by (Operand-F.Place place) e f = place-whole place f
    amount-by (Operand-F.Number number) e f = both f (digits-read number e)
    amount-by (Operand-F.Text bytes) e f = absurd (false≢true f)
    amount-by (Operand-F.Figure figures.Zero) e f = refl
    amount-by (Operand-F.Figure figures.Space) e f = absurd (false≢true f)
    amount-by (Operand-F.Figure figures.HighValue) e f = absurd (false≢true f)
    amount-by (Operand-F.Figure figures.LowValue) e f = absurd (false≢true f)
    amount-by (Operand-F.Figure figures.Quote) e f = absurd (false≢true f)

    pub amount-whole : (amount : Operand) → operand_named counts amount ≡ true → amount_is_whole entries amount ≡ true → is_amount areas amount ≡ true
    amount-whole amount e f =
        amount-by (out-Operand amount) (sym (fold_out-Operand Bool Bool Bool Bool Bool (part.expr_step counts) (part.operand_step counts) (part.place_step counts) (part.sub_step counts) (part.window_step counts) amount) ∙ e) f
