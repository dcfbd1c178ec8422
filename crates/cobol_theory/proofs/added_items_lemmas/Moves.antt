-- MOVE, SET and arithmetic.
use Rattle.std.proofs.Common.{◌≡◌, ℕ, ◌<◌, Bool, true, false, ◌&&◌, List, [], ◌∷◌, ◌++◌, length, Option, Some, None, refl, ap, sym, ◌∙◌, subst}
use Rattle.std.specs.Prelude.{Ok, Err, if◌then◌else◌, not, ◌||◌, slice_get, option_and_then, is_some}
use Rattle.std.proofs.lemmas.Bool.{and_parts}
use Rattle.cob_num.specs.declared.storing.Stored.{Stored}
use Rattle.cob_num.specs.Exact.{decimal, sum_of, difference_of, product_of}
use Rattle.cob_tree.specs.declared.entry.Entry.{Entry}
use Rattle.cob_tree.specs.declared.entry.Span.{Span}
use Rattle.cob_tree.specs.declared.calc.Calc.{Calc}
use Rattle.cob_tree.specs.declared.calc.Calc.TheVariants as calcs
use Rattle.cob_tree.specs.declared.calc.Target.{Target}
use Rattle.cob_tree.specs.declared.place.Operand.{Operand}
use Rattle.cob_tree.specs.declared.place.Place.{Place, out-Place}
use Rattle.cob_store.specs.declared.area.Area.{Area}
use Rattle.cob_store.specs.declared.area.Form.{Form}
use Rattle.cob_store.specs.declared.area.Form.TheVariants as forms
use Rattle.cob_store.specs.declared.area.Storage.{Storage}
use Rattle.cob_store.specs.declared.spot.Spot.{Spot}
use Rattle.cob_store.specs.declared.spot.Reached.{Reached}
use Rattle.edit_fields.specs.Field.{digits_of}
use Rattle.cob_store.specs.Answer.{Answer, and_then}
use Rattle.cob_store.specs.Area.{mask_of, mask_at}
use Rattle.cob_store.specs.Number.{number_bytes}
use Rattle.cob_store.specs.Store.{Roots, edited_bytes, put_at, shown_at}
use Rattle.cob_store.specs.Place.{memory_of, Value, OfMemory, kept, number_at, reached, operand_value}
use Rattle.meanings.specs.statements.Outcome.{Outcome, done, go_on, each}
use Rattle.meanings.specs.statements.Condition.{spans_of}
use Rattle.meanings.specs.statements.Moving.{area_form, form_of, is_group, Sender, received, put_answer, receive, all_groups, operand_sent, moved, sent_on, first_moved, set}
use Rattle.meanings.specs.statements.Arithmetic.{Basis, Given, Quotient, Plus, Less, Times, Over, both, sum_on, summed, basis_of, value_for, given_by, edited_by, kept_in, given_edited, given, part_of, target_mask, targeted, all_targeted, calculated}
use Rattle.cobol_theory.specs.added_items.Within.{place_within, operand_within, operands_within, places_within, spans_within, span_within, entries_within, if_any, calc_within, targets_within}
use Rattle.cobol_theory.specs.added_items.Widened.{AreInside}
use Rattle.cobol_theory.proofs.added_items_lemmas.Bytes.{get-append, number-same}
use Rattle.cobol_theory.proofs.added_items_lemmas.Places as places
use Rattle.cobol_theory.proofs.added_items_lemmas.Places.{IsRooted, then-same}
use Rattle.cobol_theory.proofs.added_items_lemmas.Sides as sides
use Rattle.cobol_theory.proofs.added_items_lemmas.Sides.{item-below}
use Rattle.cobol_theory.proofs.added_items_lemmas.Outcomes as outcomes
use Rattle.cobol_theory.proofs.added_items_lemmas.Outcomes.{inside-kept}
use Rattle.cobol_theory.proofs.added_items_lemmas.Conditions.{entry-within}

-- the form of a place
pub form-same : (areas more : List Area) (place : Place) → place_within (length areas) place ≡ true → form_of (areas ++ more) place ≡ form_of areas place
form-same areas more place e = ap (area_form (is_some (out-Place place).window)) (get-append areas more (out-Place place).item (item-below (length areas) place e))

-- the mask of an item
pub mask-same : (areas more : List Area) (item : ℕ) → item < length areas → mask_at (areas ++ more) item ≡ mask_at areas item
mask-same areas more item h = ap mask_of (get-append areas more item h)

groups-same : (areas more : List Area) (places : List Place) → places_within (length areas) places ≡ true → all_groups (areas ++ more) places ≡ all_groups areas places
groups-same areas more [] e = refl
groups-same areas more (place ∷ others) e =
    let h = and_parts (place_within (length areas) place) (places_within (length areas) others) e in
    ap (λ form. is_group form && all_groups (areas ++ more) others) (form-same areas more place h.0)
    ∙ ap (λ rest. is_group (form_of areas place) && rest) (groups-same areas more others h.1)

module _ (areas more : List Area) (tail : Roots) (roots : ℕ) where
  abbrev Widens : {A : Type 0} → Outcome A → Outcome A → Type 0
  Widens {A = A} wide plain = outcomes.Widens tail roots {A = A} wide plain

  -- what is reached in a store of so many roots
  abbrev pub Finds : OfMemory Reached → Type 0
  Finds find = (store : Roots) → length store ≡ roots → (inside : AreInside areas store) → places.FoundBy areas more store tail inside find

  -- MOVE

  put-answer-widens : (store : Roots) → length store ≡ roots → (spot : Spot) → spot.root < length store → (bytes : Answer (List ℕ)) →
      Widens (put_answer (store ++ tail) spot bytes) (put_answer store spot bytes)
  put-answer-widens store long spot h bytes =
      outcomes.go_on-widens tail roots store bytes bytes (λ now given. done (put_at now spot given) tt) (λ now given. done (put_at now spot given) tt) long refl
      (λ given. outcomes.put-widens tail roots store spot given tt long h)

  receive-by : (mask : Option (List ℕ)) (sender : Sender) (store : Roots) → length store ≡ roots → (r : Answer Reached) → IsRooted store r →
      Widens (go_on (store ++ tail) r (λ now place. put_answer now place.spot (received mask place.form place.spot.length sender)))
      (go_on store r (λ now place. put_answer now place.spot (received mask place.form place.spot.length sender)))
  receive-by mask sender store long (Ok r) h = put-answer-widens store long r.spot h (received mask r.form r.spot.length sender)
  receive-by mask sender store long (Err abend) h = record { same = refl; long = long }

  pub receive-widens : (sender : Sender) (store : Roots) → length store ≡ roots → AreInside areas store → (item : ℕ) → item < length areas → (find : OfMemory Reached) → Finds find →
      Widens (receive (areas ++ more) sender (store ++ tail) item find) (receive areas sender store item find)
  receive-widens sender store long inside item below find finds =
      let found = finds store long inside in
      subst (λ r. Widens (go_on (store ++ tail) r (λ now place. put_answer now place.spot (received (mask_at (areas ++ more) item) place.form place.spot.length sender))) (receive areas sender store item find))
      (sym found.same)
      (subst (λ mask. Widens (go_on (store ++ tail) (find (memory_of areas store)) (λ now place. put_answer now place.spot (received mask place.form place.spot.length sender))) (receive areas sender store item find))
      (sym (mask-same areas more item below)) (receive-by (mask_at areas item) sender store long (find (memory_of areas store)) found.rooted))

  place-finds : (place : Place) → place_within (length areas) place ≡ true → Finds (reached place)
  place-finds place e store long inside = places.place-same areas more store tail inside place e

  each-received : (sender : Sender) (store : Roots) (to : List Place) → length store ≡ roots → AreInside areas store → places_within (length areas) to ≡ true →
      Widens (each (λ store place. receive (areas ++ more) sender store (out-Place place).item (reached place)) (store ++ tail) to)
      (each (λ store place. receive areas sender store (out-Place place).item (reached place)) store to)
  each-received sender store [] long inside e = record { same = refl; long = long }
  each-received sender store (place ∷ others) long inside e =
      let h = and_parts (place_within (length areas) place) (places_within (length areas) others) e in
      outcomes.then_do-widens tail roots (receive (areas ++ more) sender (store ++ tail) (out-Place place).item (reached place)) (receive areas sender store (out-Place place).item (reached place))
      (λ now _. each (λ store place. receive (areas ++ more) sender store (out-Place place).item (reached place)) now others)
      (λ now _. each (λ store place. receive areas sender store (out-Place place).item (reached place)) now others)
      (receive-widens sender store long inside (out-Place place).item (item-below (length areas) place h.0) (reached place) (place-finds place h.0))
      (λ later length_kept unit. each-received sender later others length_kept (inside-kept areas store later (length_kept ∙ sym long) inside) h.1)

  pub moved-widens : (from : Operand) (to : List Place) (store : Roots) → length store ≡ roots → AreInside areas store →
      operand_within (length areas) from ≡ true → places_within (length areas) to ≡ true →
      Widens (moved (areas ++ more) from to (store ++ tail)) (moved areas from to store)
  moved-widens from to store long inside first second =
      outcomes.go_on-widens tail roots store
      (operand_sent (memory_of (areas ++ more) (store ++ tail)) (not (all_groups (areas ++ more) to)) from)
      (operand_sent (memory_of areas store) (not (all_groups areas to)) from)
      (λ now sender. each (λ store place. receive (areas ++ more) sender store (out-Place place).item (reached place)) now to)
      (λ now sender. each (λ store place. receive areas sender store (out-Place place).item (reached place)) now to)
      long
      (ap (λ groups. operand_sent (memory_of (areas ++ more) (store ++ tail)) (not groups) from) (groups-same areas more to second)
      ∙ sides.operand_sent-same areas more store tail inside (not (all_groups areas to)) from first)
      (λ sender. each-received sender store to long inside second)

  pub sent_on-widens : (wide plain : Answer Sender) (item : ℕ) → item < length areas → (find : OfMemory Reached) (store : Roots) → length store ≡ roots → AreInside areas store → wide ≡ plain → Finds find →
      Widens (sent_on (areas ++ more) wide item find (store ++ tail)) (sent_on areas plain item find store)
  sent_on-widens wide plain item below find store long inside same finds =
      outcomes.go_on-widens tail roots store wide plain (λ now read. receive (areas ++ more) read now item find) (λ now read. receive areas read now item find) long same
      (λ sender. receive-widens sender store long inside item below find finds)

  -- SET

  first-widens : (place : Place) (spans : List Span) (store : Roots) → length store ≡ roots → AreInside areas store →
      place_within (length areas) place ≡ true → spans_within (length areas) spans ≡ true →
      Widens (first_moved (areas ++ more) place spans (store ++ tail)) (first_moved areas place spans store)
  first-widens place [] store long inside first second = record { same = refl; long = long }
  first-widens place (span ∷ spans) store long inside first second =
      let h = and_parts (span_within (length areas) span) (spans_within (length areas) spans) second in
      let g = and_parts (operand_within (length areas) span.from) (if_any (length areas) (operand_within (length areas)) span.to) h.0 in
      moved-widens span.from (place ∷ []) store long inside g.0 (ap (λ t. t && true) first)

  pub set-widens : (entries added : List Entry) → length entries ≡ length areas → entries_within (length areas) entries ≡ true →
      (place : Place) (store : Roots) → length store ≡ roots → AreInside areas store → place_within (length areas) place ≡ true →
      Widens (set (entries ++ added) (areas ++ more) place (store ++ tail)) (set entries areas place store)
  set-widens entries added sized own place store long inside e =
      subst (λ entry. Widens (first_moved (areas ++ more) place (spans_of entry) (store ++ tail)) (set entries areas place store))
      (sym (get-append entries added (out-Place place).item (subst (λ n. (out-Place place).item < n) (sym sized) (item-below (length areas) place e))))
      (first-widens place (spans_of (slice_get entries (out-Place place).item)) store long inside e (entry-within (length areas) entries own (out-Place place).item))

  -- arithmetic

  sum_on-same : (store : Roots) (inside : AreInside areas store) (sum : Value) (operands : List Operand) → operands_within (length areas) operands ≡ true →
      sum_on (memory_of (areas ++ more) (store ++ tail)) sum operands ≡ sum_on (memory_of areas store) sum operands
  sum_on-same store inside sum [] e = refl
  sum_on-same store inside sum (operand ∷ operands) e =
      let h = and_parts (operand_within (length areas) operand) (operands_within (length areas) operands) e in
      ap (λ value. and_then value (λ value. sum_on (memory_of (areas ++ more) (store ++ tail)) (both sum_of sum value) operands)) (places.operand-same areas more store tail inside operand h.0)
      ∙ then-same (operand_value operand (memory_of areas store)) _ _ (λ value. sum_on-same store inside (both sum_of sum value) operands h.1)

  summed-same : (store : Roots) (inside : AreInside areas store) (operands : List Operand) → operands_within (length areas) operands ≡ true →
      summed (memory_of (areas ++ more) (store ++ tail)) operands ≡ summed (memory_of areas store) operands
  summed-same store inside [] e = refl
  summed-same store inside (operand ∷ operands) e =
      let h = and_parts (operand_within (length areas) operand) (operands_within (length areas) operands) e in
      ap (λ value. and_then value (λ value. sum_on (memory_of (areas ++ more) (store ++ tail)) value operands)) (places.operand-same areas more store tail inside operand h.0)
      ∙ then-same (operand_value operand (memory_of areas store)) _ _ (λ value. sum_on-same store inside value operands h.1)

  two-same : (store : Roots) (inside : AreInside areas store) (first second : Operand) (basis : Value → Value → Basis) →
      (operand_within (length areas) first && operand_within (length areas) second) ≡ true →
      and_then (operand_value first (memory_of (areas ++ more) (store ++ tail))) (λ a. and_then (operand_value second (memory_of (areas ++ more) (store ++ tail))) (λ b. Ok (basis a b)))
      ≡ and_then (operand_value first (memory_of areas store)) (λ a. and_then (operand_value second (memory_of areas store)) (λ b. Ok (basis a b)))
  two-same store inside first second basis e =
      let h = and_parts (operand_within (length areas) first) (operand_within (length areas) second) e in
      ap (λ v. and_then v (λ a. and_then (operand_value second (memory_of (areas ++ more) (store ++ tail))) (λ b. Ok (basis a b)))) (places.operand-same areas more store tail inside first h.0)
      ∙ ap (λ v. and_then (operand_value first (memory_of areas store)) (λ a. and_then v (λ b. Ok (basis a b)))) (places.operand-same areas more store tail inside second h.1)

  basis-same : (store : Roots) (inside : AreInside areas store) (calc : Calc) → calc_within (length areas) calc ≡ true →
      basis_of (memory_of (areas ++ more) (store ++ tail)) calc ≡ basis_of (memory_of areas store) calc
  basis-same store inside (calcs.Add operands) e = ap (λ sum. and_then sum (λ sum. Ok (Plus sum))) (summed-same store inside operands e)
  basis-same store inside (calcs.AddGiving operands) e = ap (λ sum. and_then sum (λ sum. Ok (Given sum))) (summed-same store inside operands e)
  basis-same store inside (calcs.Subtract operands) e = ap (λ sum. and_then sum (λ sum. Ok (Less sum))) (summed-same store inside operands e)
  basis-same store inside (calcs.SubtractGiving operands from) e =
      let h = and_parts (operands_within (length areas) operands) (operand_within (length areas) from) e in
      ap (λ sum. and_then sum (λ sum. and_then (operand_value from (memory_of (areas ++ more) (store ++ tail))) (λ value. Ok (Given (both difference_of value sum))))) (summed-same store inside operands h.0)
      ∙ ap (λ v. and_then (summed (memory_of areas store) operands) (λ sum. and_then v (λ value. Ok (Given (both difference_of value sum))))) (places.operand-same areas more store tail inside from h.1)
  basis-same store inside (calcs.Multiply by) e = ap (λ v. and_then v (λ value. Ok (Times value))) (places.operand-same areas more store tail inside by e)
  basis-same store inside (calcs.MultiplyGiving a b) e = two-same store inside a b (λ x y. Given (both product_of x y)) e
  basis-same store inside (calcs.Divide by) e = ap (λ v. and_then v (λ value. Ok (Over value))) (places.operand-same areas more store tail inside by e)
  basis-same store inside (calcs.DivideGiving by a) e = two-same store inside by a (λ x y. Quotient y x) e
  basis-same store inside (calcs.Compute expr) e = ap (λ v. and_then v (λ value. Ok (Given value))) (places.expr-same areas more store tail inside expr e)

  given_by-widens : (guarded : Bool) (store : Roots) → length store ≡ roots → (spot : Spot) → spot.root < length store → (signed : Bool) (storage : Storage) (stored : Option Stored) →
      Widens (given_by guarded (store ++ tail) spot signed storage stored) (given_by guarded store spot signed storage stored)
  given_by-widens guarded store long spot h signed storage None = record { same = refl; long = long }
  given_by-widens guarded store long spot h signed storage (Some stored) = by_case (stored.size_error && guarded)
    where
      by_case : (b : Bool) →
          Widens (if b then done (store ++ tail) true else done (put_at (store ++ tail) spot (number_bytes signed storage spot.length stored.value)) stored.size_error)
          (if b then done store true else done (put_at store spot (number_bytes signed storage spot.length stored.value)) stored.size_error)
      by_case true = record { same = refl; long = long }
      by_case false = outcomes.put-widens tail roots store spot (number_bytes signed storage spot.length stored.value) stored.size_error long h

  shown_at-widens : (store : Roots) → length store ≡ roots → (spot : Spot) → spot.root < length store → (mask : List ℕ) (value : Value) (error : Bool) →
      Widens (done (shown_at (store ++ tail) spot mask value) error) (done (shown_at store spot mask value) error)
  shown_at-widens store long spot h mask None error = record { same = refl; long = long }
  shown_at-widens store long spot h mask (Some number) error = outcomes.put-widens tail roots store spot (edited_bytes mask spot.length number) error long h

  edited_by-widens : (guarded : Bool) (store : Roots) → length store ≡ roots → (spot : Spot) → spot.root < length store → (mask : List ℕ) (stored : Option Stored) →
      Widens (edited_by guarded (store ++ tail) spot mask stored) (edited_by guarded store spot mask stored)
  edited_by-widens guarded store long spot h mask None = record { same = refl; long = long }
  edited_by-widens guarded store long spot h mask (Some stored) = by_case (stored.size_error && guarded)
    where
      number : Value
      number = decimal stored.value (digits_of mask).part

      by_case : (b : Bool) →
          Widens (if b then done (store ++ tail) true else done (shown_at (store ++ tail) spot mask number) stored.size_error)
          (if b then done store true else done (shown_at store spot mask number) stored.size_error)
      by_case true = record { same = refl; long = long }
      by_case false = shown_at-widens store long spot h mask number stored.size_error

  given_edited-widens : (mask : Option (List ℕ)) (guarded : Bool) (store : Roots) → length store ≡ roots → (spot : Spot) → spot.root < length store → (rounded : Bool) (value : Value) →
      Widens (given_edited mask guarded (store ++ tail) spot rounded value) (given_edited mask guarded store spot rounded value)
  given_edited-widens None guarded store long spot h rounded value = record { same = refl; long = long }
  given_edited-widens (Some mask) guarded store long spot h rounded value = edited_by-widens guarded store long spot h mask (kept_in (digits_of mask) rounded value)

  given-widens : (mask : Option (List ℕ)) (guarded : Bool) (store : Roots) → length store ≡ roots → (spot : Spot) → spot.root < length store → (form : Form) (rounded : Bool) (value : Value) →
      Widens (given mask guarded (store ++ tail) spot form rounded value) (given mask guarded store spot form rounded value)
  given-widens mask guarded store long spot h (forms.Number signed whole part storage) rounded value = given_by-widens guarded store long spot h signed storage (option_and_then (kept whole part rounded) value)
  given-widens mask guarded store long spot h forms.Edited rounded value = given_edited-widens mask guarded store long spot h rounded value
  given-widens mask guarded store long spot h forms.Group rounded value = record { same = refl; long = long }
  given-widens mask guarded store long spot h forms.Text rounded value = record { same = refl; long = long }

  -- a receiver with this mask, which was found
  abbrev targeted_at : Option (List ℕ) → Bool → Basis → Bool → Roots → Answer Reached → Outcome Bool
  targeted_at mask guarded basis rounded store found =
      go_on store found (λ now place. go_on now (value_for (part_of mask place.form) (number_at now place.spot place.form) basis) (λ later value. given mask guarded later place.spot place.form rounded value))

  targeted-by : (mask : Option (List ℕ)) (guarded : Bool) (basis : Basis) (rounded : Bool) (store : Roots) → length store ≡ roots → (r : Answer Reached) → IsRooted store r →
      Widens (targeted_at mask guarded basis rounded (store ++ tail) r) (targeted_at mask guarded basis rounded store r)
  targeted-by mask guarded basis rounded store long (Ok place) h =
      outcomes.go_on-widens tail roots store
      (value_for (part_of mask place.form) (number_at (store ++ tail) place.spot place.form) basis)
      (value_for (part_of mask place.form) (number_at store place.spot place.form) basis)
      (λ later value. given mask guarded later place.spot place.form rounded value)
      (λ later value. given mask guarded later place.spot place.form rounded value)
      long
      (ap (λ now. value_for (part_of mask place.form) now basis) (number-same store tail place.spot place.form h))
      (λ value. given-widens mask guarded store long place.spot h place.form rounded value)
  targeted-by mask guarded basis rounded store long (Err abend) h = record { same = refl; long = long }

  targeted-widens : (guarded : Bool) (basis : Basis) (store : Roots) → length store ≡ roots → (inside : AreInside areas store) → (target : Target) → place_within (length areas) target.place ≡ true →
      Widens (targeted (areas ++ more) guarded basis (store ++ tail) target) (targeted areas guarded basis store target)
  targeted-widens guarded basis store long inside target e =
      let found = places.place-same areas more store tail inside target.place e in
      subst (λ r. Widens (targeted_at (target_mask (areas ++ more) target) guarded basis target.rounded (store ++ tail) r) (targeted areas guarded basis store target))
      (sym found.same)
      (subst (λ mask. Widens (targeted_at mask guarded basis target.rounded (store ++ tail) (reached target.place (memory_of areas store))) (targeted areas guarded basis store target))
      (sym (mask-same areas more (out-Place target.place).item (item-below (length areas) target.place e)))
      (targeted-by (target_mask areas target) guarded basis target.rounded store long (reached target.place (memory_of areas store)) found.rooted))

  all_targeted-widens : (guarded : Bool) (basis : Basis) (failed : Bool) (store : Roots) (targets : List Target) → length store ≡ roots → AreInside areas store → targets_within (length areas) targets ≡ true →
      Widens (all_targeted (areas ++ more) guarded basis failed (store ++ tail) targets) (all_targeted areas guarded basis failed store targets)
  all_targeted-widens guarded basis failed store [] long inside e = record { same = refl; long = long }
  all_targeted-widens guarded basis failed store (target ∷ targets) long inside e =
      let h = and_parts (place_within (length areas) target.place) (targets_within (length areas) targets) e in
      outcomes.then_do-widens tail roots (targeted (areas ++ more) guarded basis (store ++ tail) target) (targeted areas guarded basis store target)
      (λ now error. all_targeted (areas ++ more) guarded basis (failed || error) now targets)
      (λ now error. all_targeted areas guarded basis (failed || error) now targets)
      (targeted-widens guarded basis store long inside target h.0)
      (λ later length_kept error. all_targeted-widens guarded basis (failed || error) later targets length_kept (inside-kept areas store later (length_kept ∙ sym long) inside) h.1)

  pub calculated-widens : (calc : Calc) (guarded : Bool) (targets : List Target) (store : Roots) → length store ≡ roots → AreInside areas store →
      calc_within (length areas) calc ≡ true → targets_within (length areas) targets ≡ true →
      Widens (calculated (areas ++ more) calc guarded targets (store ++ tail)) (calculated areas calc guarded targets store)
  calculated-widens calc guarded targets store long inside first second =
      outcomes.go_on-widens tail roots store
      (basis_of (memory_of (areas ++ more) (store ++ tail)) calc) (basis_of (memory_of areas store) calc)
      (λ now basis. all_targeted (areas ++ more) guarded basis false now targets)
      (λ now basis. all_targeted areas guarded basis false now targets)
      long (basis-same store inside calc first)
      (λ basis. all_targeted-widens guarded basis false store targets long inside second)
