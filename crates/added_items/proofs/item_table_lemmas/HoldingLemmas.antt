-- One more item, and one more choice.
use Rattle.std.proofs.Common.{◌≡◌, ℕ, zero, suc, ◌<◌, ◌≤◌, ◌⊎◌, inl, inr, Bool, true, false, if◌then◌else◌, ◌==◌, List, [], ◌∷◌, ◌++◌, length, set, get_or, drop, Option, Some, None, refl, ap, sym, ◌∙◌, subst, arith, eqb-true}
use Rattle.std.specs.Prelude.{is_some, slice_get}
use Rattle.std.proofs.lemmas.Bool.{cases_Bool, cases_eq}
use Rattle.std.proofs.lemmas.List.{length-set, get_or-set_same, get_or-set_other, get_or_default}
use Rattle.control_flow_theory.proofs.semantics_lemmas.Ranges.{eq-self}
use Rattle.added_items.specs.mentions.CellUse.{arms_or}
use Rattle.added_items.specs.declared.mentions.cell_use.CellUse.{CellUse}
use Rattle.added_items.specs.item_table.Choices.{AreFirst, IsPut}
use Rattle.added_items.specs.item_table.Assignment.{AreHeld, AreWithin}
use Rattle.added_items.specs.item_table.Owners.{place_in, with_number}
use Rattle.added_items.specs.item_table.Tables.{or_zero}
use Rattle.added_items.proofs.item_table_lemmas.Places.{place-kept, place-new, place-other, with-there, with-new}

told : (place : Option ℕ) → ((n : ℕ) × (place ≡ Some n)) ⊎ (place ≡ None)
told None = inr refl
told (Some n) = inl (n, refl)

other-number : (h k : ℕ) → (k ≡ h → ⊥) → (h == k) ≡ false
other-number h k apart = elim (cases_Bool (h == k)) [
  | inl e ↦ absurd (apart (sym (eqb-true h k e)))
  | inr e ↦ e
]

-- ---- items

pub held-none : (count : ℕ) (numbers : List (Option ℕ)) → ((k : ℕ) → k < length numbers → get_or numbers k None ≡ None) → AreHeld [] numbers
held-none count numbers none = none

pub held-more : (held : List ℕ) (numbers : List (Option ℕ)) (h : ℕ) → h < length numbers → AreHeld held numbers →
    get_or numbers h None ≡ None → AreHeld (held ++ h ∷ []) (set numbers h (Some (length held)))
held-more held numbers h within are none = λ k less.
    let inside : k < length numbers = omega (arith, less, length-set numbers h (Some (length held))) in
    elim (cases_eq k h) [
      | inl e ↦ subst (λ n. get_or (set numbers h (Some (length held))) n None ≡ place_in (held ++ h ∷ []) n) (sym e)
          (get_or-set_same numbers h (Some (length held)) None within ∙ sym (place-new held h (sym (are h within) ∙ none)))
      | inr apart ↦
          let kept = get_or-set_other numbers h k (Some (length held)) None apart ∙ are k inside in
          elim (told (place_in held k)) [
            | inl there ↦ kept ∙ there.1 ∙ sym (place-kept held h k there.0 there.1)
            | inr missing ↦ kept ∙ missing ∙ sym (place-other held h k (other-number h k apart) missing)
          ]
    ]

pub held-there : (held : List ℕ) (numbers : List (Option ℕ)) (h n : ℕ) → h < length numbers → AreHeld held numbers →
    get_or numbers h None ≡ Some n → held ≡ with_number held h
held-there held numbers h n within are some = sym (with-there held h n (sym (are h within) ∙ some))

pub held-new : (held : List ℕ) (numbers : List (Option ℕ)) (h : ℕ) → h < length numbers → AreHeld held numbers →
    get_or numbers h None ≡ None → held ++ h ∷ [] ≡ with_number held h
held-new held numbers h within are none = sym (with-new held h (sym (are h within) ∙ none))

-- what is put down for a cell is the number of its item
pub number-found : (held : List ℕ) (numbers : List (Option ℕ)) (h k : ℕ) (found : Option ℕ) → AreHeld held numbers →
    k < length numbers → h ≡ k → found ≡ get_or numbers h found → or_zero found ≡ or_zero (place_in held k)
number-found held numbers h k found are within same is =
    ap or_zero (is ∙ ap (λ n. get_or numbers n found) same ∙ get_or_default numbers k found None within ∙ are k within)

pub within-at : (count : ℕ) (places : List ℕ) (at : ℕ) → at < length places → AreWithin count (drop at places) → get_or places at 0 < count
within-at count [] at less are = absurd (omega (arith, less))
within-at count (first ∷ places) zero less are = are.0
within-at count (first ∷ places) (suc at) less are = within-at count places at (omega (arith, less)) are

-- ---- choices

put-value : (here : Bool) (arms before : Option ℕ) → arms ≡ None → before ≡ (if here then arms_or before arms else before)
put-value true arms before none = sym (ap (arms_or before) none)
put-value false arms before none = refl

pub put-none : (before : List (Option ℕ)) (mention : CellUse) → mention.arms ≡ None → IsPut before mention before
put-none before mention none = λ cell within. put-value (mention.cell == cell) mention.arms (get_or before cell None) none

pub put-past : (before : List (Option ℕ)) (mention : CellUse) → length before ≤ mention.cell → IsPut before mention before
put-past before mention past = λ cell within.
    let apart : cell ≡ mention.cell → ⊥ = λ e. omega (arith, e, within, past) in
    sym (ap (λ b. if b then arms_or (get_or before cell None) mention.arms else get_or before cell None) (other-number mention.cell cell apart))

some-arms : (arms before : Option ℕ) → is_some arms ≡ true → arms ≡ arms_or before arms
some-arms None before is = cc
some-arms (Some n) before is = refl

pub put-some : (before : List (Option ℕ)) (mention : CellUse) → mention.cell < length before → is_some mention.arms ≡ true →
    IsPut before mention (set before mention.cell mention.arms)
put-some before mention within is = λ cell inside.
    let old = get_or before cell None in
    elim (cases_Bool (mention.cell == cell)) [
      | inl e ↦
          let same : mention.cell ≡ cell = eqb-true mention.cell cell e in
          ap (get_or (set before mention.cell mention.arms) cell) refl
          ∙ subst (λ n. get_or (set before mention.cell mention.arms) n None ≡ mention.arms) same (get_or-set_same before mention.cell mention.arms None within)
          ∙ some-arms mention.arms old is
          ∙ sym (ap (λ b. if b then arms_or old mention.arms else old) e)
      | inr e ↦
          let apart : cell ≡ mention.cell → ⊥ = λ same.
          let no : true ≡ false = sym (eq-self cell) ∙ ap (λ n. n == cell) same ∙ e in cc in
          get_or-set_other before mention.cell cell mention.arms None apart
          ∙ sym (ap (λ b. if b then arms_or old mention.arms else old) e)
    ]

pub first-more : (mention : CellUse) (told : List CellUse) (before after : List (Option ℕ)) → length after ≡ length before →
    AreFirst told before → IsPut before mention after → AreFirst (mention ∷ told) after
first-more mention told before after size are put = λ cell within.
    let inside : cell < length before = omega (arith, within, size) in
    put cell inside ∙ ap (λ old. if mention.cell == cell then arms_or old mention.arms else old) (are cell inside)

-- ---- one more element

pub get-push : {X : Type 0} (xs : List X) (x : X) (k : ℕ) (found : X) → slice_get (xs ++ x ∷ []) k ≡ Some found →
    (slice_get xs k ≡ Some found) ⊎ ((k ≡ length xs) × (x ≡ found))
get-push [] x zero found is = inr (refl, (let e : x ≡ found = cc in e))
get-push [] x (suc k) found is = cc
get-push (y ∷ xs) x zero found is = inl is
get-push (y ∷ xs) x (suc k) found is = elim (get-push xs x k found is) [
  | inl there ↦ inl there
  | inr last ↦ inr (ap suc last.0, last.1)
]

pub each-push : {X : Type 0} (P : ℕ → X → Type 0) (xs : List X) (x : X) → ((k : ℕ) (found : X) → slice_get xs k ≡ Some found → P k found) →
    P (length xs) x → (k : ℕ) (found : X) → slice_get (xs ++ x ∷ []) k ≡ Some found → P k found
each-push P xs x each last k found is = elim (get-push xs x k found is) [
  | inl there ↦ each k found there
  | inr at ↦ subst (λ n. P n found) (sym at.0) (subst (P (length xs)) at.1 last)
]
