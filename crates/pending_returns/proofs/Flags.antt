-- Flags as lists.
use Rattle.std.proofs.Common.{◌≡◌, ◌+◌, ◌<◌, ◌≤◌, ℕ, zero, suc, Bool, true, false, List, [], ◌∷◌, ◌++◌, length, Some, slice_get, refl, ap, sym, ◌∙◌, subst, inl, inr, arith}
use Rattle.pending_returns.specs.levels.Reach.{Holds}
use Rattle.pending_returns.specs.Summary.{Rises}
use Rattle.pending_returns.specs.Tabled.{Lists}
use Rattle.pending_returns.proofs.Getting.{get-last, get-front, get-back, get-below, get-some, before-or-now}

-- those of the first flags
pub record ListsUpTo (flags : List Bool) (at : ℕ) (numbers : List ℕ) : Type 0 where
  pub rises : Rises numbers
  pub on : (number : ℕ) → number < at → slice_get flags number ≡ Some true → Holds numbers number
  pub only : (number : ℕ) → Holds numbers number → (number < at) × (slice_get flags number ≡ Some true)

pub lists-none : (flags : List Bool) (numbers : List ℕ) → numbers ≡ [] → ListsUpTo flags 0 numbers
lists-none flags numbers is = subst (λ (ns : List ℕ). ListsUpTo flags 0 ns) (sym is) (record {
  rises = λ at number next here there. absurd (let k : ⊥ = cc in k);
  on = λ number lt e. absurd (omega arith);
  only = λ number has. absurd (let e = has.1 in let k : ⊥ = cc in k);
})

pub lists-skip : (flags : List Bool) (at : ℕ) (numbers : List ℕ) → slice_get flags at ≡ Some false → ListsUpTo flags at numbers → ListsUpTo flags (at + 1) numbers
lists-skip flags at numbers off so_far = record {
  rises = so_far.rises;
  on = λ number lt e. elim (before-or-now number at lt) [
    | inl less ↦ so_far.on number less e
    | inr now ↦ absurd (let both : Some true ≡ Some false = sym e ∙ ap (λ (n : ℕ). slice_get flags n) now ∙ off in let k : ⊥ = cc in k)
  ];
  only = λ number has. (let o = so_far.only number has in (omega (arith, o.0), o.1));
}

pub lists-more : (flags : List Bool) (at : ℕ) (numbers more : List ℕ) → slice_get flags at ≡ Some true → more ≡ numbers ++ at ∷ [] → ListsUpTo flags at numbers → ListsUpTo flags (at + 1) more
lists-more flags at numbers more on is so_far = subst (λ (ns : List ℕ). ListsUpTo flags (at + 1) ns) (sym is) (record {
  rises = λ index number next here there. elim (get-back numbers at (suc index) next there) [
    | inl old ↦ elim (get-back numbers at index number here) [
      | inl older ↦ so_far.rises index number next older old
      | inr newer ↦ absurd (let less : suc index < length numbers = get-below numbers (suc index) next old in omega (arith, newer.0, less))
    ]
    | inr new ↦ elim (get-back numbers at index number here) [
      | inl older ↦ (let less : number < at = (so_far.only number (index, older)).0 in omega (arith, less, new.1))
      | inr newer ↦ absurd (omega (arith, newer.0, new.0))
    ]
  ];
  on = λ number lt e. elim (before-or-now number at lt) [
    | inl less ↦ (let has = so_far.on number less e in (has.0, get-front numbers at has.0 number has.1))
    | inr now ↦ (length numbers, get-last numbers at ∙ ap (λ (n : ℕ). Some n) (sym now))
  ];
  only = λ number has. elim (get-back numbers at has.0 number has.1) [
    | inl old ↦ (let o = so_far.only number (has.0, old) in (omega (arith, o.0), o.1))
    | inr new ↦ (omega (arith, new.1), ap (λ (n : ℕ). slice_get flags n) new.1 ∙ on)
  ];
})

pub lists-step : (flags : List Bool) (at : ℕ) (numbers more : List ℕ) (flag : Bool) → slice_get flags at ≡ Some flag → (flag ≡ true → more ≡ numbers ++ at ∷ []) → (flag ≡ false → more ≡ numbers) → ListsUpTo flags at numbers → ListsUpTo flags (at + 1) more
lists-step flags at numbers more true e on off so_far = lists-more flags at numbers more e (on refl) so_far
lists-step flags at numbers more false e on off so_far = subst (λ (ns : List ℕ). ListsUpTo flags (at + 1) ns) (sym (off refl)) (lists-skip flags at numbers e so_far)

pub lists-all : (flags : List Bool) (at : ℕ) (numbers : List ℕ) → length flags ≤ at → ListsUpTo flags at numbers → Lists flags numbers
lists-all flags at numbers le so_far = record {
  rises = so_far.rises;
  on = λ number. (λ e. so_far.on number (let less : number < length flags = get-below flags number true e in omega (arith, less)) e, λ has. (so_far.only number has).1);
}

-- each number is less than any later one
pub rises-far : (numbers : List ℕ) → Rises numbers → (at later number other : ℕ) → at < later → slice_get numbers at ≡ Some number → slice_get numbers later ≡ Some other → number < other
rises-far numbers rises at zero number other lt here there = absurd (omega arith)
rises-far numbers rises at (suc later) number other lt here there = elim (before-or-now at later (omega arith)) [
  | inl less ↦
      let between = get-some numbers later (let less : suc later < length numbers = get-below numbers (suc later) other there in omega (arith, less)) in
      let first : number < between.0 = rises-far numbers rises at later number between.0 less here between.1 in
      let second : between.0 < other = rises later between.0 other between.1 there in
      omega (arith, first, second)
  | inr now ↦ rises later number other (ap (λ (n : ℕ). slice_get numbers n) (sym now) ∙ here) there
]
