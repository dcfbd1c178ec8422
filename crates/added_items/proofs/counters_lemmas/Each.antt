-- Lists whose items are changed one after the other, as they are seen.
use Rattle.std.proofs.Common.{◌≡◌, ◌<◌, ◌≤◌, ◌+◌, ℕ, zero, suc, List, [], ◌∷◌, ◌++◌, map, length, take, drop, get_or, set, refl, ap, sym, ◌∙◌, arith, add-one}
use Rattle.std.proofs.lemmas.List.{map-set, length-map}
use Rattle.std.proofs.Math.ListN.{get_or-map}

module _ {X Y : Type 0} (see : X → Y) (change : Y → Y) where
  -- so many of them are changed
  abbrev pub changed : ℕ → List X → List Y
  changed at xs = map change (take at (map see xs)) ++ drop at (map see xs)

  one-more : (ys : List Y) (at : ℕ) (d : Y) → at < length ys →
      set (map change (take at ys) ++ drop at ys) at (change (get_or ys at d)) ≡ map change (take (suc at) ys) ++ drop (suc at) ys
  one-more [] at d within = absurd (omega (arith, within))
  one-more (y ∷ ys) zero d within = refl
  one-more (y ∷ ys) (suc at) d within =
      let less : at < length ys = omega (arith, within) in
      ap (λ l. change y ∷ l) (one-more ys at d less)

  rest-stays : (ys : List Y) (at : ℕ) (d : Y) → at < length ys → get_or (map change (take at ys) ++ drop at ys) at d ≡ get_or ys at d
  rest-stays [] at d within = absurd (omega (arith, within))
  rest-stays (y ∷ ys) zero d within = refl
  rest-stays (y ∷ ys) (suc at) d within =
      let less : at < length ys = omega (arith, within) in rest-stays ys at d less

  pub next-changed : (old now : List X) (at : ℕ) (d new : X) → at < length old → map see now ≡ changed at old →
      see new ≡ change (see (get_or now at d)) → map see (set now at new) ≡ changed (at + 1) old
  next-changed old now at d new within before is =
      let seen = map see old in
      let inside : at < length seen = (let mapped : length seen ≡ length old = length-map old see in omega (arith, mapped, within)) in
      let here : see (get_or now at d) ≡ get_or seen at (see d) =
      sym (get_or-map see now at d) ∙ ap (λ l. get_or l at (see d)) before ∙ rest-stays seen at (see d) inside in
      map-set see now at new
      ∙ ap (λ l. set l at (see new)) before
      ∙ ap (set (changed at old) at) (is ∙ ap change here)
      ∙ one-more seen at (see d) inside
      ∙ ap (λ n. changed n old) (sym (add-one at))

  past : (ys : List Y) (at : ℕ) → length ys ≤ at → map change (take at ys) ++ drop at ys ≡ map change ys
  past [] zero most = refl
  past [] (suc at) most = refl
  past (y ∷ ys) zero most = absurd (omega (arith, most))
  past (y ∷ ys) (suc at) most =
      let less : length ys ≤ at = omega (arith, most) in
      ap (λ l. change y ∷ l) (past ys at less)

  pub all-changed : (old : List X) (at : ℕ) → length old ≤ at → changed at old ≡ map change (map see old)
  all-changed old at most =
      let mapped : length (map see old) ≡ length old = length-map old see in
      past (map see old) at (omega (arith, mapped, most))
