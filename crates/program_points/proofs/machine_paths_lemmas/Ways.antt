-- The ways of an item are what the item does by each of them.
use Rattle.std.proofs.Common.{◌≡◌, ◌≢◌, ℕ, zero, suc, ◌+◌, ◌<◌, Bool, true, false, List, [], ◌∷◌, Option, Some, refl, ap, ◌∙◌, subst, arith}
use Rattle.control_flow_theory.specs.language.Language.{Chooser, Times, Until, Varying, Choose, Loop, Perform, Go, GoDepending, NextSentence, ExitParagraph, ExitSection, ExitPerform, StopRun, Program}
use Rattle.control_flow_theory.specs.language.Language as language
use Rattle.control_flow_theory.specs.language.Items.{Counted, Tests, Steps, StepsAfter, Item, Do, SentenceEnd, Turn}
use Rattle.control_flow_theory.specs.semantics.Items.{Way, On, Halts, Into, To, ToEnd}
use Rattle.program_points.specs.paths.Step.{Point, at, Next, Ways, Calls, Ends, way_of, led, way_count, first_is_barred, without_first, ways_from, ways_of, next_by, next_in, way_at}

module _ (never_first : Chooser → Bool) (program : Program) (number : ℕ) where
  abbrev Led : ℕ → Item → List Item → Option Point
  Led k x xs = led program number (way_of k x xs)

  abbrev From : ℕ → ℕ → Item → List Item → List (Option Point)
  From way count x xs = ways_from never_first program number way count x xs

  from-led : (way count k : ℕ) (x : Item) (xs : List Item) (to : Point) → way_at (From way count x xs) k ≡ Some to → (k < count) × (Led (way + k) x xs ≡ Some to)
  from-led way zero k x xs to e = absurd (let h : ⊥ = cc in h)
  from-led way (suc count) zero x xs to e = (omega arith, (let same : way ≡ way + 0 = omega arith in subst (λ n. Led n x xs ≡ Some to) same e))
  from-led way (suc count) (suc k) x xs to e =
      let more = from-led (suc way) count k x xs to e in
      let same : suc way + k ≡ way + suc k = omega arith in
      (let l = more.0 in omega (arith, l), subst (λ n. Led n x xs ≡ Some to) same more.1)

  led-from : (way count k : ℕ) (x : Item) (xs : List Item) → k < count → way_at (From way count x xs) k ≡ Led (way + k) x xs
  led-from way zero k x xs lt = absurd (omega (arith, lt))
  led-from way (suc count) zero x xs lt = (let same : way ≡ way + 0 = omega arith in ap (λ n. Led n x xs) same)
  led-from way (suc count) (suc k) x xs lt =
      let same : suc way + k ≡ way + suc k = omega arith in
      led-from (suc way) count k x xs (omega (arith, lt)) ∙ ap (λ n. Led n x xs) same

  open-way : (barred : Bool) (ways : List (Option Point)) (k : ℕ) (to : Point) → way_at (without_first barred ways) k ≡ Some to → (way_at ways k ≡ Some to) × (barred ≡ true → k ≢ 0)
  open-way true [] k to e = absurd (let h : ⊥ = cc in h)
  open-way true (w ∷ ws) zero to e = absurd (let h : ⊥ = cc in h)
  open-way true (w ∷ ws) (suc k) to e = (e, λ f g. absurd (omega (arith, g)))
  open-way false ways k to e = (e, λ f. absurd (let h : ⊥ = cc in h))

  way-open : (barred : Bool) (ways : List (Option Point)) (k : ℕ) → (barred ≡ true → k ≢ 0) → way_at (without_first barred ways) k ≡ way_at ways k
  way-open true [] k bar = refl
  way-open true (w ∷ ws) zero bar = absurd (bar refl refl)
  way-open true (w ∷ ws) (suc k) bar = refl
  way-open false ways k bar = refl

  pub way-led : (x : Item) (xs : List Item) (k : ℕ) (to : Point) → way_at (ways_of never_first program number x xs) k ≡ Some to → (k < way_count x) × (first_is_barred never_first x ≡ true → k ≢ 0) × (Led k x xs ≡ Some to)
  way-led x xs k to e =
      let o = open-way (first_is_barred never_first x) (From 0 (way_count x) x xs) k to e in
      let l = from-led 0 (way_count x) k x xs to o.0 in
      let same : 0 + k ≡ k = omega arith in
      (l.0, o.1, subst (λ n. Led n x xs ≡ Some to) same l.1)

  pub led-way : (x : Item) (xs : List Item) (k : ℕ) → k < way_count x → (first_is_barred never_first x ≡ true → k ≢ 0) → way_at (ways_of never_first program number x xs) k ≡ Led k x xs
  led-way x xs k lt bar =
      let same : 0 + k ≡ k = omega arith in
      way-open (first_is_barred never_first x) (From 0 (way_count x) x xs) k bar ∙ led-from 0 (way_count x) k x xs lt ∙ ap (λ n. Led n x xs) same

  abbrev Here : List Item → Next
  Here rest = next_in never_first program number rest

  by-ways : (x : Item) (xs : List Item) (w : Way (Unit {0})) (ways : List (Option Point)) → next_by never_first program number x xs w ≡ Ways ways → ways_of never_first program number x xs ≡ ways
  by-ways x xs (On t m items) ways e = cc
  by-ways x xs (Halts t how m) ways e = absurd (let h : ⊥ = cc in h)
  by-ways x xs (Into a b items) ways e = absurd (let h : ⊥ = cc in h)
  by-ways x xs (To t m to) ways e = cc
  by-ways x xs (ToEnd t m to) ways e = cc

  pub next-ways : (rest : List Item) (ways : List (Option Point)) → Here rest ≡ Ways ways → (x : Item) × (xs : List Item) × (rest ≡ x ∷ xs) × (ways_of never_first program number x xs ≡ ways)
  next-ways [] ways e = absurd (let h : ⊥ = cc in h)
  next-ways (x ∷ xs) ways e = (x, xs, refl, by-ways x xs (way_of 0 x xs) ways e)

  abbrev CallsThere : Item → List Item → ℕ → ℕ → Point → Type 0
  CallsThere x xs entry exit after = (x ≡ Do (Perform entry exit)) × (after ≡ at number xs)

  no-call : {A : Type 0} (ways : List (Option Point)) (entry exit : ℕ) (after : Point) → Ways ways ≡ Calls entry exit after → A
  no-call ways entry exit after e = absurd (let h : ⊥ = cc in h)

  calls-item : (x : Item) (xs : List Item) (entry exit : ℕ) (after : Point) → Here (x ∷ xs) ≡ Calls entry exit after → CallsThere x xs entry exit after
  calls-item (Do (language.Do act)) xs entry exit after e = absurd (let h : ⊥ = cc in h)
  calls-item (Do (Choose picker arms)) xs entry exit after e = absurd (let h : ⊥ = cc in h)
  calls-item (Do (Loop (Times amount) body)) xs entry exit after e = absurd (let h : ⊥ = cc in h)
  calls-item (Do (Loop (Until behind test) body)) xs entry exit after e = absurd (let h : ⊥ = cc in h)
  calls-item (Do (Loop (Varying behind set step test) body)) xs entry exit after e = absurd (let h : ⊥ = cc in h)
  calls-item (Do (Perform a b)) xs entry exit after e =
      let same : a ≡ entry = cc in
      let exits : b ≡ exit = cc in
      (ap (λ n. Do (Perform n b)) same ∙ ap (λ n. Do (Perform entry n)) exits, cc)
  calls-item (Do (Go to)) xs entry exit after e = absurd (let h : ⊥ = cc in h)
  calls-item (Do (GoDepending [] on)) xs entry exit after e = absurd (let h : ⊥ = cc in h)
  calls-item (Do (GoDepending (n ∷ ns) on)) xs entry exit after e = absurd (let h : ⊥ = cc in h)
  calls-item (Do NextSentence) xs entry exit after e = absurd (let h : ⊥ = cc in h)
  calls-item (Do ExitParagraph) xs entry exit after e = absurd (let h : ⊥ = cc in h)
  calls-item (Do (ExitSection last)) xs entry exit after e = absurd (let h : ⊥ = cc in h)
  calls-item (Do (ExitPerform cycle)) xs entry exit after e = absurd (let h : ⊥ = cc in h)
  calls-item (Do StopRun) xs entry exit after e = absurd (let h : ⊥ = cc in h)
  calls-item SentenceEnd xs entry exit after e = absurd (let h : ⊥ = cc in h)
  calls-item (Turn (Counted n) body) xs entry exit after e = absurd (let h : ⊥ = cc in h)
  calls-item (Turn (Tests test) body) xs entry exit after e = absurd (let h : ⊥ = cc in h)
  calls-item (Turn (Steps true step test) body) xs entry exit after e = absurd (let h : ⊥ = cc in h)
  calls-item (Turn (Steps false step test) body) xs entry exit after e = absurd (let h : ⊥ = cc in h)
  calls-item (Turn (StepsAfter step test) body) xs entry exit after e = absurd (let h : ⊥ = cc in h)

  pub next-calls : (rest : List Item) (entry exit : ℕ) (after : Point) → Here rest ≡ Calls entry exit after → (xs : List Item) × (rest ≡ Do (Perform entry exit) ∷ xs) × (after ≡ at number xs)
  next-calls [] entry exit after e = absurd (let h : ⊥ = cc in h)
  next-calls (x ∷ xs) entry exit after e = let h = calls-item x xs entry exit after e in (xs, ap (λ y. y ∷ xs) h.0, h.1)

  ends-never : (x : Item) (xs : List Item) (w : Way (Unit {0})) (paragraph : ℕ) → next_by never_first program number x xs w ≡ Ends paragraph → ⊥
  ends-never x xs (On t m items) paragraph e = (let h : ⊥ = cc in h)
  ends-never x xs (Halts t how m) paragraph e = (let h : ⊥ = cc in h)
  ends-never x xs (Into a b items) paragraph e = (let h : ⊥ = cc in h)
  ends-never x xs (To t m to) paragraph e = (let h : ⊥ = cc in h)
  ends-never x xs (ToEnd t m to) paragraph e = (let h : ⊥ = cc in h)

  pub next-ends : (rest : List Item) (paragraph : ℕ) → Here rest ≡ Ends paragraph → (rest ≡ []) × (paragraph ≡ number)
  next-ends [] paragraph e = (refl, cc)
  next-ends (x ∷ xs) paragraph e = absurd (ends-never x xs (way_of 0 x xs) paragraph e)
