-- What is uncounted, taken apart and put together.
use Rattle.std.proofs.Common.{◌≡◌, ℕ, zero, suc, Bool, true, false, List, [], ◌∷◌, refl, ap, sym, ◌∙◌, subst}
use Rattle.control_flow_theory.specs.language.Language.{Test, Act, Stmt, Stmts, none, also, Arms, done, given, missing, Body, Nested, Performed, Perform, Paragraph}
use Rattle.control_flow_theory.specs.language.Items.{Turning, Counted, Tests, Steps, StepsAfter, Item, Do, SentenceEnd, Turn, before, before_body, before_arm, items_of, past_sentence, from_loop}
use Rattle.program_points.specs.paths.Step.{turning_by, item_by}
use Rattle.program_points.specs.machine_paths.Uncounted.{uncounted}

pub u-before : (ss : Stmts) (xs : List Item) → uncounted (before ss xs) ≡ before ss (uncounted xs)
u-before none xs = refl
u-before (also s ss) xs = ap (λ ys. Do s ∷ ys) (u-before ss xs)

pub u-body : (body : Body) (xs : List Item) → uncounted (before_body body xs) ≡ before_body body (uncounted xs)
u-body (Nested ss) xs = u-before ss xs
u-body (Performed e x) xs = refl

pub u-arm : (arms : Arms) (k : ℕ) (xs : List Item) → uncounted (before_arm arms k xs) ≡ before_arm arms k (uncounted xs)
u-arm done k xs = refl
u-arm (given arm others) zero xs = u-before arm xs
u-arm (given arm others) (suc k) xs = u-arm others k xs
u-arm (missing others) zero xs = refl
u-arm (missing others) (suc k) xs = u-arm others k xs

pub u-past : (xs : List Item) → uncounted (past_sentence xs) ≡ past_sentence (uncounted xs)
u-past [] = refl
u-past (Do s ∷ xs) = u-past xs
u-past (SentenceEnd ∷ xs) = refl
u-past (Turn turning body ∷ xs) = u-past xs

pub u-loop : (cycle : Bool) (xs : List Item) → uncounted (from_loop cycle xs) ≡ from_loop cycle (uncounted xs)
u-loop cycle [] = refl
u-loop cycle (Do s ∷ xs) = u-loop cycle xs
u-loop cycle (SentenceEnd ∷ xs) = u-loop cycle xs
u-loop true (Turn turning body ∷ xs) = refl
u-loop false (Turn turning body ∷ xs) = refl

pub u-items : (ss : Paragraph) → uncounted (items_of ss) ≡ items_of ss
u-items [] = refl
u-items (s ∷ ss) = u-before s (SentenceEnd ∷ items_of ss) ∙ ap (λ ys. before s (SentenceEnd ∷ ys)) (u-items ss)

again-turning : (k : ℕ) (t : Turning) → turning_by k (turning_by 0 t) ≡ turning_by k t
again-turning k (Counted n) = refl
again-turning k (Tests test) = refl
again-turning k (Steps reached step test) = refl
again-turning k (StepsAfter step test) = refl

pub again : (k : ℕ) (x : Item) → item_by k (item_by 0 x) ≡ item_by k x
again k (Do s) = refl
again k SentenceEnd = refl
again k (Turn t body) = ap (λ u. Turn u body) (again-turning k t)

pub u-again : (xs : List Item) → uncounted (uncounted xs) ≡ uncounted xs
u-again [] = refl
u-again (x ∷ xs) = ap (λ y. y ∷ uncounted (uncounted xs)) (again 0 x) ∙ ap (λ ys. item_by 0 x ∷ ys) (u-again xs)

heads : (x y : Item) (xs ys : List Item) → x ∷ xs ≡ y ∷ ys → (x ≡ y) × (xs ≡ ys)
heads x y xs ys e = (cc, cc)

is-do : (y : Item) (s : Stmt) → item_by 0 y ≡ Do s → y ≡ Do s
is-do (Do t) s e = e
is-do SentenceEnd s e = e
is-do (Turn t body) s e = absurd (let k : ⊥ = cc in k)

is-end : (y : Item) → item_by 0 y ≡ SentenceEnd → y ≡ SentenceEnd
is-end (Do t) e = e
is-end SentenceEnd e = e
is-end (Turn t body) e = absurd (let k : ⊥ = cc in k)

is-turn : (y : Item) (t : Turning) (body : Body) → item_by 0 y ≡ Turn t body → (u : Turning) × (y ≡ Turn u body) × (turning_by 0 u ≡ t)
is-turn (Do s) t body e = absurd (let k : ⊥ = cc in k)
is-turn SentenceEnd t body e = absurd (let k : ⊥ = cc in k)
is-turn (Turn u other) t body e = (u, (let b : other ≡ body = cc in ap (λ c. Turn u c) b), cc)

join : (x y : Item) (xs ys : List Item) → x ≡ y → xs ≡ ys → x ∷ xs ≡ y ∷ ys
join x y xs ys e h = ap (λ z. z ∷ xs) e ∙ ap (λ zs. y ∷ zs) h

-- what is as much as these statements and then the rest, is they and then as much as the rest
pub s-before : (ss : Stmts) (xs r : List Item) → uncounted r ≡ uncounted (before ss xs) → (t : List Item) × (r ≡ before ss t) × (uncounted t ≡ uncounted xs)
s-before none xs r e = (r, refl, e)
s-before (also s ss) xs [] e = absurd (let k : ⊥ = cc in k)
s-before (also s ss) xs (y ∷ ys) e =
    let h = heads (item_by 0 y) (Do s) (uncounted ys) (uncounted (before ss xs)) e in
    let more = s-before ss xs ys h.1 in
    (more.0, join y (Do s) ys (before ss more.0) (is-do y s h.0) more.1, more.2)

pub s-body : (body : Body) (xs r : List Item) → uncounted r ≡ uncounted (before_body body xs) → (t : List Item) × (r ≡ before_body body t) × (uncounted t ≡ uncounted xs)
s-body (Nested ss) xs r e = s-before ss xs r e
s-body (Performed a b) xs [] e = absurd (let k : ⊥ = cc in k)
s-body (Performed a b) xs (y ∷ ys) e =
    let h = heads (item_by 0 y) (Do (Perform a b)) (uncounted ys) (uncounted xs) e in
    (ys, ap (λ z. z ∷ ys) (is-do y (Perform a b) h.0), h.1)

pub s-arm : (arms : Arms) (k : ℕ) (xs r : List Item) → uncounted r ≡ uncounted (before_arm arms k xs) → (t : List Item) × (r ≡ before_arm arms k t) × (uncounted t ≡ uncounted xs)
s-arm done k xs r e = (r, refl, e)
s-arm (given arm others) zero xs r e = s-before arm xs r e
s-arm (given arm others) (suc k) xs r e = s-arm others k xs r e
s-arm (missing others) zero xs r e = (r, refl, e)
s-arm (missing others) (suc k) xs r e = s-arm others k xs r e

pub s-turn : (t : Turning) (body : Body) (xs r : List Item) → uncounted r ≡ uncounted (Turn t body ∷ xs) →
    (u : Turning) × (ys : List Item) × (r ≡ Turn u body ∷ ys) × (turning_by 0 u ≡ turning_by 0 t) × (uncounted ys ≡ uncounted xs)
s-turn t body xs [] e = absurd (let k : ⊥ = cc in k)
s-turn t body xs (y ∷ ys) e =
    let h = heads (item_by 0 y) (Turn (turning_by 0 t) body) (uncounted ys) (uncounted xs) e in
    let u = is-turn y (turning_by 0 t) body h.0 in
    (u.0, ys, ap (λ z. z ∷ ys) u.1, u.2, h.1)

pub s-nil : (r : List Item) → uncounted r ≡ [] → r ≡ []
s-nil [] e = refl
s-nil (y ∷ ys) e = absurd (let k : ⊥ = cc in k)

pub s-items : (ss : Paragraph) (r : List Item) → uncounted r ≡ uncounted (items_of ss) → r ≡ items_of ss
s-items [] r e = s-nil r e
s-items (s ∷ ss) r e =
    let b = s-before s (SentenceEnd ∷ items_of ss) r e in
    (elim b.0 as (λ t. r ≡ before s t → uncounted t ≡ uncounted (SentenceEnd ∷ items_of ss) → r ≡ items_of (s ∷ ss)) [
      | [] ↦ λ f g. absurd (let k : ⊥ = cc in k)
      | y ∷ ys ↦ λ f g.
          let h = heads (item_by 0 y) SentenceEnd (uncounted ys) (uncounted (items_of ss)) g in
          f ∙ ap (before s) (join y SentenceEnd ys (items_of ss) (is-end y h.0) (s-items ss ys h.1))
    ]) b.1 b.2

pub s-past : (xs r : List Item) → uncounted r ≡ uncounted (past_sentence xs) → (t : List Item) × (uncounted t ≡ uncounted xs) × (past_sentence t ≡ r)
s-past [] r e = ([], refl, sym (s-nil r e))
s-past (Do s ∷ xs) r e = let m = s-past xs r e in (Do s ∷ m.0, ap (λ ys. Do s ∷ ys) m.1, m.2)
s-past (SentenceEnd ∷ xs) r e = (SentenceEnd ∷ r, ap (λ ys. SentenceEnd ∷ ys) e, refl)
s-past (Turn t body ∷ xs) r e = let m = s-past xs r e in (Turn t body ∷ m.0, ap (λ ys. Turn (turning_by 0 t) body ∷ ys) m.1, m.2)

pub s-loop : (cycle : Bool) (xs r : List Item) → uncounted r ≡ uncounted (from_loop cycle xs) → (t : List Item) × (uncounted t ≡ uncounted xs) × (from_loop cycle t ≡ r)
s-loop cycle [] r e = ([], refl, sym (s-nil r e))
s-loop cycle (Do s ∷ xs) r e = let m = s-loop cycle xs r e in (Do s ∷ m.0, ap (λ ys. Do s ∷ ys) m.1, m.2)
s-loop cycle (SentenceEnd ∷ xs) r e = let m = s-loop cycle xs r e in (SentenceEnd ∷ m.0, ap (λ ys. SentenceEnd ∷ ys) m.1, m.2)
s-loop true (Turn t body ∷ xs) r e =
    let h = s-turn t body xs r e in
    (r, e, subst (λ z. from_loop true z ≡ z) (sym h.2) refl)
s-loop false (Turn t body ∷ xs) r e = (Turn t body ∷ r, ap (λ ys. Turn (turning_by 0 t) body ∷ ys) e, refl)

-- a remainder that isn't counted is itself alone
abbrev pub IsPlain : Turning → Type 0
IsPlain t = (u : Turning) → turning_by 0 u ≡ turning_by 0 t → u ≡ t

pub tests-plain : (test : Test) → IsPlain (Tests test)
tests-plain test (Counted n) e = absurd (let k : ⊥ = cc in k)
tests-plain test (Tests other) e = e
tests-plain test (Steps r s other) e = e
tests-plain test (StepsAfter s other) e = e

pub steps-plain : (reached : Bool) (step : Act) (test : Test) → IsPlain (Steps reached step test)
steps-plain reached step test (Counted n) e = absurd (let k : ⊥ = cc in k)
steps-plain reached step test (Tests other) e = e
steps-plain reached step test (Steps r s other) e = e
steps-plain reached step test (StepsAfter s other) e = e

pub after-plain : (step : Act) (test : Test) → IsPlain (StepsAfter step test)
after-plain step test (Counted n) e = absurd (let k : ⊥ = cc in k)
after-plain step test (Tests other) e = e
after-plain step test (Steps r s other) e = e
after-plain step test (StepsAfter s other) e = e

pub counted : (u : Turning) → turning_by 0 u ≡ Counted 0 → (n : ℕ) × (u ≡ Counted n)
counted (Counted n) e = (n, refl)
counted (Tests other) e = absurd (let k : ⊥ = cc in k)
counted (Steps r s other) e = absurd (let k : ⊥ = cc in k)
counted (StepsAfter s other) e = absurd (let k : ⊥ = cc in k)
