-- What an item does in the theory by some ways it does here, and what it does here it does there.
use Rattle.std.proofs.Common.{subst, Bool, false, ◌≡◌, ◌≢◌, ℕ, zero, suc, ◌<◌, true, if◌then◌else◌, List, [], ◌∷◌, Option, Some, None, refl, ap, sym, ◌∙◌, arith}
use Rattle.std.specs.Prelude.{slice_get, length}
use Rattle.control_flow_theory.specs.semantics.Doing.{arm_of}
use Rattle.control_flow_theory.specs.language.Language.{Chooser, Picker, If, By, ByCell, Control, Times, Until, Varying, Choose, Loop, Perform, Go, GoDepending, NextSentence, ExitParagraph, ExitSection, ExitPerform, StopRun, Arms, done, given, missing, Body, Program}
use Rattle.control_flow_theory.specs.language.Language as language
use Rattle.control_flow_theory.specs.language.Items.{Turning, Counted, Tests, Steps, StepsAfter, Item, Do, SentenceEnd, Turn, before_body, before_arm, past_sentence, from_loop}
use Rattle.control_flow_theory.specs.semantics.Items.{Way, On, Halts, Into, To, ToEnd, way_after, on, turns, steps_on, to_one, item_way}
use Rattle.control_flow_theory.specs.lowering.FlowFacts.{FlowFacts, MayGive, OwnPicker, arm_count}
use Rattle.control_flow_theory.specs.lowering.flow.Paths.{next_way, later_ways, is_first, is_below, first_arm, not_dead, arm_for, free}
use Rattle.control_flow_theory.proofs.lowering_lemmas.rests.Wholes.{OwnItem}
use Rattle.program_points.specs.paths.Step.{Point, at, start, Next, Ways, Calls, Stops, turning_by, by_way, way_of, led, some_given, way_count, first_is_barred, ways_of, next_in, way_at}
use Rattle.program_points.specs.machine_paths.Uncounted.{uncounted, point_at}
use Rattle.program_points.specs.machine_paths.Laws.{SomeArmIsGiven}
use Rattle.program_points.proofs.machine_paths_lemmas.Uncounting.{u-body, u-arm, u-past, u-loop}
use Rattle.program_points.proofs.machine_paths_lemmas.Ways.{led-way}

below : (k n : ℕ) → is_below k n ≡ true → k < n
below k zero e = absurd (let h : ⊥ = cc in h)
below zero (suc n) e = omega arith
below (suc k) (suc n) e = let l = below k n e in omega (arith, l)

second : (width some : ℕ) → some < width → some ≢ 0 → 1 < width
second width zero a b = absurd (b refl)
second width (suc n) a b = omega (arith, a)

-- the arm that a way names may be given
arm-given : (width : ℕ) (never : Bool) (some way : ℕ) → MayGive width never some → MayGive width never (arm_for width never way)
arm-given width never some way may =
    elim (is_below way width) as (λ b. is_below way width ≡ b → MayGive width never (if b then not_dead never way else first_arm never)) [
      | true ↦ λ e. (elim never as (λ n. MayGive width n some → MayGive width n (not_dead n way)) [
        | true ↦ λ m. (elim way as (λ w. w < width → MayGive width true (not_dead true w)) [
          | zero ↦ λ l. (let a = m.0 in let b = m.1 refl in second width some a b, λ f g. absurd (omega (arith, g)))
          | suc w ↦ λ l. (l, λ f g. absurd (omega (arith, g)))
        ]) (below way width e)
        | false ↦ λ m. (below way width e, λ f. absurd (let h : ⊥ = cc in h))
      ]) may
      | false ↦ λ e. (elim never as (λ n. MayGive width n some → MayGive width n (first_arm n)) [
        | true ↦ λ m. (let a = m.0 in let b = m.1 refl in second width some a b, λ f g. absurd (omega (arith, g)))
        | false ↦ λ m. (let a = m.0 in omega (arith, a), λ f. absurd (let h : ⊥ = cc in h))
      ]) may
    ] refl

pub if-both : (b c : Bool) → (if b then c else false) ≡ true → c ≡ true
if-both true c e = e
if-both false c e = absurd (let h : ⊥ = cc in h)

-- where no arm is given, each way leads behind it, and none is barred
pub none-given : (arms : Arms) (k : ℕ) (xs : List Item) → some_given arms ≡ false → before_arm arms k xs ≡ xs
none-given done k xs e = refl
none-given (given arm others) k xs e = absurd (let h : ⊥ = cc in h)
none-given (missing others) zero xs e = refl
none-given (missing others) (suc k) xs e = none-given others k xs e

pub unbarred : (told : FlowFacts) (picker : Picker) (arms : Arms) → some_given arms ≡ false → first_is_barred told.never_first (Do (Choose picker arms)) ≡ true → ⊥
unbarred told (If test) arms e f = (let h : ⊥ = cc in h)
unbarred told (By chooser) arms e f = (let g : false ≡ true = ap (λ b. if b then told.never_first chooser else false) (sym e) ∙ f in let h : ⊥ = cc in h)
unbarred told (ByCell cell) arms e f = (let h : ⊥ = cc in h)

two : (b : Bool) → arm_of b < 2
two true = omega arith
two false = omega arith

module _ (told : FlowFacts) (program : Program) (number : ℕ) where
  abbrev Here : List Item → Next
  Here rest = next_in told.never_first program number rest

  abbrev WaysOf : Item → List Item → List (Option Point)
  WaysOf x xs = ways_of told.never_first program number x xs

  abbrev Led : ℕ → Item → List Item → Option Point
  Led k x xs = led program number (way_of k x xs)

  -- here the step goes to this point by some way
  abbrev Goes : Next → Point → Type 0
  Goes now to = (ways : List (Option Point)) × (k : ℕ) × (now ≡ Ways ways) × (way_at ways k ≡ Some to)

  abbrev pub Tells : Way (List ℕ) → Next → Type 0
  Tells (On t m items) now = Goes now (point_at number items)
  Tells (Halts t how m) now = now ≡ Stops
  Tells (Into entry exit items) now = now ≡ Calls entry exit (point_at number items)
  Tells (To t m to) now = Goes now (start program to)
  Tells (ToEnd t m to) now = Goes now (at to [])

  goes-by : (x : Item) (xs : List Item) (k : ℕ) (to : Point) → Here (x ∷ xs) ≡ Ways (WaysOf x xs) → k < way_count x → (first_is_barred told.never_first x ≡ true → k ≢ 0) → Led k x xs ≡ Some to → Goes (Here (x ∷ xs)) to
  goes-by x xs k to e lt bar l = (WaysOf x xs, k, e, led-way told.never_first program number x xs k lt bar ∙ l)

  same-rest : (a b : List Item) → a ≡ b → Some (at number a) ≡ Some (at number b)
  same-rest a b e = ap (λ r. Some (at number r)) e

  abbrev U : List Item → List Item
  U xs = uncounted xs

  -- one more turn, or none
  round-tells : (ended : Bool) (x : Item) (turning : Turning) (body : Body) (xs : List Item) (m : List ℕ) → Here (x ∷ U xs) ≡ Ways (WaysOf x (U xs)) → 1 < way_count x → first_is_barred told.never_first x ≡ false →
      Led 0 x (U xs) ≡ Some (at number (U xs)) → Led 1 x (U xs) ≡ Some (at number (before_body body (Turn (turning_by 0 turning) body ∷ U xs))) → Tells (way_after [] (on (free told) (turns (free told) ended turning body xs) m)) (Here (x ∷ U xs))
  round-tells true x turning body xs m e lt unbarred l0 l1 = goes-by x (U xs) 0 (point_at number xs) e (omega (arith, lt)) (λ f. absurd (let h : true ≡ false = sym f ∙ unbarred in let k : ⊥ = cc in k)) l0
  round-tells false x turning body xs m e lt unbarred l0 l1 =
      goes-by x (U xs) 1 (point_at number (before_body body (Turn turning body ∷ xs))) e lt (λ f g. absurd (omega (arith, g))) (l1 ∙ same-rest (before_body body (Turn (turning_by 0 turning) body ∷ U xs)) (U (before_body body (Turn turning body ∷ xs))) (sym (u-body body (Turn turning body ∷ xs))))

  module _ (paragraphs : ℕ) (some : SomeArmIsGiven told) where
    open-first : (x : Item) → first_is_barred told.never_first x ≡ false → first_is_barred told.never_first x ≡ true → ◌≢◌ {A = ℕ} 0 0
    open-first x e f = absurd (let h : true ≡ false = sym f ∙ e in let k : ⊥ = cc in k)

    choose-tells : (picker : Picker) (arms : Arms) (xs : List Item) (k : ℕ) → k < arm_count arms → (first_is_barred told.never_first (Do (Choose picker arms)) ≡ true → k ≢ 0) → Goes (Here (Do (Choose picker arms) ∷ U xs)) (point_at number (before_arm arms k xs))
    choose-tells picker arms xs k lt bar =
        let x : Item = Do (Choose picker arms) in
        elim (some_given arms) as (λ b. some_given arms ≡ b → Goes (Here (x ∷ U xs)) (point_at number (before_arm arms k xs))) [
          | true ↦ λ e. goes-by x (U xs) k (point_at number (before_arm arms k xs)) refl (subst (λ b. k < (if b then arm_count arms else 1)) (sym e) lt) bar
              (same-rest (before_arm arms k (U xs)) (U (before_arm arms k xs)) (sym (u-arm arms k xs)))
          | false ↦ λ e. goes-by x (U xs) 0 (point_at number (before_arm arms k xs)) refl (subst (λ b. 0 < (if b then arm_count arms else 1)) (sym e) (omega arith)) (λ f. absurd (unbarred told picker arms e f))
              (same-rest (before_arm arms 0 (U xs)) (U (before_arm arms k xs)) (none-given arms 0 (U xs) e ∙ ap uncounted (sym (none-given arms k xs e))))
        ] refl

    pick-tells : (picker : Picker) (arms : Arms) (xs : List Item) (m : List ℕ) → OwnPicker told picker (arm_count arms) → Tells (item_way (free told) (Do (Choose picker arms)) xs m) (Here (Do (Choose picker arms) ∷ U xs))
    pick-tells (If test) arms xs m own =
        let lt = two (is_first (next_way m)) in
        let two_arms = own.1 in
        choose-tells (If test) arms xs (arm_of (is_first (next_way m))) (omega (arith, lt, two_arms)) (λ f. absurd (let h : ⊥ = cc in h))
    pick-tells (By chooser) arms xs m own =
        let k = arm_for (told.width chooser) (told.never_first chooser) (next_way m) in
        let given = arm-given (told.width chooser) (told.never_first chooser) (some chooser).0 (next_way m) (some chooser).1 in
        let lt = given.0 in
        choose-tells (By chooser) arms xs k (omega (arith, lt, own)) (λ f. given.1 (if-both (some_given arms) (told.never_first chooser) f))
    pick-tells (ByCell cell) arms xs m own = absurd own

    loop-tells : (control : Control) (body : Body) (xs : List Item) (m : List ℕ) → Tells (item_way (free told) (Do (Loop control body)) xs m) (Here (Do (Loop control body) ∷ U xs))
    loop-tells (Times amount) body xs m = goes-by (Do (Loop (Times amount) body)) (U xs) 0 (point_at number (Turn (Counted (next_way m)) body ∷ xs)) refl (omega arith) (open-first (Do (Loop (Times amount) body)) refl) refl
    loop-tells (Until false test) body xs m = goes-by (Do (Loop (Until false test) body)) (U xs) 0 (point_at number (Turn (Tests test) body ∷ xs)) refl (omega arith) (open-first (Do (Loop (Until false test) body)) refl) refl
    loop-tells (Until true test) body xs m = goes-by (Do (Loop (Until true test) body)) (U xs) 0 (point_at number (before_body body (Turn (Tests test) body ∷ xs))) refl (omega arith) (open-first (Do (Loop (Until true test) body)) refl)
        (same-rest (before_body body (Turn (Tests test) body ∷ U xs)) (U (before_body body (Turn (Tests test) body ∷ xs))) (sym (u-body body (Turn (Tests test) body ∷ xs))))
    loop-tells (Varying false set step test) body xs m = goes-by (Do (Loop (Varying false set step test) body)) (U xs) 0 (point_at number (Turn (Steps false step test) body ∷ xs)) refl (omega arith) (open-first (Do (Loop (Varying false set step test) body)) refl) refl
    loop-tells (Varying true set step test) body xs m = goes-by (Do (Loop (Varying true set step test) body)) (U xs) 0 (point_at number (before_body body (Turn (StepsAfter step test) body ∷ xs))) refl (omega arith) (open-first (Do (Loop (Varying true set step test) body)) refl)
        (same-rest (before_body body (Turn (StepsAfter step test) body ∷ U xs)) (U (before_body body (Turn (StepsAfter step test) body ∷ xs))) (sym (u-body body (Turn (StepsAfter step test) body ∷ xs))))

    turn-tells : (turning : Turning) (body : Body) (xs : List Item) (m : List ℕ) → Tells (item_way (free told) (Turn turning body) xs m) (Here (Turn (turning_by 0 turning) body ∷ U xs))
    turn-tells (Counted zero) body xs m = goes-by (Turn (Counted 0) body) (U xs) 0 (point_at number xs) refl (omega arith) (open-first (Turn (Counted 0) body) refl) refl
    turn-tells (Counted (suc n)) body xs m = goes-by (Turn (Counted 0) body) (U xs) 1 (point_at number (before_body body (Turn (Counted n) body ∷ xs))) refl (omega arith) (λ f g. absurd (omega (arith, g)))
        (same-rest (before_body body (Turn (Counted 0) body ∷ U xs)) (U (before_body body (Turn (Counted n) body ∷ xs))) (sym (u-body body (Turn (Counted n) body ∷ xs))))
    turn-tells (Tests test) body xs m = round-tells (is_first (next_way m)) (Turn (Tests test) body) (Tests test) body xs (later_ways m) refl (omega arith) refl refl refl
    turn-tells (Steps false step test) body xs m = round-tells (is_first (next_way m)) (Turn (Steps false step test) body) (Steps true step test) body xs (later_ways m) refl (omega arith) refl refl refl
    turn-tells (Steps true step test) body xs m = round-tells (is_first (next_way m)) (Turn (Steps true step test) body) (Steps true step test) body xs (later_ways m) refl (omega arith) refl refl refl
    turn-tells (StepsAfter step test) body xs m =
        let x : Item = Turn (StepsAfter step test) body in
        elim (is_first (next_way m)) as (λ b. Tells (way_after [] (steps_on (free told) b step test body xs (later_ways m))) (Here (x ∷ U xs))) [
          | true ↦ goes-by x (U xs) 0 (point_at number xs) refl (omega arith) (open-first x refl) refl
          | false ↦ goes-by x (U xs) 1 (point_at number (before_body body (Turn (StepsAfter step test) body ∷ xs))) refl (omega arith) (λ f g. absurd (omega (arith, g)))
              (same-rest (before_body body (Turn (StepsAfter step test) body ∷ U xs)) (U (before_body body (Turn (StepsAfter step test) body ∷ xs))) (sym (u-body body (Turn (StepsAfter step test) body ∷ xs))))
        ]

    next-is-ways : (to : List ℕ) (on_it : Chooser) (xs : List Item) → Here (Do (GoDepending to on_it) ∷ xs) ≡ Ways (WaysOf (Do (GoDepending to on_it)) xs)
    next-is-ways [] on_it xs = refl
    next-is-ways (n ∷ ns) on_it xs = refl

    depending-tells : (to : List ℕ) (chooser : Chooser) (xs : List Item) (m : List ℕ) (k : ℕ) → k < suc (length to) → (o : Option ℕ) → slice_get to k ≡ o →
        Tells (way_after [] (to_one (free told) o xs m)) (Here (Do (GoDepending to chooser) ∷ U xs))
    depending-tells to chooser xs m k lt None e =
        goes-by (Do (GoDepending to chooser)) (U xs) k (point_at number xs) (next-is-ways to chooser (U xs)) lt (λ f. absurd (let h : ⊥ = cc in h)) (ap (λ o. led program number (way_after [] (to_one (by_way k) o (U xs) tt))) e)
    depending-tells to chooser xs m k lt (Some n) e =
        goes-by (Do (GoDepending to chooser)) (U xs) k (start program n) (next-is-ways to chooser (U xs)) lt (λ f. absurd (let h : ⊥ = cc in h)) (ap (λ o. led program number (way_after [] (to_one (by_way k) o (U xs) tt))) e)

    -- by some ways the item does in the theory what it does here by one
    pub tells : (x : Item) (xs : List Item) (m : List ℕ) → OwnItem told paragraphs x → Tells (item_way (free told) x xs m) (Here (U (x ∷ xs)))
    tells (Do (language.Do act)) xs m own = goes-by (Do (language.Do act)) (U xs) 0 (point_at number xs) refl (omega arith) (open-first (Do (language.Do act)) refl) refl
    tells (Do (Choose picker arms)) xs m own = pick-tells picker arms xs m own.0
    tells (Do (Loop control body)) xs m own = loop-tells control body xs m
    tells (Do (Perform a b)) xs m own = refl
    tells (Do (Go to)) xs m own = goes-by (Do (Go to)) (U xs) 0 (start program to) refl (omega arith) (open-first (Do (Go to)) refl) refl
    tells (Do (GoDepending to chooser)) xs m own =
        let k = arm_for (told.width chooser) (told.never_first chooser) (next_way m) in
        let lt = (arm-given (told.width chooser) (told.never_first chooser) (some chooser).0 (next_way m) (some chooser).1).0 in
        let wide = own.0 in
        depending-tells to chooser xs (later_ways m) k (omega (arith, lt, wide)) (slice_get to k) refl
    tells (Do NextSentence) xs m own = goes-by (Do NextSentence) (U xs) 0 (point_at number (past_sentence xs)) refl (omega arith) (open-first (Do NextSentence) refl) (same-rest (past_sentence (U xs)) (U (past_sentence xs)) (sym (u-past xs)))
    tells (Do ExitParagraph) xs m own = goes-by (Do ExitParagraph) (U xs) 0 (at number []) refl (omega arith) (open-first (Do ExitParagraph) refl) refl
    tells (Do (ExitSection last)) xs m own = goes-by (Do (ExitSection last)) (U xs) 0 (at last []) refl (omega arith) (open-first (Do (ExitSection last)) refl) refl
    tells (Do (ExitPerform cycle)) xs m own = goes-by (Do (ExitPerform cycle)) (U xs) 0 (point_at number (from_loop cycle xs)) refl (omega arith) (open-first (Do (ExitPerform cycle)) refl) (same-rest (from_loop cycle (U xs)) (U (from_loop cycle xs)) (sym (u-loop cycle xs)))
    tells (Do StopRun) xs m own = refl
    tells SentenceEnd xs m own = goes-by SentenceEnd (U xs) 0 (point_at number xs) refl (omega arith) (open-first SentenceEnd refl) refl
    tells (Turn turning body) xs m own = turn-tells turning body xs m
