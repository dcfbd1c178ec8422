-- What an item does here by one way it does in the theory by some ways, from some turns left to any.
use Rattle.std.proofs.Common.{subst, Bool, false, if◌then◌else◌, ◌≡◌, ◌≢◌, ℕ, zero, suc, ◌<◌, true, List, [], ◌∷◌, ◌++◌, Option, Some, None, refl, ap, sym, ◌∙◌, arith}
use Rattle.std.specs.Prelude.{slice_get}
use Rattle.control_flow_theory.specs.semantics.Outcome.{Got}
use Rattle.control_flow_theory.specs.language.Language.{Chooser, Picker, If, By, ByCell, Control, Times, Until, Varying, Choose, Loop, Perform, Go, GoDepending, NextSentence, ExitParagraph, ExitSection, ExitPerform, StopRun, Arms, Body, Program}
use Rattle.control_flow_theory.specs.language.Language as language
use Rattle.control_flow_theory.specs.language.Items.{Turning, Counted, Tests, Steps, StepsAfter, Item, Do, SentenceEnd, Turn, before_body, before_arm, past_sentence, from_loop}
use Rattle.control_flow_theory.specs.semantics.Items.{On, To, ToEnd, way_after, tried, on, to_one, item_way}
use Rattle.control_flow_theory.specs.semantics.Source.{rest_of}
use Rattle.control_flow_theory.specs.language.Language.{paragraph_at}
use Rattle.control_flow_theory.specs.lowering.FlowFacts.{FlowFacts, MayGive, OwnPicker, arm_count}
use Rattle.control_flow_theory.specs.lowering.flow.Paths.{free_pick, free}
use Rattle.control_flow_theory.proofs.lowering_lemmas.rests.Wholes.{OwnItem}
use Rattle.control_flow_theory.proofs.lowering_lemmas.flow.Freely.{arm-told}
use Rattle.program_points.specs.paths.Step.{Point, at, start, item_by, by_way, way_of, led, some_given, way_count, first_is_barred, ways_of, way_at}
use Rattle.program_points.specs.machine_paths.Uncounted.{uncounted}
use Rattle.program_points.proofs.machine_paths_lemmas.Uncounting.{s-body, s-arm, s-turn, s-nil, s-items, s-past, s-loop, IsPlain, tests-plain, steps-plain, after-plain, counted}
use Rattle.program_points.proofs.machine_paths_lemmas.Ways.{way-led}
use Rattle.program_points.proofs.machine_paths_lemmas.Telling.{none-given}
use Rattle.program_points.specs.machine_paths.Laws.{SomeArmIsGiven}
use Rattle.control_flow_theory.specs.lowering.Completes.{first_is_dead}

module _ (told : FlowFacts) (program : Program) (number : ℕ) where
  abbrev U : List Item → List Item
  U xs = uncounted xs

  -- from what is as much as this item and this rest, the theory comes to the paragraph and the rest
  pub data Backs (x : Item) (xs : List Item) : ℕ → List Item → Type 0 where
    back_on : (item : Item) (others : List Item) (ways : List ℕ) (r : List Item) → U (item ∷ others) ≡ U (x ∷ xs) →
        ((more : List ℕ) → item_way (free told) item others (ways ++ more) ≡ On [] more r) → Backs x xs number r
    back_to : (ways : List ℕ) (to : ℕ) → ((more : List ℕ) → item_way (free told) x xs (ways ++ more) ≡ To [] more to) → Backs x xs to (rest_of program to)
    back_end : (ways : List ℕ) (to : ℕ) → ((more : List ℕ) → item_way (free told) x xs (ways ++ more) ≡ ToEnd [] more to) → Backs x xs to []

  arrive : (x : Item) (xs : List Item) (p to : Point) (r : List Item) → Some p ≡ Some to → U r ≡ U to.rest → (U r ≡ U p.rest → Backs x xs p.paragraph r) → Backs x xs to.paragraph r
  arrive x xs p to r e h found =
      let same : p ≡ to = cc in
      subst (λ q. Backs x xs q.paragraph r) same (found (h ∙ ap (λ (q : Point). U q.rest) (sym same)))

  -- the same item, by these ways
  by-same : (x : Item) (xs others : List Item) (ways : List ℕ) (r : List Item) → U others ≡ U xs → ((more : List ℕ) → item_way (free told) x others (ways ++ more) ≡ On [] more r) → Backs x xs number r
  by-same x xs others ways r e step = back_on x others ways r (ap (λ ys. item_by 0 x ∷ ys) e) step

  -- behind one more body stands a remainder
  turned : (x item : Item) (xs : List Item) (ways : List ℕ) (turning : Turning) (body : Body) (r : List Item) → item_by 0 item ≡ item_by 0 x → IsPlain turning → U r ≡ U (before_body body (Turn turning body ∷ xs)) →
      ((ys : List Item) (more : List ℕ) → item_way (free told) item ys (ways ++ more) ≡ On [] more (before_body body (Turn turning body ∷ ys))) → Backs x xs number r
  turned x item xs ways turning body r same plain e step =
      let b = s-body body (Turn turning body ∷ xs) r e in
      let t = s-turn turning body xs b.0 b.2 in
      let u = plain t.0 t.3 in
      subst (λ z. Backs x xs number z) (sym (b.1 ∙ ap (before_body body) (t.2 ∙ ap (λ v. Turn v body ∷ t.1) u)))
      (back_on item t.1 ways (before_body body (Turn turning body ∷ t.1)) (ap (λ y. y ∷ U t.1) same ∙ ap (λ ys. item_by 0 x ∷ ys) t.4) (step t.1))

  -- a remainder stands first
  remains : (x : Item) (xs : List Item) (ways : List ℕ) (turning : Turning) (body : Body) (r : List Item) → IsPlain turning → U r ≡ U (Turn turning body ∷ xs) →
      ((ys : List Item) (more : List ℕ) → item_way (free told) x ys (ways ++ more) ≡ On [] more (Turn turning body ∷ ys)) → Backs x xs number r
  remains x xs ways turning body r plain e step =
      let t = s-turn turning body xs r e in
      let u = plain t.0 t.3 in
      subst (λ z. Backs x xs number z) (sym (t.2 ∙ ap (λ v. Turn v body ∷ t.1) u)) (by-same x xs t.1 ways (Turn turning body ∷ t.1) t.4 (step t.1))

  module _ (paragraphs : ℕ) (some : SomeArmIsGiven told) where
    pick-named : (picker : Picker) (arms : Arms) (k : ℕ) (more : List ℕ) → OwnPicker told picker (arm_count arms) → k < arm_count arms → (first_is_dead told picker ≡ true → k ≢ 0) → free_pick told picker (k ∷ more) ≡ Got [] k more
    pick-named (If test) arms zero more own lt bar = refl
    pick-named (If test) arms (suc zero) more own lt bar = refl
    pick-named (If test) arms (suc (suc k)) more own lt bar = absurd (let e = own.1 in omega (arith, lt, e))
    pick-named (By chooser) arms k more own lt bar =
        ap (λ n. Got [] n more) (arm-told (told.width chooser) (told.never_first chooser) k (omega (arith, lt, own), bar))
    pick-named (ByCell cell) arms k more own lt bar = absurd own

    arm-back : (picker : Picker) (arms : Arms) (xs : List Item) (k : ℕ) → ((more : List ℕ) → free_pick told picker (k ∷ more) ≡ Got [] k more) → (r : List Item) → U r ≡ U (before_arm arms k xs) → Backs (Do (Choose picker arms)) xs number r
    arm-back picker arms xs k step r g =
        let x : Item = Do (Choose picker arms) in
        let b = s-arm arms k xs r g in
        subst (λ z. Backs x xs number z) (sym b.1)
        (by-same x xs b.0 (k ∷ []) (before_arm arms k b.0) b.2 (λ more. ap (λ a. tried a (λ n. on (free told) (before_arm arms n b.0))) (step more)))

    -- some arm may be given
    arm-there : (picker : Picker) (arms : Arms) → OwnPicker told picker (arm_count arms) → (k : ℕ) × ((more : List ℕ) → free_pick told picker (k ∷ more) ≡ Got [] k more)
    arm-there (If test) arms own = (0, λ more. refl)
    arm-there (By chooser) arms own = ((some chooser).0, λ more. ap (λ n. Got [] n more) (arm-told (told.width chooser) (told.never_first chooser) (some chooser).0 (some chooser).1))
    arm-there (ByCell cell) arms own = absurd own

    barred-by : (picker : Picker) (arms : Arms) (k : ℕ) → some_given arms ≡ true → (first_is_barred told.never_first (Do (Choose picker arms)) ≡ true → k ≢ 0) → (first_is_dead told picker ≡ true → k ≢ 0)
    barred-by (If test) arms k e bar = λ f. absurd (let h : ⊥ = cc in h)
    barred-by (By chooser) arms k e bar = λ f. bar (ap (λ b. if b then told.never_first chooser else false) e ∙ f)
    barred-by (ByCell cell) arms k e bar = λ f. absurd (let h : ⊥ = cc in h)

    choose-back : (picker : Picker) (arms : Arms) (xs : List Item) → OwnPicker told picker (arm_count arms) → (k : ℕ) → k < way_count (Do (Choose picker arms)) → (first_is_barred told.never_first (Do (Choose picker arms)) ≡ true → k ≢ 0) →
        (to : Point) → led program number (way_of k (Do (Choose picker arms)) xs) ≡ Some to → (r : List Item) → U r ≡ U to.rest → (b : Bool) → some_given arms ≡ b → Backs (Do (Choose picker arms)) xs to.paragraph r
    choose-back picker arms xs own k lt bar to e r h true is =
        let x : Item = Do (Choose picker arms) in
        let within : k < arm_count arms = subst (λ b. k < (if b then arm_count arms else 1)) is lt in
        arrive x xs (at number (before_arm arms k xs)) to r e h (λ g. arm-back picker arms xs k (λ more. pick-named picker arms k more own within (barred-by picker arms k is bar)) r g)
    choose-back picker arms xs own k lt bar to e r h false is =
        let x : Item = Do (Choose picker arms) in
        let there = arm-there picker arms own in
        arrive x xs (at number (before_arm arms k xs)) to r e h (λ g. arm-back picker arms xs there.0 there.1 r (g ∙ ap uncounted (none-given arms k xs is ∙ sym (none-given arms there.0 xs is))))

    loop-back : (control : Control) (body : Body) (xs : List Item) (k : ℕ) (to : Point) → led program number (way_of k (Do (Loop control body)) xs) ≡ Some to → (r : List Item) → U r ≡ U to.rest → Backs (Do (Loop control body)) xs to.paragraph r
    loop-back (Times amount) body xs k to e r h =
        let x : Item = Do (Loop (Times amount) body) in
        arrive x xs (at number (Turn (Counted 0) body ∷ xs)) to r e h (λ g.
        let t = s-turn (Counted 0) body xs r g in
        let n = counted t.0 t.3 in
        subst (λ z. Backs x xs number z) (sym (t.2 ∙ ap (λ v. Turn v body ∷ t.1) n.1)) (by-same x xs t.1 (n.0 ∷ []) (Turn (Counted n.0) body ∷ t.1) t.4 (λ more. refl)))
    loop-back (Until false test) body xs k to e r h =
        let x : Item = Do (Loop (Until false test) body) in
        arrive x xs (at number (Turn (Tests test) body ∷ xs)) to r e h (λ g. remains x xs [] (Tests test) body r (tests-plain test) g (λ ys more. refl))
    loop-back (Until true test) body xs k to e r h =
        let x : Item = Do (Loop (Until true test) body) in
        arrive x xs (at number (before_body body (Turn (Tests test) body ∷ xs))) to r e h (λ g. turned x x xs [] (Tests test) body r refl (tests-plain test) g (λ ys more. refl))
    loop-back (Varying false set step test) body xs k to e r h =
        let x : Item = Do (Loop (Varying false set step test) body) in
        arrive x xs (at number (Turn (Steps false step test) body ∷ xs)) to r e h (λ g. remains x xs [] (Steps false step test) body r (steps-plain false step test) g (λ ys more. refl))
    loop-back (Varying true set step test) body xs k to e r h =
        let x : Item = Do (Loop (Varying true set step test) body) in
        arrive x xs (at number (before_body body (Turn (StepsAfter step test) body ∷ xs))) to r e h (λ g. turned x x xs [] (StepsAfter step test) body r refl (after-plain step test) g (λ ys more. refl))

    turn-back : (turning : Turning) (body : Body) (xs : List Item) (k : ℕ) → k < 2 → (to : Point) → led program number (way_of k (Turn turning body) xs) ≡ Some to → (r : List Item) → U r ≡ U to.rest → Backs (Turn turning body) xs to.paragraph r
    turn-back turning body xs (suc (suc k)) lt to e r h = absurd (omega (arith, lt))
    turn-back (Counted c) body xs zero lt to e r h =
        let x : Item = Turn (Counted c) body in
        arrive x xs (at number xs) to r e h (λ g. back_on (Turn (Counted 0) body) r [] r (ap (λ ys. Turn (Counted 0) body ∷ ys) g) (λ more. refl))
    turn-back (Counted c) body xs (suc zero) lt to e r h =
        let x : Item = Turn (Counted c) body in
        arrive x xs (at number (before_body body (Turn (Counted 0) body ∷ xs))) to r e h (λ g.
        let b = s-body body (Turn (Counted 0) body ∷ xs) r g in
        let t = s-turn (Counted 0) body xs b.0 b.2 in
        let n = counted t.0 t.3 in
        subst (λ z. Backs x xs number z) (sym (b.1 ∙ ap (before_body body) (t.2 ∙ ap (λ v. Turn v body ∷ t.1) n.1)))
        (back_on (Turn (Counted (suc n.0)) body) t.1 [] (before_body body (Turn (Counted n.0) body ∷ t.1)) (ap (λ ys. Turn (Counted 0) body ∷ ys) t.4) (λ more. refl)))
    turn-back (Tests test) body xs zero lt to e r h =
        let x : Item = Turn (Tests test) body in
        arrive x xs (at number xs) to r e h (λ g. by-same x xs r (0 ∷ []) r g (λ more. refl))
    turn-back (Tests test) body xs (suc zero) lt to e r h =
        let x : Item = Turn (Tests test) body in
        arrive x xs (at number (before_body body (Turn (Tests test) body ∷ xs))) to r e h (λ g. turned x x xs (1 ∷ []) (Tests test) body r refl (tests-plain test) g (λ ys more. refl))
    turn-back (Steps false step test) body xs zero lt to e r h =
        let x : Item = Turn (Steps false step test) body in
        arrive x xs (at number xs) to r e h (λ g. by-same x xs r (0 ∷ []) r g (λ more. refl))
    turn-back (Steps false step test) body xs (suc zero) lt to e r h =
        let x : Item = Turn (Steps false step test) body in
        arrive x xs (at number (before_body body (Turn (Steps true step test) body ∷ xs))) to r e h (λ g. turned x x xs (1 ∷ []) (Steps true step test) body r refl (steps-plain true step test) g (λ ys more. refl))
    turn-back (Steps true step test) body xs zero lt to e r h =
        let x : Item = Turn (Steps true step test) body in
        arrive x xs (at number xs) to r e h (λ g. by-same x xs r (0 ∷ []) r g (λ more. refl))
    turn-back (Steps true step test) body xs (suc zero) lt to e r h =
        let x : Item = Turn (Steps true step test) body in
        arrive x xs (at number (before_body body (Turn (Steps true step test) body ∷ xs))) to r e h (λ g. turned x x xs (1 ∷ []) (Steps true step test) body r refl (steps-plain true step test) g (λ ys more. refl))
    turn-back (StepsAfter step test) body xs zero lt to e r h =
        let x : Item = Turn (StepsAfter step test) body in
        arrive x xs (at number xs) to r e h (λ g. by-same x xs r (0 ∷ []) r g (λ more. refl))
    turn-back (StepsAfter step test) body xs (suc zero) lt to e r h =
        let x : Item = Turn (StepsAfter step test) body in
        arrive x xs (at number (before_body body (Turn (StepsAfter step test) body ∷ xs))) to r e h (λ g. turned x x xs (1 ∷ []) (StepsAfter step test) body r refl (after-plain step test) g (λ ys more. refl))

    go-back : (x : Item) (xs : List Item) (ways : List ℕ) (n : ℕ) (to : Point) → Some (start program n) ≡ Some to → (r : List Item) → U r ≡ U to.rest → ((more : List ℕ) → item_way (free told) x xs (ways ++ more) ≡ To [] more n) → Backs x xs to.paragraph r
    go-back x xs ways n to e r h step = arrive x xs (start program n) to r e h (λ g. subst (λ z. Backs x xs n z) (sym (s-items (paragraph_at program n) r g)) (back_to ways n step))

    named-back : (names : List ℕ) (chooser : Chooser) (xs : List Item) (k : ℕ) → ((others : List Item) (more : List ℕ) → item_way (free told) (Do (GoDepending names chooser)) others (k ∷ more) ≡ way_after [] (to_one (free told) (slice_get names k) others more)) →
        (to : Point) (r : List Item) → U r ≡ U to.rest → (o : Option ℕ) → slice_get names k ≡ o → led program number (way_after [] (to_one (by_way k) o xs tt)) ≡ Some to → Backs (Do (GoDepending names chooser)) xs to.paragraph r
    named-back names chooser xs k step to r h None is e =
        let x : Item = Do (GoDepending names chooser) in
        arrive x xs (at number xs) to r e h (λ g. by-same x xs r (k ∷ []) r g (λ more. step r more ∙ ap (λ o. way_after [] (to_one (free told) o r more)) is))
    named-back names chooser xs k step to r h (Some n) is e =
        let x : Item = Do (GoDepending names chooser) in
        go-back x xs (k ∷ []) n to e r h (λ more. step xs more ∙ ap (λ o. way_after [] (to_one (free told) o xs more)) is)

    item-back : (x : Item) (xs : List Item) → OwnItem told paragraphs x → (k : ℕ) → k < way_count x → (first_is_barred told.never_first x ≡ true → k ≢ 0) → (to : Point) → led program number (way_of k x xs) ≡ Some to → (r : List Item) → U r ≡ U to.rest → Backs x xs to.paragraph r
    item-back (Do (language.Do act)) xs own k lt bar to e r h =
        let x : Item = Do (language.Do act) in
        arrive x xs (at number xs) to r e h (λ g. by-same x xs r [] r g (λ more. refl))
    item-back (Do (Choose picker arms)) xs own k lt bar to e r h = choose-back picker arms xs own.0 k lt bar to e r h (some_given arms) refl
    item-back (Do (Loop control body)) xs own k lt bar to e r h = loop-back control body xs k to e r h
    item-back (Do (Perform a b)) xs own k lt bar to e r h = absurd (let z : ⊥ = cc in z)
    item-back (Do (Go n)) xs own k lt bar to e r h = go-back (Do (Go n)) xs [] n to e r h (λ more. refl)
    item-back (Do (GoDepending names chooser)) xs own k lt bar to e r h =
        let wide = own.0 in
        let may : MayGive (told.width chooser) (told.never_first chooser) k = (omega (arith, lt, wide), λ f. absurd (let z : true ≡ false = sym f ∙ own.2 in let y : ⊥ = cc in y)) in
        named-back names chooser xs k
        (λ others more. ap (λ n. tried (Got [] n more) (λ n. to_one (free told) (slice_get names n) others)) (arm-told (told.width chooser) (told.never_first chooser) k may))
        to r h (slice_get names k) refl e
    item-back (Do NextSentence) xs own k lt bar to e r h =
        let x : Item = Do NextSentence in
        arrive x xs (at number (past_sentence xs)) to r e h (λ g. let t = s-past xs r g in by-same x xs t.0 [] r t.1 (λ more. ap (λ z. On [] more z) t.2))
    item-back (Do ExitParagraph) xs own k lt bar to e r h =
        let x : Item = Do ExitParagraph in
        arrive x xs (at number []) to r e h (λ g. subst (λ z. Backs x xs number z) (sym (s-nil r g)) (by-same x xs xs [] [] refl (λ more. refl)))
    item-back (Do (ExitSection last)) xs own k lt bar to e r h =
        let x : Item = Do (ExitSection last) in
        arrive x xs (at last []) to r e h (λ g. subst (λ z. Backs x xs last z) (sym (s-nil r g)) (back_end [] last (λ more. refl)))
    item-back (Do (ExitPerform cycle)) xs own k lt bar to e r h =
        let x : Item = Do (ExitPerform cycle) in
        arrive x xs (at number (from_loop cycle xs)) to r e h (λ g. let t = s-loop cycle xs r g in by-same x xs t.0 [] r t.1 (λ more. ap (λ z. On [] more z) t.2))
    item-back (Do StopRun) xs own k lt bar to e r h = absurd (let z : ⊥ = cc in z)
    item-back SentenceEnd xs own k lt bar to e r h =
        arrive SentenceEnd xs (at number xs) to r e h (λ g. by-same SentenceEnd xs r [] r g (λ more. refl))
    item-back (Turn turning body) xs own k lt bar to e r h = turn-back turning body xs k lt to e r h

    pub back : (x : Item) (xs : List Item) → OwnItem told paragraphs x → (k : ℕ) (to : Point) → way_at (ways_of told.never_first program number x xs) k ≡ Some to → (r : List Item) → U r ≡ U to.rest → Backs x xs to.paragraph r
    back x xs own k to e r h = let l = way-led told.never_first program number x xs k to e in item-back x xs own k l.0 l.1 to l.2 r h
