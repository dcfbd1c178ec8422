-- What an item does to two memories that are alike.
use Rattle.std.proofs.Common.{◌≡◌, ℕ, zero, suc, ◌+◌, ◌-◌, Bool, true, false, not, ◌==◌, List, ◌∷◌, ◌++◌, refl, ap, ◌∙◌, subst}
use Rattle.control_flow_theory.specs.semantics.Outcome.{Trace, Abend, Tried, Got, Ends}
use Rattle.control_flow_theory.specs.language.Language.{Simple, Cond, Chooser, Amount, Act, Own, Set, Take, Lower, Test, Holds, Not, Is, Above, Picker, If, By, ByCell, Control, Times, Until, Varying, Stmt, Choose, Loop, Perform, Go, GoDepending, NextSentence, ExitParagraph, ExitSection, ExitPerform, StopRun, Stmts, Body, Range, Part}
use Rattle.control_flow_theory.specs.language.Language as language
use Rattle.control_flow_theory.specs.semantics.Doing.{Acting, Doing, giving, keeping, arm_of, Celled, own_is, put, taken, is_above, celled_test, celled}
use Rattle.control_flow_theory.specs.language.Items.{Turning, Counted, Tests, Steps, StepsAfter, Item, Do, SentenceEnd, Turn, before_body, before_arm}
use Rattle.control_flow_theory.specs.semantics.Items.{Way, On, Halts, Into, To, ToEnd, way_after, tried, on, first_turn, varying, loop_begins, turns, tests, steps_on, turn_way, stmt_way, item_way}
use Rattle.control_flow_theory.specs.graph_rules.Costs.{tried_cost, round_cost, first_cost, turn_cost, loop_cost, item_cost}
use Rattle.control_flow_theory.specs.graph_rules.Fits.{ActFits, TestFits, PickerFits, ControlFits, TurningFits, StmtFits, ItemFits}

module _ {Memory : Type 0} (M : Celled Memory → Celled Memory → Type 0) where
  -- the same value, and memories that are alike
  abbrev pub TriedAlike : {Value : Type 0} → Tried (Celled Memory) Value → Tried (Celled Memory) Value → Type 0
  TriedAlike (Got shown v m) (Got other w n) = (shown ≡ other) × (v ≡ w) × M m n
  TriedAlike (Got shown v m) (Ends other kind n) = ⊥
  TriedAlike (Ends shown kind m) (Got other w n) = ⊥
  TriedAlike (Ends shown kind m) (Ends other sort n) = (shown ≡ other) × (kind ≡ sort) × M m n

  abbrev pub WayAlike : Way (Celled Memory) → Way (Celled Memory) → Type 0
  WayAlike (On shown m items) (On other n others) = (shown ≡ other) × M m n × (items ≡ others)
  WayAlike (On shown m items) (Halts other how n) = ⊥
  WayAlike (On shown m items) (Into entry exit others) = ⊥
  WayAlike (On shown m items) (To other n paragraph) = ⊥
  WayAlike (On shown m items) (ToEnd other n paragraph) = ⊥
  WayAlike (Halts shown how m) (On other n others) = ⊥
  WayAlike (Halts shown how m) (Halts other kind n) = (shown ≡ other) × (how ≡ kind) × M m n
  WayAlike (Halts shown how m) (Into entry exit others) = ⊥
  WayAlike (Halts shown how m) (To other n paragraph) = ⊥
  WayAlike (Halts shown how m) (ToEnd other n paragraph) = ⊥
  WayAlike (Into entry exit items) (On other n others) = ⊥
  WayAlike (Into entry exit items) (Halts other how n) = ⊥
  WayAlike (Into entry exit items) (Into first last others) = (entry ≡ first) × (exit ≡ last) × (items ≡ others)
  WayAlike (Into entry exit items) (To other n paragraph) = ⊥
  WayAlike (Into entry exit items) (ToEnd other n paragraph) = ⊥
  WayAlike (To shown m paragraph) (On other n others) = ⊥
  WayAlike (ToEnd shown m paragraph) (On other n others) = ⊥
  WayAlike (To shown m paragraph) (Halts other how n) = ⊥
  WayAlike (ToEnd shown m paragraph) (Halts other how n) = ⊥
  WayAlike (To shown m paragraph) (Into entry exit others) = ⊥
  WayAlike (ToEnd shown m paragraph) (Into entry exit others) = ⊥
  WayAlike (To shown m paragraph) (To other n q) = ⊥
  WayAlike (ToEnd shown m paragraph) (ToEnd other n q) = ⊥
  WayAlike (To shown m paragraph) (ToEnd other n q) = ⊥
  WayAlike (ToEnd shown m paragraph) (To other n q) = ⊥

  after-alike : (shown other : Trace) (one two : Way (Celled Memory)) → shown ≡ other → WayAlike one two → WayAlike (way_after shown one) (way_after other two)
  after-alike shown other (On t m items) (On u n others) e h = (ap (λ x. x ++ t) e ∙ ap (λ x. other ++ x) h.0, h.1, h.2)
  after-alike shown other (On t m items) (Halts u how n) e h = absurd h
  after-alike shown other (On t m items) (Into entry exit others) e h = absurd h
  after-alike shown other (On t m items) (To u n paragraph) e h = absurd h
  after-alike shown other (On t m items) (ToEnd u n paragraph) e h = absurd h
  after-alike shown other (Halts t how m) (On u n others) e h = absurd h
  after-alike shown other (Halts t how m) (Halts u kind n) e h = (ap (λ x. x ++ t) e ∙ ap (λ x. other ++ x) h.0, h.1, h.2)
  after-alike shown other (Halts t how m) (Into entry exit others) e h = absurd h
  after-alike shown other (Halts t how m) (To u n paragraph) e h = absurd h
  after-alike shown other (Halts t how m) (ToEnd u n paragraph) e h = absurd h
  after-alike shown other (Into entry exit items) (On u n others) e h = absurd h
  after-alike shown other (Into entry exit items) (Halts u how n) e h = absurd h
  after-alike shown other (Into entry exit items) (Into first last others) e h = h
  after-alike shown other (Into entry exit items) (To u n paragraph) e h = absurd h
  after-alike shown other (Into entry exit items) (ToEnd u n paragraph) e h = absurd h
  after-alike shown other (To t m paragraph) (On u n others) e h = absurd h
  after-alike shown other (ToEnd t m paragraph) (On u n others) e h = absurd h
  after-alike shown other (To t m paragraph) (Halts u how n) e h = absurd h
  after-alike shown other (ToEnd t m paragraph) (Halts u how n) e h = absurd h
  after-alike shown other (To t m paragraph) (Into entry exit others) e h = absurd h
  after-alike shown other (ToEnd t m paragraph) (Into entry exit others) e h = absurd h
  after-alike shown other (To t m paragraph) (To u n q) e h = absurd h
  after-alike shown other (ToEnd t m paragraph) (ToEnd u n q) e h = absurd h
  after-alike shown other (To t m paragraph) (ToEnd u n q) e h = absurd h
  after-alike shown other (ToEnd t m paragraph) (To u n q) e h = absurd h

  tried-alike : {Value : Type 0} (one two : Tried (Celled Memory) Value) (goes : Value → Celled Memory → Way (Celled Memory)) (comes : Value → Celled Memory → Way (Celled Memory)) → TriedAlike one two → ((v : Value) (m n : Celled Memory) → M m n → WayAlike (goes v m) (comes v n)) → WayAlike (tried one goes) (tried two comes)
  tried-alike (Got shown v m) (Got other w n) goes comes h k = after-alike shown other (goes v m) (comes w n) h.0 (subst (λ x. WayAlike (goes v m) (comes x n)) h.1 (k v m n h.2))
  tried-alike (Got shown v m) (Ends other kind n) goes comes h k = absurd h
  tried-alike (Ends shown kind m) (Got other w n) goes comes h k = absurd h
  tried-alike (Ends shown kind m) (Ends other sort n) goes comes h k = (h.0, ap (λ x. Abend x) h.1, h.2)

  giving-alike : {A B : Type 0} (f : A → B) (one two : Tried (Celled Memory) A) → TriedAlike one two → TriedAlike (giving f one) (giving f two)
  giving-alike f (Got shown v m) (Got other w n) h = (h.0, ap f h.1, h.2)
  giving-alike f (Got shown v m) (Ends other kind n) h = absurd h
  giving-alike f (Ends shown kind m) (Got other w n) h = absurd h
  giving-alike f (Ends shown kind m) (Ends other sort n) h = h

  tried-cost-alike : {Value : Type 0} (one two : Tried (Celled Memory) Value) (c : Value → Celled Memory → ℕ) → TriedAlike one two → ((v : Value) (m n : Celled Memory) → M m n → c v m ≡ c v n) → tried_cost one c ≡ tried_cost two c
  tried-cost-alike (Got shown v m) (Got other w n) c h k = k v m n h.2 ∙ ap (λ x. c x n) h.1
  tried-cost-alike (Got shown v m) (Ends other kind n) c h k = absurd h
  tried-cost-alike (Ends shown kind m) (Got other w n) c h k = absurd h
  tried-cost-alike (Ends shown kind m) (Ends other sort n) c h k = refl

  module _ (acting : Acting Memory) (r : Range) (Calls : Range → Type 0) (Reads Writes : ℕ → Type 0)
      (owns : (s t : Celled Memory) → M s t → s.own ≡ t.own)
      (turned : (s t : Celled Memory) (o : Memory) → M s t → M (own_is s o) (own_is t o))
      (reads : (c : ℕ) (s t : Celled Memory) → Reads c → M s t → s.cells r c ≡ t.cells r c)
      (puts : (c v : ℕ) (s t : Celled Memory) → Writes c → M s t → M (put r c v s) (put r c v t)) where
    abbrev doing : Doing (Celled Memory)
    doing = celled acting r

    keeping-alike : {A : Type 0} (f : Memory → Tried Memory A) (s t : Celled Memory) → M s t → TriedAlike (keeping (own_is s) (f s.own)) (keeping (own_is t) (f t.own))
    keeping-alike f s t m = subst (λ o. TriedAlike (keeping (own_is s) (f s.own)) (keeping (own_is t) (f o))) (owns s t m) (same (f s.own))
      where
        same : {A : Type 0} (value : Tried Memory A) → TriedAlike (keeping (own_is s) value) (keeping (own_is t) value)
        same (Got shown v o) = (refl, refl, turned s t o m)
        same (Ends shown kind o) = (refl, refl, turned s t o m)

    taken-alike : (c : ℕ) (f : Memory → Tried Memory ℕ) (s t : Celled Memory) → Writes c → M s t → TriedAlike (taken r c s (f s.own)) (taken r c t (f t.own))
    taken-alike c f s t w m = subst (λ o. TriedAlike (taken r c s (f s.own)) (taken r c t (f o))) (owns s t m) (same (f s.own))
      where
        same : (value : Tried Memory ℕ) → TriedAlike (taken r c s value) (taken r c t value)
        same (Got shown v o) = (refl, refl, puts c v (own_is s o) (own_is t o) w (turned s t o m))
        same (Ends shown kind o) = (refl, refl, turned s t o m)

    pub act-alike : (act : Act) (s t : Celled Memory) → ActFits Calls Reads Writes act → M s t → TriedAlike (doing.act act s) (doing.act act t)
    act-alike (Own simple) s t fits m = keeping-alike (acting.act simple) s t m
    act-alike (Set cell value) s t fits m = (refl, refl, puts cell value s t fits m)
    act-alike (Take cell amount) s t fits m = taken-alike cell (acting.count amount) s t fits m
    act-alike (Lower cell) s t fits m =
        (refl, refl, subst (λ v. M (put r cell (s.cells r cell - 1) s) (put r cell (v - 1) t)) (reads cell s t fits.0 m) (puts cell (s.cells r cell - 1) s t fits.1 m))

    pub test-alike : (test : Test) (s t : Celled Memory) → TestFits Calls Reads Writes test → M s t → TriedAlike (doing.test test s) (doing.test test t)
    test-alike (Holds cond) s t fits m = keeping-alike (acting.test cond) s t m
    test-alike (Not test) s t fits m = giving-alike not (celled_test acting r test s) (celled_test acting r test t) (test-alike test s t fits m)
    test-alike (Is cell value) s t fits m = (refl, ap (λ x. x == value) (reads cell s t fits m), m)
    test-alike (Above cell) s t fits m = (refl, ap is_above (reads cell s t fits m), m)

    pub pick-alike : (picker : Picker) (s t : Celled Memory) → PickerFits Calls Reads Writes picker → M s t → TriedAlike (doing.pick picker s) (doing.pick picker t)
    pick-alike (If test) s t fits m = giving-alike arm_of (celled_test acting r test s) (celled_test acting r test t) (test-alike test s t fits m)
    pick-alike (By chooser) s t fits m = keeping-alike (acting.choose chooser) s t m
    pick-alike (ByCell cell) s t fits m = (refl, ap (λ x. x - 1) (reads cell s t fits m), m)

    pub count-alike : (amount : Amount) (s t : Celled Memory) → M s t → TriedAlike (doing.count amount s) (doing.count amount t)
    count-alike amount s t m = keeping-alike (acting.count amount) s t m

    on-alike : (items : List Item) (s t : Celled Memory) → M s t → WayAlike (on doing items s) (on doing items t)
    on-alike items s t m = (refl, m, refl)

    loop-alike : (control : Control) (body : Body) (rest : List Item) (s t : Celled Memory) → ControlFits Calls Reads Writes control → M s t → WayAlike (loop_begins doing control body rest s) (loop_begins doing control body rest t)
    loop-alike (Times amount) body rest s t fits m = tried-alike (doing.count amount s) (doing.count amount t) (λ n. on doing (Turn (Counted n) body ∷ rest)) (λ n. on doing (Turn (Counted n) body ∷ rest)) (count-alike amount s t m) (λ v a b k. on-alike (Turn (Counted v) body ∷ rest) a b k)
    loop-alike (Until after test) body rest s t fits m = on-alike (first_turn doing after (Tests test) body rest) s t m
    loop-alike (Varying after set step test) body rest s t fits m =
        tried-alike (doing.act set s) (doing.act set t) (λ u. on doing (first_turn doing after (varying doing after step test) body rest)) (λ u. on doing (first_turn doing after (varying doing after step test) body rest)) (act-alike set s t fits.0 m)
        (λ v a b k. on-alike (first_turn doing after (varying doing after step test) body rest) a b k)

    tests-alike : (test : Test) (turning : Turning) (body : Body) (rest : List Item) (s t : Celled Memory) → TestFits Calls Reads Writes test → M s t → WayAlike (tests doing test turning body rest s) (tests doing test turning body rest t)
    tests-alike test turning body rest s t fits m =
        tried-alike (doing.test test s) (doing.test test t) (λ ended. on doing (turns doing ended turning body rest)) (λ ended. on doing (turns doing ended turning body rest)) (test-alike test s t fits m) (λ v a b k. on-alike (turns doing v turning body rest) a b k)

    steps-alike : (ended : Bool) (step : Act) (test : Test) (body : Body) (rest : List Item) (s t : Celled Memory) → ActFits Calls Reads Writes step → M s t → WayAlike (steps_on doing ended step test body rest s) (steps_on doing ended step test body rest t)
    steps-alike true step test body rest s t fits m = on-alike rest s t m
    steps-alike false step test body rest s t fits m =
        tried-alike (doing.act step s) (doing.act step t) (λ u. on doing (before_body body (Turn (StepsAfter step test) body ∷ rest))) (λ u. on doing (before_body body (Turn (StepsAfter step test) body ∷ rest))) (act-alike step s t fits m)
        (λ v a b k. on-alike (before_body body (Turn (StepsAfter step test) body ∷ rest)) a b k)

    turn-alike : (turning : Turning) (body : Body) (rest : List Item) (s t : Celled Memory) → TurningFits Calls Reads Writes turning → M s t → WayAlike (turn_way doing turning body rest s) (turn_way doing turning body rest t)
    turn-alike (Counted zero) body rest s t fits m = on-alike rest s t m
    turn-alike (Counted (suc n)) body rest s t fits m = on-alike (before_body body (Turn (Counted n) body ∷ rest)) s t m
    turn-alike (Tests test) body rest s t fits m = tests-alike test (Tests test) body rest s t fits m
    turn-alike (Steps false step test) body rest s t fits m = tests-alike test (Steps true step test) body rest s t fits.1 m
    turn-alike (Steps true step test) body rest s t fits m =
        tried-alike (doing.act step s) (doing.act step t) (λ u. tests doing test (Steps true step test) body rest) (λ u. tests doing test (Steps true step test) body rest) (act-alike step s t fits.0 m) (λ v a b k. tests-alike test (Steps true step test) body rest a b fits.1 k)
    turn-alike (StepsAfter step test) body rest s t fits m =
        tried-alike (doing.test test s) (doing.test test t) (λ ended. steps_on doing ended step test body rest) (λ ended. steps_on doing ended step test body rest) (test-alike test s t fits.1 m) (λ v a b k. steps-alike v step test body rest a b fits.0 k)

    stmt-alike : (stmt : Stmt) (rest : List Item) (s t : Celled Memory) → StmtFits Calls Reads Writes stmt → M s t → WayAlike (stmt_way doing stmt rest s) (stmt_way doing stmt rest t)
    stmt-alike (language.Do act) rest s t fits m = tried-alike (doing.act act s) (doing.act act t) (λ u. on doing rest) (λ u. on doing rest) (act-alike act s t fits m) (λ v a b k. on-alike rest a b k)
    stmt-alike (Choose picker arms) rest s t fits m = tried-alike (doing.pick picker s) (doing.pick picker t) (λ k. on doing (before_arm arms k rest)) (λ k. on doing (before_arm arms k rest)) (pick-alike picker s t fits.0 m) (λ v a b k. on-alike (before_arm arms v rest) a b k)
    stmt-alike (Loop control body) rest s t fits m = loop-alike control body rest s t fits.0 m
    stmt-alike (Perform entry exit) rest s t fits m = (refl, refl, refl)
    stmt-alike (Go to) rest s t fits m = absurd fits
    stmt-alike (GoDepending to chooser) rest s t fits m = absurd fits
    stmt-alike NextSentence rest s t fits m = absurd fits
    stmt-alike ExitParagraph rest s t fits m = absurd fits
    stmt-alike (ExitSection last) rest s t fits m = absurd fits
    stmt-alike (ExitPerform cycle) rest s t fits m = absurd fits
    stmt-alike StopRun rest s t fits m = (refl, refl, m)

    pub item-alike : (item : Item) (rest : List Item) (s t : Celled Memory) → ItemFits Calls Reads Writes item → M s t → WayAlike (item_way doing item rest s) (item_way doing item rest t)
    item-alike (Do stmt) rest s t fits m = stmt-alike stmt rest s t fits m
    item-alike SentenceEnd rest s t fits m = absurd fits
    item-alike (Turn turning body) rest s t fits m = turn-alike turning body rest s t fits.0 m

    round-alike : (test : Test) (s t : Celled Memory) → TestFits Calls Reads Writes test → M s t → tried_cost (doing.test test s) (λ ended m. round_cost ended) ≡ tried_cost (doing.test test t) (λ ended m. round_cost ended)
    round-alike test s t fits m = tried-cost-alike (doing.test test s) (doing.test test t) (λ ended m. round_cost ended) (test-alike test s t fits m) (λ v a b k. refl)

    turn-cost-alike : (turning : Turning) (s t : Celled Memory) → TurningFits Calls Reads Writes turning → M s t → turn_cost doing turning s ≡ turn_cost doing turning t
    turn-cost-alike (Counted zero) s t fits m = refl
    turn-cost-alike (Counted (suc n)) s t fits m = refl
    turn-cost-alike (Tests test) s t fits m = round-alike test s t fits m
    turn-cost-alike (Steps false step test) s t fits m = round-alike test s t fits.1 m
    turn-cost-alike (Steps true step test) s t fits m =
        tried-cost-alike (doing.act step s) (doing.act step t) (λ u next. tried_cost (doing.test test next) (λ ended m. round_cost ended)) (act-alike step s t fits.0 m) (λ v a b k. round-alike test a b fits.1 k)
    turn-cost-alike (StepsAfter step test) s t fits m = round-alike test s t fits.1 m

    loop-cost-alike : (control : Control) (s t : Celled Memory) → ControlFits Calls Reads Writes control → M s t → loop_cost doing control s ≡ loop_cost doing control t
    loop-cost-alike (Times amount) s t fits m = refl
    loop-cost-alike (Until after test) s t fits m = refl
    loop-cost-alike (Varying after set step test) s t fits m = tried-cost-alike (doing.act set s) (doing.act set t) (λ u m. first_cost after) (act-alike set s t fits.0 m) (λ v a b k. refl)

    pub item-cost-alike : (item : Item) (rest : List Item) (s t : Celled Memory) → ItemFits Calls Reads Writes item → M s t → item_cost doing item rest s ≡ item_cost doing item rest t
    item-cost-alike (Do (language.Do act)) rest s t fits m = refl
    item-cost-alike (Do (Choose picker arms)) rest s t fits m = refl
    item-cost-alike (Do (Loop control body)) rest s t fits m = ap (λ n. n + 1) (loop-cost-alike control s t fits.0 m)
    item-cost-alike (Do (Perform entry exit)) rest s t fits m = refl
    item-cost-alike (Do (Go to)) rest s t fits m = absurd fits
    item-cost-alike (Do (GoDepending to chooser)) rest s t fits m = absurd fits
    item-cost-alike (Do NextSentence) rest s t fits m = absurd fits
    item-cost-alike (Do ExitParagraph) rest s t fits m = absurd fits
    item-cost-alike (Do (ExitSection last)) rest s t fits m = absurd fits
    item-cost-alike (Do (ExitPerform cycle)) rest s t fits m = absurd fits
    item-cost-alike (Do StopRun) rest s t fits m = refl
    item-cost-alike SentenceEnd rest s t fits m = absurd fits
    item-cost-alike (Turn turning body) rest s t fits m = turn-cost-alike turning s t fits.0 m
