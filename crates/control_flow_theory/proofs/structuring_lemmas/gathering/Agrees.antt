-- Memories that agree but for one cell, and what statements that don't name it do to them.
use Rattle.std.proofs.Common.{◌≡◌, ℕ, zero, suc, ◌+◌, ◌-◌, Bool, true, false, not, if◌then◌else◌, ◌==◌, List, [], ◌∷◌, refl, ap, sym, ◌∙◌, subst, inl, inr}
use Rattle.std.proofs.lemmas.Bool.Decides.{eqb_tells}
use Rattle.control_flow_theory.specs.semantics.Outcome.{Trace, Tried, Got, Ends}
use Rattle.control_flow_theory.specs.language.Language.{Amount, Act, Own, Set, Take, Lower, Test, Holds, Not, Is, Above, Picker, If, By, ByCell, Control, Times, Until, Varying, Stmt, Choose, Loop, Perform, Go, GoDepending, NextSentence, ExitParagraph, ExitSection, ExitPerform, StopRun, Body, Range, same_range}
use Rattle.control_flow_theory.specs.language.Language as language
use Rattle.control_flow_theory.specs.semantics.Doing.{Acting, Doing, Celled, celled, celled_act, celled_test, celled_pick, own_is, put, taken, giving, keeping, arm_of, is_above}
use Rattle.control_flow_theory.specs.language.Items.{Turning, Counted, Tests, Steps, StepsAfter, Item, Do, SentenceEnd, Turn, before_body, before_arm}
use Rattle.control_flow_theory.specs.semantics.Items.{Way, On, Halts, Into, To, ToEnd, way_after, tried, on, first_turn, varying, loop_begins, turns, tests, steps_on, turn_way, stmt_way, item_way}
use Rattle.control_flow_theory.specs.graph_rules.Fits.{ActFits, TestFits, PickerFits, ControlFits, StmtFits, TurningFits, ItemFits}
use Rattle.control_flow_theory.specs.graph_rules.Costs.{tried_cost, round_cost, first_cost, turn_cost, loop_cost, stmt_cost, item_cost}
use Rattle.control_flow_theory.specs.structuring.Gathers.{OnCell, says}
use Rattle.control_flow_theory.proofs.semantics_lemmas.Ranges.{range-tells}

module _ {Memory : Type 0} (acting : Acting Memory) (range : Range) (cell : ℕ) (Common : Range → ℕ → Type 0) (fresh : Common range cell → ⊥) where
  abbrev pub This : Range → ℕ → Type 0
  This r c = (r ≡ range) × (c ≡ cell)

  -- the memories agree on the cells that both have; in the second this one holds the number
  pub record Agree (number : ℕ) (s t : Celled Memory) : Type 0 where
    pub own : s.own ≡ t.own
    pub cells : (r : Range) (c : ℕ) → Common r c → s.cells r c ≡ t.cells r c
    pub holds : t.cells range cell ≡ number

  -- both give the same
  abbrev pub AgreeTried : {Value : Type 0} → ℕ → Tried (Celled Memory) Value → Tried (Celled Memory) Value → Type 0
  AgreeTried number (Got trace v m) other = (n : Celled Memory) × (other ≡ Got trace v n) × Agree number m n
  AgreeTried number (Ends trace kind m) other = (n : Celled Memory) × (other ≡ Ends trace kind n) × Agree number m n

  -- both come to the same
  abbrev pub AgreeWay : ℕ → Way (Celled Memory) → Way (Celled Memory) → Type 0
  AgreeWay number (On trace m items) other = (n : Celled Memory) × (other ≡ On trace n items) × Agree number m n
  AgreeWay number (Halts trace how m) other = (n : Celled Memory) × (other ≡ Halts trace how n) × Agree number m n
  AgreeWay number (Into entry exit items) other = other ≡ Into entry exit items
  AgreeWay number (To trace m paragraph) other = (n : Celled Memory) × (other ≡ To trace n paragraph) × Agree number m n
  AgreeWay number (ToEnd trace m paragraph) other = (n : Celled Memory) × (other ≡ ToEnd trace n paragraph) × Agree number m n

  agree-after : (number : ℕ) (shown : Trace) (way other : Way (Celled Memory)) → AgreeWay number way other → AgreeWay number (way_after shown way) (way_after shown other)
  agree-after number shown (On trace m items) other a = (a.0, ap (way_after shown) a.1, a.2)
  agree-after number shown (Halts trace how m) other a = (a.0, ap (way_after shown) a.1, a.2)
  agree-after number shown (Into entry exit items) other a = ap (way_after shown) a
  agree-after number shown (To trace m paragraph) other a = (a.0, ap (way_after shown) a.1, a.2)
  agree-after number shown (ToEnd trace m paragraph) other a = (a.0, ap (way_after shown) a.1, a.2)

  agree-tried : {Value : Type 0} (number : ℕ) (x y : Tried (Celled Memory) Value) (one two : Value → Celled Memory → Way (Celled Memory)) → AgreeTried number x y → ((v : Value) (m n : Celled Memory) → Agree number m n → AgreeWay number (one v m) (two v n)) → AgreeWay number (tried x one) (tried y two)
  agree-tried number (Got trace v m) y one two a h =
      subst (λ z. AgreeWay number (way_after trace (one v m)) (tried z two)) (sym a.1) (agree-after number trace (one v m) (two v a.0) (h v m a.0 a.2))
  agree-tried number (Ends trace kind m) y one two a h = (a.0, ap (λ z. tried z two) a.1, a.2)

  cost-tried : {Value : Type 0} (number : ℕ) (x y : Tried (Celled Memory) Value) (one two : Value → Celled Memory → ℕ) → AgreeTried number x y → ((v : Value) (m n : Celled Memory) → Agree number m n → one v m ≡ two v n) → tried_cost x one ≡ tried_cost y two
  cost-tried number (Got trace v m) y one two a h = h v m a.0 a.2 ∙ sym (ap (λ z. tried_cost z two) a.1)
  cost-tried number (Ends trace kind m) y one two a h = sym (ap (λ z. tried_cost z two) a.1)

  agree-giving : {A B : Type 0} (number : ℕ) (f : A → B) (x y : Tried (Celled Memory) A) → AgreeTried number x y → AgreeTried number (giving f x) (giving f y)
  agree-giving number f (Got trace v m) y a = (a.0, ap (giving f) a.1, a.2)
  agree-giving number f (Ends trace kind m) y a = (a.0, ap (giving f) a.1, a.2)

  -- what touches no cell
  agree-keeping : {Value : Type 0} (number : ℕ) (s t : Celled Memory) (x y : Tried Memory Value) → x ≡ y → Agree number s t → AgreeTried number (keeping (own_is s) x) (keeping (own_is t) y)
  agree-keeping number s t (Got trace v m) y e a = (own_is t m, ap (keeping (own_is t)) (sym e), record { own = refl; cells = a.cells; holds = a.holds })
  agree-keeping number s t (Ends trace kind m) y e a = (own_is t m, ap (keeping (own_is t)) (sym e), record { own = refl; cells = a.cells; holds = a.holds })

  put-cells : (r : Range) (c value : ℕ) (s t : Celled Memory) (x : Range) (y : ℕ) → s.cells x y ≡ t.cells x y → (put r c value s).cells x y ≡ (put r c value t).cells x y
  put-cells r c value s t x y e =
      elim (same_range x r) as (λ b. (if b then (if y == c then value else s.cells x y) else s.cells x y) ≡ (if b then (if y == c then value else t.cells x y) else t.cells x y)) [
        | true ↦ elim (y == c) as (λ b. (if b then value else s.cells x y) ≡ (if b then value else t.cells x y)) [ true ↦ refl | false ↦ e ]
        | false ↦ e
      ]

  -- a cell that is put holds the value
  pub put-same : (r : Range) (c value : ℕ) (t : Celled Memory) → (put r c value t).cells r c ≡ value
  put-same r c value t =
      elim (range-tells r r) [
        | inl e ↦ elim (eqb_tells c c) [
          | inl f ↦ ap (λ b. if b then (if c == c then value else t.cells r c) else t.cells r c) e.0 ∙ ap (λ b. if b then value else t.cells r c) f.0
          | inr f ↦ absurd (f.1 refl)
        ]
        | inr e ↦ absurd (e.1 refl)
      ]

  -- any other cell holds what it held
  put-other : (r : Range) (c value : ℕ) (t : Celled Memory) (x : Range) (y : ℕ) → ((x ≡ r) × (y ≡ c) → ⊥) → (put r c value t).cells x y ≡ t.cells x y
  put-other r c value t x y h =
      elim (range-tells x r) [
        | inl e ↦ elim (eqb_tells y c) [
          | inl f ↦ absurd (h (e.1, f.1))
          | inr f ↦ ap (λ b. if b then (if y == c then value else t.cells x y) else t.cells x y) e.0 ∙ ap (λ b. if b then value else t.cells x y) f.0
        ]
        | inr e ↦ ap (λ b. if b then (if y == c then value else t.cells x y) else t.cells x y) e.0
      ]

  agree-put : (number : ℕ) (r : Range) (c value : ℕ) (s t : Celled Memory) → (This r c → ⊥) → Agree number s t → Agree number (put r c value s) (put r c value t)
  agree-put number r c value s t free a = record {
    own = a.own;
    cells = λ x y h. put-cells r c value s t x y (a.cells x y h);
    holds = put-other r c value t range cell (λ e. free (sym e.0, sym e.1)) ∙ a.holds;
  }

  -- the cell is set in the second alone
  pub agree-set : (number value : ℕ) (s t : Celled Memory) → Agree number s t → Agree value s (put range cell value t)
  agree-set number value s t a = record {
    own = a.own;
    cells = λ x y h. a.cells x y h ∙ sym (put-other range cell value t x y (λ e. fresh (subst (λ r. Common r cell) e.0 (subst (Common x) e.1 h))));
    holds = put-same range cell value t;
  }

  pub agree-refl : (t : Celled Memory) → Agree (t.cells range cell) t t
  agree-refl t = record { own = refl; cells = λ r c h. refl; holds = refl }

  -- what a test on the cell says
  pub on-cell : (test : Test) (t : Celled Memory) → OnCell cell test → celled_test acting range test t ≡ Got [] (says test (t.cells range cell)) t
  on-cell (Holds cond) t h = absurd h
  on-cell (Not test) t h = ap (giving not) (on-cell test t h)
  on-cell (Is other value) t h = ap (λ c. Got [] (t.cells range c == value) t) h
  on-cell (Above other) t h = ap (λ c. Got [] (is_above (t.cells range c)) t) h

  module _ (Calls : Range → Type 0) (Reads Writes : ℕ → Type 0) (r : Range) (reads : (c : ℕ) → Reads c → Common r c) (unwritten : Writes cell → r ≡ range → ⊥) where
    free-write : (c : ℕ) → Writes c → This r c → ⊥
    free-write c h e = unwritten (subst Writes e.1 h) e.0

    agree-taken : (number c : ℕ) (s t : Celled Memory) (x y : Tried Memory ℕ) → Writes c → x ≡ y → Agree number s t → AgreeTried number (taken r c s x) (taken r c t y)
    agree-taken number c s t (Got trace v m) y w e a =
        (put r c v (own_is t m), ap (taken r c t) (sym e), agree-put number r c v (own_is s m) (own_is t m) (free-write c w) (record { own = refl; cells = a.cells; holds = a.holds }))
    agree-taken number c s t (Ends trace kind m) y w e a = (own_is t m, ap (taken r c t) (sym e), record { own = refl; cells = a.cells; holds = a.holds })

    pub act-agrees : (number : ℕ) (act : Act) (s t : Celled Memory) → ActFits Calls Reads Writes act → Agree number s t → AgreeTried number (celled_act acting r act s) (celled_act acting r act t)
    act-agrees number (Own simple) s t fits a = agree-keeping number s t (acting.act simple s.own) (acting.act simple t.own) (ap (acting.act simple) a.own) a
    act-agrees number (Set c value) s t fits a = (put r c value t, refl, agree-put number r c value s t (free-write c fits) a)
    act-agrees number (Take c amount) s t fits a = agree-taken number c s t (acting.count amount s.own) (acting.count amount t.own) fits (ap (acting.count amount) a.own) a
    act-agrees number (Lower c) s t fits a = (
      put r c (t.cells r c - 1) t,
      refl,
      subst (λ v. Agree number (put r c (v - 1) s) (put r c (t.cells r c - 1) t)) (sym (a.cells r c (reads c fits.0))) (agree-put number r c (t.cells r c - 1) s t (free-write c fits.1) a),
    )

    pub test-agrees : (number : ℕ) (test : Test) (s t : Celled Memory) → TestFits Calls Reads Writes test → Agree number s t → AgreeTried number (celled_test acting r test s) (celled_test acting r test t)
    test-agrees number (Holds cond) s t fits a = agree-keeping number s t (acting.test cond s.own) (acting.test cond t.own) (ap (acting.test cond) a.own) a
    test-agrees number (Not test) s t fits a = agree-giving number not (celled_test acting r test s) (celled_test acting r test t) (test-agrees number test s t fits a)
    test-agrees number (Is c value) s t fits a = (t, ap (λ v. Got [] (v == value) t) (sym (a.cells r c (reads c fits))), a)
    test-agrees number (Above c) s t fits a = (t, ap (λ v. Got [] (is_above v) t) (sym (a.cells r c (reads c fits))), a)

    pub pick-agrees : (number : ℕ) (picker : Picker) (s t : Celled Memory) → PickerFits Calls Reads Writes picker → Agree number s t → AgreeTried number (celled_pick acting r picker s) (celled_pick acting r picker t)
    pick-agrees number (If test) s t fits a = agree-giving number arm_of (celled_test acting r test s) (celled_test acting r test t) (test-agrees number test s t fits a)
    pick-agrees number (By chooser) s t fits a = agree-keeping number s t (acting.choose chooser s.own) (acting.choose chooser t.own) (ap (acting.choose chooser) a.own) a
    pick-agrees number (ByCell c) s t fits a = (t, ap (λ v. Got [] (v - 1) t) (sym (a.cells r c (reads c fits))), a)

    count-agrees : (number : ℕ) (amount : Amount) (s t : Celled Memory) → Agree number s t → AgreeTried number ((celled acting r).count amount s) ((celled acting r).count amount t)
    count-agrees number amount s t a = agree-keeping number s t (acting.count amount s.own) (acting.count amount t.own) (ap (acting.count amount) a.own) a

    abbrev doing : Doing (Celled Memory)
    doing = celled acting r

    on-agrees : (number : ℕ) (items : List Item) (s t : Celled Memory) → Agree number s t → AgreeWay number (on doing items s) (on doing items t)
    on-agrees number items s t a = (t, refl, a)

    loop-agrees : (number : ℕ) (control : Control) (body : Body) (rest : List Item) (s t : Celled Memory) → ControlFits Calls Reads Writes control → Agree number s t → AgreeWay number (loop_begins doing control body rest s) (loop_begins doing control body rest t)
    loop-agrees number (Times amount) body rest s t fits a =
        agree-tried number (doing.count amount s) (doing.count amount t) (λ n. on doing (Turn (Counted n) body ∷ rest)) (λ n. on doing (Turn (Counted n) body ∷ rest)) (count-agrees number amount s t a) (λ n x y b. (y, refl, b))
    loop-agrees number (Until after test) body rest s t fits a = on-agrees number (first_turn doing after (Tests test) body rest) s t a
    loop-agrees number (Varying after set step test) body rest s t fits a =
        agree-tried number (doing.act set s) (doing.act set t) (λ u. on doing (first_turn doing after (varying doing after step test) body rest)) (λ u. on doing (first_turn doing after (varying doing after step test) body rest)) (act-agrees number set s t fits.0 a) (λ n x y b. (y, refl, b))

    tests-agree : (number : ℕ) (test : Test) (turning : Turning) (body : Body) (rest : List Item) (s t : Celled Memory) → TestFits Calls Reads Writes test → Agree number s t → AgreeWay number (tests doing test turning body rest s) (tests doing test turning body rest t)
    tests-agree number test turning body rest s t fits a =
        agree-tried number (doing.test test s) (doing.test test t) (λ ended. on doing (turns doing ended turning body rest)) (λ ended. on doing (turns doing ended turning body rest)) (test-agrees number test s t fits a) (λ ended x y b. (y, refl, b))

    steps-agree : (number : ℕ) (ended : Bool) (act : Act) (test : Test) (body : Body) (rest : List Item) (s t : Celled Memory) → ActFits Calls Reads Writes act → Agree number s t → AgreeWay number (steps_on doing ended act test body rest s) (steps_on doing ended act test body rest t)
    steps-agree number true act test body rest s t fits a = (t, refl, a)
    steps-agree number false act test body rest s t fits a =
        agree-tried number (doing.act act s) (doing.act act t) (λ u. on doing (before_body body (Turn (StepsAfter act test) body ∷ rest))) (λ u. on doing (before_body body (Turn (StepsAfter act test) body ∷ rest))) (act-agrees number act s t fits a) (λ u x y b. (y, refl, b))

    turn-agrees : (number : ℕ) (turning : Turning) (body : Body) (rest : List Item) (s t : Celled Memory) → TurningFits Calls Reads Writes turning → Agree number s t → AgreeWay number (turn_way doing turning body rest s) (turn_way doing turning body rest t)
    turn-agrees number (Counted zero) body rest s t fits a = (t, refl, a)
    turn-agrees number (Counted (suc n)) body rest s t fits a = (t, refl, a)
    turn-agrees number (Tests test) body rest s t fits a = tests-agree number test (Tests test) body rest s t fits a
    turn-agrees number (Steps false act test) body rest s t fits a = tests-agree number test (Steps true act test) body rest s t fits.1 a
    turn-agrees number (Steps true act test) body rest s t fits a =
        agree-tried number (doing.act act s) (doing.act act t) (λ u. tests doing test (Steps true act test) body rest) (λ u. tests doing test (Steps true act test) body rest) (act-agrees number act s t fits.0 a) (λ u x y b. tests-agree number test (Steps true act test) body rest x y fits.1 b)
    turn-agrees number (StepsAfter act test) body rest s t fits a =
        agree-tried number (doing.test test s) (doing.test test t) (λ ended. steps_on doing ended act test body rest) (λ ended. steps_on doing ended act test body rest) (test-agrees number test s t fits.1 a) (λ ended x y b. steps-agree number ended act test body rest x y fits.0 b)

    stmt-agrees : (number : ℕ) (stmt : Stmt) (rest : List Item) (s t : Celled Memory) → StmtFits Calls Reads Writes stmt → Agree number s t → AgreeWay number (stmt_way doing stmt rest s) (stmt_way doing stmt rest t)
    stmt-agrees number (language.Do act) rest s t fits a = agree-tried number (doing.act act s) (doing.act act t) (λ u. on doing rest) (λ u. on doing rest) (act-agrees number act s t fits a) (λ u x y b. (y, refl, b))
    stmt-agrees number (Choose picker arms) rest s t fits a = agree-tried number (doing.pick picker s) (doing.pick picker t) (λ k. on doing (before_arm arms k rest)) (λ k. on doing (before_arm arms k rest)) (pick-agrees number picker s t fits.0 a) (λ k x y b. (y, refl, b))
    stmt-agrees number (Loop control body) rest s t fits a = loop-agrees number control body rest s t fits.0 a
    stmt-agrees number (Perform entry exit) rest s t fits a = refl
    stmt-agrees number (Go to) rest s t fits a = absurd fits
    stmt-agrees number (GoDepending to chooser) rest s t fits a = absurd fits
    stmt-agrees number NextSentence rest s t fits a = absurd fits
    stmt-agrees number ExitParagraph rest s t fits a = absurd fits
    stmt-agrees number (ExitSection last) rest s t fits a = absurd fits
    stmt-agrees number (ExitPerform cycle) rest s t fits a = absurd fits
    stmt-agrees number StopRun rest s t fits a = (t, refl, a)

    -- an item that doesn't name the cell comes to the same from both
    pub item-agrees : (number : ℕ) (item : Item) (rest : List Item) (s t : Celled Memory) → ItemFits Calls Reads Writes item → Agree number s t → AgreeWay number (item_way doing item rest s) (item_way doing item rest t)
    item-agrees number (Do stmt) rest s t fits a = stmt-agrees number stmt rest s t fits a
    item-agrees number SentenceEnd rest s t fits a = (t, refl, a)
    item-agrees number (Turn turning body) rest s t fits a = turn-agrees number turning body rest s t fits.0 a

    round-agrees : (number : ℕ) (test : Test) (s t : Celled Memory) → TestFits Calls Reads Writes test → Agree number s t → tried_cost (doing.test test s) (λ ended m. round_cost ended) ≡ tried_cost (doing.test test t) (λ ended m. round_cost ended)
    round-agrees number test s t fits a = cost-tried number (doing.test test s) (doing.test test t) (λ ended m. round_cost ended) (λ ended m. round_cost ended) (test-agrees number test s t fits a) (λ ended x y b. refl)

    turn-costs : (number : ℕ) (turning : Turning) (s t : Celled Memory) → TurningFits Calls Reads Writes turning → Agree number s t → turn_cost doing turning s ≡ turn_cost doing turning t
    turn-costs number (Counted zero) s t fits a = refl
    turn-costs number (Counted (suc n)) s t fits a = refl
    turn-costs number (Tests test) s t fits a = round-agrees number test s t fits a
    turn-costs number (Steps false act test) s t fits a = round-agrees number test s t fits.1 a
    turn-costs number (Steps true act test) s t fits a =
        cost-tried number (doing.act act s) (doing.act act t) (λ u next. tried_cost (doing.test test next) (λ ended m. round_cost ended)) (λ u next. tried_cost (doing.test test next) (λ ended m. round_cost ended)) (act-agrees number act s t fits.0 a) (λ u x y b. round-agrees number test x y fits.1 b)
    turn-costs number (StepsAfter act test) s t fits a = round-agrees number test s t fits.1 a

    loop-costs : (number : ℕ) (control : Control) (s t : Celled Memory) → ControlFits Calls Reads Writes control → Agree number s t → loop_cost doing control s ≡ loop_cost doing control t
    loop-costs number (Times amount) s t fits a = refl
    loop-costs number (Until after test) s t fits a = refl
    loop-costs number (Varying after set step test) s t fits a =
        cost-tried number (doing.act set s) (doing.act set t) (λ u m. first_cost after) (λ u m. first_cost after) (act-agrees number set s t fits.0 a) (λ u x y b. refl)

    stmt-costs : (number : ℕ) (stmt : Stmt) (rest : List Item) (s t : Celled Memory) → StmtFits Calls Reads Writes stmt → Agree number s t → stmt_cost doing stmt rest s ≡ stmt_cost doing stmt rest t
    stmt-costs number (language.Do act) rest s t fits a = refl
    stmt-costs number (Choose picker arms) rest s t fits a = refl
    stmt-costs number (Loop control body) rest s t fits a = ap (λ n. n + 1) (loop-costs number control s t fits.0 a)
    stmt-costs number (Perform entry exit) rest s t fits a = refl
    stmt-costs number (Go to) rest s t fits a = refl
    stmt-costs number (GoDepending to chooser) rest s t fits a = refl
    stmt-costs number NextSentence rest s t fits a = refl
    stmt-costs number ExitParagraph rest s t fits a = refl
    stmt-costs number (ExitSection last) rest s t fits a = refl
    stmt-costs number (ExitPerform cycle) rest s t fits a = refl
    stmt-costs number StopRun rest s t fits a = refl

    -- and costs the same
    pub item-costs : (number : ℕ) (item : Item) (rest : List Item) (s t : Celled Memory) → ItemFits Calls Reads Writes item → Agree number s t → item_cost doing item rest s ≡ item_cost doing item rest t
    item-costs number (Do stmt) rest s t fits a = stmt-costs number stmt rest s t fits a
    item-costs number SentenceEnd rest s t fits a = refl
    item-costs number (Turn turning body) rest s t fits a = turn-costs number turning s t fits.0 a
