-- How cells are numbered makes no difference to a walk.
use Rattle.std.proofs.Common.{◌≡◌, ℕ, zero, suc, ◌-◌, true, false, not, if◌then◌else◌, nat_eq, List, [], ◌∷◌, ◌++◌, refl, ap, sym, ◌∙◌, inl, inr, Option, Some, None, eqb-true, eq-eqb}
use Rattle.std.proofs.lemmas.Bool.Decides.{eqb_tells}
use Rattle.control_flow_theory.specs.runs.Run.{Going, Over}
use Rattle.control_flow_theory.specs.runs.Machine.{iterate}
use Rattle.control_flow_theory.specs.semantics.Outcome.{Trace, Standing, Tried, Got, Ends}
use Rattle.control_flow_theory.specs.language.Language.{Act, Own, Set, Take, Lower, Test, Holds, Not, Is, Above, Picker, If, By, ByCell, Stmts, none, also, Range, Main, Part, same_range}
use Rattle.control_flow_theory.specs.semantics.Doing.{Acting, giving, keeping, arm_of, Celled, own_is, put, taken, celled_act, celled_test, celled_pick, celled}
use Rattle.control_flow_theory.specs.language.Items.{Item, Do, before}
use Rattle.control_flow_theory.specs.semantics.Items.{Way, On, Halts, Into, To, ToEnd, item_way}
use Rattle.control_flow_theory.specs.semantics.Graph.{Tree, tree, End, Pick, Jump, Return, Stop, Dead, Trees, no_more, more, Family}
use Rattle.control_flow_theory.specs.semantics.Walk.{Level, Walk, tree_at, level_at, walk_goes, picked, picks, returns, walk_end, walk_items, walk_by, walk_step, walk_begun}
use Rattle.control_flow_theory.specs.lowering.Renamed.{act_anew, test_anew, picker_anew, stmt_anew, stmts_anew, items_anew, end_anew, trees_anew, tree_anew, numbered_anew, as_before}
use Rattle.control_flow_theory.proofs.lowering_lemmas.rests.Parts.{giving-keeping}
use Rattle.control_flow_theory.proofs.lowering_lemmas.graphs.Carried.{over_memory, over_items, Carries, item-carried, anew, item-numbered}

same-range-true : (a b : Range) → same_range a b ≡ true → a ≡ b
same-range-true Main Main h = refl
same-range-true Main (Part e x) h = cc
same-range-true (Part e x) Main h = cc
same-range-true (Part e x) (Part f y) h =
    (elim (nat_eq e f) as (λ b. nat_eq e f ≡ b → (if b then nat_eq x y else false) ≡ true → Part e x ≡ Part f y) [
      | true ↦ λ is k. ap (λ n. Part n x) (eqb-true e f is) ∙ ap (Part f) (eqb-true x y k)
      | false ↦ λ is k. cc
    ]) refl h

keeping-twice : {A B C V : Type 0} (f : B → C) (g : A → B) (t : Tried A V) → keeping f (keeping g t) ≡ keeping (λ m. f (g m)) t
keeping-twice f g (Got t v m) = refl
keeping-twice f g (Ends t kind m) = refl

module _ {Memory Left : Type 0} (acting : Acting Memory) (left : Memory → Left) (family : Family) (numbers : Range → ℕ → ℕ) (apart : (range : Range) (one other : ℕ) → numbers range one ≡ numbers range other → one ≡ other) where
  abbrev back : Celled Memory → Celled Memory
  back c = as_before numbers c

  same-number : (range : Range) (one other : ℕ) → nat_eq (numbers range one) (numbers range other) ≡ nat_eq one other
  same-number range one other = elim (eqb_tells one other) [
    | inl e ↦ eq-eqb (numbers range one) (numbers range other) (ap (numbers range) e.1) ∙ sym e.0
    | inr e ↦ elim (eqb_tells (numbers range one) (numbers range other)) [
      | inl k ↦ absurd (e.1 (apart range one other k.1))
      | inr k ↦ k.0 ∙ sym e.0
    ]
  ]

  put-cell : (range : Range) (cell value : ℕ) (c : Celled Memory) (r : Range) (k : ℕ) → (put range cell value (back c)).cells r k ≡ (back (put range (numbers range cell) value c)).cells r k
  put-cell range cell value c r k =
      (elim (same_range r range) as (λ b. same_range r range ≡ b → (if b then (if nat_eq k cell then value else c.cells r (numbers r k)) else c.cells r (numbers r k)) ≡ (if b then (if nat_eq (numbers r k) (numbers range cell) then value else c.cells r (numbers r k)) else c.cells r (numbers r k))) [
        | true ↦ λ is.
            let e : r ≡ range = same-range-true r range is in
            let n : nat_eq (numbers r k) (numbers range cell) ≡ nat_eq k cell = ap (λ z. nat_eq (numbers r k) (numbers z cell)) (sym e) ∙ same-number r k cell in
            ap (λ b. if b then value else c.cells r (numbers r k)) (sym n)
        | false ↦ λ is. refl
      ]) refl

  put-same : (range : Range) (cell value : ℕ) (c : Celled Memory) → put range cell value (back c) ≡ back (put range (numbers range cell) value c)
  put-same range cell value c = λ i. record { own = c.own; cells = λ r k. put-cell range cell value c r k i }

  abbrev got_at : Trace → Celled Memory → Tried (Celled Memory) (Unit {0})
  got_at t c = Got t tt c

  taken-same : (range : Range) (cell : ℕ) (c : Celled Memory) (a : Tried Memory ℕ) → taken range cell (back c) a ≡ keeping back (taken range (numbers range cell) c a)
  taken-same range cell c (Got t v m) = ap (got_at t) (put-same range cell v (own_is c m))
  taken-same range cell c (Ends t kind m) = refl

  abbrev got_unit : Celled Memory → Tried (Celled Memory) (Unit {0})
  got_unit c = Got [] tt c

  module _ (range : Range) where
    abbrev here : ℕ → ℕ
    here cell = numbers range cell

    act-same : (act : Act) (c : Celled Memory) → celled_act acting range act (back c) ≡ keeping back (celled_act acting range (act_anew here act) c)
    act-same (Own simple) c = sym (keeping-twice back (own_is c) (acting.act simple c.own))
    act-same (Set cell value) c = ap (λ z. got_unit z) (put-same range cell value c)
    act-same (Take cell amount) c = taken-same range cell c (acting.count amount c.own)
    act-same (Lower cell) c = ap (λ z. got_unit z) (put-same range cell (c.cells range (numbers range cell) - 1) c)

    test-same : (test : Test) (c : Celled Memory) → celled_test acting range test (back c) ≡ keeping back (celled_test acting range (test_anew here test) c)
    test-same (Holds cond) c = sym (keeping-twice back (own_is c) (acting.test cond c.own))
    test-same (Not test) c = ap (giving not) (test-same test c) ∙ giving-keeping not back (celled_test acting range (test_anew here test) c)
    test-same (Is cell value) c = refl
    test-same (Above cell) c = refl

    pick-same : (picker : Picker) (c : Celled Memory) → celled_pick acting range picker (back c) ≡ keeping back (celled_pick acting range (picker_anew here picker) c)
    pick-same (If test) c = ap (giving arm_of) (test-same test c) ∙ giving-keeping arm_of back (celled_test acting range (test_anew here test) c)
    pick-same (By chooser) c = sym (keeping-twice back (own_is c) (acting.choose chooser c.own))
    pick-same (ByCell cell) c = refl

    carries : Carries (celled acting range) (anew (celled acting range) here) back
    carries = record { act = act-same; test = test-same; pick = pick-same; count = λ amount c. sym (keeping-twice back (own_is c) (acting.count amount c.own)) }

  -- A walk of the family's own items, over the memory in which cells are numbered anew.

  abbrev Walking : Type 0
  Walking = Walk Memory Left

  abbrev again : Family
  again = numbered_anew numbers family

  abbrev level_anew : Level → Level
  level_anew l = record { range = l.range; items = items_anew (numbers l.range) l.items; end = end_anew (numbers l.range) l.end }

  abbrev levels_anew : List Level → List Level
  levels_anew [] = []
  levels_anew (l ∷ ls) = level_anew l ∷ levels_anew ls

  abbrev old : Walking → Walking
  old w = record { level = w.level; callers = w.callers; memory = back w.memory; run = w.run }

  abbrev new : Walking → Walking
  new w = record { level = level_anew w.level; callers = levels_anew w.callers; memory = w.memory; run = w.run }

  abbrev goes_mixed : Way (Celled Memory) → Walking → Walking
  goes_mixed way w = walk_goes acting left family way w

  abbrev mixed_end : End → Walking → Walking
  mixed_end (Pick picker arms) w = picks acting left family arms (celled_pick acting w.level.range (picker_anew (numbers w.level.range) picker) w.memory) w
  mixed_end (Jump to) w = walk_end acting left family (Jump to) w
  mixed_end Return w = walk_end acting left family Return w
  mixed_end Stop w = walk_end acting left family Stop w
  mixed_end Dead w = walk_end acting left family Dead w

  abbrev mixed_items : List Item → Walking → Walking
  mixed_items [] w = mixed_end w.level.end w
  mixed_items (x ∷ rest) w = goes_mixed (item_way (anew (celled acting w.level.range) (numbers w.level.range)) x rest w.memory) w

  abbrev mixed_by : Standing Left → Walking → Walking
  mixed_by Going w = mixed_items w.level.items w
  mixed_by (Over ending) w = w

  abbrev mixed : Walking → Walking
  mixed w = mixed_by w.run.standing w

  old-goes : (way : Way (Celled Memory)) (w : Walking) → walk_goes acting left family (over_memory back way) (old w) ≡ old (goes_mixed way w)
  old-goes (On t m items) w = refl
  old-goes (Halts t how m) w = refl
  old-goes (Into e x items) w = refl
  old-goes (To t m to) w = refl
  old-goes (ToEnd t m to) w = refl

  old-picked : (found : Option Tree) (w : Walking) → picked acting left family found (old w) ≡ old (picked acting left family found w)
  old-picked None w = refl
  old-picked (Some t) w = refl

  old-picks : (arms : Trees) (a : Tried (Celled Memory) ℕ) (w : Walking) → picks acting left family arms (keeping back a) (old w) ≡ old (picks acting left family arms a w)
  old-picks arms (Got t k m) w = old-picked (tree_at arms k) (record w { memory = m; run = record { trace = w.run.trace ++ t; standing = w.run.standing } })
  old-picks arms (Ends t kind m) w = refl

  old-returns : (callers : List Level) (w : Walking) → returns acting left family callers (old w) ≡ old (returns acting left family callers w)
  old-returns [] w = refl
  old-returns (top ∷ others) w = refl

  old-end : (end : End) (w : Walking) → walk_end acting left family end (old w) ≡ old (mixed_end end w)
  old-end (Pick picker arms) w = ap (λ a. picks acting left family arms a (old w)) (pick-same w.level.range picker w.memory) ∙ old-picks arms (celled_pick acting w.level.range (picker_anew (numbers w.level.range) picker) w.memory) w
  old-end (Jump to) w = refl
  old-end Return w = old-returns w.callers w
  old-end Stop w = refl
  old-end Dead w = refl

  old-items : (items : List Item) (w : Walking) → walk_items acting left family items (old w) ≡ old (mixed_items items w)
  old-items [] w = old-end w.level.end w
  old-items (x ∷ rest) w =
      ap (λ way. walk_goes acting left family way (old w)) (item-carried (celled acting w.level.range) (anew (celled acting w.level.range) (numbers w.level.range)) back (carries w.level.range) x rest w.memory)
      ∙ old-goes (item_way (anew (celled acting w.level.range) (numbers w.level.range)) x rest w.memory) w

  old-by : (standing : Standing Left) (w : Walking) → walk_by acting left family standing (old w) ≡ old (mixed_by standing w)
  old-by Going w = old-items w.level.items w
  old-by (Over ending) w = refl

  body-before : (number : ℕ → ℕ) (ss : Stmts) → before (stmts_anew number ss) [] ≡ items_anew number (before ss [])
  body-before number none = refl
  body-before number (also s ss) = ap (λ r. Do (stmt_anew number s) ∷ r) (body-before number ss)

  level-anew : (range : Range) (t : Tree) → level_at range (tree_anew (numbers range) t) ≡ level_anew (level_at range t)
  level-anew range (tree body end) = ap (λ items. record { range = range; items = items; end = end_anew (numbers range) end }) (body-before (numbers range) body)

  new-goes : (way : Way (Celled Memory)) (w : Walking) → walk_goes acting left again (over_items (items_anew (numbers w.level.range)) way) (new w) ≡ new (goes_mixed way w)
  new-goes (On t m items) w = refl
  new-goes (Halts t how m) w = refl
  new-goes (Into e x items) w =
      ap (λ l. record { level = l; callers = level_anew (record { range = w.level.range; items = items; end = w.level.end }) ∷ levels_anew w.callers; memory = w.memory; run = w.run }) (level-anew (Part e x) (family.node (Part e x) (family.entry (Part e x))))
  new-goes (To t m to) w = refl
  new-goes (ToEnd t m to) w = refl

  abbrev found_anew : (ℕ → ℕ) → Option Tree → Option Tree
  found_anew number None = None
  found_anew number (Some t) = Some (tree_anew number t)

  found-anew : (number : ℕ → ℕ) (arms : Trees) (k : ℕ) → tree_at (trees_anew number arms) k ≡ found_anew number (tree_at arms k)
  found-anew number no_more k = refl
  found-anew number (more (tree body end) others) zero = refl
  found-anew number (more (tree body end) others) (suc k) = found-anew number others k

  new-picked : (found : Option Tree) (w : Walking) → picked acting left again (found_anew (numbers w.level.range) found) (new w) ≡ new (picked acting left family found w)
  new-picked None w = refl
  new-picked (Some t) w = ap (λ l. record { level = l; callers = levels_anew w.callers; memory = w.memory; run = w.run }) (level-anew w.level.range t)

  new-picks : (arms : Trees) (a : Tried (Celled Memory) ℕ) (w : Walking) → picks acting left again (trees_anew (numbers w.level.range) arms) a (new w) ≡ new (picks acting left family arms a w)
  new-picks arms (Got t k m) w =
      let shown : Walking = record w { memory = m; run = record { trace = w.run.trace ++ t; standing = w.run.standing } } in
      ap (λ o. picked acting left again o (new shown)) (found-anew (numbers w.level.range) arms k) ∙ new-picked (tree_at arms k) shown
  new-picks arms (Ends t kind m) w = refl

  new-returns : (callers : List Level) (w : Walking) → returns acting left again (levels_anew callers) (new w) ≡ new (returns acting left family callers w)
  new-returns [] w = refl
  new-returns (top ∷ others) w = refl

  new-end : (end : End) (w : Walking) → walk_end acting left again (end_anew (numbers w.level.range) end) (new w) ≡ new (mixed_end end w)
  new-end (Pick picker arms) w = new-picks arms (celled_pick acting w.level.range (picker_anew (numbers w.level.range) picker) w.memory) w
  new-end (Jump to) w = ap (λ l. record { level = l; callers = levels_anew w.callers; memory = w.memory; run = w.run }) (level-anew w.level.range (family.node w.level.range to))
  new-end Return w = new-returns w.callers w
  new-end Stop w = refl
  new-end Dead w = refl

  new-items : (items : List Item) (w : Walking) → walk_items acting left again (items_anew (numbers w.level.range) items) (new w) ≡ new (mixed_items items w)
  new-items [] w = new-end w.level.end w
  new-items (x ∷ rest) w =
      ap (λ way. walk_goes acting left again way (new w)) (item-numbered (celled acting w.level.range) (numbers w.level.range) x rest w.memory)
      ∙ new-goes (item_way (anew (celled acting w.level.range) (numbers w.level.range)) x rest w.memory) w

  new-by : (standing : Standing Left) (w : Walking) → walk_by acting left again standing (new w) ≡ new (mixed_by standing w)
  new-by Going w = new-items w.level.items w
  new-by (Over ending) w = refl

  old-steps : (n : ℕ) (w : Walking) → iterate (walk_step acting left family) n (old w) ≡ old (iterate mixed n w)
  old-steps zero w = refl
  old-steps (suc n) w = ap (iterate (walk_step acting left family) n) (old-by w.run.standing w) ∙ old-steps n (mixed w)

  new-steps : (n : ℕ) (w : Walking) → iterate (walk_step acting left again) n (new w) ≡ new (iterate mixed n w)
  new-steps zero w = refl
  new-steps (suc n) w = ap (iterate (walk_step acting left again) n) (new-by w.run.standing w) ∙ new-steps n (mixed w)

  pub same-numbered : (range : Range) (m : Celled Memory) (n : ℕ) → (iterate (walk_step acting left again) n (walk_begun acting left again range m)).run ≡ (iterate (walk_step acting left family) n (walk_begun acting left family range (back m))).run
  same-numbered range m n =
      let w : Walking = walk_begun acting left family range m in
      let e : walk_begun acting left again range m ≡ new w =
      ap (λ l. record { level = l; callers = []; memory = m; run = record { trace = []; standing = Going } }) (level-anew range (family.node range (family.entry range))) in
      ap (λ z. (iterate (walk_step acting left again) n z).run) e
      ∙ ap (λ z. z.run) (new-steps n w)
      ∙ sym (ap (λ z. z.run) (old-steps n w))
