-- Inline keeps what a walk does, and its units within a factor.
use Rattle.std.proofs.Common.{◌≡◌, ℕ, zero, suc, ◌+◌, ◌*◌, ◌≤◌, true, false, if◌then◌else◌, ◌==◌, List, [], ◌∷◌, ◌++◌, refl, ap, sym, ◌∙◌, subst, arith, append-nil, inl, inr}
use Rattle.control_flow_theory.specs.runs.Run.{Going}
use Rattle.control_flow_theory.specs.runs.Machine.{iterate}
use Rattle.control_flow_theory.specs.semantics.Outcome.{Trace, How, Normally, Abend, Ending, Stopped, Returned, Lost, Standing, Tried, Got}
use Rattle.control_flow_theory.specs.semantics.Outcome as outcome
use Rattle.control_flow_theory.specs.language.Language.{Range, Part, same_range}
use Rattle.control_flow_theory.specs.semantics.Doing.{Acting, Celled, celled}
use Rattle.control_flow_theory.specs.language.Items.{Item, before}
use Rattle.control_flow_theory.specs.semantics.Items.{Way, On, Halts, Into, To, ToEnd, item_way}
use Rattle.control_flow_theory.specs.semantics.Graph.{Label, Tree, tree, End, Pick, Jump, Return, Stop, Dead, Trees, no_more, more, body_of, end_of, Family}
use Rattle.control_flow_theory.specs.semantics.Walk.{Level, Walk, tree_at, level_at, level_of, walk_goes, picked, picks, walk_step, walk_machine}
use Rattle.control_flow_theory.specs.graph_rules.Fits.{TreeFits, EndFits, TreesFit, ItemsFit, WayFits}
use Rattle.control_flow_theory.specs.graph_rules.Inlines.{InlinesEnd, InlinesTree, InlinesTrees, PlainEnd, PlainTree, PlainTrees, Here, Inlined}
use Rattle.control_flow_theory.specs.graph_rules.Charged.{spent, Matched, Charges}
use Rattle.control_flow_theory.specs.graph_rules.Costs.{items_cost, item_cost, end_cost, cost, parted}
use Rattle.control_flow_theory.specs.graph_rules.Walked.{walked, In, Ordered}
use Rattle.control_flow_theory.proofs.graph_rules_lemmas.walks.Charges.{units-matched}
use Rattle.control_flow_theory.proofs.semantics_lemmas.Grown.{walks-grow}
use Rattle.control_flow_theory.proofs.graph_rules_lemmas.walks.Ways.{before-append, further, item-further, item-fits, before-fits}
use Rattle.control_flow_theory.proofs.graph_rules_lemmas.walks.Fitting.{tree-more}
use Rattle.control_flow_theory.proofs.graph_rules_lemmas.walks.Orders.{Behind, ordered-fits, root-fits, Calm, cost-append, body-calm}
use Rattle.control_flow_theory.proofs.graph_rules_lemmas.walks.Walks.{walked-pays, cost-most}
use Rattle.control_flow_theory.proofs.semantics_lemmas.Ranges.{range-tells, eq-self, same-self}
use Rattle.std.proofs.lemmas.Bool.Decides.{eqb_tells}
use Rattle.control_flow_theory.proofs.graph_rules_lemmas.walks.Frees.{frees, frees-root, WayFrees, item-frees, IntoCosts, item-into}

module _ {Memory Left : Type 0} (acting : Acting Memory) (left : Memory → Left) (Reads Writes : Range → ℕ → Type 0) (range : Range) (label : Label) (g h : Family) (order : List Range)
    (ordered : Ordered Reads Writes g order) (inlined : Inlined range label g h) where
  abbrev State : Type 0
  State = Walk Memory Left

  abbrev calls : Range → Type 0
  calls to = In to order

  abbrev Fit : Range → List Item → Type 0
  Fit r = ItemsFit calls (Reads r) (Writes r)

  abbrev EndFit : Range → End → Type 0
  EndFit r = EndFits calls (Reads r) (Writes r)

  abbrev node : Tree
  node = g.node range label

  abbrev here : Range → Label → Type 0
  here r = Here range label r

  -- the first level is the inlined one
  pub record LevelIs (a b : Level) : Type 0 where
    pub range_is : a.range ≡ b.range
    pub inside : In b.range order
    pub fits : Fit b.range b.items
    pub end_fits : EndFit b.range b.end
    pub tail : List Item
    pub items : a.items ≡ b.items ++ tail
    pub stands : InlinesEnd (here b.range) node b.end tail a.end

  abbrev CallersAre : List Level → List Level → Type 0
  CallersAre [] [] = Unit {0}
  CallersAre [] (b ∷ olds) = ⊥
  CallersAre (a ∷ news) [] = ⊥
  CallersAre (a ∷ news) (b ∷ olds) = LevelIs a b × CallersAre news olds

  pub record Related (w v : State) : Type 0 where
    pub level : LevelIs w.level v.level
    pub callers : CallersAre w.callers v.callers
    pub memory : w.memory ≡ v.memory
    pub run : w.run ≡ v.run

  -- What is owed: a jump that stands in a level, and a PERFORM that takes no unit.

  abbrev jump_weight : Range → Label → ℕ
  jump_weight r to = if same_range r range then (if to == label then 1 else 0) else 0

  abbrev end_weight : Range → End → ℕ
  end_weight r (Pick picker arms) = 0
  end_weight r (Jump to) = jump_weight r to
  end_weight r Return = 0
  end_weight r Stop = 0
  end_weight r Dead = 0

  abbrev level_weight : Level → ℕ
  level_weight b = end_weight b.range b.end

  abbrev callers_weight : List Level → ℕ
  callers_weight [] = 0
  callers_weight (b ∷ olds) = level_weight b + callers_weight olds

  abbrev callers_free : List Level → ℕ
  callers_free [] = 0
  callers_free (a ∷ news) = frees a.items + callers_free news

  abbrev owed : State → State → ℕ
  owed w v = (frees w.level.items + callers_free w.callers) + (level_weight v.level + callers_weight v.callers)

  weight-most : (r : Range) (end : End) → end_weight r end ≤ 1
  weight-most r (Pick picker arms) = omega arith
  weight-most r (Jump to) = elim (same_range r range) as (λ a. (if a then (if to == label then 1 else 0) else 0) ≤ 1) [
    | true ↦ elim (to == label) as (λ b. (if b then 1 else 0) ≤ 1) [ true ↦ omega arith | false ↦ omega arith ]
    | false ↦ omega arith
  ]
  weight-most r Return = omega arith
  weight-most r Stop = omega arith
  weight-most r Dead = omega arith

  weight-here : (r : Range) (to : Label) → here r to → jump_weight r to ≡ 1
  weight-here r to is =
      ap (λ x. if same_range x range then (if to == label then 1 else 0) else 0) is.0 ∙ ap (λ x. if same_range range range then (if x == label then 1 else 0) else 0) is.1
      ∙ ap (λ t. if t then (if label == label then 1 else 0) else 0) (same-self range) ∙ ap (λ t. if t then 1 else 0) (eq-self label)

  weight-plain : (r : Range) (end : End) → PlainEnd (here r) end → end_weight r end ≡ 0
  weight-plain r (Pick picker arms) p = refl
  weight-plain r (Jump to) p = elim (range-tells r range) [
    | inr d ↦ ap (λ t. if t then (if to == label then 1 else 0) else 0) d.0
    | inl d ↦ ap (λ t. if t then (if to == label then 1 else 0) else 0) d.0 ∙ elim (eqb_tells to label) [
      | inl e ↦ absurd (p (d.1, e.1))
      | inr e ↦ ap (λ t. if t then 1 else 0) e.0
    ]
  ]
  weight-plain r Return p = refl
  weight-plain r Stop p = refl
  weight-plain r Dead p = refl

  -- a tree without such a jump is inlined as itself
  mutual
    plain-end : (r : Range) (end : End) → PlainEnd (here r) end → InlinesEnd (here r) node end [] end
    plain-end r (Pick picker arms) p = (arms, refl, refl, plain-trees r arms p)
    plain-end r (Jump to) p = inl (p, refl, refl)
    plain-end r Return p = (refl, refl)
    plain-end r Stop p = (refl, refl)
    plain-end r Dead p = (refl, refl)

    plain-tree : (r : Range) (t : Tree) → PlainTree (here r) t → InlinesTree (here r) node t (before (body_of t) []) (end_of t)
    plain-tree r (tree body end) p = ([], refl, plain-end r end p)

    plain-trees : (r : Range) (arms : Trees) → PlainTrees (here r) arms → InlinesTrees (here r) node arms arms
    plain-trees r no_more p = refl
    plain-trees r (more first others) p = (first, others, refl, plain-tree r first p.0, plain-trees r others p.1)

  plain-of : (r : Range) (t : Tree) → PlainTree (here r) t → PlainEnd (here r) (end_of t)
  plain-of r (tree body end) p = p

  abbrev at : Level → List Level → Celled Memory → Trace → Standing Left → State
  at level callers memory trace standing = record { level = level; callers = callers; memory = memory; run = record { trace = trace; standing = standing } }

  abbrev lev : Range → List Item → End → Level
  lev r items end = record { range = r; items = items; end = end }

  abbrev step_h : State → State
  step_h = walk_step acting left h

  abbrev step_g : State → State
  step_g = walk_step acting left g

  node-fits : (r : Range) (l : Label) → In r order → TreeFits calls (Reads r) (Writes r) (g.node r l)
  node-fits r l inside = tree-more (Behind order r) calls (Reads r) (Reads r) (Writes r) (Writes r) (λ to b. b.0) (λ c k. k) (λ c k. k) (g.node r l) (ordered-fits g Reads Writes order ordered r inside l)

  tree-level : (r : Range) (t : Tree) (items : List Item) (now : End) → In r order → TreeFits calls (Reads r) (Writes r) t → InlinesTree (here r) node t items now → LevelIs (lev r items now) (level_at r t)
  tree-level r (tree body end) items now inside fits j = record {
    range_is = refl;
    inside = inside;
    fits = before-fits calls (Reads r) (Writes r) body [] fits.0 tt;
    end_fits = fits.1;
    tail = j.0;
    items = j.1 ∙ sym (before-append body [] j.0);
    stands = j.2;
  }

  node-level : (r : Range) (l : Label) → In r order → (here r l → ⊥) → LevelIs (level_at r (h.node r l)) (level_at r (g.node r l))
  node-level r l inside other = tree-level r (g.node r l) (before (body_of (h.node r l)) []) (end_of (h.node r l)) inside (node-fits r l inside) (inlined.nodes r l other)

  entry-level : (r : Range) → In r order → LevelIs (level_of h r) (level_of g r)
  entry-level r inside =
      subst (λ l. LevelIs (level_at r (h.node r l)) (level_of g r)) (sym (inlined.entries r))
      (node-level r (g.entry r) inside (λ k. inlined.inside (sym k.1 ∙ ap (λ x. g.entry x) k.0)))

  -- both steps, and what is owed afterwards
  abbrev Steps : State → State → ℕ → Type 0
  Steps w v c = Related (step_h w) (step_g v) × (owed (step_h w) (step_g v) ≤ 7 * c + owed w v)

  abbrev Ends : State → State → ℕ → Type 0
  Ends w v most = Related w v × (owed w v ≤ most)

  still : (r : Range) (end : End) (tail : List Item) (now : End) → In r order → EndFit r end → InlinesEnd (here r) node end tail now → LevelIs (lev r tail now) (lev r [] end)
  still r end tail now inside fits j = record { range_is = refl; inside = inside; fits = tt; end_fits = fits; tail = tail; items = refl; stands = j }

  module _ (news olds : List Level) (c : CallersAre news olds) where
    abbrev others : ℕ
    others = callers_free news + callers_weight olds

    way-inlines : (r : Range) (item : Item) (rest tail : List Item) (end now : End) (memory : Celled Memory) (trace : Trace) → In r order → Fit r (item ∷ rest) → EndFit r end → InlinesEnd (here r) node end tail now → (cost_is : ℕ) → cost_is ≡ item_cost (celled acting r) item (rest ++ tail) memory →
        (way : Way (Celled Memory)) → WayFits calls (Reads r) (Writes r) way → WayFrees (frees (rest ++ tail) + item_cost (celled acting r) item (rest ++ tail) memory) (further tail way) → IntoCosts (celled acting r) item (rest ++ tail) memory (further tail way) →
        Ends (walk_goes acting left h (further tail way) (at (lev r (item ∷ (rest ++ tail)) now) news memory trace Going)) (walk_goes acting left g way (at (lev r (item ∷ rest) end) olds memory trace Going))
        (7 * cost_is + owed (at (lev r (item ∷ (rest ++ tail)) now) news memory trace Going) (at (lev r (item ∷ rest) end) olds memory trace Going))
    way-inlines r item rest tail end now memory trace inside fits end_fits j cost_is e (On shown m items) w f i = (
      record { level = record { range_is = refl; inside = inside; fits = w; end_fits = end_fits; tail = tail; items = refl; stands = j }; callers = c; memory = refl; run = refl },
      omega (arith, f, e),
    )
    way-inlines r item rest tail end now memory trace inside fits end_fits j cost_is e (Halts shown how m) w f i = (
      record { level = record { range_is = refl; inside = inside; fits = fits; end_fits = end_fits; tail = tail; items = refl; stands = j }; callers = c; memory = refl; run = refl },
      omega arith,
    )
    way-inlines r item rest tail end now memory trace inside fits end_fits j cost_is e (Into entry exit items) w f i =
        let to = Part entry exit in
        let a = frees-root (body_of (h.node to (h.entry to))) in
        let b = weight-most to (end_of (g.node to (g.entry to))) in
        let d = ap frees i.0 in let k = i.1 in (
          record { level = entry-level to w.0; callers = (record { range_is = refl; inside = inside; fits = w.1; end_fits = end_fits; tail = tail; items = refl; stands = j }, c); memory = refl; run = refl },
          omega (arith, a, b, d, k, e),
        )
    way-inlines r item rest tail end now memory trace inside fits end_fits j cost_is e (To shown m paragraph) w f i = absurd w
    way-inlines r item rest tail end now memory trace inside fits end_fits j cost_is e (ToEnd shown m paragraph) w f i = absurd w

    item-inlines : (r : Range) (item : Item) (rest tail : List Item) (end now : End) (memory : Celled Memory) (trace : Trace) → In r order → Fit r (item ∷ rest) → EndFit r end → InlinesEnd (here r) node end tail now → Calm (celled acting r) tail →
        Steps (at (lev r (item ∷ (rest ++ tail)) now) news memory trace Going) (at (lev r (item ∷ rest) end) olds memory trace Going) (item_cost (celled acting r) item rest memory)
    item-inlines r item rest tail end now memory trace inside fits end_fits j calm =
        let doing = celled acting r in
        let v = at (lev r (item ∷ rest) end) olds memory trace Going in
        let w = at (lev r (item ∷ (rest ++ tail)) now) news memory trace Going in
        let e = item-further doing tail calls (Reads r) (Writes r) item rest memory fits.0 in
        subst (λ way. Ends (walk_goes acting left h way w) (step_g v) (7 * item_cost doing item rest memory + owed w v)) (sym e)
        (way-inlines r item rest tail end now memory trace inside fits end_fits j (item_cost doing item rest memory) (sym (cost-append doing item rest tail memory calm)) (item_way doing item rest memory)
        (item-fits calls (Reads r) (Writes r) doing item rest memory fits.0 fits.1)
        (subst (WayFrees (frees (rest ++ tail) + item_cost doing item (rest ++ tail) memory)) e (item-frees doing calls (Reads r) (Writes r) item (rest ++ tail) memory (fits.0)))
        (subst (IntoCosts doing item (rest ++ tail) memory) e (item-into doing item (rest ++ tail) memory)))

    picked-inlines : (r : Range) (arms news_arms : Trees) (level other : Level) (k : ℕ) (memory : Celled Memory) (trace : Trace) → In r order → level.range ≡ r → other.range ≡ r → TreesFit calls (Reads r) (Writes r) arms → InlinesTrees (here r) node arms news_arms → LevelIs other level →
        Ends (picked acting left h (tree_at news_arms k) (at other news memory trace Going)) (picked acting left g (tree_at arms k) (at level olds memory trace Going)) (1 + (frees other.items + level_weight level) + others)
    picked-inlines r no_more news_arms level other k memory trace inside is other_is fits j lj =
        subst (λ a. Ends (picked acting left h (tree_at a k) (at other news memory trace Going)) (picked acting left g (tree_at no_more k) (at level olds memory trace Going)) (1 + (frees other.items + level_weight level) + others)) (sym j)
        (record { level = lj; callers = c; memory = refl; run = refl }, omega arith)
    picked-inlines r (more first rest) news_arms level other k memory trace inside is other_is fits j lj =
        subst (λ a. Ends (picked acting left h (tree_at a k) (at other news memory trace Going)) (picked acting left g (tree_at (more first rest) k) (at level olds memory trace Going)) (1 + (frees other.items + level_weight level) + others)) (sym j.2)
        (by (λ k. picked-inlines r rest j.1 level other k memory trace inside is other_is fits.1 j.4 lj) k)
      where
        first-ends : Ends (at (level_at other.range j.0) news memory trace Going) (at (level_at level.range first) olds memory trace Going) (1 + (frees other.items + level_weight level) + others)
        first-ends =
            subst (λ x. Ends (at (level_at other.range j.0) news memory trace Going) (at (level_at x first) olds memory trace Going) (1 + (frees other.items + level_weight level) + others)) (sym is)
            (subst (λ y. Ends (at (level_at y j.0) news memory trace Going) (at (level_at r first) olds memory trace Going) (1 + (frees other.items + level_weight level) + others)) (sym other_is) (
              record { level = tree-level r first (before (body_of j.0) []) (end_of j.0) inside fits.0 j.3; callers = c; memory = refl; run = refl },
              (let a = frees-root (body_of j.0) in let b = weight-most r (end_of first) in omega (arith, a, b)),
            ))

        by : ((k : ℕ) → Ends (picked acting left h (tree_at j.1 k) (at other news memory trace Going)) (picked acting left g (tree_at rest k) (at level olds memory trace Going)) (1 + (frees other.items + level_weight level) + others)) → (k : ℕ) →
            Ends (picked acting left h (tree_at (more j.0 j.1) k) (at other news memory trace Going)) (picked acting left g (tree_at (more first rest) k) (at level olds memory trace Going)) (1 + (frees other.items + level_weight level) + others)
        by next zero = first-ends
        by next (suc k) = next k

    picks-inlines : (r : Range) (arms news_arms : Trees) (level other : Level) (memory : Celled Memory) (trace : Trace) → In r order → level.range ≡ r → other.range ≡ r → TreesFit calls (Reads r) (Writes r) arms → InlinesTrees (here r) node arms news_arms → LevelIs other level → (value : Tried (Celled Memory) ℕ) →
        Ends (picks acting left h news_arms value (at other news memory trace Going)) (picks acting left g arms value (at level olds memory trace Going)) (1 + (frees other.items + level_weight level) + others)
    picks-inlines r arms news_arms level other memory trace inside is other_is fits j lj (Got shown k m) = picked-inlines r arms news_arms level other k m (trace ++ shown) inside is other_is fits j lj
    picks-inlines r arms news_arms level other memory trace inside is other_is fits j lj (outcome.Ends shown kind m) = (record { level = lj; callers = c; memory = refl; run = refl }, omega arith)

  -- the first walk is at what stands in place of an end, the second at the end
  abbrev EndGoes : Range → End → List Item → End → List Level → List Level → Celled Memory → Trace → Type 0
  EndGoes r end tail now news olds memory trace = Steps (at (lev r tail now) news memory trace Going) (at (lev r [] end) olds memory trace Going) (end_cost (celled acting r) end)

  goes : (r : Range) (end : End) (tail list : List Item) (now is : End) (news olds : List Level) (memory : Celled Memory) (trace : Trace) → tail ≡ list → now ≡ is → EndGoes r end list is news olds memory trace → EndGoes r end tail now news olds memory trace
  goes r end tail list now is news olds memory trace e f k =
      subst (λ t. EndGoes r end t now news olds memory trace) (sym e) (subst (λ n. EndGoes r end list n news olds memory trace) (sym f) k)

  -- the end isn't such a jump
  abbrev Other : Range → End → Type 0
  Other r (Pick picker arms) = Unit {0}
  Other r (Jump to) = here r to → ⊥
  Other r Return = Unit {0}
  Other r Stop = Unit {0}
  Other r Dead = Unit {0}

  end-inlines : (r : Range) (end : End) (tail : List Item) (now : End) (news olds : List Level) (memory : Celled Memory) (trace : Trace) → In r order → EndFit r end → InlinesEnd (here r) node end tail now → Other r end → CallersAre news olds → EndGoes r end tail now news olds memory trace
  end-inlines r (Pick picker arms) tail now news olds memory trace inside fits j other c =
      goes r (Pick picker arms) tail [] now (Pick picker j.0) news olds memory trace j.1 j.2
      (let k = picks-inlines news olds c r arms j.0 (lev r [] (Pick picker arms)) (lev r [] (Pick picker j.0)) memory trace inside refl refl fits.1 j.3
      (still r (Pick picker arms) [] (Pick picker j.0) inside fits (j.0, refl, refl, j.3)) ((celled acting r).pick picker memory) in
      (k.0, (let x = k.1 in omega (arith, x))))
  end-inlines r (Jump to) tail now news olds memory trace inside fits (inl j) other c =
      goes r (Jump to) tail [] now (Jump to) news olds memory trace j.1 j.2 (
        record { level = node-level r to inside j.0; callers = c; memory = refl; run = refl },
        (let a = frees-root (body_of (h.node r to)) in let b = weight-most r (end_of (g.node r to)) in omega (arith, a, b)),
      )
  end-inlines r (Jump to) tail now news olds memory trace inside fits (inr j) other c = absurd (other j.0)
  end-inlines r Return tail now [] [] memory trace inside fits j other c =
      goes r Return tail [] now Return [] [] memory trace j.0 j.1 (record { level = still r Return [] Return inside fits (refl, refl); callers = tt; memory = refl; run = refl }, omega arith)
  end-inlines r Return tail now [] (b ∷ olds) memory trace inside fits j other c = absurd c
  end-inlines r Return tail now (a ∷ news) [] memory trace inside fits j other c = absurd c
  end-inlines r Return tail now (a ∷ news) (b ∷ olds) memory trace inside fits j other c =
      goes r Return tail [] now Return (a ∷ news) (b ∷ olds) memory trace j.0 j.1 (record { level = c.0; callers = c.1; memory = refl; run = refl }, omega arith)
  end-inlines r Stop tail now news olds memory trace inside fits j other c =
      goes r Stop tail [] now Stop news olds memory trace j.0 j.1 (record { level = still r Stop [] Stop inside fits (refl, refl); callers = c; memory = refl; run = refl }, omega arith)
  end-inlines r Dead tail now news olds memory trace inside fits j other c =
      goes r Dead tail [] now Dead news olds memory trace j.0 j.1 (record { level = still r Dead [] Dead inside fits (refl, refl); callers = c; memory = refl; run = refl }, omega arith)

  tail-calm : (r : Range) (end : End) (tail : List Item) (now : End) → InlinesEnd (here r) node end tail now → Calm (celled acting r) tail
  tail-calm r (Pick picker arms) tail now j = subst (Calm (celled acting r)) (sym j.1) refl
  tail-calm r (Jump to) tail now (inl j) = subst (Calm (celled acting r)) (sym j.1) refl
  tail-calm r (Jump to) tail now (inr j) = subst (Calm (celled acting r)) (sym j.1) (body-calm (celled acting r) (body_of node))
  tail-calm r Return tail now j = subst (Calm (celled acting r)) (sym j.0) refl
  tail-calm r Stop tail now j = subst (Calm (celled acting r)) (sym j.0) refl
  tail-calm r Dead tail now j = subst (Calm (celled acting r)) (sym j.0) refl

  -- one step of both
  one-inlines : (r : Range) (items : List Item) (end : End) (tail : List Item) (now : End) (news olds : List Level) (memory : Celled Memory) (trace : Trace) → In r order → Fit r items → EndFit r end → InlinesEnd (here r) node end tail now → ((items ≡ []) → Other r end) → CallersAre news olds →
      Steps (at (lev r (items ++ tail) now) news memory trace Going) (at (lev r items end) olds memory trace Going) (items_cost (celled acting r) items end memory)
  one-inlines r [] end tail now news olds memory trace inside fits end_fits j other c = end-inlines r end tail now news olds memory trace inside end_fits j (other refl) c
  one-inlines r (item ∷ rest) end tail now news olds memory trace inside fits end_fits j other c = item-inlines news olds c r item rest tail end now memory trace inside fits end_fits j (tail-calm r end tail now j)

  end-cost-is : (r : Range) (end : End) (tail : List Item) (now : End) (memory : Celled Memory) → InlinesEnd (here r) node end tail now → Other r end → items_cost (celled acting r) tail now memory ≡ end_cost (celled acting r) end
  end-cost-is r (Pick picker arms) tail now memory j other = ap (λ t. items_cost (celled acting r) t now memory) j.1 ∙ ap (λ e. end_cost (celled acting r) e) j.2
  end-cost-is r (Jump to) tail now memory (inl j) other = ap (λ t. items_cost (celled acting r) t now memory) j.1 ∙ ap (λ e. end_cost (celled acting r) e) j.2
  end-cost-is r (Jump to) tail now memory (inr j) other = absurd (other j.0)
  end-cost-is r Return tail now memory j other = ap (λ t. items_cost (celled acting r) t now memory) j.0 ∙ ap (λ e. end_cost (celled acting r) e) j.1
  end-cost-is r Stop tail now memory j other = ap (λ t. items_cost (celled acting r) t now memory) j.0 ∙ ap (λ e. end_cost (celled acting r) e) j.1
  end-cost-is r Dead tail now memory j other = ap (λ t. items_cost (celled acting r) t now memory) j.0 ∙ ap (λ e. end_cost (celled acting r) e) j.1

  cost-is : (r : Range) (items : List Item) (end : End) (tail : List Item) (now : End) (memory : Celled Memory) → InlinesEnd (here r) node end tail now → ((items ≡ []) → Other r end) → items_cost (celled acting r) (items ++ tail) now memory ≡ items_cost (celled acting r) items end memory
  cost-is r [] end tail now memory j other = end-cost-is r end tail now memory j (other refl)
  cost-is r (item ∷ rest) end tail now memory j other = cost-append (celled acting r) item rest tail memory (tail-calm r end tail now j)

  abbrev spent_g : ℕ → State → ℕ
  spent_g = spent step_g (cost acting)

  abbrev Moves : State → State → Type 0
  Moves w v = (j : ℕ) × Related (step_h w) (iterate step_g j v)
      × (spent_g j v + owed (step_h w) (iterate step_g j v) ≤ 8 * cost acting w + owed w v)
      × (cost acting w + 0 ≤ 8 * spent_g j v + 0)
      × (spent_g j v ≤ owed w v + 2)

  charge-one : (c d o p : ℕ) → d ≡ c → p ≤ 7 * c + o → c ≤ 2 → (c + 0 + p ≤ 8 * d + o) × (d + 0 ≤ 8 * (c + 0) + 0) × (c + 0 ≤ o + 2)
  charge-one c d o p e h k = (omega (arith, e, h), omega (arith, e), omega (arith, k))

  charge-two : (c d o p q : ℕ) → d ≡ c → p ≤ 7 * c + q → q + 1 ≤ o → c ≤ 2 → (1 + (c + 0) + p ≤ 8 * d + o) × (d + 0 ≤ 8 * (1 + (c + 0)) + 0) × (1 + (c + 0) ≤ o + 2)
  charge-two c d o p q e h f k = (omega (arith, e, h, f), omega (arith, e), omega (arith, f, k))

  move-one : (r : Range) (items : List Item) (end : End) (tail : List Item) (now : End) (news olds : List Level) (memory : Celled Memory) (trace : Trace) → In r order → Fit r items → EndFit r end → InlinesEnd (here r) node end tail now → ((items ≡ []) → Other r end) → CallersAre news olds →
      Moves (at (lev r (items ++ tail) now) news memory trace Going) (at (lev r items end) olds memory trace Going)
  move-one r items end tail now news olds memory trace inside fits end_fits j other c =
      let w = at (lev r (items ++ tail) now) news memory trace Going in
      let v = at (lev r items end) olds memory trace Going in
      let s = one-inlines r items end tail now news olds memory trace inside fits end_fits j other c in
      let k = charge-one (cost acting v) (cost acting w) (owed w v) (owed (step_h w) (step_g v)) (cost-is r items end tail now memory j other) s.1 (cost-most acting v) in
      (1, s.0, k.0, k.1, k.2)

  -- the second walk is at the jump, and then goes to the node first
  move-two : (r : Range) (to : Label) (tail : List Item) (now : End) (news olds : List Level) (memory : Celled Memory) (trace : Trace) → In r order → here r to → tail ≡ before (body_of node) [] → now ≡ end_of node → CallersAre news olds →
      Moves (at (lev r tail now) news memory trace Going) (at (lev r [] (Jump to)) olds memory trace Going)
  move-two r to tail now news olds memory trace inside is e f c =
      subst (λ t. Moves (at (lev r t now) news memory trace Going) (at (lev r [] (Jump to)) olds memory trace Going)) (sym e)
      (subst (λ n. Moves (at (lev r (before (body_of node) []) n) news memory trace Going) (at (lev r [] (Jump to)) olds memory trace Going)) (sym f)
      (let root = g.node r to in
      let same : root ≡ node = ap (λ x. g.node x to) is.0 ∙ ap (g.node range) is.1 in
      let w = at (lev r (before (body_of node) []) (end_of node)) news memory trace Going in
      let u = at (lev r (before (body_of node) []) (end_of node)) olds memory trace Going in
      let v = at (lev r [] (Jump to)) olds memory trace Going in
      let v_is : step_g v ≡ u = ap (λ t. at (level_at r t) olds memory trace Going) same in
      let fits = root-fits calls (Reads r) (Writes r) node (subst (TreeFits calls (Reads r) (Writes r)) same (node-fits r to inside)) in
      let plain : PlainEnd (here r) (end_of node) = subst (λ x. PlainEnd (here x) (end_of node)) (sym is.0) (plain-of range node inlined.plain) in
      let nil = append-nil (before (body_of node) []) in
      let s = subst (λ items. Steps (at (lev r items (end_of node)) news memory trace Going) u (items_cost (celled acting r) (before (body_of node) []) (end_of node) memory)) nil
      (one-inlines r (before (body_of node) []) (end_of node) [] (end_of node) news olds memory trace inside fits.0 fits.1 (plain-end r (end_of node) plain) (λ x. other-plain r (end_of node) plain) c) in
      let a = weight-plain r (end_of node) plain in
      let b = weight-here r to is in
      let k = charge-two (cost acting u) (cost acting w) (owed w v) (owed (step_h w) (step_g u)) (owed w u) refl s.1 (omega (arith, a, b)) (cost-most acting u) in (
        2,
        subst (λ x. Related (step_h w) (step_g x)) (sym v_is) s.0,
        subst (λ x. 1 + (cost acting x + 0) + owed (step_h w) (step_g x) ≤ 8 * cost acting w + owed w v) (sym v_is) k.0,
        subst (λ x. cost acting w + 0 ≤ 8 * (1 + (cost acting x + 0)) + 0) (sym v_is) k.1,
        subst (λ x. 1 + (cost acting x + 0) ≤ owed w v + 2) (sym v_is) k.2,
      )))
    where
      other-plain : (r : Range) (end : End) → PlainEnd (here r) end → Other r end
      other-plain r (Pick picker arms) p = tt
      other-plain r (Jump to) p = p
      other-plain r Return p = tt
      other-plain r Stop p = tt
      other-plain r Dead p = tt

  move-any : (r : Range) (items : List Item) (end : End) (tail : List Item) (now : End) (news olds : List Level) (memory : Celled Memory) (trace : Trace) → In r order → Fit r items → EndFit r end → InlinesEnd (here r) node end tail now → CallersAre news olds →
      Moves (at (lev r (items ++ tail) now) news memory trace Going) (at (lev r items end) olds memory trace Going)
  move-any r (item ∷ rest) end tail now news olds memory trace inside fits end_fits j c = move-one r (item ∷ rest) end tail now news olds memory trace inside fits end_fits j (λ e. absurd (cc)) c
  move-any r [] (Pick picker arms) tail now news olds memory trace inside fits end_fits j c = move-one r [] (Pick picker arms) tail now news olds memory trace inside fits end_fits j (λ e. tt) c
  move-any r [] (Jump to) tail now news olds memory trace inside fits end_fits (inl j) c = move-one r [] (Jump to) tail now news olds memory trace inside fits end_fits (inl j) (λ e. j.0) c
  move-any r [] (Jump to) tail now news olds memory trace inside fits end_fits (inr j) c = move-two r to tail now news olds memory trace inside j.0 j.1 j.2 c
  move-any r [] Return tail now news olds memory trace inside fits end_fits j c = move-one r [] Return tail now news olds memory trace inside fits end_fits j (λ e. tt) c
  move-any r [] Stop tail now news olds memory trace inside fits end_fits j c = move-one r [] Stop tail now news olds memory trace inside fits end_fits j (λ e. tt) c
  move-any r [] Dead tail now news olds memory trace inside fits end_fits j c = move-one r [] Dead tail now news olds memory trace inside fits end_fits j (λ e. tt) c

  moves : (w v : State) → Related w v → w.run.standing ≡ Going → Moves w v
  moves w v r is =
      let l = r.level in
      let e : w.run ≡ record { trace = w.run.trace; standing = Going } = ap (λ t. record { trace = w.run.trace; standing = t }) is in
      let v_is : v ≡ at v.level v.callers w.memory w.run.trace Going =
      ap (λ x. record { level = v.level; callers = v.callers; memory = x; run = v.run }) (sym r.memory) ∙ ap (λ x. record { level = v.level; callers = v.callers; memory = w.memory; run = x }) (sym r.run ∙ e) in
      let w_is : w ≡ at (lev v.level.range (v.level.items ++ l.tail) w.level.end) w.callers w.memory w.run.trace Going =
      ap (λ x. record { level = lev x w.level.items w.level.end; callers = w.callers; memory = w.memory; run = w.run }) l.range_is
      ∙ ap (λ x. record { level = lev v.level.range x w.level.end; callers = w.callers; memory = w.memory; run = w.run }) l.items
      ∙ ap (λ x. record { level = lev v.level.range (v.level.items ++ l.tail) w.level.end; callers = w.callers; memory = w.memory; run = x }) e in
      subst (λ x. Moves x v) (sym w_is) (subst (λ y. Moves (at (lev v.level.range (v.level.items ++ l.tail) w.level.end) w.callers w.memory w.run.trace Going) y) (sym v_is)
      (move-any v.level.range v.level.items v.level.end l.tail w.level.end w.callers v.callers w.memory w.run.trace l.inside l.fits l.end_fits l.stands r.callers))

  module _ (start : Range) (inside : In start order) where
    pub inline-charges : Charges (walk_machine acting left h start) (walk_machine acting left g start) (cost acting) (cost acting) parted 8 Related
    inline-charges = record {
      owed = λ w v r. owed w v;
      due = λ w v r. 0;
      starts = λ memory. record { level = entry-level start inside; callers = tt; memory = refl; run = refl };
      owes = λ memory. let a = frees-root (body_of (h.node start (h.entry start))) in let b = weight-most start (end_of (g.node start (g.entry start))) in omega (arith, a, b);
      dues = λ memory. omega arith;
      cheap = cost-most acting;
      agree = λ w v r. r.run;
      moves = λ w v r is. let m = moves w v r is in (m.0, m.1, (let x = m.2 in omega (arith, x)), (λ on. (m.2, m.3)), (λ part. m.4));
    }

    pub inline-matched : (Reads2 Writes2 : Range → ℕ → Type 0) → Ordered Reads2 Writes2 h order → Matched 8 (walked acting left h order start) (walked acting left g order start)
    inline-matched Reads2 Writes2 ordered2 =
        units-matched (walk_machine acting left h start) (walk_machine acting left g start) (cost acting) (cost acting) parted parted 8 Related (walks-grow acting left h start) (walks-grow acting left g start) inline-charges
        (walked acting left h order start) (walked acting left g order start) (λ memory units. (walked-pays acting left h Reads2 Writes2 order ordered2 start inside memory units).0) (λ memory units. (walked-pays acting left g Reads Writes order ordered start inside memory units).0)
