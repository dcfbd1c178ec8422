-- Join keeps what a walk does, step by step, and its units within a factor.
use Rattle.std.proofs.Common.{◌≡◌, ◌≢◌, ℕ, zero, suc, ◌+◌, ◌≤◌, List, [], ◌∷◌, ◌++◌, refl, ap, sym, ◌∙◌, subst, arith, append-nil, ◌⊎◌, inl, inr}
use Rattle.control_flow_theory.specs.runs.Run.{Going, Over}
use Rattle.control_flow_theory.specs.runs.Machine.{iterate}
use Rattle.control_flow_theory.specs.semantics.Outcome.{Trace, Normally, Stopped, Lost, Standing, Tried, Got, Ends}
use Rattle.control_flow_theory.specs.language.Language.{Choose, StopRun, none, Arms, given, missing, Range, Part}
use Rattle.control_flow_theory.specs.semantics.Doing.{Acting, Celled, celled}
use Rattle.control_flow_theory.specs.language.Items.{Item, Do, before, before_arm}
use Rattle.control_flow_theory.specs.semantics.Items.{Way, On, Halts, Into, To, ToEnd, tried, on, item_way}
use Rattle.control_flow_theory.specs.semantics.Graph.{Label, Tree, tree, End, Pick, Jump, Return, Stop, Dead, Trees, no_more, more, body_of, end_of, Family}
use Rattle.control_flow_theory.specs.semantics.Walk.{Level, Walk, tree_at, level_at, level_of, walk_goes, picked, picks, walk_end, walk_step, walk_begun}
use Rattle.control_flow_theory.specs.graph_rules.Fits.{TreeFits, EndFits, TreesFit, ItemsFit, WayFits}
use Rattle.control_flow_theory.specs.graph_rules.Joins.{JoinsEnd, JoinsTree, JoinsTrees, JoinsArms, JumpsEnd, JumpsTree, JumpsTrees, Joined}
use Rattle.control_flow_theory.specs.graph_rules.Charged.{Matched, Charges}
use Rattle.control_flow_theory.specs.graph_rules.Costs.{items_cost, item_cost, end_cost, cost, parted}
use Rattle.control_flow_theory.specs.graph_rules.Walked.{machine_from, walked_from, In, Ordered}
use Rattle.control_flow_theory.proofs.graph_rules_lemmas.walks.Charges.{units-matched}
use Rattle.control_flow_theory.proofs.graph_rules_lemmas.walks.Ways.{before-append, further, item-further, item-fits, before-fits}
use Rattle.control_flow_theory.proofs.graph_rules_lemmas.walks.Fitting.{tree-more}
use Rattle.control_flow_theory.proofs.graph_rules_lemmas.walks.Orders.{Behind, ordered-fits, Calm, cost-append}
use Rattle.control_flow_theory.proofs.graph_rules_lemmas.walks.Walks.{grows-from, paid-from, cost-most}

module _ {Memory Left : Type 0} (acting : Acting Memory) (left : Memory → Left) (Reads Writes : Range → ℕ → Type 0) (reached : Range → Label → Type 0) (g h : Family) (order : List Range)
    (ordered : Ordered Reads Writes g order) (joined : Joined reached g h) where
  abbrev State : Type 0
  State = Walk Memory Left

  abbrev calls : Range → Type 0
  calls to = In to order

  abbrev Fit : Range → List Item → Type 0
  Fit r = ItemsFit calls (Reads r) (Writes r)

  abbrev EndFit : Range → End → Type 0
  EndFit r end = EndFits calls (Reads r) (Writes r) end × JumpsEnd (reached r) end

  pub record LevelJoins (a b : Level) : Type 0 where
    pub range : b.range ≡ a.range
    pub here : In a.range order
    pub fits : Fit a.range a.items
    pub end_fits : EndFit a.range a.end
    pub tail : List Item
    pub items : b.items ≡ a.items ++ tail
    pub stands : JoinsEnd a.end tail b.end

  abbrev CallersJoin : List Level → List Level → Type 0
  CallersJoin [] [] = Unit {0}
  CallersJoin [] (b ∷ news) = ⊥
  CallersJoin (a ∷ olds) [] = ⊥
  CallersJoin (a ∷ olds) (b ∷ news) = LevelJoins a b × CallersJoin olds news

  pub record Related (w v : State) : Type 0 where
    pub level : LevelJoins w.level v.level
    pub callers : CallersJoin w.callers v.callers
    pub memory : w.memory ≡ v.memory
    pub run : w.run ≡ v.run

  abbrev at : Level → List Level → Celled Memory → Trace → Standing Left → State
  at level callers memory trace standing = record { level = level; callers = callers; memory = memory; run = record { trace = trace; standing = standing } }

  abbrev lev : Range → List Item → End → Level
  lev r items end = record { range = r; items = items; end = end }

  node-fits : (r : Range) (l : Label) → In r order → TreeFits calls (Reads r) (Writes r) (g.node r l)
  node-fits r l here = tree-more (Behind order r) calls (Reads r) (Reads r) (Writes r) (Writes r) (λ to b. b.0) (λ c k. k) (λ c k. k) (g.node r l) (ordered-fits g Reads Writes order ordered r here l)

  tree-level : (r : Range) (t : Tree) (items : List Item) (now : End) → In r order → TreeFits calls (Reads r) (Writes r) t → JumpsTree (reached r) t → JoinsTree t items now → LevelJoins (level_at r t) (lev r items now)
  tree-level r (tree body end) items now here fits jumps j = record {
    range = refl;
    here = here;
    fits = before-fits calls (Reads r) (Writes r) body [] fits.0 tt;
    end_fits = (fits.1, jumps);
    tail = j.0;
    items = j.1 ∙ sym (before-append body [] j.0);
    stands = j.2;
  }

  node-level : (r : Range) (l : Label) → In r order → reached r l → LevelJoins (level_at r (g.node r l)) (level_at r (h.node r l))
  node-level r l here at_it = tree-level r (g.node r l) (before (body_of (h.node r l)) []) (end_of (h.node r l)) here (node-fits r l here) (joined.closed r l at_it) (joined.nodes r l at_it)

  entry-level : (r : Range) → In r order → LevelJoins (level_of g r) (level_of h r)
  entry-level r here = subst (λ l. LevelJoins (level_of g r) (level_at r (h.node r l))) (sym (joined.entries r)) (node-level r (g.entry r) here (joined.enters r))

  module _ (olds news : List Level) (c : CallersJoin olds news) where
    -- what an item comes to, with these items behind it
    way-joins : (r : Range) (items0 tail : List Item) (end now : End) (memory : Celled Memory) (trace : Trace) → In r order → Fit r items0 → EndFit r end → JoinsEnd end tail now → (way : Way (Celled Memory)) → WayFits calls (Reads r) (Writes r) way →
        Related (walk_goes acting left g way (at (lev r items0 end) olds memory trace Going)) (walk_goes acting left h (further tail way) (at (lev r (items0 ++ tail) now) news memory trace Going))
    way-joins r items0 tail end now memory trace here fits end_fits j (On shown m items) w =
        record { level = record { range = refl; here = here; fits = w; end_fits = end_fits; tail = tail; items = refl; stands = j }; callers = c; memory = refl; run = refl }
    way-joins r items0 tail end now memory trace here fits end_fits j (Halts shown how m) w =
        record { level = record { range = refl; here = here; fits = fits; end_fits = end_fits; tail = tail; items = refl; stands = j }; callers = c; memory = refl; run = refl }
    way-joins r items0 tail end now memory trace here fits end_fits j (Into entry exit items) w =
        record { level = entry-level (Part entry exit) w.0; callers = (record { range = refl; here = here; fits = w.1; end_fits = end_fits; tail = tail; items = refl; stands = j }, c); memory = refl; run = refl }
    way-joins r items0 tail end now memory trace here fits end_fits j (To shown m paragraph) w = absurd w
    way-joins r items0 tail end now memory trace here fits end_fits j (ToEnd shown m paragraph) w = absurd w

    item-joins : (r : Range) (item : Item) (items tail : List Item) (end now : End) (memory : Celled Memory) (trace : Trace) → In r order → Fit r (item ∷ items) → EndFit r end → JoinsEnd end tail now →
        Related (walk_step acting left g (at (lev r (item ∷ items) end) olds memory trace Going)) (walk_step acting left h (at (lev r (item ∷ (items ++ tail)) now) news memory trace Going))
    item-joins r item items tail end now memory trace here fits end_fits j =
        let doing = celled acting r in
        subst (λ way. Related (walk_step acting left g (at (lev r (item ∷ items) end) olds memory trace Going)) (walk_goes acting left h way (at (lev r (item ∷ (items ++ tail)) now) news memory trace Going)))
        (sym (item-further doing tail calls (Reads r) (Writes r) item items memory fits.0))
        (way-joins r (item ∷ items) tail end now memory trace here fits end_fits j (item_way doing item items memory) (item-fits calls (Reads r) (Writes r) doing item items memory fits.0 fits.1))

    abbrev NotLost : State → Type 0
    NotLost w = w.run.standing ≢ Over Lost

    picked-trees : (r : Range) (arms news_arms : Trees) (level other : Level) (k : ℕ) (memory : Celled Memory) (trace : Trace) → In r order → level.range ≡ r → other.range ≡ r → TreesFit calls (Reads r) (Writes r) arms → JumpsTrees (reached r) arms → JoinsTrees arms news_arms →
        NotLost (picked acting left g (tree_at arms k) (at level olds memory trace Going)) → Related (picked acting left g (tree_at arms k) (at level olds memory trace Going)) (picked acting left h (tree_at news_arms k) (at other news memory trace Going))
    picked-trees r no_more news_arms level other k memory trace here is other_is fits jumps j fine = absurd (fine refl)
    picked-trees r (more first others) news_arms level other k memory trace here is other_is fits jumps j fine =
        subst (λ a. Related (picked acting left g (tree_at (more first others) k) (at level olds memory trace Going)) (picked acting left h (tree_at a k) (at other news memory trace Going))) (sym j.2) (by (λ k fine. picked-trees r others j.1 level other k memory trace here is other_is fits.1 jumps.1 j.4 fine) k fine)
      where
        by : ((k : ℕ) → NotLost (picked acting left g (tree_at others k) (at level olds memory trace Going)) → Related (picked acting left g (tree_at others k) (at level olds memory trace Going)) (picked acting left h (tree_at j.1 k) (at other news memory trace Going))) →
            (k : ℕ) → NotLost (picked acting left g (tree_at (more first others) k) (at level olds memory trace Going)) →
            Related (picked acting left g (tree_at (more first others) k) (at level olds memory trace Going)) (picked acting left h (tree_at (more j.0 j.1) k) (at other news memory trace Going))
        by next zero fine =
            subst (λ x. Related (at (level_at x first) olds memory trace Going) (at (level_at other.range j.0) news memory trace Going)) (sym is)
            (subst (λ y. Related (at (level_at r first) olds memory trace Going) (at (level_at y j.0) news memory trace Going)) (sym other_is)
            (record { level = tree-level r first (before (body_of j.0) []) (end_of j.0) here fits.0 jumps.0 j.3; callers = c; memory = refl; run = refl }))
        by next (suc k) fine = next k fine

    picked-arms : (r : Range) (arms : Trees) (news_arms : Arms) (level : Level) (now : End) (k : ℕ) (memory : Celled Memory) (trace : Trace) → In r order → level.range ≡ r → TreesFit calls (Reads r) (Writes r) arms → JumpsTrees (reached r) arms → JoinsArms arms news_arms now →
        NotLost (picked acting left g (tree_at arms k) (at level olds memory trace Going)) → Related (picked acting left g (tree_at arms k) (at level olds memory trace Going)) (at (lev r (before_arm news_arms k []) now) news memory trace Going)
    picked-arms r no_more news_arms level now k memory trace here is fits jumps j fine = absurd (fine refl)
    picked-arms r (more first others) news_arms level now k memory trace here is fits jumps j fine = by (λ k fine. picked-arms r others j.1 level now k memory trace here is fits.1 jumps.1 j.4 fine) k j.2 fine
      where
        one : LevelJoins (level_at r first) (lev r (before j.0 []) now)
        one = tree-level r first (before j.0 []) now here fits.0 jumps.0 j.3

        at-first : (items : List Item) → items ≡ before j.0 [] → Related (at (level_at level.range first) olds memory trace Going) (at (lev r items now) news memory trace Going)
        at-first items e =
            subst (λ x. Related (at (level_at x first) olds memory trace Going) (at (lev r items now) news memory trace Going)) (sym is)
            (subst (λ i. Related (at (level_at r first) olds memory trace Going) (at (lev r i now) news memory trace Going)) (sym e)
            (record { level = one; callers = c; memory = refl; run = refl }))

        by : ((k : ℕ) → NotLost (picked acting left g (tree_at others k) (at level olds memory trace Going)) → Related (picked acting left g (tree_at others k) (at level olds memory trace Going)) (at (lev r (before_arm j.1 k []) now) news memory trace Going)) →
            (k : ℕ) → (news_arms ≡ given j.0 j.1) ⊎ ((news_arms ≡ missing j.1) × (j.0 ≡ none)) → NotLost (picked acting left g (tree_at (more first others) k) (at level olds memory trace Going)) →
            Related (picked acting left g (tree_at (more first others) k) (at level olds memory trace Going)) (at (lev r (before_arm news_arms k []) now) news memory trace Going)
        by next zero (inl e) fine = at-first (before_arm news_arms 0 []) (ap (λ a. before_arm a 0 []) e)
        by next zero (inr e) fine = at-first (before_arm news_arms 0 []) (ap (λ a. before_arm a 0 []) e.0 ∙ ap (λ s. before s []) (sym e.1))
        by next (suc k) (inl e) fine =
            subst (λ i. Related (picked acting left g (tree_at others k) (at level olds memory trace Going)) (at (lev r i now) news memory trace Going)) (sym (ap (λ a. before_arm a (suc k) []) e))
            (next k fine)
        by next (suc k) (inr e) fine =
            subst (λ i. Related (picked acting left g (tree_at others k) (at level olds memory trace Going)) (at (lev r i now) news memory trace Going)) (sym (ap (λ a. before_arm a (suc k) []) e.0))
            (next k fine)

    -- both pick an arm
    picks-trees : (r : Range) (arms news_arms : Trees) (level other : Level) (memory : Celled Memory) (trace : Trace) → In r order → level.range ≡ r → other.range ≡ r → TreesFit calls (Reads r) (Writes r) arms → JumpsTrees (reached r) arms → JoinsTrees arms news_arms → LevelJoins level other → (value : Tried (Celled Memory) ℕ) →
        NotLost (picks acting left g arms value (at level olds memory trace Going)) → Related (picks acting left g arms value (at level olds memory trace Going)) (picks acting left h news_arms value (at other news memory trace Going))
    picks-trees r arms news_arms level other memory trace here is other_is fits jumps j lj (Got shown k m) fine = picked-trees r arms news_arms level other k m (trace ++ shown) here is other_is fits jumps j fine
    picks-trees r arms news_arms level other memory trace here is other_is fits jumps j lj (Ends shown kind m) fine = record { level = lj; callers = c; memory = refl; run = refl }

    -- the first picks an arm, the second chooses it
    picks-arms : (r : Range) (arms : Trees) (news_arms : Arms) (level : Level) (items : List Item) (now : End) (memory : Celled Memory) (trace : Trace) → In r order → level.range ≡ r → TreesFit calls (Reads r) (Writes r) arms → JumpsTrees (reached r) arms → JoinsArms arms news_arms now → LevelJoins level (lev r items now) → (value : Tried (Celled Memory) ℕ) →
        NotLost (picks acting left g arms value (at level olds memory trace Going)) → Related (picks acting left g arms value (at level olds memory trace Going)) (walk_goes acting left h (tried value (λ k. on (celled acting r) (before_arm news_arms k []))) (at (lev r items now) news memory trace Going))
    picks-arms r arms news_arms level items now memory trace here is fits jumps j lj (Got shown k m) fine =
        subst (λ t. Related (picked acting left g (tree_at arms k) (at level olds m (trace ++ shown) Going)) (at (lev r (before_arm news_arms k []) now) news m (trace ++ t) Going)) (sym (append-nil shown))
        (picked-arms r arms news_arms level now k m (trace ++ shown) here is fits jumps j fine)
    picks-arms r arms news_arms level items now memory trace here is fits jumps j lj (Ends shown kind m) fine = record { level = lj; callers = c; memory = refl; run = refl }

  -- the first walk is at its end, the second where this stands in its place
  abbrev EndGoes : Range → End → List Item → End → List Level → List Level → Celled Memory → Trace → Type 0
  EndGoes r end tail now olds news memory trace = Related (walk_end acting left g end (at (lev r [] end) olds memory trace Going)) (walk_step acting left h (at (lev r tail now) news memory trace Going))

  goes : (r : Range) (end : End) (tail list : List Item) (now is : End) (olds news : List Level) (memory : Celled Memory) (trace : Trace) → tail ≡ list → now ≡ is → EndGoes r end list is olds news memory trace → EndGoes r end tail now olds news memory trace
  goes r end tail list now is olds news memory trace e f k =
      subst (λ t. EndGoes r end t now olds news memory trace) (sym e) (subst (λ n. EndGoes r end list n olds news memory trace) (sym f) k)

  still : (r : Range) (end : End) (tail : List Item) (now : End) → In r order → EndFit r end → JoinsEnd end tail now → LevelJoins (lev r [] end) (lev r tail now)
  still r end tail now here fits j = record { range = refl; here = here; fits = tt; end_fits = fits; tail = tail; items = refl; stands = j }

  end-joins : (r : Range) (end : End) (tail : List Item) (now : End) (olds news : List Level) (memory : Celled Memory) (trace : Trace) → In r order → EndFit r end → JoinsEnd end tail now → CallersJoin olds news →
      (walk_end acting left g end (at (lev r [] end) olds memory trace Going)).run.standing ≢ Over Lost → EndGoes r end tail now olds news memory trace
  end-joins r (Pick picker arms) tail now olds news memory trace here fits (inl j) c fine =
      goes r (Pick picker arms) tail [] now (Pick picker j.0) olds news memory trace j.1 j.2
      (picks-trees olds news c r arms j.0 (lev r [] (Pick picker arms)) (lev r [] (Pick picker j.0)) memory trace here refl refl fits.0.1 fits.1 j.3
      (still r (Pick picker arms) [] (Pick picker j.0) here fits (inl (j.0, refl, refl, j.3))) ((celled acting r).pick picker memory) fine)
  end-joins r (Pick picker arms) tail now olds news memory trace here fits (inr j) c fine =
      goes r (Pick picker arms) tail (Do (Choose picker j.0) ∷ []) now now olds news memory trace j.1 refl
      (picks-arms olds news c r arms j.0 (lev r [] (Pick picker arms)) (Do (Choose picker j.0) ∷ []) now memory trace here refl fits.0.1 fits.1 j.2
      (still r (Pick picker arms) (Do (Choose picker j.0) ∷ []) now here fits (inr (j.0, refl, j.2))) ((celled acting r).pick picker memory) fine)
  end-joins r (Jump to) tail now olds news memory trace here fits j c fine =
      goes r (Jump to) tail [] now (Jump to) olds news memory trace j.0 j.1 (record { level = node-level r to here fits.1; callers = c; memory = refl; run = refl })
  end-joins r Return tail now [] [] memory trace here fits j c fine =
      goes r Return tail [] now Return [] [] memory trace j.0 j.1 (record { level = still r Return [] Return here fits (refl, refl); callers = tt; memory = refl; run = refl })
  end-joins r Return tail now [] (b ∷ news) memory trace here fits j c fine = absurd c
  end-joins r Return tail now (a ∷ olds) [] memory trace here fits j c fine = absurd c
  end-joins r Return tail now (a ∷ olds) (b ∷ news) memory trace here fits j c fine =
      goes r Return tail [] now Return (a ∷ olds) (b ∷ news) memory trace j.0 j.1 (record { level = c.0; callers = c.1; memory = refl; run = refl })
  end-joins r Stop tail now olds news memory trace here fits (inl j) c fine =
      goes r Stop tail [] now Stop olds news memory trace j.0 j.1 (record { level = still r Stop [] Stop here fits (inl (refl, refl)); callers = c; memory = refl; run = refl })
  end-joins r Stop tail now olds news memory trace here fits (inr j) c fine =
      goes r Stop tail (Do StopRun ∷ []) now now olds news memory trace j refl
      (record { level = still r Stop (Do StopRun ∷ []) now here fits (inr refl); callers = c; memory = refl; run = ap (λ t. record { trace = t; standing = Over (Stopped Normally (left memory.own)) }) (sym (append-nil trace)) })
  end-joins r Dead tail now olds news memory trace here fits j c fine = absurd (fine refl)

  -- one step of both
  step-joins : (r : Range) (items : List Item) (end : End) (tail : List Item) (now : End) (olds news : List Level) (memory : Celled Memory) (trace : Trace) → In r order → Fit r items → EndFit r end → JoinsEnd end tail now → CallersJoin olds news →
      (walk_step acting left g (at (lev r items end) olds memory trace Going)).run.standing ≢ Over Lost →
      Related (walk_step acting left g (at (lev r items end) olds memory trace Going)) (walk_step acting left h (at (lev r (items ++ tail) now) news memory trace Going))
  step-joins r [] end tail now olds news memory trace here fits end_fits j c fine = end-joins r end tail now olds news memory trace here end_fits j c fine
  step-joins r (item ∷ items) end tail now olds news memory trace here fits end_fits j c fine = item-joins olds news c r item items tail end now memory trace here fits end_fits j

  -- 1 while the walk goes on
  abbrev pub alive : Standing Left → ℕ
  alive Going = 1
  alive (Over ending) = 0

  alive-most : (s : Standing Left) → alive s ≤ 1
  alive-most Going = omega arith
  alive-most (Over ending) = omega arith

  -- the second costs as much, or 1 more where the first stops
  pub record Costs (x y : ℕ) (after : Standing Left) : Type 0 where
    pub less : x ≤ y
    pub over : y + alive after ≤ x + 1

  costs-same : (x y : ℕ) (after : Standing Left) → x ≡ y → Costs x y after
  costs-same x y after e = record { less = omega (arith, e); over = let f = alive-most after in omega (arith, e, f) }

  end-costs : (r : Range) (end : End) (tail : List Item) (now : End) (olds : List Level) (memory : Celled Memory) (trace : Trace) → JoinsEnd end tail now → (walk_end acting left g end (at (lev r [] end) olds memory trace Going)).run.standing ≢ Over Lost →
      Costs (end_cost (celled acting r) end) (items_cost (celled acting r) tail now memory) (walk_end acting left g end (at (lev r [] end) olds memory trace Going)).run.standing
  end-costs r (Pick picker arms) tail now olds memory trace (inl j) fine = costs-same 1 (items_cost (celled acting r) tail now memory) _ (sym (ap (λ t. items_cost (celled acting r) t now memory) j.1 ∙ ap (λ e. end_cost (celled acting r) e) j.2))
  end-costs r (Pick picker arms) tail now olds memory trace (inr j) fine = costs-same 1 (items_cost (celled acting r) tail now memory) _ (sym (ap (λ t. items_cost (celled acting r) t now memory) j.1))
  end-costs r (Jump to) tail now olds memory trace j fine = costs-same 1 (items_cost (celled acting r) tail now memory) _ (sym (ap (λ t. items_cost (celled acting r) t now memory) j.0 ∙ ap (λ e. end_cost (celled acting r) e) j.1))
  end-costs r Return tail now olds memory trace j fine = costs-same 0 (items_cost (celled acting r) tail now memory) _ (sym (ap (λ t. items_cost (celled acting r) t now memory) j.0 ∙ ap (λ e. end_cost (celled acting r) e) j.1))
  end-costs r Stop tail now olds memory trace (inl j) fine = costs-same 0 (items_cost (celled acting r) tail now memory) _ (sym (ap (λ t. items_cost (celled acting r) t now memory) j.0 ∙ ap (λ e. end_cost (celled acting r) e) j.1))
  end-costs r Stop tail now olds memory trace (inr j) fine = let e = ap (λ t. items_cost (celled acting r) t now memory) j in record { less = omega arith; over = omega (arith, e) }
  end-costs r Dead tail now olds memory trace j fine = absurd (fine refl)

  calm-tail : (r : Range) (end : End) (tail : List Item) (now : End) → JoinsEnd end tail now → Calm (celled acting r) tail
  calm-tail r (Pick picker arms) tail now (inl j) = subst (Calm (celled acting r)) (sym j.1) refl
  calm-tail r (Pick picker arms) tail now (inr j) = subst (Calm (celled acting r)) (sym j.1) refl
  calm-tail r (Jump to) tail now j = subst (Calm (celled acting r)) (sym j.0) refl
  calm-tail r Return tail now j = subst (Calm (celled acting r)) (sym j.0) refl
  calm-tail r Stop tail now (inl j) = subst (Calm (celled acting r)) (sym j.0) refl
  calm-tail r Stop tail now (inr j) = subst (Calm (celled acting r)) (sym j) refl
  calm-tail r Dead tail now j = subst (Calm (celled acting r)) (sym j) refl

  step-costs : (r : Range) (items : List Item) (end : End) (tail : List Item) (now : End) (olds : List Level) (memory : Celled Memory) (trace : Trace) → JoinsEnd end tail now → (walk_step acting left g (at (lev r items end) olds memory trace Going)).run.standing ≢ Over Lost →
      Costs (items_cost (celled acting r) items end memory) (items_cost (celled acting r) (items ++ tail) now memory) (walk_step acting left g (at (lev r items end) olds memory trace Going)).run.standing
  step-costs r [] end tail now olds memory trace j fine = end-costs r end tail now olds memory trace j fine
  step-costs r (item ∷ items) end tail now olds memory trace j fine =
      costs-same (item_cost (celled acting r) item items memory) (item_cost (celled acting r) item (items ++ tail) memory) _ (sym (cost-append (celled acting r) item items tail memory (calm-tail r end tail now j)))

  -- both walks in one form
  both : (w v : State) (r : Related w v) → w.run.standing ≡ Going → (P : State → State → Type 0) →
      P (at w.level w.callers w.memory w.run.trace Going) (at (lev w.level.range (w.level.items ++ r.level.tail) v.level.end) v.callers w.memory w.run.trace Going) → P w v
  both w v r is P p =
      let l = r.level in
      let e : w.run ≡ record { trace = w.run.trace; standing = Going } = ap (λ t. record { trace = w.run.trace; standing = t }) is in
      let w_is : w ≡ at w.level w.callers w.memory w.run.trace Going = ap (λ x. record { level = w.level; callers = w.callers; memory = w.memory; run = x }) e in
      let v_is : v ≡ at (lev w.level.range (w.level.items ++ l.tail) v.level.end) v.callers w.memory w.run.trace Going =
      ap (λ x. record { level = lev x v.level.items v.level.end; callers = v.callers; memory = v.memory; run = v.run }) l.range
      ∙ ap (λ x. record { level = lev w.level.range x v.level.end; callers = v.callers; memory = v.memory; run = v.run }) l.items
      ∙ ap (λ x. record { level = lev w.level.range (w.level.items ++ l.tail) v.level.end; callers = v.callers; memory = x; run = v.run }) (sym r.memory)
      ∙ ap (λ x. record { level = lev w.level.range (w.level.items ++ l.tail) v.level.end; callers = v.callers; memory = w.memory; run = x }) (sym r.run ∙ e) in
      subst (λ x. P x v) (sym w_is) (subst (P (at w.level w.callers w.memory w.run.trace Going)) (sym v_is) p)

  -- never lost
  abbrev pub Sound : State → Type 0
  Sound w = (n : ℕ) → (iterate (walk_step acting left g) n w).run.standing ≢ Over Lost

  pub record Both (w v : State) : Type 0 where
    pub related : Related w v
    pub sound : Sound w

  abbrev Steps : State → State → Type 0
  Steps w v = (walk_step acting left g w).run.standing ≢ Over Lost → Related (walk_step acting left g w) (walk_step acting left h v) × Costs (cost acting w) (cost acting v) (walk_step acting left g w).run.standing

  pub both-step : (w v : State) → Related w v → w.run.standing ≡ Going → Steps w v
  both-step w v r is =
      let l = r.level in
      both w v r is Steps (λ fine. (
        step-joins w.level.range w.level.items w.level.end l.tail v.level.end w.callers v.callers w.memory w.run.trace l.here l.fits l.end_fits l.stands r.callers fine,
        step-costs w.level.range w.level.items w.level.end l.tail v.level.end w.callers w.memory w.run.trace l.stands fine,
      ))

  -- from worlds in which nothing is lost
  module _ {World : Type 0} (memory : World → Celled Memory) (range : Range) (here : In range order) (sound : (w : World) → Sound (walk_begun acting left g range (memory w))) where
    pub join-charges : Charges (machine_from acting left memory g range) (machine_from acting left memory h range) (cost acting) (cost acting) parted 8 Both
    join-charges = record {
      owed = λ w v r. 1;
      due = λ w v r. 0;
      starts = λ w. record { related = record { level = entry-level range here; callers = tt; memory = refl; run = refl }; sound = sound w };
      owes = λ w. omega arith;
      dues = λ w. omega arith;
      cheap = cost-most acting;
      agree = λ w v r. r.related.run;
      moves = λ w v r is.
          let b = both-step w v r.related is (r.sound 1) in
          let c = b.1 in
          let less = c.less in let over = c.over in let few = cost-most acting w in (
            1,
            record { related = b.0; sound = λ n. r.sound (suc n) },
            omega (arith, less, over),
            (λ on. let e = ap alive on in (omega (arith, over, e), omega (arith, less))),
            (λ part. omega (arith, over, few)),
          );
    }

    pub join-matched : (Reads2 Writes2 : Range → ℕ → Type 0) → Ordered Reads2 Writes2 h order → Matched 8 (walked_from acting left memory g order range) (walked_from acting left memory h order range)
    join-matched Reads2 Writes2 ordered2 =
        units-matched (machine_from acting left memory g range) (machine_from acting left memory h range) (cost acting) (cost acting) parted parted 8 Both (grows-from acting left memory g range) (grows-from acting left memory h range) join-charges
        (walked_from acting left memory g order range) (walked_from acting left memory h order range) (paid-from acting left memory g Reads Writes order ordered range here) (paid-from acting left memory h Reads2 Writes2 order ordered2 range here)
