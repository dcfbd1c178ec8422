-- A loop that is tested before or after keeps what a walk does, and its units within a factor.
use Rattle.std.proofs.Common.{◌≡◌, ◌≢◌, ℕ, zero, suc, ◌+◌, ◌*◌, ◌≤◌, Bool, true, false, not, List, [], ◌∷◌, ◌++◌, refl, ap, sym, ◌∙◌, subst, arith, append-nil, ◌⊎◌, inl, inr}
use Rattle.std.proofs.lemmas.Bool.Decides.{eqb_tells}
use Rattle.control_flow_theory.specs.runs.Run.{Going}
use Rattle.control_flow_theory.specs.runs.Machine.{iterate}
use Rattle.control_flow_theory.specs.semantics.Outcome.{Trace, How, Normally, Abend, Ending, Stopped, Returned, Lost, Standing, Tried, Got}
use Rattle.control_flow_theory.specs.semantics.Outcome as outcome
use Rattle.control_flow_theory.specs.language.Language.{Test, If, Until, Loop, Stmts, none, Nested, Range, Part}
use Rattle.control_flow_theory.specs.semantics.Doing.{Acting, Doing, giving, arm_of, Celled, celled}
use Rattle.control_flow_theory.specs.language.Items.{Tests, Item, Do, Turn, before}
use Rattle.control_flow_theory.specs.semantics.Items.{Way, On, Halts, Into, To, ToEnd, tried, on, first_turn, turns, item_way}
use Rattle.control_flow_theory.specs.semantics.Graph.{Label, Tree, tree, End, Pick, Jump, Return, Stop, Dead, Trees, no_more, more, body_of, end_of, Family}
use Rattle.control_flow_theory.specs.semantics.Walk.{Level, Walk, tree_at, level_at, level_of, walk_goes, picked, picks, walk_step, walk_machine}
use Rattle.control_flow_theory.specs.graph_rules.Fits.{TreeFits, EndFits, TreesFit, ItemsFit, WayFits}
use Rattle.control_flow_theory.specs.graph_rules.Loops.{two_arms, turned_test, tested_node, Tested}
use Rattle.control_flow_theory.specs.graph_rules.Charged.{spent, Matched, Charges}
use Rattle.control_flow_theory.specs.graph_rules.Costs.{round_cost, first_cost, tried_cost, item_cost, cost, parted}
use Rattle.control_flow_theory.specs.graph_rules.Walked.{walked, In, Ordered}
use Rattle.control_flow_theory.proofs.graph_rules_lemmas.walks.Charges.{units-matched}
use Rattle.control_flow_theory.proofs.semantics_lemmas.Grown.{walks-grow}
use Rattle.control_flow_theory.proofs.graph_rules_lemmas.walks.Ways.{before-append, further, item-further, item-fits}
use Rattle.control_flow_theory.proofs.graph_rules_lemmas.walks.Fitting.{tree-more}
use Rattle.control_flow_theory.proofs.graph_rules_lemmas.walks.Orders.{Behind, ordered-fits, root-fits, Calm, cost-append}
use Rattle.control_flow_theory.proofs.semantics_lemmas.Ranges.{range-tells}
use Rattle.control_flow_theory.proofs.graph_rules_lemmas.walks.Walks.{walked-pays, cost-most}
use Rattle.control_flow_theory.proofs.graph_rules_lemmas.walks.Frees.{frees, frees-root, WayFrees, item-frees, IntoCosts, item-into}
use Rattle.control_flow_theory.proofs.graph_rules_lemmas.walks.Leads.{Leads, leads-here, leads-step, leads-then}

module _ {Memory Left : Type 0} (acting : Acting Memory) (left : Memory → Left) (Reads Writes : Range → ℕ → Type 0) (after turned : Bool) (test : Test) (range : Range) (label : Label) (out : End) (body : Stmts) (g h : Family) (order : List Range)
    (ordered : Ordered Reads Writes g order) (tested : Tested after turned test range label out body g h) where
  abbrev State : Type 0
  State = Walk Memory Left

  abbrev calls : Range → Type 0
  calls to = In to order

  abbrev Fit : Range → List Item → Type 0
  Fit r = ItemsFit calls (Reads r) (Writes r)

  abbrev EndFit : Range → End → Type 0
  EndFit r = EndFits calls (Reads r) (Writes r)

  abbrev at : Level → List Level → Celled Memory → Trace → Standing Left → State
  at level callers memory trace standing = record { level = level; callers = callers; memory = memory; run = record { trace = trace; standing = standing } }

  abbrev lev : Range → List Item → End → Level
  lev r items end = record { range = r; items = items; end = end }

  abbrev step_h : State → State
  step_h = walk_step acting left h

  abbrev step_g : State → State
  step_g = walk_step acting left g

  abbrev ends : Test
  ends = turned_test turned test

  abbrev again : Item
  again = Turn (Tests ends) (Nested body)

  abbrev begins : Item
  begins = Do (Loop (Until after ends) (Nested body))

  abbrev old : Tree
  old = tested_node after turned test label body out

  -- the end of what is repeated, and the point at which the first walk waits for the second, or the second for the first
  abbrev end_in : Bool → End
  end_in false = Jump label
  end_in true = Pick (If test) (two_arms turned (tree none out) (tree none (Jump label)))

  abbrev waits_a : Bool → Level
  waits_a false = lev range [] (Pick (If test) (two_arms turned (tree none out) (tree body (Jump label))))
  waits_a true = lev range [] (Jump label)

  abbrev waits_b : Bool → Level
  waits_b false = lev range (again ∷ []) out
  waits_b true = lev range (before body (again ∷ [])) out

  pub data LevelRel (a b : Level) : Type 0 where
    same : b ≡ a → LevelRel a b
    enters : a ≡ level_at range old → b ≡ lev range (begins ∷ []) out → LevelRel a b
    inside : (items : List Item) → a ≡ lev range items (end_in after) → b ≡ lev range (items ++ again ∷ []) out → LevelRel a b
    waits : a ≡ waits_a after → b ≡ waits_b after → LevelRel a b

  abbrev CallersRel : List Level → List Level → Type 0
  CallersRel [] [] = Unit {0}
  CallersRel [] (b ∷ news) = ⊥
  CallersRel (a ∷ olds) [] = ⊥
  CallersRel (a ∷ olds) (b ∷ news) = (LevelRel a b × In a.range order × Fit a.range a.items × EndFit a.range a.end) × CallersRel olds news

  pub record Related (w v : State) : Type 0 where
    pub level : LevelRel w.level v.level
    pub here : In w.level.range order
    pub fits : Fit w.level.range w.level.items
    pub end_fits : EndFit w.level.range w.level.end
    pub callers : CallersRel w.callers v.callers
    pub memory : w.memory ≡ v.memory
    pub run : w.run ≡ v.run

  -- What is owed and due: the loop that begins; its turns, and that it is left.
  abbrev begin_cost : Bool → ℕ
  begin_cost false = 1
  begin_cost true = 2

  abbrev owed_level : {a b : Level} → LevelRel a b → ℕ
  owed_level (same e) = 0
  owed_level (enters e f) = begin_cost after
  owed_level (inside items e f) = 0
  owed_level (waits e f) = 0

  abbrev due_in : Bool → ℕ
  due_in false = 2
  due_in true = 1

  abbrev due_waits : Bool → ℕ
  due_waits false = 1
  due_waits true = 2

  abbrev due_level : {a b : Level} → LevelRel a b → ℕ
  due_level (same e) = 0
  due_level (enters e f) = 0
  due_level (inside items e f) = due_in after
  due_level (waits e f) = due_waits after

  abbrev callers_owed : (olds news : List Level) → CallersRel olds news → ℕ
  callers_owed [] [] c = 0
  callers_owed [] (b ∷ news) c = 0
  callers_owed (a ∷ olds) [] c = 0
  callers_owed (a ∷ olds) (b ∷ news) c = (2 * frees a.items + owed_level c.0.0) + callers_owed olds news c.1

  abbrev callers_due : (olds news : List Level) → CallersRel olds news → ℕ
  callers_due [] [] c = 0
  callers_due [] (b ∷ news) c = 0
  callers_due (a ∷ olds) [] c = 0
  callers_due (a ∷ olds) (b ∷ news) c = due_level c.0.0 + callers_due olds news c.1

  abbrev owed : (w v : State) → Related w v → ℕ
  owed w v r = (2 * frees w.level.items + owed_level r.level) + callers_owed w.callers v.callers r.callers

  abbrev due : (w v : State) → Related w v → ℕ
  due w v r = due_level r.level + callers_due w.callers v.callers r.callers

  -- the second walk goes on to where it is settled again
  pub record Goes (w v : State) (owed_now due_now : ℕ) : Type 0 where
    pub there : State
    pub pays : ℕ
    pub leads : Leads step_h (cost acting) v there pays
    pub settled : Related (step_g w) there
    pub owing : pays + owed (step_g w) there settled ≤ 8 * cost acting w + owed_now
    pub duly : (step_g w).run.standing ≡ Going → cost acting w + due (step_g w) there settled ≤ 8 * pays + due_now
    pub few : pays ≤ owed_now + 2

  node-fits : (r : Range) (l : Label) → In r order → TreeFits calls (Reads r) (Writes r) (g.node r l)
  node-fits r l here = tree-more (Behind order r) calls (Reads r) (Reads r) (Writes r) (Writes r) (λ to b. b.0) (λ c k. k) (λ c k. k) (g.node r l) (ordered-fits g Reads Writes order ordered r here l)

  -- a node of both
  pub record Node (r : Range) (l : Label) : Type 0 where
    pub level : LevelRel (level_at r (g.node r l)) (level_at r (h.node r l))
    pub owes : owed_level level ≤ 2
    pub dues : due_level level ≡ 0

  begin-most : (after : Bool) → begin_cost after ≤ 2
  begin-most false = omega arith
  begin-most true = omega arith

  in-most : (after : Bool) → due_in after ≤ 2
  in-most false = omega arith
  in-most true = omega arith

  node-same : (r : Range) (l : Label) → (r ≢ range) ⊎ (l ≢ label) → Node r l
  node-same r l other = record { level = same (ap (level_at r) (tested.same r l other)); owes = omega arith; dues = refl }

  node-of : (r : Range) (l : Label) → Node r l
  node-of r l = elim (range-tells r range) [
    | inr d ↦ node-same r l (inl d.1)
    | inl d ↦ elim (eqb_tells l label) [
      | inr f ↦ node-same r l (inr f.1)
      | inl f ↦
          subst (λ x. Node x l) (sym d.1) (subst (Node range) (sym f.1)
          (record { level = enters (ap (level_at range) tested.old) (ap (level_at range) tested.new); owes = begin-most after; dues = refl }))
    ]
  ]

  abbrev RootFit : Range → Level → Type 0
  RootFit r a = Fit r a.items × EndFit r a.end

  root-of : (r : Range) (l : Label) → In r order → RootFit r (level_at r (g.node r l))
  root-of r l here = root-fits calls (Reads r) (Writes r) (g.node r l) (node-fits r l here)

  -- the roots of two levels, with what is owed and due
  abbrev Rooted : Level → Level → Type 0
  Rooted a b = (level : LevelRel a b) × (owed_level level ≤ 2) × (due_level level ≡ 0)

  entry-of : (r : Range) → Rooted (level_of g r) (level_of h r)
  entry-of r = let n = node-of r (g.entry r) in subst (λ l. Rooted (level_of g r) (level_at r (h.node r l))) (sym (tested.entries r)) (n.level, n.owes, n.dues)

  module _ (olds news : List Level) (c : CallersRel olds news) where
    abbrev others : ℕ
    others = callers_owed olds news c

    abbrev dues : ℕ
    dues = callers_due olds news c

    -- what an item comes to, with more behind it
    module _ (r : Range) (end now : End) (more : List Item) (rel : (items : List Item) → LevelRel (lev r items end) (lev r (items ++ more) now)) (wo wd : ℕ) (owes_is : (items : List Item) → owed_level (rel items) ≡ wo) (dues_is : (items : List Item) → due_level (rel items) ≡ wd)
        (here : In r order) (end_fits : EndFit r end) where
      -- the ways of both, from these items
      abbrev Both : State → State → ℕ → Type 0
      Both w v c = (settled : Related w v) × (owed w v settled ≤ c) × (due w v settled ≤ wd + dues)

      way-both : (item : Item) (rest : List Item) (memory : Celled Memory) (trace : Trace) → Fit r (item ∷ rest) → (way : Way (Celled Memory)) → WayFits calls (Reads r) (Writes r) way → WayFrees (frees rest + item_cost (celled acting r) item rest memory) way → IntoCosts (celled acting r) item rest memory way →
          Both (walk_goes acting left g way (at (lev r (item ∷ rest) end) olds memory trace Going)) (walk_goes acting left h (further more way) (at (lev r (item ∷ (rest ++ more)) now) news memory trace Going))
          (2 * item_cost (celled acting r) item rest memory + (2 * frees (item ∷ rest) + wo) + others)
      way-both item rest memory trace fits (On shown m items) w f i =
          let a = owes_is items in let b = dues_is items in
          (record { level = rel items; here = here; fits = w; end_fits = end_fits; callers = c; memory = refl; run = refl }, omega (arith, a, f), omega (arith, b))
      way-both item rest memory trace fits (Halts shown how m) w f i =
          let a = owes_is (item ∷ rest) in let b = dues_is (item ∷ rest) in
          (record { level = rel (item ∷ rest); here = here; fits = fits; end_fits = end_fits; callers = c; memory = refl; run = refl }, omega (arith, a), omega (arith, b))
      way-both item rest memory trace fits (Into entry exit items) w f i =
          let to = Part entry exit in
          let n = entry-of to in
          let root = root-of to (g.entry to) w.0 in
          let a = owes_is items in let b = dues_is items in
          let z = frees-root (body_of (g.node to (g.entry to))) in
          let d = ap frees i.0 in let k = i.1 in let x = n.1 in let y = n.2 in (
            record { level = n.0; here = w.0; fits = root.0; end_fits = root.1; callers = ((rel items, here, w.1, end_fits), c); memory = refl; run = refl },
            omega (arith, a, z, d, k, x),
            omega (arith, b, y),
          )
      way-both item rest memory trace fits (To shown m paragraph) w f i = absurd w
      way-both item rest memory trace fits (ToEnd shown m paragraph) w f i = absurd w

      item-goes : (item : Item) (rest : List Item) (memory : Celled Memory) (trace : Trace) → Fit r (item ∷ rest) → Calm (celled acting r) more →
          Goes (at (lev r (item ∷ rest) end) olds memory trace Going) (at (lev r (item ∷ (rest ++ more)) now) news memory trace Going) ((2 * frees (item ∷ rest) + wo) + others) (wd + dues)
      item-goes item rest memory trace fits calm =
          let doing = celled acting r in
          let w = at (lev r (item ∷ rest) end) olds memory trace Going in
          let v = at (lev r (item ∷ (rest ++ more)) now) news memory trace Going in
          let way = item_way doing item rest memory in
          let s = way-both item rest memory trace fits way (item-fits calls (Reads r) (Writes r) doing item rest memory fits.0 fits.1) (item-frees doing calls (Reads r) (Writes r) item rest memory fits.0) (item-into doing item rest memory) in
          let o = s.1 in let d = s.2 in let few = cost-most acting w in
          record {
            there = walk_goes acting left h (further more way) v;
            pays = item_cost doing item rest memory;
            leads = leads-step step_h (cost acting) v (walk_goes acting left h (further more way) v) (item_cost doing item rest memory) (ap (λ x. walk_goes acting left h x v) (item-further doing more calls (Reads r) (Writes r) item rest memory fits.0)) (cost-append doing item rest more memory calm);
            settled = s.0;
            owing = omega (arith, o);
            duly = λ on. omega (arith, d);
            few = omega (arith, few);
          }

    -- both at an end that is the same
    same-picked : (r : Range) (arms : Trees) (a b : Level) (k : ℕ) (memory : Celled Memory) (trace : Trace) → In r order → a.range ≡ r → b.range ≡ r → b ≡ a → Fit a.range a.items → EndFit a.range a.end → TreesFit calls (Reads r) (Writes r) arms →
        (settled : Related (picked acting left g (tree_at arms k) (at a olds memory trace Going)) (picked acting left h (tree_at arms k) (at b news memory trace Going))) × (owed (picked acting left g (tree_at arms k) (at a olds memory trace Going)) (picked acting left h (tree_at arms k) (at b news memory trace Going)) settled ≤ 2 * frees a.items + others)
        × (due (picked acting left g (tree_at arms k) (at a olds memory trace Going)) (picked acting left h (tree_at arms k) (at b news memory trace Going)) settled ≤ dues)
    same-picked r no_more a b k memory trace here ar br is fits end_fits arms_fit =
        (record { level = same is; here = subst (λ x. In x order) (sym ar) here; fits = fits; end_fits = end_fits; callers = c; memory = refl; run = refl }, omega arith, omega arith)
    same-picked r (more first rest) a b zero memory trace here ar br is fits end_fits arms_fit =
        let root = root-fits calls (Reads r) (Writes r) first arms_fit.0 in
        let z = frees-root (body_of first) in (
          record {
            level = same (ap (λ x. level_at x first) (br ∙ sym ar));
            here = subst (λ x. In x order) (sym ar) here;
            fits = subst (λ x. Fit x (before (body_of first) [])) (sym ar) root.0;
            end_fits = subst (λ x. EndFit x (end_of first)) (sym ar) root.1;
            callers = c;
            memory = refl;
            run = refl;
          },
          omega (arith, z),
          omega arith,
        )
    same-picked r (more first rest) a b (suc k) memory trace here ar br is fits end_fits arms_fit = same-picked r rest a b k memory trace here ar br is fits end_fits arms_fit.1

    same-picks : (r : Range) (arms : Trees) (a b : Level) (memory : Celled Memory) (trace : Trace) → In r order → a.range ≡ r → b.range ≡ r → b ≡ a → Fit a.range a.items → EndFit a.range a.end → TreesFit calls (Reads r) (Writes r) arms → (value : Tried (Celled Memory) ℕ) →
        (settled : Related (picks acting left g arms value (at a olds memory trace Going)) (picks acting left h arms value (at b news memory trace Going))) × (owed (picks acting left g arms value (at a olds memory trace Going)) (picks acting left h arms value (at b news memory trace Going)) settled ≤ 2 * frees a.items + others)
        × (due (picks acting left g arms value (at a olds memory trace Going)) (picks acting left h arms value (at b news memory trace Going)) settled ≤ dues)
    same-picks r arms a b memory trace here ar br is fits end_fits arms_fit (Got shown k m) = same-picked r arms a b k m (trace ++ shown) here ar br is fits end_fits arms_fit
    same-picks r arms a b memory trace here ar br is fits end_fits arms_fit (outcome.Ends shown kind m) =
        (record { level = same is; here = subst (λ x. In x order) (sym ar) here; fits = fits; end_fits = end_fits; callers = c; memory = refl; run = refl }, omega arith, omega arith)

  -- one step of both, with the same cost
  goes-one : (w v : State) (owed_now due_now : ℕ) (settled : Related (step_g w) (step_h v)) → cost acting v ≡ cost acting w → owed (step_g w) (step_h v) settled ≤ owed_now + 4 * cost acting w → due (step_g w) (step_h v) settled ≤ due_now → Goes w v owed_now due_now
  goes-one w v owed_now due_now settled e o d =
      let few = cost-most acting w in
      record {
        there = step_h v;
        pays = cost acting w;
        leads = leads-step step_h (cost acting) v (step_h v) (cost acting w) refl e;
        settled = settled;
        owing = omega (arith, o);
        duly = λ on. omega (arith, d);
        few = omega (arith, few);
      }

  same-end : (r : Range) (end : End) (olds news : List Level) (memory : Celled Memory) (trace : Trace) → In r order → EndFit r end → (c : CallersRel olds news) → Goes (at (lev r [] end) olds memory trace Going) (at (lev r [] end) news memory trace Going) (callers_owed olds news c) (callers_due olds news c)
  same-end r (Pick picker arms) olds news memory trace here fits c =
      let s = same-picks olds news c r arms (lev r [] (Pick picker arms)) (lev r [] (Pick picker arms)) memory trace here refl refl refl tt fits fits.1 ((celled acting r).pick picker memory) in
      let o = s.1 in
      goes-one (at (lev r [] (Pick picker arms)) olds memory trace Going) (at (lev r [] (Pick picker arms)) news memory trace Going) (callers_owed olds news c) (callers_due olds news c) s.0 refl (omega (arith, o)) s.2
  same-end r (Jump to) olds news memory trace here fits c =
      let n = node-of r to in
      let root = root-of r to here in
      let z = frees-root (body_of (g.node r to)) in let x = n.owes in let y = n.dues in
      goes-one (at (lev r [] (Jump to)) olds memory trace Going) (at (lev r [] (Jump to)) news memory trace Going) (callers_owed olds news c) (callers_due olds news c)
      (record { level = n.level; here = here; fits = root.0; end_fits = root.1; callers = c; memory = refl; run = refl }) refl (omega (arith, z, x)) (omega (arith, y))
  same-end r Return [] [] memory trace here fits c =
      goes-one (at (lev r [] Return) [] memory trace Going) (at (lev r [] Return) [] memory trace Going) 0 0 (record { level = same refl; here = here; fits = tt; end_fits = fits; callers = tt; memory = refl; run = refl }) refl (omega arith) (omega arith)
  same-end r Return [] (b ∷ news) memory trace here fits c = absurd c
  same-end r Return (a ∷ olds) [] memory trace here fits c = absurd c
  same-end r Return (a ∷ olds) (b ∷ news) memory trace here fits c =
      goes-one (at (lev r [] Return) (a ∷ olds) memory trace Going) (at (lev r [] Return) (b ∷ news) memory trace Going) (callers_owed (a ∷ olds) (b ∷ news) c) (callers_due (a ∷ olds) (b ∷ news) c)
      (record { level = c.0.0; here = c.0.1; fits = c.0.2; end_fits = c.0.3; callers = c.1; memory = refl; run = refl }) refl (omega arith) (omega arith)
  same-end r Stop olds news memory trace here fits c =
      goes-one (at (lev r [] Stop) olds memory trace Going) (at (lev r [] Stop) news memory trace Going) (callers_owed olds news c) (callers_due olds news c) (record { level = same refl; here = here; fits = tt; end_fits = fits; callers = c; memory = refl; run = refl }) refl (omega arith) (omega arith)
  same-end r Dead olds news memory trace here fits c =
      goes-one (at (lev r [] Dead) olds memory trace Going) (at (lev r [] Dead) news memory trace Going) (callers_owed olds news c) (callers_due olds news c) (record { level = same refl; here = here; fits = tt; end_fits = fits; callers = c; memory = refl; run = refl }) refl (omega arith) (omega arith)

  -- some steps before, and room for more
  goes-after : (w v there : State) (pays o d low : ℕ) → Leads step_h (cost acting) v there pays → Goes w there o d → d ≤ 8 * pays + low → Goes w v (pays + o) low
  goes-after w v there pays o d low leads k le =
      let a = k.owing in let b = k.few in
      record {
        there = k.there;
        pays = pays + k.pays;
        leads = leads-then step_h (cost acting) v there k.there pays k.pays leads k.leads;
        settled = k.settled;
        owing = omega (arith, a);
        duly = λ on. let x = k.duly on in omega (arith, x, le);
        few = omega (arith, b);
      }

  goes-more : (w v : State) (o p d q : ℕ) → o ≤ p → d ≤ q → Goes w v o d → Goes w v p q
  goes-more w v o p d q le few k =
      let a = k.owing in let b = k.few in
      record { there = k.there; pays = k.pays; leads = k.leads; settled = k.settled; owing = omega (arith, a, le); duly = λ on. let x = k.duly on in omega (arith, x, few); few = omega (arith, b, le) }

  -- The two walks where the first is at the test of the loop.

  abbrev doing : Doing (Celled Memory)
  doing = celled acting range

  abbrev arms_of : Bool → Tree → Trees
  arms_of t stay = two_arms t (tree none out) stay

  abbrev pick_of : Tree → End
  pick_of stay = Pick (If test) (arms_of turned stay)

  -- the value by which the loop ends
  abbrev turned_value : Bool → Tried (Celled Memory) Bool → Tried (Celled Memory) Bool
  turned_value false value = value
  turned_value true value = giving not value

  test-is : (t : Bool) (memory : Celled Memory) → doing.test (turned_test t test) memory ≡ turned_value t (doing.test test memory)
  test-is false memory = refl
  test-is true memory = refl

  abbrev round_of : Tried (Celled Memory) Bool → ℕ
  round_of value = tried_cost value (λ ended m. round_cost ended)

  arms-fit : (t : Bool) (stay : Tree) → TreesFit calls (Reads range) (Writes range) (arms_of t stay) → EndFit range out × TreeFits calls (Reads range) (Writes range) stay
  arms-fit false stay fits = (fits.0.1, fits.1.0)
  arms-fit true stay fits = (fits.1.0.1, fits.0)

  module _ (olds news : List Level) (c : CallersRel olds news) (here : In range order) (stay : Tree) (staying : LevelRel (level_at range stay) (lev range (before body (again ∷ [])) out)) (owes : owed_level staying ≡ 0) (dues_are : due_level staying ≤ 2)
      (halted : LevelRel (lev range [] (pick_of stay)) (lev range (again ∷ []) out)) (halted_owes : owed_level halted ≡ 0) (fits : EndFit range (pick_of stay)) where
    abbrev Turned : State → State → ℕ → Type 0
    Turned w v spent_on = (settled : Related w v) × (owed w v settled ≤ callers_owed olds news c) × (w.run.standing ≡ Going → 1 + due w v settled ≤ 8 * spent_on + (1 + callers_due olds news c)) × (spent_on ≤ 1)

    leaves : (memory : Celled Memory) (trace shown : Trace) → Turned (at (lev range [] out) olds memory (trace ++ shown) Going) (at (lev range [] out) news memory (trace ++ (shown ++ [])) Going) 0
    leaves memory trace shown =
        (record { level = same refl; here = here; fits = tt; end_fits = (arms-fit turned stay fits.1).0; callers = c; memory = refl; run = ap (λ t. record { trace = trace ++ t; standing = Going }) (sym (append-nil shown)) }, omega arith, (λ on. omega arith), omega arith)

    stays : (memory : Celled Memory) (trace shown : Trace) → Turned (at (level_at range stay) olds memory (trace ++ shown) Going) (at (lev range (before body (again ∷ [])) out) news memory (trace ++ (shown ++ [])) Going) 1
    stays memory trace shown =
        let root = root-fits calls (Reads range) (Writes range) stay (arms-fit turned stay fits.1).1 in
        let z = frees-root (body_of stay) in
        (record { level = staying; here = here; fits = root.0; end_fits = root.1; callers = c; memory = refl; run = ap (λ t. record { trace = trace ++ t; standing = Going }) (sym (append-nil shown)) }, omega (arith, z, owes), (λ on. omega (arith, dues_are)), omega arith)

    turn-by : (t : Bool) (value : Tried (Celled Memory) Bool) (memory : Celled Memory) (trace : Trace) →
        Turned (picks acting left g (arms_of t stay) (giving arm_of value) (at (lev range [] (pick_of stay)) olds memory trace Going))
        (walk_goes acting left h (tried (turned_value t value) (λ ended. on doing (turns doing ended (Tests ends) (Nested body) []))) (at (lev range (again ∷ []) out) news memory trace Going)) (round_of (turned_value t value))
    turn-by false (Got shown true m) memory trace = leaves m trace shown
    turn-by false (Got shown false m) memory trace = stays m trace shown
    turn-by true (Got shown true m) memory trace = stays m trace shown
    turn-by true (Got shown false m) memory trace = leaves m trace shown
    turn-by false (outcome.Ends shown kind m) memory trace =
        (record { level = halted; here = here; fits = tt; end_fits = fits; callers = c; memory = refl; run = refl }, omega (arith, halted_owes), (λ on. absurd (cc)), omega arith)
    turn-by true (outcome.Ends shown kind m) memory trace =
        (record { level = halted; here = here; fits = tt; end_fits = fits; callers = c; memory = refl; run = refl }, omega (arith, halted_owes), (λ on. absurd (cc)), omega arith)

    pick-goes : (memory : Celled Memory) (trace : Trace) → Goes (at (lev range [] (pick_of stay)) olds memory trace Going) (at (lev range (again ∷ []) out) news memory trace Going) (callers_owed olds news c) (1 + callers_due olds news c)
    pick-goes memory trace =
        let w = at (lev range [] (pick_of stay)) olds memory trace Going in
        let v = at (lev range (again ∷ []) out) news memory trace Going in
        let value = doing.test test memory in
        let next = λ (x : Tried (Celled Memory) Bool). walk_goes acting left h (tried x (λ ended. on doing (turns doing ended (Tests ends) (Nested body) []))) v in
        let s = turn-by turned value memory trace in
        let o = s.1 in let few = s.3 in
        record {
          there = next (turned_value turned value);
          pays = round_of (turned_value turned value);
          leads = leads-step step_h (cost acting) v (next (turned_value turned value)) (round_of (turned_value turned value)) (ap next (test-is turned memory)) (ap round_of (test-is turned memory));
          settled = s.0;
          owing = omega (arith, o, few);
          duly = λ on. s.2 on;
          few = omega (arith, few);
        }

  -- What the names of the loop's levels are, where it is tested before.
  end-false : (f : Bool) → f ≡ false → end_in f ≡ Jump label
  end-false false e = refl
  end-false true e = absurd (cc)

  root-false : (f : Bool) → f ≡ false → level_at range (tested_node f turned test label body out) ≡ waits_a f
  root-false false e = refl
  root-false true e = absurd (cc)

  waits-a-false : (f : Bool) → f ≡ false → waits_a f ≡ lev range [] (pick_of (tree body (Jump label)))
  waits-a-false false e = refl
  waits-a-false true e = absurd (cc)

  waits-b-false : (f : Bool) → f ≡ false → waits_b f ≡ lev range (again ∷ []) out
  waits-b-false false e = refl
  waits-b-false true e = absurd (cc)

  due-false : (f : Bool) → f ≡ false → (due_in f ≡ 2) × (due_waits f ≡ 1)
  due-false false e = (refl, refl)
  due-false true e = absurd (cc)

  -- And where it is tested after.
  end-true : (f : Bool) → f ≡ true → end_in f ≡ pick_of (tree none (Jump label))
  end-true true e = refl
  end-true false e = absurd (cc)

  root-true : (f : Bool) → f ≡ true → level_at range (tested_node f turned test label body out) ≡ lev range (before body []) (end_in f)
  root-true true e = refl
  root-true false e = absurd (cc)

  waits-a-true : (f : Bool) → f ≡ true → waits_a f ≡ lev range [] (Jump label)
  waits-a-true true e = refl
  waits-a-true false e = absurd (cc)

  waits-b-true : (f : Bool) → f ≡ true → waits_b f ≡ lev range (before body (again ∷ [])) out
  waits-b-true true e = refl
  waits-b-true false e = absurd (cc)

  due-true : (f : Bool) → f ≡ true → (due_in f ≡ 1) × (due_waits f ≡ 2)
  due-true true e = (refl, refl)
  due-true false e = absurd (cc)

  body-again : before body [] ++ again ∷ [] ≡ before body (again ∷ [])
  body-again = before-append body [] (again ∷ [])

  module _ (olds news : List Level) (c : CallersRel olds news) (here : In range order) (memory : Celled Memory) (trace : Trace) where
    abbrev others_owed : ℕ
    others_owed = callers_owed olds news c

    abbrev others_due : ℕ
    others_due = callers_due olds news c

    -- the first walk jumps to the loop, and the second stands there
    jump-goes : (b : Level) (rel : LevelRel (level_at range old) b) → owed_level rel ≡ 0 → EndFit range (Jump label) → Goes (at (lev range [] (Jump label)) olds memory trace Going) (at b news memory trace Going) others_owed (1 + due_level rel + others_due)
    jump-goes b rel owes fits =
        let w = at (lev range [] (Jump label)) olds memory trace Going in
        let v = at b news memory trace Going in
        let z = frees-root (body_of old) in
        let root = subst (λ t. RootFit range (level_at range t)) tested.old (root-of range label here) in
        let next : State = at (level_at range old) olds memory trace Going in
        let e : step_g w ≡ next = ap (λ t. at (level_at range t) olds memory trace Going) tested.old in
        let r : Related next v = record { level = rel; here = here; fits = root.0; end_fits = root.1; callers = c; memory = refl; run = refl } in
        let k = subst (λ x. (settled : Related x v) × (owed x v settled ≤ others_owed) × (due x v settled ≤ due_level rel + others_due)) (sym e) (r, omega (arith, z, owes), omega arith) in
        let o = k.1 in let d = k.2 in
        record { there = v; pays = 0; leads = leads-here step_h (cost acting) v; settled = k.0; owing = omega (arith, o); duly = λ on. omega (arith, d); few = omega arith }

    -- the second walk's loop begins
    begin-leads : Leads step_h (cost acting) (at (lev range (begins ∷ []) out) news memory trace Going) (at (waits_b after) news memory trace Going) (begin_cost after)
    begin-leads =
        leads-step step_h (cost acting) (at (lev range (begins ∷ []) out) news memory trace Going) (at (waits_b after) news memory trace Going) (begin_cost after)
        (ap (λ t. at (lev range (first_turn doing after (Tests ends) (Nested body) []) out) news memory t Going) (append-nil trace) ∙ ap (λ l. at l news memory trace Going) (first after)) (costs after)
      where
        first : (f : Bool) → lev range (first_turn doing f (Tests ends) (Nested body) []) out ≡ waits_b f
        first false = refl
        first true = refl

        costs : (f : Bool) → first_cost f + 1 ≡ begin_cost f
        costs false = refl
        costs true = refl

    -- the first walk is at the test, the second at its turn
    waits-false : after ≡ false → EndFit range (waits_a after).end → Goes (at (waits_a after) olds memory trace Going) (at (waits_b after) news memory trace Going) others_owed (due_waits after + others_due)
    waits-false is fits =
        let stay = tree body (Jump label) in
        let a = waits-a-false after is in let b = waits-b-false after is in let d = due-false after is in
        let staying : LevelRel (level_at range stay) (lev range (before body (again ∷ [])) out) = inside (before body []) (ap (lev range (before body [])) (sym (end-false after is))) (ap (λ i. lev range i out) (sym body-again)) in
        let x = d.0 in let y = d.1 in
        subst (λ l. Goes (at l olds memory trace Going) (at (waits_b after) news memory trace Going) others_owed (due_waits after + others_due)) (sym a)
        (subst (λ m. Goes (at (lev range [] (pick_of stay)) olds memory trace Going) (at m news memory trace Going) others_owed (due_waits after + others_due)) (sym b)
        (goes-more (at (lev range [] (pick_of stay)) olds memory trace Going) (at (lev range (again ∷ []) out) news memory trace Going) others_owed others_owed (1 + others_due) (due_waits after + others_due) (omega arith) (omega (arith, y))
        (pick-goes olds news c here stay staying refl (omega (arith, x)) (waits (sym a) (sym b)) refl (subst (λ l. EndFit range l.end) a fits) memory trace)))

    -- the first walk is at its jump back, the second in its next turn
    waits-true : after ≡ true → EndFit range (waits_a after).end → Goes (at (waits_a after) olds memory trace Going) (at (waits_b after) news memory trace Going) others_owed (due_waits after + others_due)
    waits-true is fits =
        let a = waits-a-true after is in let b = waits-b-true after is in let d = due-true after is in
        let rel : LevelRel (level_at range old) (lev range (before body (again ∷ [])) out) = inside (before body []) (root-true after is) (ap (λ i. lev range i out) (sym body-again)) in
        let x = d.0 in let y = d.1 in
        subst (λ l. Goes (at l olds memory trace Going) (at (waits_b after) news memory trace Going) others_owed (due_waits after + others_due)) (sym a)
        (subst (λ m. Goes (at (lev range [] (Jump label)) olds memory trace Going) (at m news memory trace Going) others_owed (due_waits after + others_due)) (sym b)
        (goes-more (at (lev range [] (Jump label)) olds memory trace Going) (at (lev range (before body (again ∷ [])) out) news memory trace Going) others_owed others_owed (1 + due_in after + others_due) (due_waits after + others_due) (omega arith) (omega (arith, x, y))
        (jump-goes (lev range (before body (again ∷ [])) out) rel refl tt)))

    tell : (f : Bool) → (f ≡ false) ⊎ (f ≡ true)
    tell false = inl refl
    tell true = inr refl

    waits-goes : EndFit range (waits_a after).end → Goes (at (waits_a after) olds memory trace Going) (at (waits_b after) news memory trace Going) others_owed (due_waits after + others_due)
    waits-goes fits = elim (tell after) [ inl e ↦ waits-false e fits | inr e ↦ waits-true e fits ]

    -- inside the loop
    inside-false : after ≡ false → Goes (at (lev range [] (end_in after)) olds memory trace Going) (at (lev range (again ∷ []) out) news memory trace Going) others_owed (due_in after + others_due)
    inside-false is =
        let d = due-false after is in
        let x = d.0 in let y = d.1 in
        subst (λ e. Goes (at (lev range [] e) olds memory trace Going) (at (lev range (again ∷ []) out) news memory trace Going) others_owed (due_in after + others_due)) (sym (end-false after is))
        (goes-more (at (lev range [] (Jump label)) olds memory trace Going) (at (lev range (again ∷ []) out) news memory trace Going) others_owed others_owed (1 + due_waits after + others_due) (due_in after + others_due) (omega arith) (omega (arith, x, y))
        (jump-goes (lev range (again ∷ []) out) (waits (root-false after is) (sym (waits-b-false after is))) refl tt))

    inside-true : after ≡ true → EndFit range (end_in after) → Goes (at (lev range [] (end_in after)) olds memory trace Going) (at (lev range (again ∷ []) out) news memory trace Going) others_owed (due_in after + others_due)
    inside-true is fits =
        let stay = tree none (Jump label) in
        let e = end-true after is in let d = due-true after is in
        let x = d.0 in let y = d.1 in
        subst (λ e. Goes (at (lev range [] e) olds memory trace Going) (at (lev range (again ∷ []) out) news memory trace Going) others_owed (due_in after + others_due)) (sym e)
        (goes-more (at (lev range [] (pick_of stay)) olds memory trace Going) (at (lev range (again ∷ []) out) news memory trace Going) others_owed others_owed (1 + others_due) (due_in after + others_due) (omega arith) (omega (arith, x))
        (pick-goes olds news c here stay (waits (sym (waits-a-true after is)) (sym (waits-b-true after is))) refl (omega (arith, y)) (inside [] (ap (lev range []) (sym e)) refl) refl (subst (EndFit range) e fits) memory trace))

    inside-goes : (items : List Item) → Fit range items → EndFit range (end_in after) → Goes (at (lev range items (end_in after)) olds memory trace Going) (at (lev range (items ++ again ∷ []) out) news memory trace Going) (2 * frees items + others_owed) (due_in after + others_due)
    inside-goes [] fits end_fits =
        goes-more (at (lev range [] (end_in after)) olds memory trace Going) (at (lev range (again ∷ []) out) news memory trace Going) others_owed (0 + others_owed) (due_in after + others_due) (due_in after + others_due) (omega arith) (omega arith)
        (elim (tell after) [ inl e ↦ inside-false e | inr e ↦ inside-true e end_fits ])
    inside-goes (item ∷ rest) fits end_fits =
        goes-more (at (lev range (item ∷ rest) (end_in after)) olds memory trace Going) (at (lev range (item ∷ (rest ++ again ∷ [])) out) news memory trace Going) ((2 * frees (item ∷ rest) + 0) + others_owed) (2 * frees (item ∷ rest) + others_owed) (due_in after + others_due) (due_in after + others_due) (omega arith) (omega arith)
        (item-goes olds news c range (end_in after) out (again ∷ []) (λ items. inside items refl refl) 0 (due_in after) (λ items. refl) (λ items. refl) here end_fits item rest memory trace fits refl)

    -- the second walk's loop is next
    enters-goes : RootFit range (level_at range old) → Goes (at (level_at range old) olds memory trace Going) (at (lev range (begins ∷ []) out) news memory trace Going) (begin_cost after + others_owed) others_due
    enters-goes fits = elim (tell after) [
      | inl e ↦
          let d = due-false after e in let x = d.0 in let y = d.1 in let z = begin-some after in
          subst (λ l. Goes (at l olds memory trace Going) (at (lev range (begins ∷ []) out) news memory trace Going) (begin_cost after + others_owed) others_due) (sym (root-false after e))
          (goes-after (at (waits_a after) olds memory trace Going) (at (lev range (begins ∷ []) out) news memory trace Going) (at (waits_b after) news memory trace Going) (begin_cost after) others_owed (due_waits after + others_due) others_due begin-leads
          (waits-goes (subst (λ l. EndFit range l.end) (root-false after e) fits.1)) (omega (arith, y, z)))
      | inr e ↦
          let d = due-true after e in let x = d.0 in let y = d.1 in let z = begin-some after in
          let root = subst (RootFit range) (root-true after e) fits in
          let b = waits-b-true after e in
          let q = frees-root body in
          subst (λ l. Goes (at l olds memory trace Going) (at (lev range (begins ∷ []) out) news memory trace Going) (begin_cost after + others_owed) others_due) (sym (root-true after e))
          (goes-after (at (lev range (before body []) (end_in after)) olds memory trace Going) (at (lev range (begins ∷ []) out) news memory trace Going) (at (waits_b after) news memory trace Going) (begin_cost after) others_owed (due_in after + others_due) others_due begin-leads
          (subst (λ m. Goes (at (lev range (before body []) (end_in after)) olds memory trace Going) (at m news memory trace Going) others_owed (due_in after + others_due)) (sym b)
          (subst (λ i. Goes (at (lev range (before body []) (end_in after)) olds memory trace Going) (at (lev range i out) news memory trace Going) others_owed (due_in after + others_due)) body-again
          (goes-more (at (lev range (before body []) (end_in after)) olds memory trace Going) (at (lev range (before body [] ++ again ∷ []) out) news memory trace Going) (2 * frees (before body []) + others_owed) others_owed (due_in after + others_due) (due_in after + others_due) (omega (arith, q)) (omega arith)
          (inside-goes (before body []) root.0 root.1))))
          (omega (arith, x, z)))
    ]
      where
        begin-some : (f : Bool) → 1 ≤ begin_cost f
        begin-some false = omega arith
        begin-some true = omega arith

  -- any point at which both stand
  same-goes : (r : Range) (items : List Item) (end : End) (olds news : List Level) (c : CallersRel olds news) (memory : Celled Memory) (trace : Trace) → In r order → Fit r items → EndFit r end →
      Goes (at (lev r items end) olds memory trace Going) (at (lev r items end) news memory trace Going) (2 * frees items + callers_owed olds news c) (callers_due olds news c)
  same-goes r [] end olds news c memory trace here fits end_fits =
      goes-more (at (lev r [] end) olds memory trace Going) (at (lev r [] end) news memory trace Going) (callers_owed olds news c) (0 + callers_owed olds news c) (callers_due olds news c) (callers_due olds news c) (omega arith) (omega arith) (same-end r end olds news memory trace here end_fits c)
  same-goes r (item ∷ rest) end olds news c memory trace here fits end_fits =
      let w = at (lev r (item ∷ rest) end) olds memory trace Going in
      goes-more w (at (lev r (item ∷ rest) end) news memory trace Going) ((2 * frees (item ∷ rest) + 0) + callers_owed olds news c) (2 * frees (item ∷ rest) + callers_owed olds news c) (0 + callers_due olds news c) (callers_due olds news c) (omega arith) (omega arith)
      (subst (λ i. Goes w (at (lev r (item ∷ i) end) news memory trace Going) ((2 * frees (item ∷ rest) + 0) + callers_owed olds news c) (0 + callers_due olds news c)) (append-nil rest)
      (item-goes olds news c r end end [] (λ items. same (ap (λ i. lev r i end) (append-nil items))) 0 0 (λ items. refl) (λ items. refl) here end_fits item rest memory trace fits refl))

  level-goes : (r : Range) (items : List Item) (end : End) (b : Level) (rel : LevelRel (lev r items end) b) (olds news : List Level) (c : CallersRel olds news) (memory : Celled Memory) (trace : Trace) → In r order → Fit r items → EndFit r end →
      Goes (at (lev r items end) olds memory trace Going) (at b news memory trace Going) ((2 * frees items + owed_level rel) + callers_owed olds news c) (due_level rel + callers_due olds news c)
  level-goes r items end b (same e) olds news c memory trace here fits end_fits =
      subst (λ x. Goes (at (lev r items end) olds memory trace Going) (at x news memory trace Going) ((2 * frees items + 0) + callers_owed olds news c) (0 + callers_due olds news c)) (sym e)
      (goes-more (at (lev r items end) olds memory trace Going) (at (lev r items end) news memory trace Going) (2 * frees items + callers_owed olds news c) ((2 * frees items + 0) + callers_owed olds news c) (callers_due olds news c) (0 + callers_due olds news c) (omega arith) (omega arith)
      (same-goes r items end olds news c memory trace here fits end_fits))
  level-goes r items end b (enters e f) olds news c memory trace here fits end_fits =
      subst (λ x. Goes (at (lev r items end) olds memory trace Going) (at x news memory trace Going) ((2 * frees items + begin_cost after) + callers_owed olds news c) (0 + callers_due olds news c)) (sym f)
      (subst (λ l. In l.range order → RootFit l.range l → Goes (at l olds memory trace Going) (at (lev range (begins ∷ []) out) news memory trace Going) ((2 * frees l.items + begin_cost after) + callers_owed olds news c) (0 + callers_due olds news c)) (sym e)
      (λ here fits. goes-more (at (level_at range old) olds memory trace Going) (at (lev range (begins ∷ []) out) news memory trace Going) (begin_cost after + callers_owed olds news c) ((2 * frees (before (body_of old) []) + begin_cost after) + callers_owed olds news c) (callers_due olds news c) (0 + callers_due olds news c) (omega arith) (omega arith)
      (enters-goes olds news c here memory trace fits)) here (fits, end_fits))
  level-goes r items end b (inside rest e f) olds news c memory trace here fits end_fits =
      subst (λ x. Goes (at (lev r items end) olds memory trace Going) (at x news memory trace Going) ((2 * frees items + 0) + callers_owed olds news c) (due_in after + callers_due olds news c)) (sym f)
      (subst (λ l. In l.range order → RootFit l.range l → Goes (at l olds memory trace Going) (at (lev range (rest ++ again ∷ []) out) news memory trace Going) ((2 * frees l.items + 0) + callers_owed olds news c) (due_in after + callers_due olds news c)) (sym e)
      (λ here fits. goes-more (at (lev range rest (end_in after)) olds memory trace Going) (at (lev range (rest ++ again ∷ []) out) news memory trace Going) (2 * frees rest + callers_owed olds news c) ((2 * frees rest + 0) + callers_owed olds news c) (due_in after + callers_due olds news c) (due_in after + callers_due olds news c) (omega arith) (omega arith)
      (inside-goes olds news c here memory trace rest fits.0 fits.1)) here (fits, end_fits))
  level-goes r items end b (waits e f) olds news c memory trace here fits end_fits =
      subst (λ x. Goes (at (lev r items end) olds memory trace Going) (at x news memory trace Going) ((2 * frees items + 0) + callers_owed olds news c) (due_waits after + callers_due olds news c)) (sym f)
      (subst (λ l. In l.range order → RootFit l.range l → Goes (at l olds memory trace Going) (at (waits_b after) news memory trace Going) ((2 * frees l.items + 0) + callers_owed olds news c) (due_waits after + callers_due olds news c)) (sym e)
      (λ here fits. goes-more (at (waits_a after) olds memory trace Going) (at (waits_b after) news memory trace Going) (callers_owed olds news c) ((2 * frees (waits_a after).items + 0) + callers_owed olds news c) (due_waits after + callers_due olds news c) (due_waits after + callers_due olds news c) (omega arith) (omega arith)
      (waits-goes olds news c (subst (λ x. In x order) (in-range after) here) memory trace (subst (λ x. EndFit x (waits_a after).end) (in-range after) fits.1))) here (fits, end_fits))
    where
      in-range : (f : Bool) → (waits_a f).range ≡ range
      in-range false = refl
      in-range true = refl

  goes-of : (w v : State) (r : Related w v) → w.run.standing ≡ Going → Goes w v (owed w v r) (due w v r)
  goes-of w v r is =
      let e : w.run ≡ record { trace = w.run.trace; standing = Going } = ap (λ t. record { trace = w.run.trace; standing = t }) is in
      let w_is : w ≡ at w.level w.callers w.memory w.run.trace Going = ap (λ x. record { level = w.level; callers = w.callers; memory = w.memory; run = x }) e in
      let v_is : v ≡ at v.level v.callers w.memory w.run.trace Going =
      ap (λ x. record { level = v.level; callers = v.callers; memory = x; run = v.run }) (sym r.memory) ∙ ap (λ x. record { level = v.level; callers = v.callers; memory = w.memory; run = x }) (sym r.run ∙ e) in
      subst (λ x. Goes x v (owed w v r) (due w v r)) (sym w_is) (subst (λ y. Goes (at w.level w.callers w.memory w.run.trace Going) y (owed w v r) (due w v r)) (sym v_is)
      (level-goes w.level.range w.level.items w.level.end v.level r.level w.callers v.callers r.callers w.memory w.run.trace r.here r.fits r.end_fits))

  -- where the second walk came to, by its number of steps
  pub stepped : (w v : State) (r : Related w v) → w.run.standing ≡ Going →
      (j : ℕ) × (next : Related (step_g w) (iterate step_h j v))
      × (spent step_h (cost acting) j v ≤ 8 * cost acting w + owed w v r)
      × ((step_g w).run.standing ≡ Going →
      (spent step_h (cost acting) j v + owed (step_g w) (iterate step_h j v) next ≤ 8 * cost acting w + owed w v r)
      × (cost acting w + due (step_g w) (iterate step_h j v) next ≤ 8 * spent step_h (cost acting) j v + due w v r))
      × (parted w ≡ true → spent step_h (cost acting) j v ≤ owed w v r + 2)
  stepped w v r is =
      let k = goes-of w v r is in
      let j = k.leads.0 in
      let paid = k.leads.2 in
      let a = k.owing in let b = k.few in
      let all = subst (λ x. (next : Related (step_g w) x) × (k.pays + owed (step_g w) x next ≤ 8 * cost acting w + owed w v r) × ((step_g w).run.standing ≡ Going → cost acting w + due (step_g w) x next ≤ 8 * k.pays + due w v r)) (sym k.leads.1) (k.settled, k.owing, k.duly) in
      let o = all.1 in
      (j, all.0, omega (arith, paid, a), (λ on. (omega (arith, paid, o), (let d = all.2 on in omega (arith, paid, d)))), (λ part. omega (arith, paid, b)))

  module _ (start : Range) (here : In start order) where
    pub tested-charges : Charges (walk_machine acting left g start) (walk_machine acting left h start) (cost acting) (cost acting) parted 8 Related
    tested-charges =
        let n = entry-of start in
        let root = root-of start (g.entry start) here in
        record {
          owed = owed;
          due = due;
          starts = λ memory. record { level = n.0; here = here; fits = root.0; end_fits = root.1; callers = tt; memory = refl; run = refl };
          owes = λ memory. let z = frees-root (body_of (g.node start (g.entry start))) in let x = n.1 in omega (arith, z, x);
          dues = λ memory. let y = n.2 in omega (arith, y);
          cheap = cost-most acting;
          agree = λ w v r. r.run;
          moves = stepped;
        }

    pub tested-matched : (Reads2 Writes2 : Range → ℕ → Type 0) → Ordered Reads2 Writes2 h order → Matched 8 (walked acting left g order start) (walked acting left h order start)
    tested-matched Reads2 Writes2 ordered2 =
        units-matched (walk_machine acting left g start) (walk_machine acting left h start) (cost acting) (cost acting) parted parted 8 Related (walks-grow acting left g start) (walks-grow acting left h start) tested-charges
        (walked acting left g order start) (walked acting left h order start) (λ memory units. (walked-pays acting left g Reads Writes order ordered start here memory units).0) (λ memory units. (walked-pays acting left h Reads2 Writes2 order ordered2 start here memory units).0)
