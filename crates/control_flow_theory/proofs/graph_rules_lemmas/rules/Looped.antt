-- A loop with a flag, or with a cell that is never 1, keeps what a walk does, and its units within a factor.
use Rattle.std.proofs.Common.{◌≡◌, ◌≢◌, ℕ, zero, suc, ◌+◌, ◌*◌, ◌≤◌, ◌<◌, Bool, true, false, if◌then◌else◌, ◌==◌, List, [], ◌∷◌, ◌++◌, refl, ap, sym, ◌∙◌, subst, arith, append-nil, append_assoc, ◌⊎◌, inl, inr}
use Rattle.std.proofs.lemmas.Bool.Decides.{eqb_tells}
use Rattle.control_flow_theory.specs.runs.Run.{Going, Over}
use Rattle.control_flow_theory.specs.runs.Machine.{iterate}
use Rattle.control_flow_theory.specs.semantics.Outcome.{Trace, How, Normally, Abend, Ending, Stopped, Returned, Lost, Standing, Tried, Got}
use Rattle.control_flow_theory.specs.semantics.Outcome as outcome
use Rattle.control_flow_theory.specs.language.Language.{Set, Test, Is, Until, Loop, Choose, StopRun, Stmts, none, also, Arms, done, given, missing, Nested, Range, Main, Part, same_range}
use Rattle.control_flow_theory.specs.language.Language as language
use Rattle.control_flow_theory.specs.semantics.Doing.{Acting, Celled, put, celled}
use Rattle.control_flow_theory.specs.language.Items.{Tests, Item, Do, Turn, before, before_arm}
use Rattle.control_flow_theory.specs.semantics.Items.{Way, On, Halts, Into, To, ToEnd, tried, on, turns, item_way}
use Rattle.control_flow_theory.specs.semantics.Graph.{Label, Tree, tree, End, Pick, Jump, Return, Stop, Dead, Trees, no_more, more, body_of, end_of, Family}
use Rattle.control_flow_theory.specs.semantics.Walk.{Level, Walk, tree_at, level_at, level_of, walk_goes, picked, picks, returns, walk_step, walk_begun}
use Rattle.control_flow_theory.specs.graph_rules.Fits.{PickerFits, TreeFits, EndFits, TreesFit, ItemsFit, WayFits}
use Rattle.control_flow_theory.specs.graph_rules.Loops.{Keeper, Flagged, Endless, LoopsEnd, LoopsTree, LoopsArms, loop_of, Seen, Looped}
use Rattle.control_flow_theory.specs.graph_rules.Charged.{spent, Matched, Charges}
use Rattle.control_flow_theory.specs.graph_rules.Costs.{round_cost, item_cost, cost, parted}
use Rattle.control_flow_theory.specs.graph_rules.Walked.{machine_from, walked_from, In, Ordered}
use Rattle.control_flow_theory.proofs.graph_rules_lemmas.walks.Charges.{units-matched}
use Rattle.control_flow_theory.proofs.graph_rules_lemmas.walks.Ways.{before-append, further, item-further, item-fits}
use Rattle.control_flow_theory.proofs.graph_rules_lemmas.walks.Orders.{place, Behind, ordered-fits, root-fits, Calm, cost-append}
use Rattle.control_flow_theory.proofs.semantics_lemmas.Ranges.{range-tells}
use Rattle.control_flow_theory.proofs.graph_rules_lemmas.walks.Walks.{grows-from, paid-from, cost-most}
use Rattle.control_flow_theory.proofs.graph_rules_lemmas.walks.Frees.{frees, frees-root, WayFrees, item-frees, IntoCosts, item-into}
use Rattle.control_flow_theory.proofs.graph_rules_lemmas.rules.FlagCells as hidden
use Rattle.control_flow_theory.proofs.graph_rules_lemmas.rules.FlagCells.{Keeps, begin_cost, begin-most, put-same, agree-flag, owns, turned, reads, puts}
use Rattle.control_flow_theory.proofs.graph_rules_lemmas.walks.Leads.{Leads, leads-step, leads-then}
use Rattle.control_flow_theory.proofs.graph_rules_lemmas.walks.Alike.{TriedAlike, WayAlike, pick-alike, item-alike, item-cost-alike}

module _ {Memory Left : Type 0} (acting : Acting Memory) (left : Memory → Left) (keeper : Keeper) (cell : ℕ) (range : Range) (label : Label) (out : End) (body : Stmts) (g h : Family) (order : List Range)
    (looped : Looped keeper cell range label out body g h order) where
  abbrev State : Type 0
  State = Walk Memory Left

  abbrev Reads : Range → ℕ → Type 0
  Reads r c = r ≡ range → Seen keeper cell c

  abbrev Writes : Range → ℕ → Type 0
  Writes r c = r ≡ range → c ≢ cell

  abbrev Agree : Celled Memory → Celled Memory → Type 0
  Agree = hidden.Agree keeper cell range

  abbrev Fit : Range → List Item → Type 0
  Fit r = ItemsFit (Behind order r) (Reads r) (Writes r)

  abbrev EndFit : Range → End → Type 0
  EndFit r = EndFits (Behind order r) (Reads r) (Writes r)

  abbrev at : Level → List Level → Celled Memory → Trace → Standing Left → State
  at level callers memory trace standing = record { level = level; callers = callers; memory = memory; run = record { trace = trace; standing = standing } }

  abbrev lev : Range → List Item → End → Level
  lev r items end = record { range = r; items = items; end = end }

  abbrev step_h : State → State
  step_h = walk_step acting left h

  abbrev step_g : State → State
  step_g = walk_step acting left g

  abbrev again : Item
  again = Turn (Tests (Is cell 1)) (Nested body)

  abbrev old : Tree
  old = g.node range label

  pub data LevelRel (a b : Level) : Type 0 where
    same : b ≡ a → LevelRel a b
    enters : a ≡ level_at range old → b ≡ lev range (before (loop_of keeper cell body) []) out → LevelRel a b
    inside : (items tail : List Item) → (end : End) → a ≡ lev range items end → b ≡ lev range ((items ++ tail) ++ again ∷ []) out → LoopsEnd keeper cell label out end tail → LevelRel a b

  abbrev CallersRel : List Level → List Level → Type 0
  CallersRel [] [] = Unit {0}
  CallersRel [] (b ∷ news) = ⊥
  CallersRel (a ∷ olds) [] = ⊥
  CallersRel (a ∷ olds) (b ∷ news) = (LevelRel a b × In a.range order × Fit a.range a.items × EndFit a.range a.end) × CallersRel olds news

  -- each level stands before the one that it waits for
  abbrev Chain : Range → List Level → Type 0
  Chain r [] = Unit {0}
  Chain r (a ∷ olds) = (place order a.range < place order r) × Chain a.range olds

  abbrev in_level : {a b : Level} → LevelRel a b → Bool
  in_level (same e) = false
  in_level (enters e f) = false
  in_level (inside items tail end e f j) = true

  abbrev in_callers : (olds news : List Level) → CallersRel olds news → Bool
  in_callers [] news c = false
  in_callers (a ∷ olds) [] c = false
  in_callers (a ∷ olds) (b ∷ news) c = if in_level c.0.0 then true else in_callers olds news c.1

  -- the cell holds 0 inside the loop, and always where nothing sets it
  abbrev Zero : Bool → Celled Memory → Type 0
  Zero within t = ((keeper ≡ Endless) ⊎ (within ≡ true)) → t.cells range cell ≡ 0

  pub record Settled (w v : State) : Type 0 where
    pub level : LevelRel w.level v.level
    pub here : In w.level.range order
    pub fits : Fit w.level.range w.level.items
    pub end_fits : EndFit w.level.range w.level.end
    pub callers : CallersRel w.callers v.callers
    pub chain : Chain w.level.range w.callers
    pub agree : Agree w.memory v.memory
    pub holds : Zero (if in_level level then true else in_callers w.callers v.callers callers) v.memory
    pub run : w.run ≡ v.run

  -- what is owed: that the loop begins, and that it is left
  abbrev owed_level : {a b : Level} → LevelRel a b → ℕ
  owed_level (same e) = 0
  owed_level (enters e f) = begin_cost keeper + 1
  owed_level (inside items tail end e f j) = 1

  abbrev callers_owed : (olds news : List Level) → CallersRel olds news → ℕ
  callers_owed [] news c = 0
  callers_owed (a ∷ olds) [] c = 0
  callers_owed (a ∷ olds) (b ∷ news) c = (4 * frees a.items + owed_level c.0.0) + callers_owed olds news c.1

  abbrev owed : (w v : State) → Settled w v → ℕ
  owed w v r = (4 * frees w.level.items + owed_level r.level) + callers_owed w.callers v.callers r.callers

  -- the second walk goes on to where it is settled again
  pub record Goes (w v : State) (owed_now : ℕ) : Type 0 where
    pub there : State
    pub pays : ℕ
    pub leads : Leads step_h (cost acting) v there pays
    pub settled : Settled (step_g w) there
    pub most : pays ≤ 8 * cost acting w + owed_now
    pub owing : (step_g w).run.standing ≡ Going → pays + owed (step_g w) there settled ≤ 8 * cost acting w + owed_now
    pub duly : cost acting w ≤ 8 * pays
    pub few : pays ≤ owed_now + 2

  abbrev NotLost : State → Type 0
  NotLost w = w.run.standing ≢ Over Lost

  -- the roots of two levels
  abbrev Rooted : Level → Level → Type 0
  Rooted a b = (level : LevelRel a b) × (owed_level level ≤ 4) × (in_level level ≡ false)

  node-of : (r : Range) (l : Label) → Rooted (level_at r (g.node r l)) (level_at r (h.node r l))
  node-of r l = elim (range-tells r range) [
    | inr d ↦ (same (ap (level_at r) (looped.same r l (inl d.1))), omega arith, refl)
    | inl d ↦ elim (eqb_tells l label) [
      | inr f ↦ (same (ap (level_at r) (looped.same r l (inr f.1))), omega arith, refl)
      | inl f ↦
          subst (λ x. Rooted (level_at x (g.node x l)) (level_at x (h.node x l))) (sym d.1) (subst (λ y. Rooted (level_at range (g.node range y)) (level_at range (h.node range y))) (sym f.1)
          (enters refl (ap (level_at range) looped.node), (let b = begin-most keeper in omega (arith, b)), refl))
    ]
  ]

  entry-of : (r : Range) → Rooted (level_of g r) (level_of h r)
  entry-of r = subst (λ l. Rooted (level_of g r) (level_at r (h.node r l))) (sym (looped.entries r)) (node-of r (g.entry r))

  root-of : (r : Range) (l : Label) → In r order → Fit r (before (body_of (g.node r l)) []) × EndFit r (end_of (g.node r l))
  root-of r l here = root-fits (Behind order r) (Reads r) (Writes r) (g.node r l) (ordered-fits g Reads Writes order looped.unused r here l)

  module _ (olds news : List Level) (c : CallersRel olds news) where
    abbrev others : ℕ
    others = callers_owed olds news c

    abbrev within : Bool
    within = in_callers olds news c

    module _ (r : Range) (end now : End) (more_items : List Item) (rel : (items : List Item) → LevelRel (lev r items end) (lev r (items ++ more_items) now)) (wo : ℕ) (wi : Bool) (owes_is : (items : List Item) → owed_level (rel items) ≡ wo) (in_is : (items : List Item) → in_level (rel items) ≡ wi)
        (here : In r order) (end_fits : EndFit r end) (chain : Chain r olds) where
      abbrev Both : State → State → ℕ → Type 0
      Both w v c = (settled : Settled w v) × (owed w v settled ≤ c)

      zero-at : (items : List Item) (t n : Celled Memory) → Zero (if wi then true else within) t → n.cells range cell ≡ t.cells range cell → Zero (if in_level (rel items) then true else within) n
      zero-at items t n z e = subst (λ b. Zero (if b then true else within) n) (sym (in_is items)) (λ x. e ∙ z x)

      way-both : (item : Item) (rest : List Item) (s t : Celled Memory) (trace : Trace) → Fit r (item ∷ rest) → Agree s t → Zero (if wi then true else within) t → (cost_is : ℕ) → cost_is ≡ item_cost (celled acting r) item rest s → (way : Way (Celled Memory)) → WayFits (Behind order r) (Reads r) (Writes r) way → WayFrees (frees rest + item_cost (celled acting r) item rest s) way → IntoCosts (celled acting r) item rest s way →
          (other : Way (Celled Memory)) → WayAlike (Keeps keeper cell range (t.cells range cell)) way other →
          Both (walk_goes acting left g way (at (lev r (item ∷ rest) end) olds s trace Going)) (walk_goes acting left h (further more_items other) (at (lev r (item ∷ (rest ++ more_items)) now) news t trace Going))
          (4 * cost_is + (4 * frees (item ∷ rest) + wo) + others)
      way-both item rest s t trace fits agree z cost_is e (On shown m items) w f i (On u n o) k =
          let a = owes_is items in
          subst (λ x. Both (at (lev r items end) olds m (trace ++ shown) Going) (at (lev r (x ++ more_items) now) news n (trace ++ u) Going) (4 * cost_is + (4 * frees (item ∷ rest) + wo) + others)) k.2
          (subst (λ x. Both (at (lev r items end) olds m (trace ++ shown) Going) (at (lev r (items ++ more_items) now) news n (trace ++ x) Going) (4 * cost_is + (4 * frees (item ∷ rest) + wo) + others)) k.0
          (record { level = rel items; here = here; fits = w; end_fits = end_fits; callers = c; chain = chain; agree = k.1.0; holds = zero-at items t n z k.1.1; run = refl }, omega (arith, a, f, e)))
      way-both item rest s t trace fits agree z cost_is e (On shown m items) w f i (Halts u how n) k = absurd k
      way-both item rest s t trace fits agree z cost_is e (On shown m items) w f i (Into entry exit o) k = absurd k
      way-both item rest s t trace fits agree z cost_is e (On shown m items) w f i (To u n p) k = absurd k
      way-both item rest s t trace fits agree z cost_is e (On shown m items) w f i (ToEnd u n p) k = absurd k
      way-both item rest s t trace fits agree z cost_is e (Halts shown how m) w f i (On u n o) k = absurd k
      way-both item rest s t trace fits agree z cost_is e (Halts shown how m) w f i (Halts u kind n) k =
          let a = owes_is (item ∷ rest) in (
            record {
              level = rel (item ∷ rest);
              here = here;
              fits = fits;
              end_fits = end_fits;
              callers = c;
              chain = chain;
              agree = k.2.0;
              holds = zero-at (item ∷ rest) t n z k.2.1;
              run = ap (λ x. record { trace = trace ++ x; standing = Over (Stopped how (left m.own)) }) k.0 ∙ ap (λ x. record { trace = trace ++ u; standing = Over (Stopped x (left m.own)) }) k.1 ∙ ap (λ x. record { trace = trace ++ u; standing = Over (Stopped kind (left x)) }) k.2.0.own;
            },
            omega (arith, a),
          )
      way-both item rest s t trace fits agree z cost_is e (Halts shown how m) w f i (Into entry exit o) k = absurd k
      way-both item rest s t trace fits agree z cost_is e (Halts shown how m) w f i (To u n p) k = absurd k
      way-both item rest s t trace fits agree z cost_is e (Halts shown how m) w f i (ToEnd u n p) k = absurd k
      way-both item rest s t trace fits agree z cost_is e (Into entry exit items) w f i (On u n o) k = absurd k
      way-both item rest s t trace fits agree z cost_is e (Into entry exit items) w f i (Halts u how n) k = absurd k
      way-both item rest s t trace fits agree z cost_is e (Into entry exit items) w f i (Into first last o) k =
          let to = Part entry exit in
          let n = entry-of to in
          let root = root-of to (g.entry to) w.0.0 in
          let a = owes_is items in
          let q = frees-root (body_of (g.node to (g.entry to))) in
          let d = ap frees i.0 in let y = i.1 in let x = n.1 in
          let now_at = λ (en ex : ℕ) (its : List Item). at (level_of h (Part en ex)) (lev r (its ++ more_items) now ∷ news) t trace Going in
          let was = at (level_of g to) (lev r items end ∷ olds) s trace Going in
          let most = 4 * cost_is + (4 * frees (item ∷ rest) + wo) + others in
          subst (λ en. Both was (now_at en last o) most) k.0 (subst (λ ex. Both was (now_at entry ex o) most) k.1 (subst (λ its. Both was (now_at entry exit its) most) k.2 (
            record {
              level = n.0;
              here = w.0.0;
              fits = root.0;
              end_fits = root.1;
              callers = ((rel items, here, w.1, end_fits), c);
              chain = (w.0.1, chain);
              agree = agree;
              holds = subst (λ b. Zero (if b then true else (if in_level (rel items) then true else within)) t) (sym n.2) (zero-at items t t z refl);
              run = refl;
            },
            omega (arith, a, q, d, y, x, e),
          )))
      way-both item rest s t trace fits agree z cost_is e (Into entry exit items) w f i (To u n p) k = absurd k
      way-both item rest s t trace fits agree z cost_is e (Into entry exit items) w f i (ToEnd u n p) k = absurd k
      way-both item rest s t trace fits agree z cost_is e (To shown m p) w f i other k = absurd w
      way-both item rest s t trace fits agree z cost_is e (ToEnd shown m p) w f i other k = absurd w

      item-goes : (item : Item) (rest : List Item) (s t : Celled Memory) (trace : Trace) → Fit r (item ∷ rest) → Agree s t → Zero (if wi then true else within) t → Calm (celled acting r) more_items →
          Goes (at (lev r (item ∷ rest) end) olds s trace Going) (at (lev r (item ∷ (rest ++ more_items)) now) news t trace Going) ((4 * frees (item ∷ rest) + wo) + others)
      item-goes item rest s t trace fits agree z calm =
          let doing = celled acting r in
          let w = at (lev r (item ∷ rest) end) olds s trace Going in
          let v = at (lev r (item ∷ (rest ++ more_items)) now) news t trace Going in
          let value = t.cells range cell in
          let both = item-alike (Keeps keeper cell range value) acting r (Behind order r) (Reads r) (Writes r) (owns keeper cell range value) (turned keeper cell range value) (reads keeper cell range value r) (puts keeper cell range value r) item rest s t fits.0 (agree, refl) in
          let costs = item-cost-alike (Keeps keeper cell range value) acting r (Behind order r) (Reads r) (Writes r) (owns keeper cell range value) (turned keeper cell range value) (reads keeper cell range value r) (puts keeper cell range value r) item rest s t fits.0 (agree, refl) in
          let way = item_way doing item rest s in
          let other = item_way doing item rest t in
          let k = way-both item rest s t trace fits agree z (item_cost doing item rest s) refl way (item-fits (Behind order r) (Reads r) (Writes r) doing item rest s fits.0 fits.1) (item-frees doing (Behind order r) (Reads r) (Writes r) item rest s fits.0) (item-into doing item rest s) other both in
          let o = k.1 in let few = cost-most acting w in
          record {
            there = walk_goes acting left h (further more_items other) v;
            pays = item_cost doing item rest s;
            leads = leads-step step_h (cost acting) v (walk_goes acting left h (further more_items other) v) (item_cost doing item rest s) (ap (λ x. walk_goes acting left h x v) (item-further doing more_items (Behind order r) (Reads r) (Writes r) item rest t fits.0)) (cost-append doing item rest more_items t calm ∙ sym costs);
            settled = k.0;
            most = omega arith;
            owing = λ on. omega (arith, o);
            duly = omega arith;
            few = omega (arith, few);
          }

  -- some steps before, and room for more
  goes-after : (w v there : State) (pays o : ℕ) → Leads step_h (cost acting) v there pays → Goes w there o → Goes w v (pays + o)
  goes-after w v there pays o leads k =
      let a = k.most in let b = k.few in let d = k.duly in
      record {
        there = k.there;
        pays = pays + k.pays;
        leads = leads-then step_h (cost acting) v there k.there pays k.pays leads k.leads;
        settled = k.settled;
        most = omega (arith, a);
        owing = λ on. let x = k.owing on in omega (arith, x);
        duly = omega (arith, d);
        few = omega (arith, b);
      }

  goes-more : (w v : State) (o p : ℕ) → o ≤ p → Goes w v o → Goes w v p
  goes-more w v o p le k =
      let a = k.most in let b = k.few in
      record { there = k.there; pays = k.pays; leads = k.leads; settled = k.settled; most = omega (arith, a, le); owing = λ on. let x = k.owing on in omega (arith, x, le); duly = k.duly; few = omega (arith, b, le) }

  -- one step of both, with the same cost
  goes-one : (w v : State) (owed_now : ℕ) (settled : Settled (step_g w) (step_h v)) → cost acting v ≡ cost acting w → owed (step_g w) (step_h v) settled ≤ owed_now + 4 * cost acting w → Goes w v owed_now
  goes-one w v owed_now settled e o =
      let few = cost-most acting w in
      record {
        there = step_h v;
        pays = cost acting w;
        leads = leads-step step_h (cost acting) v (step_h v) (cost acting w) refl e;
        settled = settled;
        most = omega arith;
        owing = λ on. omega (arith, o);
        duly = omega arith;
        few = omega (arith, few);
      }

  -- callers that stand before the range aren't inside the loop
  outside : (r : Range) (olds news : List Level) (c : CallersRel olds news) → place order r ≤ place order range → Chain r olds → in_callers olds news c ≡ false
  outside r [] news c le chain = refl
  outside r (a ∷ olds) [] c le chain = refl
  outside r (a ∷ olds) (b ∷ news) c le chain =
      ap (λ x. if x then true else in_callers olds news c.1) (not-in c.0.0 (let f = chain.0 in omega (arith, f, le))) ∙ outside a.range olds news c.1 (let f = chain.0 in omega (arith, f, le)) chain.1
    where
      not-in : (rel : LevelRel a b) → place order a.range < place order range → in_level rel ≡ false
      not-in (same e) lt = refl
      not-in (enters e f) lt = refl
      not-in (inside items tail end e f j) lt = absurd (let q : place order a.range ≡ place order range = ap (λ l. place order l.range) e in omega (arith, q, lt))

  -- Both at an end that is the same.
  module _ (olds news : List Level) (c : CallersRel olds news) where
    abbrev those : ℕ
    those = callers_owed olds news c

    abbrev Picked : State → State → ℕ → Type 0
    Picked w v most = (settled : Settled w v) × (owed w v settled ≤ most)

    same-picked : (r : Range) (arms : Trees) (a b : Level) (k : ℕ) (m n : Celled Memory) (trace : Trace) → In r order → Chain r olds → Agree m n → Zero (in_callers olds news c) n → a.range ≡ r → b.range ≡ r → b ≡ a → Fit a.range a.items → EndFit a.range a.end → TreesFit (Behind order r) (Reads r) (Writes r) arms →
        Picked (picked acting left g (tree_at arms k) (at a olds m trace Going)) (picked acting left h (tree_at arms k) (at b news n trace Going)) (4 * frees a.items + those)
    same-picked r no_more a b k m n trace here chain agree z ar br is fits end_fits arms_fit =
        (record { level = same is; here = subst (λ x. In x order) (sym ar) here; fits = fits; end_fits = end_fits; callers = c; chain = subst (λ x. Chain x olds) (sym ar) chain; agree = agree; holds = z; run = refl }, omega arith)
    same-picked r (more first rest) a b zero m n trace here chain agree z ar br is fits end_fits arms_fit =
        let root = root-fits (Behind order r) (Reads r) (Writes r) first arms_fit.0 in
        let q = frees-root (body_of first) in (
          record {
            level = same (ap (λ x. level_at x first) (br ∙ sym ar));
            here = subst (λ x. In x order) (sym ar) here;
            fits = subst (λ x. Fit x (before (body_of first) [])) (sym ar) root.0;
            end_fits = subst (λ x. EndFit x (end_of first)) (sym ar) root.1;
            callers = c;
            chain = subst (λ x. Chain x olds) (sym ar) chain;
            agree = agree;
            holds = z;
            run = refl;
          },
          omega (arith, q),
        )
    same-picked r (more first rest) a b (suc k) m n trace here chain agree z ar br is fits end_fits arms_fit = same-picked r rest a b k m n trace here chain agree z ar br is fits end_fits arms_fit.1

    same-picks : (r : Range) (arms : Trees) (end : End) (s t : Celled Memory) (trace : Trace) → In r order → Chain r olds → Zero (in_callers olds news c) t → EndFit r end → TreesFit (Behind order r) (Reads r) (Writes r) arms → (one two : Tried (Celled Memory) ℕ) → TriedAlike (Keeps keeper cell range (t.cells range cell)) one two →
        Picked (picks acting left g arms one (at (lev r [] end) olds s trace Going)) (picks acting left h arms two (at (lev r [] end) news t trace Going)) those
    same-picks r arms end s t trace here chain z fits arms_fit (Got shown k m) (Got other j n) alike =
        let w = picked acting left g (tree_at arms k) (at (lev r [] end) olds m (trace ++ shown) Going) in
        subst (λ x. Picked w (picked acting left h (tree_at arms j) (at (lev r [] end) news n (trace ++ x) Going)) those) alike.0
        (subst (λ y. Picked w (picked acting left h (tree_at arms y) (at (lev r [] end) news n (trace ++ shown) Going)) those) alike.1
        (let p = same-picked r arms (lev r [] end) (lev r [] end) k m n (trace ++ shown) here chain alike.2.0 (λ x. alike.2.1 ∙ z x) refl refl refl tt fits arms_fit in (p.0, (let o = p.1 in omega (arith, o)))))
    same-picks r arms end s t trace here chain z fits arms_fit (Got shown k m) (outcome.Ends other kind n) alike = absurd alike
    same-picks r arms end s t trace here chain z fits arms_fit (outcome.Ends shown kind m) (Got other j n) alike = absurd alike
    same-picks r arms end s t trace here chain z fits arms_fit (outcome.Ends shown kind m) (outcome.Ends other sort n) alike = (
      record {
        level = same refl;
        here = here;
        fits = tt;
        end_fits = fits;
        callers = c;
        chain = chain;
        agree = alike.2.0;
        holds = λ x. alike.2.1 ∙ z x;
        run = ap (λ x. record { trace = trace ++ x; standing = Over (Stopped (Abend kind) (left m.own)) }) alike.0 ∙ ap (λ x. record { trace = trace ++ other; standing = Over (Stopped (Abend x) (left m.own)) }) alike.1 ∙ ap (λ x. record { trace = trace ++ other; standing = Over (Stopped (Abend sort) (left x)) }) alike.2.0.own;
      },
      omega arith,
    )

  pick-values : (r : Range) (picker : language.Picker) (s t : Celled Memory) → PickerFits (Behind order r) (Reads r) (Writes r) picker → Agree s t → TriedAlike (Keeps keeper cell range (t.cells range cell)) ((celled acting r).pick picker s) ((celled acting r).pick picker t)
  pick-values r picker s t fits agree =
      let value = t.cells range cell in
      pick-alike (Keeps keeper cell range value) acting r (Behind order r) (Reads r) (Writes r) (owns keeper cell range value) (turned keeper cell range value) (reads keeper cell range value r) (puts keeper cell range value r) picker s t fits (agree, refl)

  same-end : (r : Range) (end : End) (olds news : List Level) (s t : Celled Memory) (trace : Trace) → In r order → Chain r olds → EndFit r end → Agree s t → (c : CallersRel olds news) → Zero (in_callers olds news c) t →
      Goes (at (lev r [] end) olds s trace Going) (at (lev r [] end) news t trace Going) (callers_owed olds news c)
  same-end r (Pick picker arms) olds news s t trace here chain fits agree c z =
      let p = same-picks olds news c r arms (Pick picker arms) s t trace here chain z fits fits.1 ((celled acting r).pick picker s) ((celled acting r).pick picker t) (pick-values r picker s t fits.0 agree) in
      let o = p.1 in
      goes-one (at (lev r [] (Pick picker arms)) olds s trace Going) (at (lev r [] (Pick picker arms)) news t trace Going) (callers_owed olds news c) p.0 refl (omega (arith, o))
  same-end r (Jump to) olds news s t trace here chain fits agree c z =
      let n = node-of r to in
      let root = root-of r to here in
      let q = frees-root (body_of (g.node r to)) in let x = n.1 in
      goes-one (at (lev r [] (Jump to)) olds s trace Going) (at (lev r [] (Jump to)) news t trace Going) (callers_owed olds news c)
      (record { level = n.0; here = here; fits = root.0; end_fits = root.1; callers = c; chain = chain; agree = agree; holds = subst (λ b. Zero (if b then true else in_callers olds news c) t) (sym n.2) z; run = refl }) refl (omega (arith, q, x))
  same-end r Return [] [] s t trace here chain fits agree c z =
      goes-one (at (lev r [] Return) [] s trace Going) (at (lev r [] Return) [] t trace Going) 0
      (record { level = same refl; here = here; fits = tt; end_fits = fits; callers = tt; chain = tt; agree = agree; holds = z; run = ap (λ o. record { trace = trace; standing = Over (Returned (left o)) }) agree.own }) refl (omega arith)
  same-end r Return [] (b ∷ news) s t trace here chain fits agree c z = absurd c
  same-end r Return (a ∷ olds) [] s t trace here chain fits agree c z = absurd c
  same-end r Return (a ∷ olds) (b ∷ news) s t trace here chain fits agree c z =
      goes-one (at (lev r [] Return) (a ∷ olds) s trace Going) (at (lev r [] Return) (b ∷ news) t trace Going) (callers_owed (a ∷ olds) (b ∷ news) c)
      (record { level = c.0.0; here = c.0.1; fits = c.0.2; end_fits = c.0.3; callers = c.1; chain = chain.1; agree = agree; holds = z; run = refl }) refl (omega arith)
  same-end r Stop olds news s t trace here chain fits agree c z =
      goes-one (at (lev r [] Stop) olds s trace Going) (at (lev r [] Stop) news t trace Going) (callers_owed olds news c)
      (record { level = same refl; here = here; fits = tt; end_fits = fits; callers = c; chain = chain; agree = agree; holds = z; run = ap (λ o. record { trace = trace; standing = Over (Stopped Normally (left o)) }) agree.own }) refl (omega arith)
  same-end r Dead olds news s t trace here chain fits agree c z =
      goes-one (at (lev r [] Dead) olds s trace Going) (at (lev r [] Dead) news t trace Going) (callers_owed olds news c)
      (record { level = same refl; here = here; fits = tt; end_fits = fits; callers = c; chain = chain; agree = agree; holds = z; run = refl }) refl (omega arith)

  -- The loop's own steps, which show nothing.

  module _ (news : List Level) (trace : Trace) where
    set-leads : (value : ℕ) (rest : List Item) (now : End) (t : Celled Memory) → Leads step_h (cost acting) (at (lev range (Do (language.Do (Set cell value)) ∷ rest) now) news t trace Going) (at (lev range rest now) news (put range cell value t) trace Going) 1
    set-leads value rest now t =
        leads-step step_h (cost acting) (at (lev range (Do (language.Do (Set cell value)) ∷ rest) now) news t trace Going) (at (lev range rest now) news (put range cell value t) trace Going) 1
        (ap (λ x. at (lev range rest now) news (put range cell value t) x Going) (append-nil trace)) refl

    loop-leads : (t : Celled Memory) → Leads step_h (cost acting) (at (lev range (Do (Loop (Until false (Is cell 1)) (Nested body)) ∷ []) out) news t trace Going) (at (lev range (again ∷ []) out) news t trace Going) 1
    loop-leads t =
        leads-step step_h (cost acting) (at (lev range (Do (Loop (Until false (Is cell 1)) (Nested body)) ∷ []) out) news t trace Going) (at (lev range (again ∷ []) out) news t trace Going) 1
        (ap (λ x. at (lev range (again ∷ []) out) news t x Going) (append-nil trace)) refl

    turn-leads : (t : Celled Memory) → t.cells range cell ≡ 0 → Leads step_h (cost acting) (at (lev range (again ∷ []) out) news t trace Going) (at (lev range (before body (again ∷ [])) out) news t trace Going) 1
    turn-leads t z =
        let v = at (lev range (again ∷ []) out) news t trace Going in
        leads-step step_h (cost acting) v (at (lev range (before body (again ∷ [])) out) news t trace Going) 1
        (ap (λ x. walk_goes acting left h (tried (Got [] (x == 1) t) (λ ended. on (celled acting range) (turns (celled acting range) ended (Tests (Is cell 1)) (Nested body) []))) v) z ∙ ap (λ x. at (lev range (before body (again ∷ [])) out) news t x Going) (append-nil trace))
        (ap (λ x. round_cost (x == 1)) z)

    leave-leads : (t : Celled Memory) → t.cells range cell ≡ 1 → Leads step_h (cost acting) (at (lev range (again ∷ []) out) news t trace Going) (at (lev range [] out) news t trace Going) 0
    leave-leads t z =
        let v = at (lev range (again ∷ []) out) news t trace Going in
        leads-step step_h (cost acting) v (at (lev range [] out) news t trace Going) 0
        (ap (λ x. walk_goes acting left h (tried (Got [] (x == 1) t) (λ ended. on (celled acting range) (turns (celled acting range) ended (Tests (Is cell 1)) (Nested body) []))) v) z ∙ ap (λ x. at (lev range [] out) news t x Going) (append-nil trace))
        (ap (λ x. round_cost (x == 1)) z)

    -- the flag is set, and the loop is left
    exit-leads : (t : Celled Memory) → Leads step_h (cost acting) (at (lev range (Do (language.Do (Set cell 1)) ∷ again ∷ []) out) news t trace Going) (at (lev range [] out) news (put range cell 1 t) trace Going) 1
    exit-leads t =
        leads-then step_h (cost acting) (at (lev range (Do (language.Do (Set cell 1)) ∷ again ∷ []) out) news t trace Going) (at (lev range (again ∷ []) out) news (put range cell 1 t) trace Going) (at (lev range [] out) news (put range cell 1 t) trace Going) 1 0
        (set-leads 1 (again ∷ []) out t) (leave-leads (put range cell 1 t) (put-same keeper cell range 1 t))

    abbrev cleared : Keeper → Celled Memory → Celled Memory
    cleared Flagged t = put range cell 0 t
    cleared Endless t = t

    begin-leads : (k : Keeper) (t : Celled Memory) → (k ≡ Endless → t.cells range cell ≡ 0) →
        Leads step_h (cost acting) (at (lev range (before (loop_of k cell body) []) out) news t trace Going) (at (lev range (before body (again ∷ [])) out) news (cleared k t) trace Going) (begin_cost k)
    begin-leads Flagged t z =
        let first = at (lev range (before (loop_of Flagged cell body) []) out) news t trace Going in
        let u = put range cell 0 t in
        let second = at (lev range (Do (Loop (Until false (Is cell 1)) (Nested body)) ∷ []) out) news u trace Going in
        let third = at (lev range (again ∷ []) out) news u trace Going in
        let last = at (lev range (before body (again ∷ [])) out) news u trace Going in
        leads-then step_h (cost acting) first second last 1 2 (set-leads 0 (Do (Loop (Until false (Is cell 1)) (Nested body)) ∷ []) out t)
        (leads-then step_h (cost acting) second third last 1 1 (loop-leads u) (turn-leads u (put-same keeper cell range 0 t)))
    begin-leads Endless t z =
        let first = at (lev range (before (loop_of Endless cell body) []) out) news t trace Going in
        let third = at (lev range (again ∷ []) out) news t trace Going in
        let last = at (lev range (before body (again ∷ [])) out) news t trace Going in
        leads-then step_h (cost acting) first third last 1 1 (loop-leads t) (turn-leads t (z refl))

    cleared-zero : (k : Keeper) (t : Celled Memory) → (k ≡ Endless → t.cells range cell ≡ 0) → (cleared k t).cells range cell ≡ 0
    cleared-zero Flagged t z = put-same keeper cell range 0 t
    cleared-zero Endless t z = z refl

    cleared-agree : (k : Keeper) (s t : Celled Memory) → keeper ≡ k → Agree s t → Agree s (cleared k t)
    cleared-agree Flagged s t e a = agree-flag keeper cell range 0 s t e a
    cleared-agree Endless s t e a = a

  -- Both inside the loop.

  abbrev Inside : Level → Level → Type 0
  Inside a b = (rel : LevelRel a b) × (owed_level rel ≡ 1) × (in_level rel ≡ true)

  inside-root : (t : Tree) (items : List Item) → LoopsTree keeper cell label out t items → Inside (level_at range t) (lev range (items ++ again ∷ []) out)
  inside-root (tree rest end) items j =
      (inside (before rest []) j.0 end refl (ap (λ i. lev range (i ++ again ∷ []) out) (j.1 ∙ sym (before-append rest [] j.0))) j.2, refl, refl)

  module _ (olds news : List Level) (c : CallersRel olds news) (here : In range order) (chain : Chain range olds) where
    abbrev these : ℕ
    these = callers_owed olds news c

    abbrev PickedIn : State → State → Type 0
    PickedIn w v = (settled : Settled w v) × (owed w v settled ≤ 1 + these)

    chosen : (first : Tree) (arm : Stmts) (items : List Item) (m n : Celled Memory) (trace : Trace) → Agree m n → n.cells range cell ≡ 0 → TreeFits (Behind order range) (Reads range) (Writes range) first → LoopsTree keeper cell label out first (before arm []) → items ≡ before arm (again ∷ []) →
        PickedIn (at (level_at range first) olds m trace Going) (at (lev range items out) news n trace Going)
    chosen first arm items m n trace agree z fits j e =
        let i = inside-root first (before arm []) j in
        let root = root-fits (Behind order range) (Reads range) (Writes range) first fits in
        let q = frees-root (body_of first) in let o = i.1 in
        subst (λ x. PickedIn (at (level_at range first) olds m trace Going) (at (lev range x out) news n trace Going)) (before-append arm [] (again ∷ []) ∙ sym e)
        (record { level = i.0; here = here; fits = root.0; end_fits = root.1; callers = c; chain = chain; agree = agree; holds = λ x. z; run = refl }, omega (arith, q, o))

    picked-inside : (arms : Trees) (news_arms : Arms) (a : Level) (k : ℕ) (m n : Celled Memory) (trace : Trace) → Agree m n → n.cells range cell ≡ 0 → a.range ≡ range → TreesFit (Behind order range) (Reads range) (Writes range) arms → LoopsArms keeper cell label out arms news_arms →
        NotLost (picked acting left g (tree_at arms k) (at a olds m trace Going)) →
        PickedIn (picked acting left g (tree_at arms k) (at a olds m trace Going)) (at (lev range (before_arm news_arms k (again ∷ [])) out) news n trace Going)
    picked-inside no_more news_arms a k m n trace agree z ar fits j fine = absurd (fine refl)
    picked-inside (more first rest) news_arms a k m n trace agree z ar fits j fine = by (λ k fine. picked-inside rest j.1 a k m n trace agree z ar fits.1 j.4 fine) k j.2 fine
      where
        at-first : (items : List Item) → items ≡ before j.0 (again ∷ []) → PickedIn (at (level_at a.range first) olds m trace Going) (at (lev range items out) news n trace Going)
        at-first items e = subst (λ x. PickedIn (at (level_at x first) olds m trace Going) (at (lev range items out) news n trace Going)) (sym ar) (chosen first j.0 items m n trace agree z fits.0 j.3 e)

        by : ((k : ℕ) → NotLost (picked acting left g (tree_at rest k) (at a olds m trace Going)) → PickedIn (picked acting left g (tree_at rest k) (at a olds m trace Going)) (at (lev range (before_arm j.1 k (again ∷ [])) out) news n trace Going)) →
            (k : ℕ) → (news_arms ≡ given j.0 j.1) ⊎ ((news_arms ≡ missing j.1) × (j.0 ≡ none)) → NotLost (picked acting left g (tree_at (more first rest) k) (at a olds m trace Going)) →
            PickedIn (picked acting left g (tree_at (more first rest) k) (at a olds m trace Going)) (at (lev range (before_arm news_arms k (again ∷ [])) out) news n trace Going)
        by next zero (inl e) fine = at-first (before_arm news_arms 0 (again ∷ [])) (ap (λ x. before_arm x 0 (again ∷ [])) e)
        by next zero (inr e) fine = at-first (before_arm news_arms 0 (again ∷ [])) (ap (λ x. before_arm x 0 (again ∷ [])) e.0 ∙ ap (λ x. before x (again ∷ [])) (sym e.1))
        by next (suc k) (inl e) fine = subst (λ i. PickedIn (picked acting left g (tree_at rest k) (at a olds m trace Going)) (at (lev range i out) news n trace Going)) (sym (ap (λ x. before_arm x (suc k) (again ∷ [])) e)) (next k fine)
        by next (suc k) (inr e) fine = subst (λ i. PickedIn (picked acting left g (tree_at rest k) (at a olds m trace Going)) (at (lev range i out) news n trace Going)) (sym (ap (λ x. before_arm x (suc k) (again ∷ [])) e.0)) (next k fine)

    picks-inside : (picker : language.Picker) (arms : Trees) (news_arms : Arms) (s t : Celled Memory) (trace : Trace) → t.cells range cell ≡ 0 → EndFit range (Pick picker arms) → LoopsArms keeper cell label out arms news_arms → (one two : Tried (Celled Memory) ℕ) → TriedAlike (Keeps keeper cell range (t.cells range cell)) one two →
        NotLost (picks acting left g arms one (at (lev range [] (Pick picker arms)) olds s trace Going)) →
        PickedIn (picks acting left g arms one (at (lev range [] (Pick picker arms)) olds s trace Going))
        (walk_goes acting left h (tried two (λ k. on (celled acting range) (before_arm news_arms k (again ∷ [])))) (at (lev range (Do (Choose picker news_arms) ∷ again ∷ []) out) news t trace Going))
    picks-inside picker arms news_arms s t trace z fits j (Got shown k m) (Got other i n) alike fine =
        let w = picked acting left g (tree_at arms k) (at (lev range [] (Pick picker arms)) olds m (trace ++ shown) Going) in
        subst (λ x. PickedIn w (at (lev range (before_arm news_arms i (again ∷ [])) out) news n (trace ++ x) Going)) (alike.0 ∙ sym (append-nil other))
        (subst (λ y. PickedIn w (at (lev range (before_arm news_arms y (again ∷ [])) out) news n (trace ++ shown) Going)) alike.1
        (picked-inside arms news_arms (lev range [] (Pick picker arms)) k m n (trace ++ shown) alike.2.0 (alike.2.1 ∙ z) refl fits.1 j fine))
    picks-inside picker arms news_arms s t trace z fits j (Got shown k m) (outcome.Ends other kind n) alike fine = absurd alike
    picks-inside picker arms news_arms s t trace z fits j (outcome.Ends shown kind m) (Got other i n) alike fine = absurd alike
    picks-inside picker arms news_arms s t trace z fits j (outcome.Ends shown kind m) (outcome.Ends other sort n) alike fine = (
      record {
        level = inside [] (Do (Choose picker news_arms) ∷ []) (Pick picker arms) refl refl (news_arms, refl, j);
        here = here;
        fits = tt;
        end_fits = fits;
        callers = c;
        chain = chain;
        agree = alike.2.0;
        holds = λ x. alike.2.1 ∙ z;
        run = ap (λ x. record { trace = trace ++ x; standing = Over (Stopped (Abend kind) (left m.own)) }) alike.0 ∙ ap (λ x. record { trace = trace ++ other; standing = Over (Stopped (Abend x) (left m.own)) }) alike.1 ∙ ap (λ x. record { trace = trace ++ other; standing = Over (Stopped (Abend sort) (left x)) }) alike.2.0.own;
      },
      omega arith,
    )

    -- outside again, with the flag set
    zero-out : (b : Bool) (n : Celled Memory) → b ≡ false → keeper ≡ Flagged → Zero b n
    zero-out b n e k (inl x) = absurd (let y = sym k ∙ x in cc)
    zero-out b n e k (inr x) = absurd (let y = sym e ∙ x in cc)

    out-callers : in_callers olds news c ≡ false
    out-callers = outside range olds news c (omega arith) chain

    -- the second walk's items, in place of an end
    abbrev InGoes : End → List Item → Celled Memory → Celled Memory → Trace → Type 0
    InGoes end tail s t trace = Goes (at (lev range [] end) olds s trace Going) (at (lev range (tail ++ again ∷ []) out) news t trace Going) (1 + these)

    in-pick : (picker : language.Picker) (arms : Trees) (tail : List Item) (s t : Celled Memory) (trace : Trace) → t.cells range cell ≡ 0 → Agree s t → EndFit range (Pick picker arms) → LoopsEnd keeper cell label out (Pick picker arms) tail → NotLost (step_g (at (lev range [] (Pick picker arms)) olds s trace Going)) → InGoes (Pick picker arms) tail s t trace
    in-pick picker arms tail s t trace z agree fits j fine =
        let p = picks-inside picker arms j.0 s t trace z fits j.2 ((celled acting range).pick picker s) ((celled acting range).pick picker t) (pick-values range picker s t fits.0 agree) fine in
        let o = p.1 in
        subst (λ i. InGoes (Pick picker arms) i s t trace) (sym j.1)
        (goes-one (at (lev range [] (Pick picker arms)) olds s trace Going) (at (lev range (Do (Choose picker j.0) ∷ again ∷ []) out) news t trace Going) (1 + these) p.0 refl (omega (arith, o)))

    in-again : (to : Label) (tail : List Item) (s t : Celled Memory) (trace : Trace) → t.cells range cell ≡ 0 → Agree s t → to ≡ label → tail ≡ [] → InGoes (Jump to) tail s t trace
    in-again to tail s t trace z agree is e =
        let i = inside-root old (before body []) looped.turn in
        let root = root-of range label here in
        let q = frees-root (body_of old) in let o = i.1 in
        let w = at (lev range [] (Jump label)) olds s trace Going in
        let next = at (level_at range old) olds s trace Going in
        let there = at (lev range (before body (again ∷ [])) out) news t trace Going in
        let r = subst (λ x. (settled : Settled next (at (lev range x out) news t trace Going)) × (owed next (at (lev range x out) news t trace Going) settled ≤ 1 + these)) (before-append body [] (again ∷ []))
        (record { level = i.0; here = here; fits = root.0; end_fits = root.1; callers = c; chain = chain; agree = agree; holds = λ x. z; run = refl }, omega (arith, q, o)) in
        let low = r.1 in
        subst (λ x. InGoes (Jump x) tail s t trace) (sym is) (subst (λ x. InGoes (Jump label) x s t trace) (sym e)
        (record { there = there; pays = 1; leads = turn-leads news trace t z; settled = r.0; most = omega arith; owing = λ on. omega (arith, low); duly = omega arith; few = omega arith }))

    in-exit : (to : Label) (tail : List Item) (s t : Celled Memory) (trace : Trace) → Agree s t → keeper ≡ Flagged → out ≡ Jump to → tail ≡ Do (language.Do (Set cell 1)) ∷ [] → InGoes (Jump to) tail s t trace
    in-exit to tail s t trace agree flag is e =
        let n = node-of range to in
        let root = root-of range to here in
        let q = frees-root (body_of (g.node range to)) in let x = n.1 in
        let u = put range cell 1 t in
        let first = at (lev range (Do (language.Do (Set cell 1)) ∷ again ∷ []) out) news t trace Going in
        let second = at (lev range [] out) news u trace Going in
        let there = at (level_at range (h.node range to)) news u trace Going in
        subst (λ i. InGoes (Jump to) i s t trace) (sym e)
        (record {
          there = there;
          pays = 2;
          leads = leads-then step_h (cost acting) first second there 1 1 (exit-leads news trace t)
              (leads-step step_h (cost acting) second there 1 (ap (λ o. step_h (at (lev range [] o) news u trace Going)) is) (ap (λ o. cost acting (at (lev range [] o) news u trace Going)) is));
          settled = record {
            level = n.0;
            here = here;
            fits = root.0;
            end_fits = root.1;
            callers = c;
            chain = chain;
            agree = agree-flag keeper cell range 1 s t flag agree;
            holds = zero-out (if in_level n.0 then true else in_callers olds news c) u (ap (λ b. if b then true else in_callers olds news c) n.2 ∙ out-callers) flag;
            run = refl;
          };
          most = omega arith;
          owing = λ on. omega (arith, q, x);
          duly = omega arith;
          few = omega arith;
        })

    in-stop : (tail : List Item) (s t : Celled Memory) (trace : Trace) → t.cells range cell ≡ 0 → Agree s t → tail ≡ Do StopRun ∷ [] → InGoes Stop tail s t trace
    in-stop tail s t trace z agree e =
        let first = at (lev range (Do StopRun ∷ again ∷ []) out) news t trace Going in
        subst (λ i. InGoes Stop i s t trace) (sym e)
        (record {
          there = step_h first;
          pays = 1;
          leads = leads-step step_h (cost acting) first (step_h first) 1 refl refl;
          settled = record {
            level = inside [] (Do StopRun ∷ []) Stop refl refl refl;
            here = here;
            fits = tt;
            end_fits = tt;
            callers = c;
            chain = chain;
            agree = agree;
            holds = λ x. z;
            run = ap (λ o. record { trace = trace; standing = Over (Stopped Normally (left o)) }) agree.own ∙ ap (λ x. record { trace = x; standing = Over (Stopped Normally (left t.own)) }) (sym (append-nil trace));
          };
          most = omega arith;
          owing = λ on. absurd (cc);
          duly = omega arith;
          few = omega arith;
        })

  in-return : (olds news : List Level) (c : CallersRel olds news) (here : In range order) (chain : Chain range olds) (tail : List Item) (s t : Celled Memory) (trace : Trace) → Agree s t → keeper ≡ Flagged → out ≡ Return → tail ≡ Do (language.Do (Set cell 1)) ∷ [] → InGoes olds news c here chain Return tail s t trace
  in-return olds news c here chain tail s t trace agree flag is e =
      let u = put range cell 1 t in
      let first = at (lev range (Do (language.Do (Set cell 1)) ∷ again ∷ []) out) news t trace Going in
      let second = at (lev range [] out) news u trace Going in
      let there = returns acting left h news (at (lev range [] Return) news u trace Going) in
      subst (λ i. InGoes olds news c here chain Return i s t trace) (sym e)
      (subst (λ o. Goes (at (lev range [] Return) olds s trace Going) (at (lev range (Do (language.Do (Set cell 1)) ∷ again ∷ []) o) news t trace Going) (1 + callers_owed olds news c)) refl
      (let k = settled-of olds news c chain in
      let o = k.1 in
      record {
        there = there;
        pays = 1;
        leads = leads-then step_h (cost acting) first second there 1 0 (exit-leads news trace t)
            (leads-step step_h (cost acting) second there 0 (ap (λ o. step_h (at (lev range [] o) news u trace Going)) is) (ap (λ o. cost acting (at (lev range [] o) news u trace Going)) is));
        settled = k.0;
        most = omega arith;
        owing = λ on. omega (arith, o on);
        duly = omega arith;
        few = omega arith;
      }))
    where
      settled-of : (olds news : List Level) (c : CallersRel olds news) (chain : Chain range olds) →
          (settled : Settled (step_g (at (lev range [] Return) olds s trace Going)) (returns acting left h news (at (lev range [] Return) news (put range cell 1 t) trace Going)))
          × ((step_g (at (lev range [] Return) olds s trace Going)).run.standing ≡ Going → owed (step_g (at (lev range [] Return) olds s trace Going)) (returns acting left h news (at (lev range [] Return) news (put range cell 1 t) trace Going)) settled ≤ callers_owed olds news c)
      settled-of [] [] c chain = (
        record {
          level = same refl;
          here = here;
          fits = tt;
          end_fits = tt;
          callers = tt;
          chain = tt;
          agree = agree-flag keeper cell range 1 s t flag agree;
          holds = zero-out [] [] tt here tt false (put range cell 1 t) refl flag;
          run = ap (λ o. record { trace = trace; standing = Over (Returned (left o)) }) agree.own;
        },
        (λ on. absurd (cc)),
      )
      settled-of [] (b ∷ news) c chain = absurd c
      settled-of (a ∷ olds) [] c chain = absurd c
      settled-of (a ∷ olds) (b ∷ news) c chain = (
        record {
          level = c.0.0;
          here = c.0.1;
          fits = c.0.2;
          end_fits = c.0.3;
          callers = c.1;
          chain = chain.1;
          agree = agree-flag keeper cell range 1 s t flag agree;
          holds = zero-out (a ∷ olds) (b ∷ news) c here chain (in_callers (a ∷ olds) (b ∷ news) c) (put range cell 1 t) (outside range (a ∷ olds) (b ∷ news) c (omega arith) chain) flag;
          run = refl;
        },
        (λ on. omega arith),
      )

  in-end : (olds news : List Level) (c : CallersRel olds news) (here : In range order) (chain : Chain range olds) (end : End) (tail : List Item) (s t : Celled Memory) (trace : Trace) → t.cells range cell ≡ 0 → Agree s t → EndFit range end → LoopsEnd keeper cell label out end tail → NotLost (step_g (at (lev range [] end) olds s trace Going)) → InGoes olds news c here chain end tail s t trace
  in-end olds news c here chain (Pick picker arms) tail s t trace z agree fits j fine = in-pick olds news c here chain picker arms tail s t trace z agree fits j fine
  in-end olds news c here chain (Jump to) tail s t trace z agree fits (inl j) fine = in-again olds news c here chain to tail s t trace z agree j.0 j.1
  in-end olds news c here chain (Jump to) tail s t trace z agree fits (inr j) fine = in-exit olds news c here chain to tail s t trace agree j.0 j.1 j.2
  in-end olds news c here chain Return tail s t trace z agree fits j fine = in-return olds news c here chain tail s t trace agree j.0 j.1 j.2
  in-end olds news c here chain Stop tail s t trace z agree fits j fine = in-stop olds news c here chain tail s t trace z agree j
  in-end olds news c here chain Dead tail s t trace z agree fits j fine = absurd (fine refl)

  inside-goes : (olds news : List Level) (c : CallersRel olds news) (here : In range order) (chain : Chain range olds) (items tail : List Item) (end : End) (s t : Celled Memory) (trace : Trace) → Fit range items → EndFit range end → t.cells range cell ≡ 0 → Agree s t → LoopsEnd keeper cell label out end tail →
      NotLost (step_g (at (lev range items end) olds s trace Going)) → Goes (at (lev range items end) olds s trace Going) (at (lev range ((items ++ tail) ++ again ∷ []) out) news t trace Going) ((4 * frees items + 1) + callers_owed olds news c)
  inside-goes olds news c here chain [] tail end s t trace fits end_fits z agree j fine =
      goes-more (at (lev range [] end) olds s trace Going) (at (lev range (tail ++ again ∷ []) out) news t trace Going) (1 + callers_owed olds news c) ((0 + 1) + callers_owed olds news c) (omega arith) (in-end olds news c here chain end tail s t trace z agree end_fits j fine)
  inside-goes olds news c here chain (item ∷ rest) tail end s t trace fits end_fits z agree j fine =
      let w = at (lev range (item ∷ rest) end) olds s trace Going in
      subst (λ i. Goes w (at (lev range (item ∷ i) out) news t trace Going) ((4 * frees (item ∷ rest) + 1) + callers_owed olds news c)) (sym (append_assoc rest tail (again ∷ [])))
      (item-goes olds news c range end out (tail ++ again ∷ []) (λ items. inside items tail end refl (ap (λ i. lev range i out) (sym (append_assoc items tail (again ∷ [])))) j) 1 true (λ items. refl) (λ items. refl) here end_fits chain item rest s t trace fits agree (λ x. z) (calm-tail end tail j))
    where
      calm-tail : (end : End) (tail : List Item) → LoopsEnd keeper cell label out end tail → Calm (celled acting range) (tail ++ again ∷ [])
      calm-tail (Pick picker arms) tail j = subst (λ x. Calm (celled acting range) (x ++ again ∷ [])) (sym j.1) refl
      calm-tail (Jump to) tail (inl j) = subst (λ x. Calm (celled acting range) (x ++ again ∷ [])) (sym j.1) refl
      calm-tail (Jump to) tail (inr j) = subst (λ x. Calm (celled acting range) (x ++ again ∷ [])) (sym j.2) refl
      calm-tail Return tail j = subst (λ x. Calm (celled acting range) (x ++ again ∷ [])) (sym j.2) refl
      calm-tail Stop tail j = subst (λ x. Calm (celled acting range) (x ++ again ∷ [])) (sym j) refl
      calm-tail Dead tail j = subst (λ x. Calm (celled acting range) (x ++ again ∷ [])) (sym j) refl

  untree : (t : Tree) (items : List Item) → LoopsTree keeper cell label out t items → (tail : List Item) × (items ≡ before (body_of t) [] ++ tail) × LoopsEnd keeper cell label out (end_of t) tail
  untree (tree rest end) items j = (j.0, j.1 ∙ sym (before-append rest [] j.0), j.2)

  -- the second walk's loop is next
  enters-goes : (olds news : List Level) (c : CallersRel olds news) (here : In range order) (chain : Chain range olds) (s t : Celled Memory) (trace : Trace) → Fit range (before (body_of old) []) → EndFit range (end_of old) → (keeper ≡ Endless → t.cells range cell ≡ 0) → Agree s t → NotLost (step_g (at (level_at range old) olds s trace Going)) →
      Goes (at (level_at range old) olds s trace Going) (at (lev range (before (loop_of keeper cell body) []) out) news t trace Going) ((begin_cost keeper + 1) + callers_owed olds news c)
  enters-goes olds news c here chain s t trace fits end_fits z agree fine =
      let u = cleared news trace keeper t in
      let j = untree old (before body []) looped.turn in
      let q = frees-root (body_of old) in
      let items : before body (again ∷ []) ≡ (before (body_of old) [] ++ j.0) ++ again ∷ [] = sym (before-append body [] (again ∷ [])) ∙ ap (λ i. i ++ again ∷ []) j.1 in
      let w = at (level_at range old) olds s trace Going in
      let v = at (lev range (before (loop_of keeper cell body) []) out) news t trace Going in
      let there = at (lev range (before body (again ∷ [])) out) news u trace Going in
      let inner : Goes w there (1 + callers_owed olds news c) =
      goes-more w there ((4 * frees (before (body_of old) []) + 1) + callers_owed olds news c) (1 + callers_owed olds news c) (omega (arith, q))
      (subst (λ i. Goes w (at (lev range i out) news u trace Going) ((4 * frees (before (body_of old) []) + 1) + callers_owed olds news c)) (sym items)
      (inside-goes olds news c here chain (before (body_of old) []) j.0 (end_of old) s u trace fits end_fits (cleared-zero news trace keeper t z) (cleared-agree news trace keeper s t refl agree) j.2 fine)) in
      goes-more w v (begin_cost keeper + (1 + callers_owed olds news c)) ((begin_cost keeper + 1) + callers_owed olds news c) (omega arith)
      (goes-after w v there (begin_cost keeper) (1 + callers_owed olds news c) (begin-leads news trace keeper t z) inner)

  same-goes : (r : Range) (items : List Item) (end : End) (olds news : List Level) (c : CallersRel olds news) (s t : Celled Memory) (trace : Trace) → In r order → Chain r olds → Fit r items → EndFit r end → Agree s t → Zero (in_callers olds news c) t →
      Goes (at (lev r items end) olds s trace Going) (at (lev r items end) news t trace Going) ((4 * frees items + 0) + callers_owed olds news c)
  same-goes r [] end olds news c s t trace here chain fits end_fits agree z =
      goes-more (at (lev r [] end) olds s trace Going) (at (lev r [] end) news t trace Going) (callers_owed olds news c) ((0 + 0) + callers_owed olds news c) (omega arith) (same-end r end olds news s t trace here chain end_fits agree c z)
  same-goes r (item ∷ rest) end olds news c s t trace here chain fits end_fits agree z =
      let w = at (lev r (item ∷ rest) end) olds s trace Going in
      subst (λ i. Goes w (at (lev r (item ∷ i) end) news t trace Going) ((4 * frees (item ∷ rest) + 0) + callers_owed olds news c)) (append-nil rest)
      (item-goes olds news c r end end [] (λ items. same (ap (λ i. lev r i end) (append-nil items))) 0 false (λ items. refl) (λ items. refl) here end_fits chain item rest s t trace fits agree z refl)

  level-goes : (r : Range) (items : List Item) (end : End) (b : Level) (rel : LevelRel (lev r items end) b) (olds news : List Level) (c : CallersRel olds news) (s t : Celled Memory) (trace : Trace) → In r order → Chain r olds → Fit r items → EndFit r end → Agree s t → Zero (if in_level rel then true else in_callers olds news c) t →
      NotLost (step_g (at (lev r items end) olds s trace Going)) → Goes (at (lev r items end) olds s trace Going) (at b news t trace Going) ((4 * frees items + owed_level rel) + callers_owed olds news c)
  level-goes r items end b (same e) olds news c s t trace here chain fits end_fits agree z fine =
      subst (λ x. Goes (at (lev r items end) olds s trace Going) (at x news t trace Going) ((4 * frees items + 0) + callers_owed olds news c)) (sym e)
      (same-goes r items end olds news c s t trace here chain fits end_fits agree z)
  level-goes r items end b (enters e f) olds news c s t trace here chain fits end_fits agree z fine =
      subst (λ x. Goes (at (lev r items end) olds s trace Going) (at x news t trace Going) ((4 * frees items + (begin_cost keeper + 1)) + callers_owed olds news c)) (sym f)
      (subst (λ l. In l.range order → Chain l.range olds → Fit l.range l.items → EndFit l.range l.end → NotLost (step_g (at l olds s trace Going)) → Goes (at l olds s trace Going) (at (lev range (before (loop_of keeper cell body) []) out) news t trace Going) ((4 * frees l.items + (begin_cost keeper + 1)) + callers_owed olds news c)) (sym e)
      (λ here chain fits end_fits fine. goes-more (at (level_at range old) olds s trace Going) (at (lev range (before (loop_of keeper cell body) []) out) news t trace Going) ((begin_cost keeper + 1) + callers_owed olds news c) ((4 * frees (before (body_of old) []) + (begin_cost keeper + 1)) + callers_owed olds news c) (omega arith)
      (enters-goes olds news c here chain s t trace fits end_fits (λ x. z (inl x)) agree fine)) here chain fits end_fits fine)
  level-goes r items end b (inside rest tail last e f j) olds news c s t trace here chain fits end_fits agree z fine =
      subst (λ x. Goes (at (lev r items end) olds s trace Going) (at x news t trace Going) ((4 * frees items + 1) + callers_owed olds news c)) (sym f)
      (subst (λ l. In l.range order → Chain l.range olds → Fit l.range l.items → EndFit l.range l.end → NotLost (step_g (at l olds s trace Going)) → Goes (at l olds s trace Going) (at (lev range ((rest ++ tail) ++ again ∷ []) out) news t trace Going) ((4 * frees l.items + 1) + callers_owed olds news c)) (sym e)
      (λ here chain fits end_fits fine. inside-goes olds news c here chain rest tail last s t trace fits end_fits (z (inr refl)) agree j fine) here chain fits end_fits fine)

  -- settled, and never lost
  pub record Related (w v : State) : Type 0 where
    pub settled : Settled w v
    pub sound : (n : ℕ) → (iterate step_g n w).run.standing ≢ Over Lost

  goes-of : (w v : State) (r : Settled w v) → w.run.standing ≡ Going → NotLost (step_g w) → Goes w v (owed w v r)
  goes-of w v r is fine =
      let e : w.run ≡ record { trace = w.run.trace; standing = Going } = ap (λ t. record { trace = w.run.trace; standing = t }) is in
      let w_is : w ≡ at w.level w.callers w.memory w.run.trace Going = ap (λ x. record { level = w.level; callers = w.callers; memory = w.memory; run = x }) e in
      let v_is : v ≡ at v.level v.callers v.memory w.run.trace Going = ap (λ x. record { level = v.level; callers = v.callers; memory = v.memory; run = x }) (sym r.run ∙ e) in
      subst (λ x. Goes x v (owed w v r)) (sym w_is) (subst (λ y. Goes (at w.level w.callers w.memory w.run.trace Going) y (owed w v r)) (sym v_is)
      (level-goes w.level.range w.level.items w.level.end v.level r.level w.callers v.callers r.callers w.memory v.memory w.run.trace r.here r.chain r.fits r.end_fits r.agree r.holds (subst (λ x. NotLost (step_g x)) w_is fine)))

  stepped : (w v : State) (r : Related w v) → w.run.standing ≡ Going →
      (j : ℕ) × (next : Related (step_g w) (iterate step_h j v))
      × (spent step_h (cost acting) j v ≤ 8 * cost acting w + owed w v r.settled)
      × ((step_g w).run.standing ≡ Going →
      (spent step_h (cost acting) j v + owed (step_g w) (iterate step_h j v) next.settled ≤ 8 * cost acting w + owed w v r.settled)
      × (cost acting w + 0 ≤ 8 * spent step_h (cost acting) j v + 0))
      × (parted w ≡ true → spent step_h (cost acting) j v ≤ owed w v r.settled + 2)
  stepped w v r is =
      let k = goes-of w v r.settled is (r.sound 1) in
      let j = k.leads.0 in let paid = k.leads.2 in
      let a = k.most in let b = k.few in let d = k.duly in
      let all = subst (λ x. (next : Settled (step_g w) x) × ((step_g w).run.standing ≡ Going → k.pays + owed (step_g w) x next ≤ 8 * cost acting w + owed w v r.settled)) (sym k.leads.1) (k.settled, k.owing) in
      (j, record { settled = all.0; sound = λ n. r.sound (suc n) }, omega (arith, paid, a), (λ on. ((let o = all.1 on in omega (arith, paid, o)), omega (arith, paid, d))), (λ part. omega (arith, paid, b)))

  -- from worlds in which nothing is lost, and a cell that is never set holds 0
  module _ {World : Type 0} (memory : World → Celled Memory) (start : Range) (here : In start order) (zero_at : (w : World) → keeper ≡ Endless → (memory w).cells range cell ≡ 0)
      (sound : (w : World) (n : ℕ) → (iterate step_g n (walk_begun acting left g start (memory w))).run.standing ≢ Over Lost) where
    pub looped-charges : Charges (machine_from acting left memory g start) (machine_from acting left memory h start) (cost acting) (cost acting) parted 8 Related
    looped-charges =
        let n = entry-of start in
        let root = root-of start (g.entry start) here in
        record {
          owed = λ w v r. owed w v r.settled;
          due = λ w v r. 0;
          starts = λ w. record {
            settled = record {
              level = n.0;
              here = here;
              fits = root.0;
              end_fits = root.1;
              callers = tt;
              chain = tt;
              agree = record { own = refl; cells = λ r c k. refl };
              holds = subst (λ b. Zero (if b then true else false) (memory w)) (sym n.2) (λ x. elim x [ inl e ↦ zero_at w e | inr e ↦ absurd (cc) ]);
              run = refl;
            };
            sound = sound w;
          };
          owes = λ w. let z = frees-root (body_of (g.node start (g.entry start))) in let x = n.1 in omega (arith, z, x);
          dues = λ w. omega arith;
          cheap = cost-most acting;
          agree = λ w v r. r.settled.run;
          moves = stepped;
        }

    pub looped-matched : (Reads2 Writes2 : Range → ℕ → Type 0) → Ordered Reads2 Writes2 h order → Matched 8 (walked_from acting left memory g order start) (walked_from acting left memory h order start)
    looped-matched Reads2 Writes2 ordered2 =
        units-matched (machine_from acting left memory g start) (machine_from acting left memory h start) (cost acting) (cost acting) parted parted 8 Related (grows-from acting left memory g start) (grows-from acting left memory h start) looped-charges
        (walked_from acting left memory g order start) (walked_from acting left memory h order start) (paid-from acting left memory g Reads Writes order looped.unused start here) (paid-from acting left memory h Reads2 Writes2 order ordered2 start here)
