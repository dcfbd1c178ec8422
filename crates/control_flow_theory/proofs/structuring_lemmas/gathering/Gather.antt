-- A set of nodes that has become one loop keeps what a walk does, step by step, and its units within a factor.
use Rattle.std.proofs.Common.{◌≡◌, ◌≢◌, ℕ, zero, suc, ◌+◌, ◌-◌, ◌*◌, ◌≤◌, ◌<◌, Bool, true, false, if◌then◌else◌, List, [], ◌∷◌, ◌++◌, Option, Some, None, refl, ap, sym, ◌∙◌, subst, arith, append-nil, ◌⊎◌, inl, inr}
use Rattle.control_flow_theory.specs.runs.Run.{Going, Over}
use Rattle.control_flow_theory.specs.runs.Machine.{iterate}
use Rattle.control_flow_theory.proofs.runs_lemmas.Machines.{iterate-add}
use Rattle.control_flow_theory.specs.semantics.Outcome.{Trace, Normally, Abend, Stopped, Returned, Lost, Standing, Tried, Got, Ends}
use Rattle.control_flow_theory.specs.language.Language.{Test, Picker, ByCell, Until, Choose, Loop, StopRun, Stmts, none, Arms, Nested, Range, Part, same_range}
use Rattle.control_flow_theory.specs.semantics.Doing.{Acting, Celled, celled, celled_test, put}
use Rattle.control_flow_theory.specs.language.Items.{Tests, Item, Do, Turn, before, before_arm}
use Rattle.control_flow_theory.specs.semantics.Items.{Way, On, Halts, Into, To, ToEnd, tried, on, turns, item_way}
use Rattle.control_flow_theory.specs.semantics.Graph.{Label, Tree, tree, End, Pick, Jump, Return, Stop, Dead, Trees, no_more, more, body_of, end_of, Family}
use Rattle.control_flow_theory.specs.semantics.Walk.{Level, Walk, tree_at, level_at, walk_goes, picked, picks, walk_step}
use Rattle.control_flow_theory.specs.graph_rules.Fits.{TreeFits, EndFits, TreesFit, ItemsFit, WayFits}
use Rattle.control_flow_theory.specs.graph_rules.Joins.{JumpsEnd, JumpsTree, JumpsTrees}
use Rattle.control_flow_theory.specs.graph_rules.Charged.{spent}
use Rattle.control_flow_theory.specs.graph_rules.Costs.{tried_cost, round_cost, item_cost, cost, parted}
use Rattle.control_flow_theory.specs.graph_rules.Walked.{In, Ordered}
use Rattle.control_flow_theory.specs.structuring.Gathers.{says, sets, Leads, GathersEnd, GathersTree, GathersArms, Opens, loop_from, Gathered}
use Rattle.control_flow_theory.proofs.graph_rules_lemmas.walks.Charges.{spent-add}
use Rattle.control_flow_theory.proofs.graph_rules_lemmas.walks.Ways.{before-append, arm-append, further, item-further, item-fits}
use Rattle.control_flow_theory.proofs.graph_rules_lemmas.walks.Orders.{place, Behind, ordered-fits, root-fits, Calm, cost-append}
use Rattle.control_flow_theory.proofs.graph_rules_lemmas.walks.Walks.{item-most}
use Rattle.control_flow_theory.proofs.semantics_lemmas.Ranges.{same-self}
use Rattle.control_flow_theory.proofs.graph_rules_lemmas.walks.Frees.{frees, frees-root, WayFrees, item-frees, IntoCosts, item-into}
use Rattle.control_flow_theory.proofs.structuring_lemmas.gathering.Agrees.{Agree, AgreeTried, AgreeWay, item-agrees, item-costs, pick-agrees, on-cell, agree-set}

module _ {Memory Left : Type 0} (acting : Acting Memory) (left : Memory → Left) (Reads Writes : Range → ℕ → Type 0) (reached : Range → Label → Type 0) (inside : ℕ → Label → Type 0)
    (range : Range) (cell : ℕ) (test : Test) (body : Stmts) (out : End) (g h : Family) (order : List Range)
    (ordered : Ordered Reads Writes g order) (Common : Range → ℕ → Type 0) (fresh : Common range cell → ⊥) (reads : (r : Range) (c : ℕ) → Reads r c → Common r c) (unwritten : Writes range cell → ⊥) (gathered : Gathered reached inside range cell test body out g h) where
  abbrev pub State : Type 0
  State = Walk Memory Left

  abbrev pub Agrees : ℕ → Celled Memory → Celled Memory → Type 0
  Agrees = Agree acting range cell Common fresh

  abbrev again : Item
  again = Turn (Tests test) (Nested body)

  abbrev Fit : Range → List Item → Type 0
  Fit r = ItemsFit (Behind order r) (Reads r) (Writes r)

  abbrev EndFit : Range → End → Type 0
  EndFit r = EndFits (Behind order r) (Reads r) (Writes r)

  abbrev Stands : ℕ → End → List Item → Type 0
  Stands = GathersEnd cell test out inside (reached range)

  abbrev pub step_g : State → State
  step_g = walk_step acting left g

  abbrev pub step_h : State → State
  step_h = walk_step acting left h

  abbrev pub paid : ℕ → State → ℕ
  paid = spent step_h (cost acting)

  abbrev pub lev : Range → List Item → End → Level
  lev r items end = record { range = r; items = items; end = end }

  abbrev pub at : Level → List Level → Celled Memory → Trace → Standing Left → State
  at level callers memory trace standing = record { level = level; callers = callers; memory = memory; run = record { trace = trace; standing = standing } }

  -- what a level's items and end may name
  abbrev pub LevelFits : Level → Type 0
  LevelFits a = In a.range order × Fit a.range a.items × EndFit a.range a.end

  -- inside the loop, where the cell holds the number
  pub record Inside (number : ℕ) (a b : Level) : Type 0 where
    pub old : a.range ≡ range
    pub tail : List Item
    pub new : b ≡ lev range (a.items ++ (tail ++ again ∷ [])) out
    pub stands : Stands number a.end tail

  abbrev pub LevelRel : ℕ → Level → Level → Type 0
  LevelRel number a b = ((b ≡ a) × JumpsEnd (reached a.range) a.end) ⊎ Inside number a b

  abbrev pub CallersRel : ℕ → List Level → List Level → Type 0
  CallersRel number [] [] = Unit {0}
  CallersRel number [] (b ∷ news) = ⊥
  CallersRel number (a ∷ olds) [] = ⊥
  CallersRel number (a ∷ olds) (b ∷ news) = LevelRel number a b × CallersRel number olds news

  -- each caller stands before what it calls
  abbrev pub Chain : Range → List Level → Type 0
  Chain r [] = Unit {0}
  Chain r (a ∷ olds) = (place order a.range < place order r) × LevelFits a × Chain a.range olds

  pub record Settled (w v : State) : Type 0 where
    pub number : ℕ
    pub level : LevelRel number w.level v.level
    pub callers : CallersRel number w.callers v.callers
    pub fits : LevelFits w.level
    pub chain : Chain w.level.range w.callers
    pub agree : Agrees number w.memory v.memory
    pub run : w.run ≡ v.run

  -- the callers of the range stand outside the loop, whatever the cell holds
  outer : (r : Range) (olds news : List Level) (x y : ℕ) → place order r ≤ place order range → Chain r olds → CallersRel x olds news → CallersRel y olds news
  outer r [] [] x y le chain c = tt
  outer r [] (b ∷ news) x y le chain c = c
  outer r (a ∷ olds) [] x y le chain c = c
  outer r (a ∷ olds) (b ∷ news) x y le chain c = (
    elim c.0 as (λ z. LevelRel y a b) [
      | inl e ↦ inl e
      | inr i ↦ absurd (let e : place order a.range ≡ place order range = ap (place order) i.old in let f = chain.0 in omega (arith, e, f, le))
    ],
    outer a.range olds news x y (let f = chain.0 in omega (arith, f, le)) chain.2 c.1,
  )

  -- Steps of the second walk, with what they cost.

  abbrev Comes : ℕ → ℕ → State → State → Type 0
  Comes k c from to = (iterate step_h k from ≡ to) × (paid k from ≡ c)

  comes-one : (c : ℕ) (from to : State) → step_h from ≡ to → cost acting from ≡ c → Comes 1 c from to
  comes-one c from to e p = (e, omega (arith, p))

  comes-then : (k c j d : ℕ) (a b e : State) → Comes k c a b → Comes j d b e → Comes (k + j) (c + d) a e
  comes-then k c j d a b e x y = (
    iterate-add step_h k j a ∙ ap (iterate step_h j) x.0 ∙ y.0,
    (let f = spent-add step_h (cost acting) k j a in let i = ap (paid j) x.0 in let p = x.1 in let q = y.1 in omega (arith, f, i, p, q)),
  )

  -- in the range
  abbrev here : List Item → End → List Level → Celled Memory → Trace → State
  here items end news t trace = at (lev range items end) news t trace Going

  set-comes : (number : ℕ) (rest : List Item) (end : End) (news : List Level) (t : Celled Memory) (trace : Trace) → Comes 1 1 (here (sets cell number ∷ rest) end news t trace) (here rest end news (put range cell number t) trace)
  set-comes number rest end news t trace =
      comes-one 1 (here (sets cell number ∷ rest) end news t trace) (here rest end news (put range cell number t) trace) (ap (here rest end news (put range cell number t)) (append-nil trace)) refl

  begin-comes : (rest : List Item) (end : End) (news : List Level) (t : Celled Memory) (trace : Trace) → Comes 1 1 (here (Do (Loop (Until false test) (Nested body)) ∷ rest) end news t trace) (here (again ∷ rest) end news t trace)
  begin-comes rest end news t trace =
      comes-one 1 (here (Do (Loop (Until false test) (Nested body)) ∷ rest) end news t trace) (here (again ∷ rest) end news t trace) (ap (here (again ∷ rest) end news t) (append-nil trace)) refl

  tested : (t : Celled Memory) (ended : Bool) → says test (t.cells range cell) ≡ ended → celled_test acting range test t ≡ Got [] ended t
  tested t ended e = on-cell acting range cell Common fresh test t gathered.on_cell ∙ ap (λ b. Got [] b t) e

  on-comes : (rest : List Item) (end : End) (news : List Level) (t : Celled Memory) (trace : Trace) → says test (t.cells range cell) ≡ false → Comes 1 1 (here (again ∷ rest) end news t trace) (here (before body (again ∷ rest)) end news t trace)
  on-comes rest end news t trace e =
      comes-one 1 (here (again ∷ rest) end news t trace) (here (before body (again ∷ rest)) end news t trace)
      (ap (λ x. walk_goes acting left h (tried x (λ ended. on (celled acting range) (turns (celled acting range) ended (Tests test) (Nested body) rest))) (here (again ∷ rest) end news t trace)) (tested t false e)
      ∙ ap (here (before body (again ∷ rest)) end news t) (append-nil trace))
      (ap (λ x. tried_cost x (λ ended m. round_cost ended)) (tested t false e))

  off-comes : (rest : List Item) (end : End) (news : List Level) (t : Celled Memory) (trace : Trace) → says test (t.cells range cell) ≡ true → Comes 1 0 (here (again ∷ rest) end news t trace) (here rest end news t trace)
  off-comes rest end news t trace e =
      comes-one 0 (here (again ∷ rest) end news t trace) (here rest end news t trace)
      (ap (λ x. walk_goes acting left h (tried x (λ ended. on (celled acting range) (turns (celled acting range) ended (Tests test) (Nested body) rest))) (here (again ∷ rest) end news t trace)) (tested t true e)
      ∙ ap (here rest end news t) (append-nil trace))
      (ap (λ x. tried_cost x (λ ended m. round_cost ended)) (tested t true e))

  choose-comes : (arms : Arms) (number : ℕ) (rest : List Item) (end : End) (news : List Level) (t : Celled Memory) (trace : Trace) → t.cells range cell ≡ number → Comes 1 1 (here (Do (Choose (ByCell cell) arms) ∷ rest) end news t trace) (here (before_arm arms (number - 1) rest) end news t trace)
  choose-comes arms number rest end news t trace e =
      comes-one 1 (here (Do (Choose (ByCell cell) arms) ∷ rest) end news t trace) (here (before_arm arms (number - 1) rest) end news t trace)
      (ap (here (before_arm arms (t.cells range cell - 1) rest) end news t) (append-nil trace) ∙ ap (λ n. here (before_arm arms (n - 1) rest) end news t trace) e) refl

  -- a turn begins
  pub record Opened (items : List Item) (news : List Level) (t : Celled Memory) (trace : Trace) : Type 0 where
    pub steps : ℕ
    pub units : ℕ
    pub some : 1 ≤ steps
    pub few : steps ≤ 2
    pub least : 1 ≤ units
    pub most : units ≤ 2
    pub comes : Comes steps units (here (again ∷ []) out news t trace) (here (items ++ again ∷ []) out news t trace)

  opens : (number : ℕ) (items : List Item) (news : List Level) (t : Celled Memory) (trace : Trace) → t.cells range cell ≡ number → says test number ≡ false → Opens cell body number items → Opened items news t trace
  opens number items news t trace holds e (inl is) =
      let first = on-comes [] out news t trace (ap (says test) holds ∙ e) in
      record {
        steps = 1;
        units = 1;
        some = omega arith;
        few = omega arith;
        least = omega arith;
        most = omega arith;
        comes = subst (λ i. Comes 1 1 (here (again ∷ []) out news t trace) (here i out news t trace)) (sym (before-append body [] (again ∷ [])) ∙ ap (λ i. i ++ again ∷ []) (sym is)) first;
      }
  opens number items news t trace holds e (inr is) =
      let arms = is.0 in
      let mid = here (Do (Choose (ByCell cell) arms) ∷ again ∷ []) out news t trace in
      let first : Comes 1 1 (here (again ∷ []) out news t trace) mid = subst (λ b. Comes 1 1 (here (again ∷ []) out news t trace) (here (before b (again ∷ [])) out news t trace)) is.1 (on-comes [] out news t trace (ap (says test) holds ∙ e)) in
      let second = choose-comes arms number (again ∷ []) out news t trace holds in
      record {
        steps = 2;
        units = 2;
        some = omega arith;
        few = omega arith;
        least = omega arith;
        most = omega arith;
        comes = subst (λ i. Comes 2 2 (here (again ∷ []) out news t trace) (here i out news t trace)) (sym (arm-append arms (number - 1) [] (again ∷ [])) ∙ ap (λ i. i ++ again ∷ []) (sym is.2))
            (comes-then 1 1 1 1 (here (again ∷ []) out news t trace) mid (here (before_arm arms (number - 1) (again ∷ [])) out news t trace) first second);
      }

  node-fits : (r : Range) (l : Label) → In r order → TreeFits (Behind order r) (Reads r) (Writes r) (g.node r l)
  node-fits r l at_it = ordered-fits g Reads Writes order ordered r at_it l

  level-fits : (r : Range) (t : Tree) → In r order → TreeFits (Behind order r) (Reads r) (Writes r) t → LevelFits (level_at r t)
  level-fits r t at_it fits = let f = root-fits (Behind order r) (Reads r) (Writes r) t fits in (at_it, f.0, f.1)

  jumps-end : (P : Label → Type 0) (t : Tree) → JumpsTree P t → JumpsEnd P (end_of t)
  jumps-end P (tree b e) j = j

  -- a tree whose items stand in the loop
  tree-inside : (number : ℕ) (t : Tree) (items : List Item) → GathersTree cell test out inside (reached range) number t items → Inside number (level_at range t) (lev range (items ++ again ∷ []) out)
  tree-inside number (tree b e) items j = record {
    old = refl;
    tail = j.0;
    new = ap (λ i. lev range i out) (ap (λ i. i ++ again ∷ []) j.1 ∙ before-append b j.0 (again ∷ []) ∙ sym (before-append b [] (j.0 ++ again ∷ [])));
    stands = j.2;
  }

  -- the first walk is at a node, the second comes there in some steps
  pub record Entered (w v : State) : Type 0 where
    pub steps : ℕ
    pub few : steps ≤ 4
    pub dear : paid steps v ≤ 4
    pub settled : Settled w (iterate step_h steps v)

  -- a turn at a node inside the loop begins
  pub record Turned (w v : State) : Type 0 where
    pub steps : ℕ
    pub some : 1 ≤ steps
    pub few : steps ≤ 2
    pub least : 1 ≤ paid steps v
    pub most : paid steps v ≤ 2
    pub settled : Settled w (iterate step_h steps v)

  abbrev pub old-at : Range → Label → List Level → Celled Memory → Trace → State
  old-at r l olds s trace = at (level_at r (g.node r l)) olds s trace Going

  turn : (number : ℕ) (l : Label) (olds news : List Level) (s t : Celled Memory) (trace : Trace) → inside number l → In range order → CallersRel number olds news → Chain range olds → Agrees number s t → Turned (old-at range l olds s trace) (here (again ∷ []) out news t trace)
  turn number l olds news s t trace ins at_it c chain a =
      let u = gathered.turns number l ins in
      let o = opens number u.1 news t trace a.holds u.0 u.2 in
      record {
        steps = o.steps;
        some = o.some;
        few = o.few;
        least = (let p = o.comes.1 in let q = o.least in omega (arith, p, q));
        most = (let p = o.comes.1 in let q = o.most in omega (arith, p, q));
        settled = subst (Settled (old-at range l olds s trace)) (sym o.comes.0)
            (record { number = number; level = inr (tree-inside number (g.node range l) u.1 u.3); callers = c; fits = level-fits range (g.node range l) at_it (node-fits range l at_it); chain = chain; agree = a; run = refl });
      }

  enter-loop : (number : ℕ) (l : Label) (olds news : List Level) (s t : Celled Memory) (trace : Trace) (now : ℕ) → inside number l → h.node range l ≡ loop_from cell test body out number → In range order → CallersRel now olds news → Chain range olds → Agrees now s t →
      Entered (old-at range l olds s trace) (at (level_at range (h.node range l)) news t trace Going)
  enter-loop number l olds news s t trace now ins node at_it c chain a =
      let cleared = put range cell number t in
      let start = here (sets cell number ∷ Do (Loop (Until false test) (Nested body)) ∷ []) out news t trace in
      let ready = here (again ∷ []) out news cleared trace in
      let first = comes-then 1 1 1 1 start (here (Do (Loop (Until false test) (Nested body)) ∷ []) out news cleared trace) ready
      (set-comes number (Do (Loop (Until false test) (Nested body)) ∷ []) out news t trace) (begin-comes [] out news cleared trace) in
      let u = turn number l olds news s cleared trace ins at_it (outer range olds news now number (omega arith) chain c) chain (agree-set acting range cell Common fresh now number s t a) in
      let whole = comes-then 2 2 u.steps (paid u.steps ready) start ready (iterate step_h u.steps ready) first (refl, refl) in
      subst (λ n. Entered (old-at range l olds s trace) (at (level_at range n) news t trace Going)) (sym node)
      (record {
        steps = 2 + u.steps;
        few = (let f = u.few in omega (arith, f));
        dear = (let p = whole.1 in let q = u.most in omega (arith, p, q));
        settled = subst (Settled (old-at range l olds s trace)) (sym whole.0) u.settled;
      })

  pub enter : (r : Range) (l : Label) (olds news : List Level) (s t : Celled Memory) (trace : Trace) (now : ℕ) → reached r l → In r order → CallersRel now olds news → Chain r olds → Agrees now s t →
      Entered (old-at r l olds s trace) (at (level_at r (h.node r l)) news t trace Going)
  enter r l olds news s t trace now there at_it c chain a = by (gathered.nodes r l there)
    where
      by : ((h.node r l ≡ g.node r l) × JumpsTree (reached r) (g.node r l)) ⊎ ((r ≡ range) × (number : ℕ) × inside number l × (h.node r l ≡ loop_from cell test body out number)) → Entered (old-at r l olds s trace) (at (level_at r (h.node r l)) news t trace Going)
      by (inl same) =
          record {
            steps = 0;
            few = omega arith;
            dear = omega arith;
            settled = record { number = now; level = inl (ap (level_at r) same.0, jumps-end (reached r) (g.node r l) same.1); callers = c; fits = level-fits r (g.node r l) at_it (node-fits r l at_it); chain = chain; agree = a; run = refl };
          }
      by (inr begins) =
          subst (λ x. In x order → Chain x olds → (h.node x l ≡ loop_from cell test body out begins.1) → Entered (old-at x l olds s trace) (at (level_at x (h.node x l)) news t trace Going)) (sym begins.0)
          (λ at_it chain node. enter-loop begins.1 l olds news s t trace now begins.2 node at_it c chain a) at_it chain begins.3

  -- What is owed: for each level of the range its way out of the loop, and for each PERFORM that takes no unit the way into it.

  abbrev pub back : Range → ℕ
  back r = if same_range r range then 2 else 0

  abbrev pub level_owes : Level → ℕ
  level_owes a = 6 * frees a.items + back a.range

  abbrev pub callers_owe : List Level → ℕ
  callers_owe [] = 0
  callers_owe (a ∷ others) = level_owes a + callers_owe others

  abbrev pub owed_by : Standing Left → State → ℕ
  owed_by Going w = level_owes w.level + callers_owe w.callers
  owed_by (Over ending) w = 0

  abbrev pub owed : State → State → ℕ
  owed w v = owed_by w.run.standing w

  abbrev pub owes : State → ℕ
  owes w = owed_by w.run.standing w

  pub back-most : (r : Range) → back r ≤ 2
  back-most r = elim (same_range r range) as (λ b. (if b then 2 else 0) ≤ 2) [ true ↦ omega arith | false ↦ omega arith ]

  back-here : back range ≡ 2
  back-here = ap (λ b. if b then 2 else 0) (same-self range)

  -- at the root of a tree only the way out is owed
  pub root-owes : (r : Range) (t : Tree) → level_owes (level_at r t) ≡ back r
  root-owes r t = let e = frees-root (body_of t) in omega (arith, e)

  -- the first walk has made its step, and the second comes to where that is
  pub record Goes (w v : State) : Type 0 where
    pub steps : ℕ
    pub settled : Settled (step_g w) (iterate step_h steps v)
    pub some : 1 ≤ steps
    pub few : steps ≤ 8
    pub dear : paid steps v + owes (step_g w) ≤ 8 * cost acting w + owes w
    pub least : cost acting w ≤ 8 * paid steps v
    pub first : parted w ≡ true → (i : ℕ) × ((iterate step_h i v).run ≡ (iterate step_h steps v).run) × (paid i v ≤ owes w + 2)

  -- the second walk has made as many steps as it takes behind its first one
  pub record Lands (w v : State) (units owing : ℕ) : Type 0 where
    pub steps : ℕ
    pub few : steps ≤ 4
    pub settled : Settled w (iterate step_h steps v)
    pub run : v.run ≡ w.run
    pub dear : units + paid steps v + owes w ≤ 8 * units + owing

  -- the standing of a walk that goes on
  abbrev NotLost : State → Type 0
  NotLost w = w.run.standing ≢ Over Lost

  module _ (r : Range) (item : Item) (rest : List Item) (end now : End) (after : List Item) (olds news : List Level) (number : ℕ) (s t : Celled Memory) (trace : Trace)
      (at_it : In r order) (fits : Fit r (item ∷ rest)) (end_fits : EndFit r end) (c : CallersRel number olds news) (chain : Chain r olds) (agree : Agrees number s t)
      (stays : (items : List Item) → LevelRel number (lev r items end) (lev r (items ++ after) now)) (calm : Calm (celled acting r) after) where
    abbrev old : State
    old = at (lev r (item ∷ rest) end) olds s trace Going

    abbrev new : State
    new = at (lev r (item ∷ (rest ++ after)) now) news t trace Going

    abbrev units : ℕ
    units = item_cost (celled acting r) item rest s

    way-lands : (way other : Way (Celled Memory)) → AgreeWay acting range cell Common fresh number way other → WayFits (Behind order r) (Reads r) (Writes r) way → WayFrees (frees rest + units) way → IntoCosts (celled acting r) item rest s way →
        Lands (walk_goes acting left g way old) (walk_goes acting left h (further after other) new) units (owes old)
    way-lands (On shown m items) other a w f i =
        subst (λ o. Lands (walk_goes acting left g (On shown m items) old) (walk_goes acting left h (further after o) new) units (owes old)) (sym a.1)
        (record {
          steps = 0;
          few = omega arith;
          settled = record { number = number; level = stays items; callers = c; fits = (at_it, w, end_fits); chain = chain; agree = a.2; run = refl };
          run = refl;
          dear = omega (arith, f);
        })
    way-lands (Halts shown how m) other a w f i =
        subst (λ o. Lands (walk_goes acting left g (Halts shown how m) old) (walk_goes acting left h (further after o) new) units (owes old)) (sym a.1)
        (let same : record { trace = trace ++ shown; standing = Over (Stopped how (left m.own)) } ≡ record { trace = trace ++ shown; standing = Over (Stopped how (left a.0.own)) } = ap (λ own. record { trace = trace ++ shown; standing = Over (Stopped how (left own)) }) a.2.own in
        record {
          steps = 0;
          few = omega arith;
          settled = record { number = number; level = stays (item ∷ rest); callers = c; fits = (at_it, fits, end_fits); chain = chain; agree = a.2; run = same };
          run = sym same;
          dear = omega arith;
        })
    way-lands (Into entry exit items) other a w f i =
        subst (λ o. Lands (walk_goes acting left g (Into entry exit items) old) (walk_goes acting left h (further after o) new) units (owes old)) (sym a)
        (let part = Part entry exit in
        let caller = lev r items end in
        let e = subst (λ l. Entered (old-at part (g.entry part) (caller ∷ olds) s trace) (at (level_at part (h.node part l)) (lev r (items ++ after) now ∷ news) t trace Going)) (sym (gathered.entries part))
        (enter part (g.entry part) (caller ∷ olds) (lev r (items ++ after) now ∷ news) s t trace number (gathered.enters part) w.0.0 (stays items, c) (w.0.1, (at_it, w.1, end_fits), chain) agree) in
        record {
          steps = e.steps;
          few = e.few;
          settled = e.settled;
          run = refl;
          dear = (let p = e.dear in let q = root-owes part (g.node part (g.entry part)) in let b = back-most part in let z = ap frees i.0 in let y = i.1 in omega (arith, p, q, b, z, y));
        })
    way-lands (To shown m paragraph) other a w f i = absurd w
    way-lands (ToEnd shown m paragraph) other a w f i = absurd w

    same-cost : item_cost (celled acting r) item (rest ++ after) t ≡ units
    same-cost =
        cost-append (celled acting r) item rest after t calm
        ∙ sym (item-costs acting range cell Common fresh (Behind order r) (Reads r) (Writes r) r (reads r) (λ x e. unwritten (subst (λ y. Writes y cell) e x)) number item rest s t fits.0 agree)

    item-lands : Lands (step_g old) (step_h new) units (owes old)
    item-lands =
        let doing = celled acting r in
        subst (λ way. Lands (step_g old) (walk_goes acting left h way new) units (owes old)) (sym (item-further doing after (Behind order r) (Reads r) (Writes r) item rest t fits.0))
        (way-lands (item_way doing item rest s) (item_way doing item rest t)
        (item-agrees acting range cell Common fresh (Behind order r) (Reads r) (Writes r) r (reads r) (λ x e. unwritten (subst (λ y. Writes y cell) e x)) number item rest s t fits.0 agree)
        (item-fits (Behind order r) (Reads r) (Writes r) doing item rest s fits.0 fits.1)
        (item-frees doing (Behind order r) (Reads r) (Writes r) item rest s fits.0)
        (item-into doing item rest s))

    pub item-goes : Goes old new
    item-goes =
        let l = item-lands in
        let e = same-cost in
        record {
          steps = suc l.steps;
          settled = l.settled;
          some = omega arith;
          few = (let f = l.few in omega (arith, f));
          dear = (let d = l.dear in omega (arith, d, e));
          least = omega (arith, e);
          first = λ part. (1, l.run ∙ l.settled.run, (let m = item-most (celled acting r) item rest s in omega (arith, e, m)));
        }

  -- one step of each, both of one unit
  goes-one : (w v : State) → Settled (step_g w) (step_h v) → cost acting w ≡ 1 → cost acting v ≡ 1 → owes (step_g w) ≤ owes w → Goes w v
  goes-one w v set p q le = record {
    steps = 1;
    settled = set;
    some = omega arith;
    few = omega arith;
    dear = omega (arith, p, q, le);
    least = omega (arith, p, q);
    first = λ part. (1, refl, omega (arith, q));
  }

  -- a chosen tree fits, and jumps where it may
  abbrev TreeOk : Range → (End → Type 0) → Option Tree → Type 0
  TreeOk r P None = Unit {0}
  TreeOk r P (Some t) = TreeFits (Behind order r) (Reads r) (Writes r) t × P (end_of t)

  tree-ok : (r : Range) (P : Label → Type 0) (arms : Trees) (k : ℕ) → TreesFit (Behind order r) (Reads r) (Writes r) arms → JumpsTrees P arms → TreeOk r (JumpsEnd P) (tree_at arms k)
  tree-ok r P no_more k f j = tt
  tree-ok r P (more first others) zero f j = (f.0, jumps-end P first j.0)
  tree-ok r P (more first others) (suc k) f j = tree-ok r P others k f.1 j.1

  -- Outside the loop both stand at the same end.

  module _ (r : Range) (olds news : List Level) (number : ℕ) (at_it : In r order) (c : CallersRel number olds news) (chain : Chain r olds) where
    pub record Same (w v : State) : Type 0 where
      pub settled : Settled w v
      pub owing : owes w ≤ back r + callers_owe olds

    picked-out : (level : End) (m n : Celled Memory) (trace : Trace) → Agrees number m n → (found : Option Tree) → TreeOk r (JumpsEnd (reached r)) found → NotLost (picked acting left g found (at (lev r [] level) olds m trace Going)) →
        Same (picked acting left g found (at (lev r [] level) olds m trace Going)) (picked acting left h found (at (lev r [] level) news n trace Going))
    picked-out level m n trace a None ok fine = absurd (fine refl)
    picked-out level m n trace a (Some t) ok fine = record {
      settled = record { number = number; level = inl (refl, ok.1); callers = c; fits = level-fits r t at_it ok.0; chain = chain; agree = a; run = refl };
      owing = (let q = root-owes r t in omega (arith, q));
    }

    picks-out : (picker : Picker) (arms : Trees) (s t : Celled Memory) (trace : Trace) (x y : Tried (Celled Memory) ℕ) → EndFit r (Pick picker arms) → JumpsTrees (reached r) arms → AgreeTried acting range cell Common fresh number x y →
        NotLost (picks acting left g arms x (at (lev r [] (Pick picker arms)) olds s trace Going)) →
        Same (picks acting left g arms x (at (lev r [] (Pick picker arms)) olds s trace Going)) (picks acting left h arms y (at (lev r [] (Pick picker arms)) news t trace Going))
    picks-out picker arms s t trace (Got shown k m) y fits jumps a fine =
        subst (λ z. Same (picks acting left g arms (Got shown k m) (at (lev r [] (Pick picker arms)) olds s trace Going)) (picks acting left h arms z (at (lev r [] (Pick picker arms)) news t trace Going))) (sym a.1)
        (picked-out (Pick picker arms) m a.0 (trace ++ shown) a.2 (tree_at arms k) (tree-ok r (reached r) arms k fits.1 jumps) fine)
    picks-out picker arms s t trace (Ends shown kind m) y fits jumps a fine =
        subst (λ z. Same (picks acting left g arms (Ends shown kind m) (at (lev r [] (Pick picker arms)) olds s trace Going)) (picks acting left h arms z (at (lev r [] (Pick picker arms)) news t trace Going))) (sym a.1)
        (record {
          settled = record { number = number; level = inl (refl, jumps); callers = c; fits = (at_it, tt, fits); chain = chain; agree = a.2; run = ap (λ own. record { trace = trace ++ shown; standing = Over (Stopped (Abend kind) (left own)) }) a.2.own };
          owing = omega arith;
        })

  no-part : (r : Range) (end : End) (olds : List Level) (s : Celled Memory) (trace : Trace) (P : Type 0) → parted (at (lev r [] end) olds s trace Going) ≡ true → P
  no-part r end olds s trace P e = absurd (let f : false ≡ true = e in cc)

  out-goes : (r : Range) (items : List Item) (end : End) (olds news : List Level) (number : ℕ) (s t : Celled Memory) (trace : Trace) → In r order → Fit r items → EndFit r end → JumpsEnd (reached r) end → CallersRel number olds news → Chain r olds → Agrees number s t →
      NotLost (step_g (at (lev r items end) olds s trace Going)) → Goes (at (lev r items end) olds s trace Going) (at (lev r items end) news t trace Going)
  out-goes r (item ∷ rest) end olds news number s t trace at_it fits end_fits jumps c chain a fine =
      subst (λ i. Goes (at (lev r (item ∷ rest) end) olds s trace Going) (at (lev r (item ∷ i) end) news t trace Going)) (append-nil rest)
      (item-goes r item rest end end [] olds news number s t trace at_it fits end_fits c chain a (λ items. inl (ap (λ i. lev r i end) (append-nil items), jumps)) refl)
  out-goes r [] (Pick picker arms) olds news number s t trace at_it fits end_fits jumps c chain a fine =
      let same = picks-out r olds news number at_it c chain picker arms s t trace ((celled acting r).pick picker s) ((celled acting r).pick picker t) end_fits jumps
      (pick-agrees acting range cell Common fresh (Behind order r) (Reads r) (Writes r) r (reads r) (λ x e. unwritten (subst (λ y. Writes y cell) e x)) number picker s t end_fits.0 a) fine in
      goes-one (at (lev r [] (Pick picker arms)) olds s trace Going) (at (lev r [] (Pick picker arms)) news t trace Going) same.settled refl refl (let q = same.owing in omega (arith, q))
  out-goes r [] (Jump to) olds news number s t trace at_it fits end_fits jumps c chain a fine =
      let e = enter r to olds news s t trace number jumps at_it c chain a in
      record {
        steps = suc e.steps;
        settled = e.settled;
        some = omega arith;
        few = (let f = e.few in omega (arith, f));
        dear = (let d = e.dear in let q = root-owes r (g.node r to) in omega (arith, d, q));
        least = omega arith;
        first = no-part r (Jump to) olds s trace _;
      }
  out-goes r [] Return [] [] number s t trace at_it fits end_fits jumps c chain a fine = record {
    steps = 1;
    settled = record { number = number; level = inl (refl, tt); callers = tt; fits = (at_it, tt, tt); chain = tt; agree = a; run = ap (λ own. record { trace = trace; standing = Over (Returned (left own)) }) a.own };
    some = omega arith;
    few = omega arith;
    dear = omega arith;
    least = omega arith;
    first = no-part r Return [] s trace _;
  }
  out-goes r [] Return [] (n ∷ news) number s t trace at_it fits end_fits jumps c chain a fine = absurd c
  out-goes r [] Return (o ∷ olds) [] number s t trace at_it fits end_fits jumps c chain a fine = absurd c
  out-goes r [] Return (o ∷ olds) (n ∷ news) number s t trace at_it fits end_fits jumps c chain a fine = record {
    steps = 1;
    settled = record { number = number; level = c.0; callers = c.1; fits = chain.1; chain = chain.2; agree = a; run = refl };
    some = omega arith;
    few = omega arith;
    dear = omega arith;
    least = omega arith;
    first = no-part r Return (o ∷ olds) s trace _;
  }
  out-goes r [] Stop olds news number s t trace at_it fits end_fits jumps c chain a fine = record {
    steps = 1;
    settled = record { number = number; level = inl (refl, tt); callers = c; fits = (at_it, tt, tt); chain = chain; agree = a; run = ap (λ own. record { trace = trace; standing = Over (Stopped Normally (left own)) }) a.own };
    some = omega arith;
    few = omega arith;
    dear = omega arith;
    least = omega arith;
    first = no-part r Stop olds s trace _;
  }
  out-goes r [] Dead olds news number s t trace at_it fits end_fits jumps c chain a fine = absurd (fine refl)

  -- Inside the loop.

  calm-stands : (number : ℕ) (end : End) (tail : List Item) → Stands number end tail → Calm (celled acting range) (tail ++ again ∷ [])
  calm-stands number (Pick picker arms) tail j = subst (λ t. Calm (celled acting range) (t ++ again ∷ [])) (sym j.1) refl
  calm-stands number (Jump to) tail (inl j) = elim j.2 [ inl e ↦ subst (λ t. Calm (celled acting range) (t ++ again ∷ [])) (sym e) refl | inr e ↦ subst (λ t. Calm (celled acting range) (t ++ again ∷ [])) (sym e.1) refl ]
  calm-stands number (Jump to) tail (inr j) = subst (λ t. Calm (celled acting range) (t ++ again ∷ [])) (sym j.2) refl
  calm-stands number Return tail j = subst (λ t. Calm (celled acting range) (t ++ again ∷ [])) (sym j.1) refl
  calm-stands number Stop tail j = subst (λ t. Calm (celled acting range) (t ++ again ∷ [])) (sym j) refl
  calm-stands number Dead tail j = subst (λ t. Calm (celled acting range) (t ++ again ∷ [])) (sym j) refl

  -- an arm that was picked stands among the statements that were chosen
  abbrev ArmOk : ℕ → Option Tree → List Item → Type 0
  ArmOk number None items = Unit {0}
  ArmOk number (Some t) items = TreeFits (Behind order range) (Reads range) (Writes range) t × GathersTree cell test out inside (reached range) number t items

  arm-ok : (number : ℕ) (arms : Trees) (others : Arms) → TreesFit (Behind order range) (Reads range) (Writes range) arms → GathersArms cell test out inside (reached range) number arms others → (k : ℕ) → ArmOk number (tree_at arms k) (before_arm others k [])
  arm-ok number no_more others f j k = tt
  arm-ok number (more first rest) others f j zero =
      elim j.2 [
        | inl e ↦ subst (λ a. ArmOk number (Some first) (before_arm a 0 [])) (sym e) (f.0, j.3)
        | inr e ↦ subst (λ a. ArmOk number (Some first) (before_arm a 0 [])) (sym e.0) (f.0, subst (λ s. GathersTree cell test out inside (reached range) number first (before s [])) e.1 j.3)
      ]
  arm-ok number (more first rest) others f j (suc k) =
      let next = arm-ok number rest j.1 f.1 j.4 k in
      elim j.2 [
        | inl e ↦ subst (λ a. ArmOk number (tree_at rest k) (before_arm a (suc k) [])) (sym e) next
        | inr e ↦ subst (λ a. ArmOk number (tree_at rest k) (before_arm a (suc k) [])) (sym e.0) next
      ]

  module _ (olds news : List Level) (number : ℕ) (at_it : In range order) (c : CallersRel number olds news) (chain : Chain range olds) where
    picked-in : (level : End) (m n : Celled Memory) (trace : Trace) (items : List Item) → Agrees number m n → (found : Option Tree) → ArmOk number found items → NotLost (picked acting left g found (at (lev range [] level) olds m trace Going)) →
        Same range olds news number at_it c chain (picked acting left g found (at (lev range [] level) olds m trace Going)) (here (items ++ again ∷ []) out news n trace)
    picked-in level m n trace items a None ok fine = absurd (fine refl)
    picked-in level m n trace items a (Some t) ok fine = record {
      settled = record { number = number; level = inr (tree-inside number t items ok.1); callers = c; fits = level-fits range t at_it ok.0; chain = chain; agree = a; run = refl };
      owing = (let q = root-owes range t in omega (arith, q));
    }

    picks-in : (picker : Picker) (arms : Trees) (others : Arms) (s t : Celled Memory) (trace : Trace) (x y : Tried (Celled Memory) ℕ) → EndFit range (Pick picker arms) → GathersArms cell test out inside (reached range) number arms others → AgreeTried acting range cell Common fresh number x y →
        NotLost (picks acting left g arms x (at (lev range [] (Pick picker arms)) olds s trace Going)) →
        Same range olds news number at_it c chain (picks acting left g arms x (at (lev range [] (Pick picker arms)) olds s trace Going))
        (walk_goes acting left h (tried y (λ k. on (celled acting range) (before_arm others k (again ∷ [])))) (here (Do (Choose picker others) ∷ again ∷ []) out news t trace))
    picks-in picker arms others s t trace (Got shown k m) y fits j a fine =
        subst (λ z. Same range olds news number at_it c chain (picks acting left g arms (Got shown k m) (at (lev range [] (Pick picker arms)) olds s trace Going))
        (walk_goes acting left h (tried z (λ k. on (celled acting range) (before_arm others k (again ∷ [])))) (here (Do (Choose picker others) ∷ again ∷ []) out news t trace))) (sym a.1)
        (subst (λ x. Same range olds news number at_it c chain (picked acting left g (tree_at arms k) (at (lev range [] (Pick picker arms)) olds m (trace ++ shown) Going)) (here (before_arm others k (again ∷ [])) out news a.0 (trace ++ x))) (sym (append-nil shown))
        (subst (λ i. Same range olds news number at_it c chain (picked acting left g (tree_at arms k) (at (lev range [] (Pick picker arms)) olds m (trace ++ shown) Going)) (here i out news a.0 (trace ++ shown))) (arm-append others k [] (again ∷ []))
        (picked-in (Pick picker arms) m a.0 (trace ++ shown) (before_arm others k []) a.2 (tree_at arms k) (arm-ok number arms others fits.1 j k) fine)))
    picks-in picker arms others s t trace (Ends shown kind m) y fits j a fine =
        subst (λ z. Same range olds news number at_it c chain (picks acting left g arms (Ends shown kind m) (at (lev range [] (Pick picker arms)) olds s trace Going))
        (walk_goes acting left h (tried z (λ k. on (celled acting range) (before_arm others k (again ∷ [])))) (here (Do (Choose picker others) ∷ again ∷ []) out news t trace))) (sym a.1)
        (record {
          settled = record {
            number = number;
            level = inr (record { old = refl; tail = Do (Choose picker others) ∷ []; new = refl; stands = (others, refl, j) });
            callers = c;
            fits = (at_it, tt, fits);
            chain = chain;
            agree = a.2;
            run = ap (λ own. record { trace = trace ++ shown; standing = Over (Stopped (Abend kind) (left own)) }) a.2.own;
          };
          owing = omega arith;
        })

  -- the loop has ended, and what stands behind it leads to this end
  pub record Leaves (end : End) (news : List Level) (t : Celled Memory) (trace : Trace) : Type 0 where
    pub steps : ℕ
    pub units : ℕ
    pub few : steps ≤ 1
    pub dear : units ≤ 1
    pub comes : Comes steps units (here [] out news t trace) (here [] end news t trace)

  leads : (number : ℕ) (end : End) (news : List Level) (t : Celled Memory) (trace : Trace) → t.cells range cell ≡ number → Leads cell test out number end → Leaves end news t trace
  leads number end news t trace holds l = by l.1
    where
      by : (out ≡ end) ⊎ ((arms : Trees) × (out ≡ Pick (ByCell cell) arms) × (tree_at arms (number - 1) ≡ Some (tree none end))) → Leaves end news t trace
      by (inl e) = record { steps = 0; units = 0; few = omega arith; dear = omega arith; comes = (ap (λ o. here [] o news t trace) e, refl) }
      by (inr e) =
          let arms = e.0 in
          let f : tree_at arms (t.cells range cell - 1) ≡ Some (tree none end) = ap (λ n. tree_at arms (n - 1)) holds ∙ e.2 in
          record {
            steps = 1;
            units = 1;
            few = omega arith;
            dear = omega arith;
            comes = subst (λ o. Comes 1 1 (here [] o news t trace) (here [] end news t trace)) (sym e.1)
                (comes-one 1 (here [] (Pick (ByCell cell) arms) news t trace) (here [] end news t trace)
                (ap (λ x. picked acting left h x (at (lev range [] (Pick (ByCell cell) arms)) news t (trace ++ []) Going)) f ∙ ap (here [] end news t) (append-nil trace)) refl);
          }

  -- the number is set, and the loop ends
  pub record Ended (end : End) (value : ℕ) (news : List Level) (t : Celled Memory) (trace : Trace) : Type 0 where
    pub steps : ℕ
    pub units : ℕ
    pub some : 2 ≤ steps
    pub few : steps ≤ 3
    pub least : 1 ≤ units
    pub dear : units ≤ 2
    pub comes : Comes steps units (here (sets cell value ∷ again ∷ []) out news t trace) (here [] end news (put range cell value t) trace)

  ends : (value : ℕ) (end : End) (news : List Level) (number : ℕ) (s t : Celled Memory) (trace : Trace) → Agrees number s t → Leads cell test out value end → Ended end value news t trace
  ends value end news number s t trace a l =
      let now = put range cell value t in
      let holds = (agree-set acting range cell Common fresh number value s t a).holds in
      let x = leads value end news now trace holds l in
      let first = comes-then 1 1 1 0 (here (sets cell value ∷ again ∷ []) out news t trace) (here (again ∷ []) out news now trace) (here [] out news now trace)
      (set-comes value (again ∷ []) out news t trace) (off-comes [] out news now trace (ap (says test) holds ∙ l.0)) in
      record {
        steps = 2 + x.steps;
        units = 1 + x.units;
        some = omega arith;
        few = (let f = x.few in omega (arith, f));
        least = omega arith;
        dear = (let f = x.dear in omega (arith, f));
        comes = comes-then 2 1 x.steps x.units (here (sets cell value ∷ again ∷ []) out news t trace) (here [] out news now trace) (here [] end news now trace) first x.comes;
      }

  in-goes : (items : List Item) (end : End) (tail : List Item) (olds news : List Level) (number : ℕ) (s t : Celled Memory) (trace : Trace) → Stands number end tail → In range order → Fit range items → EndFit range end → CallersRel number olds news → Chain range olds → Agrees number s t →
      NotLost (step_g (at (lev range items end) olds s trace Going)) → Goes (at (lev range items end) olds s trace Going) (here (items ++ (tail ++ again ∷ [])) out news t trace)
  in-goes (item ∷ rest) end tail olds news number s t trace j at_it fits end_fits c chain a fine =
      item-goes range item rest end out (tail ++ again ∷ []) olds news number s t trace at_it fits end_fits c chain a (λ items. inr (record { old = refl; tail = tail; new = refl; stands = j })) (calm-stands number end tail j)
  in-goes [] (Pick picker arms) tail olds news number s t trace j at_it fits end_fits c chain a fine =
      let same = picks-in olds news number at_it c chain picker arms j.0 s t trace ((celled acting range).pick picker s) ((celled acting range).pick picker t) end_fits j.2
      (pick-agrees acting range cell Common fresh (Behind order range) (Reads range) (Writes range) range (reads range) (λ x e. unwritten x) number picker s t end_fits.0 a) fine in
      subst (λ i. Goes (at (lev range [] (Pick picker arms)) olds s trace Going) (here (i ++ again ∷ []) out news t trace)) (sym j.1)
      (goes-one (at (lev range [] (Pick picker arms)) olds s trace Going) (here (Do (Choose picker j.0) ∷ again ∷ []) out news t trace) same.settled refl refl (let q = same.owing in omega (arith, q)))
  in-goes [] (Jump to) tail olds news number s t trace (inl j) at_it fits end_fits c chain a fine = by j.2
    where
      old : State
      old = at (lev range [] (Jump to)) olds s trace Going

      by : (tail ≡ sets cell j.0 ∷ []) ⊎ ((j.0 ≡ number) × (tail ≡ [])) → Goes old (here (tail ++ again ∷ []) out news t trace)
      by (inl e) =
          let next = put range cell j.0 t in
          let start = here (sets cell j.0 ∷ again ∷ []) out news t trace in
          let mid = here (again ∷ []) out news next trace in
          let u = turn j.0 to olds news s next trace j.1 at_it (outer range olds news number j.0 (omega arith) chain c) chain (agree-set acting range cell Common fresh number j.0 s t a) in
          let all = comes-then 1 1 u.steps (paid u.steps mid) start mid (iterate step_h u.steps mid) (set-comes j.0 (again ∷ []) out news t trace) (refl, refl) in
          subst (λ i. Goes old (here (i ++ again ∷ []) out news t trace)) (sym e)
          (record {
            steps = 1 + u.steps;
            settled = subst (Settled (old-at range to olds s trace)) (sym all.0) u.settled;
            some = omega arith;
            few = (let f = u.few in omega (arith, f));
            dear = (let p = all.1 in let q = u.most in let r = root-owes range (g.node range to) in omega (arith, p, q, r));
            least = (let p = all.1 in omega (arith, p));
            first = no-part range (Jump to) olds s trace _;
          })
      by (inr e) =
          let u = turn number to olds news s t trace (subst (λ n. inside n to) e.0 j.1) at_it c chain a in
          subst (λ i. Goes old (here (i ++ again ∷ []) out news t trace)) (sym e.1)
          (record {
            steps = u.steps;
            settled = u.settled;
            some = u.some;
            few = (let f = u.few in omega (arith, f));
            dear = (let q = u.most in let r = root-owes range (g.node range to) in omega (arith, q, r));
            least = (let q = u.least in omega (arith, q));
            first = no-part range (Jump to) olds s trace _;
          })
  in-goes [] (Jump to) tail olds news number s t trace (inr j) at_it fits end_fits c chain a fine =
      let now = put range cell j.0 t in
      let agree = agree-set acting range cell Common fresh number j.0 s t a in
      let callers = outer range olds news number j.0 (omega arith) chain c in
      let start = here (sets cell j.0 ∷ again ∷ []) out news t trace in
      let mid = here [] (Jump to) news now trace in
      let land = at (level_at range (h.node range to)) news now trace Going in
      let x = ends j.0 (Jump to) news number s t trace a j.3 in
      let e = enter range to olds news s now trace j.0 j.1 at_it callers chain agree in
      let all = comes-then x.steps x.units 1 1 start mid land x.comes (comes-one 1 mid land refl refl) in
      let more = comes-then (x.steps + 1) (x.units + 1) e.steps (paid e.steps land) start land (iterate step_h e.steps land) all (refl, refl) in
      subst (λ i. Goes (at (lev range [] (Jump to)) olds s trace Going) (here (i ++ again ∷ []) out news t trace)) (sym j.2)
      (record {
        steps = x.steps + 1 + e.steps;
        settled = subst (Settled (old-at range to olds s trace)) (sym more.0) e.settled;
        some = omega arith;
        few = (let f = x.few in let q = e.few in omega (arith, f, q));
        dear = (let p = more.1 in let q = x.dear in let r = e.dear in let z = root-owes range (g.node range to) in omega (arith, p, q, r, z));
        least = (let p = more.1 in omega (arith, p));
        first = no-part range (Jump to) olds s trace _;
      })
  in-goes [] Return tail [] [] number s t trace j at_it fits end_fits c chain a fine =
      let now = put range cell j.0 t in
      let start = here (sets cell j.0 ∷ again ∷ []) out [] t trace in
      let mid = here [] Return [] now trace in
      let x = ends j.0 Return [] number s t trace a j.2 in
      let all = comes-then x.steps x.units 1 0 start mid (step_h mid) x.comes (comes-one 0 mid (step_h mid) refl refl) in
      subst (λ i. Goes (at (lev range [] Return) [] s trace Going) (here (i ++ again ∷ []) out [] t trace)) (sym j.1)
      (record {
        steps = x.steps + 1;
        settled = subst (Settled (at (lev range [] Return) [] s trace (Over (Returned (left s.own))))) (sym all.0)
            (record { number = j.0; level = inl (refl, tt); callers = tt; fits = (at_it, tt, tt); chain = tt; agree = agree-set acting range cell Common fresh number j.0 s t a; run = ap (λ own. record { trace = trace; standing = Over (Returned (left own)) }) a.own });
        some = omega arith;
        few = (let f = x.few in omega (arith, f));
        dear = (let p = all.1 in let q = x.dear in let b = back-here in omega (arith, p, q, b));
        least = omega arith;
        first = no-part range Return [] s trace _;
      })
  in-goes [] Return tail [] (n ∷ news) number s t trace j at_it fits end_fits c chain a fine = absurd c
  in-goes [] Return tail (o ∷ olds) [] number s t trace j at_it fits end_fits c chain a fine = absurd c
  in-goes [] Return tail (o ∷ olds) (n ∷ news) number s t trace j at_it fits end_fits c chain a fine =
      let now = put range cell j.0 t in
      let callers = outer range (o ∷ olds) (n ∷ news) number j.0 (omega arith) chain c in
      let start = here (sets cell j.0 ∷ again ∷ []) out (n ∷ news) t trace in
      let mid = here [] Return (n ∷ news) now trace in
      let x = ends j.0 Return (n ∷ news) number s t trace a j.2 in
      let all = comes-then x.steps x.units 1 0 start mid (step_h mid) x.comes (comes-one 0 mid (step_h mid) refl refl) in
      subst (λ i. Goes (at (lev range [] Return) (o ∷ olds) s trace Going) (here (i ++ again ∷ []) out (n ∷ news) t trace)) (sym j.1)
      (record {
        steps = x.steps + 1;
        settled = subst (Settled (at o olds s trace Going)) (sym all.0)
            (record { number = j.0; level = callers.0; callers = callers.1; fits = chain.1; chain = chain.2; agree = agree-set acting range cell Common fresh number j.0 s t a; run = refl });
        some = omega arith;
        few = (let f = x.few in omega (arith, f));
        dear = (let p = all.1 in let q = x.dear in let b = back-here in omega (arith, p, q, b));
        least = omega arith;
        first = no-part range Return (o ∷ olds) s trace _;
      })
  in-goes [] Stop tail olds news number s t trace j at_it fits end_fits c chain a fine =
      subst (λ i. Goes (at (lev range [] Stop) olds s trace Going) (here (i ++ again ∷ []) out news t trace)) (sym j)
      (record {
        steps = 1;
        settled = record {
          number = number;
          level = inr (record { old = refl; tail = Do StopRun ∷ []; new = refl; stands = refl });
          callers = c;
          fits = (at_it, tt, tt);
          chain = chain;
          agree = a;
          run = ap (λ own. record { trace = trace; standing = Over (Stopped Normally (left own)) }) a.own ∙ ap (λ x. record { trace = x; standing = Over (Stopped Normally (left t.own)) }) (sym (append-nil trace));
        };
        some = omega arith;
        few = omega arith;
        dear = (let b = back-here in omega (arith, b));
        least = omega arith;
        first = no-part range Stop olds s trace _;
      })
  in-goes [] Dead tail olds news number s t trace j at_it fits end_fits c chain a fine = absurd (fine refl)

  -- any point at which both stand
  settled-goes : (r : Range) (items : List Item) (end : End) (b : Level) (olds news : List Level) (number : ℕ) (s t : Celled Memory) (trace : Trace) →
      LevelRel number (lev r items end) b → CallersRel number olds news → LevelFits (lev r items end) → Chain r olds → Agrees number s t →
      NotLost (step_g (at (lev r items end) olds s trace Going)) → Goes (at (lev r items end) olds s trace Going) (at b news t trace Going)
  settled-goes r items end b olds news number s t trace (inl e) c fits chain a fine =
      subst (λ x. Goes (at (lev r items end) olds s trace Going) (at x news t trace Going)) (sym e.0)
      (out-goes r items end olds news number s t trace fits.0 fits.1 fits.2 e.1 c chain a fine)
  settled-goes r items end b olds news number s t trace (inr i) c fits chain a fine =
      subst (λ x. Goes (at (lev r items end) olds s trace Going) (at x news t trace Going)) (sym i.new)
      (subst (λ x. LevelFits (lev x items end) → Chain x olds → NotLost (step_g (at (lev x items end) olds s trace Going)) → Goes (at (lev x items end) olds s trace Going) (here (items ++ (i.tail ++ again ∷ [])) out news t trace)) (sym i.old)
      (λ fits chain fine. in-goes items end i.tail olds news number s t trace i.stands fits.0 fits.1 fits.2 c chain a fine) fits chain fine)

  pub goes-of : (w v : State) → Settled w v → NotLost (step_g w) → w.run.standing ≡ Going → Goes w v
  goes-of w v set fine is =
      let e : w.run ≡ record { trace = w.run.trace; standing = Going } = ap (λ x. record { trace = w.run.trace; standing = x }) is in
      let w_is : w ≡ at (lev w.level.range w.level.items w.level.end) w.callers w.memory w.run.trace Going = ap (λ x. record { level = w.level; callers = w.callers; memory = w.memory; run = x }) e in
      let v_is : v ≡ at v.level v.callers v.memory w.run.trace Going = ap (λ x. record { level = v.level; callers = v.callers; memory = v.memory; run = x }) (sym set.run ∙ e) in
      subst (λ x. Goes w x) (sym v_is)
      (subst (λ x. NotLost (step_g x) → Goes x (at v.level v.callers v.memory w.run.trace Going)) (sym w_is)
      (λ fine. settled-goes w.level.range w.level.items w.level.end v.level w.callers v.callers set.number w.memory v.memory w.run.trace set.level set.callers set.fits set.chain set.agree fine) fine)
