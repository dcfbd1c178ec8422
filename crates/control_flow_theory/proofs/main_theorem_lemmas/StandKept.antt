-- What the rules make of statements that can be written can be written: each choice by a cell stands where the cell isn't zero.
use Rattle.std.proofs.Common.{◌≡◌, ℕ, zero, suc, ◌-◌, ◌*◌, ◌≤◌, arith, Bool, true, false, if◌then◌else◌, ◌==◌, List, [], ◌∷◌, Option, Some, None, refl, ap, sym, ◌∙◌, subst, inl, inr}
use Rattle.control_flow_theory.specs.language.Language.{Set, Test, Is, Picker, If, ByCell, Until, Do, Choose, Loop, StopRun, Stmts, none, also, Arms, done, given, Nested, Range}
use Rattle.control_flow_theory.specs.semantics.Doing.{is_above}
use Rattle.control_flow_theory.specs.semantics.Graph.{Label, Tree, tree, End, Pick, Jump, Return, Stop, Dead, Trees, no_more, more, body_of, end_of}
use Rattle.control_flow_theory.specs.lowering.WellFormed.{tree_count}
use Rattle.control_flow_theory.specs.rendering.Rendering.{Naming, Procedure}
use Rattle.control_flow_theory.specs.rendering.Procedures.{Writable, TestFits, StmtsStand, ArmsStand}
use Rattle.control_flow_theory.specs.graph_rules.Families.{Added, Never, Flag, State, Exit}
use Rattle.control_flow_theory.specs.graph_rules.Loops.{Keeper, Flagged, Endless, turned_test, tested_node}
use Rattle.control_flow_theory.specs.graph_rules.Shapes.{followed, alone, Live, ToLabel, Back, end_at, Targets, NoTarget, Only, Several, both_targets, leaf_targets, arms_targets, last_stmts, arms_stmts, join_by, joined, join_end, joined_arms, inlined, inline_end, inlined_arms, other_targets, leaving, flat, flat_end, flat_arms}
use Rattle.control_flow_theory.specs.graph_rules.Reduced.{Node, Graph, tree_in, kind_at, count, with_tree, without, each_tree, join_graph, inline_graph, inlines, lowest, loops, Form, form_of, close_form, close_by, inline_step, loop_step, rule_step, stepped, size, reduced, shaped}
use Rattle.control_flow_theory.specs.structuring.Dispatches.{Numbered, either, end_returns, tree_returns, trees_return, stated_end, stated_tree, stated_arms, number_in, length_of, set_to, exit_jump, bare, state_jump, node_arms, some_returns, return_if, labels_of}
use Rattle.control_flow_theory.specs.structuring.Targets.{targets_of, with_exits}
use Rattle.control_flow_theory.specs.structuring.Closes.{none_left_out, has_exits, exits_graph, exits_step, or_exits, any_step, reduced_by_all, dispatch_graph, dispatch_rest, closed_graph, IsClosed}
use Rattle.control_flow_theory.specs.main_theorem.Chain.{stmts_arms, KindServed, MayBecome}
use Rattle.control_flow_theory.proofs.main_theorem_lemmas.graphs.Choosing.{stmts_choose}
use Rattle.control_flow_theory.proofs.graph_rules_lemmas.shapes.Reducing.{form-is, kind-next}
use Rattle.control_flow_theory.proofs.structuring_lemmas.closing.RulesStayClosed.{join-closed, lowest-in, rule-step-closed, shaped-closed, any-step-closed}
use Rattle.control_flow_theory.proofs.main_theorem_lemmas.graphs.ArmCounts.{last-several}
use Rattle.control_flow_theory.proofs.main_theorem_lemmas.graphs.Becoming.{arms-become, joined-becomes, inlined-becomes, flat-becomes, stated-becomes}
use Rattle.control_flow_theory.proofs.main_theorem_lemmas.graphs.ChoicesKept.{Chooses, ArmsChoose, Picks, finds, picks-self, dispatch-own}
use Rattle.control_flow_theory.proofs.structuring_lemmas.closing.SomeKept.{join-graph-some, put-some}
use Rattle.control_flow_theory.proofs.main_theorem_lemmas.graphs.CellsKept.{Leads, reduced-leads, by-all-leads, rest-leads}
use Rattle.control_flow_theory.proofs.main_theorem_lemmas.graphs.Bounds.{number-most, labels-size, targets-most, bare-most, bare-least, bare-returns, node-arms-count, step-fewer, by-all-fewer, shaped-fewer}

assoc : (a b c : Stmts) → followed (followed a b) c ≡ followed a (followed b c)
assoc none b c = refl
assoc (also stmt a) b c = ap (also stmt) (assoc a b c)

-- the number of arms behind a loop with several exits
abbrev exit_arms : Label → Tree → ℕ
exit_arms label t = tree_count (bare (targets_of label t) (tree_returns t))

module _ (naming : Naming) (kinds : Writable) (procedures : List Procedure) (range : Range) where
  abbrev Stands : Stmts → Type 0
  Stands stmts = StmtsStand naming kinds procedures range stmts

  abbrev Arms-stand : Arms → Type 0
  Arms-stand arms = ArmsStand naming kinds procedures range arms

  -- with whatever its arms may become, the choice may follow
  abbrev HeadStands : Stmts → Picker → Trees → Type 0
  HeadStands body picker trees = (arms : Arms) → MayBecome trees arms → Arms-stand arms → Stands (followed body (alone (Choose picker arms)))

  abbrev mutual
    pub TreeStands : Tree → Type 0
    TreeStands (tree body end) = EndStands body end

    pub EndStands : Stmts → End → Type 0
    EndStands body (Pick picker arms) = HeadStands body picker arms × TreesStand arms
    EndStands body (Jump to) = Stands body
    EndStands body Return = Stands body
    EndStands body Stop = Stands body
    EndStands body Dead = Stands body

    pub TreesStand : Trees → Type 0
    TreesStand no_more = Unit {0}
    TreesStand (more first others) = TreeStands first × TreesStand others

  pub followed-stands : (a b : Stmts) → Stands a → Stands b → Stands (followed a b)
  followed-stands none b h k = k
  followed-stands (also s none) b h k = (h.0, inl k)
  followed-stands (also s (also t ss)) b h k = (
    h.0,
    elim h.1 [
      | inl x ↦ inl (followed-stands (also t ss) b x k)
      | inr y ↦ inr (y.0, y.1, y.2, followed-stands ss b y.3 k)
    ],
  )

  -- what stands before a choice by a test stands by itself
  before-if : (test : Test) (arms : Arms) (body : Stmts) → Stands (followed body (alone (Choose (If test) arms))) → Stands body × TestFits naming kinds procedures range test
  before-if test arms none h = (tt, h.0.0)
  before-if test arms (also s none) h = elim h.1 [
    | inl x ↦ ((h.0, inl tt), x.0.0)
    | inr y ↦ absurd y.2
  ]
  before-if test arms (also s (also t ss)) h = elim h.1 [
    | inl x ↦ (let r = before-if test arms (also t ss) x in ((h.0, inl r.0), r.1))
    | inr y ↦ (let r = before-if test arms ss y.3 in ((h.0, inr (y.0, y.1, y.2, r.0)), r.1))
  ]

  -- Join.

  arm-stands : (body : Stmts) (end : End) → (leaf_targets end ≡ Several → ⊥) → EndStands body end → Stands (followed body (last_stmts end))
  arm-stands body (Pick picker arms) n h = absurd (n refl)
  arm-stands body (Jump to) n h = followed-stands body none h tt
  arm-stands body Return n h = followed-stands body none h tt
  arm-stands body Stop n h = followed-stands body (alone StopRun) h (tt, inl tt)
  arm-stands body Dead n h = followed-stands body none h tt

  arms-stmts-stand : (arms : Trees) → (arms_targets arms ≡ Several → ⊥) → TreesStand arms → Arms-stand (arms_stmts arms)
  arms-stmts-stand no_more n k = tt
  arms-stmts-stand (more (tree body end) others) n k = (
    arm-stands body end (λ e. n (ap (λ t. both_targets t (arms_targets others)) e)) k.0,
    arms-stmts-stand others (λ e. n (ap (both_targets (leaf_targets end)) e ∙ last-several (leaf_targets end))) k.1,
  )

  join-by-stands : (body : Stmts) (picker : Picker) (arms : Trees) (targets : Targets) → arms_targets arms ≡ targets → HeadStands body picker arms → TreesStand arms → TreeStands (join_by body picker arms targets)
  join-by-stands body picker arms NoTarget e h k = h (arms_stmts arms) (arms-become arms) (arms-stmts-stand arms (λ s. (let x : NoTarget ≡ Several = sym e ∙ s in cc)) k)
  join-by-stands body picker arms (Only (ToLabel to)) e h k = h (arms_stmts arms) (arms-become arms) (arms-stmts-stand arms (λ s. (let x : Only (ToLabel to) ≡ Several = sym e ∙ s in cc)) k)
  join-by-stands body picker arms (Only Back) e h k = h (arms_stmts arms) (arms-become arms) (arms-stmts-stand arms (λ s. (let x : Only Back ≡ Several = sym e ∙ s in cc)) k)
  join-by-stands body picker arms Several e h k = (h, k)

  mutual
    pub joined-stands : (t : Tree) → TreeStands t → TreeStands (joined t)
    joined-stands (tree body end) = λ h. join-end-stands body end h

    join-end-stands : (body : Stmts) (end : End) → EndStands body end → TreeStands (join_end body end)
    join-end-stands body (Pick picker arms) = λ h.
        join-by-stands body picker (joined_arms arms) (arms_targets (joined_arms arms)) refl (λ news m s. h.0 news (joined-becomes arms news m) s) (joined-arms-stand arms h.1)
    join-end-stands body (Jump to) = λ h. h
    join-end-stands body Return = λ h. h
    join-end-stands body Stop = λ h. h
    join-end-stands body Dead = λ h. h

    joined-arms-stand : (arms : Trees) → TreesStand arms → TreesStand (joined_arms arms)
    joined-arms-stand no_more = λ h. tt
    joined-arms-stand (more first others) = λ h. (joined-stands first h.0, joined-arms-stand others h.1)

  -- Inline.

  behind-end : (body nested : Stmts) (end : End) → Stands body → EndStands nested end → EndStands (followed body nested) end
  behind-end body nested (Pick picker arms) h k = (
    λ news e s. subst Stands (sym (assoc body nested (alone (Choose picker news)))) (followed-stands body (followed nested (alone (Choose picker news))) h (k.0 news e s)),
    k.1,
  )
  behind-end body nested (Jump to) h k = followed-stands body nested h k
  behind-end body nested Return h k = followed-stands body nested h k
  behind-end body nested Stop h k = followed-stands body nested h k
  behind-end body nested Dead h k = followed-stands body nested h k

  behind-tree : (body : Stmts) (node : Tree) → Stands body → TreeStands node → TreeStands (tree (followed body (body_of node)) (end_of node))
  behind-tree body (tree nested end) h k = behind-end body nested end h k

  module _ (label : Label) (node : Tree) (node_stands : TreeStands node) where
    mutual
      inlined-stands : (t : Tree) → TreeStands t → TreeStands (inlined label node t)
      inlined-stands (tree body end) = λ h. inline-end-stands body end h

      inline-end-stands : (body : Stmts) (end : End) → EndStands body end → TreeStands (inline_end label node body end)
      inline-end-stands body (Pick picker arms) = λ h. (λ news m s. h.0 news (inlined-becomes label node arms news m) s, inlined-arms-stand arms h.1)
      inline-end-stands body (Jump to) = λ h. elim (to == label) as (λ b. TreeStands (if b then tree (followed body (body_of node)) (end_of node) else tree body (Jump to))) [
        | true ↦ behind-tree body node h node_stands
        | false ↦ h
      ]
      inline-end-stands body Return = λ h. h
      inline-end-stands body Stop = λ h. h
      inline-end-stands body Dead = λ h. h

      inlined-arms-stand : (arms : Trees) → TreesStand arms → TreesStand (inlined_arms label node arms)
      inlined-arms-stand no_more = λ h. tt
      inlined-arms-stand (more first others) = λ h. (inlined-stands first h.0, inlined-arms-stand others h.1)

  -- Loops.

  set-stands : (cell value : ℕ) → kinds.sets range cell value ≡ true → Stands (set_to cell value)
  set-stands cell value is = (is, inl tt)

  leaving-stands : (keeper : Keeper) (cell : ℕ) → (keeper ≡ Flagged → kinds.sets range cell 1 ≡ true) → Stands (leaving keeper cell)
  leaving-stands Flagged cell sets = set-stands cell 1 (sets refl)
  leaving-stands Endless cell sets = tt

  module _ (keeper : Keeper) (cell : ℕ) (label : Label) (sets : keeper ≡ Flagged → kinds.sets range cell 1 ≡ true) where
    mutual
      flat-stands : (t : Tree) → TreeStands t → Stands (flat keeper cell label t)
      flat-stands (tree body end) = λ h. flat-end-stands body end h

      flat-end-stands : (body : Stmts) (end : End) → EndStands body end → Stands (followed body (flat_end keeper cell label end))
      flat-end-stands body (Pick picker arms) = λ h. h.0 (flat_arms keeper cell label arms) (flat-becomes keeper cell label arms) (flat-arms-stand arms h.1)
      flat-end-stands body (Jump to) = λ h. elim (to == label) as (λ b. Stands (followed body (if b then none else leaving keeper cell))) [
        | true ↦ followed-stands body none h tt
        | false ↦ followed-stands body (leaving keeper cell) h (leaving-stands keeper cell sets)
      ]
      flat-end-stands body Return = λ h. followed-stands body (leaving keeper cell) h (leaving-stands keeper cell sets)
      flat-end-stands body Stop = λ h. followed-stands body (alone StopRun) h (tt, inl tt)
      flat-end-stands body Dead = λ h. followed-stands body none h tt

      flat-arms-stand : (arms : Trees) → TreesStand arms → Arms-stand (flat_arms keeper cell label arms)
      flat-arms-stand no_more = λ h. tt
      flat-arms-stand (more first others) = λ h. (flat-stands first h.0, flat-arms-stand others h.1)

  either-right : (a b : Bool) → b ≡ true → either a b ≡ true
  either-right true b is = refl
  either-right false b is = is

  -- what stands for a return is needed only where there is one
  module _ (jump : Label → Stmts) (return : Stmts) (jumps : (to : Label) → Stands (jump to)) where
    mutual
      stated-stands : (t : Tree) → (tree_returns t ≡ true → Stands return) → TreeStands t → Stands (stated_tree none_left_out jump return t)
      stated-stands (tree body end) = λ r h. stated-end-stands body end r h

      stated-end-stands : (body : Stmts) (end : End) → (end_returns end ≡ true → Stands return) → EndStands body end → Stands (followed body (stated_end none_left_out jump return end))
      stated-end-stands body (Pick picker arms) = λ r h. h.0 (stated_arms none_left_out jump return picker 0 arms) (stated-becomes jump return picker 0 arms) (stated-arms-stand picker 0 arms r h.1)
      stated-end-stands body (Jump to) = λ r h. followed-stands body (jump to) h (jumps to)
      stated-end-stands body Return = λ r h. followed-stands body return h (r refl)
      stated-end-stands body Stop = λ r h. followed-stands body (alone StopRun) h (tt, inl tt)
      stated-end-stands body Dead = λ r h. followed-stands body none h tt

      stated-arms-stand : (picker : Picker) (k : ℕ) (arms : Trees) → (trees_return arms ≡ true → Stands return) → TreesStand arms → Arms-stand (stated_arms none_left_out jump return picker k arms)
      stated-arms-stand picker k no_more = λ r h. tt
      stated-arms-stand picker k (more first others) = λ r h. (
        stated-stands first (λ is. r (ap (λ b. either b (trees_return others)) is)) h.0,
        stated-arms-stand picker (suc k) others (λ is. r (either-right (tree_returns first) (trees_return others) is)) h.1,
      )

  -- a body before a live leaf
  live-stands : (body : Stmts) (live : Live) → Stands body → TreeStands (tree body (end_at live))
  live-stands body (ToLabel to) h = h
  live-stands body Back h = h

  of-live : (body : Stmts) (live : Live) → TreeStands (tree body (end_at live)) → Stands body
  of-live body (ToLabel to) h = h
  of-live body Back h = h

  two-empty : Arms
  two-empty = given none (given none done)

  turned-fits : (turned : Bool) (test : Test) → TestFits naming kinds procedures range test → TestFits naming kinds procedures range (turned_test turned test)
  turned-fits false test h = h
  turned-fits true test h = h

  tested-stands : (after turned : Bool) (test : Test) (label : Label) (body : Stmts) (live : Live) → TreeStands (tested_node after turned test label body (end_at live)) →
      TestFits naming kinds procedures range test × Stands body
  tested-stands false false test label body live h = ((h.0 (given none (given none done)) (record { as_many = refl; dead = λ d. tt }) (tt, (tt, tt))).0.0, h.1.1.0)
  tested-stands false true test label body live h = ((h.0 (given none (given none done)) (record { as_many = refl; dead = λ d. tt }) (tt, (tt, tt))).0.0, h.1.0)
  tested-stands true false test label body live h = (let r = before-if test (given none (given none done)) body (h.0 (given none (given none done)) (record { as_many = refl; dead = λ d. tt }) (tt, (tt, tt))) in (r.1, r.0))
  tested-stands true true test label body live h = (let r = before-if test (given none (given none done)) body (h.0 (given none (given none done)) (record { as_many = refl; dead = λ d. tt }) (tt, (tt, tt))) in (r.1, r.0))

  -- Graphs.

  abbrev pub AllStand : List Node → Type 0
  AllStand [] = Unit {0}
  AllStand (node ∷ nodes) = TreeStands node.tree × AllStand nodes

  pub at-stands : (nodes : List Node) (label : Label) → AllStand nodes → TreeStands (tree_in nodes label)
  at-stands [] label h = tt
  at-stands (node ∷ nodes) label h = elim (node.label == label) as (λ b. TreeStands (if b then node.tree else tree_in nodes label)) [ true ↦ h.0 | false ↦ at-stands nodes label h.1 ]

  with-stands : (label : Label) (t : Tree) → TreeStands t → (nodes : List Node) → AllStand nodes → AllStand (with_tree label t nodes)
  with-stands label t k [] h = tt
  with-stands label t k (node ∷ nodes) h =
      elim (node.label == label) as (λ b. AllStand (if b then (let first : Node = record { label = node.label; tree = t } in first ∷ with_tree label t nodes) else node ∷ with_tree label t nodes)) [
        | true ↦ (k, with-stands label t k nodes h.1)
        | false ↦ (h.0, with-stands label t k nodes h.1)
      ]

  each-stands : (f : Tree → Tree) → ((t : Tree) → TreeStands t → TreeStands (f t)) → (nodes : List Node) → AllStand nodes → AllStand (each_tree f nodes)
  each-stands f k [] h = tt
  each-stands f k (node ∷ nodes) h = (k node.tree h.0, each-stands f k nodes h.1)

  without-stands : (label : Label) (nodes : List Node) → AllStand nodes → AllStand (without label nodes)
  without-stands label [] h = tt
  without-stands label (node ∷ nodes) h = elim (node.label == label) as (λ b. AllStand (if b then without label nodes else node ∷ without label nodes)) [
    | true ↦ without-stands label nodes h.1
    | false ↦ (h.0, without-stands label nodes h.1)
  ]

  abbrev pub GraphStands : Graph → Type 0
  GraphStands graph = AllStand graph.nodes

  join-graph-stands : (graph : Graph) → GraphStands graph → GraphStands (join_graph graph)
  join-graph-stands graph h = each-stands joined joined-stands graph.nodes h

  inline-graph-stands : (label : Label) (graph : Graph) → GraphStands graph → GraphStands (inline_graph label graph)
  inline-graph-stands label graph h =
      each-stands (inlined label (tree_in graph.nodes label)) (inlined-stands label (tree_in graph.nodes label) (at-stands graph.nodes label h)) (without label graph.nodes) (without-stands label graph.nodes h)

  tested-form-stands : (label : Label) (live : Live) (graph : Graph) (form : Form) → form_of label live (tree_in graph.nodes label) ≡ Some form → GraphStands graph → GraphStands (close_form label live graph (Some form))
  tested-form-stands label live graph form e h =
      let t = tree_in graph.nodes label in
      let k = tested-stands form.after form.turned form.test label form.body live (subst TreeStands (form-is label live t form e) (at-stands graph.nodes label h)) in
      let loop = alone (Loop (Until form.after (turned_test form.turned form.test)) (Nested form.body)) in
      with-stands label (tree loop (end_at live)) (live-stands loop live ((turned-fits form.turned form.test k.0, inl k.1), inl tt)) graph.nodes h

  -- a loop with a flag
  flag-stands : (label : Label) (live : Live) (graph : Graph) → let cell = count graph.added in (kinds.sets range cell 0 ≡ true) × (kinds.sets range cell 1 ≡ true) × (kinds.compares range cell 1 ≡ true) → GraphStands graph → GraphStands (close_form label live graph None)
  flag-stands label live graph served h =
      let cell = count graph.added in
      let t = tree_in graph.nodes label in
      let loop = also (Do (Set cell 0)) (also (Loop (Until false (Is cell 1)) (Nested (flat Flagged cell label t))) none) in
      with-stands label (tree loop (end_at live))
      (live-stands loop live (served.0, inl ((served.2, inl (flat-stands Flagged cell label (λ e. served.1) t (at-stands graph.nodes label h))), inl tt))) graph.nodes h

  endless-stands : (label : Label) (graph : Graph) → kinds.compares range (count graph.added) 1 ≡ true → GraphStands graph → GraphStands (close_by label graph NoTarget)
  endless-stands label graph compares h =
      let cell = count graph.added in
      let t = tree_in graph.nodes label in
      with-stands label (tree (also (Loop (Until false (Is cell 1)) (Nested (flat Endless cell label t))) none) Dead)
      ((compares, inl (flat-stands Endless cell label (λ e. absurd (let x : Endless ≡ Flagged = e in cc)) t (at-stands graph.nodes label h))), inl tt) graph.nodes h

  bare-stands : (targets : List Label) (returns : Bool) → TreesStand (bare targets returns)
  bare-stands [] false = tt
  bare-stands [] true = (tt, tt)
  bare-stands (first ∷ others) returns = (tt, bare-stands others returns)

  -- 0 to this number may be moved to the cell
  abbrev SetsTo : ℕ → ℕ → Type 0
  SetsTo cell most = (value : ℕ) → value ≤ most → kinds.sets range cell value ≡ true

  exit-jump-stands : (exit : ℕ) (label : Label) (targets : List Label) (arms : ℕ) → length_of targets ≤ arms → SetsTo exit arms → (to : Label) → Stands (exit_jump exit label targets to)
  exit-jump-stands exit label targets arms few sets to =
      let n = number-most targets to in
      elim (to == label) as (λ b. Stands (if b then none else set_to exit (number_in targets to))) [
        | true ↦ tt
        | false ↦ set-stands exit (number_in targets to) (sets (number_in targets to) (omega (arith, n, few)))
      ]

  exits-stands : (label : Label) (graph : Graph) → let exit = count graph.added in let arms = exit_arms label (tree_in graph.nodes label) in
      kinds.aboves range exit ≡ true → SetsTo exit arms → kinds.chooses range exit arms ≡ true → GraphStands graph → GraphStands (exits_graph label graph)
  exits-stands label graph above sets chooses h =
      let exit = count graph.added in
      let t = tree_in graph.nodes label in
      let targets = targets_of label t in
      let arms = exit_arms label t in
      let few = bare-least targets (tree_returns t) in
      let turn = stated-stands (exit_jump exit label targets) (set_to exit (suc (length_of targets))) (exit-jump-stands exit label targets arms few sets) t
      (λ is. set-stands exit (suc (length_of targets)) (sets (suc (length_of targets)) (bare-returns targets (tree_returns t) is))) (at-stands graph.nodes label h) in
      with-stands label (with_exits none_left_out exit label t) (
        (λ news e s. (sets 0 (omega arith), inl ((above, inl turn), inr (exit, refl, (refl, subst (λ n. kinds.chooses range exit n ≡ true) (sym e.as_many) chooses, s), tt)))),
        bare-stands targets (tree_returns t),
      ) graph.nodes h

  node-arms-stand : (state : ℕ) (labels : List Label) → SetsTo state (length_of labels) → (nodes : List Node) → AllStand nodes → Arms-stand (node_arms none_left_out state labels nodes)
  node-arms-stand state labels sets [] h = tt
  node-arms-stand state labels sets (node ∷ nodes) h = (
    stated-stands (state_jump state labels) (set_to state 0) (λ to. set-stands state (number_in labels to) (sets (number_in labels to) (number-most labels to))) node.tree (λ is. set-stands state 0 (sets 0 (omega arith))) h.0,
    node-arms-stand state labels sets nodes h.1,
  )

  return-stands : (body : Stmts) (returns : Bool) → Stands body → TreeStands (tree body (return_if returns))
  return-stands body true h = h
  return-stands body false h = h

  dispatch-stands : (graph : Graph) → let state = count graph.added in kinds.compares range state 0 ≡ true → SetsTo state (size graph.nodes) → kinds.chooses range state (size graph.nodes) ≡ true → GraphStands graph → GraphStands (dispatch_graph graph)
  dispatch-stands graph compares sets chooses h =
      let state = count graph.added in
      let labels = labels_of graph.nodes in
      let arms = node_arms none_left_out state labels graph.nodes in
      let first = number_in labels graph.entry in
      let as_many = subst (SetsTo state) (sym (labels-size graph.nodes)) sets in
      let choice = subst (λ n. kinds.chooses range state n ≡ true) (sym (node-arms-count state labels graph.nodes)) chooses in (
        return-stands (also (Do (Set state first)) (also (Loop (Until false (Is state 0)) (Nested (also (Choose (ByCell state) arms) none))) none)) (some_returns graph.nodes)
            (as_many first (number-most labels graph.entry), inl ((compares, inr (state, refl, (refl, choice, node-arms-stand state labels as_many graph.nodes h))), inl tt)),
        tt,
      )

  -- All rules in their order.

  -- its jumps are to its nodes, of which there are so many at most
  abbrev pub Kept : ℕ → Graph → Type 0
  Kept nodes graph = IsClosed graph × (size graph.nodes ≤ nodes)

  -- these cells and this body are of the closed graph
  module _ (cells : List Added) (body : Stmts) (most_nodes : ℕ) (all : (cell : ℕ) (kind : Added) → kind_at cells cell ≡ Some kind → KindServed kinds range body (suc most_nodes) cell kind)
      (first_is : (cell arms : ℕ) → stmts_choose cell arms body ≡ true → stmts_arms cell body ≡ Some arms) where
    abbrev pub Leading : Graph → Type 0
    Leading graph = Leads cells body graph

    form-stands : (label : Label) (live : Live) (graph : Graph) (form : Option Form) → form_of label live (tree_in graph.nodes label) ≡ form → Leading (close_form label live graph form) → GraphStands graph → GraphStands (close_form label live graph form)
    form-stands label live graph (Some form) e leads h = tested-form-stands label live graph form e h
    form-stands label live graph None e leads h = flag-stands label live graph (all (count graph.added) Flag (leads.0 (count graph.added) Flag (kind-next graph.added Flag))) h

    close-by-stands : (label : Label) (graph : Graph) (targets : Targets) → Leading (close_by label graph targets) → GraphStands graph → GraphStands (close_by label graph targets)
    close-by-stands label graph NoTarget leads h = endless-stands label graph (all (count graph.added) Never (leads.0 (count graph.added) Never (kind-next graph.added Never))) h
    close-by-stands label graph (Only live) leads h = form-stands label live graph (form_of label live (tree_in graph.nodes label)) refl leads h
    close-by-stands label graph Several leads h = h

    inline-step-stands : (graph : Graph) (found : Option Label) → GraphStands graph → GraphStands (stepped graph (inline_step graph found))
    inline-step-stands graph None h = h
    inline-step-stands graph (Some label) h = join-graph-stands (inline_graph label graph) (inline-graph-stands label graph h)

    loop-step-stands : (graph : Graph) (found : Option Label) → Leading (stepped graph (loop_step graph found)) → GraphStands graph → GraphStands (stepped graph (loop_step graph found))
    loop-step-stands graph None leads h = inline-step-stands graph (lowest (inlines graph) graph.nodes) h
    loop-step-stands graph (Some label) leads h = close-by-stands label graph (other_targets label (tree_in graph.nodes label)) leads h

    -- the new choice stands in the body
    exit-chooses : (label : Label) (graph : Graph) → Numbered (labels_of graph.nodes) label → Leading (join_graph (exits_graph label graph)) → stmts_choose (count graph.added) (exit_arms label (tree_in graph.nodes label)) body ≡ true
    exit-chooses label graph there leads =
        let exit = count graph.added in
        let t = tree_in graph.nodes label in
        let arms = exit_arms label t in
        leads.1 exit arms (join-graph-some (Chooses exit arms) (ArmsChoose exit arms) (Picks exit arms) (finds exit arms) (exits_graph label graph) (put-some (Chooses exit arms) (ArmsChoose exit arms) (Picks exit arms) (finds exit arms) label (with_exits none_left_out exit label t) (inr (inl (picks-self exit arms))) graph.nodes there))

    exits-step-stands : (graph : Graph) (found : Option Label) → lowest (has_exits graph) graph.nodes ≡ found → Kept most_nodes graph → Leading (stepped graph (exits_step graph found)) → GraphStands graph → GraphStands (stepped graph (exits_step graph found))
    exits-step-stands graph None e k leads h = h
    exits-step-stands graph (Some label) e k leads h =
        let exit = count graph.added in
        let t = tree_in graph.nodes label in
        let served = all exit Exit (leads.0 exit Exit (kind-next graph.added Exit)) in
        let targets = targets-most graph label k.0 in
        let more_arms = bare-most (targets_of label t) (tree_returns t) in
        let few = k.1 in
        let choice = served.1 (exit_arms label t) (first_is exit (exit_arms label t) (exit-chooses label graph (lowest-in (has_exits graph) graph.nodes label e) leads)) (omega (arith, targets, more_arms, few)) in
        join-graph-stands (exits_graph label graph) (exits-stands label graph served.0 choice.0 choice.1 h)

    or-exits-stands : (graph : Graph) (next : Option Graph) → Kept most_nodes graph → (Leading (stepped graph next) → GraphStands (stepped graph next)) → Leading (stepped graph (or_exits graph next)) → GraphStands graph → GraphStands (stepped graph (or_exits graph next))
    or-exits-stands graph None k s leads h = exits-step-stands graph (lowest (has_exits graph) graph.nodes) refl k leads h
    or-exits-stands graph (Some next) k s leads h = s leads

    reduced-stands : (most : ℕ) (graph : Graph) → IsClosed graph → Leading (reduced most graph) → GraphStands graph → GraphStands (reduced most graph)
    reduced-stands zero graph closed leads h = h
    reduced-stands (suc most) graph closed leads h =
        let next = stepped graph (rule_step graph) in
        let next_closed = rule-step-closed graph closed in
        reduced-stands most next next_closed leads (loop-step-stands graph (lowest (loops graph) graph.nodes) (reduced-leads cells body most next next_closed leads) h)

    by-all-stands : (most : ℕ) (graph : Graph) → Kept most_nodes graph → Leading (reduced_by_all most graph) → GraphStands graph → GraphStands (reduced_by_all most graph)
    by-all-stands zero graph k leads h = h
    by-all-stands (suc most) graph k leads h =
        let few = k.1 in
        let fewer = step-fewer graph in
        let next = stepped graph (any_step graph) in
        let next_closed = any-step-closed graph k.0 in
        by-all-stands most next (next_closed, omega (arith, few, fewer)) leads
        (or-exits-stands graph (rule_step graph) k (λ l. loop-step-stands graph (lowest (loops graph) graph.nodes) l h) (by-all-leads cells body most next next_closed leads) h)

    rest-dispatched : (graph : Graph) → size graph.nodes ≤ most_nodes → Leading (dispatch_graph graph) → GraphStands graph → GraphStands (dispatch_graph graph)
    rest-dispatched graph few leads h =
        let state = count graph.added in
        let n = size graph.nodes in
        let served = all state State (leads.0 state State (kind-next graph.added State)) in
        let choice = served.1 n (first_is state n (leads.1 state n (dispatch-own graph))) (omega (arith, few)) in
        dispatch-stands graph served.0 choice.0 choice.1 h

    rest-stands : (graph : Graph) → size graph.nodes ≤ most_nodes → Leading (dispatch_rest graph) → GraphStands graph → GraphStands (dispatch_rest graph)
    rest-stands graph few leads h = elim (is_above (size graph.nodes - 1)) as (λ b. Leading (if b then dispatch_graph graph else graph) → GraphStands (if b then dispatch_graph graph else graph)) [
      | true ↦ λ l. rest-dispatched graph few l h
      | false ↦ λ l. h
    ] leads

    pub closed-stands : (graph : Graph) → Kept most_nodes graph → Leading (closed_graph graph) → GraphStands graph → GraphStands (closed_graph graph)
    closed-stands graph k leads h =
        let most = 3 * size graph.nodes in
        let few = k.1 in
        let a = shaped-fewer graph in
        let b = by-all-fewer most (shaped graph) in
        let shaped_closed = shaped-closed graph k.0 in
        let last = rest-leads cells body (reduced_by_all most (shaped graph)) leads in
        let middle = by-all-leads cells body most (shaped graph) shaped_closed last in
        rest-stands (reduced_by_all most (shaped graph)) (omega (arith, few, a, b)) leads
        (by-all-stands most (shaped graph) (shaped_closed, omega (arith, few, a)) last (reduced-stands most (join_graph graph) (join-closed graph k.0) middle (join-graph-stands graph h)))
