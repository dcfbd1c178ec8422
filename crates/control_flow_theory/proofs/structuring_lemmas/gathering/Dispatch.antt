-- The flag, the exits and the dispatch each gather nodes into one loop.
use Rattle.std.proofs.Common.{◌≡◌, ℕ, zero, suc, ◌-◌, Bool, true, false, if◌then◌else◌, List, [], ◌∷◌, Some, refl, ap, sym, ◌∙◌, subst, arith, ◌⊎◌, inl, inr}
use Rattle.std.proofs.lemmas.Bool.Decides.{eqb_tells}
use Rattle.control_flow_theory.specs.language.Language.{Test, Is, Above, Picker, ByCell, Choose, Stmts, none, also, Arms, given, missing, Range}
use Rattle.control_flow_theory.specs.language.Items.{Item, Do, before, before_arm}
use Rattle.control_flow_theory.specs.semantics.Graph.{Label, Tree, tree, End, Pick, Jump, Return, Stop, Dead, Trees, no_more, more, Family}
use Rattle.control_flow_theory.specs.semantics.Walk.{tree_at}
use Rattle.control_flow_theory.specs.graph_rules.Joins.{JumpsEnd, JumpsTree, JumpsTrees}
use Rattle.control_flow_theory.specs.structuring.Gathers.{OnCell, says, Leads, GathersEnd, GathersTree, GathersArms, loop_from, Gathered}
use Rattle.control_flow_theory.specs.graph_rules.Shapes.{followed}
use Rattle.control_flow_theory.specs.graph_rules.Reduced.{Node}
use Rattle.control_flow_theory.specs.structuring.Dispatches.{arm_or_none, stated_end, stated_tree, stated_arms, LeavesEnd, LeavesTree, LeavesTrees, either, end_returns, tree_returns, trees_return, one_further, number_in, Numbered, set_to, flag_jump, ClosedByFlag, length_of, exit_jump, bare, Exited, labels_of, some_returns, state_jump, node_arms, return_if, dispatched, AreNodes, Dispatched}
use Rattle.control_flow_theory.proofs.semantics_lemmas.Ranges.{range-tells}

before-followed : (one two : Stmts) (rest : List Item) → before (followed one two) rest ≡ before one (before two rest)
before-followed none two rest = refl
before-followed (also stmt stmts) two rest = ap (λ r. Do stmt ∷ r) (before-followed stmts two rest)

arm-or-none : (b : Bool) (arm : Stmts) (others : Arms) → (arm_or_none b arm others ≡ given arm others) ⊎ ((arm_or_none b arm others ≡ missing others) × (arm ≡ none))
arm-or-none false arm others = inl refl
arm-or-none true none others = inr (refl, refl)
arm-or-none true (also stmt stmts) others = inl refl

-- The statements that stand for a tree gather it where those of its leaves do.
module _ (cell : ℕ) (test : Test) (out : End) (inside : ℕ → Label → Type 0) (reached : Label → Type 0) (now : ℕ) (left_out : Picker → ℕ → Bool) (jump : Label → Stmts) (return : Stmts) (P : Label → Type 0) (Q : Type 0)
    (jumps : (to : Label) → P to → GathersEnd cell test out inside reached now (Jump to) (before (jump to) []))
    (returns : Q → GathersEnd cell test out inside reached now Return (before return [])) where
  mutual
    stated-end : (end : End) → LeavesEnd P Q end → GathersEnd cell test out inside reached now end (before (stated_end left_out jump return end) [])
    stated-end (Pick picker arms) = λ l. (stated_arms left_out jump return picker 0 arms, refl, stated-arms picker 0 arms l)
    stated-end (Jump to) = λ l. jumps to l
    stated-end Return = λ l. returns l
    stated-end Stop = λ l. refl
    stated-end Dead = λ l. refl

    pub stated-tree : (t : Tree) → LeavesTree P Q t → GathersTree cell test out inside reached now t (before (stated_tree left_out jump return t) [])
    stated-tree (tree body end) = λ l. (before (stated_end left_out jump return end) [], before-followed body (stated_end left_out jump return end) [], stated-end end l)

    stated-arms : (picker : Picker) (k : ℕ) (arms : Trees) → LeavesTrees P Q arms → GathersArms cell test out inside reached now arms (stated_arms left_out jump return picker k arms)
    stated-arms picker k no_more = λ l. refl
    stated-arms picker k (more first others) = λ l. (
      stated_tree left_out jump return first,
      stated_arms left_out jump return picker (suc k) others,
      arm-or-none (left_out picker k) (stated_tree left_out jump return first) (stated_arms left_out jump return picker (suc k) others),
      stated-tree first l.0,
      stated-arms picker (suc k) others l.1,
    )

-- any jump will do where any label does
module _ (P : Label → Type 0) (all : (l : Label) → P l) where
  mutual
    jumps-any : (end : End) → JumpsEnd P end
    jumps-any (Pick picker arms) = jumps-arms arms
    jumps-any (Jump to) = all to
    jumps-any Return = tt
    jumps-any Stop = tt
    jumps-any Dead = tt

    pub jumps-all : (t : Tree) → JumpsTree P t
    jumps-all (tree body end) = jumps-any end

    jumps-arms : (arms : Trees) → JumpsTrees P arms
    jumps-arms no_more = tt
    jumps-arms (more first others) = (jumps-all first, jumps-arms others)

-- The families in which one node has become a loop that begins with 0 in the cell.
module _ (range : Range) (label : Label) (cell : ℕ) (test : Test) (body : Stmts) (out : End) (g h : Family) where
  abbrev pub Anywhere : Range → Label → Type 0
  Anywhere r l = Unit {0}

  abbrev pub Only : ℕ → Label → Type 0
  Only number l = (number ≡ 0) × (l ≡ label)

  only-nodes : h.node range label ≡ loop_from cell test body out 0 → ((r : Range) (l : Label) → ((r ≡ range) × (l ≡ label) → ⊥) → h.node r l ≡ g.node r l) → (r : Range) (l : Label) →
      ((h.node r l ≡ g.node r l) × JumpsTree (Anywhere r) (g.node r l)) ⊎ ((r ≡ range) × (number : ℕ) × Only number l × (h.node r l ≡ loop_from cell test body out number))
  only-nodes node others r l =
      elim (range-tells r range) [
        | inl e ↦ elim (eqb_tells l label) [
          | inl f ↦ inr (e.1, 0, (refl, f.1), subst (λ x. h.node x l ≡ loop_from cell test body out 0) (sym e.1) (subst (λ y. h.node range y ≡ loop_from cell test body out 0) (sym f.1) node))
          | inr f ↦ inl (others r l (λ is. f.1 is.1), jumps-all (Anywhere r) (λ x. tt) (g.node r l))
        ]
        | inr e ↦ inl (others r l (λ is. e.1 is.0), jumps-all (Anywhere r) (λ x. tt) (g.node r l))
      ]

  pub only-gathers : ((r : Range) → h.entry r ≡ g.entry r) → h.node range label ≡ loop_from cell test body out 0 → ((r : Range) (l : Label) → ((r ≡ range) × (l ≡ label) → ⊥) → h.node r l ≡ g.node r l) →
      OnCell cell test → says test 0 ≡ false → GathersTree cell test out Only (Anywhere range) 0 (g.node range label) (before body []) → Gathered Anywhere Only range cell test body out g h
  only-gathers entries node others on_cell goes j = record {
    entries = entries;
    enters = λ r. tt;
    on_cell = on_cell;
    nodes = λ r l there. only-nodes node others r l;
    turns = λ number l ins. (
      ap (says test) ins.0 ∙ goes,
      before body [],
      inl refl,
      subst (λ n. GathersTree cell test out Only (Anywhere range) n (g.node range l) (before body [])) (sym ins.0)
          (subst (λ y. GathersTree cell test out Only (Anywhere range) 0 (g.node range y) (before body [])) (sym ins.1) j),
    );
  }

-- A loop with a flag.
module _ (left_out : Picker → ℕ → Bool) (range : Range) (label : Label) (flag : ℕ) (out : End) (g h : Family) (flagged_is : ClosedByFlag left_out range label flag out g h) where
  abbrev pub flag_body : Stmts
  flag_body = stated_tree left_out (flag_jump flag label) (set_to flag 1) (g.node range label)

  abbrev pub FlagOnly : ℕ → Label → Type 0
  FlagOnly = Only range label flag (Is flag 1) flag_body out g h

  abbrev pub FlagAnywhere : Range → Label → Type 0
  FlagAnywhere = Anywhere range label flag (Is flag 1) flag_body out g h

  flag-jumps : (to : Label) → (to ≡ label) ⊎ (out ≡ Jump to) → GathersEnd flag (Is flag 1) out FlagOnly (FlagAnywhere range) 0 (Jump to) (before (flag_jump flag label to) [])
  flag-jumps to p =
      elim (eqb_tells to label) [
        | inl e ↦ inl (0, (refl, e.1), inr (refl, ap (λ b. before (if b then none else set_to flag 1) []) e.0))
        | inr e ↦ elim p [
          | inl is ↦ absurd (e.1 is)
          | inr is ↦ inr (1, tt, ap (λ b. before (if b then none else set_to flag 1) []) e.0, (refl, inl is))
        ]
      ]

  pub flag-gathers : Gathered FlagAnywhere FlagOnly range flag (Is flag 1) flag_body out g h
  flag-gathers =
      only-gathers range label flag (Is flag 1) flag_body out g h flagged_is.entries flagged_is.node flagged_is.others refl refl
      (stated-tree flag (Is flag 1) out FlagOnly (FlagAnywhere range) 0 left_out (flag_jump flag label) (set_to flag 1) (λ to. (to ≡ label) ⊎ (out ≡ Jump to)) (out ≡ Return)
      flag-jumps (λ q. (1, refl, (refl, inl q))) (g.node range label) flagged_is.leaves)

-- A loop with several exits.

none-numbered : {A : Type 0} (n : ℕ) → 0 ≡ suc n → A
none-numbered n e = absurd (omega (arith, e))

less-one : (x n : ℕ) → x ≡ suc n → x - 1 ≡ n
less-one x n e = omega (arith, e)

one-less : (m n : ℕ) → suc (suc m) ≡ suc n → n ≡ suc m
one-less m n e = omega (arith, e)

-- the target with this number is the one picked by it
bare-at : (targets : List Label) (returns : Bool) (to n : ℕ) → number_in targets to ≡ suc n → tree_at (bare targets returns) n ≡ Some (tree none (Jump to))
bare-at [] returns to n e = none-numbered n e
bare-at (first ∷ others) returns to n e =
    elim (eqb_tells first to) [
      | inl f ↦
          let g : 1 ≡ suc n = sym (ap (λ b. if b then 1 else one_further (number_in others to)) f.0) ∙ e in
          let z : n ≡ 0 = omega (arith, g) in
          ap (λ k. tree_at (more (tree none (Jump first)) (bare others returns)) k) z ∙ ap (λ l. Some (tree none (Jump l))) f.1
      | inr f ↦
          let g : one_further (number_in others to) ≡ suc n = sym (ap (λ b. if b then 1 else one_further (number_in others to)) f.0) ∙ e in
          further-at (λ m is. bare-at others returns to m is) (number_in others to) refl g
    ]
  where
    further-at : ((m : ℕ) → number_in others to ≡ suc m → tree_at (bare others returns) m ≡ Some (tree none (Jump to))) → (m : ℕ) → number_in others to ≡ m → one_further m ≡ suc n → tree_at (more (tree none (Jump first)) (bare others returns)) n ≡ Some (tree none (Jump to))
    further-at next zero is g = none-numbered n g
    further-at next (suc m) is g = ap (λ k. tree_at (more (tree none (Jump first)) (bare others returns)) k) (one-less m n g) ∙ next m is

bare-return : (targets : List Label) → tree_at (bare targets true) (length_of targets) ≡ Some (tree none Return)
bare-return [] = refl
bare-return (first ∷ others) = bare-return others

module _ (left_out : Picker → ℕ → Bool) (range : Range) (label : Label) (exit : ℕ) (targets : List Label) (returns : Bool) (g h : Family) (exited_is : Exited left_out range label exit targets returns g h) where
  abbrev pub exit_body : Stmts
  exit_body = stated_tree left_out (exit_jump exit label targets) (set_to exit (suc (length_of targets))) (g.node range label)

  abbrev pub exit_out : End
  exit_out = Pick (ByCell exit) (bare targets returns)

  abbrev pub ExitOnly : ℕ → Label → Type 0
  ExitOnly = Only range label exit (Above exit) exit_body exit_out g h

  abbrev pub ExitAnywhere : Range → Label → Type 0
  ExitAnywhere = Anywhere range label exit (Above exit) exit_body exit_out g h

  exit-leads : (to n : ℕ) → number_in targets to ≡ suc n → Leads exit (Above exit) exit_out (number_in targets to) (Jump to)
  exit-leads to n e = (
    ap (says (Above exit)) e,
    inr (bare targets returns, refl, ap (λ k. tree_at (bare targets returns) k) (less-one (number_in targets to) n e) ∙ bare-at targets returns to n e),
  )

  exit-return : returns ≡ true → Leads exit (Above exit) exit_out (suc (length_of targets)) Return
  exit-return is = (
    refl,
    inr (
      bare targets returns,
      refl,
      ap (λ b. tree_at (bare targets b) (suc (length_of targets) - 1)) is ∙ ap (λ k. tree_at (bare targets true) k) (less-one (suc (length_of targets)) (length_of targets) refl) ∙ bare-return targets,
    ),
  )

  exit-jumps : (to : Label) → (to ≡ label) ⊎ Numbered targets to → GathersEnd exit (Above exit) exit_out ExitOnly (ExitAnywhere range) 0 (Jump to) (before (exit_jump exit label targets to) [])
  exit-jumps to p =
      elim (eqb_tells to label) [
        | inl e ↦ inl (0, (refl, e.1), inr (refl, ap (λ b. before (if b then none else set_to exit (number_in targets to)) []) e.0))
        | inr e ↦ elim p [
          | inl is ↦ absurd (e.1 is)
          | inr is ↦ inr (number_in targets to, tt, ap (λ b. before (if b then none else set_to exit (number_in targets to)) []) e.0, exit-leads to is.0 is.1)
        ]
      ]

  pub exit-gathers : Gathered ExitAnywhere ExitOnly range exit (Above exit) exit_body exit_out g h
  exit-gathers =
      only-gathers range label exit (Above exit) exit_body exit_out g h exited_is.entries exited_is.node exited_is.others refl refl
      (stated-tree exit (Above exit) exit_out ExitOnly (ExitAnywhere range) 0 left_out (exit_jump exit label targets) (set_to exit (suc (length_of targets))) (λ to. (to ≡ label) ⊎ Numbered targets to) (returns ≡ true)
      exit-jumps (λ q. (suc (length_of targets), refl, exit-return q)) (g.node range label) exited_is.leaves)

-- The dispatch.

pub either-right : (a b : Bool) → b ≡ true → either a b ≡ true
either-right true b e = refl
either-right false b e = e

pub either-left : (a b : Bool) → a ≡ true → either a b ≡ true
either-left true b e = refl
either-left false b e = absurd (let f : false ≡ true = e in cc)

-- where a leaf returns, so does the tree
module _ (P : Label → Type 0) (Q : Type 0) where
  mutual
    leaves-end : (end : End) → LeavesEnd P (Unit {0}) end → (end_returns end ≡ true → Q) → LeavesEnd P Q end
    leaves-end (Pick picker arms) = λ l q. leaves-arms arms l q
    leaves-end (Jump to) = λ l q. l
    leaves-end Return = λ l q. q refl
    leaves-end Stop = λ l q. tt
    leaves-end Dead = λ l q. tt

    pub leaves-tree : (t : Tree) → LeavesTree P (Unit {0}) t → (tree_returns t ≡ true → Q) → LeavesTree P Q t
    leaves-tree (tree body end) = λ l q. leaves-end end l q

    leaves-arms : (arms : Trees) → LeavesTrees P (Unit {0}) arms → (trees_return arms ≡ true → Q) → LeavesTrees P Q arms
    leaves-arms no_more = λ l q. tt
    leaves-arms (more first others) = λ l q. (leaves-tree first l.0 (λ e. q (either-left (tree_returns first) (trees_return others) e)), leaves-arms others l.1 (λ e. q (either-right (tree_returns first) (trees_return others) e)))

module _ (left_out : Picker → ℕ → Bool) (range : Range) (state : ℕ) (nodes : List Node) (g h : Family) (dispatched_is : Dispatched left_out range state nodes g h) where
  abbrev pub labels : List Label
  labels = labels_of nodes

  abbrev pub state_body : Stmts
  state_body = also (Choose (ByCell state) (node_arms left_out state labels nodes)) none

  abbrev pub state_out : End
  state_out = return_if (some_returns nodes)

  -- only the entry is reached from outside
  abbrev pub AtEntry : Range → Label → Type 0
  AtEntry r l = r ≡ range → l ≡ g.entry range

  abbrev pub Listed : ℕ → Label → Type 0
  Listed number l = (n : ℕ) × (number ≡ suc n) × (number_in labels l ≡ number)

  abbrev StateTree : ℕ → Tree → List Item → Type 0
  StateTree = GathersTree state (Is state 0) state_out Listed (AtEntry range)

  state-tree : (number : ℕ) (t : Tree) → LeavesTree (Numbered labels) (some_returns nodes ≡ true) t → StateTree number t (before (stated_tree left_out (state_jump state labels) (set_to state 0) t) [])
  state-tree number t leaves =
      stated-tree state (Is state 0) state_out Listed (AtEntry range) number left_out (state_jump state labels) (set_to state 0) (Numbered labels) (some_returns nodes ≡ true)
      (λ to p. inl (number_in labels to, (p.0, p.1, refl), inl refl)) (λ q. (0, refl, (refl, inl (ap return_if q)))) t leaves

  -- the arm with this number stands for the node
  node-arm : (number : ℕ) (rest : List Node) (l n : ℕ) → AreNodes g range (Numbered labels) rest → (some_returns rest ≡ true → some_returns nodes ≡ true) → number_in (labels_of rest) l ≡ suc n → StateTree number (g.node range l) (before_arm (node_arms left_out state labels rest) n [])
  node-arm number [] l n are some e = none-numbered n e
  node-arm number (node ∷ rest) l n are some e =
      elim (eqb_tells node.label l) [
        | inl f ↦
            let g1 : 1 ≡ suc n = sym (ap (λ b. if b then 1 else one_further (number_in (labels_of rest) l)) f.0) ∙ e in
            let z : n ≡ 0 = omega (arith, g1) in
            let is : node.tree ≡ g.node range l = sym are.0 ∙ ap (g.node range) f.1 in
            subst (λ k. StateTree number (g.node range l) (before_arm (node_arms left_out state labels (node ∷ rest)) k [])) (sym z)
            (subst (λ t. StateTree number t (before (stated_tree left_out (state_jump state labels) (set_to state 0) node.tree) [])) is
            (state-tree number node.tree (leaves-tree (Numbered labels) (some_returns nodes ≡ true) node.tree are.1 (λ r. some (either-left (tree_returns node.tree) (some_returns rest) r)))))
        | inr f ↦
            let g1 : one_further (number_in (labels_of rest) l) ≡ suc n = sym (ap (λ b. if b then 1 else one_further (number_in (labels_of rest) l)) f.0) ∙ e in
            further-arm (λ m is. node-arm number rest l m are.2 (λ r. some (either-right (tree_returns node.tree) (some_returns rest) r)) is) (number_in (labels_of rest) l) refl g1
      ]
    where
      further-arm : ((m : ℕ) → number_in (labels_of rest) l ≡ suc m → StateTree number (g.node range l) (before_arm (node_arms left_out state labels rest) m [])) → (m : ℕ) → number_in (labels_of rest) l ≡ m → one_further m ≡ suc n →
          StateTree number (g.node range l) (before_arm (node_arms left_out state labels (node ∷ rest)) n [])
      further-arm next zero is g1 = none-numbered n g1
      further-arm next (suc m) is g1 = subst (λ k. StateTree number (g.node range l) (before_arm (node_arms left_out state labels (node ∷ rest)) k [])) (sym (one-less m n g1)) (next m is)

  not-zero : (number n : ℕ) → number ≡ suc n → says (Is state 0) number ≡ false
  not-zero number n e = elim (eqb_tells number 0) [ inl f ↦ absurd (let z : 0 ≡ suc n = sym f.1 ∙ e in omega (arith, z)) | inr f ↦ f.0 ]

  pub dispatch-gathers : Gathered AtEntry Listed range state (Is state 0) state_body state_out g h
  dispatch-gathers = record {
    entries = dispatched_is.entries;
    enters = λ r is. ap g.entry is;
    on_cell = refl;
    nodes = λ r l there.
        elim (range-tells r range) [
          | inl e ↦ inr (
            e.1,
            number_in labels (g.entry range),
            (dispatched_is.entry.0, dispatched_is.entry.1, ap (number_in labels) (there e.1)),
            subst (λ x. h.node x l ≡ dispatched left_out state (g.entry range) nodes) (sym e.1) (ap (h.node range) (there e.1) ∙ dispatched_is.node),
          )
          | inr e ↦ inl (dispatched_is.others r e.1 l, jumps-all (AtEntry r) (λ x is. absurd (e.1 is)) (g.node r l))
        ];
    turns = λ number l ins. (
      not-zero number ins.0 ins.1,
      before_arm (node_arms left_out state labels nodes) (number - 1) [],
      inr (node_arms left_out state labels nodes, refl, refl),
      node-arm number nodes l (number - 1) dispatched_is.nodes_are (λ r. r) (ins.2 ∙ (let e = ins.1 in omega (arith, e))),
    );
  }
