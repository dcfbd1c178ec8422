-- The flag, the exits and the dispatch give families, which keep what a walk does.
use Rattle.std.proofs.Common.{◌≡◌, ℕ, suc, Bool, true, false, if◌then◌else◌, ◌==◌, List, [], ◌∷◌, ap, sym, ◌∙◌, subst, inl, inr}
use Rattle.std.proofs.lemmas.Bool.Decides.{eqb_tells}
use Rattle.control_flow_theory.specs.language.Language.{Test, Is, Above, Picker, Stmts, none, also, Arms, Range}
use Rattle.control_flow_theory.specs.semantics.Doing.{Acting}
use Rattle.control_flow_theory.specs.semantics.Graph.{Label, Tree, tree, End, Pick, Jump, Return, Stop, Dead, Trees, no_more, more, Family}
use Rattle.control_flow_theory.specs.graph_rules.Fits.{TestFits, StmtsFit, ArmsFit, TreeFits, EndFits, TreesFit}
use Rattle.control_flow_theory.specs.graph_rules.Walked.{In}
use Rattle.control_flow_theory.specs.graph_rules.Families.{Kinds, Has, MaySet, IsFamily, IsSound}
use Rattle.control_flow_theory.specs.structuring.Gathers.{loop_from}
use Rattle.control_flow_theory.specs.graph_rules.Shapes.{followed}
use Rattle.control_flow_theory.specs.graph_rules.Reduced.{Node}
use Rattle.control_flow_theory.specs.structuring.Dispatches.{arm_or_none, stated_end, stated_tree, stated_arms, number_in, set_to, flag_jump, ClosedByFlag, length_of, exit_jump, bare, Exited, labels_of, some_returns, state_jump, node_arms, return_if, AreNodes, Dispatched}
use Rattle.control_flow_theory.specs.structuring.Keeps.{Gains, Kept}
use Rattle.control_flow_theory.proofs.graph_rules_lemmas.walks.Fitting.{tree-more}
use Rattle.control_flow_theory.proofs.semantics_lemmas.Ranges.{range-tells}
use Rattle.control_flow_theory.proofs.structuring_lemmas.gathering.Dispatch.{flag_body, FlagOnly, FlagAnywhere, flag-gathers, exit_body, exit_out, ExitOnly, ExitAnywhere, exit-gathers, AtEntry, Listed, state_body, state_out, dispatch-gathers}
use Rattle.control_flow_theory.proofs.structuring_lemmas.gathering.Keep.{gather-kept}

-- The statements that stand for a tree fit where it does, and those for its leaves do.
module _ (Calls : Range → Type 0) (R W : ℕ → Type 0) where
  abbrev Fit : Stmts → Type 0
  Fit = StmtsFit Calls R W

  followed-fits : (one two : Stmts) → Fit one → Fit two → Fit (followed one two)
  followed-fits none two f h = h
  followed-fits (also stmt stmts) two f h = (f.0, followed-fits stmts two f.1 h)

  arm-fit : (b : Bool) (arm : Stmts) (others : Arms) → Fit arm → ArmsFit Calls R W others → ArmsFit Calls R W (arm_or_none b arm others)
  arm-fit false arm others f h = (f, h)
  arm-fit true none others f h = h
  arm-fit true (also stmt stmts) others f h = (f, h)

  module _ (left_out : Picker → ℕ → Bool) (jump : Label → Stmts) (return : Stmts) (jumps : (to : Label) → Fit (jump to)) (returns : Fit return) where
    mutual
      stated-end-fits : (end : End) → EndFits Calls R W end → Fit (stated_end left_out jump return end)
      stated-end-fits (Pick picker arms) = λ f. ((f.0, stated-arms-fit picker 0 arms f.1), tt)
      stated-end-fits (Jump to) = λ f. jumps to
      stated-end-fits Return = λ f. returns
      stated-end-fits Stop = λ f. (tt, tt)
      stated-end-fits Dead = λ f. tt

      stated-fits : (t : Tree) → TreeFits Calls R W t → Fit (stated_tree left_out jump return t)
      stated-fits (tree body end) = λ f. followed-fits body (stated_end left_out jump return end) f.0 (stated-end-fits end f.1)

      stated-arms-fit : (picker : Picker) (k : ℕ) (arms : Trees) → TreesFit Calls R W arms → ArmsFit Calls R W (stated_arms left_out jump return picker k arms)
      stated-arms-fit picker k no_more = λ f. tt
      stated-arms-fit picker k (more first others) = λ f.
          arm-fit (left_out picker k) (stated_tree left_out jump return first) (stated_arms left_out jump return picker (suc k) others) (stated-fits first f.0) (stated-arms-fit picker (suc k) others f.1)

  set-fits : (cell number : ℕ) → W cell → Fit (set_to cell number)
  set-fits cell number w = (w, tt)

  some-fits : (b : Bool) (one two : Stmts) → Fit one → Fit two → Fit (if b then one else two)
  some-fits true one two f h = f
  some-fits false one two f h = h

  loop-from-fits : (cell : ℕ) (test : Test) (body : Stmts) (out : End) (number : ℕ) → W cell → TestFits Calls R W test → Fit body → EndFits Calls R W out → TreeFits Calls R W (loop_from cell test body out number)
  loop-from-fits cell test body out number w t b o = ((w, ((t, b), tt)), o)

  bare-fits : (targets : List Label) (returns : Bool) → TreesFit Calls R W (bare targets returns)
  bare-fits [] false = tt
  bare-fits [] true = ((tt, tt), tt)
  bare-fits (first ∷ others) returns = ((tt, tt), bare-fits others returns)

-- The new family's nodes fit, by its cells.
module _ (kinds kinds2 : Kinds) (range : Range) (cell : ℕ) (gains : Gains kinds kinds2 range cell) (g h : Family) where
  has-more : (r : Range) (c : ℕ) → Has kinds r c → Has kinds2 r c
  has-more r c has = (has.0, gains.extends r c has.0 has.1)

  may-more : (r : Range) (c : ℕ) → MaySet kinds r c → MaySet kinds2 r c
  may-more r c may = (has-more r c may.0, λ is. may.1 (may.0.1 ∙ (let e = sym (gains.extends r c may.0.0 may.0.1) ∙ is in e)))

  pub own-read : Has kinds2 range cell
  own-read = (gains.kind, gains.new)

  pub own-set : MaySet kinds2 range cell
  own-set = (own-read, λ is. gains.may_set (let e = sym gains.new ∙ is in cc))

  pub tree-with : (Calls : Range → Type 0) (r : Range) (t : Tree) → TreeFits Calls (Has kinds r) (MaySet kinds r) t → TreeFits Calls (Has kinds2 r) (MaySet kinds2 r) t
  tree-with Calls r t f = tree-more Calls Calls (Has kinds r) (Has kinds2 r) (MaySet kinds r) (MaySet kinds2 r) (λ to c. c) (has-more r) (may-more r) t f

  -- the new nodes fit where the old ones do
  abbrev NodesFit : Type 0
  NodesFit = (order : List Range) (r : Range) → ((l : Label) → TreeFits (λ to. In to order) (Has kinds r) (MaySet kinds r) (g.node r l)) → (l : Label) → TreeFits (λ to. In to order) (Has kinds2 r) (MaySet kinds2 r) (h.node r l)

  pub ordered-with : NodesFit → (order : List Range) → IsFamily kinds g order → IsFamily kinds2 h order
  ordered-with fit [] o = tt
  ordered-with fit (first ∷ others) o = (o.0, fit others first o.1, ordered-with fit others o.2)

  -- one node is new
  pub one-fits : (label : Label) → ((Calls : Range → Type 0) → TreeFits Calls (Has kinds range) (MaySet kinds range) (g.node range label) → TreeFits Calls (Has kinds2 range) (MaySet kinds2 range) (h.node range label)) →
      ((r : Range) (l : Label) → ((r ≡ range) × (l ≡ label) → ⊥) → h.node r l ≡ g.node r l) → NodesFit
  one-fits label new others order r fits l =
      let Calls = λ (to : Range). In to order in
      elim (range-tells r range) [
        | inl e ↦ elim (eqb_tells l label) [
          | inl f ↦ subst (λ x. TreeFits Calls (Has kinds2 x) (MaySet kinds2 x) (h.node x l)) (sym e.1)
              (subst (λ y. TreeFits Calls (Has kinds2 range) (MaySet kinds2 range) (h.node range y)) (sym f.1) (new Calls (subst (λ x. TreeFits Calls (Has kinds x) (MaySet kinds x) (g.node x label)) e.1 (fits label))))
          | inr f ↦ subst (TreeFits Calls (Has kinds2 r) (MaySet kinds2 r)) (sym (others r l (λ is. f.1 is.1))) (tree-with Calls r (g.node r l) (fits l))
        ]
        | inr e ↦ subst (TreeFits Calls (Has kinds2 r) (MaySet kinds2 r)) (sym (others r l (λ is. e.1 is.0))) (tree-with Calls r (g.node r l) (fits l))
      ]

module _ {Memory Left : Type 0} (acting : Acting Memory) (left : Memory → Left) (left_out : Picker → ℕ → Bool) (kinds kinds2 : Kinds) (g h : Family) (order : List Range) (range : Range) (cell : ℕ)
    (gains : Gains kinds kinds2 range cell) (family : IsFamily kinds g order) (sound : IsSound acting left kinds g order) where
  abbrev R : ℕ → Type 0
  R = Has kinds2 range

  abbrev W : ℕ → Type 0
  W = MaySet kinds2 range

  w : W cell
  w = own-set kinds kinds2 range cell gains g h

  own : R cell
  own = own-read kinds kinds2 range cell gains g h

  with-cell : (Calls : Range → Type 0) (t : Tree) → TreeFits Calls (Has kinds range) (MaySet kinds range) t → TreeFits Calls R W t
  with-cell Calls t f = tree-with kinds kinds2 range cell gains g h Calls range t f

  -- a loop with a flag
  pub flag-kept : (label : Label) (out : End) → ((Calls : Range → Type 0) (R W : ℕ → Type 0) → EndFits Calls R W out) → ClosedByFlag left_out range label cell out g h → Kept acting left kinds kinds2 g h order
  flag-kept label out plain is =
      gather-kept acting left kinds kinds2 (FlagAnywhere left_out range label cell out g h is) (FlagOnly left_out range label cell out g h is) range cell (Is cell 1) (flag_body left_out range label cell out g h is) out g h order gains family sound
      (flag-gathers left_out range label cell out g h is)
      (ordered-with kinds kinds2 range cell gains g h
      (one-fits kinds kinds2 range cell gains g h label
      (λ Calls fits.
      subst (TreeFits Calls R W) (sym is.node)
      (loop-from-fits Calls R W cell (Is cell 1) (flag_body left_out range label cell out g h is) out 0 w own
      (stated-fits Calls R W left_out (flag_jump cell label) (set_to cell 1) (λ to. some-fits Calls R W (to == label) none (set_to cell 1) tt (set-fits Calls R W cell 1 w)) (set-fits Calls R W cell 1 w) (g.node range label)
      (with-cell Calls (g.node range label) fits))
      (plain Calls R W)))
      is.others)
      order family)

  -- a loop with several exits
  pub exits-kept : (label : Label) (targets : List Label) (returns : Bool) → Exited left_out range label cell targets returns g h → Kept acting left kinds kinds2 g h order
  exits-kept label targets returns is =
      gather-kept acting left kinds kinds2 (ExitAnywhere left_out range label cell targets returns g h is) (ExitOnly left_out range label cell targets returns g h is) range cell (Above cell) (exit_body left_out range label cell targets returns g h is) (exit_out left_out range label cell targets returns g h is) g h order gains family sound
      (exit-gathers left_out range label cell targets returns g h is)
      (ordered-with kinds kinds2 range cell gains g h
      (one-fits kinds kinds2 range cell gains g h label
      (λ Calls fits.
      subst (TreeFits Calls R W) (sym is.node)
      (loop-from-fits Calls R W cell (Above cell) (exit_body left_out range label cell targets returns g h is) (exit_out left_out range label cell targets returns g h is) 0 w own
      (stated-fits Calls R W left_out (exit_jump cell label targets) (set_to cell (suc (length_of targets))) (λ to. some-fits Calls R W (to == label) none (set_to cell (number_in targets to)) tt (set-fits Calls R W cell (number_in targets to) w)) (set-fits Calls R W cell (suc (length_of targets)) w) (g.node range label)
      (with-cell Calls (g.node range label) fits))
      (own, bare-fits Calls R W targets returns)))
      is.others)
      order family)

  nodes-fit : (Calls : Range → Type 0) (P : Label → Type 0) (labels : List Label) (nodes : List Node) → AreNodes g range P nodes → ((l : Label) → TreeFits Calls (Has kinds range) (MaySet kinds range) (g.node range l)) → ArmsFit Calls R W (node_arms left_out cell labels nodes)
  nodes-fit Calls P labels [] are fits = tt
  nodes-fit Calls P labels (node ∷ others) are fits = (
    stated-fits Calls R W left_out (state_jump cell labels) (set_to cell 0) (λ to. set-fits Calls R W cell (number_in labels to) w) (set-fits Calls R W cell 0 w) node.tree
        (with-cell Calls node.tree (subst (TreeFits Calls (Has kinds range) (MaySet kinds range)) are.0 (fits node.label))),
    nodes-fit Calls P labels others are.2 fits,
  )

  return-fits : (Calls : Range → Type 0) (b : Bool) → EndFits Calls R W (return_if b)
  return-fits Calls true = tt
  return-fits Calls false = tt

  -- the dispatch
  pub dispatch-kept : (nodes : List Node) → Dispatched left_out range cell nodes g h → Kept acting left kinds kinds2 g h order
  dispatch-kept nodes is =
      gather-kept acting left kinds kinds2 (AtEntry left_out range cell nodes g h is) (Listed left_out range cell nodes g h is) range cell (Is cell 0) (state_body left_out range cell nodes g h is) (state_out left_out range cell nodes g h is) g h order gains family sound
      (dispatch-gathers left_out range cell nodes g h is)
      (ordered-with kinds kinds2 range cell gains g h (λ others r fits l.
      let Calls = λ (to : Range). In to others in
      elim (range-tells r range) [
        | inl e ↦ subst (λ x. TreeFits Calls (Has kinds2 x) (MaySet kinds2 x) (h.node x l)) (sym e.1) (here Calls (λ y. subst (λ x. TreeFits Calls (Has kinds x) (MaySet kinds x) (g.node x y)) e.1 (fits y)) l)
        | inr e ↦ subst (TreeFits Calls (Has kinds2 r) (MaySet kinds2 r)) (sym (is.others r e.1 l)) (tree-with kinds kinds2 range cell gains g h Calls r (g.node r l) (fits l))
      ])
      order family)
    where
      here : (Calls : Range → Type 0) → ((l : Label) → TreeFits Calls (Has kinds range) (MaySet kinds range) (g.node range l)) → (l : Label) → TreeFits Calls R W (h.node range l)
      here Calls fits l =
          elim (eqb_tells l (g.entry range)) [
            | inl f ↦ subst (TreeFits Calls R W) (sym (ap (h.node range) f.1 ∙ is.node))
                (loop-from-fits Calls R W cell (Is cell 0) (state_body left_out range cell nodes g h is) (state_out left_out range cell nodes g h is) (number_in (labels_of nodes) (g.entry range)) w own
                ((own, nodes-fit Calls _ (labels_of nodes) nodes is.nodes_are fits), tt) (return-fits Calls (some_returns nodes)))
            | inr f ↦ elim (is.rest l f.1) [
              | inl same ↦ subst (TreeFits Calls R W) (sym same) (with-cell Calls (g.node range l) (fits l))
              | inr gone ↦ subst (TreeFits Calls R W) (sym gone) (tt, tt)
            ]
          ]
