-- The rules lose no choice by a cell, and none of its arms.
use Rattle.std.proofs.Common.{◌≡◌, ℕ, Bool, true, false, if◌then◌else◌, ◌==◌, List, refl, ap, sym, ◌∙◌, subst, ◌⊎◌, inl, inr}
use Rattle.control_flow_theory.specs.language.Language.{Picker, ByCell, Stmts, none, also, Arms}
use Rattle.control_flow_theory.specs.rendering.Rendering.{count_arms}
use Rattle.control_flow_theory.specs.graph_rules.Shapes.{followed}
use Rattle.control_flow_theory.specs.graph_rules.Reduced.{Node, Graph, count, size}
use Rattle.control_flow_theory.specs.structuring.Dispatches.{node_arms, labels_of}
use Rattle.control_flow_theory.specs.structuring.Closes.{none_left_out, dispatch_graph}
use Rattle.control_flow_theory.proofs.semantics_lemmas.Ranges.{eq-self}
use Rattle.control_flow_theory.proofs.structuring_lemmas.closing.SomeKept.{SomeNode, Finds, dispatched-some}
use Rattle.control_flow_theory.proofs.main_theorem_lemmas.graphs.Choosing.{picks, stmt_chooses, stmts_choose, arms_choose}
use Rattle.control_flow_theory.proofs.main_theorem_lemmas.graphs.Bounds.{node-arms-count}

pub picks-self : (cell arms : ℕ) → picks cell arms (ByCell cell) arms ≡ true
picks-self cell arms = ap (λ b. if b then arms == arms else false) (eq-self cell) ∙ eq-self arms

module _ (by among : ℕ) where
  abbrev pub Chooses : Stmts → Type 0
  Chooses stmts = stmts_choose by among stmts ≡ true

  abbrev pub ArmsChoose : Arms → Type 0
  ArmsChoose arms = arms_choose by among arms ≡ true

  abbrev pub Picks : Picker → ℕ → Type 0
  Picks picker arms = picks by among picker arms ≡ true

  choose-left : (a b : Stmts) → Chooses a → Chooses (followed a b)
  choose-left none b h = absurd (let e : false ≡ true = h in cc)
  choose-left (also s a) b h = elim (stmt_chooses by among s) as (λ c. (if c then true else stmts_choose by among a) ≡ true → (if c then true else stmts_choose by among (followed a b)) ≡ true) [ true ↦ λ k. refl | false ↦ λ k. choose-left a b k ] h

  choose-right : (a b : Stmts) → Chooses b → Chooses (followed a b)
  choose-right none b h = h
  choose-right (also s a) b h = elim (stmt_chooses by among s) as (λ c. (if c then true else stmts_choose by among (followed a b)) ≡ true) [ true ↦ refl | false ↦ choose-right a b h ]

  one-way : (a b : Bool) → (a ≡ true) ⊎ (b ≡ true) → (if (if a then true else b) then true else false) ≡ true
  one-way true b h = refl
  one-way false b h = elim h [ inl c ↦ absurd (let e : false ≡ true = c in cc) | inr c ↦ ap (λ x. if x then true else false) c ]

  pub finds : Finds Chooses ArmsChoose Picks
  finds = record {
    nowhere = λ h. cc;
    left = choose-left;
    right = choose-right;
    first = λ arm others h. ap (λ c. if c then true else arms_choose by among others) h;
    later = λ arm others h. elim (stmts_choose by among arm) as (λ c. (if c then true else arms_choose by among others) ≡ true) [ true ↦ refl | false ↦ h ];
    chooses = λ picker arms h. one-way (picks by among picker (count_arms arms)) (arms_choose by among arms) h;
    loops = λ control body h. ap (λ b. if b then true else false) h;
    tests = λ test arms h. (let e : false ≡ true = h in cc);
  }

  -- in one of the nodes
  abbrev pub NodesChoose : List Node → Type 0
  NodesChoose nodes = SomeNode Chooses Picks nodes

-- the one node of a dispatch chooses among the nodes by the new cell
pub dispatch-own : (graph : Graph) → NodesChoose (count graph.added) (size graph.nodes) (dispatch_graph graph).nodes
dispatch-own graph =
    let state = count graph.added in
    let n = size graph.nodes in
    let arms = node_arms none_left_out state (labels_of graph.nodes) graph.nodes in
    let here = subst (λ m. picks state n (ByCell state) m ≡ true) (sym (node-arms-count state (labels_of graph.nodes) graph.nodes)) (picks-self state n) in
    dispatched-some (Chooses state n) (ArmsChoose state n) (Picks state n) (finds state n) graph (inl here)
