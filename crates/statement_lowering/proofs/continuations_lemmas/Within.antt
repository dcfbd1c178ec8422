-- The labels of nodes rise, within those of their statements.
use Rattle.std.proofs.Common.{◌≡◌, ℕ, ◌+◌, ◌*◌, ◌≤◌, ◌<◌, ◌==◌, true, false, if◌then◌else◌, List, [], ◌∷◌, ◌++◌, refl, ap, ◌∙◌, subst, arith, inl, inr}
use Rattle.std.proofs.lemmas.Bool.Decides.{eqb_tells}
use Rattle.control_flow_theory.specs.language.Language.{Control, Times, Until, Varying, Stmt, Do, Choose, Loop, Perform, Go, GoDepending, NextSentence, ExitParagraph, ExitSection, ExitPerform, StopRun, Stmts, none, also, Arms, done, given, missing, Nested, Performed}
use Rattle.control_flow_theory.specs.semantics.Graph.{Label, Tree, End, Jump, Dead}
use Rattle.control_flow_theory.specs.lowering.FlowFacts.{FlowFacts}
use Rattle.control_flow_theory.specs.lowering.Completes.{size, sizes, size_arms}
use Rattle.control_flow_theory.specs.lowering.Lower.{loop_back_label, build, leaf, EscapeTargets, loop_nodes, Node, nodes, nodes_in, nodes_of_arms, end_alone, within_loop}
use Rattle.control_flow_theory.specs.lowering.Lowered.{find, Within}
use Rattle.statement_lowering.specs.continuations.Statements.{Agrees}

pub within-le : (a b : ℕ) (xs : List Node) → Within a b xs → a ≤ b
within-le a b [] h = h
within-le a b (x ∷ xs) h = omega (arith, h.0, within-le (x.key + 1) b xs h.1)

pub within-lower : (a c b : ℕ) (xs : List Node) → c ≤ a → Within a b xs → Within c b xs
within-lower a c b [] le h = omega (arith, le, h)
within-lower a c b (x ∷ xs) le h = (omega (arith, le, h.0), h.1)

pub within-append : (a b c : ℕ) (xs ys : List Node) → Within a b xs → Within b c ys → Within a c (xs ++ ys)
within-append a b c [] ys h k = within-lower b a c ys h k
within-append a b c (x ∷ xs) ys h k = (h.0, within-append (x.key + 1) b c xs ys h.1 k)

pub within-loop : (control : Control) (n : ℕ) (body : Tree) (after : End) → Within (3 * n + 1) (3 * (n + 1)) (loop_nodes control n body after)
within-loop (Times amount) n body after = (omega arith, omega arith)
within-loop (Until false test) n body after = (omega arith, omega arith)
within-loop (Until true test) n body after = (omega arith, (omega arith, omega arith))
within-loop (Varying false set step test) n body after = (omega arith, (omega arith, omega arith))
within-loop (Varying true set step test) n body after = (omega arith, (omega arith, omega arith))

module _ (told : FlowFacts) (place_of : ℕ → ℕ) where
  mutual
    pub within-in : (s : Stmt) (n : ℕ) (leaving : EscapeTargets) (after : End) (behind : Tree) → Within (3 * n + 1) (3 * (n + size s)) (nodes_in told place_of s n leaving after behind)
    within-in (Do act) n leaving after behind = omega arith
    within-in (Choose picker arms) n leaving after behind =
        let xs = nodes_of_arms told place_of arms (n + 1) leaving after behind in
        within-lower (3 * (n + 1)) (3 * n + 1) (3 * (n + (1 + size_arms arms))) xs (omega arith)
        (subst (λ e. Within (3 * (n + 1)) (3 * e) xs) (omega arith) (within-arms arms (n + 1) leaving after behind))
    within-in (Loop control (Nested body)) n leaving after behind =
        let leaf_back = Jump (loop_back_label control n) in
        let inner = within_loop leaving after leaf_back in
        let ys = nodes told place_of body (n + 1) inner leaf_back (end_alone leaf_back) in
        within-append (3 * n + 1) (3 * (n + 1)) (3 * (n + (1 + sizes body))) (loop_nodes control n (build told place_of body (n + 1) inner leaf_back (end_alone leaf_back)) after) ys
        (within-loop control n (build told place_of body (n + 1) inner leaf_back (end_alone leaf_back)) after)
        (subst (λ e. Within (3 * (n + 1)) (3 * e) ys) (omega arith) (within-nodes body (n + 1) inner leaf_back (end_alone leaf_back)))
    within-in (Loop control (Performed e x)) n leaving after behind = omega arith
    within-in (Perform e x) n leaving after behind = omega arith
    within-in (Go to) n leaving after behind = omega arith
    within-in (GoDepending to on) n leaving after behind = omega arith
    within-in NextSentence n leaving after behind = omega arith
    within-in ExitParagraph n leaving after behind = omega arith
    within-in (ExitSection last) n leaving after behind = omega arith
    within-in (ExitPerform cycle) n leaving after behind = omega arith
    within-in StopRun n leaving after behind = omega arith

    pub within-nodes : (ss : Stmts) (n : ℕ) (leaving : EscapeTargets) (after : End) (behind : Tree) → Within (3 * n) (3 * (n + sizes ss)) (nodes told place_of ss n leaving after behind)
    within-nodes none n leaving after behind = omega arith
    within-nodes (also s ss) n leaving after behind =
        let ys = nodes told place_of ss (n + size s) leaving after behind in (
          omega arith,
          within-append (3 * n + 1) (3 * (n + size s)) (3 * (n + (size s + sizes ss))) (nodes_in told place_of s n leaving (leaf told place_of ss (n + size s) after) (build told place_of ss (n + size s) leaving after behind)) ys
              (within-in s n leaving (leaf told place_of ss (n + size s) after) (build told place_of ss (n + size s) leaving after behind))
              (subst (λ e. Within (3 * (n + size s)) (3 * e) ys) (omega arith) (within-nodes ss (n + size s) leaving after behind)),
        )

    pub within-arms : (arms : Arms) (n : ℕ) (leaving : EscapeTargets) (after : End) (behind : Tree) → Within (3 * n) (3 * (n + size_arms arms)) (nodes_of_arms told place_of arms n leaving after behind)
    within-arms done n leaving after behind = omega arith
    within-arms (given arm others) n leaving after behind =
        let ys = nodes_of_arms told place_of others (n + sizes arm) leaving after behind in
        within-append (3 * n) (3 * (n + sizes arm)) (3 * (n + (sizes arm + size_arms others))) (nodes told place_of arm n leaving after behind) ys
        (within-nodes arm n leaving after behind)
        (subst (λ e. Within (3 * (n + sizes arm)) (3 * e) ys) (omega arith) (within-arms others (n + sizes arm) leaving after behind))
    within-arms (missing others) n leaving after behind = within-arms others n leaving after behind

-- What is found, by where it stands.

pub find_below : (label a b : ℕ) (xs : List Node) → Within a b xs → label < a → find label xs ≡ end_alone Dead
find_below label a b [] w lt = refl
find_below label a b (x ∷ xs) w lt = elim (eqb_tells x.key label) [
  | inl e ↦ absurd (let k = e.1 in let m = w.0 in omega (arith, k, m, lt))
  | inr e ↦ ap (λ t. if t then x.tree else find label xs) e.0 ∙ find_below label (x.key + 1) b xs w.1 (let m = w.0 in omega (arith, m, lt))
]

pub find_left : (label a m b : ℕ) (xs ys : List Node) → Within a m xs → Within m b ys → label < m → find label (xs ++ ys) ≡ find label xs
find_left label a m b [] ys w v lt = find_below label m b ys v lt
find_left label a m b (x ∷ xs) ys w v lt = ap (λ t. if x.key == label then x.tree else t) (find_left label (x.key + 1) m b xs ys w.1 v lt)

pub find_right : (label a m : ℕ) (xs ys : List Node) → Within a m xs → m ≤ label → find label (xs ++ ys) ≡ find label ys
find_right label a m [] ys w le = refl
find_right label a m (x ∷ xs) ys w le = elim (eqb_tells x.key label) [
  | inl e ↦ absurd (let k = e.1 in let n = within-le (x.key + 1) m xs w.1 in omega (arith, k, n, le))
  | inr e ↦ ap (λ t. if t then x.tree else find label (xs ++ ys)) e.0 ∙ find_right label (x.key + 1) m xs ys w.1 le
]

pub find_first : (x : Node) (xs : List Node) → find x.key (x ∷ xs) ≡ x.tree
find_first x xs = elim (eqb_tells x.key x.key) [
  | inl e ↦ ap (λ t. if t then x.tree else find x.key xs) e.0
  | inr e ↦ absurd (e.1 refl)
]

pub find_other : (label : ℕ) (x : Node) (xs : List Node) → x.key < label → find label (x ∷ xs) ≡ find label xs
find_other label x xs lt = elim (eqb_tells x.key label) [
  | inl e ↦ absurd (let k = e.1 in omega (arith, k, lt))
  | inr e ↦ ap (λ t. if t then x.tree else find label xs) e.0
]

-- a graph that has some nodes has the first of them, and the others

pub agrees_left : (graph : Label → Tree) (a m b : ℕ) (xs ys : List Node) → Within a m xs → Within m b ys → m ≤ b → Agrees graph a b (xs ++ ys) → Agrees graph a m xs
agrees_left graph a m b xs ys w v le h = λ label low high. h label low (omega (arith, high, le)) ∙ find_left label a m b xs ys w v high

pub agrees_right : (graph : Label → Tree) (a m b : ℕ) (xs ys : List Node) → Within a m xs → a ≤ m → Agrees graph a b (xs ++ ys) → Agrees graph m b ys
agrees_right graph a m b xs ys w le h = λ label low high. h label (omega (arith, low, le)) high ∙ find_right label a m xs ys w low

pub agrees_behind : (graph : Label → Tree) (b : ℕ) (x : Node) (xs : List Node) → Agrees graph x.key b (x ∷ xs) → Agrees graph (x.key + 1) b xs
agrees_behind graph b x xs h = λ label low high. h label (omega (arith, low)) high ∙ find_other label x xs (omega (arith, low))

pub agrees_first : (graph : Label → Tree) (a m b c : ℕ) (xs ys : List Node) → Within a m xs → Within m c ys → m ≤ b → Agrees graph a b (xs ++ ys) → Agrees graph a m xs
agrees_first graph a m b c xs ys w v le h = λ label low high. h label low (omega (arith, high, le)) ∙ find_left label a m c xs ys w v high
