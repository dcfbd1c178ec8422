-- The family that looks nodes up is lowered.
use Rattle.std.proofs.Common.{◌≡◌, ℕ, zero, suc, ◌+◌, ◌*◌, ◌≤◌, ◌<◌, true, false, if◌then◌else◌, List, [], ◌∷◌, ◌++◌, refl, ap, sym, ◌∙◌, subst, arith, inl, inr}
use Rattle.std.specs.Prelude.{slice_get, length}
use Rattle.std.proofs.lemmas.Bool.Decides.{eqb_tells}
use Rattle.control_flow_theory.specs.language.Language.{Control, Times, Until, Varying, Stmt, Do, Choose, Loop, Perform, Go, GoDepending, NextSentence, ExitParagraph, ExitSection, ExitPerform, StopRun, Stmts, none, also, Arms, done, given, missing, Nested, Performed, Paragraph, Program, unless_absent, paragraph_at, Range}
use Rattle.control_flow_theory.specs.semantics.Graph.{Label, Tree, End, Jump}
use Rattle.control_flow_theory.specs.lowering.FlowFacts.{FlowFacts}
use Rattle.control_flow_theory.specs.lowering.Completes.{cuts, leave_sentence, size, sizes, size_arms}
use Rattle.control_flow_theory.specs.lowering.Lower.{point, end_alone, loop_back_label, leaf, build, Node, loop_nodes, nodes, nodes_in, nodes_of_arms, leaving_at, EscapeTargets, within_loop}
use Rattle.control_flow_theory.specs.lowering.Rests.{Sent, rest_from, leaf_of, leaving_of, tree_of, Has, HasRest}
use Rattle.control_flow_theory.specs.lowering.flow.Comes.{IsLowered}
use Rattle.control_flow_theory.specs.lowering.Lowered.{total, place_from, place_in, find, nodes_left, nodes_from, nodes_of, lowered, Within}
use Rattle.control_flow_theory.proofs.lowering_lemmas.rests.Counters.{has-left, has-right, uncut-from}

within-le : (a b : ℕ) (xs : List Node) → Within a b xs → a ≤ b
within-le a b [] h = h
within-le a b (x ∷ xs) h = omega (arith, h.0, within-le (x.key + 1) b xs h.1)

pub within-lower : (a c b : ℕ) (xs : List Node) → c ≤ a → Within a b xs → Within c b xs
within-lower a c b [] le h = omega (arith, le, h)
within-lower a c b (x ∷ xs) le h = (omega (arith, le, h.0), h.1)

within-append : (a b c : ℕ) (xs ys : List Node) → Within a b xs → Within b c ys → Within a c (xs ++ ys)
within-append a b c [] ys h k = within-lower b a c ys h k
within-append a b c (x ∷ xs) ys h k = (h.0, within-append (x.key + 1) b c xs ys h.1 k)

within-loop : (control : Control) (n : ℕ) (body : Tree) (after : End) → Within (3 * n + 1) (3 * (n + 1)) (loop_nodes control n body after)
within-loop (Times amount) n body after = (omega arith, omega arith)
within-loop (Until false test) n body after = (omega arith, omega arith)
within-loop (Until true test) n body after = (omega arith, (omega arith, omega arith))
within-loop (Varying false set step test) n body after = (omega arith, (omega arith, omega arith))
within-loop (Varying true set step test) n body after = (omega arith, (omega arith, omega arith))

module _ (told : FlowFacts) (place_of : ℕ → ℕ) where
  mutual
    within-in : (s : Stmt) (n : ℕ) (leaving : EscapeTargets) (after : End) (behind : Tree) → Within (3 * n + 1) (3 * (n + size s)) (nodes_in told place_of s n leaving after behind)
    within-in (Do act) n leaving after behind = omega arith
    within-in (Choose picker arms) n leaving after behind =
        let xs = nodes_of_arms told place_of arms (n + 1) leaving after behind in
        within-lower (3 * (n + 1)) (3 * n + 1) (3 * (n + (1 + size_arms arms))) xs (omega arith)
        (subst (λ e. Within (3 * (n + 1)) (3 * e) xs) (omega arith) (within-arms arms (n + 1) leaving after behind))
    within-in (Loop control (Nested body)) n leaving after behind =
        let leaf_back = Jump (loop_back_label control n) in
        let inner = within_loop leaving after leaf_back in
        let ys = nodes told place_of body (n + 1) inner leaf_back (end_alone leaf_back) in
        within-append (3 * n + 1) (3 * (n + 1)) (3 * (n + (1 + sizes body))) (loop_nodes control n (build told place_of body (n + 1) inner leaf_back (end_alone leaf_back)) after) ys
        (within-loop control n (build told place_of body (n + 1) inner leaf_back (end_alone leaf_back)) after)
        (subst (λ e. Within (3 * (n + 1)) (3 * e) ys) (omega arith) (within-nodes body (n + 1) inner leaf_back (end_alone leaf_back)))
    within-in (Loop control (Performed e x)) n leaving after behind = omega arith
    within-in (Perform e x) n leaving after behind = omega arith
    within-in (Go to) n leaving after behind = omega arith
    within-in (GoDepending to on) n leaving after behind = omega arith
    within-in NextSentence n leaving after behind = omega arith
    within-in ExitParagraph n leaving after behind = omega arith
    within-in (ExitSection last) n leaving after behind = omega arith
    within-in (ExitPerform cycle) n leaving after behind = omega arith
    within-in StopRun n leaving after behind = omega arith

    within-nodes : (ss : Stmts) (n : ℕ) (leaving : EscapeTargets) (after : End) (behind : Tree) → Within (3 * n) (3 * (n + sizes ss)) (nodes told place_of ss n leaving after behind)
    within-nodes none n leaving after behind = omega arith
    within-nodes (also s ss) n leaving after behind =
        let ys = nodes told place_of ss (n + size s) leaving after behind in (
          omega arith,
          within-append (3 * n + 1) (3 * (n + size s)) (3 * (n + (size s + sizes ss))) (nodes_in told place_of s n leaving (leaf told place_of ss (n + size s) after) (build told place_of ss (n + size s) leaving after behind)) ys
              (within-in s n leaving (leaf told place_of ss (n + size s) after) (build told place_of ss (n + size s) leaving after behind))
              (subst (λ e. Within (3 * (n + size s)) (3 * e) ys) (omega arith) (within-nodes ss (n + size s) leaving after behind)),
        )

    within-arms : (arms : Arms) (n : ℕ) (leaving : EscapeTargets) (after : End) (behind : Tree) → Within (3 * n) (3 * (n + size_arms arms)) (nodes_of_arms told place_of arms n leaving after behind)
    within-arms done n leaving after behind = omega arith
    within-arms (given arm others) n leaving after behind =
        let ys = nodes_of_arms told place_of others (n + sizes arm) leaving after behind in
        within-append (3 * n) (3 * (n + sizes arm)) (3 * (n + (sizes arm + size_arms others))) (nodes told place_of arm n leaving after behind) ys
        (within-nodes arm n leaving after behind)
        (subst (λ e. Within (3 * (n + sizes arm)) (3 * e) ys) (omega arith) (within-arms others (n + sizes arm) leaving after behind))
    within-arms (missing others) n leaving after behind = within-arms others n leaving after behind

-- each of these is found in the whole
module _ (told : FlowFacts) (place_of : ℕ → ℕ) where
  abbrev Found : List Node → List Node → Type 0
  Found whole xs = Has told place_of (λ l. find l whole) xs

  found-behind : (x : Node) (a b : ℕ) (ys whole : List Node) → x.key < a → Within a b ys → Found whole ys → Found (x ∷ whole) ys
  found-behind x a b [] whole lt h f = tt
  found-behind x a b (y ∷ ys) whole lt h f = (
    elim (eqb_tells x.key y.key) [
      | inl e ↦ absurd (let k = e.1 in let m = h.0 in omega (arith, k, m, lt))
      | inr e ↦ ap (λ t. if t then x.tree else find y.key whole) e.0 ∙ f.0
    ],
    found-behind x (y.key + 1) b ys whole (let m = h.0 in omega (arith, m, lt)) h.1 f.1,
  )

  pub found-self : (a b : ℕ) (xs : List Node) → Within a b xs → Found xs xs
  found-self a b [] h = tt
  found-self a b (x ∷ xs) h = (
    elim (eqb_tells x.key x.key) [
      | inl e ↦ ap (λ t. if t then x.tree else find x.key xs) e.0
      | inr e ↦ absurd (e.1 refl)
    ],
    found-behind x (x.key + 1) b xs xs (omega arith) h.1 (found-self (x.key + 1) b xs h.1),
  )

module _ (told : FlowFacts) (program : Program) where
  abbrev places : ℕ → ℕ
  places q = place_in program q

  within-left : (end : EscapeTargets) (n : ℕ) (ss : Paragraph) → Within (3 * n) (3 * (n + total ss)) (nodes_left told program end (rest_from told n ss))
  within-left end n [] = omega arith
  within-left end n (s ∷ ss) =
      let c = Sent (leave_sentence (cuts told s)) (rest_from told (n + sizes s) ss) in
      let xs = nodes told places s n (leaving_of told places end c) (leaf_of told places end c) (tree_of told places end c) in
      let ys = nodes_left told program end (rest_from told (n + sizes s) ss) in
      within-append (3 * n) (3 * (n + sizes s)) (3 * (n + (sizes s + total ss))) xs ys
      (within-nodes told places s n (leaving_of told places end c) (leaf_of told places end c) (tree_of told places end c))
      (subst (λ e. Within (3 * (n + sizes s)) (3 * e) ys) (omega arith) (within-left end (n + sizes s) ss))

  pub within-program : (r : Range) (q n : ℕ) (ps : List Paragraph) → (b : ℕ) × Within (3 * n) b (nodes_from told program r q n ps)
  within-program r q n [] = (3 * n, omega arith)
  within-program r q n (ss ∷ more) =
      let end = leaving_at places program r q in
      let k = within-program r (suc q) (n + 1 + total ss) more in
      let xs = nodes_left told program end (rest_from told (n + 1) ss) in (
        k.0,
        (
          omega arith,
          within-append (3 * n + 1) (3 * (n + 1 + total ss)) k.0 xs (nodes_from told program r (suc q) (n + 1 + total ss) more)
              (within-lower (3 * (n + 1)) (3 * n + 1) (3 * (n + 1 + total ss)) xs (omega arith) (within-left end (n + 1) ss)) k.1,
        ),
      )

  module _ (r : Range) where
    abbrev graph : Label → Tree
    graph l = find l (nodes_of told program r)

    -- what is said of a paragraph's nodes
    abbrev AtParagraph : ℕ → ℕ → Paragraph → Type 0
    AtParagraph q n ss =
        (graph (point n) ≡ tree_of told places (leaving_at places program r q) (rest_from told (n + 1) ss))
        × Has told places graph (nodes_left told program (leaving_at places program r q) (rest_from told (n + 1) ss))

    paragraph-found : (q n k : ℕ) (ps : List Paragraph) → k < length ps → Has told places graph (nodes_from told program r q n ps) → AtParagraph (q + k) (place_from n ps k) (unless_absent (slice_get ps k))
    paragraph-found q n k [] lt f = absurd (omega (arith, lt))
    paragraph-found q n zero (ss ∷ more) lt f =
        let end = leaving_at places program r q in
        let e : q ≡ q + 0 = omega arith in
        subst (λ x. AtParagraph x n ss) e (f.0, has-left graph told places (nodes_left told program end (rest_from told (n + 1) ss)) (nodes_from told program r (suc q) (n + 1 + total ss) more) f.1)
    paragraph-found q n (suc k) (ss ∷ more) lt f =
        let end = leaving_at places program r q in
        let e : suc q + k ≡ q + suc k = omega arith in
        subst (λ x. AtParagraph x (place_from (n + 1 + total ss) more k) (unless_absent (slice_get more k))) e
        (paragraph-found (suc q) (n + 1 + total ss) k more (omega (arith, lt)) (has-right graph told places (nodes_left told program end (rest_from told (n + 1) ss)) (nodes_from told program r (suc q) (n + 1 + total ss) more) f.1))

    rest-found : (end : EscapeTargets) (n : ℕ) (ss : Paragraph) → Has told places graph (nodes_left told program end (rest_from told n ss)) → HasRest told places graph end (rest_from told n ss)
    rest-found end n [] f = tt
    rest-found end n (s ∷ ss) f =
        let c = Sent (leave_sentence (cuts told s)) (rest_from told (n + sizes s) ss) in
        let xs = nodes told places s n (leaving_of told places end c) (leaf_of told places end c) (tree_of told places end c) in
        let ys = nodes_left told program end (rest_from told (n + sizes s) ss) in
        (subst (λ u. Has told places graph (nodes told places s n (leaving_of told places end c) (leaf_of told places end c) (tree_of told places end u))) (sym (ap (Sent (leave_sentence (cuts told s))) (uncut-from told (n + sizes s) ss))) (has-left graph told places xs ys f), rest-found end (n + sizes s) ss (has-right graph told places xs ys f))

    all-found : (q : ℕ) → q < length program.paragraphs → AtParagraph q (places q) (paragraph_at program q)
    all-found q lt =
        let w = within-program r 0 0 program.paragraphs in
        let e : 0 + q ≡ q = omega arith in
        subst (λ x. AtParagraph x (places q) (paragraph_at program q)) e (paragraph-found 0 0 q program.paragraphs lt (found-self told places (3 * 0) w.0 (nodes_of told program r) w.1))

  -- the family that looks its nodes up
  pub lowered-is-lowered : IsLowered told program (place_in program) (lowered told program)
  lowered-is-lowered = record {
    entry = λ r. refl;
    at = λ r q lt. (all-found r q lt).0;
    has = λ r q lt. rest-found r (leaving_at places program r q) (places q + 1) (paragraph_at program q) (all-found r q lt).1;
  }
