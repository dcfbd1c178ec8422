-- The heads of loops by TIMES among the nodes of a lowered program: no other node asks for a cell
-- at its label.
use Rattle.std.proofs.Common.{◌≡◌, ℕ, suc, ◌+◌, Bool, true, false, if◌then◌else◌, ◌==◌, nat_eq, List, [], ◌∷◌, ◌++◌, refl, ap, sym, ◌∙◌, arith, append_assoc, inl, inr, Option, Some, None}
use Rattle.std.specs.Prelude.{slice_get, length}
use Rattle.std.proofs.lemmas.Bool.Decides.{eqb_tells}
use Rattle.control_flow_theory.specs.language.Language.{Test, Holds, Not, Is, Above, Picker, If, By, ByCell, Control, Times, Until, Varying, Stmt, Choose, Loop, Perform, Go, GoDepending, NextSentence, ExitParagraph, ExitSection, ExitPerform, StopRun, Stmts, none, also, Arms, done, given, missing, Nested, Performed, Paragraph, Program, Range, Main, Part}
use Rattle.control_flow_theory.specs.language.Language as language
use Rattle.control_flow_theory.specs.language.Own.{OwnTest, OwnControl}
use Rattle.control_flow_theory.specs.semantics.Graph.{Label, Tree, tree, End, Pick, Jump, Return, Dead, no_more, more, end_of}
use Rattle.control_flow_theory.specs.lowering.FlowFacts.{FlowFacts, IsSource, OwnPicker, OwnStmt, OwnStmts, OwnArms, OwnParagraph, OwnParagraphs, arm_count}
use Rattle.control_flow_theory.specs.lowering.Completes.{completes, cut, cuts, whole, wholes, leave_sentence, size, sizes, skips, first_is_dead}
use Rattle.control_flow_theory.specs.lowering.Lower.{point, loop_head_label, loop_step_label, end_alone, with_first, push, loop_back_label, leaf, build, build_stmt, build_arms, loop_start, Node, loop_nodes, nodes, nodes_in, nodes_of_arms, fall_leaf, paragraph_end_target, EscapeTargets, leaving_at, within_loop}
use Rattle.control_flow_theory.specs.lowering.Lowered.{total, place_in, nodes_left, nodes_from, nodes_of}
use Rattle.control_flow_theory.specs.lowering.Rests.{Sent, rest_from, leaf_of, leaving_of, tree_of, after_loop, at_loop}
use Rattle.control_flow_theory.specs.main_theorem.Numbering.{control_counters, stmt_counters, stmts_counters, arms_counters, paragraph_counters, paragraphs_counters, counters_of}
use Rattle.added_items.specs.counters.Counting.{tested_cell, picked_cell, ended_cell, if_head}

abbrev pub listed : Option ℕ → List ℕ
listed None = []
listed (Some cell) = cell ∷ []

-- the end asks for no cell
abbrev Calm : End → Type 0
Calm end = ended_cell end ≡ None

-- no end at such a label does
abbrev Apart : Label → Type 0
Apart label = (cell : ℕ) → (label == loop_head_label cell) ≡ false

apart-none : (label : Label) (cell : Option ℕ) → Apart label → if_head label cell ≡ None
apart-none label None h = refl
apart-none label (Some cell) h = ap (λ b. if b then Some cell else None) (h cell)

at-point : (n : ℕ) → Apart (point n)
at-point n cell = elim (eqb_tells (point n) (loop_head_label cell)) [
  | inl e ↦ absurd (let k = e.1 in omega (arith, k))
  | inr e ↦ e.0
]

at-third : (n : ℕ) → Apart (loop_step_label n)
at-third n cell = elim (eqb_tells (loop_step_label n) (loop_head_label cell)) [
  | inl e ↦ absurd (let k = e.1 in omega (arith, k))
  | inr e ↦ e.0
]

at-head : (n : ℕ) → (loop_head_label n == loop_head_label n) ≡ true
at-head n = elim (eqb_tells (loop_head_label n) (loop_head_label n)) [ inl e ↦ e.0 | inr e ↦ absurd (e.1 refl) ]

own-calm : (test : Test) → OwnTest test → tested_cell test ≡ None
own-calm (Holds cond) own = refl
own-calm (Not test) own = refl
own-calm (Is cell value) own = absurd own
own-calm (Above cell) own = absurd own

picker-calm : (told : FlowFacts) (picker : Picker) (arms : ℕ) → OwnPicker told picker arms → picked_cell picker ≡ None
picker-calm told (If test) arms own = own-calm test own.0
picker-calm told (By chooser) arms own = refl
picker-calm told (ByCell cell) arms own = absurd own

abbrev test_end : Test → Tree → Tree → End
test_end test holds fails = Pick (If test) (more holds (more fails no_more))

-- The counters at the heads that are kept.
module _ (keep : Label → Bool) where
  abbrev pub head_at : Label → End → List ℕ
  head_at label end = if keep label then listed (if_head label (ended_cell end)) else []

  abbrev pub heads : List Node → List ℕ
  heads [] = []
  heads (one ∷ others) = head_at one.key (end_of one.tree) ++ heads others

  heads-append : (xs ys : List Node) → heads (xs ++ ys) ≡ heads xs ++ heads ys
  heads-append [] ys = refl
  heads-append (x ∷ xs) ys =
      ap (λ cells. head_at x.key (end_of x.tree) ++ cells) (heads-append xs ys)
      ∙ sym (append_assoc (head_at x.key (end_of x.tree)) (heads xs) (heads ys))

  both : (a b c d : List ℕ) → a ≡ c → b ≡ d → a ++ b ≡ c ++ d
  both a b c d e f = ap (λ xs. xs ++ b) e ∙ ap (λ ys. c ++ ys) f

  no-head : (label : Label) (end : End) → if_head label (ended_cell end) ≡ None → head_at label end ≡ []
  no-head label end h =
      elim (keep label) as (λ b. (if b then listed (if_head label (ended_cell end)) else []) ≡ []) [
        | true ↦ ap listed h
        | false ↦ refl
      ]

  apart-head : (label : Label) (end : End) → Apart label → head_at label end ≡ []
  apart-head label end h = no-head label end (apart-none label (ended_cell end) h)

  calm-head : (label : Label) (end : End) → Calm end → head_at label end ≡ []
  calm-head label end h = no-head label end (ap (if_head label) h)

  third-head : (n : ℕ) (end : End) → head_at (loop_step_label n) end ++ [] ≡ []
  third-head n end = ap (λ xs. xs ++ []) (apart-head (loop_step_label n) end (at-third n))

  -- a loop by TIMES has its counter at its head, and no other loop has one
  loop-heads : (control : Control) (n : ℕ) (body : Tree) (after : End) → OwnControl control → Calm (end_of body) →
      heads (loop_nodes control n body after) ≡ control_counters keep control n
  loop-heads (Times amount) n body after own h =
      elim (keep (loop_head_label n)) as (λ b. (if b then listed (if loop_head_label n == loop_head_label n then Some n else None) else []) ++ [] ≡ (if b then n ∷ [] else [])) [
        | true ↦ ap (λ b. listed (if b then Some n else None) ++ []) (at-head n)
        | false ↦ refl
      ]
  loop-heads (Until false test) n body after own h =
      ap (λ xs. xs ++ []) (calm-head (loop_head_label n) (test_end test (end_alone after) body) (own-calm test own))
  loop-heads (Until true test) n body after own h =
      both (head_at (loop_head_label n) (end_of body)) (head_at (loop_step_label n) (test_end test (end_alone after) (end_alone (Jump (loop_head_label n)))) ++ []) [] []
      (calm-head (loop_head_label n) (end_of body) h) (third-head n (test_end test (end_alone after) (end_alone (Jump (loop_head_label n)))))
  loop-heads (Varying false set step test) n body after own h =
      both (head_at (loop_head_label n) (test_end test (end_alone after) body)) (head_at (loop_step_label n) (Jump (loop_head_label n)) ++ []) [] []
      (calm-head (loop_head_label n) (test_end test (end_alone after) body) (own-calm test own.2)) (third-head n (Jump (loop_head_label n)))
  loop-heads (Varying true set step test) n body after own h =
      let stepped = tree (also (language.Do step) none) (Jump (loop_head_label n)) in
      both (head_at (loop_head_label n) (end_of body)) (head_at (loop_step_label n) (test_end test (end_alone after) stepped) ++ []) [] []
      (calm-head (loop_head_label n) (end_of body) h) (third-head n (test_end test (end_alone after) stepped))

-- Wherever what leaves goes on, no cell is asked for.
abbrev CalmLeaving : EscapeTargets → Type 0
CalmLeaving leaving = Calm leaving.sentence × Calm leaving.paragraph × ((last : ℕ) → Calm (leaving.section last)) × Calm leaving.loop × Calm leaving.cycle

module _ (told : FlowFacts) (place_of : ℕ → ℕ) (paragraphs : ℕ) where
  leaf-calm : (ss : Stmts) (n : ℕ) (after : End) → Calm after → Calm (leaf told place_of ss n after)
  leaf-calm none n after w = w
  leaf-calm (also (language.Do act) ss) n after w =
      elim (skips told act) as (λ b. Calm (if b then leaf told place_of ss (n + 1) after else Jump (point n))) [ true ↦ leaf-calm ss (n + 1) after w | false ↦ refl ]
  leaf-calm (also (Choose picker arms) ss) n after w = refl
  leaf-calm (also (Loop control body) ss) n after w = refl
  leaf-calm (also (Perform e x) ss) n after w = refl
  leaf-calm (also (Go to) ss) n after w = refl
  leaf-calm (also (GoDepending to on) ss) n after w = refl
  leaf-calm (also NextSentence ss) n after w = refl
  leaf-calm (also ExitParagraph ss) n after w = refl
  leaf-calm (also (ExitSection last) ss) n after w = refl
  leaf-calm (also (ExitPerform cycle) ss) n after w = refl
  leaf-calm (also StopRun ss) n after w = refl

  push-calm : (s : Stmt) (t : Tree) → Calm (end_of t) → Calm (end_of (push told place_of s t))
  push-calm s t h = elim (completes told s) as (λ b. Calm (end_of (if b then with_first (cut told s) t else tree (also (cut told s) none) Dead))) [ true ↦ h | false ↦ refl ]

  start-calm : (control : Control) (n : ℕ) → Calm (end_of (loop_start control n))
  start-calm (Times amount) n = refl
  start-calm (Until after test) n = refl
  start-calm (Varying after set step test) n = refl

  mutual
    build-stmt-calm : (s : Stmt) (n : ℕ) (leaving : EscapeTargets) (after : End) (behind : Tree) → OwnStmt told paragraphs s →
        CalmLeaving leaving → Calm (end_of behind) → Calm (end_of (build_stmt told place_of s n leaving after behind))
    build-stmt-calm (language.Do act) n leaving after behind own ws h =
        elim (skips told act) as (λ b. Calm (end_of (if b then behind else push told place_of (language.Do act) behind))) [ true ↦ h | false ↦ push-calm (language.Do act) behind h ]
    build-stmt-calm (Choose picker arms) n leaving after behind own ws h =
        let trees = build_arms told place_of (first_is_dead told picker) arms (n + 1) leaving after in
        elim (whole (cut told (Choose picker arms))) as (λ b. Calm (end_of (if b then push told place_of (Choose picker arms) behind else end_alone (Pick picker trees)))) [
          | true ↦ push-calm (Choose picker arms) behind h
          | false ↦ picker-calm told picker (arm_count arms) own.0
        ]
    build-stmt-calm (Loop control (Nested body)) n leaving after behind own ws h =
        elim (wholes (cuts told body)) as (λ b. Calm (end_of (if b then push told place_of (Loop control (Nested body)) behind else loop_start control n))) [
          | true ↦ push-calm (Loop control (Nested body)) behind h
          | false ↦ start-calm control n
        ]
    build-stmt-calm (Loop control (Performed e x)) n leaving after behind own ws h = push-calm (Loop control (Performed e x)) behind h
    build-stmt-calm (Perform e x) n leaving after behind own ws h = push-calm (Perform e x) behind h
    build-stmt-calm (Go to) n leaving after behind own ws h = refl
    build-stmt-calm (GoDepending to on) n leaving after behind own ws h = refl
    build-stmt-calm NextSentence n leaving after behind own ws h = ws.0
    build-stmt-calm ExitParagraph n leaving after behind own ws h = ws.1
    build-stmt-calm (ExitSection last) n leaving after behind own ws h = ws.2 last
    build-stmt-calm (ExitPerform false) n leaving after behind own ws h = ws.3
    build-stmt-calm (ExitPerform true) n leaving after behind own ws h = ws.4
    build-stmt-calm StopRun n leaving after behind own ws h = refl

    build-calm : (ss : Stmts) (n : ℕ) (leaving : EscapeTargets) (after : End) (behind : Tree) → OwnStmts told paragraphs ss →
        CalmLeaving leaving → Calm (end_of behind) → Calm (end_of (build told place_of ss n leaving after behind))
    build-calm none n leaving after behind own ws h = h
    build-calm (also s ss) n leaving after behind own ws h =
        build-stmt-calm s n leaving (leaf told place_of ss (n + size s) after) (build told place_of ss (n + size s) leaving after behind) own.0 ws
        (build-calm ss (n + size s) leaving after behind own.1 ws h)

  module _ (keep : Label → Bool) where
    mutual
      in-heads : (s : Stmt) (n : ℕ) (leaving : EscapeTargets) (after : End) (behind : Tree) → OwnStmt told paragraphs s →
          CalmLeaving leaving → Calm after → heads keep (nodes_in told place_of s n leaving after behind) ≡ stmt_counters keep s n
      in-heads (language.Do act) n leaving after behind own ws wa = refl
      in-heads (Choose picker arms) n leaving after behind own ws wa = arms-heads arms (n + 1) leaving after behind own.1 ws wa
      in-heads (Loop control (Nested body)) n leaving after behind own ws wa =
          let turn = Jump (loop_back_label control n) in
          let inner = within_loop leaving after turn in
          let wl : CalmLeaving inner = (ws.0, ws.1, ws.2, wa, refl) in
          let built = build told place_of body (n + 1) inner turn (end_alone turn) in
          let inside = nodes told place_of body (n + 1) inner turn (end_alone turn) in
          heads-append keep (loop_nodes control n built after) inside
          ∙ both keep (heads keep (loop_nodes control n built after)) (heads keep inside) (control_counters keep control n) (stmts_counters keep body (n + 1))
          (loop-heads keep control n built after own.0 (build-calm body (n + 1) inner turn (end_alone turn) own.1 wl refl))
          (stmts-heads body (n + 1) inner turn (end_alone turn) own.1 wl refl)
      in-heads (Loop control (Performed e x)) n leaving after behind own ws wa = refl
      in-heads (Perform e x) n leaving after behind own ws wa = refl
      in-heads (Go to) n leaving after behind own ws wa = refl
      in-heads (GoDepending to on) n leaving after behind own ws wa = refl
      in-heads NextSentence n leaving after behind own ws wa = refl
      in-heads ExitParagraph n leaving after behind own ws wa = refl
      in-heads (ExitSection last) n leaving after behind own ws wa = refl
      in-heads (ExitPerform cycle) n leaving after behind own ws wa = refl
      in-heads StopRun n leaving after behind own ws wa = refl

      stmts-heads : (ss : Stmts) (n : ℕ) (leaving : EscapeTargets) (after : End) (behind : Tree) → OwnStmts told paragraphs ss →
          CalmLeaving leaving → Calm after → heads keep (nodes told place_of ss n leaving after behind) ≡ stmts_counters keep ss n
      stmts-heads none n leaving after behind own ws wa = refl
      stmts-heads (also s ss) n leaving after behind own ws wa =
          let lf = leaf told place_of ss (n + size s) after in
          let bt = build told place_of ss (n + size s) leaving after behind in
          let xs = nodes_in told place_of s n leaving lf bt in
          let ys = nodes told place_of ss (n + size s) leaving after behind in
          ap (λ cells. cells ++ heads keep (xs ++ ys)) (apart-head keep (point n) (end_of (build_stmt told place_of s n leaving lf bt)) (at-point n))
          ∙ heads-append keep xs ys
          ∙ both keep (heads keep xs) (heads keep ys) (stmt_counters keep s n) (stmts_counters keep ss (n + size s))
          (in-heads s n leaving lf bt own.0 ws (leaf-calm ss (n + size s) after wa))
          (stmts-heads ss (n + size s) leaving after behind own.1 ws wa)

      arms-heads : (arms : Arms) (n : ℕ) (leaving : EscapeTargets) (after : End) (behind : Tree) → OwnArms told paragraphs arms →
          CalmLeaving leaving → Calm after → heads keep (nodes_of_arms told place_of arms n leaving after behind) ≡ arms_counters keep arms n
      arms-heads done n leaving after behind own ws wa = refl
      arms-heads (given arm others) n leaving after behind own ws wa =
          let xs = nodes told place_of arm n leaving after behind in
          let ys = nodes_of_arms told place_of others (n + sizes arm) leaving after behind in
          heads-append keep xs ys
          ∙ both keep (heads keep xs) (heads keep ys) (stmts_counters keep arm n) (arms_counters keep others (n + sizes arm))
          (stmts-heads arm n leaving after behind own.0 ws wa)
          (arms-heads others (n + sizes arm) leaving after behind own.1 ws wa)
      arms-heads (missing others) n leaving after behind own ws wa = arms-heads others n leaving after behind own ws wa

module _ (told : FlowFacts) (program : Program) (range : Range) (keep : Label → Bool) where
  abbrev places : ℕ → ℕ
  places q = place_in program q

  abbrev count : ℕ
  count = length program.paragraphs

  -- the ends of a paragraph ask for no cell
  abbrev CalmParagraph : EscapeTargets → Type 0
  CalmParagraph end = Calm end.paragraph × ((last : ℕ) → Calm (end.section last))

  left-leaf-calm : (end : EscapeTargets) (n : ℕ) (ss : Paragraph) → CalmParagraph end → Calm (leaf_of told places end (rest_from told n ss))
  left-leaf-calm end n [] w = w.0
  left-leaf-calm end n (s ∷ ss) w = leaf-calm told places count s n (leaf_of told places end (rest_from told (n + sizes s) ss)) (left-leaf-calm end (n + sizes s) ss w)

  left-loop-calm : (end : EscapeTargets) (n : ℕ) (ss : Paragraph) → Calm end.paragraph → Calm (leaf_of told places end (after_loop (rest_from told n ss)))
  left-loop-calm end n [] w = w
  left-loop-calm end n (s ∷ ss) w = left-loop-calm end (n + sizes s) ss w

  left-turn-calm : (end : EscapeTargets) (n : ℕ) (ss : Paragraph) → Calm end.paragraph → Calm (leaf_of told places end (at_loop (rest_from told n ss)))
  left-turn-calm end n [] w = w
  left-turn-calm end n (s ∷ ss) w = left-turn-calm end (n + sizes s) ss w

  left-heads : (end : EscapeTargets) (n : ℕ) (ss : Paragraph) → OwnParagraph told count ss → CalmParagraph end →
      heads keep (nodes_left told program end (rest_from told n ss)) ≡ paragraph_counters keep ss n
  left-heads end n [] own w = refl
  left-heads end n (s ∷ ss) own w =
      let rest = rest_from told (n + sizes s) ss in
      let sent = Sent (leave_sentence (cuts told s)) rest in
      let wl = left-leaf-calm end (n + sizes s) ss w in
      let ws : CalmLeaving (leaving_of told places end sent) = (wl, w.0, w.1, left-loop-calm end (n + sizes s) ss w.0, left-turn-calm end (n + sizes s) ss w.0) in
      let xs = nodes told places s n (leaving_of told places end sent) (leaf_of told places end sent) (tree_of told places end sent) in
      let ys = nodes_left told program end rest in
      heads-append keep xs ys
      ∙ both keep (heads keep xs) (heads keep ys) (stmts_counters keep s n) (paragraph_counters keep ss (n + sizes s))
      (stmts-heads told places count keep s n (leaving_of told places end sent) (leaf_of told places end sent) (tree_of told places end sent) own.0 ws wl)
      (left-heads end (n + sizes s) ss own.1 w)

  fall-calm : (q : ℕ) (found : Option Paragraph) → Calm (fall_leaf places q found)
  fall-calm q None = refl
  fall-calm q (Some next) = refl

  end-calm : (r : Range) (q : ℕ) → Calm (paragraph_end_target places program r q)
  end-calm Main q = fall-calm q (slice_get program.paragraphs (suc q))
  end-calm (Part e x) q = elim (nat_eq x q) as (λ b. Calm (if b then Return else fall_leaf places q (slice_get program.paragraphs (suc q)))) [ true ↦ refl | false ↦ fall-calm q (slice_get program.paragraphs (suc q)) ]

  from-heads : (q n : ℕ) (ps : List Paragraph) → OwnParagraphs told count ps →
      heads keep (nodes_from told program range q n ps) ≡ paragraphs_counters keep ps n
  from-heads q n [] own = refl
  from-heads q n (ss ∷ others) own =
      let end = leaving_at places program range q in
      let xs = nodes_left told program end (rest_from told (n + 1) ss) in
      let ys = nodes_from told program range (suc q) (n + 1 + total ss) others in
      ap (λ cells. cells ++ heads keep (xs ++ ys)) (apart-head keep (point n) (end_of (tree_of told places end (rest_from told (n + 1) ss))) (at-point n))
      ∙ heads-append keep xs ys
      ∙ both keep (heads keep xs) (heads keep ys) (paragraph_counters keep ss (n + 1)) (paragraphs_counters keep others (n + 1 + total ss))
      (left-heads end (n + 1) ss own.0 (end-calm range q, end-calm range))
      (from-heads (suc q) (n + 1 + total ss) others own.1)

  -- the counters at kept heads are those of the loops whose heads are kept
  pub heads-count : IsSource told program → heads keep (nodes_of told program range) ≡ counters_of keep program
  heads-count source = from-heads 0 0 program.paragraphs source
