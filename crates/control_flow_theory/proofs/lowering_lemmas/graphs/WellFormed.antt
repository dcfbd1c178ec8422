-- The form of lowered graphs.
use Rattle.std.proofs.Common.{◌≡◌, ℕ, zero, suc, ◌+◌, ◌<◌, Bool, true, false, if◌then◌else◌, nat_eq, List, [], ◌∷◌, ◌++◌, refl, ap, sym, ◌∙◌, subst, arith, inl, inr, Option, Some, None}
use Rattle.std.specs.Prelude.{slice_get, length}
use Rattle.control_flow_theory.specs.language.Language.{Picker, If, By, ByCell, Control, Times, Until, Varying, Stmt, Do, Choose, Loop, Perform, Go, GoDepending, NextSentence, ExitParagraph, ExitSection, ExitPerform, StopRun, Stmts, none, also, Arms, done, given, missing, Nested, Performed, Paragraph, Program, Range, Main, Part}
use Rattle.control_flow_theory.specs.semantics.Graph.{Label, Tree, tree, End, Pick, Jump, Return, Dead, Trees, more}
use Rattle.control_flow_theory.specs.lowering.FlowFacts.{FlowFacts, FirstMayBeMissing, IsSource, OwnPicker, OwnStmt, OwnStmts, OwnArms, OwnParagraph, OwnParagraphs, AllBelow, arm_count}
use Rattle.control_flow_theory.specs.lowering.Completes.{completes, cut, cuts, whole, wholes, leave_sentence, size, sizes, skips, first_is_dead}
use Rattle.control_flow_theory.specs.lowering.Lower.{point, loop_head_label, end_alone, with_first, push, loop_back_label, leaf, build, build_stmt, build_arms, depending, loop_start, Node, loop_nodes, nodes, nodes_in, nodes_of_arms, fall_leaf, paragraph_end_target, EscapeTargets, leaving_at, within_loop}
use Rattle.control_flow_theory.specs.lowering.Rests.{Rest, Sent, rest_from, leaf_of, leaving_of, tree_of, after_loop, at_loop}
use Rattle.control_flow_theory.specs.lowering.Lowered.{total, place_from, place_in, nodes_left, nodes_from, nodes_of}
use Rattle.control_flow_theory.specs.lowering.WellFormed.{HasDeadFirst, IsLabelOf, tree_count, HasArms, IsWellEnd, AreWell, IsWellTree, AllAreWell}

own-arms : (told : FlowFacts) (picker : Picker) (arms : ℕ) → OwnPicker told picker arms → HasArms told picker arms
own-arms told (If test) arms own = own.1
own-arms told (By chooser) arms own = own
own-arms told (ByCell cell) arms own = tt

-- each of these labels is one of those
abbrev Among : List Node → List Node → Type 0
Among labels [] = Unit {0}
Among labels (x ∷ xs) = IsLabelOf labels x.key × Among labels xs

among-left : (labels xs ys : List Node) → Among labels (xs ++ ys) → Among labels xs
among-left labels [] ys h = tt
among-left labels (x ∷ xs) ys h = (h.0, among-left labels xs ys h.1)

among-right : (labels xs ys : List Node) → Among labels (xs ++ ys) → Among labels ys
among-right labels [] ys h = h
among-right labels (x ∷ xs) ys h = among-right labels xs ys h.1

among-more : (y : Node) (labels xs : List Node) → Among labels xs → Among (y ∷ labels) xs
among-more y labels [] h = tt
among-more y labels (x ∷ xs) h = (inr h.0, among-more y labels xs h.1)

among-self : (xs : List Node) → Among xs xs
among-self [] = tt
among-self (x ∷ xs) = (inl refl, among-more x xs xs (among-self xs))

label-right : (xs ys : List Node) (l : Label) → IsLabelOf ys l → IsLabelOf (xs ++ ys) l
label-right [] ys l h = h
label-right (x ∷ xs) ys l h = inr (label-right xs ys l h)

all-append : (told : FlowFacts) (labels xs ys : List Node) → AllAreWell told labels xs → AllAreWell told labels ys → AllAreWell told labels (xs ++ ys)
all-append told labels [] ys h k = k
all-append told labels (x ∷ xs) ys h k = (h.0, all-append told labels xs ys h.1 k)

module _ (told : FlowFacts) (place_of : ℕ → ℕ) (paragraphs : ℕ) (labels : List Node) (named : (q : ℕ) → q < paragraphs → IsLabelOf labels (point (place_of q))) where
  abbrev WellEnd : End → Type 0
  WellEnd end = IsWellEnd told labels end

  abbrev WellTree : Tree → Type 0
  WellTree t = IsWellTree told labels t

  leaf-well : (ss : Stmts) (n : ℕ) (after : End) (s0 : EscapeTargets) (a0 : End) (b0 : Tree) → OwnStmts told paragraphs ss → Among labels (nodes told place_of ss n s0 a0 b0) → WellEnd after → WellEnd (leaf told place_of ss n after)
  leaf-well none n after s0 a0 b0 own h w = w
  leaf-well (also (Do act) ss) n after s0 a0 b0 own h w =
      elim (skips told act) as (λ b. WellEnd (if b then leaf told place_of ss (n + 1) after else Jump (point n))) [
        | true ↦ leaf-well ss (n + 1) after s0 a0 b0 own.1 h.1 w
        | false ↦ h.0
      ]
  leaf-well (also (Choose picker arms) ss) n after s0 a0 b0 own h w = h.0
  leaf-well (also (Loop control body) ss) n after s0 a0 b0 own h w = h.0
  leaf-well (also (Perform e x) ss) n after s0 a0 b0 own h w = h.0
  leaf-well (also (Go to) ss) n after s0 a0 b0 own h w = named to own.0
  leaf-well (also (GoDepending to on) ss) n after s0 a0 b0 own h w = h.0
  leaf-well (also NextSentence ss) n after s0 a0 b0 own h w = h.0
  leaf-well (also ExitParagraph ss) n after s0 a0 b0 own h w = h.0
  leaf-well (also (ExitSection last) ss) n after s0 a0 b0 own h w = h.0
  leaf-well (also (ExitPerform cycle) ss) n after s0 a0 b0 own h w = h.0
  leaf-well (also StopRun ss) n after s0 a0 b0 own h w = tt

  only-well : (end : End) → WellEnd end → WellTree (end_alone end)
  only-well end w = (refl, w)

  first-well : (s : Stmt) (t : Tree) → whole s ≡ true → WellTree t → WellTree (with_first s t)
  first-well s (tree body end) w h = (ap (λ b. if b then wholes body else false) w ∙ h.0, h.1)

  push-well : (s : Stmt) (t : Tree) → whole (cut told s) ≡ true → WellTree t → WellTree (push told place_of s t)
  push-well s t w h = elim (completes told s) as (λ b. WellTree (if b then with_first (cut told s) t else tree (also (cut told s) none) Dead)) [
    | true ↦ first-well (cut told s) t w h
    | false ↦ (ap (λ b. if b then true else false) w, tt)
  ]

  trees-more : (t : Tree) (ts : Trees) → WellTree t → AreWell told labels ts → AreWell told labels (more t ts)
  trees-more (tree body end) ts h k = (h.0, h.1, k)

  depending-count : (to : List ℕ) (after : End) → tree_count (depending told place_of to after) ≡ suc (length to)
  depending-count [] after = refl
  depending-count (t ∷ ts) after = ap suc (depending-count ts after)

  depending-well : (to : List ℕ) (after : End) → AllBelow paragraphs to → WellEnd after → AreWell told labels (depending told place_of to after)
  depending-well [] after below w = (refl, w, tt)
  depending-well (t ∷ ts) after below w = (refl, named t below.0, depending-well ts after below.1 w)

  -- wherever what leaves goes on, that is well formed
  abbrev pub WellLeaving : EscapeTargets → Type 0
  WellLeaving leaving = WellEnd leaving.sentence × WellEnd leaving.paragraph × ((last : ℕ) → WellEnd (leaving.section last)) × WellEnd leaving.loop × WellEnd leaving.cycle

  arms-count : (first : Bool) (arms : Arms) (n : ℕ) (leaving : EscapeTargets) (after : End) → tree_count (build_arms told place_of first arms n leaving after) ≡ arm_count arms
  arms-count first done n leaving after = refl
  arms-count first (given arm others) n leaving after = ap suc (arms-count false others (n + sizes arm) leaving after)
  arms-count first (missing others) n leaving after = ap suc (arms-count false others n leaving after)

  dead-first : (picker : Picker) (arms : Arms) (n : ℕ) (leaving : EscapeTargets) (after : End) → FirstMayBeMissing told picker arms → HasDeadFirst told picker (build_arms told place_of (first_is_dead told picker) arms n leaving after)
  dead-first (If test) arms n leaving after own = tt
  dead-first (By chooser) done n leaving after own = own
  dead-first (By chooser) (given arm others) n leaving after own = λ e. absurd (own e)
  dead-first (By chooser) (missing others) n leaving after own = λ e. ap (λ b. end_alone (if b then Dead else after)) e
  dead-first (ByCell cell) arms n leaving after own = tt

  head-label : (control : Control) (n : ℕ) (body : Tree) (after : End) (ys : List Node) → Among labels (loop_nodes control n body after ++ ys) → IsLabelOf labels (loop_head_label n)
  head-label (Times amount) n body after ys h = h.0
  head-label (Until false test) n body after ys h = h.0
  head-label (Until true test) n body after ys h = h.0
  head-label (Varying false set step test) n body after ys h = h.0
  head-label (Varying true set step test) n body after ys h = h.0

  back-label : (control : Control) (n : ℕ) (body : Tree) (after : End) (ys : List Node) → Among labels (loop_nodes control n body after ++ ys) → IsLabelOf labels (loop_back_label control n)
  back-label (Times amount) n body after ys h = h.0
  back-label (Until false test) n body after ys h = h.0
  back-label (Until true test) n body after ys h = h.1.0
  back-label (Varying false set step test) n body after ys h = h.1.0
  back-label (Varying true set step test) n body after ys h = h.1.0

  start-well : (control : Control) (n : ℕ) → IsLabelOf labels (loop_head_label n) → WellTree (loop_start control n)
  start-well (Times amount) n h = (refl, h)
  start-well (Until after test) n h = (refl, h)
  start-well (Varying after set step test) n h = (refl, h)

  mutual
    build-stmt-well : (s : Stmt) (n : ℕ) (leaving : EscapeTargets) (after : End) (behind : Tree) (s0 : EscapeTargets) (a0 : End) (b0 : Tree) → OwnStmt told paragraphs s → Among labels (nodes_in told place_of s n s0 a0 b0) →
        WellLeaving leaving → WellEnd after → WellTree behind → WellTree (build_stmt told place_of s n leaving after behind)
    build-stmt-well (Do act) n leaving after behind s0 a0 b0 own h ws wa wb =
        elim (skips told act) as (λ b. WellTree (if b then behind else push told place_of (Do act) behind)) [ true ↦ wb | false ↦ push-well (Do act) behind refl wb ]
    build-stmt-well (Choose picker arms) n leaving after behind s0 a0 b0 own h ws wa wb =
        let trees = build_arms told place_of (first_is_dead told picker) arms (n + 1) leaving after in
        elim (whole (cut told (Choose picker arms))) as (λ b. whole (cut told (Choose picker arms)) ≡ b → WellTree (if b then push told place_of (Choose picker arms) behind else end_alone (Pick picker trees))) [
          | true ↦ λ e. push-well (Choose picker arms) behind e wb
          | false ↦ λ e. (
            refl,
            (
              subst (HasArms told picker) (sym (arms-count (first_is_dead told picker) arms (n + 1) leaving after)) (own-arms told picker (arm_count arms) own.0),
              arms-well (first_is_dead told picker) arms (n + 1) leaving after s0 a0 b0 own.1 h ws wa,
              dead-first picker arms (n + 1) leaving after own.2,
            ),
          )
        ] refl
    build-stmt-well (Loop control (Nested body)) n leaving after behind s0 a0 b0 own h ws wa wb =
        let b1 = Jump (loop_back_label control n) in
        elim (wholes (cuts told body)) as (λ b. wholes (cuts told body) ≡ b → WellTree (if b then push told place_of (Loop control (Nested body)) behind else loop_start control n)) [
          | true ↦ λ e. push-well (Loop control (Nested body)) behind e wb
          | false ↦ λ e. start-well control n (head-label control n (build told place_of body (n + 1) (within_loop s0 a0 b1) b1 (end_alone b1)) a0 (nodes told place_of body (n + 1) (within_loop s0 a0 b1) b1 (end_alone b1)) h)
        ] refl
    build-stmt-well (Loop control (Performed e x)) n leaving after behind s0 a0 b0 own h ws wa wb = push-well (Loop control (Performed e x)) behind refl wb
    build-stmt-well (Perform e x) n leaving after behind s0 a0 b0 own h ws wa wb = push-well (Perform e x) behind refl wb
    build-stmt-well (Go to) n leaving after behind s0 a0 b0 own h ws wa wb = (refl, named to own)
    build-stmt-well (GoDepending to on) n leaving after behind s0 a0 b0 own h ws wa wb = (refl, (own.0 ∙ sym (depending-count to after), depending-well to after own.1 wa, λ e. absurd (let k : true ≡ false = sym e ∙ own.2 in cc)))
    build-stmt-well NextSentence n leaving after behind s0 a0 b0 own h ws wa wb = (refl, ws.0)
    build-stmt-well ExitParagraph n leaving after behind s0 a0 b0 own h ws wa wb = (refl, ws.1)
    build-stmt-well (ExitSection last) n leaving after behind s0 a0 b0 own h ws wa wb = (refl, ws.2 last)
    build-stmt-well (ExitPerform false) n leaving after behind s0 a0 b0 own h ws wa wb = (refl, ws.3)
    build-stmt-well (ExitPerform true) n leaving after behind s0 a0 b0 own h ws wa wb = (refl, ws.4)
    build-stmt-well StopRun n leaving after behind s0 a0 b0 own h ws wa wb = (refl, tt)

    build-well : (ss : Stmts) (n : ℕ) (leaving : EscapeTargets) (after : End) (behind : Tree) (s0 : EscapeTargets) (a0 : End) (b0 : Tree) → OwnStmts told paragraphs ss → Among labels (nodes told place_of ss n s0 a0 b0) →
        WellLeaving leaving → WellEnd after → WellTree behind → WellTree (build told place_of ss n leaving after behind)
    build-well none n leaving after behind s0 a0 b0 own h ws wa wb = wb
    build-well (also s ss) n leaving after behind s0 a0 b0 own h ws wa wb =
        let ins = nodes_in told place_of s n s0 (leaf told place_of ss (n + size s) a0) (build told place_of ss (n + size s) s0 a0 b0) in
        let rest = nodes told place_of ss (n + size s) s0 a0 b0 in
        let later = among-right labels ins rest h.1 in
        build-stmt-well s n leaving (leaf told place_of ss (n + size s) after) (build told place_of ss (n + size s) leaving after behind) s0 (leaf told place_of ss (n + size s) a0) (build told place_of ss (n + size s) s0 a0 b0) own.0
        (among-left labels ins rest h.1) ws (leaf-well ss (n + size s) after s0 a0 b0 own.1 later wa) (build-well ss (n + size s) leaving after behind s0 a0 b0 own.1 later ws wa wb)

    arms-well : (first : Bool) (arms : Arms) (n : ℕ) (leaving : EscapeTargets) (after : End) (s0 : EscapeTargets) (a0 : End) (b0 : Tree) → OwnArms told paragraphs arms → Among labels (nodes_of_arms told place_of arms n s0 a0 b0) →
        WellLeaving leaving → WellEnd after → AreWell told labels (build_arms told place_of first arms n leaving after)
    arms-well first done n leaving after s0 a0 b0 own h ws wa = tt
    arms-well first (given arm others) n leaving after s0 a0 b0 own h ws wa =
        let xs = nodes told place_of arm n s0 a0 b0 in
        let ys = nodes_of_arms told place_of others (n + sizes arm) s0 a0 b0 in
        trees-more (build told place_of arm n leaving after (end_alone after)) (build_arms told place_of false others (n + sizes arm) leaving after)
        (build-well arm n leaving after (end_alone after) s0 a0 b0 own.0 (among-left labels xs ys h) ws wa (only-well after wa))
        (arms-well false others (n + sizes arm) leaving after s0 a0 b0 own.1 (among-right labels xs ys h) ws wa)
    arms-well true (missing others) n leaving after s0 a0 b0 own h ws wa = (refl, tt, arms-well false others n leaving after s0 a0 b0 own h ws wa)
    arms-well false (missing others) n leaving after s0 a0 b0 own h ws wa = (refl, wa, arms-well false others n leaving after s0 a0 b0 own h ws wa)

  loop-well : (control : Control) (n : ℕ) (body : Tree) (after : End) (ys : List Node) → Among labels (loop_nodes control n body after ++ ys) → WellTree body → WellEnd after → AllAreWell told labels (loop_nodes control n body after)
  loop-well (Times amount) n (tree stmts end) after ys h wb wa = ((refl, (refl, (wb.0, wb.1, (refl, wa, tt)), tt)), tt)
  loop-well (Until false test) n (tree stmts end) after ys h wb wa = ((refl, (refl, (refl, wa, (wb.0, wb.1, tt)), tt)), tt)
  loop-well (Until true test) n (tree stmts end) after ys h wb wa = (wb, ((refl, (refl, (refl, wa, (refl, h.0, tt)), tt)), tt))
  loop-well (Varying false set step test) n (tree stmts end) after ys h wb wa = ((refl, (refl, (refl, wa, (wb.0, wb.1, tt)), tt)), ((refl, h.0), tt))
  loop-well (Varying true set step test) n (tree stmts end) after ys h wb wa = (wb, ((refl, (refl, (refl, wa, (refl, h.0, tt)), tt)), tt))

  mutual
    nodes-in-well : (s : Stmt) (n : ℕ) (leaving : EscapeTargets) (after : End) (behind : Tree) → OwnStmt told paragraphs s → Among labels (nodes_in told place_of s n leaving after behind) →
        WellLeaving leaving → WellEnd after → WellTree behind → AllAreWell told labels (nodes_in told place_of s n leaving after behind)
    nodes-in-well (Do act) n leaving after behind own h ws wa wb = tt
    nodes-in-well (Choose picker arms) n leaving after behind own h ws wa wb = arms-nodes-well arms (n + 1) leaving after behind own.1 h ws wa wb
    nodes-in-well (Loop control (Nested body)) n leaving after behind own h ws wa wb =
        let b1 = Jump (loop_back_label control n) in
        let in_body = within_loop leaving after b1 in
        let built = build told place_of body (n + 1) in_body b1 (end_alone b1) in
        let ys = nodes told place_of body (n + 1) in_body b1 (end_alone b1) in
        let inner = among-right labels (loop_nodes control n built after) ys h in
        let wj = back-label control n built after ys h in
        let wl : WellLeaving in_body = (ws.0, ws.1, ws.2, wa, wj) in
        all-append told labels (loop_nodes control n built after) ys
        (loop-well control n built after ys h (build-well body (n + 1) in_body b1 (end_alone b1) in_body b1 (end_alone b1) own.1 inner wl wj (refl, wj)) wa)
        (nodes-well body (n + 1) in_body b1 (end_alone b1) own.1 inner wl wj (refl, wj))
    nodes-in-well (Loop control (Performed e x)) n leaving after behind own h ws wa wb = tt
    nodes-in-well (Perform e x) n leaving after behind own h ws wa wb = tt
    nodes-in-well (Go to) n leaving after behind own h ws wa wb = tt
    nodes-in-well (GoDepending to on) n leaving after behind own h ws wa wb = tt
    nodes-in-well NextSentence n leaving after behind own h ws wa wb = tt
    nodes-in-well ExitParagraph n leaving after behind own h ws wa wb = tt
    nodes-in-well (ExitSection last) n leaving after behind own h ws wa wb = tt
    nodes-in-well (ExitPerform cycle) n leaving after behind own h ws wa wb = tt
    nodes-in-well StopRun n leaving after behind own h ws wa wb = tt

    nodes-well : (ss : Stmts) (n : ℕ) (leaving : EscapeTargets) (after : End) (behind : Tree) → OwnStmts told paragraphs ss → Among labels (nodes told place_of ss n leaving after behind) →
        WellLeaving leaving → WellEnd after → WellTree behind → AllAreWell told labels (nodes told place_of ss n leaving after behind)
    nodes-well none n leaving after behind own h ws wa wb = tt
    nodes-well (also s ss) n leaving after behind own h ws wa wb =
        let lf = leaf told place_of ss (n + size s) after in
        let bt = build told place_of ss (n + size s) leaving after behind in
        let ins = nodes_in told place_of s n leaving lf bt in
        let rest = nodes told place_of ss (n + size s) leaving after behind in
        let inside = among-left labels ins rest h.1 in
        let later = among-right labels ins rest h.1 in
        let wl = leaf-well ss (n + size s) after leaving after behind own.1 later wa in
        let wt = build-well ss (n + size s) leaving after behind leaving after behind own.1 later ws wa wb in (
          build-stmt-well s n leaving lf bt leaving lf bt own.0 inside ws wl wt,
          all-append told labels ins rest (nodes-in-well s n leaving lf bt own.0 inside ws wl wt) (nodes-well ss (n + size s) leaving after behind own.1 later ws wa wb),
        )

    arms-nodes-well : (arms : Arms) (n : ℕ) (leaving : EscapeTargets) (after : End) (behind : Tree) → OwnArms told paragraphs arms → Among labels (nodes_of_arms told place_of arms n leaving after behind) →
        WellLeaving leaving → WellEnd after → WellTree behind → AllAreWell told labels (nodes_of_arms told place_of arms n leaving after behind)
    arms-nodes-well done n leaving after behind own h ws wa wb = tt
    arms-nodes-well (given arm others) n leaving after behind own h ws wa wb =
        let xs = nodes told place_of arm n leaving after behind in
        let ys = nodes_of_arms told place_of others (n + sizes arm) leaving after behind in
        all-append told labels xs ys (nodes-well arm n leaving after behind own.0 (among-left labels xs ys h) ws wa wb) (arms-nodes-well others (n + sizes arm) leaving after behind own.1 (among-right labels xs ys h) ws wa wb)
    arms-nodes-well (missing others) n leaving after behind own h ws wa wb = arms-nodes-well others n leaving after behind own h ws wa wb

module _ (told : FlowFacts) (program : Program) (range : Range) where
  abbrev places : ℕ → ℕ
  places q = place_in program q

  -- a paragraph's label is one of the labels
  paragraph-label : (q n k : ℕ) (ps : List Paragraph) → k < length ps → IsLabelOf (nodes_from told program range q n ps) (point (place_from n ps k))
  paragraph-label q n k [] lt = absurd (omega (arith, lt))
  paragraph-label q n zero (ss ∷ others) lt = inl refl
  paragraph-label q n (suc k) (ss ∷ others) lt =
      inr (label-right (nodes_left told program (leaving_at places program range q) (rest_from told (n + 1) ss)) (nodes_from told program range (suc q) (n + 1 + total ss) others) (point (place_from (n + 1 + total ss) others k))
      (paragraph-label (suc q) (n + 1 + total ss) k others (omega (arith, lt))))

  pub named-label : (q : ℕ) → q < length program.paragraphs → IsLabelOf (nodes_of told program range) (point (places q))
  named-label q lt = paragraph-label 0 0 q program.paragraphs lt

  abbrev WellE : End → Type 0
  WellE end = IsWellEnd told (nodes_of told program range) end

  -- the ends of paragraphs are
  abbrev WellParagraph : EscapeTargets → Type 0
  WellParagraph end = WellE end.paragraph × ((last : ℕ) → WellE (end.section last))

  abbrev AmongAll : List Node → Type 0
  AmongAll xs = Among (nodes_of told program range) xs

  abbrev count : ℕ
  count = length program.paragraphs

  left-leaf-well : (end : EscapeTargets) (n : ℕ) (ss : Paragraph) → OwnParagraph told count ss → AmongAll (nodes_left told program end (rest_from told n ss)) → WellParagraph end → WellE (leaf_of told places end (rest_from told n ss))
  left-leaf-well end n [] own h w = w.0
  left-leaf-well end n (s ∷ ss) own h w =
      let c = Sent (leave_sentence (cuts told s)) (rest_from told (n + sizes s) ss) in
      let xs = nodes told places s n (leaving_of told places end c) (leaf_of told places end c) (tree_of told places end c) in
      let ys = nodes_left told program end (rest_from told (n + sizes s) ss) in
      leaf-well told places count (nodes_of told program range) named-label s n (leaf_of told places end c) (leaving_of told places end c) (leaf_of told places end c) (tree_of told places end c) own.0 (among-left (nodes_of told program range) xs ys h)
      (left-leaf-well end (n + sizes s) ss own.1 (among-right (nodes_of told program range) xs ys h) w)

  -- behind a sentence of the paragraph no loop is held
  loop-well-left : (end : EscapeTargets) (n : ℕ) (ss : Paragraph) → WellE end.paragraph → WellE (leaf_of told places end (after_loop (rest_from told n ss)))
  loop-well-left end n [] w = w
  loop-well-left end n (s ∷ ss) w = loop-well-left end (n + sizes s) ss w

  turn-well-left : (end : EscapeTargets) (n : ℕ) (ss : Paragraph) → WellE end.paragraph → WellE (leaf_of told places end (at_loop (rest_from told n ss)))
  turn-well-left end n [] w = w
  turn-well-left end n (s ∷ ss) w = turn-well-left end (n + sizes s) ss w

  left-leaving-well : (end : EscapeTargets) (n : ℕ) (ss : Paragraph) → WellE (leaf_of told places end (rest_from told n ss)) → WellParagraph end →
      WellE (leaf_of told places end (rest_from told n ss)) × WellE end.paragraph × ((last : ℕ) → WellE (end.section last))
      × WellE (leaf_of told places end (after_loop (rest_from told n ss))) × WellE (leaf_of told places end (at_loop (rest_from told n ss)))
  left-leaving-well end n ss wl w = (wl, w.0, w.1, loop-well-left end n ss w.0, turn-well-left end n ss w.0)

  sent-tree-well : (end : EscapeTargets) (holds : Bool) (c : Rest) → WellE (leaf_of told places end c) → IsWellTree told (nodes_of told program range) (tree_of told places end c) → IsWellTree told (nodes_of told program range) (tree_of told places end (Sent holds c))
  sent-tree-well end true c w t = (refl, w)
  sent-tree-well end false c w t = t

  left-tree-well : (end : EscapeTargets) (n : ℕ) (ss : Paragraph) → OwnParagraph told count ss → AmongAll (nodes_left told program end (rest_from told n ss)) → WellParagraph end → IsWellTree told (nodes_of told program range) (tree_of told places end (rest_from told n ss))
  left-tree-well end n [] own h w = (refl, w.0)
  left-tree-well end n (s ∷ ss) own h w =
      let holds = leave_sentence (cuts told s) in
      let c = rest_from told (n + sizes s) ss in
      let xs = nodes told places s n (leaving_of told places end (Sent holds c)) (leaf_of told places end c) (tree_of told places end (Sent holds c)) in
      let ys = nodes_left told program end c in
      let later = among-right (nodes_of told program range) xs ys h in
      let wl = left-leaf-well end (n + sizes s) ss own.1 later w in
      build-well told places count (nodes_of told program range) named-label s n (leaving_of told places end (Sent holds c)) (leaf_of told places end c) (tree_of told places end (Sent holds c)) (leaving_of told places end (Sent holds c)) (leaf_of told places end c) (tree_of told places end (Sent holds c)) own.0
      (among-left (nodes_of told program range) xs ys h) (left-leaving-well end (n + sizes s) ss wl w) wl (sent-tree-well end holds c wl (left-tree-well end (n + sizes s) ss own.1 later w))

  left-well : (end : EscapeTargets) (n : ℕ) (ss : Paragraph) → OwnParagraph told count ss → AmongAll (nodes_left told program end (rest_from told n ss)) → WellParagraph end → AllAreWell told (nodes_of told program range) (nodes_left told program end (rest_from told n ss))
  left-well end n [] own h w = tt
  left-well end n (s ∷ ss) own h w =
      let holds = leave_sentence (cuts told s) in
      let c = rest_from told (n + sizes s) ss in
      let xs = nodes told places s n (leaving_of told places end (Sent holds c)) (leaf_of told places end c) (tree_of told places end (Sent holds c)) in
      let ys = nodes_left told program end c in
      let later = among-right (nodes_of told program range) xs ys h in
      let wl = left-leaf-well end (n + sizes s) ss own.1 later w in
      all-append told (nodes_of told program range) xs ys
      (nodes-well told places count (nodes_of told program range) named-label s n (leaving_of told places end (Sent holds c)) (leaf_of told places end c) (tree_of told places end (Sent holds c)) own.0 (among-left (nodes_of told program range) xs ys h) (left-leaving-well end (n + sizes s) ss wl w) wl
      (sent-tree-well end holds c wl (left-tree-well end (n + sizes s) ss own.1 later w)))
      (left-well end (n + sizes s) ss own.1 later w)

  found-below : (ps : List Paragraph) (k : ℕ) (next : Paragraph) → slice_get ps k ≡ Some next → k < length ps
  found-below [] k next is = cc
  found-below (x ∷ xs) zero next is = omega arith
  found-below (x ∷ xs) (suc k) next is = let e = found-below xs k next is in omega (arith, e)

  fall-well : (q : ℕ) (found : Option Paragraph) → slice_get program.paragraphs (suc q) ≡ found → WellE (fall_leaf places q found)
  fall-well q None is = tt
  fall-well q (Some next) is = named-label (suc q) (found-below program.paragraphs (suc q) next is)

  end-well : (r : Range) (q : ℕ) → WellE (paragraph_end_target places program r q)
  end-well Main q = fall-well q (slice_get program.paragraphs (suc q)) refl
  end-well (Part e x) q = elim (nat_eq x q) as (λ b. WellE (if b then Return else fall_leaf places q (slice_get program.paragraphs (suc q)))) [ true ↦ tt | false ↦ fall-well q (slice_get program.paragraphs (suc q)) refl ]

  from-well : (q n : ℕ) (ps : List Paragraph) → OwnParagraphs told count ps → AmongAll (nodes_from told program range q n ps) → AllAreWell told (nodes_of told program range) (nodes_from told program range q n ps)
  from-well q n [] own h = tt
  from-well q n (ss ∷ others) own h =
      let end = leaving_at places program range q in
      let xs = nodes_left told program end (rest_from told (n + 1) ss) in
      let ys = nodes_from told program range (suc q) (n + 1 + total ss) others in
      let here = among-left (nodes_of told program range) xs ys h.1 in (
        left-tree-well end (n + 1) ss own.0 here (end-well range q, end-well range),
        all-append told (nodes_of told program range) xs ys (left-well end (n + 1) ss own.0 here (end-well range q, end-well range)) (from-well (suc q) (n + 1 + total ss) others own.1 (among-right (nodes_of told program range) xs ys h.1)),
      )

  pub all-well : IsSource told program → AllAreWell told (nodes_of told program range) (nodes_of told program range)
  all-well source = from-well 0 0 program.paragraphs source (among-self (nodes_of told program range))
