-- The cells that lowered nodes name are counters of loops by TIMES.
use Rattle.std.proofs.Common.{◌≡◌, ℕ, suc, ◌+◌, ◌*◌, Bool, true, false, if◌then◌else◌, ◌==◌, nat_eq, List, [], ◌∷◌, ◌++◌, refl, sym, ◌∙◌, subst, inl, inr, Option, Some, None}
use Rattle.std.specs.Prelude.{slice_get, length}
use Rattle.control_flow_theory.specs.language.Language.{Act, Own, Set, Take, Lower, Test, Holds, Not, Is, Above, Picker, If, By, ByCell, Control, Times, Until, Varying, Stmt, Choose, Loop, Perform, Go, GoDepending, NextSentence, ExitParagraph, ExitSection, ExitPerform, StopRun, Stmts, none, also, Arms, done, given, missing, Body, Nested, Performed, Paragraph, Program, Range, Main, Part}
use Rattle.control_flow_theory.specs.language.Language as language
use Rattle.control_flow_theory.specs.semantics.Graph.{Label, Tree, tree, End, Pick, Jump, Return, Stop, Dead, Trees, no_more, more, end_of}
use Rattle.control_flow_theory.specs.language.Own.{OwnAct, OwnTest, OwnControl}
use Rattle.control_flow_theory.specs.lowering.FlowFacts.{FlowFacts, IsSource, OwnPicker, OwnStmt, OwnStmts, OwnArms, OwnBody, OwnParagraph, OwnParagraphs, arm_count}
use Rattle.control_flow_theory.specs.lowering.Completes.{completes, cut, cuts, cut_arms, cut_body, whole, wholes, leave_sentence, size, sizes, skips, first_is_dead}
use Rattle.control_flow_theory.specs.lowering.Lower.{point, loop_head_label, end_alone, with_first, push, loop_back_label, leaf, build, build_stmt, build_arms, depending, loop_start, Node, loop_nodes, nodes, nodes_in, nodes_of_arms, fall_leaf, paragraph_end_target, EscapeTargets, leaving_at, within_loop}
use Rattle.control_flow_theory.specs.lowering.Rests.{Rest, Sent, rest_from, leaf_of, leaving_of, tree_of, after_loop, at_loop}
use Rattle.control_flow_theory.specs.lowering.Rests as rests
use Rattle.control_flow_theory.specs.lowering.Lowered.{total, place_in, find, nodes_left, nodes_from, nodes_of}
use Rattle.control_flow_theory.specs.lowering.Reached.{JumpsTo, ArmsJumpTo, jumped, kept_nodes}
use Rattle.control_flow_theory.specs.lowering.Renamed.{act_anew, test_anew, picker_anew, control_anew, stmt_anew, stmts_anew, arms_anew, body_anew, end_anew, trees_anew, tree_anew}
use Rattle.control_flow_theory.specs.lowering.WellFormed.{AreJustReached}
use Rattle.control_flow_theory.specs.graph_rules.Fits.{ActFits, TestFits, ControlFits}
use Rattle.control_flow_theory.specs.graph_rules.Families.{Never, Count, Has, MaySet}
use Rattle.control_flow_theory.specs.graph_rules.Reduced.{kind_at, tree_in, kinds_of}
use Rattle.control_flow_theory.specs.main_theorem.Chain.{Anywhere, PickerNames, StmtNames, StmtsName, ArmsName, BodyNames, EndNames, TreesName, TreeNames, graph_nodes, lowered_graphs}
use Rattle.control_flow_theory.specs.main_theorem.NamedCells.{ControlCounts, StmtCounts, StmtsCount, ArmsCount, ParagraphCounts, ParagraphsCount, ProgramCounts, NodesName, LoweredNodesNameCounters, NumberedCountersAreNamed}
use Rattle.control_flow_theory.proofs.lowering_lemmas.graphs.Families.{found-self, within-program}

-- the labels that may be jumped to, and the counters, whose loops' heads may be
module _ (told : FlowFacts) (place_of : ℕ → ℕ) (paragraphs : ℕ) (J : Label → Type 0) (Q : ℕ → Type 0) where
  abbrev P : ℕ → Type 0
  P place = J (loop_head_label place) → Q place

  abbrev Fine : Tree → Type 0
  Fine t = ((l : Label) → JumpsTo l (end_of t) → J l) → TreeNames Q Q t

  abbrev AreFine : Trees → Type 0
  AreFine ts = ((l : Label) → ArmsJumpTo l ts → J l) → TreesName Q Q ts

  abbrev AllFine : List Node → Type 0
  AllFine [] = Unit {0}
  AllFine (x ∷ xs) = (J x.key → Fine x.tree) × AllFine xs

  all-append : (xs ys : List Node) → AllFine xs → AllFine ys → AllFine (xs ++ ys)
  all-append [] ys h k = k
  all-append (x ∷ xs) ys h k = (h.0, all-append xs ys h.1 k)

  own-act : (act : Act) → OwnAct act → ActFits (Anywhere Q Q) Q Q act
  own-act (Own simple) own = tt
  own-act (Set cell value) own = absurd own
  own-act (Take cell amount) own = absurd own
  own-act (Lower cell) own = absurd own

  own-test : (test : Test) → OwnTest test → TestFits (Anywhere Q Q) Q Q test
  own-test (Holds cond) own = tt
  own-test (Not test) own = own-test test own
  own-test (Is cell value) own = absurd own
  own-test (Above cell) own = absurd own

  own-control : (control : Control) → OwnControl control → ControlFits (Anywhere Q Q) Q Q control
  own-control (Times amount) own = tt
  own-control (Until after test) own = own-test test own
  own-control (Varying after set step test) own = (own-act set own.0, own-act step own.1, own-test test own.2)

  own-picker : (picker : Picker) (arms : ℕ) → OwnPicker told picker arms → PickerNames Q Q picker
  own-picker (If test) arms own = own-test test own.0
  own-picker (By chooser) arms own = tt
  own-picker (ByCell cell) arms own = absurd own

  mutual
    cut-names : (s : Stmt) → OwnStmt told paragraphs s → StmtNames Q Q (cut told s)
    cut-names (language.Do act) = λ own. own-act act own
    cut-names (Choose picker arms) = λ own. (own-picker picker (arm_count arms) own.0, cut-arms-name arms own.1)
    cut-names (Loop control body) = λ own. (own-control control own.0, cut-body-names body own.1)
    cut-names (Perform e x) = λ own. tt
    cut-names (Go to) = λ own. tt
    cut-names (GoDepending to on) = λ own. tt
    cut-names NextSentence = λ own. tt
    cut-names ExitParagraph = λ own. tt
    cut-names (ExitSection last) = λ own. tt
    cut-names (ExitPerform cycle) = λ own. tt
    cut-names StopRun = λ own. tt

    cuts-name : (ss : Stmts) → OwnStmts told paragraphs ss → StmtsName Q Q (cuts told ss)
    cuts-name none = λ own. tt
    cuts-name (also s ss) = λ own. (cut-names s own.0, elim (completes told s) as (λ b. StmtsName Q Q (if b then cuts told ss else none)) [ true ↦ cuts-name ss own.1 | false ↦ tt ])

    cut-arms-name : (arms : Arms) → OwnArms told paragraphs arms → ArmsName Q Q (cut_arms told arms)
    cut-arms-name done = λ own. tt
    cut-arms-name (given arm others) = λ own. (cuts-name arm own.0, cut-arms-name others own.1)
    cut-arms-name (missing others) = λ own. cut-arms-name others own

    cut-body-names : (body : Body) → OwnBody told paragraphs body → BodyNames Q Q (cut_body told body)
    cut-body-names (Nested ss) = λ own. cuts-name ss own
    cut-body-names (Performed e x) = λ own. tt

  leaf-names : (ss : Stmts) (n : ℕ) (after : End) → EndNames Q Q after → EndNames Q Q (leaf told place_of ss n after)
  leaf-names none n after w = w
  leaf-names (also (language.Do act) ss) n after w =
      elim (skips told act) as (λ b. EndNames Q Q (if b then leaf told place_of ss (n + 1) after else Jump (point n))) [ true ↦ leaf-names ss (n + 1) after w | false ↦ tt ]
  leaf-names (also (Choose picker arms) ss) n after w = tt
  leaf-names (also (Loop control body) ss) n after w = tt
  leaf-names (also (Perform e x) ss) n after w = tt
  leaf-names (also (Go to) ss) n after w = tt
  leaf-names (also (GoDepending to on) ss) n after w = tt
  leaf-names (also NextSentence ss) n after w = tt
  leaf-names (also ExitParagraph ss) n after w = tt
  leaf-names (also (ExitSection last) ss) n after w = tt
  leaf-names (also (ExitPerform cycle) ss) n after w = tt
  leaf-names (also StopRun ss) n after w = tt

  only-fine : (end : End) → EndNames Q Q end → Fine (end_alone end)
  only-fine end w = λ j. (tt, w)

  first-fine : (s : Stmt) (t : Tree) → StmtNames Q Q s → Fine t → Fine (with_first s t)
  first-fine s (tree body end) w f = λ j. (let k = f j in ((w, k.0), k.1))

  push-fine : (s : Stmt) (t : Tree) → OwnStmt told paragraphs s → Fine t → Fine (push told place_of s t)
  push-fine s t own f = elim (completes told s) as (λ b. Fine (if b then with_first (cut told s) t else tree (also (cut told s) none) Dead)) [
    | true ↦ first-fine (cut told s) t (cut-names s own) f
    | false ↦ λ j. ((cut-names s own, tt), tt)
  ]

  trees-more : (t : Tree) (ts : Trees) → Fine t → AreFine ts → AreFine (more t ts)
  trees-more (tree body end) ts f g = λ j. (let k = f (λ l h. j l (inl h)) in (k.0, k.1, g (λ l h. j l (inr h))))

  depending-name : (to : List ℕ) (after : End) → EndNames Q Q after → TreesName Q Q (depending told place_of to after)
  depending-name [] after w = (tt, w, tt)
  depending-name (t ∷ ts) after w = (tt, tt, depending-name ts after w)

  start-fine : (control : Control) (n : ℕ) → OwnControl control → ControlCounts P control n → Fine (loop_start control n)
  start-fine (Times amount) n own c = λ j. ((c (j (loop_head_label n) refl), tt), tt)
  start-fine (Until after test) n own c = λ j. (tt, tt)
  start-fine (Varying after set step test) n own c = λ j. ((own-act set own.0, tt), tt)

  -- wherever what leaves goes on, these cells alone are named
  abbrev pub LeavingNames : EscapeTargets → Type 0
  LeavingNames leaving = EndNames Q Q leaving.sentence × EndNames Q Q leaving.paragraph × ((last : ℕ) → EndNames Q Q (leaving.section last)) × EndNames Q Q leaving.loop × EndNames Q Q leaving.cycle

  mutual
    build-stmt-fine : (s : Stmt) (n : ℕ) (leaving : EscapeTargets) (after : End) (behind : Tree) → OwnStmt told paragraphs s → StmtCounts P s n →
        LeavingNames leaving → EndNames Q Q after → Fine behind → Fine (build_stmt told place_of s n leaving after behind)
    build-stmt-fine (language.Do act) n leaving after behind own c ws wa fb =
        elim (skips told act) as (λ b. Fine (if b then behind else push told place_of (language.Do act) behind)) [ true ↦ fb | false ↦ push-fine (language.Do act) behind own fb ]
    build-stmt-fine (Choose picker arms) n leaving after behind own c ws wa fb =
        let trees = build_arms told place_of (first_is_dead told picker) arms (n + 1) leaving after in
        elim (whole (cut told (Choose picker arms))) as (λ b. Fine (if b then push told place_of (Choose picker arms) behind else end_alone (Pick picker trees))) [
          | true ↦ push-fine (Choose picker arms) behind own fb
          | false ↦ λ j. (tt, (own-picker picker (arm_count arms) own.0, arms-fine (first_is_dead told picker) arms (n + 1) leaving after own.1 c ws wa j))
        ]
    build-stmt-fine (Loop control (Nested body)) n leaving after behind own c ws wa fb =
        elim (wholes (cuts told body)) as (λ b. Fine (if b then push told place_of (Loop control (Nested body)) behind else loop_start control n)) [
          | true ↦ push-fine (Loop control (Nested body)) behind own fb
          | false ↦ start-fine control n own.0 c.0
        ]
    build-stmt-fine (Loop control (Performed e x)) n leaving after behind own c ws wa fb = push-fine (Loop control (Performed e x)) behind own fb
    build-stmt-fine (Perform e x) n leaving after behind own c ws wa fb = push-fine (Perform e x) behind own fb
    build-stmt-fine (Go to) n leaving after behind own c ws wa fb = λ j. (tt, tt)
    build-stmt-fine (GoDepending to on) n leaving after behind own c ws wa fb = λ j. (tt, (tt, depending-name to after wa))
    build-stmt-fine NextSentence n leaving after behind own c ws wa fb = λ j. (tt, ws.0)
    build-stmt-fine ExitParagraph n leaving after behind own c ws wa fb = λ j. (tt, ws.1)
    build-stmt-fine (ExitSection last) n leaving after behind own c ws wa fb = λ j. (tt, ws.2 last)
    build-stmt-fine (ExitPerform false) n leaving after behind own c ws wa fb = λ j. (tt, ws.3)
    build-stmt-fine (ExitPerform true) n leaving after behind own c ws wa fb = λ j. (tt, ws.4)
    build-stmt-fine StopRun n leaving after behind own c ws wa fb = λ j. (tt, tt)

    build-fine : (ss : Stmts) (n : ℕ) (leaving : EscapeTargets) (after : End) (behind : Tree) → OwnStmts told paragraphs ss → StmtsCount P ss n →
        LeavingNames leaving → EndNames Q Q after → Fine behind → Fine (build told place_of ss n leaving after behind)
    build-fine none n leaving after behind own c ws wa fb = fb
    build-fine (also s ss) n leaving after behind own c ws wa fb =
        build-stmt-fine s n leaving (leaf told place_of ss (n + size s) after) (build told place_of ss (n + size s) leaving after behind) own.0 c.0
        ws (leaf-names ss (n + size s) after wa) (build-fine ss (n + size s) leaving after behind own.1 c.1 ws wa fb)

    arms-fine : (first : Bool) (arms : Arms) (n : ℕ) (leaving : EscapeTargets) (after : End) → OwnArms told paragraphs arms → ArmsCount P arms n →
        LeavingNames leaving → EndNames Q Q after → AreFine (build_arms told place_of first arms n leaving after)
    arms-fine first done n leaving after own c ws wa = λ j. tt
    arms-fine first (given arm others) n leaving after own c ws wa =
        trees-more (build told place_of arm n leaving after (end_alone after)) (build_arms told place_of false others (n + sizes arm) leaving after)
        (build-fine arm n leaving after (end_alone after) own.0 c.0 ws wa (only-fine after wa))
        (arms-fine false others (n + sizes arm) leaving after own.1 c.1 ws wa)
    arms-fine true (missing others) n leaving after own c ws wa = λ j. (tt, tt, arms-fine false others n leaving after own c ws wa (λ l h. j l (inr h)))
    arms-fine false (missing others) n leaving after own c ws wa = λ j. (tt, wa, arms-fine false others n leaving after own c ws wa (λ l h. j l (inr h)))

  loop-fine : (control : Control) (n : ℕ) (body : Tree) (after : End) → OwnControl control → ControlCounts P control n → Fine body → EndNames Q Q after → AllFine (loop_nodes control n body after)
  loop-fine (Times amount) n (tree stmts end) after own c f wa = (λ k j. (let b = f (λ l h. j l (inl h)) in let q = c k in (tt, (q, (((q, q), b.0), b.1, (tt, wa, tt))))), tt)
  loop-fine (Until false test) n (tree stmts end) after own c f wa = (λ k j. (let b = f (λ l h. j l (inr (inl h))) in (tt, (own-test test own, (tt, wa, (b.0, b.1, tt))))), tt)
  loop-fine (Until true test) n (tree stmts end) after own c f wa = (λ k j. f j, (λ k j. (tt, (own-test test own, (tt, wa, (tt, tt, tt)))), tt))
  loop-fine (Varying false set step test) n (tree stmts end) after own c f wa = (
    λ k j. (let b = f (λ l h. j l (inr (inl h))) in (tt, (own-test test own.2, (tt, wa, (b.0, b.1, tt))))),
    (λ k j. ((own-act step own.1, tt), tt), tt),
  )
  loop-fine (Varying true set step test) n (tree stmts end) after own c f wa = (λ k j. f j, (λ k j. (tt, (own-test test own.2, (tt, wa, ((own-act step own.1, tt), tt, tt)))), tt))

  mutual
    nodes-in-fine : (s : Stmt) (n : ℕ) (leaving : EscapeTargets) (after : End) (behind : Tree) → OwnStmt told paragraphs s → StmtCounts P s n →
        LeavingNames leaving → EndNames Q Q after → Fine behind → AllFine (nodes_in told place_of s n leaving after behind)
    nodes-in-fine (language.Do act) n leaving after behind own c ws wa fb = tt
    nodes-in-fine (Choose picker arms) n leaving after behind own c ws wa fb = arms-nodes-fine arms (n + 1) leaving after behind own.1 c ws wa fb
    nodes-in-fine (Loop control (Nested body)) n leaving after behind own c ws wa fb =
        let b1 = Jump (loop_back_label control n) in
        let in_body = within_loop leaving after b1 in
        let wl : LeavingNames in_body = (ws.0, ws.1, ws.2, wa, tt) in
        all-append (loop_nodes control n (build told place_of body (n + 1) in_body b1 (end_alone b1)) after) (nodes told place_of body (n + 1) in_body b1 (end_alone b1))
        (loop-fine control n (build told place_of body (n + 1) in_body b1 (end_alone b1)) after own.0 c.0 (build-fine body (n + 1) in_body b1 (end_alone b1) own.1 c.1 wl tt (only-fine b1 tt)) wa)
        (nodes-fine body (n + 1) in_body b1 (end_alone b1) own.1 c.1 wl tt (only-fine b1 tt))
    nodes-in-fine (Loop control (Performed e x)) n leaving after behind own c ws wa fb = tt
    nodes-in-fine (Perform e x) n leaving after behind own c ws wa fb = tt
    nodes-in-fine (Go to) n leaving after behind own c ws wa fb = tt
    nodes-in-fine (GoDepending to on) n leaving after behind own c ws wa fb = tt
    nodes-in-fine NextSentence n leaving after behind own c ws wa fb = tt
    nodes-in-fine ExitParagraph n leaving after behind own c ws wa fb = tt
    nodes-in-fine (ExitSection last) n leaving after behind own c ws wa fb = tt
    nodes-in-fine (ExitPerform cycle) n leaving after behind own c ws wa fb = tt
    nodes-in-fine StopRun n leaving after behind own c ws wa fb = tt

    nodes-fine : (ss : Stmts) (n : ℕ) (leaving : EscapeTargets) (after : End) (behind : Tree) → OwnStmts told paragraphs ss → StmtsCount P ss n →
        LeavingNames leaving → EndNames Q Q after → Fine behind → AllFine (nodes told place_of ss n leaving after behind)
    nodes-fine none n leaving after behind own c ws wa fb = tt
    nodes-fine (also s ss) n leaving after behind own c ws wa fb =
        let lf = leaf told place_of ss (n + size s) after in
        let bt = build told place_of ss (n + size s) leaving after behind in
        let wl = leaf-names ss (n + size s) after wa in
        let ft = build-fine ss (n + size s) leaving after behind own.1 c.1 ws wa fb in (
          λ k. build-stmt-fine s n leaving lf bt own.0 c.0 ws wl ft,
          all-append (nodes_in told place_of s n leaving lf bt) (nodes told place_of ss (n + size s) leaving after behind)
              (nodes-in-fine s n leaving lf bt own.0 c.0 ws wl ft) (nodes-fine ss (n + size s) leaving after behind own.1 c.1 ws wa fb),
        )

    arms-nodes-fine : (arms : Arms) (n : ℕ) (leaving : EscapeTargets) (after : End) (behind : Tree) → OwnArms told paragraphs arms → ArmsCount P arms n →
        LeavingNames leaving → EndNames Q Q after → Fine behind → AllFine (nodes_of_arms told place_of arms n leaving after behind)
    arms-nodes-fine done n leaving after behind own c ws wa fb = tt
    arms-nodes-fine (given arm others) n leaving after behind own c ws wa fb =
        all-append (nodes told place_of arm n leaving after behind) (nodes_of_arms told place_of others (n + sizes arm) leaving after behind)
        (nodes-fine arm n leaving after behind own.0 c.0 ws wa fb) (arms-nodes-fine others (n + sizes arm) leaving after behind own.1 c.1 ws wa fb)
    arms-nodes-fine (missing others) n leaving after behind own c ws wa fb = arms-nodes-fine others n leaving after behind own c ws wa fb

module _ (told : FlowFacts) (program : Program) (range : Range) (J : Label → Type 0) (Q : ℕ → Type 0) where
  abbrev places : ℕ → ℕ
  places q = place_in program q

  abbrev count : ℕ
  count = length program.paragraphs

  abbrev IsFine : Tree → Type 0
  IsFine t = ((l : Label) → JumpsTo l (end_of t) → J l) → TreeNames Q Q t

  abbrev EachFine : List Node → Type 0
  EachFine xs = AllFine told places count J Q xs

  abbrev Counter : ℕ → Type 0
  Counter place = J (loop_head_label place) → Q place

  -- the ends of paragraphs do
  abbrev ParagraphNames : EscapeTargets → Type 0
  ParagraphNames end = EndNames Q Q end.paragraph × ((last : ℕ) → EndNames Q Q (end.section last))

  left-leaf-names : (end : EscapeTargets) (n : ℕ) (ss : Paragraph) → ParagraphNames end → EndNames Q Q (leaf_of told places end (rest_from told n ss))
  left-leaf-names end n [] w = w.0
  left-leaf-names end n (s ∷ ss) w = leaf-names told places count J Q s n (leaf_of told places end (rest_from told (n + sizes s) ss)) (left-leaf-names end (n + sizes s) ss w)

  left-loop-names : (end : EscapeTargets) (n : ℕ) (ss : Paragraph) → EndNames Q Q end.paragraph → EndNames Q Q (leaf_of told places end (after_loop (rest_from told n ss)))
  left-loop-names end n [] w = w
  left-loop-names end n (s ∷ ss) w = left-loop-names end (n + sizes s) ss w

  left-turn-names : (end : EscapeTargets) (n : ℕ) (ss : Paragraph) → EndNames Q Q end.paragraph → EndNames Q Q (leaf_of told places end (at_loop (rest_from told n ss)))
  left-turn-names end n [] w = w
  left-turn-names end n (s ∷ ss) w = left-turn-names end (n + sizes s) ss w

  left-leaving-names : (end : EscapeTargets) (n : ℕ) (ss : Paragraph) → EndNames Q Q (leaf_of told places end (rest_from told n ss)) → ParagraphNames end →
      EndNames Q Q (leaf_of told places end (rest_from told n ss)) × EndNames Q Q end.paragraph × ((last : ℕ) → EndNames Q Q (end.section last))
      × EndNames Q Q (leaf_of told places end (after_loop (rest_from told n ss))) × EndNames Q Q (leaf_of told places end (at_loop (rest_from told n ss)))
  left-leaving-names end n ss wl w = (wl, w.0, w.1, left-loop-names end n ss w.0, left-turn-names end n ss w.0)

  sent-fine : (end : EscapeTargets) (holds : Bool) (c : Rest) → EndNames Q Q (leaf_of told places end c) → IsFine (tree_of told places end c) → IsFine (tree_of told places end (Sent holds c))
  sent-fine end true c w f = λ j. (tt, w)
  sent-fine end false c w f = f

  left-tree-fine : (end : EscapeTargets) (n : ℕ) (ss : Paragraph) → OwnParagraph told count ss → ParagraphCounts Counter ss n → ParagraphNames end → IsFine (tree_of told places end (rest_from told n ss))
  left-tree-fine end n [] own c w = λ j. (tt, w.0)
  left-tree-fine end n (s ∷ ss) own c w =
      let holds = leave_sentence (cuts told s) in
      let r = rest_from told (n + sizes s) ss in
      let wl = left-leaf-names end (n + sizes s) ss w in
      build-fine told places count J Q s n (leaving_of told places end (Sent holds r)) (leaf_of told places end r) (tree_of told places end (Sent holds r)) own.0 c.0 (left-leaving-names end (n + sizes s) ss wl w) wl
      (sent-fine end holds r wl (left-tree-fine end (n + sizes s) ss own.1 c.1 w))

  left-fine : (end : EscapeTargets) (n : ℕ) (ss : Paragraph) → OwnParagraph told count ss → ParagraphCounts Counter ss n → ParagraphNames end → EachFine (nodes_left told program end (rest_from told n ss))
  left-fine end n [] own c w = tt
  left-fine end n (s ∷ ss) own c w =
      let holds = leave_sentence (cuts told s) in
      let r = rest_from told (n + sizes s) ss in
      let wl = left-leaf-names end (n + sizes s) ss w in
      all-append told places count J Q (nodes told places s n (leaving_of told places end (Sent holds r)) (leaf_of told places end r) (tree_of told places end (Sent holds r))) (nodes_left told program end r)
      (nodes-fine told places count J Q s n (leaving_of told places end (Sent holds r)) (leaf_of told places end r) (tree_of told places end (Sent holds r)) own.0 c.0 (left-leaving-names end (n + sizes s) ss wl w) wl
      (sent-fine end holds r wl (left-tree-fine end (n + sizes s) ss own.1 c.1 w)))
      (left-fine end (n + sizes s) ss own.1 c.1 w)

  fall-names : (q : ℕ) (found : Option Paragraph) → EndNames Q Q (fall_leaf places q found)
  fall-names q None = tt
  fall-names q (Some next) = tt

  end-names : (r : Range) (q : ℕ) → EndNames Q Q (paragraph_end_target places program r q)
  end-names Main q = fall-names q (slice_get program.paragraphs (suc q))
  end-names (Part e x) q = elim (nat_eq x q) as (λ b. EndNames Q Q (if b then Return else fall_leaf places q (slice_get program.paragraphs (suc q)))) [ true ↦ tt | false ↦ fall-names q (slice_get program.paragraphs (suc q)) ]

  from-fine : (q n : ℕ) (ps : List Paragraph) → OwnParagraphs told count ps → ParagraphsCount Counter ps n → EachFine (nodes_from told program range q n ps)
  from-fine q n [] own c = tt
  from-fine q n (ss ∷ others) own c =
      let end = leaving_at places program range q in (
        λ k. left-tree-fine end (n + 1) ss own.0 c.0 (end-names range q, end-names range),
        all-append told places count J Q (nodes_left told program end (rest_from told (n + 1) ss)) (nodes_from told program range (suc q) (n + 1 + total ss) others)
            (left-fine end (n + 1) ss own.0 c.0 (end-names range q, end-names range)) (from-fine (suc q) (n + 1 + total ss) others own.1 c.1),
      )

  pub all-fine : IsSource told program → ProgramCounts Counter program → EachFine (nodes_of told program range)
  all-fine source c = from-fine 0 0 program.paragraphs source c

-- where what holds of counters is weaker
module _ (S T : ℕ → Type 0) (f : (n : ℕ) → S n → T n) where
  control-weak : (control : Control) (n : ℕ) → ControlCounts S control n → ControlCounts T control n
  control-weak (Times amount) n c = f n c
  control-weak (Until after test) n c = tt
  control-weak (Varying after set step test) n c = tt

  mutual
    stmt-weak : (s : Stmt) (n : ℕ) → StmtCounts S s n → StmtCounts T s n
    stmt-weak (language.Do act) n c = tt
    stmt-weak (Choose picker arms) n c = arms-weak arms (n + 1) c
    stmt-weak (Loop control (Nested ss)) n c = (control-weak control n c.0, stmts-weak ss (n + 1) c.1)
    stmt-weak (Loop control (Performed e x)) n c = tt
    stmt-weak (Perform e x) n c = tt
    stmt-weak (Go to) n c = tt
    stmt-weak (GoDepending to on) n c = tt
    stmt-weak NextSentence n c = tt
    stmt-weak ExitParagraph n c = tt
    stmt-weak (ExitSection last) n c = tt
    stmt-weak (ExitPerform cycle) n c = tt
    stmt-weak StopRun n c = tt

    stmts-weak : (ss : Stmts) (n : ℕ) → StmtsCount S ss n → StmtsCount T ss n
    stmts-weak none n c = tt
    stmts-weak (also s ss) n c = (stmt-weak s n c.0, stmts-weak ss (n + size s) c.1)

    arms-weak : (arms : Arms) (n : ℕ) → ArmsCount S arms n → ArmsCount T arms n
    arms-weak done n c = tt
    arms-weak (given arm others) n c = (stmts-weak arm n c.0, arms-weak others (n + sizes arm) c.1)
    arms-weak (missing others) n c = arms-weak others n c

  paragraph-weak : (ss : Paragraph) (n : ℕ) → ParagraphCounts S ss n → ParagraphCounts T ss n
  paragraph-weak [] n c = tt
  paragraph-weak (s ∷ ss) n c = (stmts-weak s n c.0, paragraph-weak ss (n + sizes s) c.1)

  paragraphs-weak : (ps : List Paragraph) (n : ℕ) → ParagraphsCount S ps n → ParagraphsCount T ps n
  paragraphs-weak [] n c = tt
  paragraphs-weak (p ∷ ps) n c = (paragraph-weak p (n + 1) c.0, paragraphs-weak ps (n + 1 + total p) c.1)

all-name : (told : FlowFacts) (program : Program) (range : Range) (Q : ℕ → Type 0) (xs : List Node) → AllFine told (λ q. place_in program q) (length program.paragraphs) (λ l. Unit {0}) Q xs → NodesName Q xs
all-name told program range Q [] h = tt
all-name told program range Q (x ∷ xs) h = (h.0 tt (λ l j. tt), all-name told program range Q xs h.1)

pub nodes-name : LoweredNodesNameCounters
nodes-name = λ told program range counters source c.
    let Q : ℕ → Type 0 = λ place. counters place ≡ true in
    all-name told program range Q (nodes_of told program range)
    (all-fine told program range (λ l. Unit {0}) Q source (paragraphs-weak Q (λ place. Unit {0} → Q place) (λ n q u. q) program.paragraphs 0 c))

-- cells numbered anew
module _ (number : ℕ → ℕ) (Q R W : ℕ → Type 0) (to_r : (c : ℕ) → Q c → R (number c)) (to_w : (c : ℕ) → Q c → W (number c)) where
  act-numbered : (act : Act) → ActFits (Anywhere Q Q) Q Q act → ActFits (Anywhere R W) R W (act_anew number act)
  act-numbered (Own simple) k = tt
  act-numbered (Set cell value) k = to_w cell k
  act-numbered (Take cell amount) k = to_w cell k
  act-numbered (Lower cell) k = (to_r cell k.0, to_w cell k.1)

  test-numbered : (test : Test) → TestFits (Anywhere Q Q) Q Q test → TestFits (Anywhere R W) R W (test_anew number test)
  test-numbered (Holds cond) k = tt
  test-numbered (Not test) k = test-numbered test k
  test-numbered (Is cell value) k = to_r cell k
  test-numbered (Above cell) k = to_r cell k

  picker-numbered : (picker : Picker) → PickerNames Q Q picker → PickerNames R W (picker_anew number picker)
  picker-numbered (If test) k = test-numbered test k
  picker-numbered (By chooser) k = tt
  picker-numbered (ByCell cell) k = absurd k

  control-numbered : (control : Control) → ControlFits (Anywhere Q Q) Q Q control → ControlFits (Anywhere R W) R W (control_anew number control)
  control-numbered (Times amount) k = tt
  control-numbered (Until after test) k = test-numbered test k
  control-numbered (Varying after set step test) k = (act-numbered set k.0, act-numbered step k.1, test-numbered test k.2)

  mutual
    stmt-numbered : (s : Stmt) → StmtNames Q Q s → StmtNames R W (stmt_anew number s)
    stmt-numbered (language.Do act) = λ k. act-numbered act k
    stmt-numbered (Choose picker arms) = λ k. (picker-numbered picker k.0, arms-numbered arms k.1)
    stmt-numbered (Loop control body) = λ k. (control-numbered control k.0, body-numbered body k.1)
    stmt-numbered (Perform e x) = λ k. tt
    stmt-numbered (Go to) = λ k. tt
    stmt-numbered (GoDepending to on) = λ k. tt
    stmt-numbered NextSentence = λ k. tt
    stmt-numbered ExitParagraph = λ k. tt
    stmt-numbered (ExitSection last) = λ k. tt
    stmt-numbered (ExitPerform cycle) = λ k. tt
    stmt-numbered StopRun = λ k. tt

    stmts-numbered : (ss : Stmts) → StmtsName Q Q ss → StmtsName R W (stmts_anew number ss)
    stmts-numbered none = λ k. tt
    stmts-numbered (also s ss) = λ k. (stmt-numbered s k.0, stmts-numbered ss k.1)

    arms-numbered : (arms : Arms) → ArmsName Q Q arms → ArmsName R W (arms_anew number arms)
    arms-numbered done = λ k. tt
    arms-numbered (given arm others) = λ k. (stmts-numbered arm k.0, arms-numbered others k.1)
    arms-numbered (missing others) = λ k. arms-numbered others k

    body-numbered : (body : Body) → BodyNames Q Q body → BodyNames R W (body_anew number body)
    body-numbered (Nested ss) = λ k. stmts-numbered ss k
    body-numbered (Performed e x) = λ k. tt

  mutual
    end-numbered : (end : End) → EndNames Q Q end → EndNames R W (end_anew number end)
    end-numbered (Pick picker arms) = λ k. (picker-numbered picker k.0, trees-numbered arms k.1)
    end-numbered (Jump to) = λ k. tt
    end-numbered Return = λ k. tt
    end-numbered Stop = λ k. tt
    end-numbered Dead = λ k. tt

    trees-numbered : (ts : Trees) → TreesName Q Q ts → TreesName R W (trees_anew number ts)
    trees-numbered no_more = λ k. tt
    trees-numbered (more (tree body end) others) = λ k. (stmts-numbered body k.0, end-numbered end k.1, trees-numbered others k.2)

  tree-numbered : (t : Tree) → TreeNames Q Q t → TreeNames R W (tree_anew number t)
  tree-numbered (tree body end) k = (stmts-numbered body k.0, end-numbered end k.1)

  graph-named : (xs : List Node) → NodesName Q xs → (label : Label) → TreeNames R W (tree_in (graph_nodes number xs) label)
  graph-named [] h label = (tt, tt)
  graph-named (x ∷ xs) h label = elim (x.key == label) as (λ b. TreeNames R W (if b then tree_anew number x.tree else tree_in (graph_nodes number xs) label)) [
    | true ↦ tree-numbered x.tree h.0
    | false ↦ graph-named xs h.1 label
  ]

-- the nodes that are kept jump to kept ones alone
module _ (told : FlowFacts) (program : Program) (range : Range) (keep : Label → Bool) (just : AreJustReached told program range keep) (Q : ℕ → Type 0) where
  abbrev labels : List Node
  labels = nodes_of told program range

  list-named : (xs : List Node) → rests.Has told (λ q. place_in program q) (λ l. find l labels) xs → AllFine told (λ q. place_in program q) (length program.paragraphs) (λ l. keep l ≡ true) Q xs → NodesName Q (kept_nodes keep xs)
  list-named [] f w = tt
  list-named (x ∷ xs) f w = elim (keep x.key) as (λ b. keep x.key ≡ b → NodesName Q (if b then x ∷ kept_nodes keep xs else kept_nodes keep xs)) [
    | true ↦ λ is. (w.0 is (λ l j. just.1 l (jumped x.key l (just.0 x.key is) (subst (λ t. JumpsTo l (end_of t)) (sym f.0) j))), list-named xs f.1 w.1)
    | false ↦ λ is. list-named xs f.1 w.1
  ] refl

  pub kept-named : IsSource told program → ProgramCounts (λ place. keep (loop_head_label place) ≡ true → Q place) program → NodesName Q (kept_nodes keep labels)
  kept-named source c =
      let w = within-program told program range 0 0 program.paragraphs in
      list-named labels (found-self told (λ q. place_in program q) (3 * 0) w.0 labels w.1) (all-fine told program range (λ l. keep l ≡ true) Q source c)

pub counters-named : NumberedCountersAreNamed
counters-named = λ told program keep numbers added range source just c label.
    let graphs = lowered_graphs told program keep numbers added in
    let Q : ℕ → Type 0 = λ place. kind_at (added range) (numbers range place) ≡ Some Count in
    graph-named (numbers range) Q (Has (kinds_of graphs) range) (MaySet (kinds_of graphs) range)
    (λ cell q. (Count, q)) (λ cell q. ((Count, q), λ e. (let k : Some Count ≡ Some Never = sym q ∙ e in cc)))
    (kept_nodes (keep range) (nodes_of told program range)) (kept-named told program range (keep range) just Q source c) label
