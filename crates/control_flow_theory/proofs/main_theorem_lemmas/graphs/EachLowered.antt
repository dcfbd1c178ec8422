-- What lowering makes of a source whose every part is so is so in every part, where what it makes anew is.
use Rattle.std.proofs.Common.{ℕ, suc, ◌+◌, Bool, true, false, if◌then◌else◌, nat_eq, List, [], ◌∷◌, ◌++◌, Option, Some, None}
use Rattle.std.specs.Prelude.{slice_get}
use Rattle.control_flow_theory.specs.language.Language.{Chooser, Amount, Take, Lower, Test, Above, Picker, If, By, Control, Times, Until, Varying, Stmt, Do, Choose, Loop, Perform, Go, GoDepending, NextSentence, ExitParagraph, ExitSection, ExitPerform, StopRun, Stmts, none, also, Arms, done, given, missing, Body, Nested, Performed, Paragraph, Program, Range, Main, Part, Act}
use Rattle.control_flow_theory.specs.language.Each.{EachStmt, EachStmts, EachArm, EachBody, EachSentence, EachParagraph}
use Rattle.control_flow_theory.specs.semantics.Graph.{Label, Tree, tree, End, Pick, Jump, Return, Stop, Dead, Trees, no_more, more}
use Rattle.control_flow_theory.specs.graph_rules.EachTree.{EachTree, EachEnd, EachTrees, EachNode}
use Rattle.control_flow_theory.specs.lowering.FlowFacts.{FlowFacts}
use Rattle.control_flow_theory.specs.lowering.Completes.{completes, cut, cuts, cut_arms, cut_body, whole, wholes, size, sizes, skips, first_is_dead}
use Rattle.control_flow_theory.specs.lowering.Lower.{point, loop_head_label, end_alone, with_first, push, loop_back_label, leaf, build, build_stmt, build_arms, depending, loop_start, Node, loop_nodes, nodes, nodes_in, nodes_of_arms, fall_leaf, paragraph_end_target, EscapeTargets, leaving_at, within_loop}
use Rattle.control_flow_theory.specs.lowering.Lowered.{total, place_in, nodes_left, nodes_from, nodes_of}
use Rattle.control_flow_theory.specs.lowering.Reached.{kept_nodes}
use Rattle.control_flow_theory.specs.lowering.Renamed.{picker_anew, stmt_anew, stmts_anew, arms_anew, body_anew, end_anew, trees_anew, tree_anew}
use Rattle.control_flow_theory.specs.lowering.Rests.{Rest, Over, From, Sent, Turns, Cut, after_sentence, after_loop, at_loop, rest_from, leaf_of, leaving_of, tree_of}
use Rattle.control_flow_theory.specs.main_theorem.Chain.{graph_nodes}

-- an IF has these two trees
abbrev two : Tree → Tree → Trees
two one other = more one (more other no_more)

-- What lowering makes of parts that are so is so: a cut statement, a choice that becomes one at an end, and what a loop with an
-- escape becomes.
pub record BearsLowering (told : FlowFacts) (Source At : Stmt → Type 0) (AtPick : Picker → Trees → Type 0) : Type 0 where
  pub cuts : (stmt : Stmt) → Source stmt → At (cut told stmt)
  pub picks : (places : ℕ → ℕ) (picker : Picker) (arms : Arms) (place : ℕ) (leaving : EscapeTargets) (after : End) → Source (Choose picker arms) →
      AtPick picker (build_arms told places (first_is_dead told picker) arms place leaving after)
  pub depends : (places : ℕ → ℕ) (to : List ℕ) (on : Chooser) (after : End) → Source (GoDepending to on) → AtPick (By on) (depending told places to after)
  pub counts : (amount : Amount) (body : Body) (place : ℕ) (one other : Tree) → Source (Loop (Times amount) body) →
      At (Do (Take place amount)) × At (Do (Lower place)) × AtPick (If (Above place)) (two one other)
  pub tests : (after : Bool) (test : Test) (body : Body) (one other : Tree) → Source (Loop (Until after test) body) → AtPick (If test) (two one other)
  pub varies : (after : Bool) (set step : Act) (test : Test) (body : Body) (one other : Tree) → Source (Loop (Varying after set step test) body) →
      At (Do set) × At (Do step) × AtPick (If test) (two one other)

module _ (told : FlowFacts) (Source At : Stmt → Type 0) (AtPick : Picker → Trees → Type 0) (bears : BearsLowering told Source At AtPick) (places : ℕ → ℕ) where
  abbrev IsTree : Tree → Type 0
  IsTree t = EachTree At AtPick t

  abbrev IsEnd : End → Type 0
  IsEnd end = EachEnd At AtPick end

  abbrev AreTrees : Trees → Type 0
  AreTrees trees = EachTrees At AtPick trees

  abbrev pub EachBuilt : List Node → Type 0
  EachBuilt [] = Unit {0}
  EachBuilt (x ∷ xs) = IsTree x.tree × EachBuilt xs

  append-each : (xs ys : List Node) → EachBuilt xs → EachBuilt ys → EachBuilt (xs ++ ys)
  append-each [] ys h k = k
  append-each (x ∷ xs) ys h k = (h.0, append-each xs ys h.1 k)

  -- What is cut.

  mutual
    cut-each : (stmt : Stmt) → EachStmt Source stmt → EachStmt At (cut told stmt)
    cut-each (Choose picker arms) = λ h. (bears.cuts (Choose picker arms) h.0, cut-arms-each arms h.1)
    cut-each (Loop control body) = λ h. (bears.cuts (Loop control body) h.0, cut-body-each body h.1)
    cut-each stmt = λ h. bears.cuts stmt h

    cuts-each : (stmts : Stmts) → EachStmts Source stmts → EachStmts At (cuts told stmts)
    cuts-each none = λ h. tt
    cuts-each (also s ss) = λ h. (
      cut-each s h.0,
      elim (completes told s) as (λ b. EachStmts At (if b then cuts told ss else none)) [ true ↦ cuts-each ss h.1 | false ↦ tt ],
    )

    cut-arms-each : (arms : Arms) → EachArm Source arms → EachArm At (cut_arms told arms)
    cut-arms-each done = λ h. tt
    cut-arms-each (given arm others) = λ h. (cuts-each arm h.0, cut-arms-each others h.1)
    cut-arms-each (missing others) = λ h. cut-arms-each others h

    cut-body-each : (body : Body) → EachBody Source body → EachBody At (cut_body told body)
    cut-body-each (Nested ss) = λ h. cuts-each ss h
    cut-body-each (Performed e x) = λ h. bears.cuts (Perform e x) h

  -- Trees.

  leaf-each : (ss : Stmts) (n : ℕ) (after : End) → IsEnd after → IsEnd (leaf told places ss n after)
  leaf-each none n after w = w
  leaf-each (also (Do act) ss) n after w =
      elim (skips told act) as (λ b. IsEnd (if b then leaf told places ss (n + 1) after else Jump (point n))) [ true ↦ leaf-each ss (n + 1) after w | false ↦ tt ]
  leaf-each (also s ss) n after w = tt

  first-each : (s : Stmt) (t : Tree) → EachStmt At s → IsTree t → IsTree (with_first s t)
  first-each s (tree body end) w f = ((w, f.0), f.1)

  push-each : (s : Stmt) (t : Tree) → EachStmt Source s → IsTree t → IsTree (push told places s t)
  push-each s t k f = elim (completes told s) as (λ b. IsTree (if b then with_first (cut told s) t else tree (also (cut told s) none) Dead)) [
    | true ↦ first-each (cut told s) t (cut-each s k) f
    | false ↦ ((cut-each s k, tt), tt)
  ]

  depending-each : (to : List ℕ) (after : End) → IsEnd after → AreTrees (depending told places to after)
  depending-each [] after w = ((tt, w), tt)
  depending-each (t ∷ ts) after w = ((tt, tt), depending-each ts after w)

  start-each : (control : Control) (body : Body) (n : ℕ) → Source (Loop control body) → IsTree (loop_start control n)
  start-each (Times amount) body n s = let k = bears.counts amount body n (end_alone Dead) (end_alone Dead) s in ((k.0, tt), tt)
  start-each (Until after test) body n s = (tt, tt)
  start-each (Varying after set step test) body n s = let k = bears.varies after set step test body (end_alone Dead) (end_alone Dead) s in ((k.0, tt), tt)

  -- wherever what leaves goes on, it is so
  abbrev LeavingEach : EscapeTargets → Type 0
  LeavingEach leaving = IsEnd leaving.sentence × IsEnd leaving.paragraph × ((last : ℕ) → IsEnd (leaving.section last)) × IsEnd leaving.loop × IsEnd leaving.cycle

  mutual
    build-stmt-each : (s : Stmt) (n : ℕ) (leaving : EscapeTargets) (after : End) (behind : Tree) → EachStmt Source s →
        LeavingEach leaving → IsEnd after → IsTree behind → IsTree (build_stmt told places s n leaving after behind)
    build-stmt-each (Do act) n leaving after behind c ws wa fb =
        elim (skips told act) as (λ b. IsTree (if b then behind else push told places (Do act) behind)) [ true ↦ fb | false ↦ push-each (Do act) behind c fb ]
    build-stmt-each (Choose picker arms) n leaving after behind c ws wa fb =
        let first = first_is_dead told picker in
        let trees = build_arms told places first arms (n + 1) leaving after in
        elim (whole (cut told (Choose picker arms))) as (λ b. IsTree (if b then push told places (Choose picker arms) behind else end_alone (Pick picker trees))) [
          | true ↦ push-each (Choose picker arms) behind c fb
          | false ↦ (tt, (bears.picks places picker arms (n + 1) leaving after c.0, arms-each first arms (n + 1) leaving after c.1 ws wa))
        ]
    build-stmt-each (Loop control (Nested body)) n leaving after behind c ws wa fb =
        elim (wholes (cuts told body)) as (λ b. IsTree (if b then push told places (Loop control (Nested body)) behind else loop_start control n)) [
          | true ↦ push-each (Loop control (Nested body)) behind c fb
          | false ↦ start-each control (Nested body) n c.0
        ]
    build-stmt-each (Loop control (Performed e x)) n leaving after behind c ws wa fb = push-each (Loop control (Performed e x)) behind c fb
    build-stmt-each (Perform e x) n leaving after behind c ws wa fb = push-each (Perform e x) behind c fb
    build-stmt-each (Go to) n leaving after behind c ws wa fb = (tt, tt)
    build-stmt-each (GoDepending to on) n leaving after behind c ws wa fb = (tt, (bears.depends places to on after c, depending-each to after wa))
    build-stmt-each NextSentence n leaving after behind c ws wa fb = (tt, ws.0)
    build-stmt-each ExitParagraph n leaving after behind c ws wa fb = (tt, ws.1)
    build-stmt-each (ExitSection last) n leaving after behind c ws wa fb = (tt, ws.2 last)
    build-stmt-each (ExitPerform false) n leaving after behind c ws wa fb = (tt, ws.3)
    build-stmt-each (ExitPerform true) n leaving after behind c ws wa fb = (tt, ws.4)
    build-stmt-each StopRun n leaving after behind c ws wa fb = (tt, tt)

    build-each : (ss : Stmts) (n : ℕ) (leaving : EscapeTargets) (after : End) (behind : Tree) → EachStmts Source ss →
        LeavingEach leaving → IsEnd after → IsTree behind → IsTree (build told places ss n leaving after behind)
    build-each none n leaving after behind c ws wa fb = fb
    build-each (also s ss) n leaving after behind c ws wa fb =
        build-stmt-each s n leaving (leaf told places ss (n + size s) after) (build told places ss (n + size s) leaving after behind) c.0
        ws (leaf-each ss (n + size s) after wa) (build-each ss (n + size s) leaving after behind c.1 ws wa fb)

    arms-each : (first : Bool) (arms : Arms) (n : ℕ) (leaving : EscapeTargets) (after : End) → EachArm Source arms →
        LeavingEach leaving → IsEnd after → AreTrees (build_arms told places first arms n leaving after)
    arms-each first done n leaving after c ws wa = tt
    arms-each first (given arm others) n leaving after c ws wa =
        (build-each arm n leaving after (end_alone after) c.0 ws wa (tt, wa), arms-each false others (n + sizes arm) leaving after c.1 ws wa)
    arms-each true (missing others) n leaving after c ws wa = ((tt, tt), arms-each false others n leaving after c ws wa)
    arms-each false (missing others) n leaving after c ws wa = ((tt, wa), arms-each false others n leaving after c ws wa)

  -- Nodes.

  loop-each : (control : Control) (source : Body) (n : ℕ) (body : Tree) (after : End) → Source (Loop control source) → IsTree body → IsEnd after → EachBuilt (loop_nodes control n body after)
  loop-each (Times amount) source n body after s f wa =
      let k = bears.counts amount source n (with_first (Do (Lower n)) body) (end_alone after) s in
      ((tt, (k.2, (first-each (Do (Lower n)) body k.1 f, ((tt, wa), tt)))), tt)
  loop-each (Until false test) source n body after s f wa = ((tt, (bears.tests false test source (end_alone after) body s, ((tt, wa), (f, tt)))), tt)
  loop-each (Until true test) source n body after s f wa = (f, ((tt, (bears.tests true test source (end_alone after) (end_alone (Jump (loop_head_label n))) s, ((tt, wa), ((tt, tt), tt)))), tt))
  loop-each (Varying false set step test) source n body after s f wa =
      let k = bears.varies false set step test source (end_alone after) body s in
      ((tt, (k.2, ((tt, wa), (f, tt)))), (((k.1, tt), tt), tt))
  loop-each (Varying true set step test) source n body after s f wa =
      let k = bears.varies true set step test source (end_alone after) (tree (also (Do step) none) (Jump (loop_head_label n))) s in
      (f, ((tt, (k.2, ((tt, wa), (((k.1, tt), tt), tt)))), tt))

  mutual
    nodes-in-each : (s : Stmt) (n : ℕ) (leaving : EscapeTargets) (after : End) (behind : Tree) → EachStmt Source s →
        LeavingEach leaving → IsEnd after → IsTree behind → EachBuilt (nodes_in told places s n leaving after behind)
    nodes-in-each (Choose picker arms) n leaving after behind c ws wa fb = arms-nodes-each arms (n + 1) leaving after behind c.1 ws wa fb
    nodes-in-each (Loop control (Nested body)) n leaving after behind c ws wa fb =
        let b1 = Jump (loop_back_label control n) in
        let in_body = within_loop leaving after b1 in
        let wl : LeavingEach in_body = (ws.0, ws.1, ws.2, wa, tt) in
        append-each (loop_nodes control n (build told places body (n + 1) in_body b1 (end_alone b1)) after) (nodes told places body (n + 1) in_body b1 (end_alone b1))
        (loop-each control (Nested body) n (build told places body (n + 1) in_body b1 (end_alone b1)) after c.0 (build-each body (n + 1) in_body b1 (end_alone b1) c.1 wl tt (tt, tt)) wa)
        (nodes-each body (n + 1) in_body b1 (end_alone b1) c.1 wl tt (tt, tt))
    nodes-in-each (Loop control (Performed e x)) n leaving after behind c ws wa fb = tt
    nodes-in-each s n leaving after behind c ws wa fb = tt

    nodes-each : (ss : Stmts) (n : ℕ) (leaving : EscapeTargets) (after : End) (behind : Tree) → EachStmts Source ss →
        LeavingEach leaving → IsEnd after → IsTree behind → EachBuilt (nodes told places ss n leaving after behind)
    nodes-each none n leaving after behind c ws wa fb = tt
    nodes-each (also s ss) n leaving after behind c ws wa fb =
        let lf = leaf told places ss (n + size s) after in
        let bt = build told places ss (n + size s) leaving after behind in
        let wl = leaf-each ss (n + size s) after wa in
        let ft = build-each ss (n + size s) leaving after behind c.1 ws wa fb in (
          build-stmt-each s n leaving lf bt c.0 ws wl ft,
          append-each (nodes_in told places s n leaving lf bt) (nodes told places ss (n + size s) leaving after behind)
              (nodes-in-each s n leaving lf bt c.0 ws wl ft) (nodes-each ss (n + size s) leaving after behind c.1 ws wa fb),
        )

    arms-nodes-each : (arms : Arms) (n : ℕ) (leaving : EscapeTargets) (after : End) (behind : Tree) → EachArm Source arms →
        LeavingEach leaving → IsEnd after → IsTree behind → EachBuilt (nodes_of_arms told places arms n leaving after behind)
    arms-nodes-each done n leaving after behind c ws wa fb = tt
    arms-nodes-each (given arm others) n leaving after behind c ws wa fb =
        append-each (nodes told places arm n leaving after behind) (nodes_of_arms told places others (n + sizes arm) leaving after behind)
        (nodes-each arm n leaving after behind c.0 ws wa fb) (arms-nodes-each others (n + sizes arm) leaving after behind c.1 ws wa fb)
    arms-nodes-each (missing others) n leaving after behind c ws wa fb = arms-nodes-each others n leaving after behind c ws wa fb

  -- What is left of a paragraph.

  abbrev RestEach : Rest → Type 0
  RestEach Over = Unit {0}
  RestEach (From place stmts others) = EachStmts Source stmts × RestEach others
  RestEach (Sent holds others) = RestEach others
  RestEach (Turns place control left reached body others) = RestEach others
  RestEach (Cut others) = RestEach others

  rest-from-each : (place : ℕ) (paragraph : Paragraph) → EachSentence Source paragraph → RestEach (rest_from told place paragraph)
  rest-from-each place [] h = tt
  rest-from-each place (sentence ∷ sentences) h = (h.0, rest-from-each (place + sizes sentence) sentences h.1)

  module _ (end : EscapeTargets) (l : LeavingEach end) where
    leaf-of-each : (rest : Rest) → IsEnd (leaf_of told places end rest)
    leaf-of-each Over = l.1
    leaf-of-each (From place stmts others) = leaf-each stmts place (leaf_of told places end others) (leaf-of-each others)
    leaf-of-each (Sent holds others) = leaf-of-each others
    leaf-of-each (Turns place control left reached body others) = tt
    leaf-of-each (Cut others) = leaf-of-each others

    leaving-of-each : (rest : Rest) → LeavingEach (leaving_of told places end rest)
    leaving-of-each rest = (leaf-of-each (after_sentence rest), l.1, l.2, leaf-of-each (after_loop rest), leaf-of-each (at_loop rest))

    tree-of-each : (rest : Rest) → RestEach rest → IsTree (tree_of told places end rest)
    tree-of-each Over h = (tt, l.1)
    tree-of-each (From place stmts others) h =
        build-each stmts place (leaving_of told places end others) (leaf_of told places end others) (tree_of told places end others) h.0
        (leaving-of-each others) (leaf-of-each others) (tree-of-each others h.1)
    tree-of-each (Sent true others) h = (tt, leaf-of-each others)
    tree-of-each (Sent false others) h = tree-of-each others h
    tree-of-each (Turns place control left reached body others) h = (tt, tt)
    tree-of-each (Cut others) h = (tt, leaf-of-each others)

module _ (told : FlowFacts) (Source At : Stmt → Type 0) (AtPick : Picker → Trees → Type 0) (bears : BearsLowering told Source At AtPick) (program : Program) where
  abbrev places : ℕ → ℕ
  places number = place_in program number

  -- the trees of these nodes are so
  abbrev pub AreBuilt : List Node → Type 0
  AreBuilt xs = EachBuilt told Source At AtPick bears places xs

  abbrev Leaving : EscapeTargets → Type 0
  Leaving end = LeavingEach told Source At AtPick bears places end

  abbrev RestIs : Rest → Type 0
  RestIs rest = RestEach told Source At AtPick bears places rest

  nodes-left-each : (end : EscapeTargets) → Leaving end → (rest : Rest) → RestIs rest → AreBuilt (nodes_left told program end rest)
  nodes-left-each end l Over h = tt
  nodes-left-each end l (From place stmts others) h =
      append-each told Source At AtPick bears places (nodes told places stmts place (leaving_of told places end others) (leaf_of told places end others) (tree_of told places end others)) (nodes_left told program end others)
      (nodes-each told Source At AtPick bears places stmts place (leaving_of told places end others) (leaf_of told places end others) (tree_of told places end others) h.0
      (leaving-of-each told Source At AtPick bears places end l others) (leaf-of-each told Source At AtPick bears places end l others) (tree-of-each told Source At AtPick bears places end l others h.1))
      (nodes-left-each end l others h.1)
  nodes-left-each end l (Sent holds others) h = nodes-left-each end l others h
  nodes-left-each end l (Turns place control left reached body others) h = nodes-left-each end l others h
  nodes-left-each end l (Cut others) h = nodes-left-each end l others h

  abbrev EndIs : End → Type 0
  EndIs end = EachEnd At AtPick end

  fall-each : (number : ℕ) (next : Option Paragraph) → EndIs (fall_leaf places number next)
  fall-each number None = tt
  fall-each number (Some next) = tt

  end-leaf-each : (range : Range) (number : ℕ) → EndIs (paragraph_end_target places program range number)
  end-leaf-each Main number = fall-each number (slice_get program.paragraphs (suc number))
  end-leaf-each (Part entry exit) number =
      elim (nat_eq exit number) as (λ b. EndIs (if b then Return else fall_leaf places number (slice_get program.paragraphs (suc number)))) [
        | true ↦ tt
        | false ↦ fall-each number (slice_get program.paragraphs (suc number))
      ]

  leaving-at-each : (range : Range) (number : ℕ) → Leaving (leaving_at places program range number)
  leaving-at-each range number = (end-leaf-each range number, end-leaf-each range number, end-leaf-each range, end-leaf-each range number, end-leaf-each range number)

  nodes-from-each : (range : Range) (number place : ℕ) (paragraphs : List Paragraph) → EachParagraph Source paragraphs → AreBuilt (nodes_from told program range number place paragraphs)
  nodes-from-each range number place [] h = tt
  nodes-from-each range number place (paragraph ∷ others) h =
      let end = leaving_at places program range number in
      let l = leaving-at-each range number in
      let rest = rest_from told (place + 1) paragraph in
      let r = rest-from-each told Source At AtPick bears places (place + 1) paragraph h.0 in (
        tree-of-each told Source At AtPick bears places end l rest r,
        append-each told Source At AtPick bears places (nodes_left told program end rest) (nodes_from told program range (suc number) (place + 1 + total paragraph) others)
            (nodes-left-each end l rest r) (nodes-from-each range (suc number) (place + 1 + total paragraph) others h.1),
      )

  -- the nodes of a range of a source that is so
  pub nodes-of-each : EachParagraph Source program.paragraphs → (range : Range) → AreBuilt (nodes_of told program range)
  nodes-of-each h range = nodes-from-each range 0 0 program.paragraphs h

  pub kept-each : (keep : Label → Bool) (xs : List Node) → AreBuilt xs → AreBuilt (kept_nodes keep xs)
  kept-each keep [] h = tt
  kept-each keep (x ∷ xs) h = elim (keep x.key) as (λ b. AreBuilt (if b then x ∷ kept_nodes keep xs else kept_nodes keep xs)) [
    | true ↦ (h.0, kept-each keep xs h.1)
    | false ↦ kept-each keep xs h.1
  ]

  -- Cells that are numbered anew.

  module _ (number : ℕ → ℕ) (Then : Stmt → Type 0) (ThenPick : Picker → Trees → Type 0) (anew : (stmt : Stmt) → At stmt → Then (stmt_anew number stmt))
      (picks_anew : (picker : Picker) (trees : Trees) → AtPick picker trees → ThenPick (picker_anew number picker) (trees_anew number trees)) where
    mutual
      stmt-anew-each : (stmt : Stmt) → EachStmt At stmt → EachStmt Then (stmt_anew number stmt)
      stmt-anew-each (Choose picker arms) = λ h. (anew (Choose picker arms) h.0, arms-anew-each arms h.1)
      stmt-anew-each (Loop control body) = λ h. (anew (Loop control body) h.0, body-anew-each body h.1)
      stmt-anew-each stmt = λ h. anew stmt h

      stmts-anew-each : (stmts : Stmts) → EachStmts At stmts → EachStmts Then (stmts_anew number stmts)
      stmts-anew-each none = λ h. tt
      stmts-anew-each (also stmt stmts) = λ h. (stmt-anew-each stmt h.0, stmts-anew-each stmts h.1)

      arms-anew-each : (arms : Arms) → EachArm At arms → EachArm Then (arms_anew number arms)
      arms-anew-each done = λ h. tt
      arms-anew-each (given arm others) = λ h. (stmts-anew-each arm h.0, arms-anew-each others h.1)
      arms-anew-each (missing others) = λ h. arms-anew-each others h

      body-anew-each : (body : Body) → EachBody At body → EachBody Then (body_anew number body)
      body-anew-each (Nested stmts) = λ h. stmts-anew-each stmts h
      body-anew-each (Performed entry exit) = λ h. anew (Perform entry exit) h

    mutual
      tree-anew-each : (t : Tree) → EachTree At AtPick t → EachTree Then ThenPick (tree_anew number t)
      tree-anew-each (tree body end) = λ h. (stmts-anew-each body h.0, end-anew-each end h.1)

      end-anew-each : (end : End) → EachEnd At AtPick end → EachEnd Then ThenPick (end_anew number end)
      end-anew-each (Pick picker trees) = λ h. (picks_anew picker trees h.0, trees-anew-each trees h.1)
      end-anew-each (Jump to) = λ h. h
      end-anew-each Return = λ h. h
      end-anew-each Stop = λ h. h
      end-anew-each Dead = λ h. h

      trees-anew-each : (trees : Trees) → EachTrees At AtPick trees → EachTrees Then ThenPick (trees_anew number trees)
      trees-anew-each no_more = λ h. h
      trees-anew-each (more (tree body end) others) = λ h. ((stmts-anew-each body h.0.0, end-anew-each end h.0.1), trees-anew-each others h.1)

    graph-each : (xs : List Node) → AreBuilt xs → EachNode Then ThenPick (graph_nodes number xs)
    graph-each [] h = tt
    graph-each (x ∷ xs) h = (tree-anew-each x.tree h.0, graph-each xs h.1)

    -- the graph of a range of a source that is so
    pub lowered-each : EachParagraph Source program.paragraphs → (range : Range) (keep : Label → Bool) → EachNode Then ThenPick (graph_nodes number (kept_nodes keep (nodes_of told program range)))
    lowered-each h range keep = graph-each (kept_nodes keep (nodes_of told program range)) (kept-each keep (nodes_of told program range) (nodes-of-each h range))
