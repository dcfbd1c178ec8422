-- A range has no more nodes than its program weighs.
use Rattle.std.proofs.Common.{◌≡◌, ◌≤◌, ◌+◌, ℕ, suc, Bool, true, false, if◌then◌else◌, List, [], ◌∷◌, length, map, Option, Some, None, refl, ap, subst, length-append, arith}
use Rattle.cob_tree.specs.declared.calc.Calc.{Calc}
use Rattle.cob_tree.specs.declared.calc.Target.{Target}
use Rattle.cob_tree.specs.declared.choice.Test as choices
use Rattle.cob_tree.specs.declared.control.Control as controls
use Rattle.cob_tree.specs.declared.control.Control.TheVariants as turning
use Rattle.cob_tree.specs.declared.program.Paragraph as trees
use Rattle.cob_tree.specs.declared.program.Program as cobol
use Rattle.cob_tree.specs.declared.program.Sentence as sentences
use Rattle.cob_tree.specs.declared.stmt.Arms as coded
use Rattle.cob_tree.specs.declared.stmt.Arms.{roll-Arms, map-Arms, fold-roll-Arms}
use Rattle.cob_tree.specs.declared.stmt.When.{When, roll-When, map-When, fold-roll-When}
use Rattle.cob_tree.specs.declared.stmt.Stmt as coded_stmt
use Rattle.cob_tree.specs.declared.stmt.Stmt.{ind-Stmt, map-Stmt, roll-Stmt, fold-roll-Stmt}
use Rattle.cob_tree.specs.declared.stmt.Stmt.TheOpen.{Stmt-F, Arms-F, When-F}
use Rattle.control_flow_theory.specs.language.Control.{control_of, arith_stmt, arm_before, else_of, control_in, loop_of, perform_of, Branch, branches_before, Both, both_arms, both_step, branch_step, seen_step, seen, seen_when, seen_both, seen_stmts, seen_sentence, section_last, seen_paragraphs}
use Rattle.control_flow_theory.specs.language.Language.{Control, Times, Until, Varying, Stmt, Do, Choose, Loop, Perform, Go, GoDepending, NextSentence, ExitParagraph, ExitSection, ExitPerform, StopRun, Stmts, none, also, Arms, done, given, missing, Body, Nested, Performed, Paragraph, Program, Range}
use Rattle.control_flow_theory.specs.semantics.Graph.{Label, Tree, End, Jump}
use Rattle.control_flow_theory.specs.lowering.FlowFacts.{FlowFacts}
use Rattle.control_flow_theory.specs.lowering.Completes.{cuts, leave_sentence, size, sizes}
use Rattle.control_flow_theory.specs.lowering.Lower.{Node, EscapeTargets, end_alone, leaf, build, loop_back_label, loop_nodes, nodes, nodes_in, nodes_of_arms, nodes_of_body, within_loop}
use Rattle.control_flow_theory.specs.lowering.Lower as lower
use Rattle.control_flow_theory.specs.lowering.Lowered as lowered
use Rattle.control_flow_theory.specs.lowering.Lowered.{nodes_left, nodes_from, nodes_of, place_in}
use Rattle.control_flow_theory.specs.lowering.Reached.{kept_nodes}
use Rattle.control_flow_theory.specs.lowering.Rests.{Sent, leaf_of, leaving_of, rest_from, tree_of}
use Rattle.control_flow_theory.specs.graph_rules.Reduced as reduced
use Rattle.control_flow_theory.specs.main_theorem.Chain.{graph_nodes}
use Rattle.end_to_end_laws.proofs.rewriting_lemmas.weights.Weights.{total, weigh_step, weigh_arms, weigh_when, stmt_weighs, arms_weigh, when_weighs, stmts_weigh, sentences_weigh, paragraphs_weigh}

-- ---- how many nodes there may be: one a statement and a paragraph, three a loop over statements

abbrev mutual
  pub stmt_load : Stmt → ℕ
  stmt_load (Do act) = 1
  stmt_load (Choose picker arms) = 1 + arms_load arms
  stmt_load (Loop control body) = 1 + body_load body
  stmt_load (Perform entry exit) = 1
  stmt_load (Go to) = 1
  stmt_load (GoDepending to on) = 1
  stmt_load NextSentence = 1
  stmt_load ExitParagraph = 1
  stmt_load (ExitSection last) = 1
  stmt_load (ExitPerform cycle) = 1
  stmt_load StopRun = 1

  pub stmts_load : Stmts → ℕ
  stmts_load none = 0
  stmts_load (also stmt stmts) = stmt_load stmt + stmts_load stmts

  pub arms_load : Arms → ℕ
  arms_load done = 0
  arms_load (given arm others) = stmts_load arm + arms_load others
  arms_load (missing others) = arms_load others

  pub body_load : Body → ℕ
  body_load (Nested stmts) = 2 + stmts_load stmts
  body_load (Performed entry exit) = 0

abbrev pub paragraph_load : Paragraph → ℕ
paragraph_load [] = 0
paragraph_load (sentence ∷ sentences) = stmts_load sentence + paragraph_load sentences

abbrev pub paragraphs_load : List Paragraph → ℕ
paragraphs_load [] = 0
paragraphs_load (paragraph ∷ others) = 1 + paragraph_load paragraph + paragraphs_load others

loop-few : (told : FlowFacts) (places : ℕ → ℕ) (control : Control) (place : ℕ) (body : Tree) (after : End) → length (loop_nodes control place body after) ≤ 2
loop-few told places (Times amount) place body after = omega arith
loop-few told places (Until false test) place body after = omega arith
loop-few told places (Until true test) place body after = omega arith
loop-few told places (Varying false set step test) place body after = omega arith
loop-few told places (Varying true set step test) place body after = omega arith

module _ (told : FlowFacts) (places : ℕ → ℕ) where
  mutual
    in-few : (stmt : Stmt) (place : ℕ) (leaving : EscapeTargets) (after : End) (behind : Tree) → length (nodes_in told places stmt place leaving after behind) + 1 ≤ stmt_load stmt
    in-few (Do act) place leaving after behind = omega arith
    in-few (Choose picker arms) place leaving after behind = (let h = arms-few arms (place + 1) leaving after behind in omega (arith, h))
    in-few (Loop control body) place leaving after behind = (let h = body-few body control place leaving after in omega (arith, h))
    in-few (Perform entry exit) place leaving after behind = omega arith
    in-few (Go to) place leaving after behind = omega arith
    in-few (GoDepending to on) place leaving after behind = omega arith
    in-few NextSentence place leaving after behind = omega arith
    in-few ExitParagraph place leaving after behind = omega arith
    in-few (ExitSection last) place leaving after behind = omega arith
    in-few (ExitPerform cycle) place leaving after behind = omega arith
    in-few StopRun place leaving after behind = omega arith

    pub stmts-few : (stmts : Stmts) (place : ℕ) (leaving : EscapeTargets) (after : End) (behind : Tree) → length (nodes told places stmts place leaving after behind) ≤ stmts_load stmts
    stmts-few none place leaving after behind = omega arith
    stmts-few (also stmt stmts) place leaving after behind =
        let tail = leaf told places stmts (place + size stmt) after in
        let rest = build told places stmts (place + size stmt) leaving after behind in
        let one = in-few stmt place leaving tail rest in
        let others = stmts-few stmts (place + size stmt) leaving after behind in
        let both = length-append (nodes_in told places stmt place leaving tail rest) (nodes told places stmts (place + size stmt) leaving after behind) in
        omega (arith, one, others, both)

    arms-few : (arms : Arms) (place : ℕ) (leaving : EscapeTargets) (after : End) (behind : Tree) → length (nodes_of_arms told places arms place leaving after behind) ≤ arms_load arms
    arms-few done place leaving after behind = omega arith
    arms-few (given arm others) place leaving after behind =
        let one = stmts-few arm place leaving after behind in
        let rest = arms-few others (place + sizes arm) leaving after behind in
        let both = length-append (nodes told places arm place leaving after behind) (nodes_of_arms told places others (place + sizes arm) leaving after behind) in
        omega (arith, one, rest, both)
    arms-few (missing others) place leaving after behind = arms-few others place leaving after behind

    body-few : (body : Body) (control : Control) (place : ℕ) (leaving : EscapeTargets) (after : End) → length (nodes_of_body told places body control place leaving after) ≤ body_load body
    body-few (Nested stmts) control place leaving after =
        let turn = Jump (loop_back_label control place) in
        let within = within_loop leaving after turn in
        let head = loop_nodes control place (build told places stmts (place + 1) within turn (end_alone turn)) after in
        let two = loop-few told places control place (build told places stmts (place + 1) within turn (end_alone turn)) after in
        let rest = stmts-few stmts (place + 1) within turn (end_alone turn) in
        let both = length-append head (nodes told places stmts (place + 1) within turn (end_alone turn)) in
        omega (arith, two, rest, both)
    body-few (Performed entry exit) control place leaving after = omega arith

-- ---- the nodes of a range

module _ (told : FlowFacts) (program : Program) where
  left-few : (targets : EscapeTargets) (place : ℕ) (paragraph : Paragraph) → length (nodes_left told program targets (rest_from told place paragraph)) ≤ paragraph_load paragraph
  left-few targets place [] = omega arith
  left-few targets place (sentence ∷ sentences) =
      let behind = rest_from told (place + sizes sentence) sentences in
      let rest = Sent (leave_sentence (cuts told sentence)) behind in
      let ns = nodes told (place_in program) sentence place (leaving_of told (place_in program) targets rest) (leaf_of told (place_in program) targets rest) (tree_of told (place_in program) targets rest) in
      let one = stmts-few told (place_in program) sentence place (leaving_of told (place_in program) targets rest) (leaf_of told (place_in program) targets rest) (tree_of told (place_in program) targets rest) in
      let others = left-few targets (place + sizes sentence) sentences in
      let both = length-append ns (nodes_left told program targets behind) in
      omega (arith, one, others, both)

  from-few : (range : Range) (number place : ℕ) (paragraphs : List Paragraph) → length (nodes_from told program range number place paragraphs) ≤ paragraphs_load paragraphs
  from-few range number place [] = omega arith
  from-few range number place (paragraph ∷ others) =
      let targets = lower.leaving_at (place_in program) program range number in
      let here = nodes_left told program targets (rest_from told (place + 1) paragraph) in
      let next = nodes_from told program range (suc number) (place + 1 + lowered.total paragraph) others in
      let one = left-few targets (place + 1) paragraph in
      let rest = from-few range (suc number) (place + 1 + lowered.total paragraph) others in
      let both = length-append here next in
      omega (arith, one, rest, both)

kept-few : (keep : Label → Bool) (ns : List Node) → length (kept_nodes keep ns) ≤ length ns
kept-few keep [] = omega arith
kept-few keep (one ∷ others) =
    let rest = kept-few keep others in
    elim (keep one.key) as (λ b. length (if b then one ∷ kept_nodes keep others else kept_nodes keep others) ≤ suc (length others)) [
      | true ↦ omega (arith, rest)
      | false ↦ omega (arith, rest)
    ]

same-size : (number : ℕ → ℕ) (ns : List Node) → reduced.size (graph_nodes number ns) ≡ length ns
same-size number [] = refl
same-size number (one ∷ others) = ap (λ (n : ℕ). suc n) (same-size number others)

pub range-few : (told : FlowFacts) (program : Program) (range : Range) (keep : Label → Bool) (number : ℕ → ℕ) →
    reduced.size (graph_nodes number (kept_nodes keep (nodes_of told program range))) ≤ paragraphs_load program.paragraphs
range-few told program range keep number =
    let all = nodes_of told program range in
    let same = same-size number (kept_nodes keep all) in
    let kept = kept-few keep all in
    let few = from-few told program range 0 0 program.paragraphs in
    omega (arith, same, kept, few)

-- ---- a program loads no more than it weighs

module _ (last : ℕ) where
  abbrev Few : coded_stmt.Stmt → Type 0
  Few stmt = stmt_load (seen last stmt) ≤ stmt_weighs stmt

  abbrev BothFew : coded.Arms → Type 0
  BothFew arms = arms_load (both_arms (seen_both last arms)) ≤ arms_weigh arms

  abbrev WhenFew : When → Type 0
  WhenFew when = stmts_load (seen_when last when).arm ≤ when_weighs when

  abbrev SuchStmt : Type 0
  SuchStmt = (stmt : coded_stmt.Stmt) × Few stmt

  abbrev SuchArms : Type 0
  SuchArms = (arms : coded.Arms) × BothFew arms

  abbrev SuchWhen : Type 0
  SuchWhen = (when : When) × WhenFew when

  abbrev plain : List SuchStmt → List coded_stmt.Stmt
  plain stmts = map (λ e. e.0) stmts

  abbrev plain_whens : List SuchWhen → List When
  plain_whens whens = map (λ e. e.0) whens

  held-few : (xs : List SuchStmt) → stmts_load (seen_stmts last (plain xs)) ≤ stmts_weigh (plain xs)
  held-few [] = omega arith
  held-few (x ∷ xs) = (let one = x.1 in let rest = held-few xs in omega (arith, one, rest))

  else-few : (xs : List SuchStmt) → arms_load (arm_before (else_of (map (seen last) (plain xs))) done) ≤ stmts_weigh (plain xs)
  else-few [] = omega arith
  else-few (x ∷ xs) = (let all = held-few (x ∷ xs) in omega (arith, all))

  whens-few : (xs : List SuchWhen) (tail : Arms) → arms_load (branches_before (map (seen_when last) (plain_whens xs)) tail) ≤ total (map when_weighs (plain_whens xs)) + arms_load tail
  whens-few [] tail = omega arith
  whens-few (x ∷ xs) tail = (let one = x.1 in let rest = whens-few xs tail in omega (arith, one, rest))

  arith-few : (calc : Calc) (into : List Target) (first second : Option Stmts) (weight : ℕ) → arms_load (both_arms (record { first = first; second = second })) ≤ weight →
      stmt_load (arith_stmt calc into (record { first = first; second = second })) ≤ 1 + weight
  arith-few calc into None None weight h = omega arith
  arith-few calc into None (Some second) weight h = omega (arith, h)
  arith-few calc into (Some first) None weight h = omega (arith, h)
  arith-few calc into (Some first) (Some second) weight h = omega (arith, h)

  turns-few : (control : controls.Control) (body : Stmts) (weight : ℕ) → stmts_load body ≤ weight → stmt_load (loop_of (control_in control) body) ≤ 3 + weight
  turns-few turning.Once body weight h = omega (arith, h)
  turns-few (turning.Times amount) body weight h = omega (arith, h)
  turns-few (turning.Until after until) body weight h = omega (arith, h)
  turns-few (turning.Varying after item from by until) body weight h = omega (arith, h)

  perform-few : (control : controls.Control) (entry exit : ℕ) → stmt_load (perform_of (control_in control) entry exit) ≤ 1
  perform-few turning.Once entry exit = omega arith
  perform-few (turning.Times amount) entry exit = omega arith
  perform-few (turning.Until after until) entry exit = omega arith
  perform-few (turning.Varying after item from by until) entry exit = omega arith

  -- ---- each statement, by those that it holds

  abbrev mapped : Stmt-F SuchStmt SuchArms SuchWhen → Stmt-F coded_stmt.Stmt coded.Arms When
  mapped = map-Stmt SuchStmt SuchArms SuchWhen coded_stmt.Stmt coded.Arms When (λ e. e.0) (λ e. e.0) (λ e. e.0)

  abbrev shown : Stmt-F coded_stmt.Stmt coded.Arms When → Stmt
  shown y = seen_step last (map-Stmt coded_stmt.Stmt coded.Arms When Stmt Both Branch (seen last) (seen_both last) (seen_when last) y)

  abbrev weighed : Stmt-F coded_stmt.Stmt coded.Arms When → ℕ
  weighed y = weigh_step (map-Stmt coded_stmt.Stmt coded.Arms When ℕ ℕ ℕ stmt_weighs arms_weigh when_weighs y)

  step-few : (y : Stmt-F SuchStmt SuchArms SuchWhen) → stmt_load (shown (mapped y)) ≤ weighed (mapped y)
  step-few (Stmt-F.Display texts advance) = omega arith
  step-few (Stmt-F.Move from to) = omega arith
  step-few (Stmt-F.Arith calc into arms) =
      let both = seen_both last arms.0 in
      arith-few calc into both.first both.second (arms_weigh arms.0) arms.1
  step-few (Stmt-F.SetTrue place) = omega arith
  step-few (Stmt-F.Opens openings) = omega arith
  step-few (Stmt-F.Closes files) = omega arith
  step-few (Stmt-F.Read file into arms) = (let h = arms.1 in omega (arith, h))
  step-few (Stmt-F.Write entry from) = omega arith
  step-few (Stmt-F.Rewrite entry from) = omega arith
  step-few (Stmt-F.If cond met unmet) = (let one = held-few met in let other = else-few unmet in omega (arith, one, other))
  step-few (Stmt-F.Evaluate subject whens None) = (let h = whens-few whens (missing done) in omega (arith, h))
  step-few (Stmt-F.Evaluate subject whens (Some other)) =
      let arm = held-few other in
      let h = whens-few whens (given (seen_stmts last (plain other)) done) in
      omega (arith, h, arm)
  step-few (Stmt-F.Loop control body) = turns-few control (seen_stmts last (plain body)) (stmts_weigh (plain body)) (held-few body)
  step-few (Stmt-F.Perform entry exit control) = perform-few control entry exit
  step-few (Stmt-F.Go to) = omega arith
  step-few (Stmt-F.GoDepending to on) = omega arith
  step-few Stmt-F.NextSentence = omega arith
  step-few Stmt-F.StopRun = omega arith
  step-few Stmt-F.Exit = omega arith
  step-few Stmt-F.ExitParagraph = omega arith
  step-few Stmt-F.ExitSection = omega arith
  step-few (Stmt-F.ExitPerform cycle) = omega arith
  step-few Stmt-F.Continue = omega arith

  layer : (y : Stmt-F SuchStmt SuchArms SuchWhen) → Few (roll-Stmt (mapped y))
  layer y =
      let show = ap stmt_load (fold-roll-Stmt Stmt Both Branch (seen_step last) both_step branch_step (mapped y)) in
      let weigh = fold-roll-Stmt ℕ ℕ ℕ weigh_step weigh_arms weigh_when (mapped y) in
      let h = step-few y in
      omega (arith, show, weigh, h)

  abbrev mapped_arms : Arms-F SuchStmt SuchArms SuchWhen → Arms-F coded_stmt.Stmt coded.Arms When
  mapped_arms = map-Arms SuchStmt SuchArms SuchWhen coded_stmt.Stmt coded.Arms When (λ e. e.0) (λ e. e.0) (λ e. e.0)

  abbrev both_of : Arms-F coded_stmt.Stmt coded.Arms When → Both
  both_of arms = both_step (map-Arms coded_stmt.Stmt coded.Arms When Stmt Both Branch (seen last) (seen_both last) (seen_when last) arms)

  abbrev both_weigh : Arms-F coded_stmt.Stmt coded.Arms When → ℕ
  both_weigh arms = weigh_arms (map-Arms coded_stmt.Stmt coded.Arms When ℕ ℕ ℕ stmt_weighs arms_weigh when_weighs arms)

  both-few : (first second : Option (List SuchStmt)) →
      arms_load (both_arms (both_of (mapped_arms (record { first = first; second = second })))) ≤ both_weigh (mapped_arms (record { first = first; second = second }))
  both-few None None = omega arith
  both-few None (Some second) = (let two = held-few second in omega (arith, two))
  both-few (Some first) None = (let one = held-few first in omega (arith, one))
  both-few (Some first) (Some second) = (let one = held-few first in let two = held-few second in omega (arith, one, two))

  arms-layer : (first second : Option (List SuchStmt)) → BothFew (roll-Arms (mapped_arms (record { first = first; second = second })))
  arms-layer first second =
      let y = mapped_arms (record { first = first; second = second }) in
      let show = ap (λ b. arms_load (both_arms b)) (fold-roll-Arms Stmt Both Branch (seen_step last) both_step branch_step y) in
      let weigh = fold-roll-Arms ℕ ℕ ℕ weigh_step weigh_arms weigh_when y in
      let h = both-few first second in
      omega (arith, show, weigh, h)

  when-layer : (tests : List choices.Test) (stmts : List SuchStmt) → WhenFew (roll-When (map-When SuchStmt SuchArms SuchWhen coded_stmt.Stmt coded.Arms When (λ e. e.0) (λ e. e.0) (λ e. e.0) (record { tests = tests; stmts = stmts })))
  when-layer tests stmts =
      let y : When-F coded_stmt.Stmt coded.Arms When = record { tests = tests; stmts = plain stmts } in
      let show = ap (λ (b : Branch). stmts_load b.arm) (fold-roll-When Stmt Both Branch (seen_step last) both_step branch_step y) in
      let weigh = fold-roll-When ℕ ℕ ℕ weigh_step weigh_arms weigh_when y in
      let h = held-few stmts in
      omega (arith, show, weigh, h)

  stmt-few : (stmt : coded_stmt.Stmt) → Few stmt
  stmt-few stmt =
      ind-Stmt Few BothFew WhenFew
      (λ x y is. subst (λ z. Few (roll-Stmt z)) is (layer y))
      (λ x y is. subst (λ z. BothFew (roll-Arms z)) is (arms-layer y.first y.second))
      (λ x y is. subst (λ z. WhenFew (roll-When z)) is (when-layer y.tests y.stmts)) stmt

  list-few : (stmts : List coded_stmt.Stmt) → stmts_load (seen_stmts last stmts) ≤ stmts_weigh stmts
  list-few [] = omega arith
  list-few (stmt ∷ stmts) = (let one = stmt-few stmt in let rest = list-few stmts in omega (arith, one, rest))

  sentences-few : (list : List sentences.Sentence) → paragraph_load (map (seen_sentence last) list) ≤ sentences_weigh list
  sentences-few [] = omega arith
  sentences-few (sentence ∷ list) = (let one = list-few sentence.stmts in let rest = sentences-few list in omega (arith, one, rest))

paragraphs-few : (number : ℕ) (paragraphs : List trees.Paragraph) → paragraphs_load (seen_paragraphs number paragraphs) ≤ paragraphs_weigh paragraphs
paragraphs-few number [] = omega arith
paragraphs-few number (paragraph ∷ others) =
    let one = sentences-few (section_last number others) paragraph.sentences in
    let rest = paragraphs-few (suc number) others in
    omega (arith, one, rest)

-- a range of a program has no more nodes than the program weighs
pub nodes-few : (told : FlowFacts) (program : cobol.Program) (range : Range) (keep : Label → Bool) (number : ℕ → ℕ) →
    reduced.size (graph_nodes number (kept_nodes keep (nodes_of told (control_of program) range))) ≤ paragraphs_weigh program.paragraphs
nodes-few told program range keep number =
    let nodes = range-few told (control_of program) range keep number in
    let weight = paragraphs-few 0 program.paragraphs in
    omega (arith, nodes, weight)
