-- How many arms the choices of procedures have.
use Rattle.std.proofs.Common.{◌≡◌, ℕ, suc, ◌≤◌, ◌<◌, true, List, [], ◌∷◌, length, Some, refl, ap, sym, ◌∙◌, eq-eqb, inl}
use Rattle.std.specs.Prelude.{slice_get}
use Rattle.control_flow_theory.specs.language.Language.{Act, Own, Set, Take, Lower, Test, Holds, Not, Is, Above, Chooser, Picker, If, By, ByCell, Control, Times, Until, Varying, Stmt, Choose, Loop, Perform, Go, GoDepending, NextSentence, ExitParagraph, ExitSection, ExitPerform, StopRun, Stmts, none, also, Arms, done, given, missing, Body, Nested, Performed, Paragraph, Program, Range, Main}
use Rattle.control_flow_theory.specs.language.Language as language
use Rattle.control_flow_theory.specs.language.Structured.{StmtsNest}
use Rattle.control_flow_theory.specs.lowering.FlowFacts.{FlowFacts, OwnStmt, OwnStmts, OwnArms, OwnBody, OwnParagraph, OwnParagraphs, IsSource, arm_count}
use Rattle.control_flow_theory.specs.semantics.Graph.{body_of}
use Rattle.control_flow_theory.specs.graph_rules.Families.{Added, Never, Flag, Count, State, Exit}
use Rattle.control_flow_theory.specs.graph_rules.Reduced.{kind_at, size, tree_in}
use Rattle.control_flow_theory.specs.graph_rules.Walked.{In}
use Rattle.control_flow_theory.specs.structuring.Closes.{closed_graph}
use Rattle.control_flow_theory.specs.rendering.Rendering.{Empty, Naming, Procedure, count_arms, standing}
use Rattle.control_flow_theory.specs.main_theorem.Chain.{IsPlan, IsNumberedPlan, ChoiceServed, KindServed, EachCellServed, stmts_arms}
use Rattle.control_flow_theory.specs.main_theorem.MainTheorem.{Plan, graphs_by, procedures_by}
use Rattle.control_flow_theory.specs.main_theorem.Numbering.{numbers_by, added_by}
use Rattle.control_flow_theory.specs.expressible_graphs.Served.{TestIsServed, ChooserIsServed, StmtIsServed, StmtsAreServed, ArmsAreServed, BodyIsServed, ControlIsServed, ActIsServed, ParagraphIsServed, ParagraphsAreServed, ProgramIsServed}
use Rattle.control_flow_theory.proofs.main_theorem_lemmas.graphs.LoweredStand.{closed-graphs-stand}
use Rattle.control_flow_theory.proofs.main_theorem_lemmas.graphs.Numbering.{counters-numbered}
use Rattle.control_flow_theory.proofs.expressible_graphs_lemmas.Graphs.{served-graphs}
use Rattle.fixed_point.specs.Choices.{ChoiceFits}
use Rattle.fixed_point.specs.Fixed.{stands_in}
use Rattle.fixed_point.specs.Written.{StmtsChoose}
use Rattle.fixed_point.proofs.Choices.{stmts-so}
use Rattle.fixed_point_laws.specs.Counting.{counting, TellsArms, ProceduresAreCounted}

same-count : (arms : Arms) → count_arms arms ≡ arm_count arms
same-count done = refl
same-count (given arm others) = ap (λ (n : ℕ). suc n) (same-count others)
same-count (missing others) = ap (λ (n : ℕ). suc n) (same-count others)

pub flags-count : (empty : ℕ → Empty) (first : ℕ) (arms : Arms) → length (standing empty first arms) ≡ count_arms arms
flags-count empty first done = refl
flags-count empty first (given arm others) = ap (λ (n : ℕ). suc n) (flags-count empty (suc first) others)
flags-count empty first (missing others) = ap (λ (n : ℕ). suc n) (flags-count empty (suc first) others)

module _ (naming : Naming) (told : FlowFacts) (most : Range → ℕ → ℕ) (range : Range) where
  abbrev Served : Stmt → Type 0
  Served stmt = StmtIsServed naming (counting told.width most) told range stmt

  act-served : (act : Act) → ActIsServed naming (counting told.width most) told range act
  act-served (Own simple) = refl
  act-served (Set cell value) = tt
  act-served (Take cell amount) = tt
  act-served (Lower cell) = tt

  test-served : (test : Test) → TestIsServed naming (counting told.width most) told range test
  test-served (Holds cond) = refl
  test-served (Not test) = test-served test
  test-served (Is cell value) = tt
  test-served (Above cell) = tt

  chooser-served : (chooser : Chooser) (count : ℕ) → told.width chooser ≡ count → ChooserIsServed naming (counting told.width most) told range chooser count
  chooser-served chooser count is = λ arms same dead.
      let flags = standing (naming.empty range (By chooser)) 0 arms in
      eq-eqb (length flags) (told.width chooser) (flags-count (naming.empty range (By chooser)) 0 arms ∙ same ∙ sym is)

  control-served : (control : Control) → ControlIsServed naming (counting told.width most) told range control
  control-served (Times amount) = refl
  control-served (Until after test) = test-served test
  control-served (Varying after set step test) = (act-served set, act-served step, test-served test)

  module _ (paragraphs : ℕ) where
    mutual
      stmt-served : (stmt : Stmt) → OwnStmt told paragraphs stmt → Served stmt
      stmt-served (language.Do act) = λ own. act-served act
      stmt-served (Choose (If test) arms) = λ own. (test-served test, arms-served arms own.1)
      stmt-served (Choose (By chooser) arms) = λ own. (chooser-served chooser (count_arms arms) (own.0 ∙ sym (same-count arms)), arms-served arms own.1)
      stmt-served (Choose (ByCell cell) arms) = λ own. absurd own.0
      stmt-served (Loop control body) = λ own. (control-served control, body-served body own.1)
      stmt-served (Perform entry exit) = λ own. tt
      stmt-served (Go to) = λ own. tt
      stmt-served (GoDepending to on) = λ own. chooser-served on (suc (length to)) own.0
      stmt-served NextSentence = λ own. tt
      stmt-served ExitParagraph = λ own. tt
      stmt-served (ExitSection last) = λ own. tt
      stmt-served (ExitPerform cycle) = λ own. tt
      stmt-served StopRun = λ own. tt

      stmts-served : (stmts : Stmts) → OwnStmts told paragraphs stmts → StmtsAreServed naming (counting told.width most) told range stmts
      stmts-served none = λ own. tt
      stmts-served (also stmt stmts) = λ own. (stmt-served stmt own.0, stmts-served stmts own.1)

      arms-served : (arms : Arms) → OwnArms told paragraphs arms → ArmsAreServed naming (counting told.width most) told range arms
      arms-served done = λ own. tt
      arms-served (given arm others) = λ own. (stmts-served arm own.0, arms-served others own.1)
      arms-served (missing others) = λ own. arms-served others own

      body-served : (body : Body) → OwnBody told paragraphs body → BodyIsServed naming (counting told.width most) told range body
      body-served (Nested stmts) = λ own. stmts-served stmts own
      body-served (Performed entry exit) = λ own. tt

    paragraph-served : (paragraph : Paragraph) → OwnParagraph told paragraphs paragraph → ParagraphIsServed naming (counting told.width most) told range paragraph
    paragraph-served [] = λ own. tt
    paragraph-served (sentence ∷ sentences) = λ own. (inl (stmts-served sentence own.0), paragraph-served sentences own.1)

    paragraphs-served : (list : List Paragraph) → OwnParagraphs told paragraphs list → ParagraphsAreServed naming (counting told.width most) told range list
    paragraphs-served [] = λ own. tt
    paragraphs-served (paragraph ∷ others) = λ own. (paragraph-served paragraph own.0, paragraphs-served others own.1)

  program-served : (program : Program) → IsSource told program → ProgramIsServed naming (counting told.width most) told range program
  program-served program source = paragraphs-served (length program.paragraphs) program.paragraphs source

module _ (naming : Naming) (most : Range → ℕ → ℕ) (plan : Plan) (program : Program) (source : IsSource plan.told program) (some : 0 < length program.paragraphs)
    (planned : IsPlan plan.told program plan.keep plan.others) (tells : TellsArms plan program most) where
  numbered : IsNumberedPlan plan.told program plan.keep (numbers_by plan.keep program) (added_by plan.keep program) plan.others
  numbered =
      let all = counters-numbered plan.told program plan.keep source in
      record { plan = planned; apart = all.0; names = λ range here. all.1 range (planned.just range here) }

  chosen : (range : Range) → In range (Main ∷ plan.others) → (cell : ℕ) (kind : Added) → kind_at (closed_graph (graphs_by plan program range)).added cell ≡ Some kind →
      ((arms : ℕ) → stmts_arms cell (body_of (tree_in (closed_graph (graphs_by plan program range)).nodes (closed_graph (graphs_by plan program range)).entry)) ≡ Some arms → arms ≤ suc (size (graphs_by plan program range).nodes) → most range cell ≡ arms) →
      ChoiceServed (counting plan.told.width most) range (body_of (tree_in (closed_graph (graphs_by plan program range)).nodes (closed_graph (graphs_by plan program range)).entry)) (suc (size (graphs_by plan program range).nodes)) cell
  chosen range here cell kind is tell = λ arms found le. ((λ value within. refl), eq-eqb arms (most range cell) (sym (tell arms found le)))

  kind-served : (range : Range) → In range (Main ∷ plan.others) → (cell : ℕ) (kind : Added) → kind_at (closed_graph (graphs_by plan program range)).added cell ≡ Some kind →
      KindServed (counting plan.told.width most) range (body_of (tree_in (closed_graph (graphs_by plan program range)).nodes (closed_graph (graphs_by plan program range)).entry)) (suc (size (graphs_by plan program range).nodes)) cell kind
  kind-served range here cell Never is = refl
  kind-served range here cell Flag is = (refl, refl, refl)
  kind-served range here cell Count is = tt
  kind-served range here cell State is = (refl, chosen range here cell State is (tells range here cell State is tt))
  kind-served range here cell Exit is = (refl, chosen range here cell Exit is (tells range here cell Exit is tt))

  cells-served : EachCellServed (counting plan.told.width most) (Main ∷ plan.others) (graphs_by plan program)
  cells-served range here cell kind is = kind-served range here cell kind is

  pub counted : (number : ℕ) (procedure : Procedure) → slice_get (procedures_by plan program) number ≡ Some procedure →
      StmtsNest (λ entry exit. stands_in (procedures_by plan program) entry exit ≡ true) procedure.body
      × StmtsChoose (ChoiceFits naming (counting plan.told.width most) (procedures_by plan program) procedure.range) procedure.body
  counted number procedure is =
      stmts-so naming (counting plan.told.width most) (procedures_by plan program) procedure.range procedure.body
      (closed-graphs-stand naming (counting plan.told.width most) plan.told program plan.keep (numbers_by plan.keep program) (added_by plan.keep program) plan.others
      cells-served source some numbered
      (served-graphs naming (counting plan.told.width most) plan program source planned.just
      (λ range here. program-served naming plan.told most range program source)
      (λ range here cell counter. (refl, refl)))
      number procedure is)

pub are-counted : ProceduresAreCounted
are-counted = λ naming most plan program source some planned tells number procedure is. counted naming most plan program source some planned tells number procedure is
