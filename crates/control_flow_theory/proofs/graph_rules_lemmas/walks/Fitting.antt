-- What fits fits more.
use Rattle.std.proofs.Common.{ℕ}
use Rattle.control_flow_theory.specs.language.Language.{Act, Own, Set, Take, Lower, Test, Holds, Not, Is, Above, Picker, If, By, ByCell, Control, Times, Until, Varying, Stmt, Choose, Loop, Perform, Go, GoDepending, NextSentence, ExitParagraph, ExitSection, ExitPerform, StopRun, Stmts, none, also, Arms, done, given, missing, Body, Nested, Performed, Range, Part}
use Rattle.control_flow_theory.specs.language.Language as language
use Rattle.control_flow_theory.specs.semantics.Graph.{Tree, tree, End, Pick, Jump, Return, Stop, Dead, Trees, no_more, more}
use Rattle.control_flow_theory.specs.graph_rules.Fits.{ActFits, TestFits, PickerFits, ControlFits, StmtFits, StmtsFit, ArmsFit, BodyFits, TreeFits, EndFits, TreesFit}

module _ (P Q : Range → Type 0) (R R' S S' : ℕ → Type 0) (f : (r : Range) → P r → Q r) (g : (c : ℕ) → R c → R' c) (h : (c : ℕ) → S c → S' c) where
  act-more : (act : Act) → ActFits P R S act → ActFits Q R' S' act
  act-more (Own simple) k = k
  act-more (Set cell value) k = h cell k
  act-more (Take cell amount) k = h cell k
  act-more (Lower cell) k = (g cell k.0, h cell k.1)

  test-more : (test : Test) → TestFits P R S test → TestFits Q R' S' test
  test-more (Holds cond) k = k
  test-more (Not test) k = test-more test k
  test-more (Is cell value) k = g cell k
  test-more (Above cell) k = g cell k

  picker-more : (picker : Picker) → PickerFits P R S picker → PickerFits Q R' S' picker
  picker-more (If test) k = test-more test k
  picker-more (By chooser) k = k
  picker-more (ByCell cell) k = g cell k

  control-more : (control : Control) → ControlFits P R S control → ControlFits Q R' S' control
  control-more (Times amount) k = k
  control-more (Until after test) k = test-more test k
  control-more (Varying after set step test) k = (act-more set k.0, act-more step k.1, test-more test k.2)

  mutual
    pub stmt-more : (stmt : Stmt) → StmtFits P R S stmt → StmtFits Q R' S' stmt
    stmt-more (language.Do act) = λ k. act-more act k
    stmt-more (Choose picker arms) = λ k. (picker-more picker k.0, arms-more arms k.1)
    stmt-more (Loop control body) = λ k. (control-more control k.0, body-more body k.1)
    stmt-more (Perform entry exit) = λ k. f (Part entry exit) k
    stmt-more (Go to) = λ k. k
    stmt-more (GoDepending to chooser) = λ k. k
    stmt-more NextSentence = λ k. k
    stmt-more ExitParagraph = λ k. k
    stmt-more (ExitSection last) = λ k. k
    stmt-more (ExitPerform cycle) = λ k. k
    stmt-more StopRun = λ k. k

    pub stmts-more : (stmts : Stmts) → StmtsFit P R S stmts → StmtsFit Q R' S' stmts
    stmts-more none = λ k. k
    stmts-more (also stmt stmts) = λ k. (stmt-more stmt k.0, stmts-more stmts k.1)

    arms-more : (arms : Arms) → ArmsFit P R S arms → ArmsFit Q R' S' arms
    arms-more done = λ k. k
    arms-more (given arm others) = λ k. (stmts-more arm k.0, arms-more others k.1)
    arms-more (missing others) = λ k. arms-more others k

    body-more : (body : Body) → BodyFits P R S body → BodyFits Q R' S' body
    body-more (Nested stmts) = λ k. stmts-more stmts k
    body-more (Performed entry exit) = λ k. f (Part entry exit) k

  mutual
    pub tree-more : (t : Tree) → TreeFits P R S t → TreeFits Q R' S' t
    tree-more (tree body end) = λ k. (stmts-more body k.0, end-more end k.1)

    pub end-more : (end : End) → EndFits P R S end → EndFits Q R' S' end
    end-more (Pick picker arms) = λ k. (picker-more picker k.0, trees-more arms k.1)
    end-more (Jump to) = λ k. k
    end-more Return = λ k. k
    end-more Stop = λ k. k
    end-more Dead = λ k. k

    pub trees-more : (arms : Trees) → TreesFit P R S arms → TreesFit Q R' S' arms
    trees-more no_more = λ k. k
    trees-more (more first others) = λ k. (tree-more first k.0, trees-more others k.1)
