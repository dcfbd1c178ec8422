-- Where the counters of a tree are numbered anew, and served by these numbers, it may be written.
use Rattle.std.proofs.Common.{◌≡◌, ℕ, suc, true, false, List, [], ◌∷◌, refl, ap, sym, ◌∙◌, subst}
use Rattle.control_flow_theory.specs.language.Language.{Act, Own, Set, Take, Lower, Test, Holds, Not, Is, Above, Picker, If, By, ByCell, Control, Times, Until, Varying, Stmt, Choose, Loop, Perform, Go, GoDepending, NextSentence, ExitParagraph, ExitSection, ExitPerform, StopRun, Stmts, none, also, Arms, done, given, missing, Body, Nested, Performed, Range}
use Rattle.control_flow_theory.specs.language.Language as language
use Rattle.control_flow_theory.specs.semantics.Graph.{Tree, tree, End, Pick, Jump, Return, Stop, Dead, Trees, no_more, more}
use Rattle.control_flow_theory.specs.lowering.Renamed.{act_anew, test_anew, picker_anew, control_anew, stmt_anew, stmts_anew, arms_anew, body_anew, end_anew, trees_anew, tree_anew}
use Rattle.control_flow_theory.specs.lowering.WellFormed.{tree_count, IsFirstDead}
use Rattle.control_flow_theory.specs.graph_rules.Fits as fits
use Rattle.control_flow_theory.specs.rendering.Rendering.{Empty, Naming, Procedure, arm_stands, standing}
use Rattle.control_flow_theory.specs.rendering.Procedures.{Writable, ActFits, TestFits, PickerFits, ControlFits}
use Rattle.control_flow_theory.specs.main_theorem.Chain.{Anywhere, PickerNames, StmtNames, StmtsName, ArmsName, BodyNames, EndNames, TreesName, TreeNames, MayBecome, PickServed, StmtServed, StmtsServed, ArmsServed, BodyServed, EndServed, TreesServed, TreeServed}
use Rattle.control_flow_theory.proofs.expressible_graphs_lemmas.Parts.{with_counters}

-- which arms stand there stays as it is, and so do how many trees there are, and whether the first
-- one is Dead
module _ (number : ℕ → ℕ) where
  arm-anew : (empty : Empty) (arm : Stmts) → arm_stands empty true (stmts_anew number arm) ≡ arm_stands empty true arm
  arm-anew empty none = refl
  arm-anew empty (also stmt stmts) = refl

  standing-anew : (empty : ℕ → Empty) (n : ℕ) (arms : Arms) → standing empty n (arms_anew number arms) ≡ standing empty n arms
  standing-anew empty n done = refl
  standing-anew empty n (given arm others) =
      ap (λ b. b ∷ standing empty (suc n) (arms_anew number others)) (arm-anew (empty n) arm) ∙ ap (λ bs. arm_stands (empty n) true arm ∷ bs) (standing-anew empty (suc n) others)
  standing-anew empty n (missing others) = ap (λ bs. arm_stands (empty n) false none ∷ bs) (standing-anew empty (suc n) others)

  count-anew : (ts : Trees) → tree_count (trees_anew number ts) ≡ tree_count ts
  count-anew no_more = refl
  count-anew (more (tree body end) others) = ap suc (count-anew others)

  dead-anew : (ts : Trees) → IsFirstDead ts → IsFirstDead (trees_anew number ts)
  dead-anew no_more d = d
  dead-anew (more (tree body end) others) d = ap (tree_anew number) d

  becomes-anew : (ts : Trees) (arms : Arms) → MayBecome (trees_anew number ts) arms → MayBecome ts arms
  becomes-anew ts arms m = record { as_many = m.as_many ∙ count-anew ts; dead = λ d. m.dead (dead-anew ts d) }

-- what names only these cells, which serve as counters
module _ (naming : Naming) (kinds : Writable) (procedures : List Procedure) (range : Range) (number : ℕ → ℕ) (R W : ℕ → Type 0)
    (aboves : (cell : ℕ) → R cell → kinds.aboves range cell ≡ true) (counts : (cell : ℕ) → W cell → kinds.counts range cell ≡ true) where
  abbrev lent : Writable
  lent = with_counters kinds

  act-anew : (act : Act) → ActFits naming lent [] range act → fits.ActFits (Anywhere R W) R W (act_anew number act) → ActFits naming kinds procedures range (act_anew number act)
  act-anew (Own simple) s k = s
  act-anew (Set cell value) s k = absurd (let e : false ≡ true = s in cc)
  act-anew (Take cell amount) s k = (counts (number cell) k, s.1)
  act-anew (Lower cell) s k = counts (number cell) k.1

  test-anew : (test : Test) → TestFits naming lent [] range test → fits.TestFits (Anywhere R W) R W (test_anew number test) → TestFits naming kinds procedures range (test_anew number test)
  test-anew (Holds cond) s k = s
  test-anew (Not test) s k = test-anew test s k
  test-anew (Is cell value) s k = absurd (let e : false ≡ true = s in cc)
  test-anew (Above cell) s k = aboves (number cell) k

  control-anew : (control : Control) → ControlFits naming lent [] range control → fits.ControlFits (Anywhere R W) R W (control_anew number control) → ControlFits naming kinds procedures range (control_anew number control)
  control-anew (Times amount) s k = s
  control-anew (Until after test) s k = test-anew test s k
  control-anew (Varying after set step test) s k = (act-anew set s.0 k.0, act-anew step s.1 k.1, test-anew test s.2 k.2)

  picker-anew : (picker : Picker) (arms : Arms) → PickerFits naming lent [] range picker (standing (naming.empty range picker) 0 arms) → PickerNames R W (picker_anew number picker) →
      PickerFits naming kinds procedures range (picker_anew number picker) (standing (naming.empty range (picker_anew number picker)) 0 (arms_anew number arms))
  picker-anew (If test) arms s k = test-anew test s k
  picker-anew (By chooser) arms s k = subst (λ stand. kinds.choosers chooser stand ≡ true) (sym (standing-anew number (naming.empty range (By chooser)) 0 arms)) s
  picker-anew (ByCell cell) arms s k = absurd s

  pick-anew : (picker : Picker) (ts : Trees) → PickServed naming lent [] range picker ts → PickerNames R W (picker_anew number picker) → PickServed naming kinds procedures range (picker_anew number picker) (trees_anew number ts)
  pick-anew (If test) ts s k = test-anew test s k
  pick-anew (By chooser) ts s k = λ news becomes. s news (becomes-anew number ts news becomes)
  pick-anew (ByCell cell) ts s k = absurd s

  mutual
    stmt-anew : (s : Stmt) → StmtServed naming lent [] range s → StmtNames R W (stmt_anew number s) → StmtServed naming kinds procedures range (stmt_anew number s)
    stmt-anew (language.Do act) = λ s k. act-anew act s k
    stmt-anew (Choose picker arms) = λ s k. (picker-anew picker arms s.0 k.0, arms-anew arms s.1 k.1)
    stmt-anew (Loop control body) = λ s k. (control-anew control s.0 k.0, body-anew body s.1 k.1)
    stmt-anew (Perform e x) = λ s k. tt
    stmt-anew (Go to) = λ s k. tt
    stmt-anew (GoDepending to on) = λ s k. tt
    stmt-anew NextSentence = λ s k. tt
    stmt-anew ExitParagraph = λ s k. tt
    stmt-anew (ExitSection last) = λ s k. tt
    stmt-anew (ExitPerform cycle) = λ s k. tt
    stmt-anew StopRun = λ s k. tt

    stmts-anew : (ss : Stmts) → StmtsServed naming lent [] range ss → StmtsName R W (stmts_anew number ss) → StmtsServed naming kinds procedures range (stmts_anew number ss)
    stmts-anew none = λ s k. tt
    stmts-anew (also stmt stmts) = λ s k. (stmt-anew stmt s.0 k.0, stmts-anew stmts s.1 k.1)

    arms-anew : (arms : Arms) → ArmsServed naming lent [] range arms → ArmsName R W (arms_anew number arms) → ArmsServed naming kinds procedures range (arms_anew number arms)
    arms-anew done = λ s k. tt
    arms-anew (given arm others) = λ s k. (stmts-anew arm s.0 k.0, arms-anew others s.1 k.1)
    arms-anew (missing others) = λ s k. arms-anew others s k

    body-anew : (body : Body) → BodyServed naming lent [] range body → BodyNames R W (body_anew number body) → BodyServed naming kinds procedures range (body_anew number body)
    body-anew (Nested ss) = λ s k. stmts-anew ss s k
    body-anew (Performed e x) = λ s k. tt

  mutual
    end-anew : (end : End) → EndServed naming lent [] range end → EndNames R W (end_anew number end) → EndServed naming kinds procedures range (end_anew number end)
    end-anew (Pick picker ts) = λ s k. (pick-anew picker ts s.0 k.0, trees-anew ts s.1 k.1)
    end-anew (Jump to) = λ s k. tt
    end-anew Return = λ s k. tt
    end-anew Stop = λ s k. tt
    end-anew Dead = λ s k. tt

    trees-anew : (ts : Trees) → TreesServed naming lent [] range ts → TreesName R W (trees_anew number ts) → TreesServed naming kinds procedures range (trees_anew number ts)
    trees-anew no_more = λ s k. tt
    trees-anew (more (tree body end) others) = λ s k. (stmts-anew body s.0 k.0, end-anew end s.1 k.1, trees-anew others s.2 k.2)

  pub tree-anew : (t : Tree) → TreeServed naming lent [] range t → TreeNames R W (tree_anew number t) → TreeServed naming kinds procedures range (tree_anew number t)
  tree-anew (tree body end) s k = (stmts-anew body s.0 k.0, end-anew end s.1 k.1)
