-- For any parts there is a structured result of the same behaviour.
use Rattle.std.proofs.Common.{◌≡◌, ℕ, suc, refl, Bool, true, List, ◌∷◌}
use Rattle.control_flow_theory.specs.language.Language.{Act, Own, Set, Take, Lower, Test, Holds, Not, Is, Above, Picker, If, By, ByCell, Control, Times, Until, Varying, Stmt, Choose, Loop, Perform, Go, GoDepending, NextSentence, ExitParagraph, ExitSection, ExitPerform, StopRun, Stmts, none, also, Arms, done, given, missing, Body, Nested, Performed, Range, Main}
use Rattle.control_flow_theory.specs.language.Language as language
use Rattle.control_flow_theory.specs.semantics.Graph.{Tree, tree, End, Pick, Jump, Return, Stop, Dead, Trees, no_more, more, body_of}
use Rattle.control_flow_theory.specs.graph_rules.Families.{Added, Never, Flag, Count, State, Exit, Has, MaySet}
use Rattle.control_flow_theory.specs.graph_rules.Reduced.{Graph, tree_in, family_of, kinds_of, size}
use Rattle.control_flow_theory.specs.structuring.Closes.{closed_graph}
use Rattle.control_flow_theory.specs.rendering.Rendering.{Naming, Procedure, standing}
use Rattle.control_flow_theory.specs.rendering.Procedures.{Writable, ActFits, TestFits, PickerFits, ControlFits}
use Rattle.control_flow_theory.specs.main_theorem.Chain.{lowered_graphs, procedures_of, PickerNames, StmtNames, StmtsName, ArmsName, BodyNames, EndNames, TreesName, TreeNames, KindServed, CellsServed, PickServed, StmtServed, StmtsServed, ArmsServed, BodyServed, EndServed, TreesServed, TreeServed, SomeResultBehaves}
use Rattle.control_flow_theory.proofs.rendering_lemmas.Serviceable.{whole, names, whole-serves}
use Rattle.control_flow_theory.proofs.main_theorem_lemmas.Chain.{headline-over-control}
use Rattle.control_flow_theory.proofs.main_theorem_lemmas.graphs.LoweredStand.{closed-at, closed-graphs-stand}
use Rattle.control_flow_theory.proofs.main_theorem_lemmas.calls.PerformedProcedures.{closed-performed}

abbrev pub every-kind : Writable
every-kind = record {
  simples = λ simple. true;
  conds = λ cond. true;
  choosers = λ chooser arms. true;
  amounts = λ amount. true;
  sets = λ range cell value. true;
  compares = λ range cell value. true;
  counts = λ range cell. true;
  aboves = λ range cell. true;
  chooses = λ range cell arms. true;
}

pub every-cell : (range : Range) (closed : Graph) (nodes : ℕ) → CellsServed every-kind range closed nodes
every-cell range closed nodes = λ cell kind is. served cell kind
  where
    body : Stmts
    body = body_of (tree_in closed.nodes closed.entry)

    served : (cell : ℕ) (kind : Added) → KindServed every-kind range body (suc nodes) cell kind
    served cell Never = refl
    served cell Flag = (refl, refl, refl)
    served cell Count = tt
    served cell State = (refl, λ arms h le. (λ value few. refl, refl))
    served cell Exit = (refl, λ arms h le. (λ value few. refl, refl))

-- every part is served, where no choice is by a cell
module _ (naming : Naming) (procedures : List Procedure) (range : Range) (R W : ℕ → Type 0) where
  act-served : (act : Act) → ActFits naming every-kind procedures range act
  act-served (Own simple) = refl
  act-served (Set cell value) = refl
  act-served (Take cell amount) = (refl, refl)
  act-served (Lower cell) = refl

  test-served : (test : Test) → TestFits naming every-kind procedures range test
  test-served (Holds cond) = refl
  test-served (Not test) = test-served test
  test-served (Is cell value) = refl
  test-served (Above cell) = refl

  pick-served : (picker : Picker) (trees : Trees) → PickerNames R W picker → PickServed naming every-kind procedures range picker trees
  pick-served (If test) trees h = test-served test
  pick-served (By chooser) trees h = λ arms m. refl
  pick-served (ByCell cell) trees h = h

  picker-fits : (picker : Picker) (stand : List Bool) → PickerNames R W picker → PickerFits naming every-kind procedures range picker stand
  picker-fits (If test) stand h = test-served test
  picker-fits (By chooser) stand h = refl
  picker-fits (ByCell cell) stand h = h

  control-served : (control : Control) → ControlFits naming every-kind procedures range control
  control-served (Times amount) = refl
  control-served (Until after test) = test-served test
  control-served (Varying after set step test) = (act-served set, act-served step, test-served test)

  mutual
    stmt-served : (stmt : Stmt) → StmtNames R W stmt → StmtServed naming every-kind procedures range stmt
    stmt-served (language.Do act) = λ h. act-served act
    stmt-served (Choose picker arms) = λ h. (picker-fits picker (standing (naming.empty range picker) 0 arms) h.0, arms-served arms h.1)
    stmt-served (Loop control body) = λ h. (control-served control, body-served body h.1)
    stmt-served (Perform entry exit) = λ h. tt
    stmt-served (Go to) = λ h. tt
    stmt-served (GoDepending to on) = λ h. tt
    stmt-served NextSentence = λ h. tt
    stmt-served ExitParagraph = λ h. tt
    stmt-served (ExitSection last) = λ h. tt
    stmt-served (ExitPerform cycle) = λ h. tt
    stmt-served StopRun = λ h. tt

    stmts-served : (stmts : Stmts) → StmtsName R W stmts → StmtsServed naming every-kind procedures range stmts
    stmts-served none = λ h. tt
    stmts-served (also stmt stmts) = λ h. (stmt-served stmt h.0, stmts-served stmts h.1)

    arms-served : (arms : Arms) → ArmsName R W arms → ArmsServed naming every-kind procedures range arms
    arms-served done = λ h. tt
    arms-served (given arm others) = λ h. (stmts-served arm h.0, arms-served others h.1)
    arms-served (missing others) = λ h. arms-served others h

    body-served : (body : Body) → BodyNames R W body → BodyServed naming every-kind procedures range body
    body-served (Nested stmts) = λ h. stmts-served stmts h
    body-served (Performed entry exit) = λ h. tt

  mutual
    end-served : (end : End) → EndNames R W end → EndServed naming every-kind procedures range end
    end-served (Pick picker arms) = λ h. (pick-served picker arms h.0, trees-served arms h.1)
    end-served (Jump to) = λ h. tt
    end-served Return = λ h. tt
    end-served Stop = λ h. tt
    end-served Dead = λ h. tt

    trees-served : (arms : Trees) → TreesName R W arms → TreesServed naming every-kind procedures range arms
    trees-served no_more = λ h. tt
    trees-served (more (tree body end) others) = λ h. (stmts-served body h.0, end-served end h.1, trees-served others h.2)

  pub tree-served : (t : Tree) → TreeNames R W t → TreeServed naming every-kind procedures range t
  tree-served (tree body end) h = (stmts-served body h.0, end-served end h.1)

pub some-result-behaves : {Memory Left World : Type 0} → SomeResultBehaves Memory Left World
some-result-behaves = λ acting left first empty told program keep numbers added others is_told source some fair plan called.
    let graphs = lowered_graphs told program keep numbers added in
    let result = whole acting left first every-kind empty in
    let naming = names acting left first every-kind empty in
    let same = headline-over-control acting left first result (λ memory. left memory.own) (λ world. record { own = first world; cells = λ range cell. 0 }) (λ memory other. memory ≡ other) naming every-kind
    told program keep numbers added others is_told source some fair plan
    (closed-graphs-stand naming every-kind told program keep numbers added others (λ r here. every-cell r (closed_graph (graphs r)) (size (graphs r).nodes)) source some plan
    (λ range here label. tree-served naming (procedures_of (Main ∷ others) graphs) range (Has (kinds_of graphs) range) (MaySet (kinds_of graphs) range) ((family_of graphs).node range label) (plan.names range here label))) (closed-performed (Main ∷ others) graphs (closed-at naming every-kind told program keep numbers added others (λ r here. every-cell r (closed_graph (graphs r)) (size (graphs r).nodes)) source some plan (λ range here label. tree-served naming (procedures_of (Main ∷ others) graphs) range (Has (kinds_of graphs) range) (MaySet (kinds_of graphs) range) ((family_of graphs).node range label) (plan.names range here label))) called) (whole-serves acting left first every-kind empty) in
    (result, naming, refl, same.0, same.1)
