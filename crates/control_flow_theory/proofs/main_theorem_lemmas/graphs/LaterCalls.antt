-- The graphs of a lowered program are a family: each range performs later ones alone, and names its own cells.
use Rattle.std.proofs.Common.{◌≡◌, ℕ, ◌<◌, Bool, true, false, if◌then◌else◌, ◌==◌, List, [], ◌∷◌, refl, ap, sym, subst}
use Rattle.std.specs.Prelude.{length}
use Rattle.control_flow_theory.specs.language.Language.{Act, Own, Set, Take, Lower, Test, Holds, Not, Is, Above, Picker, If, By, ByCell, Control, Times, Until, Varying, Stmt, Choose, Loop, Perform, Go, GoDepending, NextSentence, ExitParagraph, ExitSection, ExitPerform, StopRun, Stmts, none, also, Arms, done, given, missing, Body, Nested, Performed, Program, Range, Main, Part, same_range}
use Rattle.control_flow_theory.specs.language.Language as language
use Rattle.control_flow_theory.specs.semantics.Graph.{Label, Tree, tree, End, Pick, Jump, Return, Stop, Dead, Trees, no_more, more, Family}
use Rattle.control_flow_theory.specs.lowering.FlowFacts.{FlowFacts, IsSource}
use Rattle.control_flow_theory.specs.lowering.Completes.{whole, wholes, whole_arms, whole_body}
use Rattle.control_flow_theory.specs.lowering.Lower.{end_alone, Node}
use Rattle.control_flow_theory.specs.lowering.Lowered.{find, nodes_of, lowered}
use Rattle.control_flow_theory.specs.lowering.Reached.{kept}
use Rattle.control_flow_theory.specs.lowering.Renamed.{act_anew, picker_anew, control_anew, stmt_anew, stmts_anew, arms_anew, body_anew, end_anew, trees_anew, tree_anew, numbered_anew}
use Rattle.control_flow_theory.specs.lowering.flow.Called.{IsCalled, CallsStmt, CallsStmts, CallsArms, CallsBody, CallsEnd, CallsTrees, CallsTree}
use Rattle.control_flow_theory.specs.lowering.WellFormed.{IsWellEnd, AreWell, IsWellTree, AllAreWell, IsRangeOf}
use Rattle.control_flow_theory.specs.graph_rules.Fits.{ActFits, TestFits, PickerFits, ControlFits, StmtFits, StmtsFit, ArmsFit, BodyFits, TreeFits, EndFits, TreesFit}
use Rattle.control_flow_theory.specs.graph_rules.Walked.{is_in, In, Ordered}
use Rattle.control_flow_theory.specs.graph_rules.Families.{Added, Has, MaySet, IsFamily}
use Rattle.control_flow_theory.specs.graph_rules.Reduced.{Graphs, family_of, kinds_of}
use Rattle.control_flow_theory.specs.main_theorem.Chain.{Anywhere, PickerNames, StmtNames, StmtsName, ArmsName, BodyNames, EndNames, TreesName, TreeNames, lowered_graphs, CallsStandLater, IsNumberedPlan}
use Rattle.control_flow_theory.proofs.semantics_lemmas.Ranges.{same-self}
use Rattle.control_flow_theory.proofs.lowering_lemmas.graphs.WellFormed.{all-well}
use Rattle.control_flow_theory.proofs.lowering_lemmas.flow.Called.{reached-calls}
use Rattle.control_flow_theory.proofs.main_theorem_lemmas.graphs.LoweredGraphs.{graphs-family}

both-true : (a b : Bool) → (if a then b else false) ≡ true → (a ≡ true) × (b ≡ true)
both-true true b e = (refl, e)
both-true false b e = absurd (let f : false ≡ true = e in cc)

-- statements that perform such ranges alone
module _ (told : FlowFacts) (program : Program) (range : Range) (C : Range → Type 0) (R W : ℕ → Type 0) (number : ℕ → ℕ) (later : (entry exit : ℕ) → IsCalled told program range entry exit → C (Part entry exit)) where
  act-later : (act : Act) → ActFits (Anywhere R W) R W act → ActFits C R W act
  act-later (Own simple) k = k
  act-later (Set cell value) k = k
  act-later (Take cell amount) k = k
  act-later (Lower cell) k = k

  test-later : (test : Test) → TestFits (Anywhere R W) R W test → TestFits C R W test
  test-later (Holds cond) k = k
  test-later (Not test) k = test-later test k
  test-later (Is cell value) k = k
  test-later (Above cell) k = k

  picker-later : (picker : Picker) → PickerNames R W picker → PickerFits C R W picker
  picker-later (If test) k = test-later test k
  picker-later (By chooser) k = tt
  picker-later (ByCell cell) k = absurd k

  control-later : (control : Control) → ControlFits (Anywhere R W) R W control → ControlFits C R W control
  control-later (Times amount) k = k
  control-later (Until after test) k = test-later test k
  control-later (Varying after set step test) k = (act-later set k.0, act-later step k.1, test-later test k.2)

  mutual
    stmt-later : (stmt : Stmt) → whole stmt ≡ true → CallsStmt told program range stmt → StmtNames R W (stmt_anew number stmt) → StmtFits C R W (stmt_anew number stmt)
    stmt-later (language.Do act) = λ w c k. act-later (act_anew number act) k
    stmt-later (Choose picker arms) = λ w c k. (picker-later (picker_anew number picker) k.0, arms-later arms w c k.1)
    stmt-later (Loop control body) = λ w c k. (control-later (control_anew number control) k.0, body-later body w c k.1)
    stmt-later (Perform entry exit) = λ w c k. later entry exit c
    stmt-later (Go to) = λ w c k. absurd (let e : false ≡ true = w in cc)
    stmt-later (GoDepending to chooser) = λ w c k. absurd (let e : false ≡ true = w in cc)
    stmt-later NextSentence = λ w c k. absurd (let e : false ≡ true = w in cc)
    stmt-later ExitParagraph = λ w c k. absurd (let e : false ≡ true = w in cc)
    stmt-later (ExitSection last) = λ w c k. absurd (let e : false ≡ true = w in cc)
    stmt-later (ExitPerform cycle) = λ w c k. absurd (let e : false ≡ true = w in cc)
    stmt-later StopRun = λ w c k. tt

    stmts-later : (stmts : Stmts) → wholes stmts ≡ true → CallsStmts told program range stmts → StmtsName R W (stmts_anew number stmts) → StmtsFit C R W (stmts_anew number stmts)
    stmts-later none = λ w c k. tt
    stmts-later (also stmt stmts) = λ w c k. (let both = both-true (whole stmt) (wholes stmts) w in (stmt-later stmt both.0 c.0 k.0, stmts-later stmts both.1 c.1 k.1))

    arms-later : (arms : Arms) → whole_arms arms ≡ true → CallsArms told program range arms → ArmsName R W (arms_anew number arms) → ArmsFit C R W (arms_anew number arms)
    arms-later done = λ w c k. tt
    arms-later (given arm others) = λ w c k. (let both = both-true (wholes arm) (whole_arms others) w in (stmts-later arm both.0 c.0 k.0, arms-later others both.1 c.1 k.1))
    arms-later (missing others) = λ w c k. arms-later others w c k

    body-later : (body : Body) → whole_body body ≡ true → CallsBody told program range body → BodyNames R W (body_anew number body) → BodyFits C R W (body_anew number body)
    body-later (Nested stmts) = λ w c k. stmts-later stmts w c k
    body-later (Performed entry exit) = λ w c k. later entry exit c

  module _ (labels : List Node) where
    mutual
      end-later : (end : End) → IsWellEnd told labels end → CallsEnd told program range end → EndNames R W (end_anew number end) → EndFits C R W (end_anew number end)
      end-later (Pick picker arms) = λ w c k. (picker-later (picker_anew number picker) k.0, trees-later arms w.1 c k.1)
      end-later (Jump to) = λ w c k. tt
      end-later Return = λ w c k. tt
      end-later Stop = λ w c k. tt
      end-later Dead = λ w c k. tt

      trees-later : (arms : Trees) → AreWell told labels arms → CallsTrees told program range arms → TreesName R W (trees_anew number arms) → TreesFit C R W (trees_anew number arms)
      trees-later no_more = λ w c k. tt
      trees-later (more (tree body end) others) = λ w c k. ((stmts-later body w.0 c.0 k.0, end-later end w.1 c.1 k.1), trees-later others w.2 c.2 k.2)

    tree-later : (t : Tree) → IsWellTree told labels t → CallsTree told program range t → TreeNames R W (tree_anew number t) → TreeFits C R W (tree_anew number t)
    tree-later (tree body end) = λ w c k. (stmts-later body w.0 c.0 k.0, end-later end w.1 c.1 k.1)

-- each node that is looked up is well formed
found-well : (told : FlowFacts) (labels : List Node) (label : Label) (xs : List Node) → AllAreWell told labels xs → IsWellTree told labels (find label xs)
found-well told labels label [] w = (refl, tt)
found-well told labels label (x ∷ xs) w = elim (x.key == label) as (λ b. IsWellTree told labels (if b then x.tree else find label xs)) [ true ↦ w.0 | false ↦ found-well told labels label xs w.1 ]

module _ (told : FlowFacts) (program : Program) (keep : Range → Label → Bool) (numbers : Range → ℕ → ℕ) (added : Range → List Added) (others : List Range)
    (source : IsSource told program) (some : 0 < length program.paragraphs) (plan : IsNumberedPlan told program keep numbers added others) where
  abbrev graphs : Graphs
  graphs = lowered_graphs told program keep numbers added

  abbrev again : Family
  again = numbered_anew numbers (kept keep (lowered told program))

  same : again ≡ family_of graphs
  same = graphs-family told program keep numbers added

  of-program : (range : Range) → In range (Main ∷ others) → IsRangeOf program range
  of-program Main here = some
  of-program (Part entry exit) here = (plan.plan.entered entry exit here).0

  abbrev Reads : Range → ℕ → Type 0
  Reads = Has (kinds_of graphs)

  abbrev Writes : Range → ℕ → Type 0
  Writes = MaySet (kinds_of graphs)

  node-fits : (range : Range) (behind : List Range) → In range (Main ∷ others) → ((entry exit : ℕ) → IsCalled told program range entry exit → In (Part entry exit) behind) → (label : Label) →
      TreeFits (λ to. In to behind) (Reads range) (Writes range) (again.node range label)
  node-fits range behind here later label =
      let t = (lowered told program).node range label in
      elim (keep range label) as (λ b. keep range label ≡ b → TreeNames (Reads range) (Writes range) (tree_anew (numbers range) (if b then t else end_alone Dead)) → TreeFits (λ to. In to behind) (Reads range) (Writes range) (tree_anew (numbers range) (if b then t else end_alone Dead))) [
        | true ↦ λ is k.
            tree-later told program range (λ to. In to behind) (Reads range) (Writes range) (numbers range) later (nodes_of told program range) t
            (found-well told (nodes_of told program range) label (nodes_of told program range) (all-well told program range source))
            (reached-calls told program source plan.plan.exact range (of-program range here) label ((plan.plan.just range here).0 label is)) k
        | false ↦ λ is k. (tt, tt)
      ] refl (subst (λ family. TreeNames (Reads range) (Writes range) (family.node range label)) (sym same) (plan.names range here label))

  ordered : (ranges : List Range) → ((range : Range) → In range ranges → In range (Main ∷ others)) → CallsStandLater told program ranges → Ordered Reads Writes again ranges
  ordered [] among later = tt
  ordered (range ∷ ranges) among later = (
    later.0,
    λ label. node-fits range ranges (among range (ap (λ b. if b then true else is_in range ranges) (same-self range))) later.1 label,
    ordered ranges (λ r k. among r (elim (same_range range r) as (λ b. (if b then true else is_in r ranges) ≡ true) [ true ↦ refl | false ↦ k ])) later.2,
  )

  pub plan-fits : IsFamily (kinds_of graphs) (family_of graphs) (Main ∷ others)
  plan-fits = subst (λ family. IsFamily (kinds_of graphs) family (Main ∷ others)) same (ordered (Main ∷ others) (λ r k. k) plan.plan.order)
