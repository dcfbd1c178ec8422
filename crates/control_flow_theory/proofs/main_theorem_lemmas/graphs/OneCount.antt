-- Choices by a cell are asked for their number of arms, and the rules keep it.
use Rattle.std.proofs.Common.{ℕ, List, sym, subst}
use Rattle.control_flow_theory.specs.language.Language.{Picker, If, By, ByCell, Stmt, Choose, Loop, Stmts, none, also, Arms, done, given, missing, Body, Nested, Performed}
use Rattle.control_flow_theory.specs.language.Each.{EachStmts, EachArm, EachBody}
use Rattle.control_flow_theory.specs.semantics.Graph.{Tree, tree, End, Pick, Jump, Return, Stop, Dead, Trees, no_more, more}
use Rattle.control_flow_theory.specs.lowering.WellFormed.{tree_count}
use Rattle.control_flow_theory.specs.rendering.Rendering.{count_arms}
use Rattle.control_flow_theory.specs.graph_rules.Reduced.{Node}
use Rattle.control_flow_theory.specs.graph_rules.EachTree.{EachTree, EachEnd, EachTrees, EachNode}
use Rattle.control_flow_theory.specs.main_theorem.Chain.{PickerNames, StmtsName, ArmsName, BodyNames, EndNames, TreesName, TreeNames}
use Rattle.control_flow_theory.proofs.graph_rules_lemmas.shapes.EachTurned as each
use Rattle.control_flow_theory.proofs.structuring_lemmas.closing.EachKept.{as-many-count, BearsRules}

module _ (P : ℕ → ℕ → Type 0) where
  abbrev pub PickIs : Picker → ℕ → Type 0
  PickIs (If test) arms = Unit {0}
  PickIs (By chooser) arms = Unit {0}
  PickIs (ByCell cell) arms = P cell arms

  abbrev pub ChoiceIs : Stmt → Type 0
  ChoiceIs (Choose picker arms) = PickIs picker (count_arms arms)
  ChoiceIs stmt = Unit {0}

  abbrev pub EndIs : Picker → Trees → Type 0
  EndIs picker trees = PickIs picker (tree_count trees)

  pub bears : BearsRules ChoiceIs EndIs
  bears = record {
    stops = tt;
    sets = λ cell value. tt;
    loops = λ after test body. tt;
    picks = λ picker trees arms many p. subst (PickIs picker) (sym (as-many-count trees arms many)) p;
    counts = λ picker one other same p. subst (PickIs picker) (sym same) p;
  }

  -- Where no choice by a cell stands.
  module _ (R W : ℕ → Type 0) where
    picker-none : (picker : Picker) (n : ℕ) → PickerNames R W picker → PickIs picker n
    picker-none (If test) n h = tt
    picker-none (By chooser) n h = tt
    picker-none (ByCell cell) n h = absurd h

    mutual
      stmts-none : (stmts : Stmts) → StmtsName R W stmts → EachStmts ChoiceIs stmts
      stmts-none none = λ h. tt
      stmts-none (also (Choose picker arms) stmts) = λ h. ((picker-none picker (count_arms arms) h.0.0, arms-none arms h.0.1), stmts-none stmts h.1)
      stmts-none (also (Loop control body) stmts) = λ h. ((tt, body-none body h.0.1), stmts-none stmts h.1)
      stmts-none (also stmt stmts) = λ h. (tt, stmts-none stmts h.1)

      arms-none : (arms : Arms) → ArmsName R W arms → EachArm ChoiceIs arms
      arms-none done = λ h. tt
      arms-none (given arm others) = λ h. (stmts-none arm h.0, arms-none others h.1)
      arms-none (missing others) = λ h. arms-none others h

      body-none : (body : Body) → BodyNames R W body → EachBody ChoiceIs body
      body-none (Nested stmts) = λ h. stmts-none stmts h
      body-none (Performed entry exit) = λ h. tt

    mutual
      end-none : (end : End) → EndNames R W end → EachEnd ChoiceIs EndIs end
      end-none (Pick picker arms) = λ h. (picker-none picker (tree_count arms) h.0, trees-none arms h.1)
      end-none (Jump to) = λ h. tt
      end-none Return = λ h. tt
      end-none Stop = λ h. tt
      end-none Dead = λ h. tt

      trees-none : (arms : Trees) → TreesName R W arms → EachTrees ChoiceIs EndIs arms
      trees-none no_more = λ h. tt
      trees-none (more (tree body end) others) = λ h. ((stmts-none body h.0, end-none end h.1), trees-none others h.2)

    pub tree-none : (t : Tree) → TreeNames R W t → EachTree ChoiceIs EndIs t
    tree-none (tree body end) h = (stmts-none body h.0, end-none end h.1)

-- What is so of each choice, what follows from it is.
module _ (P Q : ℕ → ℕ → Type 0) (turn : (cell arms : ℕ) → P cell arms → Q cell arms) where
  pick-turned : (picker : Picker) (n : ℕ) → PickIs P picker n → PickIs Q picker n
  pick-turned (If test) n h = tt
  pick-turned (By chooser) n h = tt
  pick-turned (ByCell cell) n h = turn cell n h

  choice-turned : (stmt : Stmt) → ChoiceIs P stmt → ChoiceIs Q stmt
  choice-turned (Choose picker arms) h = pick-turned picker (count_arms arms) h
  choice-turned stmt h = tt

  pub nodes-turned : (nodes : List Node) → EachNode (ChoiceIs P) (EndIs P) nodes → EachNode (ChoiceIs Q) (EndIs Q) nodes
  nodes-turned nodes h = each.nodes-turned (ChoiceIs P) (ChoiceIs Q) choice-turned (EndIs P) (EndIs Q) (λ picker trees k. pick-turned picker (tree_count trees) k) nodes h
