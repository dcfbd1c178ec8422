-- What is written of the closed graphs of such a source holds no EXIT.
use Rattle.std.proofs.Common.{◌<◌, ℕ, suc, ◌∷◌, length, refl}
use Rattle.control_flow_theory.specs.language.Language.{Stmts, Program, Range, Main}
use Rattle.control_flow_theory.specs.semantics.Graph.{body_of}
use Rattle.control_flow_theory.specs.lowering.FlowFacts.{IsSource}
use Rattle.control_flow_theory.specs.graph_rules.Families.{Added, Never, Flag, Count, State, Exit}
use Rattle.control_flow_theory.specs.graph_rules.Reduced.{Graph, Graphs, tree_in, size}
use Rattle.control_flow_theory.specs.structuring.Closes.{closed_graph}
use Rattle.control_flow_theory.specs.rendering.Rendering.{Naming}
use Rattle.control_flow_theory.specs.main_theorem.Chain.{IsPlan, IsNumberedPlan, CellsServed, KindServed, EachCellServed, EachStands, GraphsServed}
use Rattle.control_flow_theory.specs.main_theorem.MainTheorem.{Plan, graphs_by, procedures_by}
use Rattle.control_flow_theory.specs.main_theorem.Numbering.{numbers_by, added_by}
use Rattle.control_flow_theory.proofs.main_theorem_lemmas.graphs.Numbering.{counters-numbered}
use Rattle.control_flow_theory.proofs.main_theorem_lemmas.graphs.LoweredStand.{closed-graphs-stand}
use Rattle.control_flow_theory.specs.expressible_graphs.Served.{ProgramIsServed}
use Rattle.control_flow_theory.proofs.expressible_graphs_lemmas.Graphs.{served-graphs}
use Rattle.procedure_split.proofs.split_form_lemmas.Sources.{no_exits}

any-kind : (range : Range) (body : Stmts) (nodes cell : ℕ) (kind : Added) →
    KindServed no_exits range body nodes cell kind
any-kind range body nodes cell Never = refl
any-kind range body nodes cell Flag = (refl, refl, refl)
any-kind range body nodes cell Count = tt
any-kind range body nodes cell State = (refl, λ arms h le. (λ value few. refl, refl))
any-kind range body nodes cell Exit = (refl, λ arms h le. (λ value few. refl, refl))

any-cell : (range : Range) (closed : Graph) (nodes : ℕ) → CellsServed no_exits range closed nodes
any-cell range closed nodes = λ cell kind is.
    any-kind range (body_of (tree_in closed.nodes closed.entry)) (suc nodes) cell kind

module _ (naming : Naming) (plan : Plan) (program : Program) (source : IsSource plan.told program)
    (some : 0 < length program.paragraphs)
    (is : IsPlan plan.told program plan.keep plan.others)
    (served : (range : Range) → ProgramIsServed naming no_exits plan.told range program) where
  abbrev graphs : Graphs
  graphs = graphs_by plan program

  numbered : IsNumberedPlan plan.told program plan.keep (numbers_by plan.keep program)
      (added_by plan.keep program) plan.others
  numbered =
      let all = counters-numbered plan.told program plan.keep source in
      record {
        plan = is;
        apart = all.0;
        names = λ range here. all.1 range (is.just range here);
      }

  cells-served : EachCellServed no_exits (Main ∷ plan.others) graphs
  cells-served = λ range here.
      any-cell range (closed_graph (graphs range)) (size (graphs range).nodes)

  parts-served : GraphsServed naming no_exits (Main ∷ plan.others) graphs
  parts-served =
      served-graphs naming no_exits plan program source is.just (λ range here. served range)
      (λ range here cell counted. (refl, refl))

  pub stands-exitless : EachStands naming no_exits (procedures_by plan program)
  stands-exitless =
      closed-graphs-stand naming no_exits plan.told program plan.keep
      (numbers_by plan.keep program) (added_by plan.keep program) plan.others
      cells-served source some numbered parts-served
