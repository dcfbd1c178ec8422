-- The closed graphs of a plan: each can be written, and is the tree of its one node.
use Rattle.std.proofs.Common.{◌≡◌, ◌<◌, ◌∷◌, length, if◌then◌else◌, ap, sym, ◌∙◌}
use Rattle.control_flow_theory.specs.language.Language.{none, Program, Range, Main}
use Rattle.control_flow_theory.specs.semantics.Graph.{tree, Dead}
use Rattle.control_flow_theory.proofs.semantics_lemmas.Ranges.{eq-self}
use Rattle.control_flow_theory.specs.lowering.FlowFacts.{IsSource}
use Rattle.control_flow_theory.specs.graph_rules.Walked.{In}
use Rattle.control_flow_theory.specs.graph_rules.Families.{Has, MaySet}
use Rattle.control_flow_theory.specs.graph_rules.Reduced.{Graph, Graphs, tree_in, family_of, kinds_of, size}
use Rattle.control_flow_theory.specs.structuring.Closes.{IsClosed, closed_graph}
use Rattle.control_flow_theory.proofs.structuring_lemmas.closing.ClosedEnding.{closed-ends}
use Rattle.control_flow_theory.specs.rendering.Rendering.{Naming}
use Rattle.control_flow_theory.specs.main_theorem.Chain.{IsPlan, IsNumberedPlan, EachCellServed, EachStands, GraphsServed}
use Rattle.control_flow_theory.specs.main_theorem.MainTheorem.{Plan, graphs_by, procedures_by}
use Rattle.control_flow_theory.specs.main_theorem.Numbering.{numbers_by, added_by}
use Rattle.control_flow_theory.proofs.main_theorem_lemmas.graphs.Numbering.{counters-numbered}
use Rattle.control_flow_theory.proofs.main_theorem_lemmas.graphs.LoweredStand.{closed-graphs-stand, closed-at}
use Rattle.control_flow_theory.proofs.main_theorem_lemmas.SomeResult.{every-kind, every-cell, tree-served}
use Rattle.region_rewrite.specs.Shaping.{first_tree}

module _ (naming : Naming) (plan : Plan) (program : Program) (source : IsSource plan.told program)
    (some : 0 < length program.paragraphs)
    (is : IsPlan plan.told program plan.keep plan.others) where
  abbrev graphs : Graphs
  graphs = graphs_by plan program

  numbered : IsNumberedPlan plan.told program plan.keep (numbers_by plan.keep program)
      (added_by plan.keep program) plan.others
  numbered =
      let all = counters-numbered plan.told program plan.keep source in
      record {
        plan = is;
        apart = all.0;
        names = λ range here. all.1 range (is.just range here);
      }

  cells-served : EachCellServed every-kind (Main ∷ plan.others) graphs
  cells-served = λ range here.
      every-cell range (closed_graph (graphs range)) (size (graphs range).nodes)

  parts-served : GraphsServed naming every-kind (Main ∷ plan.others) graphs
  parts-served = λ range here label.
      tree-served naming (procedures_by plan program) range (Has (kinds_of graphs) range)
      (MaySet (kinds_of graphs) range) ((family_of graphs).node range label)
      (numbered.names range here label)

  pub each-stands : EachStands naming every-kind (procedures_by plan program)
  each-stands =
      closed-graphs-stand naming every-kind plan.told program plan.keep
      (numbers_by plan.keep program) (added_by plan.keep program) plan.others
      cells-served source some numbered parts-served

  pub each-closed : (range : Range) → In range (Main ∷ plan.others) → IsClosed (graphs range)
  each-closed =
      closed-at naming every-kind plan.told program plan.keep
      (numbers_by plan.keep program) (added_by plan.keep program) plan.others
      cells-served source some numbered parts-served

-- the node at the entry is the one that is left
pub entry-first : (graph : Graph) → IsClosed graph →
    tree_in (closed_graph graph).nodes (closed_graph graph).entry
    ≡ first_tree (closed_graph graph).nodes
entry-first graph closed =
    let left = closed-ends graph closed in
    let entry = (closed_graph graph).entry in
    ap (λ nodes. tree_in nodes entry) left.1
    ∙ ap (λ same. if same then left.0 else tree none Dead) (eq-self entry)
    ∙ sym (ap first_tree left.1)
