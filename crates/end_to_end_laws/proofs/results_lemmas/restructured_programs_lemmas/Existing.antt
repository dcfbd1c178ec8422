-- There are plans and graphs, whatever their size.
use Rattle.std.proofs.Common.{List, [], ◌∷◌, map, refl, ap, arith}
use Rattle.cob_tree.specs.declared.program.Range as code
use Rattle.control_flow_theory.specs.language.Control.{control_of}
use Rattle.control_flow_theory.specs.language.Language.{Program}
use Rattle.control_flow_theory.specs.lowering.FlowFacts.{FlowFacts}
use Rattle.control_flow_theory.specs.semantics.Graph.{Label}
use Rattle.control_flow_theory.specs.language.Language as language
use Rattle.control_flow_theory.specs.graph_rules.Reduced.{Graph, size}
use Rattle.control_flow_theory.specs.main_theorem.Numbering.{numbers_by}
use Rattle.program_facts.specs.completion.FlowFacts.{flow_facts_of}
use Rattle.out_names.specs.Ordering.{order_of}
use Rattle.lowering_labels.specs.points.FallThrough.{seen_range}
use Rattle.procedure_split.specs.plan.Planned.{calls_of, range_at, table_by}
use Rattle.procedure_split.specs.shaped_ranges.Graphs.{HaveGraphs, graph_by}
use Rattle.procedure_split.specs.Splitting.{Planned}
use Rattle.procedure_split.proofs.plan_lemmas.Tabling.{named_by}
use Rattle.end_to_end_laws.specs.results.restructured_programs.Laws.{GraphsAreNumbered, GraphsAreThere}
use Rattle.end_to_end_laws.proofs.rewriting_lemmas.KeptNodes.{nodes-kept}
use Rattle.end_to_end_laws.proofs.rewriting_lemmas.weights.Few.{read-weighs}
use Rattle.end_to_end_laws.proofs.rewriting_lemmas.weights.NodeCounts.{nodes-few}

-- each range has its graph, with exactly the nodes that are reached
pub graphs-there : (told : FlowFacts) (program : Program) (ranges : List code.Range) →
    (graphs : List Graph) × HaveGraphs told program ranges graphs
graphs-there told program [] = ([], tt)
graphs-there told program (range ∷ ranges) =
    let kept = nodes-kept told program (seen_range range) in
    let others = graphs-there told program ranges in (
      graph_by told program kept.0 (seen_range range) ∷ others.0,
      (record { keep = kept.0; just = kept.1; is = refl }, others.1),
    )

pub are-there : GraphsAreThere
are-there program summary =
    let returning = table_by summary.ranges in
    let order = map (range_at summary.ranges) (order_of (calls_of summary.ranges)) in
    let plan : Planned program summary = record {
      returning = returning;
      order = order;
      is = record {
        table = refl;
        names = named_by summary.ranges returning refl;
        stands = refl;
      };
    } in
    (plan, graphs-there (flow_facts_of program.files returning) (control_of program) order)

pub are-numbered : GraphsAreNumbered
are-numbered bytes program returning range graph reads is =
    let told = flow_facts_of program.files returning in
    let number = numbers_by (λ (other : language.Range) (label : Label). is.keep label)
    (control_of program) range in
    let nodes = nodes-few told program range is.keep number in
    let weight = read-weighs bytes program reads in
    let same = ap (λ (g : Graph). size g.nodes) is.is in
    omega (arith, nodes, weight, same)
