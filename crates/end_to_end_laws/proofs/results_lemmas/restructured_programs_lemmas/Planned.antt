-- The plan of a result, its graphs and its procedures.
use Rattle.std.proofs.Common.{◌≡◌, ◌<◌, ℕ, zero, suc, true, false, if◌then◌else◌, List, [], ◌∷◌, length, Some, slice_get, refl, ap, ap₂, sym, subst, ◌∙◌}
use Rattle.cob_tree.specs.declared.program.Program as cobol
use Rattle.cob_tree.specs.declared.program.Range as code
use Rattle.control_flow_theory.specs.language.Control.{control_of}
use Rattle.control_flow_theory.specs.language.Language.{Program, Range, Main, same_range}
use Rattle.control_flow_theory.specs.lowering.FlowFacts.{FlowFacts, IsSource}
use Rattle.control_flow_theory.specs.lowering.flow.Paths.{HasFaultyRun}
use Rattle.control_flow_theory.specs.graph_rules.Walked.{In, is_in}
use Rattle.control_flow_theory.specs.graph_rules.Reduced.{Graph, Graphs}
use Rattle.control_flow_theory.specs.structuring.Closes.{closed_graph}
use Rattle.control_flow_theory.specs.rendering.Rendering.{Procedure}
use Rattle.control_flow_theory.specs.main_theorem.Chain.{IsPlan, procedure_of, procedures_of}
use Rattle.control_flow_theory.specs.main_theorem.CallsReached.{CalledByPaths}
use Rattle.control_flow_theory.specs.main_theorem.MainTheorem.{Plan, graphs_by}
use Rattle.control_flow_theory.proofs.rendering_lemmas.Written.{or_else, map-get}
use Rattle.control_flow_theory.proofs.semantics_lemmas.Ranges.{same-range, same-self}
use Rattle.program_facts.specs.completion.FlowFacts.{flow_facts_of}
use Rattle.meanings.specs.statements.Does.{declared_in}
use Rattle.cobol_theory.proofs.cobol_parts_lemmas.Sources.{source}
use Rattle.program_points.proofs.table_building_lemmas.Sections.{seen-length}
use Rattle.pending_returns.specs.FaultFree.{IsFaultFree}
use Rattle.pending_returns.specs.declared.facts.Summary.{Summary}
use Rattle.added_items.specs.item_table.Laws.{cell_range, closed_ranges}
use Rattle.added_items.specs.item_table.Row.{CellRange}
use Rattle.lowering_labels.specs.points.FallThrough.{seen_range}
use Rattle.procedure_split.specs.plan.Laws.{others_of}
use Rattle.procedure_split.specs.shaped_ranges.Graphs.{HaveGraphs, IsGraphOf}
use Rattle.procedure_split.specs.Splitting.{Planned}
use Rattle.procedure_split.specs.split_behaviour.Alike.{IsWellMade}
use Rattle.procedure_split.proofs.made_procedures_lemmas.Rows.{all-as-planned, in-at, later-apart}
use Rattle.procedure_split.proofs.plan_lemmas.CobolPlans.{cobol-planned, has-plan}
use Rattle.procedure_split.proofs.shaped_ranges_lemmas.Keeping.{AreApart, Kept}
use Rattle.end_to_end_laws.specs.rewriting.lowered_families.Lowered.{graphs_in, in_order}
use Rattle.end_to_end_laws.specs.results.restructured_programs.Result.{procedures_in, rows_in}
use Rattle.end_to_end_laws.proofs.rewriting_lemmas.Agreeing.{Agree, among, first-in}
use Rattle.end_to_end_laws.proofs.rewriting_lemmas.LoweredFamily.{filled-there, is-graph-in, kept_in, kept-agree, kept-just, kept-reached}

-- the same graphs make the same rows and procedures
pub rows-agree : (graphs others : Graphs) (order : List Range) → Agree graphs others order →
    closed_ranges order graphs ≡ closed_ranges order others
rows-agree graphs others [] agree = refl
rows-agree graphs others (range ∷ ranges) agree =
    ap₂ (λ (first : CellRange) (rest : List CellRange). first ∷ rest)
    (ap (λ graph. cell_range range (closed_graph graph)) (agree range (first-in range ranges)))
    (rows-agree graphs others ranges (λ one here. agree one (among range one ranges here)))

pub procedures-agree : (graphs others : Graphs) (order : List Range) → Agree graphs others order →
    procedures_of order graphs ≡ procedures_of order others
procedures-agree graphs others [] agree = refl
procedures-agree graphs others (range ∷ ranges) agree =
    ap₂ (λ (first : Procedure) (rest : List Procedure). first ∷ rest)
    (ap (λ graph. procedure_of range (closed_graph graph)) (agree range (first-in range ranges)))
    (procedures-agree graphs others ranges (λ one here. agree one (among range one ranges here)))

-- no range twice: each has the graph beside it
further : (first range : Range) (ranges : List Range) → is_in first ranges ≡ false →
    In range ranges → same_range first range ≡ false
further first range ranges out within =
    elim (same_range first range) as (λ t. same_range first range ≡ t → t ≡ false) [
      | true ↦ λ same.
          let there : is_in first ranges ≡ true =
          subst (λ r. is_in r ranges ≡ true) (sym (same-range first range same)) within in
          let no : true ≡ false = sym there ∙ out in
          cc
      | false ↦ λ same. refl
    ] refl

graph-at : (ranges : List code.Range) (graphs : List Graph) → AreApart (in_order ranges) →
    (at : ℕ) (range : code.Range) (graph : Graph) → slice_get ranges at ≡ Some range →
    slice_get graphs at ≡ Some graph → graphs_in ranges graphs (seen_range range) ≡ graph
graph-at [] graphs apart at range graph here there = cc
graph-at (first ∷ ranges) [] apart at range graph here there = cc
graph-at (first ∷ ranges) (one ∷ graphs) apart zero range graph here there =
    let same : seen_range first ≡ seen_range range = ap seen_range (ap (or_else first) here) in
    ap (λ t. if t then one else graphs_in ranges graphs (seen_range range))
    (subst (λ r. same_range r (seen_range range) ≡ true) (sym same)
    (same-self (seen_range range)))
    ∙ ap (or_else one) there
graph-at (first ∷ ranges) (one ∷ graphs) apart (suc at) range graph here there =
    ap (λ t. if t then one else graphs_in ranges graphs (seen_range range))
    (further (seen_range first) (seen_range range) (in_order ranges) apart.0
    (in-at (in_order ranges) at (seen_range range) (map-get seen_range ranges at range here)))
    ∙ graph-at ranges graphs apart.1 at range graph here there

module _ (program : cobol.Program) (summary : Summary) (well : IsWellMade program)
    (flows : IsFaultFree program summary) (planned : Planned program summary)
    (listed : List Graph)
    (have : HaveGraphs (flow_facts_of program.files planned.returning) (control_of program)
    planned.order listed) where
  abbrev pub told : FlowFacts
  told = flow_facts_of program.files planned.returning

  abbrev pub control : Program
  control = control_of program

  pub some : 0 < length control.paragraphs
  some =
      subst (λ n. 0 < n) (sym (seen-length 0 program.paragraphs))
      (filled-there program.paragraphs well.fit.own.some)

  abbrev pub ranges : List Range
  ranges = Main ∷ others_of planned.order

  pub ranges-are : in_order planned.order ≡ ranges
  ranges-are =
      all-as-planned planned.order
      ∙ (cobol-planned program summary planned.returning planned.order well.proper.own_items
      well.proper.own_paragraphs some flows.never flows.is planned.is).1.main

  abbrev keep : Kept
  keep = kept_in told control planned.order listed have

  all-planned : (HasFaultyRun told control → ⊥)
      × IsPlan told control keep (others_of planned.order)
      × CalledByPaths told control (Main ∷ others_of planned.order)
  all-planned =
      has-plan program summary planned.returning planned.order keep well.proper.own_items
      well.proper.own_paragraphs some flows.never flows.is planned.is
      (kept-reached told control planned.order listed have)
      (λ range within. kept-just told control planned.order listed have range
      (subst (λ l. In range l) (sym ranges-are) within))

  abbrev pub plan : Plan
  plan = record { told = told; keep = keep; others = others_of planned.order }

  pub fair : HasFaultyRun told control → ⊥
  fair = all-planned.0

  pub is-plan : IsPlan plan.told control plan.keep plan.others
  is-plan = all-planned.1

  pub called : CalledByPaths plan.told control (Main ∷ plan.others)
  called = all-planned.2

  pub is-source : IsSource told control
  is-source =
      source (declared_in program) planned.returning program well.proper.own_items
      well.proper.own_paragraphs

  abbrev pub graphs : Graphs
  graphs = graphs_by plan control

  pub agree : Agree graphs (graphs_in planned.order listed) (in_order planned.order)
  agree = kept-agree told control planned.order listed have

  -- each is that of its range
  pub is-graph : (range : Range) → In range (in_order planned.order) →
      IsGraphOf told control range (graphs range)
  is-graph range here =
      let one = is-graph-in told control planned.order listed have range here in
      subst (IsGraphOf told control range) (sym (agree range here)) one

  pub apart : AreApart ranges
  apart = later-apart told control ranges is-plan.order

  pub listed-at : (at : ℕ) (range : code.Range) (graph : Graph) →
      slice_get planned.order at ≡ Some range → slice_get listed at ≡ Some graph →
      graphs_in planned.order listed (seen_range range) ≡ graph
  listed-at =
      graph-at planned.order listed (subst AreApart (sym ranges-are) apart)

  abbrev pub rows_by : List CellRange
  rows_by = closed_ranges ranges graphs

  pub rows-are : rows_in planned.order listed ≡ rows_by
  rows-are =
      sym (rows-agree graphs (graphs_in planned.order listed) (in_order planned.order) agree)
      ∙ ap (λ all. closed_ranges all graphs) ranges-are

  pub procedures-are : procedures_in planned.order listed ≡ procedures_of ranges graphs
  procedures-are =
      sym (procedures-agree graphs (graphs_in planned.order listed) (in_order planned.order) agree)
      ∙ ap (λ all. procedures_of all graphs) ranges-are
