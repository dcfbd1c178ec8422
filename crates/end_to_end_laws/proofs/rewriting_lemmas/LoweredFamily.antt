-- The graphs of a program's ranges are a sound family.
use Rattle.std.proofs.Common.{◌≡◌, ◌<◌, Bool, true, false, if◌then◌else◌, List, [], ◌∷◌, map, length, refl, sym, subst, ◌∙◌, arith}
use Rattle.std.specs.Prelude.{IsTrue}
use Rattle.cob_tree.specs.declared.program.Paragraph.{Paragraph}
use Rattle.cob_tree.specs.declared.program.Program as cobol
use Rattle.cob_tree.specs.declared.program.Range as code
use Rattle.control_flow_theory.specs.language.Control.{control_of}
use Rattle.control_flow_theory.specs.language.Language.{Program, Range, Main, same_range}
use Rattle.control_flow_theory.specs.semantics.Graph.{Label}
use Rattle.control_flow_theory.proofs.semantics_lemmas.Ranges.{same-range}
use Rattle.control_flow_theory.specs.lowering.FlowFacts.{FlowFacts}
use Rattle.control_flow_theory.specs.lowering.Lowered.{lowered}
use Rattle.control_flow_theory.specs.lowering.Reached.{AreReached, IsReached}
use Rattle.control_flow_theory.specs.lowering.WellFormed.{AreJustReached}
use Rattle.control_flow_theory.specs.graph_rules.Walked.{In, is_in}
use Rattle.control_flow_theory.specs.graph_rules.Reduced.{Graph}
use Rattle.control_flow_theory.specs.structuring.Closes.{IsClosed}
use Rattle.program_facts.specs.completion.FlowFacts.{flow_facts_of}
use Rattle.program_facts.specs.well_scoped.Part.{is_filled}
use Rattle.meanings.specs.statements.Does.{declared_in}
use Rattle.cobol_theory.specs.cobol_meaning.Acting.{Memory, acting}
use Rattle.cobol_theory.proofs.cobol_parts_lemmas.Gives.{chooses}
use Rattle.cobol_theory.proofs.cobol_parts_lemmas.Skips.{skips}
use Rattle.cobol_theory.proofs.cobol_parts_lemmas.Sources.{source}
use Rattle.program_points.proofs.table_building_lemmas.Sections.{seen-length}
use Rattle.pending_returns.specs.FaultFree.{IsFaultFree}
use Rattle.pending_returns.specs.declared.facts.Summary.{Summary}
use Rattle.branch_tree.specs.Graph.{seen_graph}
use Rattle.branch_tree.specs.declared.graph.Graph as made
use Rattle.lowering_labels.specs.points.FallThrough.{seen_range}
use Rattle.procedure_split.specs.plan.Laws.{others_of}
use Rattle.procedure_split.specs.shaped_ranges.Graphs.{AreGraphsOf, HaveGraphs, IsGraphOf, graph_by}
use Rattle.procedure_split.specs.Splitting.{Planned}
use Rattle.procedure_split.specs.split_behaviour.Alike.{IsWellMade}
use Rattle.procedure_split.proofs.made_procedures_lemmas.Rows.{all-as-planned}
use Rattle.procedure_split.proofs.plan_lemmas.CobolPlans.{cobol-planned, has-plan}
use Rattle.procedure_split.proofs.shaped_ranges_lemmas.Keeping.{Kept, graph_in, kept-graph}
use Rattle.end_to_end_laws.specs.rewriting.Families.{IsSoundFamily}
use Rattle.end_to_end_laws.specs.rewriting.lowered_families.Lowered.{graphs_in, in_order}
use Rattle.end_to_end_laws.specs.rewriting.lowered_families.Laws.{LoweredGraphsAreSound, SplitGraphsAreSound}
use Rattle.end_to_end_laws.proofs.results_lemmas.read_headline_lemmas.WellMade.{well-made}
use Rattle.end_to_end_laws.proofs.rewriting_lemmas.Agreeing.{Agree, family-sound}
use Rattle.end_to_end_laws.proofs.rewriting_lemmas.Plans.{all-change, plan-sound}

pub filled-there : (paragraphs : List Paragraph) → IsTrue (is_filled paragraphs) → 0 < length paragraphs
filled-there [] some = cc
filled-there (paragraph ∷ paragraphs) some = omega arith

-- One choice of kept nodes for all ranges, by those of each.
module _ (told : FlowFacts) (program : Program) where
  -- a range that isn't there keeps all
  abbrev pub kept_in : (ranges : List code.Range) (graphs : List Graph) → HaveGraphs told program ranges graphs → Kept
  kept_in [] [] have range = λ label. true
  kept_in [] (graph ∷ graphs) have range = absurd have
  kept_in (first ∷ ranges) [] have range = absurd have
  kept_in (first ∷ ranges) (graph ∷ graphs) have range = if same_range (seen_range first) range then have.0.keep else kept_in ranges graphs have.1 range

  pub kept-reached : (ranges : List code.Range) (graphs : List Graph) (have : HaveGraphs told program ranges graphs) → AreReached (lowered told program) (kept_in ranges graphs have)
  kept-reached [] [] have range label reached = refl
  kept-reached [] (graph ∷ graphs) have range label reached = absurd have
  kept-reached (first ∷ ranges) [] have range label reached = absurd have
  kept-reached (first ∷ ranges) (graph ∷ graphs) have range label reached =
      elim (same_range (seen_range first) range) as (λ t. same_range (seen_range first) range ≡ t → (if t then have.0.keep else kept_in ranges graphs have.1 range) label ≡ true) [
        | true ↦ λ is. have.0.just.1 label (subst (λ r. IsReached (lowered told program) r label) (sym (same-range (seen_range first) range is)) reached)
        | false ↦ λ is. kept-reached ranges graphs have.1 range label reached
      ] refl

  pub kept-just : (ranges : List code.Range) (graphs : List Graph) (have : HaveGraphs told program ranges graphs) (range : Range) → In range (in_order ranges) → AreJustReached told program range (kept_in ranges graphs have range)
  kept-just [] graphs have range is = cc
  kept-just (first ∷ ranges) [] have range is = absurd have
  kept-just (first ∷ ranges) (graph ∷ graphs) have range is =
      elim (same_range (seen_range first) range) as (λ t. same_range (seen_range first) range ≡ t → (if t then true else is_in range (in_order ranges)) ≡ true → AreJustReached told program range (if t then have.0.keep else kept_in ranges graphs have.1 range)) [
        | true ↦ λ same there. subst (λ r. AreJustReached told program r have.0.keep) (same-range (seen_range first) range same) have.0.just
        | false ↦ λ same there. kept-just ranges graphs have.1 range there
      ] refl is

  -- each graph is the one that is kept so
  abbrev IsKept : (ranges : List code.Range) (graphs : List Graph) → HaveGraphs told program ranges graphs → Range → Type 0
  IsKept ranges graphs have range = (keep : Label → Bool) × (kept_in ranges graphs have range ≡ keep) × (graphs_in ranges graphs range ≡ graph_by told program keep range)

  kept-each : (ranges : List code.Range) (graphs : List Graph) (have : HaveGraphs told program ranges graphs) (range : Range) → In range (in_order ranges) → IsKept ranges graphs have range
  kept-each [] graphs have range is = cc
  kept-each (first ∷ ranges) [] have range is = absurd have
  kept-each (first ∷ ranges) (graph ∷ graphs) have range is =
      elim (same_range (seen_range first) range) as (λ t. same_range (seen_range first) range ≡ t → (if t then true else is_in range (in_order ranges)) ≡ true →
      (keep : Label → Bool) × ((if t then have.0.keep else kept_in ranges graphs have.1 range) ≡ keep) × ((if t then graph else graphs_in ranges graphs range) ≡ graph_by told program keep range)) [
        | true ↦ λ same there. (have.0.keep, refl, subst (λ r. graph ≡ graph_by told program have.0.keep r) (same-range (seen_range first) range same) have.0.is)
        | false ↦ λ same there. kept-each ranges graphs have.1 range there
      ] refl is

  pub kept-agree : (ranges : List code.Range) (graphs : List Graph) (have : HaveGraphs told program ranges graphs) → Agree (graph_in told program (kept_in ranges graphs have)) (graphs_in ranges graphs) (in_order ranges)
  kept-agree ranges graphs have range here =
      let one = kept-each ranges graphs have range here in
      sym (one.2 ∙ kept-graph told program one.0 (kept_in ranges graphs have) range one.1)

  pub is-graph-in : (ranges : List code.Range) (graphs : List Graph) (have : HaveGraphs told program ranges graphs) (range : Range) → In range (in_order ranges) → IsGraphOf told program range (graphs_in ranges graphs range)
  is-graph-in [] graphs have range is = cc
  is-graph-in (first ∷ ranges) [] have range is = absurd have
  is-graph-in (first ∷ ranges) (graph ∷ graphs) have range is =
      elim (same_range (seen_range first) range) as (λ t. same_range (seen_range first) range ≡ t → (if t then true else is_in range (in_order ranges)) ≡ true → IsGraphOf told program range (if t then graph else graphs_in ranges graphs range)) [
        | true ↦ λ same there. subst (λ r. IsGraphOf told program r graph) (same-range (seen_range first) range same) have.0
        | false ↦ λ same there. is-graph-in ranges graphs have.1 range there
      ] refl is

  -- the graphs that code makes are such
  pub all-have : (ranges : List code.Range) (graphs : List made.Graph) → AreGraphsOf told program ranges graphs → HaveGraphs told program ranges (map seen_graph graphs)
  all-have [] [] are = tt
  all-have [] (graph ∷ graphs) are = absurd are
  all-have (range ∷ ranges) [] are = absurd are
  all-have (range ∷ ranges) (graph ∷ graphs) are = (are.0, all-have ranges graphs are.1)

module _ {Left : Type 0} (program : cobol.Program) (summary : Summary) (well : IsWellMade program) (flows : IsFaultFree program summary) (plan : Planned program summary) (graphs : List Graph) (left : Memory → Left) where
  abbrev told : FlowFacts
  told = flow_facts_of program.files plan.returning

  abbrev control : Program
  control = control_of program

  abbrev ranges : List Range
  ranges = Main ∷ others_of plan.order

  some : 0 < length control.paragraphs
  some = subst (λ n. 0 < n) (sym (seen-length 0 program.paragraphs)) (filled-there program.paragraphs well.fit.own.some)

  in-order : in_order plan.order ≡ ranges
  in-order =
      all-as-planned plan.order
      ∙ (cobol-planned program summary plan.returning plan.order well.proper.own_items well.proper.own_paragraphs some flows.never flows.is plan.is).1.main

  pub well-sound : HaveGraphs told control plan.order graphs → IsSoundFamily (acting (declared_in program)) left (graphs_in plan.order graphs) (in_order plan.order)
  well-sound have =
      let keep = kept_in told control plan.order graphs have in
      let all = has-plan program summary plan.returning plan.order keep well.proper.own_items well.proper.own_paragraphs some flows.never flows.is plan.is
      (kept-reached told control plan.order graphs have)
      (λ range within. kept-just told control plan.order graphs have range (subst (λ l. In range l) (sym in-order) within)) in
      let is_source = source (declared_in program) plan.returning program well.proper.own_items well.proper.own_paragraphs in
      subst (λ order. IsSoundFamily (acting (declared_in program)) left (graphs_in plan.order graphs) order) (sym in-order)
      (family-sound (acting (declared_in program)) left (graph_in told control keep) (graphs_in plan.order graphs) ranges
      (subst (λ order. Agree (graph_in told control keep) (graphs_in plan.order graphs) order) in-order (kept-agree told control plan.order graphs have))
      (all-change told control keep (others_of plan.order) is_source some all.1)
      (plan-sound told control keep (others_of plan.order) is_source some all.1 (acting (declared_in program)) left
      (record { skips = skips (declared_in program); chooses = chooses (declared_in program) }) all.0))

-- each graph leads to its own nodes
pub closed-in : (program : cobol.Program) (summary : Summary) (well : IsWellMade program) (flows : IsFaultFree program summary) (plan : Planned program summary) (graphs : List Graph) →
    HaveGraphs (flow_facts_of program.files plan.returning) (control_of program) plan.order graphs → (range : Range) → In range (in_order plan.order) → IsClosed (graphs_in plan.order graphs range)
closed-in program summary well flows plan graphs have = (well-sound program summary well flows plan graphs (λ memory. memory) have).closed

module _ {Left : Type 0} where
  pub lowered-sound : LoweredGraphsAreSound Left
  lowered-sound bytes program summary reads flows plan graphs have left =
      well-sound program summary (well-made bytes program reads) flows plan graphs left have

  pub split-sound : SplitGraphsAreSound Left
  split-sound bytes program result summary reads flows split left =
      well-sound program summary (well-made bytes program reads) flows split.plan (map seen_graph split.graphs) left
      (all-have (flow_facts_of program.files split.plan.returning) (control_of program) split.plan.order split.graphs split.lowered.are)
