-- The graphs that ranges have, of which nothing need be made, as the theory plans them.
use Rattle.std.proofs.Common.{◌≡◌, ◌<◌, ℕ, zero, suc, Bool, true, false, if◌then◌else◌, List, [], ◌∷◌, map, length, Some, slice_get, refl, ap, sym, subst, ◌∙◌}
use Rattle.cob_tree.specs.declared.program.Program as cobol
use Rattle.cob_tree.specs.declared.program.Range as code
use Rattle.control_flow_theory.specs.language.Control.{control_of}
use Rattle.control_flow_theory.specs.language.Language.{Program, Range, Main, same_range}
use Rattle.control_flow_theory.specs.semantics.Graph.{Label}
use Rattle.control_flow_theory.proofs.semantics_lemmas.Ranges.{same-range, same-self}
use Rattle.control_flow_theory.specs.lowering.FlowFacts.{FlowFacts}
use Rattle.control_flow_theory.specs.lowering.Lowered.{lowered}
use Rattle.control_flow_theory.specs.lowering.Reached.{AreReached, IsReached}
use Rattle.control_flow_theory.specs.lowering.WellFormed.{AreJustReached}
use Rattle.control_flow_theory.specs.graph_rules.Walked.{In, is_in}
use Rattle.control_flow_theory.specs.graph_rules.Reduced as reduced
use Rattle.control_flow_theory.specs.graph_rules.Reduced.{Graph}
use Rattle.control_flow_theory.specs.main_theorem.Chain.{lowered_graphs}
use Rattle.control_flow_theory.specs.main_theorem.MainTheorem.{Plan, graphs_by}
use Rattle.control_flow_theory.specs.main_theorem.Numbering.{numbers_by, added_by}
use Rattle.program_facts.specs.completion.FlowFacts.{flow_facts_of}
use Rattle.program_points.proofs.table_building_lemmas.Sections.{seen-length}
use Rattle.lowering_labels.specs.points.FallThrough.{seen_range}
use Rattle.pending_returns.specs.declared.facts.Summary.{Summary}
use Rattle.procedure_split.specs.plan.Laws.{others_of}
use Rattle.procedure_split.specs.plan.Planned.{IsPlanOf}
use Rattle.procedure_split.specs.shaped_ranges.Graphs.{HaveGraphs, graph_by}
use Rattle.procedure_split.specs.shaped_ranges.Laws.{HasFlow}
use Rattle.procedure_split.proofs.made_procedures_lemmas.Rows.{all-as-planned, later-apart}
use Rattle.procedure_split.proofs.plan_lemmas.CobolPlans.{cobol-planned, has-plan}
use Rattle.procedure_split.proofs.shaped_ranges_lemmas.Keeping.{AreApart}
use Rattle.fixed_point_laws.proofs.AgainLemmas.{PlannedAgain}

abbrev Kept : Type 0
Kept = Range → Label → Bool

module _ (told : FlowFacts) (program : Program) where
  -- a range that isn't there keeps all
  abbrev pub kept_by : (ranges : List code.Range) (graphs : List Graph) →
      HaveGraphs told program ranges graphs → Kept
  kept_by [] [] are range = λ label. true
  kept_by [] (graph ∷ graphs) are range = absurd are
  kept_by (first ∷ ranges) [] are range = absurd are
  kept_by (first ∷ ranges) (graph ∷ graphs) are range =
      if same_range (seen_range first) range then are.0.keep else kept_by ranges graphs are.1 range

  pub kept-reached : (ranges : List code.Range) (graphs : List Graph)
      (are : HaveGraphs told program ranges graphs) →
      AreReached (lowered told program) (kept_by ranges graphs are)
  kept-reached [] [] are range label reached = refl
  kept-reached [] (graph ∷ graphs) are range label reached = absurd are
  kept-reached (first ∷ ranges) [] are range label reached = absurd are
  kept-reached (first ∷ ranges) (graph ∷ graphs) are range label reached =
      elim (same_range (seen_range first) range) as (λ t. same_range (seen_range first) range ≡ t →
      (if t then are.0.keep else kept_by ranges graphs are.1 range) label ≡ true) [
        | true ↦ λ is. are.0.just.1 label (subst (λ r. IsReached (lowered told program) r label)
            (sym (same-range (seen_range first) range is)) reached)
        | false ↦ λ is. kept-reached ranges graphs are.1 range label reached
      ] refl

  pub kept-just : (ranges : List code.Range) (graphs : List Graph)
      (are : HaveGraphs told program ranges graphs) (range : Range) →
      In range (map seen_range ranges) →
      AreJustReached told program range (kept_by ranges graphs are range)
  kept-just [] graphs are range is = cc
  kept-just (first ∷ ranges) [] are range is = absurd are
  kept-just (first ∷ ranges) (graph ∷ graphs) are range is =
      elim (same_range (seen_range first) range) as (λ t. same_range (seen_range first) range ≡ t →
      (if t then true else is_in range (map seen_range ranges)) ≡ true →
      AreJustReached told program range
      (if t then are.0.keep else kept_by ranges graphs are.1 range)) [
        | true ↦ λ same there. subst (λ r. AreJustReached told program r are.0.keep)
            (same-range (seen_range first) range same) are.0.just
        | false ↦ λ same there. kept-just ranges graphs are.1 range there
      ] refl is

  -- what is written of a range is so by what it keeps alone
  abbrev pub graph_in : Kept → Range → reduced.Graph
  graph_in keep range =
      lowered_graphs told program keep (numbers_by keep program) (added_by keep program) range

  pub kept-graph : (keep : Label → Bool) (all : Kept) (range : Range) → all range ≡ keep →
      graph_by told program keep range ≡ graph_in all range
  kept-graph keep all range is =
      subst (λ k. graph_by told program k range ≡ graph_in all range) is refl

  -- it keeps on behind a range that isn't this one
  further : (first : Range) (range : Range) (ranges : List Range) → is_in first ranges ≡ false →
      In range ranges → same_range first range ≡ false
  further first range ranges out within =
      elim (same_range first range) as (λ t. same_range first range ≡ t → t ≡ false) [
        | true ↦ λ same. let there : is_in first ranges ≡ true =
            subst (λ r. is_in r ranges ≡ true) (sym (same-range first range same)) within in
            let no : true ≡ false = sym there ∙ out in cc
        | false ↦ λ same. refl
      ] refl

  there : (ranges : List code.Range) (at : ℕ) (range : code.Range) →
      slice_get ranges at ≡ Some range → In (seen_range range) (map seen_range ranges)
  there [] at range is = cc
  there (first ∷ ranges) zero range is =
      let same : first ≡ range = cc in
      subst (λ r. (if same_range (seen_range r) (seen_range range) then true
      else is_in (seen_range range) (map seen_range ranges)) ≡ true) (sym same)
      (ap (λ t. if t then true else is_in (seen_range range) (map seen_range ranges))
      (same-self (seen_range range)))
  there (first ∷ ranges) (suc at) range is =
      elim (same_range (seen_range first) (seen_range range)) as
      (λ t. (if t then true else is_in (seen_range range) (map seen_range ranges)) ≡ true) [
        | true ↦ refl
        | false ↦ there ranges at range is
      ]

  -- so each graph is that of all
  pub kept-graphs : (ranges : List code.Range) (graphs : List Graph)
      (are : HaveGraphs told program ranges graphs) → AreApart (map seen_range ranges) →
      (at : ℕ) (range : code.Range) (graph : Graph) → slice_get ranges at ≡ Some range →
      slice_get graphs at ≡ Some graph →
      (keep : Label → Bool) × (kept_by ranges graphs are (seen_range range) ≡ keep)
      × (graph ≡ graph_by told program keep (seen_range range))
  kept-graphs [] graphs are apart at range graph here is = cc
  kept-graphs (first ∷ ranges) [] are apart at range graph here is = absurd are
  kept-graphs (first ∷ ranges) (one ∷ graphs) are apart zero range graph here is =
      let same : first ≡ range = cc in
      let alike : one ≡ graph = cc in (
        are.0.keep,
        ap (λ t. if t then are.0.keep else kept_by ranges graphs are.1 (seen_range range))
            (subst (λ r. same_range (seen_range r) (seen_range range) ≡ true) (sym same)
            (same-self (seen_range range))),
        subst (λ g. g ≡ graph_by told program are.0.keep (seen_range range)) alike
            (subst (λ r. one ≡ graph_by told program are.0.keep (seen_range r)) same
            are.0.is),
      )
  kept-graphs (first ∷ ranges) (one ∷ graphs) are apart (suc at) range graph here is =
      let behind = kept-graphs ranges graphs are.1 apart.1 at range graph here is in (
        behind.0,
        ap (λ t. if t then are.0.keep else kept_by ranges graphs are.1 (seen_range range))
            (further (seen_range first) (seen_range range) (map seen_range ranges) apart.0
            (there ranges at range here)) ∙ behind.1,
        behind.2,
      )

-- a program that isn't faulty is planned with them
pub record PlannedHaving (program : cobol.Program) (summary : Summary) (order : List code.Range) (graphs : List Graph) : Type 0 where
  pub planned : PlannedAgain program summary
  pub same : planned.order ≡ order
  pub ranges : map seen_range planned.order ≡ Main ∷ planned.plan.others
  pub each : (at : ℕ) (range : code.Range) (graph : Graph) → slice_get order at ≡ Some range → slice_get graphs at ≡ Some graph →
      graph ≡ graphs_by planned.plan (control_of program) (seen_range range)

pub planned-having : (program : cobol.Program) (summary : Summary) (returning : List (List ℕ)) (order : List code.Range) (graphs : List Graph) → HasFlow program summary →
    IsPlanOf summary.ranges returning order → HaveGraphs (flow_facts_of program.files returning) (control_of program) order graphs → PlannedHaving program summary order graphs
planned-having program summary returning order graphs flow by have =
    let told = flow_facts_of program.files returning in
    let control = control_of program in
    let some : 0 < length control.paragraphs = subst (λ n. 0 < n) (sym (seen-length 0 program.paragraphs)) flow.some in
    let first = cobol-planned program summary returning order flow.items flow.paragraphs some flow.flow.never flow.flow.is by in
    let keep = kept_by told control order graphs have in
    let main : map seen_range order ≡ Main ∷ others_of order = all-as-planned order ∙ first.1.main in
    let all = has-plan program summary returning order keep flow.items flow.paragraphs some flow.flow.never flow.flow.is by (kept-reached told control order graphs have)
    (λ range within. kept-just told control order graphs have range (subst (λ l. In range l) (sym main) within)) in
    let apart : AreApart (map seen_range order) = subst (λ l. AreApart l) (sym main) (later-apart told control (Main ∷ others_of order) first.1.later) in
    let plan : Plan = record { told = told; keep = keep; others = others_of order } in
    record {
      planned = record { returning = returning; order = order; is = by; plan = plan; told = refl; others = refl; planned = all.1 };
      same = refl;
      ranges = main;
      each = λ at range graph here is.
          let found = kept-graphs told control order graphs have apart at range graph here is in
          found.2 ∙ kept-graph told control found.0 keep (seen_range range) found.1;
    }
