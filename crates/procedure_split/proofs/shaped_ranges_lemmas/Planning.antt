-- The plan with these graphs.
use Rattle.std.proofs.Common.{◌≡◌, ◌<◌, ℕ, List, [], ◌∷◌, map, length, Option, Some, None, refl, ap₂, sym, subst, ◌∙◌}
use Rattle.cob_tree.specs.declared.program.Range as code
use Rattle.control_flow_theory.specs.language.Control.{control_of}
use Rattle.control_flow_theory.specs.language.Language.{Program, Range, Main}
use Rattle.control_flow_theory.specs.lowering.FlowFacts.{FlowFacts}
use Rattle.control_flow_theory.specs.graph_rules.Walked.{In}
use Rattle.control_flow_theory.specs.main_theorem.Chain.{CallsStandLater}
use Rattle.control_flow_theory.specs.main_theorem.MainTheorem.{Plan}
use Rattle.program_facts.specs.completion.FlowFacts.{flow_facts_of}
use Rattle.program_points.proofs.table_building_lemmas.Sections.{seen-length}
use Rattle.procedure_split.specs.plan.Laws.{as_control, ending_at, others_of}
use Rattle.procedure_split.proofs.plan_lemmas.CobolPlans.{cobol-planned, has-plan}
use Rattle.lowering_labels.specs.points.FallThrough.{range_by, seen_range}
use Rattle.procedure_split.specs.shaped_ranges.Laws.{RangesArePlanned}
use Rattle.procedure_split.proofs.shaped_ranges_lemmas.Keeping.{AreApart, kept_by, kept-reached, kept-just, kept-graphs, kept-graph}

apart-later : (told : FlowFacts) (program : Program) (ranges : List Range) →
    CallsStandLater told program ranges → AreApart ranges
apart-later told program [] later = tt
apart-later told program (range ∷ ranges) later =
    (later.0, apart-later told program ranges later.2)

as-seen : (entry : ℕ) (exit : Option ℕ) → range_by entry exit ≡ ending_at entry exit
as-seen entry None = refl
as-seen entry (Some exit) = refl

all-seen : (order : List code.Range) → map seen_range order ≡ map as_control order
all-seen [] = refl
all-seen (range ∷ ranges) =
    ap₂ (λ first others. first ∷ others) (as-seen range.entry range.exit) (all-seen ranges)

pub are-planned : RangesArePlanned
are-planned = λ program summary returning order graphs flow by are.
    let told = flow_facts_of program.files returning in
    let control = control_of program in
    let some : 0 < length control.paragraphs = subst (λ n. 0 < n) (sym (seen-length 0 program.paragraphs)) flow.some in
    let first = cobol-planned program summary returning order flow.items flow.paragraphs some
    flow.flow.never flow.flow.is by in
    let keep = kept_by told control order graphs are in
    let main : map seen_range order ≡ Main ∷ others_of order =
    all-seen order ∙ first.1.main in
    let all = has-plan program summary returning order keep flow.items flow.paragraphs some
    flow.flow.never flow.flow.is by (kept-reached told control order graphs are)
    (λ range within. kept-just told control order graphs are range
    (subst (λ l. In range l) (sym main) within)) in
    let apart : AreApart (map seen_range order) =
    subst (λ l. AreApart l) (sym main) (apart-later told control (Main ∷ others_of order)
    first.1.later) in
    let plan : Plan = record { told = told; keep = keep; others = others_of order } in (
      plan,
      record {
        told = refl;
        others = refl;
        fair = all.0;
        planned = all.1;
        called = all.2;
        each = λ at range graph here is.
            let found = kept-graphs told control order graphs are apart at range graph here is in
            found.2 ∙ kept-graph told control found.0 keep (seen_range range) found.1;
      },
    )
