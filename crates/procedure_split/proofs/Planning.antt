-- The ranges of a plan, their graphs, and what these are shaped to.
use Rattle.std.proofs.Common.{◌≡◌, ◌<◌, ℕ, zero, suc, true, false, if◌then◌else◌, List, [], ◌∷◌, map, length, Option, Some, None, refl, ap, ap₂, sym, subst, ◌∙◌, inl, inr}
use Rattle.std.specs.Prelude.{slice_get}
use Rattle.cob_tree.specs.declared.fault.SplitFault.{SplitFault}
use Rattle.cob_tree.specs.declared.fault.SplitFault.TheVariants as faults
use Rattle.cob_tree.specs.declared.program.Program as cobol
use Rattle.cob_tree.specs.declared.program.Range as code
use Rattle.control_flow_theory.specs.language.Control.{control_of}
use Rattle.control_flow_theory.specs.language.Language.{Program, Range, Main, Part, same_range}
use Rattle.control_flow_theory.proofs.semantics_lemmas.Ranges.{same-self}
use Rattle.control_flow_theory.specs.lowering.FlowFacts.{FlowFacts}
use Rattle.control_flow_theory.specs.lowering.WellFormed.{IsRangeOf}
use Rattle.control_flow_theory.specs.graph_rules.Walked.{In, is_in}
use Rattle.program_facts.specs.completion.FlowFacts.{flow_facts_of}
use Rattle.procedure_split.specs.Splitting.{AreGraphs, IsSplitFault, Planned}
use Rattle.program_points.proofs.table_building_lemmas.Sections.{seen-length}
use Rattle.pending_returns.specs.declared.facts.Summary.{Summary}
use Rattle.procedure_split.specs.plan.Laws.{as_control, ending_at, others_of}
use Rattle.procedure_split.specs.plan.Planned.{IsPlanOf}
use Rattle.procedure_split.proofs.plan_lemmas.CobolPlans.{cobol-planned}
use Rattle.branch_tree.specs.declared.graph.Graph.{Graph}
use Rattle.lowering_labels.specs.points.FallThrough.{range_by, seen_range}
use Rattle.procedure_split.specs.shaped_ranges.Graphs.{AreGraphsOf}
use Rattle.procedure_split.specs.shaped_ranges.Laws.{HasFlow}
use Rattle.procedure_split.specs.shaped_ranges.Limit.{IsLoweringFault}
use Rattle.procedure_split.specs.shaped_ranges.Shaping.{AllShaped, IsTooDeep}
use Rattle.procedure_split.specs.shaped_ranges.Graphing.{AreRangesOf}
use Rattle.procedure_split.specs.declared.shaped_ranges.shaping.Closed.{Closed}

as-seen : (entry : ℕ) (exit : Option ℕ) → range_by entry exit ≡ ending_at entry exit
as-seen entry None = refl
as-seen entry (Some exit) = refl

all-seen : (order : List code.Range) → map seen_range order ≡ map as_control order
all-seen [] = refl
all-seen (range ∷ ranges) =
    ap₂ (λ first others. first ∷ others) (as-seen range.entry range.exit) (all-seen ranges)

stands-in : (order : List code.Range) (at : ℕ) (range : code.Range) →
    slice_get order at ≡ Some range → In (seen_range range) (map seen_range order)
stands-in [] at range is = cc
stands-in (first ∷ order) zero range is =
    let same : first ≡ range = cc in
    ap (λ r. if same_range (seen_range r) (seen_range range) then true
    else is_in (seen_range range) (map seen_range order)) same
    ∙ ap (λ t. if t then true else is_in (seen_range range) (map seen_range order))
    (same-self (seen_range range))
stands-in (first ∷ order) (suc at) range is =
    let later : is_in (seen_range range) (map seen_range order) ≡ true =
    stands-in order at range is in
    elim (same_range (seen_range first) (seen_range range)) as (λ t.
    (if t then true else is_in (seen_range range) (map seen_range order)) ≡ true) [
      | true ↦ refl
      | false ↦ later
    ]

begins : (program : Program) (ranges : List Range) → 0 < length program.paragraphs →
    ((entry exit : ℕ) → In (Part entry exit) ranges → entry < length program.paragraphs) →
    (range : Range) → In range ranges → IsRangeOf program range
begins program ranges some below Main within = some
begins program ranges some below (Part entry exit) within = below entry exit within

pub ranges-are : (program : cobol.Program) (summary : Summary) (returning : List (List ℕ))
    (order : List code.Range) → HasFlow program summary →
    IsPlanOf summary.ranges returning order → AreRangesOf (control_of program) order
ranges-are program summary returning order flow by = λ at range here.
    let control = control_of program in
    let some : 0 < length control.paragraphs =
    subst (λ n. 0 < n) (sym (seen-length 0 program.paragraphs)) flow.some in
    let plan = cobol-planned program summary returning order flow.items flow.paragraphs some
    flow.flow.never flow.flow.is by in
    begins control (Main ∷ others_of order) some
    (λ entry exit within. (plan.1.entered entry exit within).0) (seen_range range)
    (subst (λ l. In (seen_range range) l) (all-seen order ∙ plan.1.main)
    (stands-in order at range here))

graphs-length : (told : FlowFacts) (program : Program) (ranges : List code.Range)
    (graphs : List Graph) → AreGraphsOf told program ranges graphs →
    length graphs ≡ length ranges
graphs-length told program [] [] are = refl
graphs-length told program [] (graph ∷ graphs) are = absurd are
graphs-length told program (range ∷ ranges) [] are = absurd are
graphs-length told program (range ∷ ranges) (graph ∷ graphs) are =
    ap suc (graphs-length told program ranges graphs are.1)

shaped-length : (graphs : List Graph) (closed : List Closed) → AllShaped graphs closed →
    length closed ≡ length graphs
shaped-length [] [] are = refl
shaped-length [] (one ∷ closed) are = absurd are
shaped-length (graph ∷ graphs) [] are = absurd are
shaped-length (graph ∷ graphs) (one ∷ closed) are =
    ap suc (shaped-length graphs closed are.1)

pub as-many : (told : FlowFacts) (program : Program) (ranges : List code.Range)
    (graphs : List Graph) (closed : List Closed) → AreGraphsOf told program ranges graphs →
    AllShaped graphs closed → length closed ≡ length ranges
as-many told program ranges graphs closed are shaped =
    shaped-length graphs closed shaped ∙ graphs-length told program ranges graphs are

-- Why a program isn't split.

pub too-large : (program : cobol.Program) (summary : Summary) (plan : Planned program summary)
    (fault : SplitFault) →
    IsLoweringFault (flow_facts_of program.files plan.returning) (control_of program) plan.order fault →
    IsSplitFault program summary fault
too-large program summary plan (faults.Limit limit) past =
    inl (record { plan = plan; past = past })
too-large program summary plan faults.NoMemory past = tt

pub too-deep : (program : cobol.Program) (summary : Summary) (plan : Planned program summary)
    (graphs : List Graph) → AreGraphs program summary plan graphs → (fault : SplitFault) →
    IsTooDeep graphs fault → IsSplitFault program summary fault
too-deep program summary plan graphs lowered (faults.Limit limit) deep =
    inr (record { plan = plan; graphs = graphs; lowered = lowered; deep = deep.0; is = deep.1 })
too-deep program summary plan graphs lowered faults.NoMemory deep = tt
