-- Results are fixed.
use Rattle.std.proofs.Common.{◌≡◌, ◌≤◌, ℕ, zero, suc, Bool, true, false, replicate, List, length, Option, Some, None, ap, ◌∙◌, arith}
use Rattle.std.specs.Prelude.{slice_set}
use Rattle.cob_tree.specs.declared.program.Program.{Program}
use Rattle.control_flow_theory.specs.language.Control.{control_of}
use Rattle.control_flow_theory.specs.language.Structured.{IsStructuredControl}
use Rattle.cobol_print.specs.Program.{printed}
use Rattle.cobol_read.specs.Reading.{Reads}
use Rattle.out_names.specs.Ordering.{first_ready, order_from, order_of}
use Rattle.pending_returns.specs.declared.facts.RangeFacts.{RangeFacts}
use Rattle.pending_returns.specs.declared.facts.Summary.{Summary}
use Rattle.procedure_split.specs.Splitting.{IsSplit}
use Rattle.procedure_split.specs.plan.Planned.{calls_of, range_at}
use Rattle.procedure_split.specs.split_behaviour.Alike.{IsWellMade}
use Rattle.pending_returns.specs.FaultFree.{IsFaultFree}
use Rattle.procedure_split.proofs.split_behaviour_lemmas.Joined as joined
use Rattle.end_to_end_laws.specs.results.readable_results.Laws.{IsWithinLimits, SplitProgramsReadBack}
use Rattle.end_to_end_laws.proofs.results_lemmas.read_headline_lemmas.WellMade.{well-made}
use Rattle.fixed_point_laws.specs.Results.{IsFixed, ResultsAreFixed}
use Rattle.fixed_point_laws.proofs.AgainLemmas.{map-size}
use Rattle.fixed_point_laws.proofs.FaultlessLemmas.{are-faultless}
use Rattle.fixed_point_laws.proofs.LimitLemmas as limits
use Rattle.fixed_point_laws.proofs.RangeLemmas as ranges
use Rattle.fixed_point_laws.proofs.SplittingLemmas.{come-again}

-- an order has no more than there are
order-few : (count : ℕ) (calls : List (List ℕ)) (stands : List Bool) (next : Option ℕ) → length (order_from count calls stands next) ≤ count
order-few zero calls stands next = omega arith
order-few (suc count) calls stands None = omega arith
order-few (suc count) calls stands (Some number) =
    let k = order-few count calls (slice_set stands number true) (first_ready (length calls) calls (slice_set stands number true) 0) in
    omega (arith, k)

module _ (read_back : SplitProgramsReadBack) (bytes : List ℕ) (program made : Program) (summary : Summary) (reads : Reads bytes program) (flows : IsFaultFree program summary) (few : length summary.ranges ≤ 5000)
    (split : IsSplit program summary made) (within : IsWithinLimits made) where
  well : IsWellMade program
  well = well-made bytes program reads

  back : Reads (printed made) made
  back = read_back bytes program made summary reads flows split within

  well-again : IsWellMade made
  well-again = well-made (printed made) made back

  paragraphs-few : length made.paragraphs ≤ 5000
  paragraphs-few =
      let calls = calls_of summary.ranges in
      let one = split.written.paragraphs.count in
      let two : length split.plan.order ≡ length (order_of calls) =
      ap (λ rs. length rs) split.plan.is.stands ∙ map-size (range_at summary.ranges) (order_of calls) in
      let three = order-few (length calls) calls (replicate (length calls) false) (Some 0) in
      let four : length calls ≡ length summary.ranges = map-size (λ (facts : RangeFacts). facts.calls) summary.ranges in
      omega (arith, few, one, two, three, four)

  structured : IsStructuredControl (control_of made)
  structured = (joined.behave-alike program made summary well flows split).0

  pub fixed : IsFixed made
  fixed = record {
    read_back = back;
    faultless = are-faultless made well-again.proper.own_items well-again.proper.own_paragraphs structured;
    ranges = ranges.pass-none made structured paragraphs-few;
    within = λ other limit is fault. limits.pass-none program made summary other limit well flows split well-again is within.short.tokens fault;
    again = λ other twice is again. come-again program made summary other twice well flows split well-again is again;
  }

pub are-fixed : SplitProgramsReadBack → ResultsAreFixed
are-fixed read_back = λ bytes program made summary reads flows few split within. fixed read_back bytes program made summary reads flows few split within
