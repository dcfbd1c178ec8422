use Rattle.std.proofs.Common.{◌≡◌, ℕ, List, Option, Some, slice_get, subst, sym, ap, ◌∙◌}
use Rattle.control_flow_theory.specs.language.Control.{control_of}
use Rattle.program_points.specs.paths.Flow.{main_range}
use Rattle.program_points.specs.numbering.Kind.{never_first_of}
use Rattle.pending_returns.specs.declared.facts.RangeFacts.{RangeFacts}
use Rattle.pending_returns.specs.faults.Clash.{LeadsFrom}
use Rattle.overlap_trail.specs.finding.Search.{flags_of}
use Rattle.overlap_trail.specs.finding.Goal.{IsMetSomewhere}
use Rattle.overlap_trail.specs.finding.ReturnLemmas.{RangesOnce}
use Rattle.overlap_trail.specs.finding.Chain.{IsChain}
use Rattle.overlap_trail.specs.finding.Hops.{aim_at, HopsCome}
use Rattle.overlap_trail.proofs.finding_lemmas.Trailing.{rising-once, is-levels, leads-base, all-come, is-found}
use Rattle.overlap_trail.proofs.finding.finding.found.Goals as goal

pub chain_of-requires-clause-levels : goal.chain_of-requires-clause-levels
chain_of-requires-clause-levels c = is-levels (never_first_of c.args.program.now.files) (control_of c.args.program.now) c.args.summary.now c.requires.summary c.as_slice.result.now c.as_slice.ensures

pub chain_of-requires-clause-leads : goal.chain_of-requires-clause-leads
chain_of-requires-clause-leads c =
    let clash = c.requires.clash in
    subst (λ (ls : List RangeFacts). LeadsFrom ls 0 c.args.clash.base) (sym c.as_slice.ensures)
    (subst (λ (n : ℕ). LeadsFrom c.args.summary.now.ranges 0 n) (sym clash.5.is_base) (leads-base (never_first_of c.args.program.now.files) (control_of c.args.program.now) c.args.summary.now c.requires.summary clash.0 clash.2 clash.3))

pub known_of-requires-clause-once : goal.known_of-requires-clause-once
known_of-requires-clause-once c = subst RangesOnce (sym c.in_ok-table.ensures.ranges) (rising-once c.in_ok-ranges.ranges.items c.in_ok-ranges.ensures.rising)

pub hops_of-requires-clause-comes : goal.hops_of-requires-clause-comes
hops_of-requires-clause-comes c = λ number range e.
    let table = c.in_ok-table.table in
    let is = c.in_ok-table.ensures.table in
    let numbers = c.in_ok-lemmas.field-0.numbers.items in
    let main : slice_get table.ranges 0 ≡ Some main_range = ap (λ rs. slice_get rs 0) c.in_ok-table.ensures.ranges ∙ c.in_ok-ranges.ensures.main in
    let chain = subst (λ (ls : List RangeFacts). IsChain ls c.in_ok-chain.chain.ranges.items c.in_ok-chain.chain.fault) c.as_slice.ensures c.in_ok-chain.ensures in
    let same : c.as_slice-2.result.now ≡ numbers = c.as_slice-2.ensures.value in
    subst (λ (ns : List (Option ℕ)). IsMetSomewhere table (flags_of ns) range (aim_at c.in_ok-chain.chain.ranges.items c.in_ok-chain.chain.fault number)) (sym same)
    (all-come (never_first_of c.args.program.now.files) (control_of c.args.program.now) c.args.summary.now c.requires.summary table is.0 is.1 (flags_of numbers) c.in_ok-lemmas.ensures.closed main c.in_ok-chain.chain.ranges.items c.in_ok-chain.chain.fault chain number range e)

pub returns : goal.returns
returns c =
    let table = c.in_ok-table.table in
    let is = c.in_ok-table.ensures.table in
    let lemmas = c.in_ok-lemmas.field-0.lemmas in
    let numbers = c.in_ok-lemmas.field-0.numbers.items in
    let main : slice_get table.ranges 0 ≡ Some main_range = ap (λ rs. slice_get rs 0) c.in_ok-table.ensures.ranges ∙ c.in_ok-ranges.ensures.main in
    let chain = subst (λ (ls : List RangeFacts). IsChain ls c.in_ok-chain.chain.ranges.items c.in_ok-chain.chain.fault) c.as_slice.ensures c.in_ok-chain.ensures in
    let same : c.as_slice-2.result.now ≡ numbers = c.as_slice-2.ensures.value in
    let come = subst (λ (ns : List (Option ℕ)). HopsCome table ns c.in_ok-chain.chain.ranges.items c.in_ok-chain.chain.fault c.in_ok-hops.hops) same c.in_ok-hops.ensures in
    is-found (never_first_of c.args.program.now.files) (control_of c.args.program.now) c.args.summary.now c.requires.summary table is.0 is.1 (flags_of numbers) c.in_ok-lemmas.ensures.closed main c.in_ok-chain.chain.ranges.items c.in_ok-chain.chain.fault chain lemmas numbers c.in_ok-hops.hops c.in_ok-lemmas.ensures.knows come
