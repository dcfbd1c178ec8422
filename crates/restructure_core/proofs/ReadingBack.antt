-- What is printed of what a program that is read is split into reads to it.
use Rattle.std.proofs.Common.{◌≡◌, ◌≤◌, ℕ, zero, suc, Bool, true, false, nat_lt, if◌then◌else◌, List, [], ◌∷◌, map, length, replicate, slice_set, Option, Some, None, refl, ap, arith, ltb-false}
use Rattle.cob_base.specs.declared.limit.Limit.{Limit}
use Rattle.cob_base.specs.declared.limit.LimitKind.TheVariants as limits
use Rattle.cob_tree.specs.declared.program.Program.{Program}
use Rattle.cob_store.specs.sizes.Storage.{storage_limit, storage_of}
use Rattle.program_facts.specs.term_counts.Program.{terms_limit, terms_of}
use Rattle.out_names.specs.Ordering.{first_ready, order_from, order_of}
use Rattle.procedure_split.specs.plan.Planned.{calls_of, range_at}
use Rattle.pending_returns.specs.declared.facts.RangeFacts.{RangeFacts}
use Rattle.pending_returns.specs.declared.facts.Summary.{Summary}
use Rattle.procedure_split.specs.declared.writing.Split.{Split}
use Rattle.procedure_split.specs.Splitting.{IsSplit}
use Rattle.cob_base.specs.Limit.{max_paragraphs, max_ranges, max_terms, passed}
use Rattle.cob_base.proofs.LimitLemmas.{within, within-either}
use Rattle.end_to_end_laws.specs.results.readable_results.Laws.{IsWithinLimits, SplitProgramsReadBack}
use Rattle.restructure_core.specs.Limit.{byte_count, token_count, else_limit, text_limit, part_limit, result_limit}
use Rattle.restructure_core.specs.Made.{IsMadeOf}
use Rattle.restructure_core.specs.Results.{ResultsReadBack}

-- ---- limits that aren't passed

first-none : (first second : Option Limit) → else_limit first second ≡ None → first ≡ None
first-none None second e = refl
first-none (Some limit) second e = cc

second-none : (first second : Option Limit) → else_limit first second ≡ None → second ≡ None
second-none None second e = e
second-none (Some limit) second e = cc

-- where a limit is none, the count isn't past it
unpassed : (limit count : ℕ) (one : Limit) (other : Option Limit) →
    (if nat_lt limit count then Some one else other) ≡ None → (nat_lt limit count ≡ false) × (other ≡ None)
unpassed limit count one other =
    elim (nat_lt limit count) as (λ t. (if t then Some one else other) ≡ None → (t ≡ false) × (other ≡ None)) [
      | true ↦ λ e. cc
      | false ↦ λ e. (refl, e)
    ]

under : (limit count : ℕ) → nat_lt limit count ≡ false → count ≤ limit
under limit count e = omega (arith, ltb-false limit count e)

-- ---- paragraphs

few-from : (count : ℕ) (calls : List (List ℕ)) (stands : List Bool) (next : Option ℕ) →
    length (order_from count calls stands next) ≤ count
few-from zero calls stands next = omega arith
few-from (suc count) calls stands None = omega arith
few-from (suc count) calls stands (Some number) =
    let after = slice_set stands number true in
    let more = few-from count calls after (first_ready (length calls) calls after 0) in
    omega (arith, more)

map-length : {A B : Type 0} (f : A → B) (list : List A) → length (map f list) ≡ length list
map-length f [] = refl
map-length f (x ∷ list) = ap suc (map-length f list)

few-ordered : (ranges : List RangeFacts) → length (map (range_at ranges) (order_of (calls_of ranges))) ≤ length ranges
few-ordered ranges =
    let ordered = map-length (range_at ranges) (order_of (calls_of ranges)) in
    let few = few-from (length (calls_of ranges)) (calls_of ranges)
    (replicate (length (calls_of ranges)) false) (Some 0) in
    let all = map-length (λ (facts : RangeFacts). facts.calls) ranges in
    omega (arith, ordered, few, all)

few-paragraphs : (program made : Program) (summary : Summary) → IsSplit program summary made →
    length summary.ranges ≤ max_ranges → length made.paragraphs ≤ max_paragraphs
few-paragraphs program made summary split few =
    let count = split.written.paragraphs.count in
    let order = ap (λ list. length list) split.plan.is.stands in
    let ordered = few-ordered summary.ranges in
    omega (arith, count, order, ordered, few)

-- ---- results

pub within-limits : (program : Program) (made : Split) → IsMadeOf program made →
    result_limit made.program ≡ None → IsWithinLimits made.program
within-limits program made is none =
    let result = made.program in
    let parts = first-none (part_limit result) (text_limit result) none in
    let text = second-none (part_limit result) (text_limit result) none in
    let stored = first-none (storage_limit true (storage_of result.entries)) (terms_limit result) parts in
    let terms = second-none (storage_limit true (storage_of result.entries)) (terms_limit result) parts in
    let tokens = first-none (passed limits.Tokens true (token_count result)) (passed limits.Bytes true (byte_count result)) text in
    let bytes = second-none (passed limits.Tokens true (token_count result)) (passed limits.Bytes true (byte_count result)) text in
    record {
      stored = within-either limits.Storage true false (storage_of result.entries) stored;
      few = few-paragraphs program result is.summary is.split.is is.clear.few;
      terms = under max_terms (terms_of result) (unpassed max_terms (terms_of result) _ _ terms).0;
      short = record {
        bytes = within limits.Bytes true (byte_count result) bytes;
        tokens = within limits.Tokens true (token_count result) tokens;
      };
    }

pub results-read-back : SplitProgramsReadBack → ResultsReadBack
results-read-back read_back bytes program made reads is none =
    read_back bytes program made.program is.summary reads
    is.clear.flow is.split.is (within-limits program made is none)
