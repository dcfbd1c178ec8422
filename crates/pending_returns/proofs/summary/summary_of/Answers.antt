use Rattle.std.proofs.Common.{◌∙◌, length, ap, refl, sym, arith}
use Rattle.pending_returns.proofs.Summing.{calls-below, some-levels, kept-below, kept-rises, summarises-lent}
use Rattle.pending_returns.proofs.Few.{fewer}
use Rattle.pending_returns.proofs.summary.summary_of.Goals as goal

pub levels_of-requires-clause-known : goal.levels_of-requires-clause-known
levels_of-requires-clause-known c = ap (λ bs. length bs) c.as_slice.ensures.value ∙ c.in_ok-returns.ensures.size

pub transitive_callees-requires-clause-main : goal.transitive_callees-requires-clause-main
transitive_callees-requires-clause-main c = some-levels c.args.table.now c.as_slice.result.now c.in_ok-levels.levels c.as_slice-2.result.now c.requires.main c.in_ok-levels.ensures c.as_slice-2.ensures

pub transitive_callees-requires-clause-known : goal.transitive_callees-requires-clause-known
transitive_callees-requires-clause-known c = calls-below c.args.table.now c.as_slice.result.now c.in_ok-levels.levels c.as_slice-2.result.now (length c.as_slice-2.result.now) c.requires.tidy c.in_ok-levels.ensures c.as_slice-2.ensures (ap (λ ls. length ls) c.as_slice-2.ensures)

pub ranks_of-requires-clause-rises : goal.ranks_of-requires-clause-rises
ranks_of-requires-clause-rises c = kept-rises c.as_slice-3.result.now c.in_ok-kept.kept c.as_slice-4.result.now c.in_ok-kept.ensures c.as_slice-4.ensures

pub ranks_of-requires-clause-below : goal.ranks_of-requires-clause-below
ranks_of-requires-clause-below c = kept-below c.in_ok-led.led.items c.as_slice-3.result.now c.in_ok-kept.kept c.as_slice-4.result.now c.len.result c.as_slice-3.ensures.value c.in_ok-kept.ensures c.as_slice-4.ensures (c.in_ok-led.ensures.size ∙ ap (λ ls. length ls) c.as_slice-2.ensures ∙ sym c.len.ensures)

pub kept_facts-requires-clause-below : goal.kept_facts-requires-clause-below
kept_facts-requires-clause-below c = kept-below c.in_ok-led.led.items c.as_slice-3.result.now c.in_ok-kept.kept c.as_slice-6.result.now (length c.as_slice-5.result.now) c.as_slice-3.ensures.value c.in_ok-kept.ensures c.as_slice-6.ensures
    (c.in_ok-led.ensures.size ∙ ap (λ ls. length ls) c.as_slice-2.ensures ∙ sym (ap (λ ls. length ls) c.as_slice-5.ensures))

pub kept_facts-requires-clause-calls : goal.kept_facts-requires-clause-calls
kept_facts-requires-clause-calls c = calls-below c.args.table.now c.as_slice.result.now c.in_ok-levels.levels c.as_slice-5.result.now (length c.as_slice-7.result.now) c.requires.tidy c.in_ok-levels.ensures c.as_slice-5.ensures
    (ap (λ ns. length ns) c.as_slice-7.ensures.value ∙ c.in_ok-ranks.ensures.size ∙ c.len.ensures)

pub marked_owners-requires-clause-known : goal.marked_owners-requires-clause-known
marked_owners-requires-clause-known c = omega (arith, ap (λ bs. length bs) c.as_slice-8.ensures.value, c.in_ok-returns.ensures.size)

pub marked_owners-requires-clause-below : goal.marked_owners-requires-clause-below
marked_owners-requires-clause-below c = kept-below c.in_ok-led.led.items c.as_slice-3.result.now c.in_ok-kept.kept c.as_slice-9.result.now (length c.args.table.now.ranges) c.as_slice-3.ensures.value c.in_ok-kept.ensures c.as_slice-9.ensures
    (c.in_ok-led.ensures.size ∙ ap (λ ls. length ls) c.as_slice-2.ensures ∙ c.in_ok-levels.ensures.size)

pub returns-clause-summary : goal.returns-clause-summary
returns-clause-summary c = summarises-lent c.args.table.now c.in_ok-returns.returns.items c.as_slice.result.now c.as_slice-8.result.now c.in_ok-levels.levels c.as_slice-2.result.now c.as_slice-5.result.now c.in_ok-led.led.items c.as_slice-3.result.now c.in_ok-kept.kept c.as_slice-4.result.now c.as_slice-6.result.now c.as_slice-9.result.now
    c.in_ok-ranks.ranks.items c.as_slice-7.result.now c.in_ok-ranges.ranges c.in_ok-flags.flags.items _ c.as_slice.ensures.value c.as_slice-8.ensures.value c.as_slice-2.ensures c.as_slice-5.ensures c.as_slice-3.ensures.value c.as_slice-4.ensures c.as_slice-6.ensures c.as_slice-9.ensures c.as_slice-7.ensures.value
    c.in_ok-returns.ensures.sound c.in_ok-returns.ensures.closed c.requires.tidy c.requires.main c.requires.rising c.in_ok-levels.ensures c.in_ok-led.ensures.led c.in_ok-kept.ensures c.in_ok-ranks.ensures.ranks c.in_ok-ranges.ensures c.in_ok-flags.ensures.marks c.in_ok-flags.ensures.size refl c.from_vec.ensures

pub returns-clause-few : goal.returns-clause-few
returns-clause-few c = fewer c.in_ok-led.led.items c.as_slice-3.result.now c.in_ok-kept.kept c.as_slice-6.result.now c.as_slice-5.result.now c.as_slice-7.result.now c.in_ok-ranges.ranges (length c.args.table.now.ranges) c.as_slice-3.ensures.value c.in_ok-kept.ensures c.as_slice-6.ensures
    (c.in_ok-led.ensures.size ∙ ap (λ ls. length ls) c.as_slice-2.ensures ∙ c.in_ok-levels.ensures.size) c.in_ok-ranges.ensures
