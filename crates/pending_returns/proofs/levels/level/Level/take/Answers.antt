use Rattle.std.proofs.Common.{ℕ, List, subst}
use Rattle.pending_returns.specs.levels.Reach.{Holds, GathersAllCalls, GathersAllEnds}
use Rattle.pending_returns.proofs.levels_lemmas.Marking.{on-ok, ok-any}
use Rattle.pending_returns.proofs.levels_lemmas.Searching.{comes-below}
use Rattle.pending_returns.proofs.levels.level.Level.take.Goals as goal

pub calls_of-requires-clause-places : goal.calls_of-requires-clause-places
calls_of-requires-clause-places c = λ place h.
    comes-below c.args.table.now c.args.returns.now c.args.range c.requires.tidy place
    (c.in_ok-reached.ensures.reach.0 place (subst (λ (ps : List ℕ). Holds ps place) c.as_slice.ensures.value h))

pub ends_of-requires-clause-places : goal.ends_of-requires-clause-places
ends_of-requires-clause-places c = λ place h.
    comes-below c.args.table.now c.args.returns.now c.args.range c.requires.tidy place
    (c.in_ok-reached.ensures.reach.0 place (subst (λ (ps : List ℕ). Holds ps place) c.as_slice-2.ensures.value h))

pub returns-clause-calls : goal.returns-clause-calls
returns-clause-calls c =
    let calls = c.calls_of.new.calls.places.items in
    let places = c.reached.new.reach.places.items in
    ok-any c.ends_of.result (GathersAllCalls c.args.table.now places calls)
    (subst (λ (ps : List ℕ). GathersAllCalls c.args.table.now ps calls) c.as_slice.ensures.value c.in_ok-calls_of.ensures.calls)

pub returns-clause-ends : goal.returns-clause-ends
returns-clause-ends c =
    let ends = c.ends_of.new.ends.places.items in
    let places = c.reached.new.reach.places.items in
    on-ok c.ends_of.result (GathersAllEnds c.args.table.now c.args.range c.as_slice-2.result.now ends) (GathersAllEnds c.args.table.now c.args.range places ends)
    (λ h. subst (λ (ps : List ℕ). GathersAllEnds c.args.table.now c.args.range ps ends) c.as_slice-2.ensures.value h) c.ends_of.ensures.ends
