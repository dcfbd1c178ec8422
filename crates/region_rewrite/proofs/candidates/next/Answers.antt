use Rattle.std.proofs.Common.{sym, ◌∙◌, rules}
use Rattle.graph_rewriting.specs.Helds.{seen_work}
use Rattle.region_rewrite.specs.Rules.{applies}
use Rattle.region_rewrite.proofs.SetRows.{all_but, all_left, none_below, none_applies}
use Rattle.region_rewrite.proofs.candidates.next.Goals as goal

pub returns-then-applies : goal.returns-then-applies
returns-then-applies c =
    let applies_on = applies c.args.rule (seen_work c.args.work.now) in
    let label = c.in-Some.label in (
      sym c.applies.ensures ∙ c.if-applies.true,
      none_below applies_on c.loop-label.labels c.pop_first.new.self label c.in-Some.ensures.updates c.loop-label.invariant c.in-Some.ensures.least,
      all_but applies_on c.loop-label.labels c.pop_first.new.self label c.in-Some.ensures.updates c.loop-label.invariant,
    )

pub loop-label-preserved : goal.loop-label-preserved
loop-label-preserved c =
    all_left (applies c.args.rule (seen_work c.args.work.now)) c.loop-label.labels c.pop_first.new.self c.in-Some.label
    c.in-Some.ensures.updates c.loop-label.invariant (sym c.applies.ensures ∙ c.if-applies.false)

pub returns : goal.returns
returns c =
    none_applies (applies c.args.rule (seen_work c.args.work.now)) c.loop-label.labels c.loop-label.invariant (search rules)
