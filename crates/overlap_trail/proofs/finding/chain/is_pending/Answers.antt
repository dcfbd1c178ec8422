use Rattle.std.proofs.Common.{◌≡◌, true, false, None, get_or, refl, sym, ◌∙◌}
use Rattle.std.proofs.lemmas.Option.{slice_get-get_or}
use Rattle.cob_tree.specs.declared.program.Range.{Range}
use Rattle.pending_returns.proofs.faults_lemmas.Standing.{ends-is, is-ends}
use Rattle.overlap_trail.proofs.finding_lemmas.Standing.{at-in}
use Rattle.overlap_trail.proofs.finding_lemmas.Calling.{ends-more, ends-all}
use Rattle.overlap_trail.proofs.finding.chain.is_pending.Goals as goal

pub returns-then-ends_at : goal.returns-then-ends_at
returns-then-ends_at c =
    let none : Range = record { entry = 0; exit = None } in
    let ranges = c.args.ranges.now in
    let i = c.loop-range.range-index in
    let range = get_or ranges i none in
    let here = slice_get-get_or ranges i none c.loop-range-test.true in (
      λ h. (range, at-in range ranges i here, ends-is range.exit c.args.end (sym c.if-ends_at.ensures)),
      λ h. refl,
    )

pub loop-range-preserved : goal.loop-range-preserved
loop-range-preserved c =
    let none : Range = record { entry = 0; exit = None } in
    let ranges = c.args.ranges.now in
    let i = c.loop-range.range-index in
    let range = get_or ranges i none in
    let here = slice_get-get_or ranges i none c.loop-range-test.true in
    ends-more ranges c.args.end i range here (λ x. (let both : true ≡ false = sym (is-ends range.exit c.args.end x) ∙ sym c.if-ends_at.ensures in let k : ⊥ = cc in k)) c.loop-range.invariant

pub returns : goal.returns
returns c = (
  λ h. absurd (let k : ⊥ = cc in k),
  λ among. absurd (ends-all c.args.ranges.now c.args.end c.loop-range.range-index c.loop-range-test.false c.loop-range.invariant among),
)
