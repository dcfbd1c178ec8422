use Rattle.std.proofs.Common.{length, get_or, refl, sym}
use Rattle.std.proofs.lemmas.Option.{slice_get-get_or, slice_get_read}
use Rattle.pending_returns.proofs.faults_lemmas.Standing.{ends-is, ends-more, ends-all}
use Rattle.pending_returns.proofs.faults.fault.ends_one.Goals as goal

pub bounds-levels-number : goal.bounds-levels-number
bounds-levels-number c =
    let i = c.loop-number.number-index in
    c.requires (get_or c.args.numbers.now i 0) (i, slice_get-get_or c.args.numbers.now i 0 c.loop-number-test.true)

pub returns-then-ends_at : goal.returns-then-ends_at
returns-then-ends_at c =
    let i = c.loop-number.number-index in
    let n = get_or c.args.numbers.now i 0 in
    let here = slice_get-get_or c.args.numbers.now i 0 c.loop-number-test.true in
    let facts = c.index-levels-number.result in
    let level = slice_get_read c.args.levels.now (length c.args.levels.now) n facts refl (c.requires n (i, here)) c.index-levels-number.is in (
      λ h. (n, facts, (i, here), level, ends-is facts.range.exit c.args.end (sym c.if-ends_at.ensures)),
      λ h. refl,
    )

pub loop-number-preserved : goal.loop-number-preserved
loop-number-preserved c =
    let i = c.loop-number.number-index in
    let n = get_or c.args.numbers.now i 0 in
    let here = slice_get-get_or c.args.numbers.now i 0 c.loop-number-test.true in
    let facts = c.index-levels-number.result in
    let level = slice_get_read c.args.levels.now (length c.args.levels.now) n facts refl (c.requires n (i, here)) c.index-levels-number.is in
    ends-more c.args.levels.now c.args.numbers.now c.args.end i n facts here level (sym c.if-ends_at.ensures) c.loop-number.invariant

pub returns : goal.returns
returns c = (
  λ h. absurd (let k : ⊥ = cc in k),
  λ one. absurd (ends-all c.args.levels.now c.args.numbers.now c.args.end c.loop-number.number-index c.loop-number-test.false c.loop-number.invariant one),
)
