use Rattle.std.proofs.Common.{◌≡◌, length, sym, ap, ◌∙◌, arith}
use Rattle.picture_data.specs.Edited.{first_plain, is_plain_symbol}
use Rattle.picture_data.proofs.EditedLemmas.{plain_ends, plain_here, plain_on}
use Rattle.picture_data.proofs.edited.first_plain.Goals as goal

pub returns-then-is_plain_symbol : goal.returns-then-is_plain_symbol
returns-then-is_plain_symbol c =
    plain_here c.args.text.now c.loop-before.before (first_plain 0 c.args.text.now) c.loop-before-test.true (ap is_plain_symbol (sym c.to_ascii_uppercase.ensures.value) ∙ sym c.is_plain_symbol.ensures ∙ c.if-is_plain_symbol.true) c.loop-before.invariant

pub loop-before-preserved : goal.loop-before-preserved
loop-before-preserved c =
    plain_on c.args.text.now c.loop-before.before (first_plain 0 c.args.text.now) c.loop-before-test.true (ap is_plain_symbol (sym c.to_ascii_uppercase.ensures.value) ∙ sym c.is_plain_symbol.ensures ∙ c.if-is_plain_symbol.false) c.loop-before.invariant

pub returns : goal.returns
returns c =
    let at_end : c.loop-before.before ≡ length c.args.text.now = omega arith in
    plain_ends c.args.text.now c.loop-before.before (first_plain 0 c.args.text.now) at_end c.loop-before.invariant
