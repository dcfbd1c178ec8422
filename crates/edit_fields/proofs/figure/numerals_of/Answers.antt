use Rattle.std.proofs.Common.{◌%◌, length-set, ◌∙◌, arith}
use Rattle.edit_fields.proofs.FieldLemmas.{all_taken, numeral_put, zeros_on, zeros_taken}
use Rattle.edit_fields.proofs.figure.numerals_of.Goals as goal

pub loop-place-preserved : goal.loop-place-preserved
loop-place-preserved c = record {
  same = numeral_put c.loop-place.numerals _ c.loop-place.place c.loop-place.rest (omega arith) c.loop-place.invariant.full c.loop-place.invariant.same;
  full = length-set c.loop-place.numerals c.loop-place.place (c.loop-place.rest % 10) ∙ c.loop-place.invariant.full;
  zeros = zeros_on c.loop-place.numerals c.loop-place.place (c.loop-place.rest % 10) c.loop-place.invariant.zeros;
}

pub returns-then-rest-eq0 : goal.returns-then-rest-eq0
returns-then-rest-eq0 c = zeros_taken c.loop-place.numerals _ c.loop-place.place c.loop-place.rest c.if-rest-eq0.true c.loop-place.invariant.zeros c.loop-place.invariant.same

pub returns : goal.returns
returns c = all_taken c.loop-place.numerals _ c.loop-place.place c.loop-place.rest (omega arith) c.loop-place.invariant.full c.loop-place.invariant.same
