use Rattle.std.proofs.Common.{◌≡◌, ◌-◌, ◌++◌, length, take, drop, replicate}
use Rattle.edit_fields.specs.Field.{numerals}
use Rattle.edit_fields.proofs.figure.numerals_of.Given as goal

abbrev pub invariant-loop-place : goal.invariant-loop-place
invariant-loop-place l = record {
  same : numerals 20 l.fn.number ≡ take l.place l.numerals ++ numerals (20 - l.place) l.rest;
  full : length l.numerals ≡ 20;
  zeros : drop l.place l.numerals ≡ replicate (20 - l.place) 0;
}
