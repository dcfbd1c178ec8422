use Rattle.std.proofs.Common.{◌≡◌, ◌-◌, ◌≤◌, ◌++◌, take, drop, replicate}
use Rattle.ref_format.specs.Column.{card_of, untabbed}
use Rattle.ref_format.proofs.column.tabbed_card.Given as goal

abbrev pub invariant-loop-byte : goal.invariant-loop-byte
invariant-loop-byte l = record {
  within : l.before ≤ 72;
  rest : drop l.before l.card ≡ replicate (72 - l.before) 32;
  done : take l.before l.card ++ take (72 - l.before) (untabbed l.before (drop l.byte-index l.line) ++ replicate 72 32) ≡ card_of l.line;
}
