use Rattle.std.proofs.Common.{◌≡◌, ◌≤◌, ◌+◌, ◌++◌, drop}
use Rattle.edit_fields.specs.Laws.{printed, printed_from}
use Rattle.cobol_print.proofs.units.picture.add_mask.Given as goal

abbrev pub invariant-loop-byte : goal.invariant-loop-byte
invariant-loop-byte l = record {
  short : l.run ≤ l.byte-index + 1;
  text : l.text ++ printed_from l.symbol l.run (drop l.byte-index l.rest) ≡ l.fn.text ++ printed l.mask;
}
