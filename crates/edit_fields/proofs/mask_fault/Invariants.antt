use Rattle.std.proofs.Common.{◌≡◌, Ok, drop}
use Rattle.edit_fields.specs.Reading.{fault_from, mask_fault_of}
use Rattle.edit_fields.proofs.mask_fault.Given as goal

abbrev pub invariant-loop-before : goal.invariant-loop-before
invariant-loop-before l = mask_fault_of l.text ≡ fault_from l.before (Ok l.reading) (drop l.before l.text)
