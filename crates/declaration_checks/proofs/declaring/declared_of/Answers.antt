use Rattle.std.proofs.Common.{refl}
use Rattle.declaration_checks.proofs.declaring.declared_of.Goals as goal

pub returns : goal.returns
returns c = rw (c.in_ok-files.ensures, c.as_slice-selects.ensures, c.fault_by-fault.ensures, c.as_slice-6.ensures, c.as_slice-7.ensures, c.in_ok-sizes.ensures, c.as_slice-5.ensures, c.in_ok-entries.ensures, c.as_slice-4.ensures, c.in_ok-tables.ensures, c.as_slice-2.ensures, c.as_slice-3.ensures, c.in_ok-bases.ensures.value, c.in_ok-owns.ensures) refl
