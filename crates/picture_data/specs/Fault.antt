-- Why a text is no picture.
use Rattle.std.specs.Prelude.{ℕ}
use Rattle.picture_data.specs.declared.fault.PictureFault.{PictureFault}
use Rattle.picture_data.specs.declared.fault.PictureFault.TheVariants as faults
use Rattle.picture_data.specs.declared.fault.Flaw.{Flaw}
use Rattle.picture_data.specs.declared.fault.Flaw.TheVariants as flaws

-- the fault of the byte at this position, from 1
abbrev pub fault_at : Flaw → ℕ → PictureFault
fault_at flaws.Symbol byte = faults.BadSymbol byte
fault_at flaws.Order byte = faults.BadOrder byte
fault_at flaws.Digits byte = faults.TooManyDigits byte
