use Rattle.std.proofs.Common.{◌≡◌, ◌++◌, drop}
use Rattle.edit_fields.specs.Reading.{written_from, written_out}
use Rattle.edit_fields.proofs.symbols.written_out.Given as goal

abbrev pub invariant-loop-place : goal.invariant-loop-place
invariant-loop-place l = written_out l.text ≡ l.symbols ++ written_from l.count l.last (drop l.place l.text)
