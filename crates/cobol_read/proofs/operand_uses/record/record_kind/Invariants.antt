use Rattle.std.proofs.Common.{◌≡◌, length}
use Rattle.cobol_grammar.specs.Use.{record_kind}
use Rattle.cobol_read.proofs.operand_uses.record.record_kind.Given as goal

abbrev pub invariant-entries : goal.invariant-entries
invariant-entries l = record_kind l.entries l.file ≡ record_kind l.rest l.file

abbrev pub decreases-entries : goal.decreases-entries
decreases-entries l = length l.rest
