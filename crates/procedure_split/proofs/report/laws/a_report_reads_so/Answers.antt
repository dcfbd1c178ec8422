use Rattle.std.proofs.Common.{refl, arith}
use Rattle.std.proofs.lemmas.Fmt.{decimal_digit}
use Rattle.procedure_split.specs.report.Laws.{HelloIsTold}
use Rattle.procedure_split.proofs.report.laws.a_report_reads_so.Goals as goal

told : HelloIsTold
told = simp (decimal_digit 0 (omega arith), decimal_digit 1 (omega arith), decimal_digit 2 (omega arith), decimal_digit 3 (omega arith), decimal_digit 4 (omega arith), decimal_digit 5 (omega arith)) refl

pub returns : goal.returns
returns c = told
