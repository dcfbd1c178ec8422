-- What is worked out before the receivers, as the code holds it.
use Rattle.std.specs.Prelude.{Ok, Err}
use Rattle.cob_store.specs.Answer.{Answer}
use Rattle.meanings.specs.statements.Arithmetic as sums
use Rattle.cob_act.specs.declared.arithmetic.Basis.{Basis}
use Rattle.cob_act.specs.declared.arithmetic.Basis.TheVariants.{Given, Quotient, Plus, Less, Times, Over}

-- what is worked out, as the meaning has it
abbrev pub seen_basis : Basis → sums.Basis
seen_basis (Given value) = sums.Given value
seen_basis (Quotient dividend divisor) = sums.Quotient dividend divisor
seen_basis (Plus value) = sums.Plus value
seen_basis (Less value) = sums.Less value
seen_basis (Times value) = sums.Times value
seen_basis (Over value) = sums.Over value

-- what is worked out, or the end of the run, as the meaning has it
abbrev pub seen_read : Answer Basis → Answer sums.Basis
seen_read (Ok basis) = Ok (seen_basis basis)
seen_read (Err abend) = Err abend
