use Rattle.round_trip.specs.printable.printable_tokens.Printable.{IsPrintable}
use Rattle.round_trip.proofs.procedures_lemmas.readable_exprs_lemmas.Named.{finds_by}
use Rattle.round_trip.proofs.procedures_lemmas.readable_exprs_lemmas.Ends as ends
use Rattle.round_trip.proofs.procedures_lemmas.readable_exprs_lemmas.Expressions as expressions
use Rattle.round_trip.proofs.procedures_lemmas.readable_exprs_lemmas.Conditions as conditions
use Rattle.round_trip.proofs.procedures.readable_exprs.expressions_are_readable.Goals as goal

pub returns : goal.returns
returns c names program e =
    let finds = finds_by names program e in
    record {
      reference = expressions.data_reference IsPrintable names program finds;
      reference_behind = λ first position. expressions.data_reference_behind IsPrintable names program finds first position;
      digits_side = λ digits position. ends.readable-digits names program digits position;
      operand = expressions.data_operand IsPrintable names program finds;
      expr = expressions.whole_expr IsPrintable names program finds;
      cond = conditions.whole_cond IsPrintable names program finds;
    }
