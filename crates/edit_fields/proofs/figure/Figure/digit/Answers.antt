use Rattle.std.proofs.Common.{◌≡◌, ◌^◌, ◌<◌, ◌≤◌, Some, None, slice_get, sym, ap, ◌∙◌, subst, arith}
use Rattle.edit_fields.specs.declared.field.Field.{Field}
use Rattle.edit_fields.specs.Field.{digit_of, numerals}
use Rattle.edit_fields.proofs.FieldLemmas.{none_behind, numeral_at, one_numeral}
use Rattle.edit_fields.proofs.figure.Figure.digit.Goals as goal

pub returns-in-None-clause-digit : goal.returns-in-None-clause-digit
returns-in-None-clause-digit c =
    let number = c.self.inside.field.number in
    let none : slice_get (numerals 20 number) c.args.right ≡ None = cc (c.numeral_at.ensures, c.in-None.is, c.self.invariant.digits) in
    let low : number < 10 ^ 20 = omega (arith, c.self.invariant.short) in
    sym (none_behind 20 c.args.right number none low) ∙ ap (λ (f : Field). digit_of c.args.right f.number) c.self.view_is

pub returns-in-Some-clause-digit : goal.returns-in-Some-clause-digit
returns-in-Some-clause-digit c =
    let number = c.self.inside.field.number in
    let some : slice_get (numerals 20 number) c.args.right ≡ Some c.in-Some.numeral = cc (c.numeral_at.ensures, c.in-Some.is, c.self.invariant.digits) in
    numeral_at 20 c.args.right number c.in-Some.numeral some ∙ ap (λ (f : Field). digit_of c.args.right f.number) c.self.view_is

pub returns-in-Some-clause-short : goal.returns-in-Some-clause-short
returns-in-Some-clause-short c =
    let number = c.self.inside.field.number in
    let some : slice_get (numerals 20 number) c.args.right ≡ Some c.in-Some.numeral = cc (c.numeral_at.ensures, c.in-Some.is, c.self.invariant.digits) in
    subst (λ n. n ≤ 9) (sym (numeral_at 20 c.args.right number c.in-Some.numeral some)) (one_numeral c.args.right number)
