use Rattle.std.proofs.Common.{rules, ◌≡◌, ap, ◌∙◌, to_z, of_z, ℤ}
use Rattle.std.specs.Int.{w128}
use Rattle.cob_num.specs.Exact.{decimal}
use Rattle.edit_fields.specs.declared.field.Digits.{Digits}
use Rattle.cob_act.proofs.arithmetic.shown_number.Goals as goal

pub returns : goal.returns
returns c =
    let same : to_z w128 (of_z w128 c.args.stored.value) ≡ c.args.stored.value = search rules in
    c.new.ensures
    ∙ ap (λ (z : ℤ). decimal z c.digits.result.part) same
    ∙ ap (λ (d : Digits). decimal c.args.stored.value d.part) c.digits.ensures.digits
