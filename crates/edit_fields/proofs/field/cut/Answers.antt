use Rattle.std.proofs.Common.{rules, ◌≡◌, ◌^◌, ◌<◌, ℤ, unsigned_abs, to_z, of_z, sym, subst}
use Rattle.std.specs.Int.{w128}
use Rattle.edit_fields.specs.Field.{cut}
use Rattle.edit_fields.proofs.FieldLemmas.{cut_fits}
use Rattle.edit_fields.proofs.field.cut.Goals as goal

pub returns-clause-short : goal.returns-clause-short
returns-clause-short c =
    let same : to_z w128 (of_z w128 c.store.result.value) ≡ cut c.args.value c.args.shape = search rules in
    subst (λ (z : ℤ). unsigned_abs z < 2 ^ 64) (sym same) (cut_fits c.args.value c.args.shape c.requires)
