use Rattle.std.proofs.Common.{ℤ, ap, ◌∙◌}
use Rattle.std.specs.Option.{option_and_then}
use Rattle.cob_num.specs.Exact.{decimal}
use Rattle.cob_store.specs.Place.{signed_by}
use Rattle.cob_store.proofs.Signed.{read}
use Rattle.cob_store.proofs.place.literal_value.Goals as goal

pub returns : goal.returns
returns c =
    c.new.ensures
    ∙ ap (λ (z : ℤ). decimal z c.args.number.now.scale) (read _ c.signed_by.ensures.short ∙ c.signed_by.ensures.value)
    ∙ ap (option_and_then (λ n. decimal (signed_by c.args.number.now.negative n) c.args.number.now.scale)) c.in_ok-digits.ensures
