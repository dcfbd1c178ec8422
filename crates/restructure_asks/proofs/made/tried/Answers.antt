use Rattle.std.proofs.Common.{◌∙◌, ℕ, List, Some, subst}
use Rattle.restructure_asks.specs.declared.ask.Ask.TheVariants.{Check}
use Rattle.restructure_asks.specs.Answer.{IsMadeFor}
use Rattle.restructure_asks.proofs.MadeLemmas.{trial-made}
use Rattle.restructure_asks.proofs.made.tried.Goals as goal

pub returns : goal.returns
returns c bytes =
    let n = c.args.n in
    let small = c.requires.high in
    let faultless = c.generated_programs_are_faultless.ensures in
    trial-made n (c.generated_programs_read_back.ensures n small)
    (record { within = faultless.few n small; never = faultless.never n }) bytes c.checked.result
    (subst (λ (told : List ℕ). IsMadeFor (Some Check) told c.checked.result)
    (c.as_slice.ensures ∙ c.in_ok-text.ensures) c.checked.ensures)
