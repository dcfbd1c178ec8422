use Rattle.std.proofs.Common.{◌≡◌, ◌+◌, ◌-◌, length, false, true, not, ◌&&◌, get_or, if◌then◌else◌, sym, ap, ◌∙◌}
use Rattle.std.specs.Prelude.{Some}
use Rattle.out_names.specs.Ordering.{is_ready, first_ready}
use Rattle.out_names.proofs.OrderLemmas.{one_looked}
use Rattle.out_names.proofs.ordering.first_ready.Goals as goal

pub loop-at-preserved : goal.loop-at-preserved
loop-at-preserved c =
    let calls = c.args.calls.now in
    let stands = c.args.stands.now in
    let at = c.loop-at.at in
    let unready : is_ready calls stands at ≡ false =
    ap (λ w. not (get_or stands at true) && not w) (sym (c.in_ok-marks.ensures.value at c.loop-at-test.true))
    ∙ ap (λ ms. not (get_or stands at true) && not (get_or ms at false)) (sym c.as_slice.ensures.value)
    ∙ sym c.is_ready-ready.ensures ∙ c.if-ready.false in
    sym (one_looked (length calls) at calls stands c.loop-at-test.true ∙ ap (λ b. if b then Some at else first_ready (length calls - (at + 1)) calls stands (at + 1)) unready)
    ∙ c.loop-at.invariant
