use Rattle.std.proofs.Common.{◌≡◌, ◌+◌, ◌-◌, true, if◌then◌else◌, sym, ap, ◌∙◌}
use Rattle.out_names.specs.FreshWords.{is_taken, first_free}
use Rattle.out_names.proofs.FreshLemmas.{one_tried}
use Rattle.out_names.proofs.fresh_words.fresh_number.Goals as goal

pub loop-number-preserved : goal.loop-number-preserved
loop-number-preserved c =
    let words = c.args.words.now in
    let stem = c.args.stem.now in
    let end = c.args.from + c.len.result in
    let n = c.loop-number.number in
    let taken : is_taken words stem n ≡ true = sym c.in_ok-taken.ensures ∙ c.if-not-taken.false in
    sym (one_tried end n words stem c.loop-number-test.true ∙ ap (λ b. if b then first_free (end - (n + 1)) words stem (n + 1) else n) taken)
    ∙ c.loop-number.invariant
