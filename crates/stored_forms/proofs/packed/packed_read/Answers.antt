use Rattle.std.proofs.Common.{ℕ, ◌<◌, List, length, arith, sym, ◌∙◌}
use Rattle.stored_forms.proofs.PackedLemmas.{read-filled, read-above, read-none, read-some}
use Rattle.stored_forms.proofs.RuleLemmas.{packed-short}
use Rattle.stored_forms.proofs.packed.packed_read.Goals as goal
use Rattle.stored_forms.proofs.packed.packed_read.Goals.{then-not-is_filled-via-then-not-is_filled, then-not-is_filled-via-else-not-is_filled+then-last-gt9}

pub returns-then-not-is_filled-clause-value : goal.returns-then-not-is_filled-clause-value
returns-then-not-is_filled-clause-value c =
    let bytes : List ℕ = c.args.bytes.now in
    let some : 0 < length bytes = omega (arith, c.requires.size) in
    elim c.then-not-is_filled.branch [
      | then-not-is_filled-via-then-not-is_filled w ↦
          let fill = c.is_filled.ensures.no w.if-not-is_filled.true in
          read-filled bytes c.args.digits c.args.signed some fill.0 fill.1
      | then-not-is_filled-via-else-not-is_filled+then-last-gt9 w ↦
          read-above bytes c.args.digits c.args.signed some (c.is_filled.ensures.yes w.if-not-is_filled.false) w.if-last-gt9.true
    ]

pub returns-in_err-front-clause-value : goal.returns-in_err-front-clause-value
returns-in_err-front-clause-value c =
    let bytes : List ℕ = c.args.bytes.now in
    let some : 0 < length bytes = omega (arith, c.requires.size) in
    c.from_residual.ensures
    ∙ read-none bytes c.args.digits c.args.signed some (c.is_filled.ensures.yes c.if-not-is_filled.false) (sym c.in_err-front.ensures.value)

pub returns-clause-value : goal.returns-clause-value
returns-clause-value c =
    let bytes : List ℕ = c.args.bytes.now in
    let some : 0 < length bytes = omega (arith, c.requires.size) in
    c.value_by_sign.ensures
    ∙ read-some bytes c.args.digits c.args.signed c.in_ok-front.front some (c.is_filled.ensures.yes c.if-not-is_filled.false) c.if-last-gt9.false (sym c.in_ok-front.ensures.value)

pub returns-clause-short : goal.returns-clause-short
returns-clause-short c =
    let bytes : List ℕ = c.args.bytes.now in
    let some : 0 < length bytes = omega (arith, c.requires.size) in
    packed-short bytes c.args.digits c.args.signed _ c.requires.size
    (c.value_by_sign.ensures ∙ read-some bytes c.args.digits c.args.signed c.in_ok-front.front some (c.is_filled.ensures.yes c.if-not-is_filled.false) c.if-last-gt9.false (sym c.in_ok-front.ensures.value))
