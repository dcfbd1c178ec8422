use Rattle.std.proofs.Common.{◌≡◌, ◌+◌, true, false, Some, take, drop, sym, ap, ◌∙◌, subst, arith}
use Rattle.std.proofs.lemmas.List.{take_rest}
use Rattle.source_pairs.specs.Cut.{IsCut, bar_length}
use Rattle.source_pairs.proofs.CutLemmas.{NoneBefore, cut-here, none-more, uncut-end}
use Rattle.source_pairs.proofs.cut.cut_in_two.Goals as goal
use Rattle.source_pairs.proofs.cut.cut_in_two.Goals.{then-at_line+in_default, else-at_line}

pub returns-in-Some-clause-found : goal.returns-in-Some-clause-found
returns-in-Some-clause-found c =
    let bytes = c.args.bytes.now in
    let at = c.loop-at.at in
    let found : bar_length (drop at bytes) ≡ Some c.in-Some.length = ap bar_length (sym (take_rest bytes at)) ∙ sym c.bar_length.ensures ∙ c.in-Some.is in
    subst (IsCut bytes (take at bytes)) (sym (take_rest bytes (at + c.in-Some.length)))
    (cut-here bytes at c.in-Some.length (omega (arith, c.loop-at-test.true)) (subst (NoneBefore bytes at) c.if-at_line.true c.loop-at.invariant) found)

pub loop-at-preserved : goal.loop-at-preserved
loop-at-preserved c =
    let bytes = c.args.bytes.now in
    let at = c.loop-at.at in
    none-more bytes at c.loop-at.at_line (omega (arith, c.loop-at-test.true)) c.loop-at.invariant (λ line. elim c.if-at_line.branch [
      | then-at_line+in_default w ↦ ap bar_length (sym (take_rest bytes at)) ∙ sym w.bar_length.ensures ∙ w.in_default.is
      | else-at_line w ↦ absurd (let e : true ≡ false = sym line ∙ w.if-at_line.false in cc)
    ])

pub returns-clause-none : goal.returns-clause-none
returns-clause-none c =
    uncut-end c.args.bytes.now c.loop-at.at_line (subst (λ n. NoneBefore c.args.bytes.now n c.loop-at.at_line) (omega (arith, c.loop-at-test.false, c.loop-at.auto.at-end)) c.loop-at.invariant)
