use Rattle.std.proofs.Common.{◌≡◌, ◌+◌, ◌-◌, length, get_or, ap, ◌∙◌, arith, inl, inr}
use Rattle.std.proofs.lemmas.Bool.{cases_lt}
use Rattle.std.proofs.lemmas.List.{take_rest, get_or-drop, length-drop}
use Rattle.ref_format.proofs.line.line_end.Goals as goal

pub loop-at-preserved-then-passed-gt0 : goal.loop-at-preserved-then-passed-gt0
loop-at-preserved-then-passed-gt0 c =
    let bytes = c.args.bytes.now in
    let at = c.loop-at.at in
    let rest = take_rest bytes at in
    let lengths = ap length rest in
    let passed = c.without_line_feed-passed.ensures in
    record {
      within = omega (arith, lengths, length-drop at bytes, passed.within);
      before = λ k near is. elim (cases_lt k at) [
        | inl early ↦ c.loop-at.invariant.before k early is
        | inr late ↦
            let place : at + (k - at) ≡ k = omega (arith, late) in
            passed.before (k - at) (omega (arith, near, late)) (ap (λ xs. get_or xs (k - at) 0) rest ∙ get_or-drop at bytes (k - at) 0 ∙ ap (λ j. get_or bytes j 0) place ∙ is)
      ];
    }
