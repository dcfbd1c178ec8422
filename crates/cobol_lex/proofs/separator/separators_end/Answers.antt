use Rattle.std.proofs.Common.{◌≡◌, ◌==◌, ◌+◌, ◌-◌, true, length, get_or, sym, ap, ◌∙◌, arith, inl, inr}
use Rattle.std.proofs.lemmas.Bool.{cases_lt}
use Rattle.std.proofs.lemmas.List.{take_rest, get_or-drop, length-drop}
use Rattle.cobol_lex.proofs.separator.separators_end.Goals as goal

pub loop-end-preserved-then-passed-gt0 : goal.loop-end-preserved-then-passed-gt0
loop-end-preserved-then-passed-gt0 c =
    let bytes = c.args.bytes.now in
    let end = c.loop-end.end in
    let rest = take_rest bytes end in
    let lengths = ap length rest in
    let passed = c.spaces-passed.ensures in
    record {
      further = omega (arith, c.loop-end.invariant.further);
      within = omega (arith, lengths, length-drop end bytes, passed.within);
      separators = λ k behind near. elim (cases_lt k end) [
        | inl early ↦ c.loop-end.invariant.separators k behind early
        | inr late ↦
            let place : end + (k - end) ≡ k = omega (arith, late) in
            let here = ap (λ xs. get_or xs (k - end) 0) rest ∙ get_or-drop end bytes (k - end) 0 ∙ ap (λ j. get_or bytes j 0) place in
            let space : (get_or bytes k 0 == 32) ≡ true = ap (λ b. b == 32) (sym here) ∙ passed.spaces (k - end) (omega (arith, near, late)) in
            rw space
      ];
    }
