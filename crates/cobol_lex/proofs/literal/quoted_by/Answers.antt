use Rattle.std.proofs.Common.{sym, ap, ◌∙◌, ◌≡◌, ◌++◌, ◌∷◌, [], get_or, arith}
use Rattle.cobol_lex.proofs.LiteralLemmas.{on_doubled, on_other, line_ends}
use Rattle.cobol_lex.proofs.literal.quoted_by.Goals as goal
use Rattle.cobol_lex.proofs.literal.quoted_by.Goals.{then-b-mark+else-at-rest+else-rest-at, else-b-mark+else-b-eq10}

pub returns-then-b-eq10 : goal.returns-then-b-eq10
returns-then-b-eq10 c =
    sym (line_ends c.args.mark c.args.rest.now c.loop-at.value c.loop-at.at c.loop-at-test.true c.if-b-mark.false c.if-b-eq10.true) ∙ c.loop-at.invariant

pub loop-at-preserved : goal.loop-at-preserved
loop-at-preserved c =
    let bytes = c.args.rest.now in
    let at = c.loop-at.at in
    let pushed : c.push.new.self.items ≡ c.loop-at.value ++ get_or bytes at 0 ∷ [] = c.in_ok-push.ensures.items ∙ ap (λ v. v ++ get_or bytes at 0 ∷ []) c.value-in-loop-at.view_is in
    elim c.if-b-mark.branch [
      | then-b-mark+else-at-rest+else-rest-at w ↦ on_doubled c.args.mark bytes c.loop-at.value _ at _ _ c.loop-at.invariant pushed w.at-is (omega arith) w.if-b-mark.true w.if-rest-at.false
      | else-b-mark+else-b-eq10 w ↦ on_other c.args.mark bytes c.loop-at.value _ at _ _ c.loop-at.invariant pushed w.at-is c.loop-at-test.true w.if-b-mark.false w.if-b-eq10.false
    ]
