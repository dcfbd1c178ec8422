use Rattle.std.proofs.Common.{◌≡◌, ◌<◌, ◌≤◌, Ok, List, map, length, get_or, set, ap, sym, subst, ◌∙◌, arith}
use Rattle.std.proofs.lemmas.Grind.{common_steps}
use Rattle.std.proofs.lemmas.List.{map-set, length-map}
use Rattle.std.proofs.Math.ListN.{get_or-map}
use Rattle.cob_tree.specs.declared.stmt.Stmt.TheVariants.{Arith, Loop, Read}
use Rattle.cob_tree.specs.Parts.{AreParts}
use Rattle.control_flow_theory.specs.language.Control.{Branch, seen, seen_when, seen_stmts, stmts_of}
use Rattle.control_flow_theory.specs.language.Language as language
use Rattle.statement_builders.specs.arms.Choosing.{IsArith, IsEvaluate, IsOwnLoop, IsRead}
use Rattle.statement_builders.specs.arms.Written.{AreWhensWritten, AreWritten, IsArmWritten, IsWritten, written, written_branch}
use Rattle.body_rendering.specs.own_statements.Writing.{HasPhrases, IsOwnEvaluate, IsOwnIf}
use Rattle.body_rendering.specs.declared.own_statements.writing.Branches.{Branches}
use Rattle.statement_builders.specs.declared.item_words.choices.BothArms.{BothArms}
use Rattle.body_rendering.proofs.own_statements_lemmas.Each.{changed_next, changed_all}
use Rattle.body_rendering.proofs.own_statements_lemmas.OwnRows.{arith_row, if_row, loop_row, read_row}
use Rattle.body_rendering.proofs.own_statements_lemmas.Results.{if_ok, ok_holds}
use Rattle.body_rendering.proofs.own_statements_lemmas.WhenRows.{evaluate_row, stmts_row}
use Rattle.body_rendering.proofs.own_statements.writing.+write.Goals as goal

pub write_each-loop-at-preserved : goal.write_each-loop-at-preserved
write_each-loop-at-preserved t c =
    let at = c.loop-at.at in
    let d = c.index-stmts-at.result in
    let items : List language.Stmt = map (seen 0) c.args.stmts.now in
    let within : at < length items =
    let mapped : length items ≡ length c.args.stmts.now = length-map c.args.stmts.now (seen 0) in
    omega (arith, mapped, c.loop-at-test.true) in
    let still : get_or c.loop-at.stmts at d ≡ get_or c.args.stmts.now at d =
    c.loop-at.invariant.unvisited.1 at d (omega arith) in
    record {
      same = λ way placed.
          map-set (seen 0) c.loop-at.stmts at c.write_in.new.stmt
          ∙ ap (λ l. set l at (seen 0 c.write_in.new.stmt)) (c.loop-at.invariant.same way placed)
          ∙ ap (set _ at) (c.in_ok-write_in.ensures way placed ∙ ap (λ a. written way (seen 0 a)) still
          ∙ ap (written way) (sym (get_or-map (seen 0) c.args.stmts.now at d)))
          ∙ changed_next (written way) items at (seen 0 d) within;
      unvisited = (grind (arith, common_steps), λ k d le. grind (arith, common_steps, c.loop-at.invariant.unvisited.1 k d));
    }

pub write_each-returns : goal.write_each-returns
write_each-returns t c = λ way placed.
    let items : List language.Stmt = map (seen 0) c.args.stmts.now in
    let most : length items ≤ c.loop-at.at =
    let mapped : length items ≡ length c.args.stmts.now = length-map c.args.stmts.now (seen 0) in
    grind (arith, common_steps) in
    ap stmts_of (c.loop-at.invariant.same way placed ∙ changed_all (written way) items c.loop-at.at most)
    ∙ stmts_row way items

pub write_each_when-loop-at-preserved : goal.write_each_when-loop-at-preserved
write_each_when-loop-at-preserved t c =
    let at = c.loop-at.at in
    let d = c.index-whens-at.result in
    let items : List Branch = map (seen_when 0) c.args.whens.now in
    let within : at < length items =
    let mapped : length items ≡ length c.args.whens.now = length-map c.args.whens.now (seen_when 0) in
    omega (arith, mapped, c.loop-at-test.true) in
    let still : get_or c.loop-at.whens at d ≡ get_or c.args.whens.now at d =
    c.loop-at.invariant.unvisited.1 at d (omega arith) in
    record {
      same = λ way placed.
          map-set (seen_when 0) c.loop-at.whens at c.write_when.new.when
          ∙ ap (λ l. set l at (seen_when 0 c.write_when.new.when)) (c.loop-at.invariant.same way placed)
          ∙ ap (set _ at) (c.in_ok-write_when.ensures way placed ∙ ap (λ a. written_branch way (seen_when 0 a)) still
          ∙ ap (written_branch way) (sym (get_or-map (seen_when 0) c.args.whens.now at d)))
          ∙ changed_next (written_branch way) items at (seen_when 0 d) within;
      unvisited = (grind (arith, common_steps), λ k d le. grind (arith, common_steps, c.loop-at.invariant.unvisited.1 k d));
    }

pub write_loop-returns-in-Ok : goal.write_loop-returns-in-Ok
write_loop-returns-in-Ok t c =
    if_ok c.loop_stmt.result (IsOwnLoop c.args.control c.in-Ok.body)
    (IsWritten c.args.places.now (Loop c.args.control c.args.body))
    (λ made h way placed. loop_row way c.args.control c.args.body c.in-Ok.body made h.0 (c.in-Ok.ensures way placed) h.1)
    c.loop_stmt.ensures.own

pub write_phrases-returns-in-Ok : goal.write_phrases-returns-in-Ok
write_phrases-returns-in-Ok t c =
    let first = c.in-Ok.field-0.first in
    let second = c.in-Ok.field-0.second in
    if_ok c.arith_stmt.result (IsArith c.args.calc c.args.into c.has_first-stands.result (seen_stmts 0 first) (seen_stmts 0 second))
    (λ made. HasPhrases c.args.arms → IsWritten c.args.places.now (Arith c.args.calc c.args.into c.args.arms) made)
    (λ made h has way placed. arith_row way c.args.calc c.args.into c.args.arms first second made has
    (c.in-Ok.ensures way placed).first_is (c.in-Ok.ensures way placed).second_is
    (subst (λ stands. IsArith c.args.calc c.args.into stands (seen_stmts 0 first) (seen_stmts 0 second) made) c.has_first-stands.ensures h))
    c.arith_stmt.ensures

pub write_read-returns-in-Ok : goal.write_read-returns-in-Ok
write_read-returns-in-Ok t c =
    let first = c.in-Ok.field-0.first in
    let second = c.in-Ok.field-0.second in
    if_ok c.read_stmt.result (IsRead c.args.file c.args.into c.has_first-stands.result (seen_stmts 0 first) (seen_stmts 0 second))
    (IsWritten c.args.places.now (Read c.args.file c.args.into c.args.arms))
    (λ made h way placed. read_row way c.args.file c.args.into c.args.arms first second made
    (c.in-Ok.ensures way placed).first_is (c.in-Ok.ensures way placed).second_is
    (subst (λ stands. IsRead c.args.file c.args.into stands (seen_stmts 0 first) (seen_stmts 0 second) made) c.has_first-stands.ensures h))
    c.read_stmt.ensures

pub write_stmt-returns-in-If : goal.write_stmt-returns-in-If
write_stmt-returns-in-If t c =
    let places = c.args.places.now in
    let yes = c.in-If.yes in
    let no = c.in-If.no in
    if_ok c.own_if.result (IsOwnIf c.in-If.cond c.pair_of.result) (IsWritten places c.args.stmt)
    (λ made h way placed.
    let pair = h.0 in
    let both = ok_holds c.pair_of.result (λ (p : BothArms). (c.write_stmts-yes.result ≡ Ok p.first) × (c.write_stmts-no.result ≡ Ok p.second)) pair c.pair_of.ensures h.1 in
    let met = ok_holds c.write_stmts-yes.result (AreWritten places yes) pair.first c.write_stmts-yes.ensures both.0 in
    let unmet = ok_holds c.write_stmts-no.result (AreWritten places no) pair.second c.write_stmts-no.ensures both.1 in
    if_row way c.in-If.cond yes pair.first no pair.second made h.2.0 (met way placed) (unmet way placed) h.2.1
    ∙ ap (λ s. written way (seen 0 s)) (sym (subst (AreParts c.args.stmt) c.in-If.is c.into_parts.ensures)))
    c.own_if.ensures

pub write_stmt-returns-in-Evaluate : goal.write_stmt-returns-in-Evaluate
write_stmt-returns-in-Evaluate t c =
    let places = c.args.places.now in
    let whens = c.in-Evaluate.whens in
    let other = c.in-Evaluate.other in
    if_ok c.own_evaluate.result (IsOwnEvaluate c.in-Evaluate.subject c.branches_of.result c.is_some-has_other.result) (IsWritten places c.args.stmt)
    (λ made h way placed.
    let both = h.0 in
    let parts = ok_holds c.branches_of.result (λ (b : Branches). (c.write_whens-whens.result ≡ Ok b.whens) × (c.write_arm-other.result ≡ Ok b.other)) both c.branches_of.ensures h.1 in
    let w = ok_holds c.write_whens-whens.result (AreWhensWritten places whens) both.whens c.write_whens-whens.ensures parts.0 in
    let o = ok_holds c.write_arm-other.result (IsArmWritten places other) both.other c.write_arm-other.ensures parts.1 in
    let is = subst (λ had. IsEvaluate c.in-Evaluate.subject both.whens had (seen_stmts 0 both.other) made) c.is_some-has_other.ensures h.2.1 in
    evaluate_row way c.in-Evaluate.subject whens both.whens other both.other made h.2.0 (w way placed) (o way placed) is
    ∙ ap (λ s. written way (seen 0 s)) (sym (subst (AreParts c.args.stmt) c.in-Evaluate.is c.into_parts.ensures)))
    c.own_evaluate.ensures
