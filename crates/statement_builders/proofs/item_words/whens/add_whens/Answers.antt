use Rattle.std.proofs.Common.{◌≡◌, ◌≤◌, ◌++◌, List, length, map, get_or, ap, sym, subst, ◌∙◌, arith}
use Rattle.std.proofs.lemmas.Grind.{common_steps}
use Rattle.std.proofs.lemmas.List.{length-map}
use Rattle.control_flow_theory.specs.language.Language.{Stmts}
use Rattle.control_flow_theory.specs.language.Control.{seen_stmts, seen_when}
use Rattle.statement_builders.proofs.item_words_lemmas.ListRows.{branches_all, whens_next}
use Rattle.statement_builders.proofs.item_words.whens.add_whens.Goals as goal

pub loop-at-preserved : goal.loop-at-preserved
loop-at-preserved c =
    let at = c.loop-at.at in
    let arms = c.args.arms.now in
    let was = c.index-arms-at.result in
    let stmts = c.replace-stmts.result in
    let same : get_or arms at was ≡ was = sym (c.loop-at.invariant.unvisited at was (omega arith)) ∙ sym c.index-arms-at.is in
    let alike : get_or arms at stmts ≡ stmts = subst (λ s. get_or arms at s ≡ s) (sym (c.replace-stmts.ensures.value ∙ sym c.index-arms-at.is)) same in
    record {
      same =
          whens_next c.args.tests.now arms (map (seen_when 0) c.args.whens.now) at c.loop-at.whens c.push.new.self c.in_ok-when_of.field-0 c.index-tests-at.result stmts
          (omega (arith, c.loop-at-test.true)) (omega (arith, c.loop-at-test.true)) (sym c.index-tests-at.is) alike c.in_ok-push.ensures.ok c.in_ok-when_of.ensures c.loop-at.invariant.same;
      many = grind (arith, common_steps);
      unvisited = λ k d le. grind (arith, common_steps, c.loop-at.invariant.unvisited k d);
    }

pub returns : goal.returns
returns c =
    let lists : List Stmts = map (seen_stmts 0) c.args.arms.now in
    let most : length lists ≤ c.loop-at.at =
    let mapped : length lists ≡ length c.args.arms.now = length-map c.args.arms.now (seen_stmts 0) in
    omega (arith, mapped, c.loop-at-test.false) in
    c.loop-at.invariant.same ∙ ap (λ l. map (seen_when 0) c.args.whens.now ++ l) (branches_all c.args.tests.now lists c.loop-at.at most)
