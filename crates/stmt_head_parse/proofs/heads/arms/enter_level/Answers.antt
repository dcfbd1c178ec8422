use Rattle.std.proofs.Common.{◌≡◌, suc, ◌-◌, ap, sym, arith}
use Rattle.cobol_grammar.specs.stmt_forms.Stmt.{enter_level}
use Rattle.stmt_head_parse.proofs.heads.arms.enter_level.Goals as goal

pub returns-then-levels-eq0 : goal.returns-then-levels-eq0
unfolding enter_level
returns-then-levels-eq0 c = let none : c.args.levels ≡ 0 = omega arith in ap (λ n. (enter_level n).reads c.args.cursor.now) none

pub returns-else-levels-eq0 : goal.returns-else-levels-eq0
unfolding enter_level
returns-else-levels-eq0 c =
    let e : suc (c.args.levels - 1) ≡ c.args.levels = omega arith in
    ap (λ n. (enter_level n).reads c.args.cursor.now) (sym e)
