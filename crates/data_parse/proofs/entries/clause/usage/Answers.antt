use Rattle.std.proofs.lemmas.Result.{err_from_is_err_and}
use Rattle.std.specs.Prelude.{codes, Err}
use Rattle.cob_tree.specs.declared.picture.Usage.TheVariants as usages
use Rattle.parser_combinators.specs.Form.{◌>>=◌, pure, where_next}
use Rattle.parser_combinators.specs.Part.{key}
use Rattle.cobol_grammar.specs.data_forms.Clause.{binary, is_binary, is_packed, packed, usage}
use Rattle.data_parse.proofs.entries_lemmas.ChoiceLemmas.{chosen_there, chosen_other, then_err}
use Rattle.data_parse.proofs.entries.clause.usage.Goals as goal

pub returns-in_err-at-2 : goal.returns-in_err-at-2
unfolding usage
returns-in_err-at-2 c =
    let p = err_from_is_err_and c.from_residual-in_err-at-2.result c.from_residual-in_err-at-2.ensures.1 in
    rw (p.1, p.2) (chosen_other is_binary (binary >>= (λ at. pure (usages.Binary, at))) (where_next is_packed (packed >>= (λ at. pure (usages.Packed, at))) (key (codes "DISPLAY") >>= (λ at. pure (usages.Display, at)))) c.sees_binary.result c.args.cursor.now c.packed.new.cursor (Err c.in_err-at-2.field-0.0) c.if-sees_binary.false c.sees_binary.ensures
    (chosen_there is_packed (packed >>= (λ at. pure (usages.Packed, at))) (key (codes "DISPLAY") >>= (λ at. pure (usages.Display, at))) c.sees_packed.result c.args.cursor.now c.packed.new.cursor (Err c.in_err-at-2.field-0.0) c.if-sees_packed.true c.sees_packed.ensures
    (then_err packed (λ at. pure (usages.Packed, at)) c.in_err-at-2.field-0.0 c.args.cursor.now c.packed.new.cursor c.in_err-at-2.ensures)))

pub returns-in_err-at-3 : goal.returns-in_err-at-3
unfolding usage
returns-in_err-at-3 c =
    let p = err_from_is_err_and c.from_residual-in_err-at-3.result c.from_residual-in_err-at-3.ensures.1 in
    rw (p.1, p.2) (chosen_other is_binary (binary >>= (λ at. pure (usages.Binary, at))) (where_next is_packed (packed >>= (λ at. pure (usages.Packed, at))) (key (codes "DISPLAY") >>= (λ at. pure (usages.Display, at)))) c.sees_binary.result c.args.cursor.now c.key.new.self (Err c.in_err-at-3.field-0.0) c.if-sees_binary.false c.sees_binary.ensures
    (chosen_other is_packed (packed >>= (λ at. pure (usages.Packed, at))) (key (codes "DISPLAY") >>= (λ at. pure (usages.Display, at))) c.sees_packed.result c.args.cursor.now c.key.new.self (Err c.in_err-at-3.field-0.0) c.if-sees_packed.false c.sees_packed.ensures
    (then_err (key (codes "DISPLAY")) (λ at. pure (usages.Display, at)) c.in_err-at-3.field-0.0 c.args.cursor.now c.key.new.self c.in_err-at-3.ensures)))
