use Rattle.std.proofs.lemmas.Result.{err_from_is_err_and}
use Rattle.std.specs.Prelude.{codes, Some, None, Err}
use Rattle.parser_combinators.specs.Form.{◌>>◌, ◌>>=◌, pure, where_next}
use Rattle.parser_combinators.specs.Part.{key, is_key}
use Rattle.parser_combinators.specs.words.Word.{name, is_name}
use Rattle.cobol_grammar.specs.data_forms.Entry as entries
use Rattle.data_parse.proofs.entries_lemmas.ChoiceLemmas.{chosen_there, chosen_other, then_err}
use Rattle.data_parse.proofs.entries.description.entry_name.Goals as goal

pub returns-in_err-word : goal.returns-in_err-word
unfolding entries.entry_name
returns-in_err-word c =
    let p = err_from_is_err_and c.from_residual-in_err-word.result c.from_residual-in_err-word.ensures.1 in
    rw (p.1, p.2) (chosen_other (is_key (codes "FILLER")) (key (codes "FILLER") >> pure None) (where_next is_name (name >>= (λ found. pure (Some found.0))) (pure None)) c.sees.result c.args.cursor.now c.name.new.cursor (Err c.in_err-word.field-0.0) c.if-sees.false c.sees.ensures
    (chosen_there is_name (name >>= (λ found. pure (Some found.0))) (pure None) c.sees_name.result c.args.cursor.now c.name.new.cursor (Err c.in_err-word.field-0.0) c.if-sees_name.true c.sees_name.ensures
    (then_err name (λ found. pure (Some found.0)) c.in_err-word.field-0.0 c.args.cursor.now c.name.new.cursor c.in_err-word.ensures)))
