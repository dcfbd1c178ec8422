use Rattle.std.specs.Prelude.{codes}
use Rattle.parser_combinators.specs.Form.{◌>>◌}
use Rattle.parser_combinators.specs.Part.{key, maybe, is_key}
use Rattle.cobol_grammar.specs.data_forms.Environment as environments
use Rattle.data_parse.proofs.entries_lemmas.ChoiceLemmas.{chosen_other}
use Rattle.data_parse.proofs.file_control.organization.Goals as goal

pub returns-else-sees : goal.returns-else-sees
unfolding environments.organization
returns-else-sees c = chosen_other (is_key (codes "ORGANIZATION")) (key (codes "ORGANIZATION") >> maybe (codes "IS") >> key (codes "SEQUENTIAL")) (key (codes "SEQUENTIAL")) c.sees.result c.args.cursor.now c.key-else-sees.new.self c.key-else-sees.result c.if-sees.false c.sees.ensures c.key-else-sees.ensures
