-- Words and literals take no period.
use Rattle.std.proofs.Common.{refl}
use Rattle.grammar_laws.proofs.no_periods_lemmas.Makers.{pure, refuse, word, digits, decimal, valued, where_next, ◌>>=◌}
use Rattle.grammar_laws.proofs.no_periods_lemmas.Makers as makers
use Rattle.parser_combinators.specs.words.Word as words
use Rattle.parser_combinators.specs.words.Constant as constants
use Rattle.grammar_laws.specs.no_periods.Plain.{Plain}

pub name : Plain words.name
unfolding words.name
name = where_next word refuse

pub user_word : Plain words.user_word
unfolding words.user_word
user_word = where_next word refuse

pub text_or_figure : Plain constants.text_or_figure
unfolding constants.text_or_figure constants.text constants.figure
text_or_figure = where_next (makers.literal >>= (λ found. pure)) (valued constants.figure_of refl >>= (λ found. pure))

pub literal : Plain constants.literal
unfolding constants.literal constants.whole_number constants.other_number
literal = where_next (digits >>= (λ found. pure)) (where_next (decimal >>= (λ found. pure)) text_or_figure)
