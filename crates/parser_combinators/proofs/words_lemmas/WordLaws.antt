-- The forms of words and literals are lawful.
use Rattle.std.proofs.Common.{true}
use Rattle.parser_combinators.proofs.MakerLaws.{Law, pure, refuse, word, digits, decimal, valued, where_next, ◌>>=◌}
use Rattle.parser_combinators.proofs.MakerLaws as makers
use Rattle.parser_combinators.specs.words.Word as words
use Rattle.parser_combinators.specs.words.Constant as constants

pub name : Law true words.name
unfolding words.name
name = where_next word refuse

pub user_word : Law true words.user_word
unfolding words.user_word
user_word = where_next word refuse

pub text_or_figure : Law true constants.text_or_figure
unfolding constants.text_or_figure constants.text constants.figure
text_or_figure = where_next (makers.literal >>= (λ found. pure)) (valued constants.figure_of >>= (λ found. pure))

pub literal : Law true constants.literal
unfolding constants.literal constants.whole_number constants.other_number
literal = where_next (digits >>= (λ found. pure)) (where_next (decimal >>= (λ found. pure)) text_or_figure)
