-- What holds of the forms of words and literals.
use Rattle.parser_combinators.specs.Reading.{IsReader}
use Rattle.parser_combinators.specs.words.Word.{name, user_word}
use Rattle.parser_combinators.specs.words.Constant.{literal}

-- each reads what it spells and nothing else
pub record WordsAreRead : Type 0 where
  pub names : IsReader name
  pub words : IsReader user_word
  pub literals : IsReader literal
