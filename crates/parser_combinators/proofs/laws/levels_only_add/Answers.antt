use Rattle.parser_combinators.proofs.ExampleLevels as levels
use Rattle.parser_combinators.proofs.laws.levels_only_add.Goals as goal

pub returns : goal.returns
returns c = record {
  parens = λ m n h. (levels.sum m n h).goes;
  nesting = λ known before m n h. (levels.orders known m n h before).goes;
}
