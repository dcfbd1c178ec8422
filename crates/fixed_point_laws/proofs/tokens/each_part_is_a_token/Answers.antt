use Rattle.fixed_point_laws.proofs.TokenLemmas.{each-part}
use Rattle.fixed_point_laws.proofs.tokens.each_part_is_a_token.Goals as goal

pub returns : goal.returns
returns c = each-part
