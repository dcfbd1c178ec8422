use Rattle.std.proofs.Common.{◌≡◌, ◌∙◌, true, false}
use Rattle.unparser.proofs.TokenLemmas.{reserved-folded, reserved-is_word}
use Rattle.unparser.proofs.token.reserved_word.Goals as goal

pub unreachable-requires : goal.unreachable-requires
unreachable-requires c =
    let none : false ≡ true = c.in-None.ensures.whole.1 (reserved-is_word c.args.text.now c.requires) in
    absurd (cc)

pub returns : goal.returns
returns c = c.in-Some.ensures.value ∙ reserved-folded c.args.text.now c.requires
