use Rattle.std.proofs.Common.{[], ◌∷◌, ◌++◌}
use Rattle.std.specs.Prelude.{codes}
use Rattle.cobol_lex.specs.declared.token.TokenKind.TheVariants as kind
use Rattle.unparser.specs.Token.{Tokens}
use Rattle.cobol_print.proofs.units_lemmas.UnitLemmas.{joined_on, added_on}
use Rattle.cobol_print.proofs.units.division.add_select.Goals as goal

pub returns : goal.returns
returns c =
    let old : Tokens = c.args.tokens.now in
    let select : Tokens = kind.Word (codes "SELECT") ∷ [] in
    let name : Tokens = kind.Word c.args.file.now.name ∷ [] in
    let assign : Tokens = kind.Word (codes "ASSIGN") ∷ kind.Word (codes "TO") ∷ [] in
    added_on c.literal.result old c.two_words.new.self c.literal.new.self (select ++ name ++ assign)
    (kind.Literal c.args.file.now.assign ∷ [])
    (joined_on old c.name.new.self c.two_words.new.self (select ++ name) assign
    (joined_on old c.word.new.self c.name.new.self select name c.in_ok-word.ensures c.in_ok-name.ensures)
    c.in_ok-two_words.ensures)
    c.literal.ensures
