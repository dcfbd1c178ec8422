use Rattle.std.proofs.Common.{◌≡◌, [], ◌∷◌, ◌++◌}
use Rattle.std.specs.Prelude.{codes, OnOk}
use Rattle.std.proofs.lemmas.List.{append_assoc}
use Rattle.cobol_lex.specs.declared.token.TokenKind.TheVariants as kind
use Rattle.unparser.specs.Token.{Tokens}
use Rattle.unparser.specs.File.{labels_tokens}
use Rattle.unparser.specs.Place.{place_tokens}
use Rattle.unparser.proofs.TokenLemmas.{added_on, joined_on}
use Rattle.unparser.proofs.token.Tokens.go_depending.Goals as goal

go_to : Tokens
go_to = kind.Word (codes "GO") ∷ kind.Word (codes "TO") ∷ []

pub returns : goal.returns
unfolding go_to
returns c =
    let old : Tokens = c.args.self.now in
    let labels : Tokens = labels_tokens c.args.program.now c.args.to.now in
    let depending : Tokens = kind.Word (codes "DEPENDING") ∷ kind.Word (codes "ON") ∷ [] in
    let first : c.labels.new.self ≡ old ++ (go_to ++ labels) =
    joined_on old c.two_words.new.self c.labels.new.self go_to labels c.in_ok-two_words.ensures c.in_ok-labels.ensures in
    let second : c.two_words-2.new.self ≡ old ++ ((go_to ++ labels) ++ depending) =
    joined_on old c.labels.new.self c.two_words-2.new.self (go_to ++ labels) depending first c.in_ok-two_words-2.ensures in
    let third : OnOk c.place.result (c.place.new.self ≡ old ++ (((go_to ++ labels) ++ depending) ++ place_tokens c.args.program.now c.args.on.now)) =
    added_on c.place.result old c.two_words-2.new.self c.place.new.self ((go_to ++ labels) ++ depending) (place_tokens c.args.program.now c.args.on.now) second c.place.ensures in
    simp append_assoc at third
