-- What the tokens before say of the next one.
use Rattle.std.specs.Prelude.{ℕ, Bool, true, false, ◌||◌, not, List, codes, if◌then◌else◌}
use Rattle.cobol_lex.specs.Word.{word_run, spells}
use Rattle.cobol_lex.specs.declared.token.TokenKind.{TokenKind}
use Rattle.cobol_lex.specs.declared.token.TokenKind.TheVariants as kind
use Rattle.cobol_lex.specs.declared.awaits.Awaits.{Awaits}
use Rattle.cobol_lex.specs.declared.awaits.Awaits.TheVariants as awaits

-- a picture comes next: after PIC or PICTURE unless the word IS is there, and after that word
abbrev pub awaits_picture : Awaits → List ℕ → Bool
awaits_picture awaits.Any bytes = false
awaits_picture awaits.PictureOrIs bytes = not (spells (codes "IS") (word_run bytes))
awaits_picture awaits.Picture bytes = true

-- what comes after a token
abbrev pub awaits_behind : Awaits → TokenKind → Awaits
awaits_behind awaits.PictureOrIs (kind.Word word) = awaits.Picture
awaits_behind _ (kind.Word word) =
    if spells (codes "PIC") word || spells (codes "PICTURE") word then awaits.PictureOrIs
    else awaits.Any
awaits_behind _ _ = awaits.Any
