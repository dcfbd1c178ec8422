-- Tokens with single spaces between them are read back.
use Rattle.std.proofs.Common.{inr, ℕ, ◌≡◌, ◌<◌, ◌-◌, suc, true, false, List, [], ◌∷◌, ◌++◌, map, length, slice_index, ap, ◌∙◌, arith, refl}
use Rattle.std.specs.Prelude.{Ok}
use Rattle.ref_format.specs.Placed.{bytes_of}
use Rattle.cobol_lex.specs.Byte.{is_separator}
use Rattle.cobol_lex.specs.Awaits.{awaits_behind}
use Rattle.cobol_lex.specs.Lexeme.{next_lexeme}
use Rattle.cobol_lex.specs.Token.{tokens_from}
use Rattle.cobol_lex.specs.Written.{SignCounts, written, AreLawful, runs_on, ends_picture_run, placed_on, written_text}
use Rattle.cobol_lex.specs.Laid.{Ends}
use Rattle.cobol_lex.specs.Laws.{TextReadsBack}
use Rattle.ref_format.specs.declared.placed.Placed.{Placed}
use Rattle.cobol_lex.specs.declared.token.Token.{Token}
use Rattle.cobol_lex.specs.declared.awaits.Awaits.{Awaits}
use Rattle.cobol_lex.specs.declared.awaits.Awaits.TheVariants as awaits
use Rattle.cobol_lex.proofs.LexemeLengthLemmas.{takes_next}
use Rattle.cobol_lex.specs.declared.token.TokenKind.{TokenKind}
use Rattle.cobol_lex.specs.declared.token.TokenKind.TheVariants as kind
use Rattle.cobol_lex.proofs.LaidReadsBack.{reads_kind}

bytes_written : (line : ℕ) (w : List ℕ) (rest : List Placed) → bytes_of (map (placed_on line) w ++ rest) ≡ w ++ bytes_of rest
bytes_written line [] rest = refl
bytes_written line (b ∷ w) rest = ap (λ t. b ∷ t) (bytes_written line w rest)

-- the bytes of a token that is written are passed over
pass_written : (line : ℕ) (w : List ℕ) (awaits : Awaits) (before : ℕ) (rest : List Placed) →
    (last : ℕ) × (tokens_from (length w) awaits before (map (placed_on line) w ++ rest) ≡ tokens_from 0 awaits last rest)
pass_written line [] awaits before rest = (before, refl)
pass_written line (b ∷ w) awaits before rest = pass_written line w awaits b rest

reads_first : (awaits : Awaits) (token : Token) (w : List ℕ) (rest : List Placed) (tokens : List Token) →
    next_lexeme awaits 32 token.line (w ++ bytes_of rest) ≡ Ok (record { kind = token.kind; length = length w }) → 0 < length w → is_separator (slice_index w 0) ≡ false →
    ((before : ℕ) → tokens_from 0 (awaits_behind awaits token.kind) before rest ≡ Ok tokens) →
    tokens_from 0 awaits 32 (map (placed_on token.line) w ++ rest) ≡ Ok (token ∷ tokens)
reads_first awaits token [] rest tokens first some other more = absurd (omega arith)
reads_first awaits token (b ∷ w) rest tokens first some other more =
    let passed = pass_written token.line w (awaits_behind awaits token.kind) b rest in
    let all = bytes_written token.line (b ∷ w) rest in
    let here : next_lexeme awaits 32 token.line (bytes_of (map (placed_on token.line) (b ∷ w) ++ rest)) ≡ Ok (record { kind = token.kind; length = length (b ∷ w) }) =
    ap (next_lexeme awaits 32 token.line) all ∙ first in
    let one : suc (length w) - 1 ≡ length w = omega arith in
    rw (other, here, one, passed.1, more passed.0)

rest_stops : (tokens : List Token) → runs_on (bytes_of (written_text tokens)) ≡ false
rest_stops [] = refl
rest_stops (token ∷ tokens) = refl

rest_ends_picture : (tokens : List Token) → ends_picture_run (bytes_of (written_text tokens)) ≡ true
rest_ends_picture [] = refl
rest_ends_picture (token ∷ tokens) = refl

behind_space : (token : TokenKind) → SignCounts 32 token
behind_space (kind.Decimal number) = refl
behind_space (kind.Picture picture) = tt
behind_space (kind.Word word) = tt
behind_space (kind.Digits digits) = tt
behind_space (kind.Literal value) = tt
behind_space kind.Period = tt
behind_space (kind.Mark b) = tt
behind_space kind.LessEqual = tt
behind_space kind.GreaterEqual = tt
behind_space kind.Power = tt

text_ends : (token : TokenKind) (tokens : List Token) → Ends token (written_text tokens)
text_ends (kind.Picture picture) tokens = rest_ends_picture tokens
text_ends (kind.Decimal number) tokens = rest_stops tokens
text_ends (kind.Word word) tokens = rest_stops tokens
text_ends (kind.Digits digits) tokens = rest_stops tokens
text_ends (kind.Literal value) tokens = rest_stops tokens
text_ends kind.Period tokens = rest_stops tokens
text_ends (kind.Mark b) tokens = inr (rest_stops tokens)
text_ends kind.LessEqual tokens = rest_stops tokens
text_ends kind.GreaterEqual tokens = rest_stops tokens
text_ends kind.Power tokens = rest_stops tokens

reads_text : (tokens : List Token) (awaits : Awaits) → AreLawful awaits tokens → (before : ℕ) → tokens_from 0 awaits before (written_text tokens) ≡ Ok tokens
reads_text [] awaits lawful before = refl
reads_text (token ∷ tokens) awaits lawful before =
    let rest = written_text tokens in
    let first = reads_kind awaits token.kind 32 token.line rest lawful.0 (behind_space token.kind) (text_ends token.kind tokens) in
    let some = (takes_next awaits 32 token.line (written token.kind ++ bytes_of rest) _ first.0).0 in
    reads_first awaits token (written token.kind) rest tokens first.0 some first.1 (reads_text tokens (awaits_behind awaits token.kind) lawful.1)

pub text_reads_back : TextReadsBack
text_reads_back tokens lawful = reads_text tokens awaits.Any lawful 0
