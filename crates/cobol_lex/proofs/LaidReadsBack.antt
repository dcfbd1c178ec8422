-- A text of tokens in any lay-out is read back.
use Rattle.std.proofs.Common.{inl, inr, ℕ, ◌≡◌, ◌<◌, ◌≤◌, ◌+◌, ◌-◌, suc, true, false, not, List, [], ◌∷◌, ◌++◌, map, take, length, slice_index, ap, sym, ◌∙◌, arith, refl, tests, cond, subst}
use Rattle.std.specs.Prelude.{Result, Ok, Err, ◌==◌, ◌&&◌, codes}
use Rattle.std.specs.List.{list_all, prefix_len}
use Rattle.std.proofs.lemmas.List.{take-append-le}
use Rattle.std.proofs.lemmas.List.Sums.{prefix_len-le-length}
use Rattle.cob_base.specs.Spelling.{IsCapitalWord, word_byte}
use Rattle.ref_format.specs.Placed.{bytes_of}
use Rattle.cobol_lex.specs.Byte.{is_quote, is_letter, is_digit, is_point, is_sign, is_mark, is_white, is_separator, begins}
use Rattle.cobol_lex.specs.Word.{word_run, spells}
use Rattle.cobol_lex.specs.Number.{begins_number}
use Rattle.cobol_lex.specs.Awaits.{awaits_behind, awaits_picture}
use Rattle.cobol_lex.specs.Picture.{ends_picture}
use Rattle.cobol_lex.specs.Lexeme.{plain_lexeme, next_lexeme}
use Rattle.cobol_lex.specs.Token.{tokens_from}
use Rattle.cobol_lex.specs.Written.{SignCounts, written, IsPlainToken, IsPicture, IsLawful, runs_on, stands_alone, ends_picture_run, is_open}
use Rattle.cobol_lex.specs.Laid.{Laid, AreLaid, Ends, laid_text, last_byte}
use Rattle.cobol_lex.specs.Laws.{LaidReadsBack}
use Rattle.ref_format.specs.declared.placed.Placed.{Placed}
use Rattle.cobol_lex.specs.declared.token.Token.{Token}
use Rattle.cobol_lex.specs.declared.awaits.Awaits.{Awaits}
use Rattle.cobol_lex.specs.declared.awaits.Awaits.TheVariants as awaits
use Rattle.cobol_lex.specs.declared.fault.LexFault.TheVariants as fault
use Rattle.cobol_lex.specs.declared.fault.LexError.TheVariants as error
use Rattle.cobol_lex.proofs.LexemeLengthLemmas.{takes_next}
use Rattle.cobol_lex.specs.declared.token.TokenKind.{TokenKind}
use Rattle.cobol_lex.specs.declared.token.TokenKind.TheVariants as kind
use Rattle.cobol_lex.specs.declared.lexeme.Lexeme.{Lexeme}
use Rattle.cobol_lex.specs.declared.fault.LexError.{LexError}
use Rattle.cobol_lex.proofs.WordLemmas.{fits-IsWord}
use Rattle.cobol_lex.proofs.BoolLemmas.{and_left, and_right, either_way, same_byte}
use Rattle.cobol_lex.proofs.RunsOnLemmas.{stop_word, word_run-on}
use Rattle.cobol_lex.proofs.TokenReadsBack.{token_reads_back}
use Rattle.cobol_lex.proofs.PictureReadsBack.{picture_reads_back}

-- no token begins with a separator
separator_begins_none : (before line b : ℕ) (rest : List ℕ) → is_separator b ≡ true → plain_lexeme before line (b ∷ rest) ≡ Err (error.Fault (fault.BadWord line))
separator_begins_none before line b rest separates =
    let quote : is_quote b ≡ false = grind (arith, tests) in
    let digit : is_digit b ≡ false = grind (arith, tests) in
    let point : is_point b ≡ false = grind (arith, tests) in
    let sign : is_sign b ≡ false = grind (arith, tests) in
    let letter : is_letter b ≡ false = grind (arith, tests) in
    let mark : is_mark b ≡ false = grind (arith, tests) in
    let star : (b == 42) ≡ false = grind (arith, tests) in
    let less : (b == 60) ≡ false = grind (arith, tests) in
    let more : (b == 62) ≡ false = grind (arith, tests) in
    let number : begins_number before (b ∷ rest) ≡ false = rw (digit, point, sign) in
    rw (quote, number, letter) (rw (mark, point, star, less, more))

-- the first byte of a token is no separator
begins_other : (before line : ℕ) (w more : List ℕ) (lexeme : Lexeme) → plain_lexeme before line (w ++ more) ≡ Ok lexeme → 0 < length w → is_separator (slice_index w 0) ≡ false
begins_other before line [] more lexeme is some = absurd (omega arith)
begins_other before line (b ∷ w) more lexeme is some =
    either_way (is_separator b) _
    (λ separates. let none = separator_begins_none before line b (w ++ more) separates in absurd (differ line lexeme (sym none ∙ is)))
    (λ other. other)
  where
    differ : (line : ℕ) (lexeme : Lexeme) → ◌≡◌ {A = Result Lexeme LexError} (Err (error.Fault (fault.BadWord line))) (Ok lexeme) → ⊥
    differ line lexeme h = cc

-- the word that a picture begins with is the same before what ends it
same_prefix : (w rest : List ℕ) → begins word_byte rest ≡ false → prefix_len word_byte (w ++ rest) ≡ prefix_len word_byte w
same_prefix [] [] stops = refl
same_prefix [] (b ∷ rest) stops = rw stops
same_prefix (b ∷ w) rest stops = ap (λ n. cond (word_byte b) (1 + n) 0) (same_prefix w rest stops)

word_run-before : (w rest : List ℕ) → begins word_byte rest ≡ false → word_run (w ++ rest) ≡ word_run w
word_run-before w rest stops =
    let n = prefix_len word_byte w in
    let within : n ≤ length w = prefix_len-le-length word_byte w in
    ap (λ k. take k (w ++ rest)) (same_prefix w rest stops) ∙ take-append-le n w rest within

-- a token is read back behind that byte, and begins with no separator
abbrev ReadsKind : Awaits → TokenKind → (before line : ℕ) → List ℕ → Type 0
ReadsKind awaits token before line rest =
    (next_lexeme awaits before line (written token ++ rest) ≡ Ok (record { kind = token; length = length (written token) })) × (is_separator (slice_index (written token) 0) ≡ false)

reads_plain : (token : TokenKind) (before line : ℕ) (rest : List ℕ) → IsPlainToken token → SignCounts before token → runs_on rest ≡ false → ReadsKind awaits.Any token before line rest
reads_plain token before line rest plain signed stops =
    let first = token_reads_back token before line rest plain signed stops in
    let some = (takes_next awaits.Any before line (written token ++ rest) _ first).0 in
    (first, begins_other before line (written token) rest _ first some)

is_capital : IsCapitalWord (codes "IS")
is_capital = record { word = fits-IsWord (codes "IS") refl; capital = refl }

reads_is : (before line : ℕ) (rest : List ℕ) → runs_on rest ≡ false → ReadsKind awaits.PictureOrIs (kind.Word (codes "IS")) before line rest
reads_is before line rest stops =
    let run : word_run (codes "IS" ++ rest) ≡ codes "IS" = word_run-on (codes "IS") rest refl (stop_word rest stops) in
    let comes : awaits_picture awaits.PictureOrIs (codes "IS" ++ rest) ≡ false = ap (λ r. not (spells (codes "IS") r)) run in
    let plain = reads_plain (kind.Word (codes "IS")) before line rest (is_capital, refl) tt stops in
    (rw comes plain.0, refl)

-- what ends a picture begins no word
ends_no_word : (rest : List ℕ) → ends_picture_run rest ≡ true → begins word_byte rest ≡ false
ends_no_word [] ends = refl
ends_no_word (b ∷ rest) ends =
    either_way (is_white b) _ (λ blank. grind (arith, tests)) (λ filled.
    let behind : (ends_picture b && is_open rest) ≡ true = rw filled at ends in
    let ender : ends_picture b ≡ true = and_left _ _ behind in
    grind (arith, tests))

reads_picture : (picture : List ℕ) (before line : ℕ) (rest : List ℕ) → IsPicture picture → spells (codes "IS") (word_run picture) ≡ false → ends_picture_run rest ≡ true →
    ReadsKind awaits.PictureOrIs (kind.Picture picture) before line rest
reads_picture picture before line rest is other ends =
    let run = word_run-before picture rest (ends_no_word rest ends) in
    let comes : awaits_picture awaits.PictureOrIs (picture ++ rest) ≡ true = ap (λ r. not (spells (codes "IS") r)) run ∙ ap not other in
    (picture_reads_back picture awaits.PictureOrIs before line rest is comes ends, is.begun)

alone_is : (P : ℕ → Type 0) (b : ℕ) → stands_alone b ≡ true → P 40 → P 41 → P 58 → P 47 → P 61 → P b
alone_is P b h p40 p41 p58 p47 p61 =
    either_way (b == 40) (P b) (λ e. subst P (sym (same_byte b 40 e)) p40) (λ n40.
    either_way (b == 41) (P b) (λ e. subst P (sym (same_byte b 41 e)) p41) (λ n41.
    either_way (b == 58) (P b) (λ e. subst P (sym (same_byte b 58 e)) p58) (λ n58.
    either_way (b == 47) (P b) (λ e. subst P (sym (same_byte b 47 e)) p47) (λ n47.
    let whole : (b == 61) ≡ true = rw (n40, n41, n58, n47) at h in
    subst P (sym (same_byte b 61 whole)) p61))))

reads_alone : (before line b : ℕ) (rest : List ℕ) → stands_alone b ≡ true → ReadsKind awaits.Any (kind.Mark b) before line rest
reads_alone before line b rest h = alone_is (λ c. ReadsKind awaits.Any (kind.Mark c) before line rest) b h (refl, refl) (refl, refl) (refl, refl) (refl, refl) (refl, refl)

pub reads_kind : (awaits : Awaits) (token : TokenKind) (before line : ℕ) (rest : List Placed) → IsLawful awaits token → SignCounts before token → Ends token rest →
    ReadsKind awaits token before line (bytes_of rest)
reads_kind awaits.Any (kind.Mark b) before line rest lawful signed (inl alone) = reads_alone before line b (bytes_of rest) alone
reads_kind awaits.Any (kind.Mark b) before line rest lawful signed (inr ends) = reads_plain (kind.Mark b) before line (bytes_of rest) lawful signed ends
reads_kind awaits.Any (kind.Word word) before line rest lawful signed ends = reads_plain (kind.Word word) before line (bytes_of rest) lawful signed ends
reads_kind awaits.Any (kind.Digits digits) before line rest lawful signed ends = reads_plain (kind.Digits digits) before line (bytes_of rest) lawful signed ends
reads_kind awaits.Any (kind.Decimal number) before line rest lawful signed ends = reads_plain (kind.Decimal number) before line (bytes_of rest) lawful signed ends
reads_kind awaits.Any (kind.Literal value) before line rest lawful signed ends = reads_plain (kind.Literal value) before line (bytes_of rest) lawful signed ends
reads_kind awaits.Any (kind.Picture picture) before line rest lawful signed ends = absurd lawful
reads_kind awaits.Any kind.Period before line rest lawful signed ends = reads_plain kind.Period before line (bytes_of rest) lawful signed ends
reads_kind awaits.Any kind.LessEqual before line rest lawful signed ends = reads_plain kind.LessEqual before line (bytes_of rest) lawful signed ends
reads_kind awaits.Any kind.GreaterEqual before line rest lawful signed ends = reads_plain kind.GreaterEqual before line (bytes_of rest) lawful signed ends
reads_kind awaits.Any kind.Power before line rest lawful signed ends = reads_plain kind.Power before line (bytes_of rest) lawful signed ends
reads_kind awaits.PictureOrIs (kind.Word word) before line rest lawful signed ends =
    let P : List ℕ → Type 0 = λ w. ReadsKind awaits.PictureOrIs (kind.Word w) before line (bytes_of rest) in
    subst P (sym lawful) (reads_is before line (bytes_of rest) ends)
reads_kind awaits.PictureOrIs (kind.Picture picture) before line rest lawful signed ends = reads_picture picture before line (bytes_of rest) lawful.0 lawful.1 ends
reads_kind awaits.Picture (kind.Picture picture) before line rest lawful signed ends =
    (picture_reads_back picture awaits.Picture before line (bytes_of rest) lawful refl ends, lawful.begun)
reads_kind _ _ before line rest lawful signed ends = absurd lawful

-- separators are passed over
gap_over : (gap : List Placed) (awaits : Awaits) (before : ℕ) (rest : List Placed) → list_all is_separator (bytes_of gap) ≡ true →
    tokens_from 0 awaits before (gap ++ rest) ≡ tokens_from 0 awaits (last_byte before gap) rest
gap_over [] awaits before rest apart = refl
gap_over (p ∷ gap) awaits before rest apart =
    let first : is_separator p.byte ≡ true = and_left _ _ apart in
    rw first (gap_over gap awaits p.byte rest (and_right (is_separator p.byte) _ apart))

gap_ends : (gap : List Placed) (awaits : Awaits) (before : ℕ) → list_all is_separator (bytes_of gap) ≡ true → tokens_from 0 awaits before gap ≡ Ok []
gap_ends [] awaits before apart = refl
gap_ends (p ∷ gap) awaits before apart =
    let first : is_separator p.byte ≡ true = and_left _ _ apart in
    rw first (gap_ends gap awaits p.byte (and_right (is_separator p.byte) _ apart))

-- the bytes of a token are passed over
piece_over : (piece : List Placed) (awaits : Awaits) (before : ℕ) (rest : List Placed) →
    tokens_from (length piece) awaits before (piece ++ rest) ≡ tokens_from 0 awaits (last_byte before piece) rest
piece_over [] awaits before rest = refl
piece_over (p ∷ piece) awaits before rest = piece_over piece awaits p.byte rest

bytes_of-append : (piece rest : List Placed) → bytes_of (piece ++ rest) ≡ bytes_of piece ++ bytes_of rest
bytes_of-append [] rest = refl
bytes_of-append (p ∷ piece) rest = ap (λ t. p.byte ∷ t) (bytes_of-append piece rest)

length-bytes_of : (text : List Placed) → length (bytes_of text) ≡ length text
length-bytes_of [] = refl
length-bytes_of (p ∷ text) = ap suc (length-bytes_of text)

reads_piece : (awaits : Awaits) (before : ℕ) (piece rest : List Placed) (token : Token) (tokens : List Token) → bytes_of piece ≡ written token.kind →
    map (λ p. p.line) (take 1 piece) ≡ token.line ∷ [] → ReadsKind awaits token.kind before token.line (bytes_of rest) →
    tokens_from 0 (awaits_behind awaits token.kind) (last_byte before piece) rest ≡ Ok tokens →
    tokens_from 0 awaits before (piece ++ rest) ≡ Ok (token ∷ tokens)
reads_piece awaits before [] rest token tokens spelled begun reads more = cc
reads_piece awaits before (p ∷ piece) rest token tokens spelled begun reads more =
    let line : p.line ≡ token.line = cc in
    let all : bytes_of ((p ∷ piece) ++ rest) ≡ written token.kind ++ bytes_of rest = bytes_of-append (p ∷ piece) rest ∙ ap (λ w. w ++ bytes_of rest) spelled in
    let here : next_lexeme awaits before p.line (bytes_of ((p ∷ piece) ++ rest)) ≡ Ok (record { kind = token.kind; length = length (written token.kind) }) =
    ap (λ n. next_lexeme awaits before n (bytes_of ((p ∷ piece) ++ rest))) line ∙ ap (next_lexeme awaits before token.line) all ∙ reads.0 in
    let other : is_separator p.byte ≡ false = ap (λ w. is_separator (slice_index w 0)) spelled ∙ reads.1 in
    let count : length (written token.kind) - 1 ≡ length piece = omega (arith, ap length spelled, length-bytes_of (p ∷ piece)) in
    rw (other, here, count, piece_over piece (awaits_behind awaits token.kind) p.byte rest, more) (ap (λ n. Ok (record { kind = token.kind; line = n } ∷ tokens)) line)

reads_laid : (laid : List Laid) (end : List Placed) (awaits : Awaits) (before : ℕ) → AreLaid awaits before laid end →
    tokens_from 0 awaits before (laid_text laid end) ≡ Ok (map (λ one. one.token) laid)
reads_laid [] end awaits before are = gap_ends end awaits before are
reads_laid (one ∷ more) end awaits before are =
    let is = are.0 in
    let rest = laid_text more end in
    let behind = last_byte before one.gap in
    gap_over one.gap awaits before (one.piece ++ rest) is.apart
    ∙ reads_piece awaits behind one.piece rest one.token (map (λ one. one.token) more) is.spelled is.begun
    (reads_kind awaits one.token.kind behind one.token.line rest is.lawful is.signed is.ended)
    (reads_laid more end (awaits_behind awaits one.token.kind) (last_byte behind one.piece) are.1)

pub laid_reads_back : LaidReadsBack
laid_reads_back laid end are = reads_laid laid end awaits.Any 0 are
