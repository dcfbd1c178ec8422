-- The units of a program that is given are lawful.
use Rattle.std.proofs.Common.{◌≡◌, ℕ, ◌+◌, ◌-◌, ◌≤◌, ◌==◌, Bool, true, false, ◌||◌, List, [], ◌∷◌, ◌++◌, length, take, drop, Option, Some, None, refl, ap, sym, ◌∙◌, subst, arith, append_assoc, append-nil, get_or}
use Rattle.std.specs.Prelude.{All, codes, if◌then◌else◌}
use Rattle.std.specs.List.{list_all, flat_map}
use Rattle.std.proofs.lemmas.Bool.Decides.{nat_tests}
use Rattle.std.proofs.lemmas.List.{length-append, take-append-drop}
use Rattle.std.proofs.lemmas.List.Elements.{All-nil, All-cons, All-append, All-head, All-tail}
use Rattle.std.proofs.lemmas.List.Folds.{list_all_at}
use Rattle.cob_base.specs.Bytes.{period, hyphen, plus_sign}
use Rattle.cob_base.specs.Spelling.{IsCapitalWord}
use Rattle.cob_tree.specs.declared.entry.Entry.{Entry}
use Rattle.cob_tree.specs.declared.entry.Span.{Span}
use Rattle.cob_tree.specs.declared.file.FileEntry.{FileEntry}
use Rattle.cob_tree.specs.declared.number.Number.{Number}
use Rattle.cob_tree.specs.declared.picture.Picture.{Picture}
use Rattle.cob_tree.specs.declared.picture.Sign.{Sign}
use Rattle.cob_tree.specs.declared.picture.Sign.TheVariants.{Within, SeparateLeading, SeparateTrailing}
use Rattle.cob_tree.specs.declared.picture.Usage.{Usage}
use Rattle.cob_tree.specs.declared.picture.Usage.TheVariants.{Display, Binary, Packed}
use Rattle.cob_tree.specs.declared.place.Operand.{Operand}
use Rattle.cob_tree.specs.declared.program.Paragraph.{Paragraph}
use Rattle.cob_tree.specs.declared.program.Program.{Program}
use Rattle.cob_tree.specs.declared.program.Sentence.{Sentence}
use Rattle.cobol_lex.specs.Byte.{is_digit}
use Rattle.cobol_lex.specs.Awaits.{awaits_behind}
use Rattle.cobol_lex.specs.Word.{spells}
use Rattle.cobol_lex.specs.Written.{written, sign_of, pointed, IsPlainToken}
use Rattle.cobol_lex.specs.declared.awaits.Awaits.TheVariants as awaits
use Rattle.cobol_lex.specs.declared.token.TokenKind.{TokenKind}
use Rattle.cobol_lex.specs.declared.token.TokenKind.TheVariants as kind
use Rattle.unparser.specs.Token.{Tokens, is_capital, is_reserved_shape, procedure_token}
use Rattle.unparser.specs.File.{name_tokens, file_tokens}
use Rattle.unparser.specs.Place.{entry_name}
use Rattle.unparser.proofs.TokenLemmas.{HasShape, has_shape, reserved-folded, reserved-is_word}
use Rattle.cobol_print.specs.declared.units.unit.PrintUnit.{PrintUnit}
use Rattle.cobol_print.specs.units.Unit.{unit_at, header, ended}
use Rattle.cobol_print.specs.units.Picture.{picture_text}
use Rattle.cobol_print.specs.units.Entry.{level_text, level_column, redefines_tokens, picture_tokens, usage_tokens, sign_tokens, occurs_tokens, value_tokens, ranges_tokens, entry_unit}
use Rattle.cobol_print.specs.units.Division.{program_id, select_tokens, status_tokens, file_units, environment_units, fd_unit, file_section, headers_between, entries_units, data_units, section_line, named_line, sentence_lines, sentence_units, paragraph_units, paragraphs_units, procedure_units, program_units}
use Rattle.cobol_print.proofs.units_lemmas.LineLemmas.{Begins, IsIn, AreIn, sentence-lines-in}
use Rattle.cobol_print.specs.Given.{IsFree, AreFree, IsGivenFile, IsPrintable, IsGivenPicture, file_of, IsGivenEntry, IsGivenLine, IsGivenSentence, IsGivenParagraph, IsGiven}
use Rattle.cobol_print.specs.Unit.{all_tokens, AreLawfulKinds, IsSized, may_meet, MayMeet, BeginsWell, IsUnit}

-- ---- lawful in order

abbrev Steady : Tokens → Type 0
Steady tokens =
    (rest : List TokenKind) → AreLawfulKinds awaits.Any rest → AreLawfulKinds awaits.Any (tokens ++ rest)

free-awaits : (token : TokenKind) → IsFree token → awaits_behind awaits.Any token ≡ awaits.Any
free-awaits (kind.Word word) h = ap (λ b. if b then awaits.PictureOrIs else awaits.Any) h.1
free-awaits (kind.Digits digits) h = refl
free-awaits (kind.Decimal number) h = refl
free-awaits (kind.Literal value) h = refl
free-awaits (kind.Picture picture) h = refl
free-awaits kind.Period h = refl
free-awaits (kind.Mark b) h = refl
free-awaits kind.LessEqual h = refl
free-awaits kind.GreaterEqual h = refl
free-awaits kind.Power h = refl

free-steady : (tokens : Tokens) → AreFree tokens → Steady tokens
free-steady [] h rest k = k
free-steady (token ∷ tokens) h rest k =
    let first : IsFree token = All-head IsFree token tokens h in (
      first.0,
      subst (λ awaits. AreLawfulKinds awaits (tokens ++ rest)) (sym (free-awaits token first))
          (free-steady tokens (All-tail IsFree token tokens h) rest k),
    )

steady-append : (a b : Tokens) → Steady a → Steady b → Steady (a ++ b)
steady-append a b h k rest r =
    subst (AreLawfulKinds awaits.Any) (sym (append_assoc a b rest)) (h (b ++ rest) (k rest r))

period-steady : Steady (kind.Period ∷ [])
period-steady rest k = (tt, k)

-- ---- words of the language

capital-no_digit : (b : ℕ) → is_capital b ≡ true → is_digit b ≡ false
capital-no_digit b h = grind (arith, nat_tests)

reserved-free : (word : List ℕ) → is_reserved_shape word ≡ true → (spells (codes "PIC") word || spells (codes "PICTURE") word) ≡ false →
    IsFree (kind.Word word)
reserved-free word shape other =
    let has : HasShape word = has_shape word shape in
    let is : IsCapitalWord word = record { word = reserved-is_word word shape; capital = reserved-folded word shape } in
    ((is, list_all_at is_digit word 0 0 has.some (capital-no_digit (get_or word 0 0) has.first)), other)

pic-plain : IsPlainToken (kind.Word (codes "PIC"))
pic-plain =
    let word : List ℕ = codes "PIC" in
    let is : IsCapitalWord word = record { word = reserved-is_word word refl; capital = reserved-folded word refl } in
    (is, refl)

picture-steady : (picture : List ℕ) → IsPrintable picture → Steady (kind.Word (codes "PIC") ∷ kind.Picture picture ∷ [])
picture-steady picture h rest k = (pic-plain, ((h.whole, h.other), k))

-- ---- neighbours

abbrev Follows : Tokens → Type 0
Follows tokens = (before : TokenKind) → IsFree before → MayMeet before tokens

free-meet : (before next : TokenKind) → IsFree before → may_meet before next ≡ true
free-meet (kind.Word word) next h = refl
free-meet (kind.Digits digits) next h = refl
free-meet (kind.Decimal number) next h = refl
free-meet (kind.Literal value) next h = refl
free-meet (kind.Picture picture) next h = absurd h.0
free-meet kind.Period next h = absurd h.1
free-meet (kind.Mark b) next h = refl
free-meet kind.LessEqual next h = refl
free-meet kind.GreaterEqual next h = refl
free-meet kind.Power next h = refl

free-follows : (tokens more : Tokens) → AreFree tokens → Follows more → Follows (tokens ++ more)
free-follows [] more h f before b = f before b
free-follows (token ∷ tokens) more h f before b = (
  free-meet before token b,
  free-follows tokens more (All-tail IsFree token tokens h) f token (All-head IsFree token tokens h),
)

period-follows : Follows (kind.Period ∷ [])
period-follows before b = (free-meet before kind.Period b, tt)

picture-follows : (picture : List ℕ) (more : Tokens) → MayMeet (kind.Picture picture) more →
    Follows (kind.Word (codes "PIC") ∷ kind.Picture picture ∷ more)
picture-follows picture more h before b = (free-meet before (kind.Word (codes "PIC")) b, (refl, h))

-- ---- sizes

sign-length : (number : Number) (negative none : Bool) →
    length (if negative then hyphen ∷ [] else if none then plus_sign ∷ [] else []) ≤ 1
sign-length number true none = omega arith
sign-length number false true = omega arith
sign-length number false false = omega arith

pointed-length : (whole : Bool) (n : ℕ) (digits : List ℕ) →
    length (if whole then digits else take n digits ++ period ∷ drop n digits) ≤ length digits + 1
pointed-length true n digits = omega arith
pointed-length false n digits =
    let both : length (take n digits ++ period ∷ drop n digits) ≡ length (take n digits) + length (period ∷ drop n digits) =
    length-append (take n digits) (period ∷ drop n digits) in
    let same : length (take n digits) + length (drop n digits) ≡ length digits =
    sym (length-append (take n digits) (drop n digits)) ∙ ap length (take-append-drop n digits) in
    omega (arith, both, same)

decimal-length : (number : Number) → length number.digits ≤ 18 → length (written (kind.Decimal number)) ≤ 20
decimal-length number few =
    let sign : length (sign_of number) ≤ 1 = sign-length number number.negative (number.scale == 0) in
    let body : length (pointed number.scale number.digits) ≤ length number.digits + 1 =
    pointed-length (number.scale == 0) (length number.digits - number.scale) number.digits in
    let both : length (sign_of number ++ pointed number.scale number.digits) ≡ length (sign_of number) + length (pointed number.scale number.digits) =
    length-append (sign_of number) (pointed number.scale number.digits) in
    omega (arith, sign, body, both, few)

free-sized : (margin : ℕ) (token : TokenKind) → margin ≤ 32 → IsFree token → IsSized margin token
free-sized margin (kind.Word word) narrow h = omega (arith, h.0.0.word.short, narrow)
free-sized margin (kind.Digits digits) narrow h = omega (arith, h.0.few, narrow)
free-sized margin (kind.Decimal number) narrow h =
    let short : length (written (kind.Decimal number)) ≤ 20 = decimal-length number h.0.0.few in omega (arith, short, narrow)
free-sized margin (kind.Literal value) narrow h = h.1
free-sized margin (kind.Picture picture) narrow h = absurd h.0
free-sized margin kind.Period narrow h = absurd h.1
free-sized margin (kind.Mark b) narrow h = omega (arith, narrow)
free-sized margin kind.LessEqual narrow h = omega (arith, narrow)
free-sized margin kind.GreaterEqual narrow h = omega (arith, narrow)
free-sized margin kind.Power narrow h = omega (arith, narrow)

all-sized : (margin : ℕ) (tokens : Tokens) → margin ≤ 32 → AreFree tokens → All (IsSized margin) tokens
all-sized margin [] narrow h = All-nil (IsSized margin)
all-sized margin (token ∷ tokens) narrow h =
    All-cons (IsSized margin) token tokens (free-sized margin token narrow (All-head IsFree token tokens h))
    (all-sized margin tokens narrow (All-tail IsFree token tokens h))

period-sized : (margin : ℕ) → margin ≤ 32 → All (IsSized margin) (kind.Period ∷ [])
period-sized margin narrow =
    All-cons (IsSized margin) kind.Period [] (omega (arith, narrow)) (All-nil (IsSized margin))

-- ---- units

begins-well : (tokens more : Tokens) → Begins tokens → AreFree tokens → Follows more → BeginsWell (tokens ++ more)
begins-well (kind.Word word ∷ tokens) more b h f =
    free-follows tokens more (All-tail IsFree (kind.Word word) tokens h) f (kind.Word word) (All-head IsFree (kind.Word word) tokens h)
begins-well (kind.Digits digits ∷ tokens) more b h f =
    free-follows tokens more (All-tail IsFree (kind.Digits digits) tokens h) f (kind.Digits digits) (All-head IsFree (kind.Digits digits) tokens h)
begins-well [] more b h f = absurd b
begins-well (kind.Decimal number ∷ tokens) more b h f = absurd b
begins-well (kind.Literal value ∷ tokens) more b h f = absurd b
begins-well (kind.Picture picture ∷ tokens) more b h f = absurd b
begins-well (kind.Period ∷ tokens) more b h f = absurd b
begins-well (kind.Mark c ∷ tokens) more b h f = absurd b
begins-well (kind.LessEqual ∷ tokens) more b h f = absurd b
begins-well (kind.GreaterEqual ∷ tokens) more b h f = absurd b
begins-well (kind.Power ∷ tokens) more b h f = absurd b

-- units that are lawful, and behind which nothing is awaited
pub record AreGood (units : List PrintUnit) : Type 0 where
  pub are : All IsUnit units
  pub steady : Steady (all_tokens units)

all_tokens-append : (xs ys : List PrintUnit) → all_tokens (xs ++ ys) ≡ all_tokens xs ++ all_tokens ys
all_tokens-append [] ys = refl
all_tokens-append (x ∷ xs) ys =
    ap (λ t. x.tokens ++ t) (all_tokens-append xs ys) ∙ sym (append_assoc x.tokens (all_tokens xs) (all_tokens ys))

none-good : AreGood []
none-good = record { are = All-nil IsUnit; steady = λ rest k. k }

good-append : (xs ys : List PrintUnit) → AreGood xs → AreGood ys → AreGood (xs ++ ys)
good-append xs ys h k = record {
  are = All-append IsUnit xs ys h.are k.are;
  steady = subst Steady (sym (all_tokens-append xs ys)) (steady-append (all_tokens xs) (all_tokens ys) h.steady k.steady);
}

good-cons : (unit : PrintUnit) (units : List PrintUnit) → IsUnit unit → Steady unit.tokens → AreGood units → AreGood (unit ∷ units)
good-cons unit units is steady h = record {
  are = All-cons IsUnit unit units is h.are;
  steady = steady-append unit.tokens (all_tokens units) steady h.steady;
}

-- a line of free tokens, and others behind them
line-is : (column : ℕ) (tokens more : Tokens) → 8 ≤ column → column ≤ 32 → Begins tokens → AreFree tokens →
    Follows more → All (IsSized column) more → IsUnit (unit_at column (tokens ++ more))
line-is column tokens more low high b h f sized = record {
  low = low;
  begins = begins-well tokens more b h f;
  sized = All-append (IsSized column) tokens more (all-sized column tokens high h) sized;
}

-- one that ends by a period
sentence-is : (column : ℕ) (tokens : Tokens) → 8 ≤ column → column ≤ 32 → Begins tokens → AreFree tokens →
    IsUnit (unit_at column (tokens ++ kind.Period ∷ []))
sentence-is column tokens low high b h =
    line-is column tokens (kind.Period ∷ []) low high b h period-follows (period-sized column high)

sentence-steady : (tokens : Tokens) → AreFree tokens → Steady (tokens ++ kind.Period ∷ [])
sentence-steady tokens h = steady-append tokens (kind.Period ∷ []) (free-steady tokens h) period-steady

period-good : (column : ℕ) (tokens : Tokens) (units : List PrintUnit) → 8 ≤ column → column ≤ 32 → Begins tokens → AreFree tokens →
    AreGood units → AreGood (unit_at column (tokens ++ kind.Period ∷ []) ∷ units)
period-good column tokens units low high b h good =
    good-cons (unit_at column (tokens ++ kind.Period ∷ [])) units (sentence-is column tokens low high b h) (sentence-steady tokens h) good

bare-is : (unit : PrintUnit) → IsIn unit → AreFree unit.tokens → IsUnit unit
bare-is unit is h = record {
  low = is.0;
  begins = subst BeginsWell (append-nil unit.tokens) (begins-well unit.tokens [] is.2 h (λ before b. tt));
  sized = all-sized unit.column unit.tokens is.1 h;
}

ended-good : (units : List PrintUnit) → AreIn units → All IsGivenLine units → AreGood (ended units)
unfolding AreIn
ended-good [] is h = none-good
ended-good (unit ∷ []) is h =
    period-good unit.column unit.tokens [] is.0.0 is.0.1 is.0.2 (All-head IsGivenLine unit [] h) none-good
ended-good (unit ∷ next ∷ units) is h =
    let free : AreFree unit.tokens = All-head IsGivenLine unit (next ∷ units) h in
    good-cons unit (ended (next ∷ units)) (bare-is unit is.0 free) (free-steady unit.tokens free)
    (ended-good (next ∷ units) is.1 (All-tail IsGivenLine unit (next ∷ units) h))

-- ---- headers

two-free : (first second : List ℕ) → IsFree (kind.Word first) → IsFree (kind.Word second) →
    AreFree (kind.Word first ∷ kind.Word second ∷ [])
two-free first second h k =
    All-cons IsFree (kind.Word first) (kind.Word second ∷ []) h
    (All-cons IsFree (kind.Word second) [] k (All-nil IsFree))

header-good : (first second : List ℕ) (units : List PrintUnit) → IsFree (kind.Word first) → IsFree (kind.Word second) → AreGood units →
    AreGood (header first second ∷ units)
header-good first second units h k good =
    period-good 8 (kind.Word first ∷ kind.Word second ∷ []) units (omega arith) (omega arith) tt (two-free first second h k) good

word-good : (word : List ℕ) (units : List PrintUnit) → IsFree (kind.Word word) → AreGood units →
    AreGood (unit_at 8 (kind.Word word ∷ kind.Period ∷ []) ∷ units)
word-good word units h good =
    period-good 8 (kind.Word word ∷ []) units (omega arith) (omega arith) tt (All-cons IsFree (kind.Word word) [] h (All-nil IsFree)) good

program_id-good : (name : List ℕ) (units : List PrintUnit) → IsFree (kind.Word name) → AreGood units → AreGood (program_id name ∷ units)
program_id-good name units h good =
    let word : IsFree (kind.Word (codes "PROGRAM-ID")) = reserved-free (codes "PROGRAM-ID") refl refl in
    let one : AreFree (kind.Word (codes "PROGRAM-ID") ∷ []) = All-cons IsFree (kind.Word (codes "PROGRAM-ID")) [] word (All-nil IsFree) in
    let named : AreFree (kind.Word name ∷ []) = All-cons IsFree (kind.Word name) [] h (All-nil IsFree) in
    let more : Tokens = kind.Period ∷ kind.Word name ∷ kind.Period ∷ [] in
    good-cons (program_id name) units
    (line-is 8 (kind.Word (codes "PROGRAM-ID") ∷ []) more (omega arith) (omega arith) tt one
    (λ before b. (free-meet before kind.Period b, (refl, (refl, tt))))
    (All-cons (IsSized 8) kind.Period (kind.Word name ∷ kind.Period ∷ []) (omega arith)
    (All-cons (IsSized 8) (kind.Word name) (kind.Period ∷ []) (free-sized 8 (kind.Word name) (omega arith) h) (period-sized 8 (omega arith)))))
    (steady-append (kind.Word (codes "PROGRAM-ID") ∷ []) more (free-steady (kind.Word (codes "PROGRAM-ID") ∷ []) one)
    (steady-append (kind.Period ∷ []) (kind.Word name ∷ kind.Period ∷ []) period-steady (sentence-steady (kind.Word name ∷ []) named)))
    good

-- ---- the environment division

files-good : (program : Program) (files : List FileEntry) (units : List PrintUnit) → All (IsGivenFile program) files → AreGood units →
    AreGood (file_units program files ++ units)
files-good program [] units h good = good
files-good program (file ∷ files) units h good =
    let tokens : Tokens = select_tokens file ++ status_tokens program file.status in
    period-good 12 tokens (file_units program files ++ units) (omega arith) (omega arith) tt (All-head (IsGivenFile program) file files h)
    (files-good program files units (All-tail (IsGivenFile program) file files h) good)

environment-good : (program : Program) (files : List FileEntry) (units : List PrintUnit) → All (IsGivenFile program) files → AreGood units →
    AreGood (environment_units program files ++ units)
environment-good program [] units h good = good
environment-good program (file ∷ files) units h good =
    header-good (codes "ENVIRONMENT") (codes "DIVISION") _ (reserved-free (codes "ENVIRONMENT") refl refl) (reserved-free (codes "DIVISION") refl refl)
    (header-good (codes "INPUT-OUTPUT") (codes "SECTION") _ (reserved-free (codes "INPUT-OUTPUT") refl refl) (reserved-free (codes "SECTION") refl refl)
    (word-good (codes "FILE-CONTROL") _ (reserved-free (codes "FILE-CONTROL") refl refl)
    (files-good program (file ∷ files) units h good)))

-- ---- the data division

fd-good : (program : Program) (file : ℕ) (units : List PrintUnit) → AreFree (file_tokens program file) → AreGood units →
    AreGood (fd_unit program file ∷ units)
fd-good program file units h good =
    period-good 8 (kind.Word (codes "FD") ∷ file_tokens program file) units (omega arith) (omega arith) tt
    (All-cons IsFree (kind.Word (codes "FD")) (file_tokens program file) (reserved-free (codes "FD") refl refl) h) good

file_section-good : (program : Program) (file : ℕ) (units : List PrintUnit) → AreFree (file_tokens program file) → AreGood units →
    AreGood (file_section program file ++ units)
file_section-good program file units h good =
    header-good (codes "FILE") (codes "SECTION") _ (reserved-free (codes "FILE") refl refl) (reserved-free (codes "SECTION") refl refl)
    (fd-good program file units h good)

storage-good : (units : List PrintUnit) → AreGood units → AreGood (header (codes "WORKING-STORAGE") (codes "SECTION") ∷ units)
storage-good units good =
    header-good (codes "WORKING-STORAGE") (codes "SECTION") units (reserved-free (codes "WORKING-STORAGE") refl refl)
    (reserved-free (codes "SECTION") refl refl) good

fd_if-good : (program : Program) (file : ℕ) (same : Bool) (units : List PrintUnit) → AreFree (file_tokens program file) → AreGood units →
    AreGood ((if same then [] else fd_unit program file ∷ []) ++ units)
fd_if-good program file true units h good = good
fd_if-good program file false units h good = fd-good program file units h good

headers-good : (program : Program) (before : Option (Option ℕ)) (file : Option ℕ) (units : List PrintUnit) → AreFree (file_of program file) → AreGood units →
    AreGood (headers_between program before file ++ units)
headers-good program None None units h good = storage-good units good
headers-good program None (Some file) units h good = file_section-good program file units h good
headers-good program (Some None) None units h good = good
headers-good program (Some None) (Some file) units h good = file_section-good program file units h good
headers-good program (Some (Some other)) None units h good = storage-good units good
headers-good program (Some (Some other)) (Some file) units h good = fd_if-good program file (other == file) units h good

-- what may stand behind a picture begins so
abbrev Apart : Tokens → Type 0
Apart (kind.Word word ∷ tokens) = Unit {0}
Apart (kind.Period ∷ tokens) = Unit {0}
Apart _ = ⊥

abbrev back_tokens : Program → Usage → Sign → Option ℕ → Option Operand → List Span → Tokens
back_tokens program usage sign occurs value ranges =
    usage_tokens usage ++ (sign_tokens sign ++ (occurs_tokens occurs ++ (value_tokens program value ++ ranges_tokens program ranges)))

back-apart : (program : Program) (usage : Usage) (sign : Sign) (occurs : Option ℕ) (value : Option Operand) (ranges : List Span) →
    Apart (back_tokens program usage sign occurs value ranges ++ kind.Period ∷ [])
back-apart program Display Within None None [] = tt
back-apart program Display Within None None (span ∷ spans) = tt
back-apart program Display Within None (Some value) ranges = tt
back-apart program Display Within (Some count) value ranges = tt
back-apart program Display SeparateLeading occurs value ranges = tt
back-apart program Display SeparateTrailing occurs value ranges = tt
back-apart program Binary sign occurs value ranges = tt
back-apart program Packed sign occurs value ranges = tt

back-meets : (picture : List ℕ) (back : Tokens) → AreFree back → Apart (back ++ kind.Period ∷ []) →
    MayMeet (kind.Picture picture) (back ++ kind.Period ∷ [])
back-meets picture [] h apart = (refl, tt)
back-meets picture (kind.Word word ∷ tokens) h apart = (
  refl,
  free-follows tokens (kind.Period ∷ []) (All-tail IsFree (kind.Word word) tokens h) period-follows (kind.Word word)
      (All-head IsFree (kind.Word word) tokens h),
)
back-meets picture (kind.Period ∷ tokens) h apart = absurd (All-head IsFree kind.Period tokens h).1
back-meets picture (kind.Digits digits ∷ tokens) h apart = absurd apart
back-meets picture (kind.Decimal number ∷ tokens) h apart = absurd apart
back-meets picture (kind.Literal value ∷ tokens) h apart = absurd apart
back-meets picture (kind.Picture other ∷ tokens) h apart = absurd apart
back-meets picture (kind.Mark b ∷ tokens) h apart = absurd apart
back-meets picture (kind.LessEqual ∷ tokens) h apart = absurd apart
back-meets picture (kind.GreaterEqual ∷ tokens) h apart = absurd apart
back-meets picture (kind.Power ∷ tokens) h apart = absurd apart

in-margin : (column : ℕ) → column ≤ 12 → column ≤ 32
in-margin column high = omega (arith, high)

-- an entry by its parts: what stands before its picture, and behind it
entry-is : (column : ℕ) (front back : Tokens) (picture : Option Picture) → 8 ≤ column → column ≤ 12 → Begins front → AreFree front →
    IsGivenPicture picture → AreFree back → Apart (back ++ kind.Period ∷ []) →
    IsUnit (unit_at column (front ++ (picture_tokens picture ++ (back ++ kind.Period ∷ []))))
    × Steady (front ++ (picture_tokens picture ++ (back ++ kind.Period ∷ [])))
entry-is column front back None low high b h given k apart = (
  line-is column front (back ++ kind.Period ∷ []) low (in-margin column high) b h (free-follows back (kind.Period ∷ []) k period-follows)
      (All-append (IsSized column) back (kind.Period ∷ []) (all-sized column back (in-margin column high) k) (period-sized column (in-margin column high))),
  steady-append front (back ++ kind.Period ∷ []) (free-steady front h) (sentence-steady back k),
)
entry-is column front back (Some picture) low high b h given k apart =
    let text : List ℕ = picture_text picture in
    let ended_by : Tokens = back ++ kind.Period ∷ [] in (
      line-is column front (kind.Word (codes "PIC") ∷ kind.Picture text ∷ ended_by) low (in-margin column high) b h
          (picture-follows text ended_by (back-meets text back k apart))
          (All-cons (IsSized column) (kind.Word (codes "PIC")) (kind.Picture text ∷ ended_by) (omega (arith, high))
          (All-cons (IsSized column) (kind.Picture text) ended_by (omega (arith, high, given.short), given.ink)
          (All-append (IsSized column) back (kind.Period ∷ []) (all-sized column back (in-margin column high) k) (period-sized column (in-margin column high))))),
      steady-append front (kind.Word (codes "PIC") ∷ kind.Picture text ∷ ended_by) (free-steady front h)
          (steady-append (kind.Word (codes "PIC") ∷ kind.Picture text ∷ []) ended_by (picture-steady text given) (sentence-steady back k)),
    )

level-low : (b : Bool) → 8 ≤ (if b then 8 else 12)
level-low true = omega arith
level-low false = omega arith

level-high : (b : Bool) → (if b then 8 else 12) ≤ 12
level-high true = omega arith
level-high false = omega arith

abbrev front_tokens : Program → Entry → Tokens
front_tokens program entry =
    kind.Digits (level_text entry.level) ∷ kind.Word (entry_name (Some entry)) ∷ redefines_tokens program entry.redefines

regrouped : (r p u s o v w e : Tokens) → (((((r ++ p) ++ u) ++ s) ++ o) ++ v) ++ w ++ e ≡ r ++ (p ++ ((u ++ (s ++ (o ++ (v ++ w)))) ++ e))
regrouped r p u s o v w e = simp append_assoc

entry-tokens : (program : Program) (entry : Entry) →
    front_tokens program entry ++ (picture_tokens entry.picture
    ++ (back_tokens program entry.usage entry.sign entry.occurs entry.value entry.ranges ++ kind.Period ∷ []))
    ≡ (entry_unit program entry).tokens
entry-tokens program entry =
    ap (λ t. kind.Digits (level_text entry.level) ∷ kind.Word (entry_name (Some entry)) ∷ t)
    (sym (regrouped (redefines_tokens program entry.redefines) (picture_tokens entry.picture) (usage_tokens entry.usage) (sign_tokens entry.sign)
    (occurs_tokens entry.occurs) (value_tokens program entry.value) (ranges_tokens program entry.ranges) (kind.Period ∷ [])))

entry-good : (program : Program) (entry : Entry) (units : List PrintUnit) → IsGivenEntry program entry → AreGood units →
    AreGood (entry_unit program entry ∷ units)
entry-good program entry units h good =
    let back : Tokens = back_tokens program entry.usage entry.sign entry.occurs entry.value entry.ranges in
    let test : Bool = entry.level == 1 || entry.level == 77 in
    let is = entry-is (level_column entry.level) (front_tokens program entry) back entry.picture (level-low test) (level-high test) tt
    h.front h.picture h.back (back-apart program entry.usage entry.sign entry.occurs entry.value entry.ranges) in
    good-cons (entry_unit program entry) units
    (subst (λ tokens. IsUnit (unit_at (level_column entry.level) tokens)) (entry-tokens program entry) is.0)
    (subst Steady (entry-tokens program entry) is.1) good

entries-good : (program : Program) (before : Option (Option ℕ)) (entries : List Entry) (units : List PrintUnit) → All (IsGivenEntry program) entries → AreGood units →
    AreGood (entries_units program before entries ++ units)
entries-good program before [] units h good = good
entries-good program before (entry ∷ entries) units h good =
    let first : IsGivenEntry program entry = All-head (IsGivenEntry program) entry entries h in
    subst AreGood
    (sym (append_assoc (headers_between program before entry.file) (entry_unit program entry ∷ entries_units program (Some entry.file) entries) units))
    (headers-good program before entry.file _ first.file
    (entry-good program entry (entries_units program (Some entry.file) entries ++ units) first
    (entries-good program (Some entry.file) entries units (All-tail (IsGivenEntry program) entry entries h) good)))

data-good : (program : Program) (entries : List Entry) (units : List PrintUnit) → All (IsGivenEntry program) entries → AreGood units →
    AreGood (data_units program entries ++ units)
data-good program [] units h good = good
data-good program (entry ∷ entries) units h good =
    header-good (codes "DATA") (codes "DIVISION") _ (reserved-free (codes "DATA") refl refl) (reserved-free (codes "DIVISION") refl refl)
    (entries-good program None (entry ∷ entries) units h good)

-- ---- the procedure division

procedure-begins : (digits : Bool) (name : List ℕ) (more : Tokens) → Begins ((if digits then kind.Digits name else kind.Word name) ∷ more)
procedure-begins true name more = tt
procedure-begins false name more = tt

section-good : (section : Option (List ℕ)) (units : List PrintUnit) → AreFree (name_tokens section) → AreGood units →
    AreGood (section_line section ++ units)
section-good None units h good = good
section-good (Some name) units h good =
    let word : AreFree (kind.Word (codes "SECTION") ∷ []) =
    All-cons IsFree (kind.Word (codes "SECTION")) [] (reserved-free (codes "SECTION") refl refl) (All-nil IsFree) in
    period-good 8 (procedure_token name ∷ kind.Word (codes "SECTION") ∷ []) units (omega arith) (omega arith)
    (procedure-begins (list_all is_digit name) name (kind.Word (codes "SECTION") ∷ []))
    (All-cons IsFree (procedure_token name) (kind.Word (codes "SECTION") ∷ []) (All-head IsFree (procedure_token name) [] h) word) good

named-good : (name : Option (List ℕ)) (units : List PrintUnit) → AreFree (name_tokens name) → AreGood units →
    AreGood (named_line name ++ units)
named-good None units h good = good
named-good (Some name) units h good =
    period-good 8 (procedure_token name ∷ []) units (omega arith) (omega arith) (procedure-begins (list_all is_digit name) name []) h good

sentences-good : (program : Program) (sentences : List Sentence) (units : List PrintUnit) → All (IsGivenSentence program) sentences → AreGood units →
    AreGood (flat_map (sentence_units program) sentences ++ units)
sentences-good program [] units h good = good
sentences-good program (sentence ∷ sentences) units h good =
    subst AreGood (sym (append_assoc (sentence_units program sentence) (flat_map (sentence_units program) sentences) units))
    (good-append (sentence_units program sentence) _
    (ended-good (sentence_lines program sentence) (sentence-lines-in program sentence) (All-head (IsGivenSentence program) sentence sentences h))
    (sentences-good program sentences units (All-tail (IsGivenSentence program) sentence sentences h) good))

paragraph-good : (program : Program) (paragraph : Paragraph) (units : List PrintUnit) → IsGivenParagraph program paragraph → AreGood units →
    AreGood (paragraph_units program paragraph ++ units)
paragraph-good program paragraph units h good =
    let section : List PrintUnit = section_line paragraph.section in
    let named : List PrintUnit = named_line paragraph.name in
    let sentences : List PrintUnit = flat_map (sentence_units program) paragraph.sentences in
    subst AreGood (sym (append_assoc (section ++ named) sentences units ∙ append_assoc section named (sentences ++ units)))
    (section-good paragraph.section _ h.section
    (named-good paragraph.name _ h.name
    (sentences-good program paragraph.sentences units h.sentences good)))

paragraphs-good : (program : Program) (paragraphs : List Paragraph) → All (IsGivenParagraph program) paragraphs →
    AreGood (paragraphs_units program paragraphs)
paragraphs-good program [] h = none-good
paragraphs-good program (paragraph ∷ paragraphs) h =
    paragraph-good program paragraph (paragraphs_units program paragraphs) (All-head (IsGivenParagraph program) paragraph paragraphs h)
    (paragraphs-good program paragraphs (All-tail (IsGivenParagraph program) paragraph paragraphs h))

pub program-good : (program : Program) → IsGiven program → AreGood (program_units program)
program-good program h =
    header-good (codes "IDENTIFICATION") (codes "DIVISION") _ (reserved-free (codes "IDENTIFICATION") refl refl)
    (reserved-free (codes "DIVISION") refl refl)
    (program_id-good program.name _ h.name
    (subst AreGood
    (sym (append_assoc (environment_units program program.files) (data_units program program.entries) (procedure_units program program.paragraphs)))
    (environment-good program program.files _ h.files
    (data-good program program.entries _ h.entries
    (header-good (codes "PROCEDURE") (codes "DIVISION") _ (reserved-free (codes "PROCEDURE") refl refl) (reserved-free (codes "DIVISION") refl refl)
    (paragraphs-good program program.paragraphs h.paragraphs))))))
