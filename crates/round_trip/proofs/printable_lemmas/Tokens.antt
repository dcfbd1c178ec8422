-- Words, names, numbers and marks that a line may have anywhere.
use Rattle.std.proofs.Common.{◌≡◌, ℕ, zero, suc, ◌<◌, Bool, true, false, not, ◌&&◌, List, [], ◌∷◌, ◌++◌, length, map, Option, Some, None, refl, ap, sym, arith}
use Rattle.std.specs.Prelude.{codes, nat_le, nat_lt, ◌||◌, ◌==◌, if◌then◌else◌, slice_get}
use Rattle.std.specs.List.{list_all}
use Rattle.std.specs.Str.{bytes_eq}
use Rattle.std.proofs.lemmas.Bool.{and_parts, leb-true}
use Rattle.std.proofs.lemmas.Bool.Decides.{nat_tests}
use Rattle.std.proofs.lemmas.List.Elements.{All-nil, All-cons, All-append}
use Rattle.std.proofs.lemmas.Slice.Eq.{bytes_eq-Decides}
use Rattle.cob_base.specs.Spelling.{IsCapitalWord, folded}
use Rattle.cob_tree.specs.declared.entry.Entry.{Entry}
use Rattle.cob_tree.specs.declared.number.Number.{Number}
use Rattle.cob_tree.specs.declared.program.Program.{Program}
use Rattle.cobol_lex.specs.Byte.{is_digit, is_mark}
use Rattle.cobol_lex.specs.Word.{spells, fits_word}
use Rattle.cobol_lex.specs.Written.{AreDigits}
use Rattle.cobol_lex.specs.declared.token.TokenKind.{TokenKind}
use Rattle.cobol_lex.specs.declared.token.TokenKind.TheVariants as kind
use Rattle.cobol_lex.proofs.WordLemmas.{fits-IsWord}
use Rattle.control_flow_theory.specs.language.All.{all}
use Rattle.program_facts.specs.well_scoped.Part.{is_filled, if_any, are_digits, number_named}
use Rattle.unparser.specs.Token.{Tokens, is_reserved_shape, number_token}
use Rattle.unparser.specs.Place.{entry_name, item_name}
use Rattle.parser_combinators.specs.words.Word.{is_letter, has_letter, is_free, is_data_word}
use Rattle.cobol_print.specs.Given.{IsFree, AreFree}
use Rattle.round_trip.specs.printable.printable_tokens.Printable.{IsPrintableWord}
use Rattle.round_trip.proofs.printable_lemmas.Free.{reserved, name-free, data-free}
use Rattle.round_trip.specs.printable.Part.{is_printable_name, is_printable_operand}
use Rattle.round_trip.specs.printable.Whole.{is_printable_entry, is_printable_picture, is_printable_count, is_printable_span}

-- ---- one behind the other, as tokens are written

pub record Fit (token : TokenKind) : Type 0 where
  pub free : IsFree token

pub record Fits (tokens : Tokens) : Type 0 where
  pub free : AreFree tokens

pub none : Fits []
none = record { free = All-nil IsFree }

infixr 67 ◌∷∷◌
pub ◌∷∷◌ : {token : TokenKind} {tokens : Tokens} → Fit token → Fits tokens → Fits (token ∷ tokens)
◌∷∷◌ {token = token} {tokens = tokens} h k = record { free = All-cons IsFree token tokens h.free k.free }

infixl 65 ◌+++◌
pub ◌+++◌ : {front back : Tokens} → Fits front → Fits back → Fits (front ++ back)
◌+++◌ {front = front} {back = back} h k = record { free = All-append IsFree front back h.free k.free }

-- ---- words of the language, and marks

abbrev is_key : List ℕ → Bool
is_key text = is_reserved_shape text && not (spells (codes "PIC") text || spells (codes "PICTURE") text)

no-not : (v : Bool) → not v ≡ true → v ≡ false
no-not false e = refl
no-not true e = sym e

pub word : (text : List ℕ) → is_key text ≡ true → Fit (kind.Word text)
word text h =
    let e = and_parts (is_reserved_shape text) (not (spells (codes "PIC") text || spells (codes "PICTURE") text)) h in
    record { free = reserved text e.0 (no-not (spells (codes "PIC") text || spells (codes "PICTURE") text) e.1) }

pub mark : (b : ℕ) → is_mark b ≡ true → Fit (kind.Mark b)
mark b h = record { free = (h, tt) }

pub less_equal : Fit kind.LessEqual
less_equal = record { free = (tt, tt) }

pub greater_equal : Fit kind.GreaterEqual
greater_equal = record { free = (tt, tt) }

-- ---- numbers

filled-some : (digits : List ℕ) → is_filled digits ≡ true → 0 < length digits
filled-some [] h = absurd cc
filled-some (d ∷ digits) h = omega arith

pub digits-are : (digits : List ℕ) → are_digits digits ≡ true → AreDigits digits
digits-are digits h =
    let e = and_parts (is_filled digits && nat_le (length digits) 18) (list_all is_digit digits) h in
    let f = and_parts (is_filled digits) (nat_le (length digits) 18) e.0 in
    record { some = filled-some digits f.0; few = leb-true (length digits) 18 f.1; digits_only = e.1 }

pub number-digits : (number : Number) → number_named number ≡ true → Fit (kind.Digits number.digits)
number-digits number h =
    record { free = (digits-are number.digits (and_parts (are_digits number.digits) (nat_le number.scale (length number.digits)) h).0, tt) }

pub number-free : (number : Number) → number_named number ≡ true → Fit (number_token number)
number-free number h = go (not number.negative && number.scale == 0)
  where
    e : (are_digits number.digits ≡ true) × (nat_le number.scale (length number.digits) ≡ true)
    e = and_parts (are_digits number.digits) (nat_le number.scale (length number.digits)) h

    go : (v : Bool) → Fit (if v then kind.Digits number.digits else kind.Decimal number)
    go true = number-digits number h
    go false = record { free = ((digits-are number.digits e.0, leb-true number.scale (length number.digits) e.1), tt) }

-- ---- names

apart : {A : Type 0} → false ≡ true → A
apart e = absurd cc

-- a letter is no digit
lettered : (b : ℕ) → is_letter b ≡ true → is_digit b ≡ false
lettered b h = grind (arith, nat_tests)

some-letter : (word : List ℕ) → has_letter word ≡ true → list_all is_digit word ≡ false
some-letter [] h = apart h
some-letter (b ∷ word) h = go (λ k. some-letter word k) (is_letter b) refl h
  where
    and-false : (x y : Bool) → y ≡ false → (x && y) ≡ false
    and-false true y e = e
    and-false false y e = refl

    go : (has_letter word ≡ true → list_all is_digit word ≡ false) → (v : Bool) → is_letter b ≡ v → (v || has_letter word) ≡ true →
        list_all is_digit (b ∷ word) ≡ false
    go others true is h = ap (λ v. v && list_all is_digit word) (lettered b is)
    go others false is h = and-false (is_digit b) (list_all is_digit word) (others h)

pub name-word : (name : List ℕ) → is_printable_name name ≡ true → IsPrintableWord name × (is_data_word name ≡ true)
unfolding is_data_word
name-word name h =
    let e = and_parts (fits_word name && bytes_eq (folded name) name) (is_data_word name) h in
    let f = and_parts (fits_word name) (bytes_eq (folded name) name) e.0 in
    let is : IsCapitalWord name = record { word = fits-IsWord name f.0; capital = (bytes_eq-Decides (folded name) name).0 f.1 } in
    ((is, some-letter name (and_parts (has_letter name) (is_free name) e.1).0), e.1)

pub printable-name : (name : List ℕ) → is_printable_name name ≡ true → Fit (kind.Word name)
printable-name name h = let w = name-word name h in record { free = name-free name w.0 (data-free name w.1) }

-- the names of entries

pub filler-free : Fit (kind.Word (codes "FILLER"))
filler-free = word (codes "FILLER") refl

-- what is asked of an entry, part by part
pub record EntryFine (entry : Entry) : Type 0 where
  pub level : nat_lt entry.level 100 ≡ true
  pub name : if_any is_printable_name entry.name ≡ true
  pub picture : if_any is_printable_picture entry.picture ≡ true
  pub occurs : if_any is_printable_count entry.occurs ≡ true
  pub value : if_any is_printable_operand entry.value ≡ true
  pub ranges : all (map is_printable_span entry.ranges) ≡ true

six : (a b c d e f : Bool) → (a && b && c && d && e && f) ≡ true →
    (a ≡ true) × (b ≡ true) × (c ≡ true) × (d ≡ true) × (e ≡ true) × (f ≡ true)
six a b c d e f h =
    let i = and_parts (a && b && c && d && e) f h in
    let j = and_parts (a && b && c && d) e i.0 in
    let k = and_parts (a && b && c) d j.0 in
    let l = and_parts (a && b) c k.0 in
    let m = and_parts a b l.0 in (m.0, m.1, l.1, k.1, j.1, i.1)

pub entry-fine : (entry : Entry) → is_printable_entry entry ≡ true → EntryFine entry
entry-fine entry h =
    let e = six (nat_lt entry.level 100) (if_any is_printable_name entry.name) (if_any is_printable_picture entry.picture)
    (if_any is_printable_count entry.occurs) (if_any is_printable_operand entry.value) (all (map is_printable_span entry.ranges)) h in
    record { level = e.0; name = e.1; picture = e.2; occurs = e.3; value = e.4; ranges = e.5 }

given-name : (name : Option (List ℕ)) → if_any is_printable_name name ≡ true → Fit (kind.Word (elim name [ None ↦ codes "FILLER" | Some name ↦ name ]))
given-name None h = filler-free
given-name (Some name) h = printable-name name h

pub entry-free : (entry : Entry) → is_printable_entry entry ≡ true → Fit (kind.Word (entry_name (Some entry)))
entry-free entry h = given-name entry.name (entry-fine entry h).name

entry-at : (entries : List Entry) (number : ℕ) → all (map is_printable_entry entries) ≡ true → Fit (kind.Word (entry_name (slice_get entries number)))
entry-at [] number h = filler-free
entry-at (entry ∷ entries) zero h = entry-free entry (and_parts (is_printable_entry entry) (all (map is_printable_entry entries)) h).0
entry-at (entry ∷ entries) (suc number) h = entry-at entries number (and_parts (is_printable_entry entry) (all (map is_printable_entry entries)) h).1

-- each item of the program has a name that a line may have
abbrev pub ItemsNamed : Program → Type 0
ItemsNamed program = (number : ℕ) → Fit (kind.Word (item_name program number))

pub items-named : (program : Program) → all (map is_printable_entry program.entries) ≡ true → ItemsNamed program
items-named program h number = entry-at program.entries number h
