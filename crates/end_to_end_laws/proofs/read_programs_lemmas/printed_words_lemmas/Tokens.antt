-- Tokens that the profile doesn't leave out.
use Rattle.std.proofs.Common.{◌≡◌, ℕ, zero, suc, Bool, true, false, not, ◌&&◌, List, [], ◌∷◌, ◌++◌, map, Option, Some, None, refl, ap, sym, ◌∙◌, subst}
use Rattle.std.specs.Prelude.{codes, ◌||◌, ◌==◌, if◌then◌else◌, slice_get}
use Rattle.std.specs.List.{list_all}
use Rattle.std.specs.Str.{bytes_eq}
use Rattle.std.proofs.lemmas.Bool.{and_parts}
use Rattle.std.proofs.lemmas.Slice.Eq.{bytes_eq-Decides}
use Rattle.cob_tree.specs.declared.entry.Entry.{Entry}
use Rattle.cob_tree.specs.declared.number.Number.{Number}
use Rattle.cob_tree.specs.declared.program.Program.{Program}
use Rattle.cob_words.specs.Lists.{reserved_words, left_out_words, is_listed}
use Rattle.cobol_lex.specs.declared.token.Token.{Token}
use Rattle.cobol_lex.specs.declared.token.TokenKind.{TokenKind}
use Rattle.cobol_lex.specs.declared.token.TokenKind.TheVariants as kind
use Rattle.cobol_read.specs.declared.refusal.ReadFault.{ReadFault}
use Rattle.cobol_read.specs.declared.refusal.ReadFault.TheVariants as faults
use Rattle.cobol_read.specs.LeftOut.{kind_refusal, or_else, first_left_out}
use Rattle.round_trip.proofs.printable_lemmas.Free.{LabelIs, A_word, A_number, label-is, word-token, number-token, data-free}
use Rattle.control_flow_theory.specs.language.All.{all}
use Rattle.grammar_laws.specs.form_results.Giving.{Each}
use Rattle.program_facts.specs.well_scoped.Part.{if_any}
use Rattle.unparser.specs.Token.{Tokens, number_token, procedure_token}
use Rattle.unparser.specs.Place.{entry_name, item_name}
use Rattle.round_trip.specs.printable.Part.{is_printable_name}
use Rattle.round_trip.specs.printable.Whole.{is_printable_entry}
use Rattle.round_trip.proofs.printable_lemmas.Tokens.{name-word, entry-fine}
use Rattle.round_trip.specs.printable.printable_tokens.Header.{IsHeaderName}
use Rattle.parser_combinators.specs.words.Word.{is_free}

-- ---- one behind the other

-- it isn't left out, wherever it stands
abbrev pub IsAllowed : TokenKind → Type 0
IsAllowed token = (line : ℕ) → kind_refusal token line ≡ None

pub record Allowed (token : TokenKind) : Type 0 where
  pub allowed : IsAllowed token

pub record AreAllowed (tokens : Tokens) : Type 0 where
  pub allowed : Each IsAllowed tokens

pub none : AreAllowed []
none = record { allowed = tt }

pub append : {A : Type 0} (P : A → Type 0) (front back : List A) → Each P front → Each P back → Each P (front ++ back)
append P [] back h k = k
append P (x ∷ front) back h k = (h.0, append P front back h.1 k)

infixr 67 ◌∷∷◌
pub ◌∷∷◌ : {token : TokenKind} {tokens : Tokens} → Allowed token → AreAllowed tokens → AreAllowed (token ∷ tokens)
◌∷∷◌ h k = record { allowed = (h.allowed, k.allowed) }

infixl 65 ◌+++◌
pub ◌+++◌ : {front back : Tokens} → AreAllowed front → AreAllowed back → AreAllowed (front ++ back)
◌+++◌ {front = front} {back = back} h k = record { allowed = append IsAllowed front back h.allowed k.allowed }

-- ---- words of the language

-- the words that programs are printed with, beside their own names
abbrev own_words : List (List ℕ)
own_words =
    codes "ADD" ∷ codes "ADVANCING" ∷ codes "AFTER" ∷ codes "ALPHABETIC" ∷ codes "AND" ∷ codes "ANY"
    ∷ codes "ASSIGN" ∷ codes "AT" ∷ codes "BINARY" ∷ codes "BY" ∷ codes "CLOSE" ∷ codes "COMPUTE" ∷ codes "CONTINUE"
    ∷ codes "CYCLE" ∷ codes "DATA" ∷ codes "DEPENDING" ∷ codes "DISPLAY" ∷ codes "DIVIDE" ∷
    codes "DIVISION" ∷ codes "ELSE" ∷ codes "END" ∷ codes "END-ADD" ∷ codes "END-COMPUTE" ∷
    codes "END-DIVIDE" ∷ codes "END-EVALUATE" ∷ codes "END-IF" ∷ codes "END-MULTIPLY" ∷
    codes "END-PERFORM" ∷ codes "END-READ" ∷ codes "END-SUBTRACT" ∷ codes "ENVIRONMENT" ∷
    codes "ERROR" ∷ codes "EVALUATE" ∷ codes "EXIT" ∷ codes "EXTEND" ∷ codes "FALSE" ∷ codes "FD" ∷
    codes "FILE" ∷ codes "FILE-CONTROL" ∷ codes "FILLER" ∷ codes "FROM" ∷ codes "GIVING" ∷
    codes "GO" ∷ codes "HIGH-VALUE" ∷ codes "I-O" ∷ codes "IDENTIFICATION" ∷ codes "IF" ∷
    codes "INPUT" ∷ codes "INPUT-OUTPUT" ∷ codes "INTO" ∷ codes "IS" ∷ codes "LEADING" ∷
    codes "LOW-VALUE" ∷ codes "MOVE" ∷ codes "MULTIPLY" ∷ codes "NEGATIVE" ∷ codes "NEXT" ∷
    codes "NO" ∷ codes "NOT" ∷ codes "NUMERIC" ∷ codes "OCCURS" ∷ codes "OF" ∷ codes "ON" ∷
    codes "OPEN" ∷ codes "OR" ∷ codes "OTHER" ∷ codes "OUTPUT" ∷ codes "PACKED-DECIMAL" ∷ codes "PARAGRAPH" ∷ codes "PERFORM"
    ∷ codes "PIC" ∷ codes "POSITIVE" ∷ codes "PROCEDURE" ∷ codes "PROGRAM-ID" ∷ codes "QUOTE" ∷
    codes "READ" ∷ codes "REDEFINES" ∷ codes "REWRITE" ∷ codes "ROUNDED" ∷ codes "RUN" ∷
    codes "SECTION" ∷ codes "SELECT" ∷ codes "SENTENCE" ∷ codes "SEPARATE" ∷ codes "SET" ∷
    codes "SIGN" ∷ codes "SIZE" ∷ codes "SPACE" ∷ codes "STATUS" ∷ codes "STOP" ∷ codes "SUBTRACT" ∷
    codes "TEST" ∷ codes "THRU" ∷ codes "TIMES" ∷ codes "TO" ∷ codes "TRAILING" ∷ codes "TRUE" ∷
    codes "UNTIL" ∷ codes "VALUE" ∷ codes "VARYING" ∷ codes "WHEN" ∷ codes "WITH" ∷
    codes "WORKING-STORAGE" ∷ codes "WRITE" ∷ codes "ZERO" ∷ []

abbrev is_in : List ℕ → Bool
is_in word = not (is_listed left_out_words word)

own-in : list_all is_in own_words ≡ true
unfolding left_out_words
own-in = refl

apart : {A : Type 0} → false ≡ true → A
apart e = absurd cc

no-not : (v : Bool) → not v ≡ true → v ≡ false
no-not false e = refl
no-not true e = sym e

-- what all of a list are, one of them is
listed-in : (words : List (List ℕ)) (word : List ℕ) → list_all is_in words ≡ true → is_listed words word ≡ true → is_in word ≡ true
listed-in [] word h k = apart k
listed-in (first ∷ words) word h k = go (λ k. listed-in words word e.1 k) (bytes_eq word first) refl k
  where
    e : (is_in first ≡ true) × (list_all is_in words ≡ true)
    e = and_parts (is_in first) (list_all is_in words) h

    go : (is_listed words word ≡ true → is_in word ≡ true) → (same : Bool) → bytes_eq word first ≡ same → (same || is_listed words word) ≡ true → is_in word ≡ true
    go others true s k = subst (λ w. is_in w ≡ true) (sym ((bytes_eq-Decides word first).0 s)) e.0
    go others false s k = others k

in-allowed : (word : List ℕ) → is_in word ≡ true → Allowed (kind.Word word)
in-allowed word h =
    record { allowed = λ line. ap (λ v. if v then Some (faults.LeftOut word line) else None) (no-not (is_listed left_out_words word) h) }

pub word : (text : List ℕ) → is_listed own_words text ≡ true → Allowed (kind.Word text)
word text h = in-allowed text (listed-in own_words text own-in h)

-- ---- marks, numbers and literals

pub mark : (b : ℕ) → Allowed (kind.Mark b)
mark b = record { allowed = λ line. refl }

pub less_equal : Allowed kind.LessEqual
less_equal = record { allowed = λ line. refl }

pub greater_equal : Allowed kind.GreaterEqual
greater_equal = record { allowed = λ line. refl }

pub period : Allowed kind.Period
period = record { allowed = λ line. refl }

pub text-allowed : (text : List ℕ) → Allowed (kind.Literal text)
text-allowed text = record { allowed = λ line. refl }

pub picture-allowed : (picture : List ℕ) → Allowed (kind.Picture picture)
picture-allowed picture = record { allowed = λ line. refl }

pub digits-allowed : (digits : List ℕ) → Allowed (kind.Digits digits)
digits-allowed digits = record { allowed = λ line. refl }

pub number-allowed : (number : Number) → Allowed (number_token number)
number-allowed number = go (not number.negative && number.scale == 0)
  where
    go : (v : Bool) → Allowed (if v then kind.Digits number.digits else kind.Decimal number)
    go true = digits-allowed number.digits
    go false = record { allowed = λ line. refl }

-- ---- names

-- a word that may be a name isn't left out
free-in : (name : List ℕ) → is_free name ≡ true → is_in name ≡ true
unfolding is_free
free-in name h = (and_parts (not (is_listed reserved_words name)) (is_in name) h).1

free-allowed : (name : List ℕ) → is_free name ≡ true → Allowed (kind.Word name)
free-allowed name h = in-allowed name (free-in name h)

pub printable-name : (name : List ℕ) → is_printable_name name ≡ true → Allowed (kind.Word name)
printable-name name h = free-allowed name (data-free name (name-word name h).1)

label-by : (label : List ℕ) → LabelIs label → Allowed (procedure_token label)
label-by label (A_word p f) = subst Allowed (sym (word-token label p)) (free-allowed label f)
label-by label (A_number d n) = subst Allowed (sym (number-token label d)) (digits-allowed label)

pub label-allowed : (label : List ℕ) → IsHeaderName label → Allowed (procedure_token label)
label-allowed label h = label-by label (label-is label h)

-- the names of entries

filler-allowed : Allowed (kind.Word (codes "FILLER"))
filler-allowed = word (codes "FILLER") refl

given-name : (name : Option (List ℕ)) → if_any is_printable_name name ≡ true → Allowed (kind.Word (elim name [ None ↦ codes "FILLER" | Some name ↦ name ]))
given-name None h = filler-allowed
given-name (Some name) h = printable-name name h

pub entry-name-allowed : (entry : Entry) → is_printable_entry entry ≡ true → Allowed (kind.Word (entry_name (Some entry)))
entry-name-allowed entry h = given-name entry.name (entry-fine entry h).name

entry-at : (entries : List Entry) (number : ℕ) → all (map is_printable_entry entries) ≡ true → Allowed (kind.Word (entry_name (slice_get entries number)))
entry-at [] number h = filler-allowed
entry-at (entry ∷ entries) zero h = entry-name-allowed entry (and_parts (is_printable_entry entry) (all (map is_printable_entry entries)) h).0
entry-at (entry ∷ entries) (suc number) h = entry-at entries number (and_parts (is_printable_entry entry) (all (map is_printable_entry entries)) h).1

-- the name of each item of the program isn't left out
abbrev pub ItemsNamed : Program → Type 0
ItemsNamed program = (number : ℕ) → Allowed (kind.Word (item_name program number))

pub items-named : (program : Program) → all (map is_printable_entry program.entries) ≡ true → ItemsNamed program
items-named program h number = entry-at program.entries number h

-- ---- tokens on their lines

or-none : (early late : Option ReadFault) → early ≡ None → late ≡ None → or_else early late ≡ None
or-none early late e k = ap (λ refusal. or_else refusal late) e ∙ k

pub none-left-out : (tokens : List Token) → Each IsAllowed (map (λ (token : Token). token.kind) tokens) → first_left_out tokens ≡ None
unfolding first_left_out
none-left-out [] h = refl
none-left-out (token ∷ tokens) h =
    or-none (kind_refusal token.kind token.line) (first_left_out tokens) (h.0 token.line) (none-left-out tokens h.1)
