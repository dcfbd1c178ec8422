-- What is printed of a mask can be printed: it is a picture that fits on a line.
use Rattle.std.proofs.Common.{◌≡◌, ℕ, suc, ◌+◌, ◌-◌, ◌≤◌, Bool, true, false, not, ◌==◌, ◌&&◌, ◌||◌, if◌then◌else◌, nat_le, List, [], ◌∷◌, length, take, Option, Some, None, Result, Ok, Err, refl, sym, ap, ◌∙◌, subst, arith, cond}
use Rattle.std.specs.Prelude.{slice_index, codes}
use Rattle.std.specs.Char.{to_ascii_uppercase}
use Rattle.std.specs.List.{list_all, prefix_len}
use Rattle.std.proofs.lemmas.Bool.{and_parts, not-true}
use Rattle.std.proofs.lemmas.List.Sums.{AllPass-from_list_all}
use Rattle.std.proofs.lemmas.Bool.Decides.{nat_tests}
use Rattle.cob_base.specs.Bytes.{comma}
use Rattle.cob_base.specs.Spelling.{word_byte}
use Rattle.edit_fields.specs.declared.fault.MaskFault.{MaskFault}
use Rattle.edit_fields.specs.declared.shape.Shape.{Shape}
use Rattle.edit_fields.specs.declared.reading.SymbolPlace.{SymbolPlace}
use Rattle.edit_fields.specs.declared.reading.SymbolPlace.TheVariants as places
use Rattle.edit_fields.specs.declared.extent.Extent.{Extent}
use Rattle.edit_fields.specs.declared.reading.Reading.{Reading}
use Rattle.edit_fields.specs.Symbol.{is_sign, is_suppressor, is_insertion, is_point, is_tail_letter, is_symbol, symbol_9, symbol_comma, symbol_dollar, symbol_period, symbol_r, symbol_v}
use Rattle.edit_fields.specs.Shape.{behind, sign_by, dollar_by, suppressor_by, nine_by, insertion_by, point_by, letter_by, last_letter_by, digits, is_whole}
use Rattle.edit_fields.specs.Extent.{ends_well, is_short, longer}
use Rattle.edit_fields.specs.Mask.{IsHeldMask}
use Rattle.edit_fields.specs.Reading.{added_by, closed, counted, end_fault, fault_from, fault_of, in_count, is_counting, is_digit, is_parenthesis, last_position, left_parenthesis, mask_fault_of, placed, right_parenthesis, start, step, step_by, symbol, symbol_fault}
use Rattle.edit_fields.specs.Laws.{printed, printed_from, run_text}
use Rattle.edit_fields.proofs.BranchLemmas.{either_way}
use Rattle.edit_fields.proofs.MasksAreWrittenOut.{err_none, longer_last}
use Rattle.edit_fields.proofs.PrintedMasksAreRead.{end_good, printed_masks_are_read}
use Rattle.edit_fields.proofs.PrintedMasksAreShort.{printed_masks_are_short}
use Rattle.cobol_lex.specs.Byte.{is_white, is_separator}
use Rattle.cobol_lex.specs.Picture.{ends_picture}
use Rattle.cobol_lex.specs.Word.{spells, word_run}
use Rattle.cobol_print.specs.Given.{IsPrintable}
use Rattle.cobol_print.specs.Unit.{is_ink}

-- ---- the bytes of a text that is read as a mask

-- a symbol, or a byte of a count
abbrev pub is_byte : ℕ → Bool
is_byte b = is_symbol b || (is_parenthesis b || is_digit b)

apart : {A : Type 0} → false ≡ true → A
apart e = absurd cc

both : {a b : Bool} → a ≡ true → b ≡ true → (a && b) ≡ true
both {a = true} {b = b} h k = k
both {a = false} {b = b} h k = apart h

-- what may come is a symbol
chosen : (sign dollar fill nine more point tail r : Bool) (a b c d e f g h : Option Shape) (next : Shape) →
    (if sign then a else if dollar then b else if fill then c else if nine then d else if more then e else if point then f else if tail then g else if r then h else None) ≡ Some next →
    (sign || dollar || fill || nine || more || point || tail || r) ≡ true
chosen true dollar fill nine more point tail r a b c d e f g h next is = refl
chosen false true fill nine more point tail r a b c d e f g h next is = refl
chosen false false true nine more point tail r a b c d e f g h next is = refl
chosen false false false true more point tail r a b c d e f g h next is = refl
chosen false false false false true point tail r a b c d e f g h next is = refl
chosen false false false false false true tail r a b c d e f g h next is = refl
chosen false false false false false false true r a b c d e f g h next is = refl
chosen false false false false false false false true a b c d e f g h next is = refl
chosen false false false false false false false false a b c d e f g h next is = absurd cc

pub comes-symbol : (byte : ℕ) (shape next : Shape) → behind byte shape ≡ Some next → is_symbol byte ≡ true
unfolding behind
comes-symbol byte shape next is =
    chosen (is_sign byte) (byte == symbol_dollar) (is_suppressor byte) (byte == symbol_9) (is_insertion byte) (is_point byte) (is_tail_letter byte) (byte == symbol_r)
    (sign_by shape.stage byte shape) (dollar_by shape.stage shape) (suppressor_by shape.stage byte shape) (nine_by shape.stage shape)
    (insertion_by shape.stage byte shape) (point_by shape.stage shape) (letter_by shape.stage byte shape) (last_letter_by shape.stage shape) next is

or-left : (a b : Bool) → a ≡ true → (a || b) ≡ true
or-left true b e = refl
or-left false b e = apart e

or-right : (a b : Bool) → b ≡ true → (a || b) ≡ true
or-right true b e = refl
or-right false b e = e

symbol-byte : (n u : ℕ) (reading next : Reading) → symbol n u reading ≡ Ok next → is_byte u ≡ true
symbol-byte n u reading next = go (behind u reading.shape) refl
  where
    go : (may : Option Shape) → behind u reading.shape ≡ may → placed (symbol_fault n u) (if u == symbol_v then places.Open else places.Behind n) (added_by u may reading) ≡ Ok next → is_byte u ≡ true
    go None e is = absurd cc
    go (Some shape) e is = or-left (is_symbol u) (is_parenthesis u || is_digit u) (comes-symbol u reading.shape shape e)

parenthesis-byte : (u : ℕ) → is_parenthesis u ≡ true → is_byte u ≡ true
parenthesis-byte u e = or-right (is_symbol u) (is_parenthesis u || is_digit u) (or-left (is_parenthesis u) (is_digit u) e)

count-byte : (n at count u : ℕ) (reading next : Reading) → in_count n at count u reading ≡ Ok next → is_byte u ≡ true
count-byte n at count u reading next = go (is_digit u) refl (u == right_parenthesis) refl
  where
    go : (d : Bool) → is_digit u ≡ d → (r : Bool) → (u == right_parenthesis) ≡ r →
        (if d then Ok (record reading { place = places.Count at (counted count (u - 48)) }) else if r then closed n at count reading else Err (fault_of n u)) ≡ Ok next → is_byte u ≡ true
    go true d r f is = or-right (is_symbol u) (is_parenthesis u || is_digit u) (or-right (is_parenthesis u) (is_digit u) d)
    go false d true f is = parenthesis-byte u (or-right (u == left_parenthesis) (u == right_parenthesis) f)
    go false d false f is = absurd cc

step-byte : (place : SymbolPlace) (n u : ℕ) (reading next : Reading) → step_by place n u reading ≡ Ok next → is_byte u ≡ true
step-byte places.Open n u reading next is = symbol-byte n u reading next is
step-byte (places.Behind at) n u reading next is = go (u == left_parenthesis) refl is
  where
    go : (b : Bool) → (u == left_parenthesis) ≡ b → (if b then Ok (record reading { place = places.Count at 0 }) else symbol n u reading) ≡ Ok next → is_byte u ≡ true
    go true e is = parenthesis-byte u (or-left (u == left_parenthesis) (u == right_parenthesis) e)
    go false e is = symbol-byte n u reading next is
step-byte (places.Count at count) n u reading next is = count-byte n at count u reading next is

-- reading goes on behind a byte
reads-on : {A : Type 0} (n : ℕ) (made : Result Reading MaskFault) (rest : List ℕ) → fault_from n made rest ≡ None → ((next : Reading) → made ≡ Ok next → fault_from n (Ok next) rest ≡ None → A) → A
reads-on n (Err fault) rest e go = absurd (err_none n fault rest e)
reads-on n (Ok next) rest e go = go next refl e

abbrev pub AreBytes : List ℕ → Type 0
AreBytes text = list_all (λ b. is_byte (to_ascii_uppercase b)) text ≡ true

pub rest-bytes : (text : List ℕ) (n : ℕ) (reading : Reading) → fault_from n (Ok reading) text ≡ None → AreBytes text
unfolding fault_from step
rest-bytes [] n reading e = refl
rest-bytes (byte ∷ rest) n reading e =
    reads-on (n + 1) (step (n + 1) (to_ascii_uppercase byte) reading) rest e
    (λ next is f. both (step-byte reading.place (n + 1) (to_ascii_uppercase byte) reading next is) (rest-bytes rest (n + 1) next f))

-- ---- the last byte

abbrev is_stop : ℕ → Bool
is_stop u = u == symbol_period || u == symbol_comma

stop-no-left : (u : ℕ) → is_stop u ≡ true → (u == left_parenthesis) ≡ false
stop-no-left u h = grind (arith, nat_tests)

stop-no-right : (u : ℕ) → is_stop u ≡ true → (u == right_parenthesis) ≡ false
stop-no-right u h = grind (arith, nat_tests)

stop-no-digit : (u : ℕ) → is_stop u ≡ true → is_digit u ≡ false
stop-no-digit u h = grind (arith, nat_tests)

placed-extent : (fault : MaskFault) (place : SymbolPlace) (made next : Reading) → placed fault place (Some made) ≡ Ok next → next.extent ≡ made.extent
placed-extent fault place made next e = cc

-- a symbol is the last one then
symbol-last : (n u : ℕ) (reading next : Reading) → symbol n u reading ≡ Ok next → next.extent.last ≡ u
symbol-last n u reading next = go (behind u reading.shape)
  where
    go : (may : Option Shape) → placed (symbol_fault n u) (if u == symbol_v then places.Open else places.Behind n) (added_by u may reading) ≡ Ok next → next.extent.last ≡ u
    go None is = absurd cc
    go (Some shape) is =
        ap (λ (e : Extent). e.last) (placed-extent (symbol_fault n u) (if u == symbol_v then places.Open else places.Behind n) (record reading { shape = shape; extent = longer u reading.extent }) next is)
        ∙ longer_last u reading.extent

-- a period or a comma is a symbol, wherever it stands
stop-last : (place : SymbolPlace) (n u : ℕ) (reading next : Reading) → is_stop u ≡ true → step_by place n u reading ≡ Ok next → next.extent.last ≡ u
stop-last places.Open n u reading next stop is = symbol-last n u reading next is
stop-last (places.Behind at) n u reading next stop is =
    symbol-last n u reading next (subst (λ b. (if b then Ok (record reading { place = places.Count at 0 }) else symbol n u reading) ≡ Ok next) (stop-no-left u stop) is)
stop-last (places.Count at count) n u reading next stop is =
    absurd (never (subst (λ b. (if b then closed n at count reading else Err (fault_of n u)) ≡ Ok next) (stop-no-right u stop)
    (subst (λ b. (if b then Ok (record reading { place = places.Count at (counted count (u - 48)) }) else if u == right_parenthesis then closed n at count reading else Err (fault_of n u)) ≡ Ok next) (stop-no-digit u stop) is)))
  where
    never : Err (fault_of n u) ≡ Ok next → ⊥
    never e = cc

ends-so : (last : ℕ) (reading : Reading) → end_fault last reading ≡ None → is_stop reading.extent.last ≡ false
unfolding end_fault
ends-so last reading h =
    let good = end_good (is_counting reading.place) (is_whole reading.shape) (nat_le (digits reading.shape) 18) (is_short reading.extent && reading.extent.edits && ends_well reading.extent) _ _ _ h in
    not-true (is_stop reading.extent.last) (and_parts (is_short reading.extent && reading.extent.edits) (ends_well reading.extent) good).1

abbrev last_byte : List ℕ → ℕ
last_byte text = slice_index text (length text - 1)

no-stop : (byte n : ℕ) (reading : Reading) → fault_from n (Ok reading) (byte ∷ []) ≡ None → is_stop (to_ascii_uppercase byte) ≡ false
unfolding fault_from step
no-stop byte n reading e =
    reads-on (n + 1) (step (n + 1) (to_ascii_uppercase byte) reading) [] e
    (λ next is f. go next is f (is_stop (to_ascii_uppercase byte)) refl)
  where
    go : (next : Reading) → step_by reading.place (n + 1) (to_ascii_uppercase byte) reading ≡ Ok next → end_fault (last_position (n + 1)) next ≡ None →
        (b : Bool) → is_stop (to_ascii_uppercase byte) ≡ b → b ≡ false
    go next is f false stop = refl
    go next is f true stop =
        let last : is_stop next.extent.last ≡ true = ap is_stop (stop-last reading.place (n + 1) (to_ascii_uppercase byte) reading next stop is) ∙ stop in
        apart (sym (ends-so (last_position (n + 1)) next f) ∙ last)

rest-last : (byte : ℕ) (rest : List ℕ) (n : ℕ) (reading : Reading) → fault_from n (Ok reading) (byte ∷ rest) ≡ None → is_stop (to_ascii_uppercase (last_byte (byte ∷ rest))) ≡ false
unfolding fault_from
rest-last byte [] n reading e = no-stop byte n reading e
rest-last byte (next ∷ rest) n reading e =
    let one : length (byte ∷ next ∷ rest) - 1 ≡ suc (length (next ∷ rest) - 1) = omega arith in
    ap (λ k. is_stop (to_ascii_uppercase (slice_index (byte ∷ next ∷ rest) k))) one
    ∙ reads-on (n + 1) (step (n + 1) (to_ascii_uppercase byte) reading) (next ∷ rest) e (λ after is f. rest-last next rest (n + 1) after f)

-- ---- what such bytes are

byte-filled : (b : ℕ) → is_byte (to_ascii_uppercase b) ≡ true → not (is_white b) ≡ true
byte-filled b h = grind (arith, nat_tests)

byte-ink : (b : ℕ) → is_byte (to_ascii_uppercase b) ≡ true → is_ink b ≡ true
byte-ink b h = grind (arith, nat_tests)

byte-other : (b : ℕ) → is_byte (to_ascii_uppercase b) ≡ true → (to_ascii_uppercase b == 73) ≡ false
byte-other b h = grind (arith, nat_tests)

byte-begins : (b : ℕ) → is_byte (to_ascii_uppercase b) ≡ true → (b == comma) ≡ false → is_separator b ≡ false
byte-begins b h k = grind (arith, nat_tests)

byte-ends : (b : ℕ) → is_byte (to_ascii_uppercase b) ≡ true → is_stop (to_ascii_uppercase b) ≡ false → ends_picture b ≡ false
byte-ends b h k = grind (arith, nat_tests)

each : (p q : ℕ → Bool) → ((b : ℕ) → p b ≡ true → q b ≡ true) → (bytes : List ℕ) → list_all p bytes ≡ true → list_all q bytes ≡ true
each p q h [] e = refl
each p q h (b ∷ bytes) e = let k = and_parts (p b) (list_all p bytes) e in both (h b k.0) (each p q h bytes k.1)

one-more : (n b : ℕ) (text : List ℕ) → take (1 + n) (b ∷ text) ≡ b ∷ take n text
one-more n b text = let one : 1 + n ≡ suc n = omega arith in ap (λ k. take k (b ∷ text)) one

-- none begins by the word IS
is-other : (byte : ℕ) (text : List ℕ) → is_byte (to_ascii_uppercase byte) ≡ true → spells (codes "IS") (word_run (byte ∷ text)) ≡ false
is-other byte text h = go (word_byte byte)
  where
    both-false : (x y : Bool) → x ≡ false → (x && y) ≡ false
    both-false true y e = absurd cc
    both-false false y e = refl

    go : (v : Bool) → spells (codes "IS") (take (cond v (1 + prefix_len word_byte text) 0) (byte ∷ text)) ≡ false
    go true = ap (spells (codes "IS")) (one-more (prefix_len word_byte text) byte text) ∙ both-false (to_ascii_uppercase byte == 73) _ (byte-other byte h)
    go false = refl

no-mask : mask_fault_of [] ≡ None → ⊥
unfolding fault_from end_fault
no-mask h = cc

-- a text that is read as a mask and is short
read-printable : (text : List ℕ) → mask_fault_of text ≡ None → length text ≤ 50 → (slice_index text 0 == comma) ≡ false → IsPrintable text
read-printable [] e few other = absurd (no-mask e)
read-printable (byte ∷ rest) e few other =
    let all : AreBytes (byte ∷ rest) = rest-bytes (byte ∷ rest) 0 start e in
    let first : is_byte (to_ascii_uppercase byte) ≡ true = (and_parts (is_byte (to_ascii_uppercase byte)) (list_all (λ b. is_byte (to_ascii_uppercase b)) rest) all).0 in
    let at = AllPass-from_list_all (λ b. is_byte (to_ascii_uppercase b)) (byte ∷ rest) all in
    let last : is_byte (to_ascii_uppercase (last_byte (byte ∷ rest))) ≡ true = at (length (byte ∷ rest) - 1) 0 (omega arith) in
    record {
      whole = record {
        some = omega arith;
        filled = each (λ b. is_byte (to_ascii_uppercase b)) (λ b. not (is_white b)) byte-filled (byte ∷ rest) all;
        begun = byte-begins byte first other;
        ended = byte-ends (last_byte (byte ∷ rest)) last (rest-last byte rest 0 start e);
      };
      short = few;
      ink = each (λ b. is_byte (to_ascii_uppercase b)) is_ink byte-ink (byte ∷ rest) all;
      other = is-other byte rest first;
    }

-- ---- a mask

run-first : (symbol run : ℕ) (more : List ℕ) → slice_index (run_text symbol run more) 0 ≡ symbol
run-first symbol run more = either_way (λ (l : List ℕ). slice_index l 0 ≡ symbol) (run == 1) _ _ (λ _. refl) (λ _. refl)

-- it is printed from its first symbol on
printed-first : (symbol run : ℕ) (rest : List ℕ) → slice_index (printed_from symbol run rest) 0 ≡ symbol
unfolding printed_from
printed-first symbol run [] = run-first symbol run []
printed-first symbol run (byte ∷ rest) =
    either_way (λ (l : List ℕ). slice_index l 0 ≡ symbol) (symbol == byte) _ _ (λ _. printed-first symbol (run + 1) rest) (λ _. run-first symbol run (printed_from byte 1 rest))

first-printed : (mask : List ℕ) → slice_index (printed mask) 0 ≡ slice_index mask 0
first-printed [] = refl
first-printed (byte ∷ rest) = printed-first byte 1 rest

pub mask-printable : (mask : List ℕ) → IsHeldMask mask → (slice_index mask 0 == comma) ≡ false → IsPrintable (printed mask)
mask-printable mask h other =
    read-printable (printed mask) (printed_masks_are_read mask h.is_mask h.capitals).0 (printed_masks_are_short mask h.is_mask h.capitals)
    (ap (λ b. b == comma) (first-printed mask) ∙ other)
