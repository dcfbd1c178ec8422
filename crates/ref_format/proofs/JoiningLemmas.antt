-- The literal at a text's end.
use Rattle.std.proofs.Common.{◌≡◌, ℕ, ◌==◌, ◌||◌, Bool, true, false, cond, List, [], ◌∷◌, ◌++◌, reverse, Option, None, Some, Result, Ok, Err, sym, ap, refl, ◌∙◌, subst}
use Rattle.std.specs.List.{list_any}
use Rattle.std.proofs.lemmas.List.{reverse-append, reverse-reverse}
use Rattle.std.proofs.lemmas.Bool.Decides.{Decides-eqb}
use Rattle.ref_format.specs.declared.placed.Placed.{Placed}
use Rattle.ref_format.specs.declared.fault.FormatFault.{FormatFault}
use Rattle.ref_format.specs.declared.fault.FormatError.{FormatError}
use Rattle.ref_format.specs.declared.fault.FormatError.TheVariants.{Fault}
use Rattle.ref_format.specs.declared.joining.Literal.{Literal}
use Rattle.ref_format.specs.declared.joining.Literal.TheVariants.{Closed, InQuotes, InApostrophes}
use Rattle.ref_format.specs.Placed.{placed, bytes_of}
use Rattle.ref_format.specs.Joining.{behind, behind_byte, has_mark, literal_at_end, unspaced_front, trimmed, line_end, joined_or}

pub behind-append : (literal : Literal) (front rest : List ℕ) → behind literal (front ++ rest) ≡ behind (behind literal front) rest
behind-append literal [] rest = refl
behind-append literal (b ∷ front) rest = behind-append (behind_byte literal b) front rest

pub bytes_of-append : (front rest : List Placed) → bytes_of (front ++ rest) ≡ bytes_of front ++ bytes_of rest
bytes_of-append [] rest = refl
bytes_of-append (p ∷ front) rest = ap (λ bytes. p.byte ∷ bytes) (bytes_of-append front rest)

pub bytes_of-placed : (number : ℕ) (bytes : List ℕ) → bytes_of (placed number bytes) ≡ bytes
bytes_of-placed number [] = refl
bytes_of-placed number (b ∷ bytes) = ap (λ rest. b ∷ rest) (bytes_of-placed number bytes)

pub literal_at_end-append : (front rest : List Placed) → literal_at_end (front ++ rest) ≡ behind (literal_at_end front) (bytes_of rest)
literal_at_end-append front rest = ap (behind Closed) (bytes_of-append front rest) ∙ behind-append Closed (bytes_of front) (bytes_of rest)

pub literal_at_end-placed : (text : List Placed) (number : ℕ) (bytes : List ℕ) → literal_at_end (text ++ placed number bytes) ≡ behind (literal_at_end text) bytes
literal_at_end-placed text number bytes = literal_at_end-append text (placed number bytes) ∙ ap (behind (literal_at_end text)) (bytes_of-placed number bytes)

or_false : (a b : Bool) → (a || b) ≡ false → (a ≡ false) × (b ≡ false)
or_false true b e = absurd cc
or_false false b e = (refl, e)

-- without a mark no literal opens
pub behind-unmarked : (bytes : List ℕ) → has_mark bytes ≡ false → behind Closed bytes ≡ Closed
behind-unmarked [] e = refl
behind-unmarked (b ∷ bytes) e =
    let both = or_false _ _ e in
    let quotes = or_false (b == 34) (list_any (λ b. b == 34) bytes) both.0 in
    let apostrophes = or_false (b == 39) (list_any (λ b. b == 39) bytes) both.1 in
    let rest : has_mark bytes ≡ false = rw (quotes.1, apostrophes.1) in
    rw (quotes.0, apostrophes.0) (behind-unmarked bytes rest)

-- a space neither opens nor closes a literal
behind_byte-space : (literal : Literal) → behind_byte literal 32 ≡ literal
behind_byte-space Closed = refl
behind_byte-space InQuotes = refl
behind_byte-space InApostrophes = refl

behind_byte-line_end : (literal : Literal) → behind_byte literal 10 ≡ Closed
behind_byte-line_end Closed = refl
behind_byte-line_end InQuotes = refl
behind_byte-line_end InApostrophes = refl

pub reverse-cons : (p : Placed) (text : List Placed) → reverse (p ∷ text) ≡ reverse text ++ p ∷ []
reverse-cons p text = reverse-append (p ∷ []) text

pub reverse-push : (text : List Placed) (p : Placed) → reverse (text ++ p ∷ []) ≡ p ∷ reverse text
reverse-push text p = reverse-append text (p ∷ [])

front_kept : (text : List Placed) → literal_at_end (reverse (unspaced_front text)) ≡ literal_at_end (reverse text)
front_kept [] = refl
front_kept (p ∷ text) = elim (p.byte == 32) as (λ t. (p.byte == 32) ≡ t → literal_at_end (reverse (cond t (unspaced_front text) (p ∷ text))) ≡ literal_at_end (reverse (p ∷ text))) [ true ↦ λ e. less p text (front_kept text) ((Decides-eqb p.byte 32).0 e) | false ↦ λ _. refl ] refl where
  less : (p : Placed) (text : List Placed) → literal_at_end (reverse (unspaced_front text)) ≡ literal_at_end (reverse text) → p.byte ≡ 32 → literal_at_end (reverse (unspaced_front text)) ≡ literal_at_end (reverse (p ∷ text))
  less p text same e =
      let last : literal_at_end (reverse text ++ p ∷ []) ≡ behind_byte (literal_at_end (reverse text)) p.byte = literal_at_end-append (reverse text) (p ∷ []) in
      let stays : behind_byte (literal_at_end (reverse text)) p.byte ≡ literal_at_end (reverse text) = ap (behind_byte (literal_at_end (reverse text))) e ∙ behind_byte-space (literal_at_end (reverse text)) in
      same ∙ sym stays ∙ sym last ∙ sym (ap literal_at_end (reverse-cons p text))

pub literal_at_end-trimmed : (literal : Literal) (text : List Placed) → literal_at_end (trimmed literal text) ≡ literal_at_end text
literal_at_end-trimmed Closed text = front_kept (reverse text) ∙ ap literal_at_end (reverse-reverse text)
literal_at_end-trimmed InQuotes text = refl
literal_at_end-trimmed InApostrophes text = refl

-- behind a line's end no literal is open, nor before the first line
pub literal_at_end-line_end : (last : Option ℕ) (text : List Placed) → (last ≡ None → text ≡ []) → literal_at_end (text ++ line_end last) ≡ Closed
literal_at_end-line_end None text first = literal_at_end-append text [] ∙ ap literal_at_end (first refl)
literal_at_end-line_end (Some number) text first = literal_at_end-placed text number (10 ∷ []) ∙ behind_byte-line_end (literal_at_end text)

-- the fault that an answer tells
pub none_of_ok : {A : Type 0} (fault : Option FormatFault) (value answer : A) → joined_or fault (Ok value) ≡ Ok answer → fault ≡ None
none_of_ok None value answer e = refl
none_of_ok (Some found) value answer e = absurd cc

pub some_of_err : {A : Type 0} (fault : Option FormatFault) (value : A) (error : FormatError) → joined_or fault (Ok value) ≡ Err error → (found : FormatFault) × (fault ≡ Some found) × (error ≡ Fault found)
some_of_err None value error e = absurd cc
some_of_err (Some found) value error e = (found, refl, cc)

pub err_told : {A : Type 0} (meant : Result A FormatError) (fault : FormatFault) (error : FormatError) → meant ≡ Err (Fault fault) → error ≡ Fault fault → meant ≡ Err error
err_told meant fault error is e = subst (λ f. meant ≡ Err f) (sym e) is
