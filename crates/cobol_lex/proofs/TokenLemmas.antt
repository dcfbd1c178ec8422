-- The tokens of a text, a token at a time.
use Rattle.std.proofs.Common.{ℕ, ◌≡◌, ◌≢◌, ◌<◌, ◌≤◌, ◌+◌, ◌-◌, zero, suc, true, false, List, [], ◌∷◌, ◌++◌, take, drop, length, get_or, ap, sym, ◌∙◌, arith, refl, append_assoc, add-one, drop-cons, drop-drop}
use Rattle.cob_base.specs.Answers.{Answers}
use Rattle.ref_format.specs.Placed.{bytes_of, lines_of}
use Rattle.cobol_lex.specs.Byte.{is_separator}
use Rattle.cobol_lex.specs.Awaits.{awaits_behind}
use Rattle.cobol_lex.specs.Lexeme.{next_lexeme}
use Rattle.cobol_lex.specs.Token.{with_token, tokens_from}
use Rattle.std.specs.Prelude.{IsErrAnd, Result, Ok, Err}
use Rattle.std.proofs.lemmas.Grind.{common_steps}
use Rattle.ref_format.specs.declared.placed.Placed.{Placed}
use Rattle.cobol_lex.specs.declared.token.Token.{Token}
use Rattle.cobol_lex.specs.declared.awaits.Awaits.{Awaits}
use Rattle.cobol_lex.specs.declared.lexeme.Lexeme.{Lexeme}
use Rattle.cobol_lex.specs.declared.fault.LexError.{LexError}
use Rattle.cobol_lex.specs.declared.fault.LexError.TheVariants as error

-- the tokens that have been read stand before those of what is left
abbrev pub tokens_behind : List Token → Result (List Token) LexError → Result (List Token) LexError
tokens_behind front (Ok tokens) = Ok (front ++ tokens)
tokens_behind front (Err fault) = Err fault

pub behind_none : (tokens : Result (List Token) LexError) → tokens_behind [] tokens ≡ tokens
behind_none (Ok tokens) = refl
behind_none (Err fault) = refl

behind_token : (front : List Token) (token : Token) (tokens : Result (List Token) LexError) →
    tokens_behind front (with_token token tokens) ≡ tokens_behind (front ++ token ∷ []) tokens
behind_token front token (Ok tokens) = ap Ok (sym (append_assoc front (token ∷ []) tokens))
behind_token front token (Err fault) = refl

-- the bytes of a token are passed over
passed_over : (n : ℕ) (awaits : Awaits) (p : Placed) (rest : List Placed) → n ≤ length rest →
    tokens_from n awaits p.byte rest ≡ tokens_from 0 awaits (get_or (bytes_of (p ∷ rest)) n 0) (drop n rest)
passed_over zero awaits p rest within = refl
passed_over (suc n) awaits p [] within = absurd (omega arith)
passed_over (suc n) awaits p (q ∷ rest) within = passed_over n awaits q rest (omega arith)

-- separators are passed over
separators_over : (n : ℕ) (awaits : Awaits) (p : Placed) (rest : List Placed) → n ≤ length rest →
    ((k : ℕ) → k < n → is_separator (get_or (bytes_of rest) k 0) ≡ true) →
    tokens_from 0 awaits p.byte rest ≡ tokens_from 0 awaits (get_or (bytes_of (p ∷ rest)) n 0) (drop n rest)
separators_over zero awaits p rest within each = refl
separators_over (suc n) awaits p [] within each = absurd (omega arith)
separators_over (suc n) awaits p (q ∷ rest) within each =
    let first : is_separator q.byte ≡ true = each 0 (omega arith) in
    rw first (separators_over n awaits q rest (omega arith) (λ k near. each (suc k) (omega arith)))

drop_bytes : (n : ℕ) (text : List Placed) → drop n (bytes_of text) ≡ bytes_of (drop n text)
drop_bytes zero text = refl
drop_bytes (suc n) [] = refl
drop_bytes (suc n) (p ∷ text) = drop_bytes n text

byte_at : (n : ℕ) (text : List Placed) (p : Placed) → n < length text → get_or (bytes_of text) n 0 ≡ (get_or text n p).byte
byte_at n [] p within = absurd (omega arith)
byte_at zero (q ∷ text) p within = refl
byte_at (suc n) (q ∷ text) p within = byte_at n text p (omega arith)

byte_behind : (at n : ℕ) (text : List Placed) → get_or (bytes_of (drop at text)) n 0 ≡ get_or (bytes_of text) (at + n) 0
byte_behind zero n text =
    let same : n ≡ zero + n = omega arith in
    ap (λ k. get_or (bytes_of text) k 0) same
byte_behind (suc at) n [] = refl
byte_behind (suc at) n (p ∷ text) =
    let same : suc (at + n) ≡ suc at + n = omega arith in
    byte_behind at n text ∙ ap (λ k. get_or (bytes_of (p ∷ text)) k 0) same

drop_lines : (n : ℕ) (text : List Placed) → drop n (lines_of text) ≡ lines_of (drop n text)
drop_lines zero text = refl
drop_lines (suc n) [] = refl
drop_lines (suc n) (p ∷ text) = drop_lines n text

pub length_lines : (text : List Placed) → length (lines_of text) ≡ length text
length_lines [] = refl
length_lines (p ∷ text) = ap suc (length_lines text)

-- the line of the next byte
line_at : (at : ℕ) (text : List Placed) (lines : List ℕ) (d : Placed) → at < length text → lines ≡ lines_of (drop at text) →
    get_or lines 0 0 ≡ (get_or text at d).line
line_at at text lines d within is = ap (λ l. get_or l 0 0) is ∙ ap (λ t. get_or (lines_of t) 0 0) (drop-cons text at d within)

-- the lines that are left behind so many bytes more
pub lines_passed : (at end n : ℕ) (text : List Placed) (lines lines' : List ℕ) → at + n ≡ end → lines ≡ lines_of (drop at text) → lines' ≡ drop n lines →
    lines' ≡ lines_of (drop end text)
lines_passed at end n text lines lines' reached is passed =
    passed ∙ ap (drop n) is ∙ drop_lines n (drop at text) ∙ ap lines_of (drop-drop n at text) ∙ ap (λ k. lines_of (drop k text)) reached

pub length_bytes : (text : List Placed) → length (bytes_of text) ≡ length text
length_bytes [] = refl
length_bytes (p ∷ text) = ap suc (length_bytes text)

get_or-default : (text : List Placed) (at : ℕ) (d d' : Placed) → at < length text → get_or text at d ≡ get_or text at d'
get_or-default [] at d d' within = absurd (omega arith)
get_or-default (p ∷ text) zero d d' within = refl
get_or-default (p ∷ text) (suc at) d d' within = get_or-default text at d d' (omega arith)

pub over_separator : (awaits : Awaits) (before at : ℕ) (text : List Placed) (p : Placed) → at < length text → get_or text at p ≡ p → is_separator p.byte ≡ true →
    tokens_from 0 awaits before (drop at text) ≡ tokens_from 0 awaits p.byte (drop (at + 1) text)
over_separator awaits before at text p within is_p separates =
    let lexeme : drop at text ≡ get_or text at p ∷ drop (suc at) text = drop-cons text at p within in
    rw (add-one, lexeme, is_p, separates)

pub over_token : (awaits : Awaits) (before at : ℕ) (text : List Placed) (p : Placed) (front : List Token) (lexeme : Lexeme) →
    at < length text → get_or text at p ≡ p → is_separator p.byte ≡ false →
    next_lexeme awaits before p.line (bytes_of (drop at text)) ≡ Ok lexeme → 0 < lexeme.length → lexeme.length ≤ length (drop at text) →
    tokens_behind front (tokens_from 0 awaits before (drop at text))
    ≡ tokens_behind (front ++ record { kind = lexeme.kind; line = p.line } ∷ [])
    (tokens_from 0 (awaits_behind awaits lexeme.kind) (get_or (bytes_of text) (at + lexeme.length - 1) 0) (drop (at + lexeme.length) text))
over_token awaits before at text p front lexeme within is_p other next some most =
    let rest = drop (suc at) text in
    let begun : drop at text ≡ p ∷ rest = drop-cons text at p within ∙ ap (λ q. q ∷ rest) is_p in
    let here : next_lexeme awaits before p.line (bytes_of (p ∷ rest)) ≡ Ok lexeme = ap (λ t. next_lexeme awaits before p.line (bytes_of t)) (sym begun) ∙ next in
    let token : Token = record { kind = lexeme.kind; line = p.line } in
    let more = lexeme.length - 1 in
    let place : at + more ≡ at + lexeme.length - 1 = omega arith in
    let behind : suc at + more ≡ at + lexeme.length = omega arith in
    let lengths : length (drop at text) ≡ suc (length rest) = ap length begun in
    let passed = passed_over more (awaits_behind awaits lexeme.kind) p rest (omega arith) in
    let last : get_or (bytes_of (p ∷ rest)) more 0 ≡ get_or (bytes_of text) (at + lexeme.length - 1) 0 =
    ap (λ t. get_or (bytes_of t) more 0) (sym begun) ∙ byte_behind at more text ∙ ap (λ k. get_or (bytes_of text) k 0) place in
    let left : drop more rest ≡ drop (at + lexeme.length) text = drop-drop more (suc at) text ∙ ap (λ k. drop k text) behind in
    let stepped : tokens_from 0 awaits before (p ∷ rest) ≡ with_token token (tokens_from more (awaits_behind awaits lexeme.kind) p.byte rest) = rw (other, here) in
    ap (λ t. tokens_behind front (tokens_from 0 awaits before t)) begun
    ∙ ap (tokens_behind front) stepped
    ∙ behind_token front token _
    ∙ ap (tokens_behind (front ++ token ∷ [])) (passed ∙ ap (λ b. tokens_from 0 (awaits_behind awaits lexeme.kind) b (drop more rest)) last ∙ ap (tokens_from 0 (awaits_behind awaits lexeme.kind) _) left)

pub at_fault : (awaits : Awaits) (before at : ℕ) (text : List Placed) (p : Placed) (front : List Token) (fault : LexError) →
    at < length text → get_or text at p ≡ p → is_separator p.byte ≡ false →
    next_lexeme awaits before p.line (bytes_of (drop at text)) ≡ Err fault →
    tokens_behind front (tokens_from 0 awaits before (drop at text)) ≡ Err fault
at_fault awaits before at text p front fault within is_p other next =
    let lexeme : drop at text ≡ get_or text at p ∷ drop (suc at) text = drop-cons text at p within in
    let begun : drop at text ≡ p ∷ drop (suc at) text = lexeme ∙ ap (λ q. q ∷ drop (suc at) text) is_p in
    let here : next_lexeme awaits before p.line (bytes_of (p ∷ drop (suc at) text)) ≡ Err fault = ap (λ t. next_lexeme awaits before p.line (bytes_of t)) (sym begun) ∙ next in
    rw (begun, other, here)

pub at_end : (awaits : Awaits) (before at : ℕ) (text : List Placed) (front : List Token) → length text ≤ at →
    tokens_behind front (tokens_from 0 awaits before (drop at text)) ≡ Ok front
at_end awaits before at text front past =
    let none : drop at text ≡ [] = grind (arith, common_steps) in
    rw none (grind (arith, common_steps))

take_rest : (n : ℕ) (bytes : List ℕ) → take (length bytes - n) (drop n bytes) ≡ drop n bytes
take_rest n bytes = grind (arith, common_steps)

-- the bytes of what is left
pub bytes_left : (n : ℕ) (bytes : List ℕ) (text : List Placed) → bytes ≡ bytes_of text → take (length bytes - n) (drop n bytes) ≡ bytes_of (drop n text)
bytes_left n bytes text placed = take_rest n bytes ∙ ap (drop n) placed ∙ drop_bytes n text

-- the byte at a place
here : (at : ℕ) (text : List Placed) (bytes : List ℕ) (d : Placed) → bytes ≡ bytes_of text → at < length text → get_or bytes at 0 ≡ (get_or text at d).byte
here at text bytes d placed within = ap (λ b. get_or b at 0) placed ∙ byte_at at text d within

-- a loop goes on behind separators
pub on_separators : (awaits : Awaits) (before before' at end : ℕ) (text : List Placed) (d : Placed) (bytes : List ℕ) (front : List Token) (whole : Result (List Token) LexError) →
    bytes ≡ bytes_of text →
    tokens_behind front (tokens_from 0 awaits before (drop at text)) ≡ whole →
    at < length bytes →
    is_separator (get_or bytes at 0) ≡ true →
    at < end → end ≤ length bytes →
    ((k : ℕ) → at < k → k < end → is_separator (get_or bytes k 0) ≡ true) →
    before' ≡ get_or bytes (end - 1) 0 →
    tokens_behind front (tokens_from 0 awaits before' (drop end text)) ≡ whole
on_separators awaits before before' at end text d bytes front whole placed so_far inside is_one further most each last =
    let p = get_or text at d in
    let within : at < length text = omega (arith, inside, ap length placed, length_bytes text) in
    let separates : is_separator p.byte ≡ true = ap is_separator (sym (here at text bytes d placed within)) ∙ is_one in
    let rest = drop (suc at) text in
    let n : ℕ = end - suc at in
    let begun : drop at text ≡ p ∷ rest = drop-cons text at d within in
    let lengths : length (drop at text) ≡ suc (length rest) = ap length begun in
    let long : length bytes ≡ length text = ap length placed ∙ length_bytes text in
    let fits : n ≤ length rest = grind (arith, common_steps) in
    let behind : (k : ℕ) → get_or (bytes_of rest) k 0 ≡ get_or bytes (suc at + k) 0 =
    λ k. byte_behind (suc at) k text ∙ ap (λ b. get_or b (suc at + k) 0) (sym placed) in
    let every : (k : ℕ) → k < n → is_separator (get_or (bytes_of rest) k 0) ≡ true =
    λ k near. ap is_separator (behind k) ∙ each (suc at + k) (omega arith) (omega arith) in
    let passed = separators_over n awaits p rest fits every in
    let stepped : tokens_from 0 awaits before (p ∷ rest) ≡ tokens_from 0 awaits p.byte rest = rw separates in
    let place : at + n ≡ end - 1 = omega arith in
    let byte : get_or (bytes_of (p ∷ rest)) n 0 ≡ before' =
    ap (λ t. get_or (bytes_of t) n 0) (sym begun) ∙ byte_behind at n text ∙ ap (λ b. get_or b (at + n) 0) (sym placed) ∙ ap (λ k. get_or bytes k 0) place ∙ sym last in
    let reached : suc at + n ≡ end = omega arith in
    let left : drop n rest ≡ drop end text = drop-drop n (suc at) text ∙ ap (λ k. drop k text) reached in
    let skipped : tokens_from 0 awaits before (drop at text) ≡ tokens_from 0 awaits before' (drop end text) =
    ap (tokens_from 0 awaits before) begun ∙ stepped ∙ passed ∙ ap (λ b. tokens_from 0 awaits b (drop n rest)) byte ∙ ap (tokens_from 0 awaits before') left in
    sym (ap (tokens_behind front) skipped) ∙ so_far

-- the same behind a token
pub on_token : (awaits awaits' : Awaits) (before before' at line : ℕ) (text : List Placed) (d : Placed) (bytes lines left : List ℕ) (front front' : List Token) (lexeme : Lexeme) (whole : Result (List Token) LexError) →
    bytes ≡ bytes_of text →
    lines ≡ lines_of (drop at text) →
    line ≡ get_or lines 0 0 →
    left ≡ bytes_of (drop at text) →
    tokens_behind front (tokens_from 0 awaits before (drop at text)) ≡ whole →
    at < length bytes →
    is_separator (get_or bytes at 0) ≡ false →
    next_lexeme awaits before line left ≡ Ok lexeme →
    (0 < lexeme.length) × (lexeme.length ≤ length left) →
    awaits' ≡ awaits_behind awaits lexeme.kind →
    before' ≡ get_or bytes (at + lexeme.length - 1) 0 →
    front' ≡ front ++ record { kind = lexeme.kind; line = line } ∷ [] →
    tokens_behind front' (tokens_from 0 awaits' before' (drop (at + lexeme.length) text)) ≡ whole
on_token awaits awaits' before before' at line text d bytes lines left front front' lexeme whole placed on_lines first same so_far inside other next takes awaited last added =
    let p = get_or text at d in
    let within : at < length text = omega (arith, inside, ap length placed, length_bytes text) in
    let line_is : line ≡ p.line = first ∙ line_at at text lines d within on_lines in
    let not_one : is_separator p.byte ≡ false = ap is_separator (sym (here at text bytes d placed within)) ∙ other in
    let most : lexeme.length ≤ length (drop at text) = omega (arith, takes.1, ap length same, length_bytes (drop at text)) in
    let next_is : next_lexeme awaits before p.line (bytes_of (drop at text)) ≡ Ok lexeme = (λ k. next_lexeme awaits before (sym line_is k) (sym same k)) ∙ next in
    let step = over_token awaits before at text p front lexeme within (get_or-default text at p d within) not_one next_is takes.0 most in
    let last_is : before' ≡ get_or (bytes_of text) (at + lexeme.length - 1) 0 = last ∙ ap (λ b. get_or b (at + lexeme.length - 1) 0) placed in
    let added_is : front' ≡ front ++ record { kind = lexeme.kind; line = p.line } ∷ [] = added ∙ ap (λ l. front ++ record { kind = lexeme.kind; line = l } ∷ []) line_is in
    rw (awaited, last_is, added_is) (sym step ∙ so_far)

pub on_fault : (awaits : Awaits) (before at line : ℕ) (text : List Placed) (d : Placed) (bytes lines left : List ℕ) (front : List Token) (fault : LexError) (whole : Result (List Token) LexError) →
    bytes ≡ bytes_of text →
    lines ≡ lines_of (drop at text) →
    line ≡ get_or lines 0 0 →
    left ≡ bytes_of (drop at text) →
    tokens_behind front (tokens_from 0 awaits before (drop at text)) ≡ whole →
    at < length bytes →
    is_separator (get_or bytes at 0) ≡ false →
    next_lexeme awaits before line left ≡ Err fault →
    whole ≡ Err fault
on_fault awaits before at line text d bytes lines left front fault whole placed on_lines first same so_far inside other next =
    let p = get_or text at d in
    let within : at < length text = omega (arith, inside, ap length placed, length_bytes text) in
    let line_is : line ≡ p.line = first ∙ line_at at text lines d within on_lines in
    let not_one : is_separator p.byte ≡ false = ap is_separator (sym (here at text bytes d placed within)) ∙ other in
    let next_is : next_lexeme awaits before p.line (bytes_of (drop at text)) ≡ Err fault = (λ k. next_lexeme awaits before (sym line_is k) (sym same k)) ∙ next in
    sym so_far ∙ at_fault awaits before at text p front fault within (get_or-default text at p d within) not_one next_is

pub fault_answer : (whole answer : Result (List Token) LexError) (found : LexError) → IsErrAnd answer (λ e. e ≡ found) → (found ≢ error.NoMemory → whole ≡ Err found) → Answers error.NoMemory whole answer
fault_answer whole (Ok tokens) found is h = absurd is
fault_answer whole (Err e) found is h = λ other. h (λ memory. other (is ∙ memory)) ∙ ap Err (sym is)
