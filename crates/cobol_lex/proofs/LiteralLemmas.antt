-- A literal, a byte at a time.
use Rattle.std.proofs.Common.{ℕ, ◌≡◌, ◌≢◌, ◌<◌, ◌≤◌, ◌+◌, zero, suc, Bool, true, false, List, [], ◌∷◌, ◌++◌, drop, length, get_or, ap, sym, ◌∙◌, arith, refl, rules, tests, append_assoc, add-one, drop-cons, drop-drop, append-nil}
use Rattle.std.specs.Prelude.{Option, Some, None, if◌then◌else◌, ◌==◌}
use Rattle.std.proofs.lemmas.Grind.{common_steps}
use Rattle.cobol_lex.specs.Byte.{begins}
use Rattle.cobol_lex.specs.Literal.{quoted_by, with_byte}
use Rattle.cobol_lex.specs.declared.literal.Quoted.{Quoted}

-- what has been read stands before what is left
abbrev pub quoted_behind : List ℕ → ℕ → Option Quoted → Option Quoted
quoted_behind value taken None = None
quoted_behind value taken (Some quoted) = Some (record { value = value ++ quoted.value; taken = taken + quoted.taken })

pub behind_nothing : (quoted : Option Quoted) → quoted_behind [] 0 quoted ≡ quoted
behind_nothing None = refl
behind_nothing (Some quoted) = grind (arith, common_steps)

behind_byte : (value : List ℕ) (taken b more : ℕ) (quoted : Option Quoted) →
    quoted_behind value taken (with_byte b more quoted) ≡ quoted_behind (value ++ b ∷ []) (taken + more) quoted
behind_byte value taken b more None = refl
behind_byte value taken b more (Some quoted) =
    let values : value ++ (b ∷ quoted.value) ≡ (value ++ b ∷ []) ++ quoted.value = sym (append_assoc value (b ∷ []) quoted.value) in
    let counts : taken + (more + quoted.taken) ≡ (taken + more) + quoted.taken = omega arith in
    cc

-- the definition by the first byte alone
abbrev pub quoted_step : ℕ → ℕ → List ℕ → Option Quoted
quoted_step mark b rest =
    if b == mark then (if begins (λ c. c == mark) rest then with_byte mark 2 (quoted_by mark (drop 1 rest)) else Some (record { value = []; taken = 1 }))
    else if b == 10 then None
    else with_byte b 1 (quoted_by mark rest)

line_end_or_end : (v w : Bool) (found : Option Quoted) →
    ◌≡◌ {A = Option Quoted} (if v then found else None) (if v then found else if w then None else None)
line_end_or_end true w found = refl
line_end_or_end false true found = refl
line_end_or_end false false found = refl

pub quoted-cons : (mark b : ℕ) (rest : List ℕ) → quoted_by mark (b ∷ rest) ≡ quoted_step mark b rest
quoted-cons mark b [] = line_end_or_end (b == mark) (b == 10) (Some (record { value = []; taken = 1 }))
quoted-cons mark b (c ∷ rest) = refl

same_test : (a b : ℕ) → a ≡ b → (a == b) ≡ true
same_test a b h = search (rules, tests)

other_test : (a b : ℕ) → a ≢ b → (a == b) ≡ false
other_test a b h = search (rules, tests)

-- the byte that stands there
begins-drop : (kind : ℕ → Bool) (bytes : List ℕ) (at : ℕ) → at < length bytes → begins kind (drop at bytes) ≡ kind (get_or bytes at 0)
begins-drop kind bytes at within =
    let lexeme : drop at bytes ≡ get_or bytes at 0 ∷ drop (suc at) bytes = drop-cons bytes at 0 within in
    rw lexeme

-- no such byte stands there
begins_no : (mark : ℕ) (bytes : List ℕ) (at : ℕ) → (at < length bytes → get_or bytes at 0 ≢ mark) → begins (λ c. c == mark) (drop at bytes) ≡ false
begins_no mark [] zero h = refl
begins_no mark [] (suc at) h = refl
begins_no mark (b ∷ bytes) zero h = other_test b mark (h (omega arith))
begins_no mark (b ∷ bytes) (suc at) h = begins_no mark bytes at (λ within. h (omega arith))

quoted-at : (mark : ℕ) (bytes : List ℕ) (at : ℕ) → at < length bytes → quoted_by mark (drop at bytes) ≡ quoted_step mark (get_or bytes at 0) (drop (at + 1) bytes)
quoted-at mark bytes at within =
    let lexeme : drop at bytes ≡ get_or bytes at 0 ∷ drop (suc at) bytes = drop-cons bytes at 0 within in
    rw (add-one, lexeme) (quoted-cons mark (get_or bytes at 0) (drop (suc at) bytes))

pub closing : (mark : ℕ) (bytes value : List ℕ) (at : ℕ) → at < length bytes → get_or bytes at 0 ≡ mark →
    (at + 1 < length bytes → get_or bytes (at + 1) 0 ≢ mark) →
    quoted_behind value at (quoted_by mark (drop at bytes)) ≡ Some (record { value = value; taken = at + 1 })
closing mark bytes value at within is_mark stops =
    let test : (get_or bytes at 0 == mark) ≡ true = same_test _ _ is_mark in
    let stop : begins (λ c. c == mark) (drop (at + 1) bytes) ≡ false = begins_no mark bytes (at + 1) stops in
    rw (quoted-at mark bytes at within, test, stop) (rw append-nil)

pub doubled : (mark : ℕ) (bytes value : List ℕ) (at : ℕ) → at + 1 < length bytes → get_or bytes at 0 ≡ mark → get_or bytes (at + 1) 0 ≡ mark →
    quoted_behind value at (quoted_by mark (drop at bytes)) ≡ quoted_behind (value ++ mark ∷ []) (at + 1 + 1) (quoted_by mark (drop (at + 1 + 1) bytes))
doubled mark bytes value at within is_mark again =
    let test : (get_or bytes at 0 == mark) ≡ true = same_test _ _ is_mark in
    let runs_on : begins (λ c. c == mark) (drop (at + 1) bytes) ≡ true = begins-drop (λ c. c == mark) bytes (at + 1) within ∙ same_test _ _ again in
    let twice : drop 1 (drop (at + 1) bytes) ≡ drop (at + 1 + 1) bytes = drop-drop 1 (at + 1) bytes in
    let step = quoted-at mark bytes at (omega arith) in
    rw (step, test, runs_on, twice) (behind_byte value at mark 2 (quoted_by mark (drop (at + 1 + 1) bytes)) ∙ ap (λ n. quoted_behind (value ++ mark ∷ []) n (quoted_by mark (drop (at + 1 + 1) bytes))) (omega arith))

pub line_ends : (mark : ℕ) (bytes value : List ℕ) (at : ℕ) → at < length bytes → get_or bytes at 0 ≢ mark → get_or bytes at 0 ≡ 10 →
    quoted_behind value at (quoted_by mark (drop at bytes)) ≡ None
line_ends mark bytes value at within no_mark ends =
    let test : (get_or bytes at 0 == mark) ≡ false = other_test _ _ no_mark in
    let end : (get_or bytes at 0 == 10) ≡ true = same_test _ _ ends in
    rw (quoted-at mark bytes at within, test, end)

pub other_byte : (mark : ℕ) (bytes value : List ℕ) (at : ℕ) → at < length bytes → get_or bytes at 0 ≢ mark → get_or bytes at 0 ≢ 10 →
    quoted_behind value at (quoted_by mark (drop at bytes)) ≡ quoted_behind (value ++ get_or bytes at 0 ∷ []) (at + 1) (quoted_by mark (drop (at + 1) bytes))
other_byte mark bytes value at within no_mark no_end =
    let test : (get_or bytes at 0 == mark) ≡ false = other_test _ _ no_mark in
    let end : (get_or bytes at 0 == 10) ≡ false = other_test _ _ no_end in
    rw (quoted-at mark bytes at within, test, end) (behind_byte value at (get_or bytes at 0) 1 (quoted_by mark (drop (at + 1) bytes)))

pub text_ends : (mark : ℕ) (bytes value : List ℕ) (at : ℕ) → length bytes ≤ at → quoted_behind value at (quoted_by mark (drop at bytes)) ≡ None
text_ends mark bytes value at past =
    let none : drop at bytes ≡ [] = grind (arith, common_steps) in
    rw none

-- the same, as a loop goes on with what it has read
pub on_doubled : (mark : ℕ) (bytes value value' : List ℕ) (at at' : ℕ) (whole : Option Quoted) →
    quoted_behind value at (quoted_by mark (drop at bytes)) ≡ whole →
    value' ≡ value ++ get_or bytes at 0 ∷ [] → at' ≡ at + 1 →
    at + 1 < length bytes → get_or bytes at 0 ≡ mark → get_or bytes (at + 1) 0 ≡ mark →
    quoted_behind value' (at' + 1) (quoted_by mark (drop (at' + 1) bytes)) ≡ whole
on_doubled mark bytes value value' at at' whole h pushed moved within is_mark again =
    rw (pushed, moved, is_mark) (sym (doubled mark bytes value at within is_mark again) ∙ h)

pub on_other : (mark : ℕ) (bytes value value' : List ℕ) (at at' : ℕ) (whole : Option Quoted) →
    quoted_behind value at (quoted_by mark (drop at bytes)) ≡ whole →
    value' ≡ value ++ get_or bytes at 0 ∷ [] → at' ≡ at →
    at < length bytes → get_or bytes at 0 ≢ mark → get_or bytes at 0 ≢ 10 →
    quoted_behind value' (at' + 1) (quoted_by mark (drop (at' + 1) bytes)) ≡ whole
on_other mark bytes value value' at at' whole h pushed moved within no_mark no_end =
    rw (pushed, moved) (sym (other_byte mark bytes value at within no_mark no_end) ∙ h)

-- what is found takes at most so many bytes
abbrev Within : ℕ → Option Quoted → Type 0
Within n found = (q : Quoted) → found ≡ Some q → q.taken ≤ n

within_choice : (v : Bool) (n : ℕ) (x y : Option Quoted) → Within n x → Within n y → Within n (if v then x else y)
within_choice true n x y in_x in_y = in_x
within_choice false n x y in_x in_y = in_y

within_more : (n m : ℕ) (x : Option Quoted) → n ≤ m → Within n x → Within m x
within_more n m x le within q is = let h = within q is in omega arith

within_none : (n : ℕ) → Within n None
within_none n q is = cc

within_one : (n : ℕ) → 0 < n → Within n (Some (record { value = []; taken = 1 }))
within_one n lt q is = let taken : 1 ≡ q.taken = cc in omega arith

within_byte : (b more n m : ℕ) (found : Option Quoted) → more + n ≤ m → Within n found → Within m (with_byte b more found)
within_byte b more n m None le within q is = cc
within_byte b more n m (Some quoted) le within q is =
    let rest = within quoted refl in
    let taken : more + quoted.taken ≡ q.taken = cc in
    omega arith

quoted_in : (mark : ℕ) (bytes : List ℕ) → Within (length bytes) (quoted_by mark bytes)
quoted_in mark [] = within_none 0
quoted_in mark (b ∷ []) = within_choice (b == mark) _ _ _ (within_one _ (omega arith)) (within_none _)
quoted_in mark (b ∷ c ∷ rest) =
    within_choice (b == mark) _ _ _
    (within_choice (c == mark) _ _ _ (within_byte mark 2 (length rest) _ _ (omega arith) (quoted_in mark rest)) (within_one _ (omega arith)))
    (within_choice (b == 10) _ _ _ (within_none _) (within_byte b 1 (length (c ∷ rest)) _ _ (omega arith) (quoted_in mark (c ∷ rest))))

-- a literal takes no more than there is
pub quoted_within : (mark : ℕ) (bytes : List ℕ) (q : Quoted) → quoted_by mark bytes ≡ Some q → q.taken ≤ length bytes
quoted_within mark bytes = quoted_in mark bytes
