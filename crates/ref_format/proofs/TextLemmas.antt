-- The program text as its bytes and runs of lines.
use Rattle.std.proofs.Common.{◌≡◌, ℕ, zero, suc, ◌+◌, ◌-◌, ◌<◌, ◌≤◌, ◌^◌, ◌==◌, min, true, false, cond, inl, inr, List, [], ◌∷◌, ◌++◌, length, take, drop, get_or, replicate, arith, append_assoc, append-nil, reverse, length-append, sym, ap, subst, refl, ◌∙◌}
use Rattle.std.proofs.lemmas.List.{reverse-reverse, length-replicate, length-take-le, take_all, take_more, take_rest, drop_all, replicate_more, drop-drop, get_or-drop, get_or_append_left, get_or-replicate, length_push}
use Rattle.std.proofs.lemmas.Bool.{cases_lt}
use Rattle.ref_format.specs.declared.placed.Placed.{Placed}
use Rattle.ref_format.specs.declared.line_runs.Run.{Run}
use Rattle.ref_format.specs.LineRuns.{lines_in, IsInFirst}
use Rattle.ref_format.specs.Placed.{placed, on_lines, bytes_of, lines_of}
use Rattle.ref_format.specs.Joining.{unspaced_front, unspaced_end, begins_in_space, ends_in_space}
use Rattle.ref_format.proofs.JoiningLemmas.{reverse-push}

-- ---- bytes on lines

pub length_on_lines : (lines bytes : List ℕ) → length lines ≡ length bytes → length (on_lines lines bytes) ≡ length bytes
length_on_lines [] [] same = refl
length_on_lines [] (b ∷ bytes) same = absurd (omega (arith, same))
length_on_lines (line ∷ lines) [] same = absurd (omega (arith, same))
length_on_lines (line ∷ lines) (b ∷ bytes) same = ap suc (length_on_lines lines bytes (omega (arith, same)))

pub bytes_on_lines : (lines bytes : List ℕ) → length lines ≡ length bytes → bytes ≡ bytes_of (on_lines lines bytes)
bytes_on_lines [] [] same = refl
bytes_on_lines [] (b ∷ bytes) same = absurd (omega (arith, same))
bytes_on_lines (line ∷ lines) [] same = absurd (omega (arith, same))
bytes_on_lines (line ∷ lines) (b ∷ bytes) same = ap (λ rest. b ∷ rest) (bytes_on_lines lines bytes (omega (arith, same)))

pub lines_on_lines : (lines bytes : List ℕ) → length lines ≡ length bytes → lines ≡ lines_of (on_lines lines bytes)
lines_on_lines [] [] same = refl
lines_on_lines [] (b ∷ bytes) same = absurd (omega (arith, same))
lines_on_lines (line ∷ lines) [] same = absurd (omega (arith, same))
lines_on_lines (line ∷ lines) (b ∷ bytes) same = ap (λ rest. line ∷ rest) (lines_on_lines lines bytes (omega (arith, same)))

on_lines-append : (lines bytes others more : List ℕ) → length lines ≡ length bytes → on_lines (lines ++ others) (bytes ++ more) ≡ on_lines lines bytes ++ on_lines others more
on_lines-append [] [] others more same = refl
on_lines-append [] (b ∷ bytes) others more same = absurd (omega (arith, same))
on_lines-append (line ∷ lines) [] others more same = absurd (omega (arith, same))
on_lines-append (line ∷ lines) (b ∷ bytes) others more same = ap (λ rest. record { byte = b; line = line } ∷ rest) (on_lines-append lines bytes others more (omega (arith, same)))

on_one_line : (line : ℕ) (bytes : List ℕ) → on_lines (replicate (length bytes) line) bytes ≡ placed line bytes
on_one_line line [] = refl
on_one_line line (b ∷ bytes) = ap (λ rest. record { byte = b; line = line } ∷ rest) (on_one_line line bytes)

-- bytes of one line are added
pub bytes_added : (lines lines' bytes bytes' : List ℕ) (line : ℕ) (more : List ℕ) → length lines ≡ length bytes →
    lines' ≡ lines ++ replicate (length more) line → bytes' ≡ bytes ++ more →
    (on_lines lines' bytes' ≡ on_lines lines bytes ++ placed line more) × (length lines' ≡ length bytes')
bytes_added lines lines' bytes bytes' line more same longer added = (
  (λ k. on_lines (longer k) (added k)) ∙ on_lines-append lines bytes (replicate (length more) line) more same ∙ ap (λ rest. on_lines lines bytes ++ rest) (on_one_line line more),
  omega (arith, ap length longer, ap length added, length-append lines (replicate (length more) line), length-append bytes more, length-replicate (length more) line, same),
)

on_lines-take : (n : ℕ) (lines bytes : List ℕ) → on_lines (take n lines) (take n bytes) ≡ take n (on_lines lines bytes)
on_lines-take zero lines bytes = refl
on_lines-take (suc n) [] bytes = refl
on_lines-take (suc n) (line ∷ lines) [] = refl
on_lines-take (suc n) (line ∷ lines) (b ∷ bytes) = ap (λ rest. record { byte = b; line = line } ∷ rest) (on_lines-take n lines bytes)

-- the last byte is dropped with its line
pub last_dropped : (lines lines' bytes bytes' : List ℕ) → length lines ≡ length bytes → 0 < length lines →
    lines' ≡ take (length lines - 1) lines → bytes' ≡ take (length bytes - 1) bytes →
    (on_lines lines' bytes' ≡ take (length (on_lines lines bytes) - 1) (on_lines lines bytes)) × (length lines' ≡ length bytes')
last_dropped lines lines' bytes bytes' same some shorter dropped =
    let n : ℕ = length lines - 1 in
    let as_bytes : length bytes - 1 ≡ n = omega (arith, same) in
    let as_text : n ≡ length (on_lines lines bytes) - 1 = omega (arith, length_on_lines lines bytes same, same) in
    let bytes_is : bytes' ≡ take n bytes = dropped ∙ ap (λ k. take k bytes) as_bytes in (
      (λ k. on_lines (shorter k) (bytes_is k)) ∙ on_lines-take n lines bytes ∙ ap (λ k. take k (on_lines lines bytes)) as_text,
      omega (arith, ap length shorter, ap length bytes_is, length-take-le n lines (omega arith), length-take-le n bytes (omega (arith, same))),
    )

-- ---- spaces at the end

-- a list that isn't empty, and its last element
last_split : (text : List Placed) (d : Placed) → 0 < length text → text ≡ take (length text - 1) text ++ get_or text (length text - 1) d ∷ []
last_split text d some =
    let n : ℕ = length text - 1 in
    sym (take_all (n + 1) text (omega arith)) ∙ take_more text n d (omega (arith, some))

reverse_split : (text : List Placed) (d : Placed) → 0 < length text → reverse text ≡ get_or text (length text - 1) d ∷ reverse (take (length text - 1) text)
reverse_split text d some = ap reverse (last_split text d some) ∙ reverse-push (take (length text - 1) text) (get_or text (length text - 1) d)

front_spaced : (text : List Placed) (p : Placed) (rest : List Placed) → text ≡ p ∷ rest → begins_in_space text ≡ true → unspaced_front rest ≡ unspaced_front text
front_spaced text p rest is spaced =
    let space : (p.byte == 32) ≡ true = ap begins_in_space (sym is) ∙ spaced in
    let step : unspaced_front (p ∷ rest) ≡ unspaced_front rest = ap (λ t. cond t (unspaced_front rest) (p ∷ rest)) space in
    sym step ∙ ap unspaced_front (sym is)

front_kept : (text : List Placed) → begins_in_space text ≡ false → unspaced_front text ≡ text
front_kept [] other = refl
front_kept (p ∷ rest) other = ap (λ t. cond t (unspaced_front rest) (p ∷ rest)) other

-- a text that ends in a space has a byte
pub some_spaced : (text : List Placed) → ends_in_space text ≡ true → 0 < length text
some_spaced [] spaced = absurd cc
some_spaced (p ∷ rest) spaced = omega arith

-- no space ends a text of no bytes
pub none_spaced : (lines bytes : List ℕ) → length bytes ≡ 0 → false ≡ ends_in_space (on_lines lines bytes)
none_spaced [] bytes none = refl
none_spaced (line ∷ lines) [] none = refl
none_spaced (line ∷ lines) (b ∷ bytes) none = absurd (omega (arith, none))

byte_of : (text : List Placed) (n : ℕ) (d : Placed) → n < length text → get_or (bytes_of text) n 0 ≡ (get_or text n d).byte
byte_of [] n d within = absurd (omega (arith, within))
byte_of (p ∷ text) zero d within = refl
byte_of (p ∷ text) (suc n) d within = byte_of text n d (omega (arith, within))

-- the last byte tells
pub last_spaced : (lines bytes : List ℕ) → length lines ≡ length bytes → 0 < length bytes →
    (get_or bytes (length bytes - 1) 0 == 32) ≡ ends_in_space (on_lines lines bytes)
last_spaced lines bytes same some =
    let d : Placed = record { byte = 0; line = 0 } in
    let text = on_lines lines bytes in
    let long = length_on_lines lines bytes same in
    let n : ℕ = length bytes - 1 in
    let place : n ≡ length text - 1 = omega (arith, long) in
    let byte_is : get_or bytes n 0 ≡ (get_or text (length text - 1) d).byte =
    ap (λ b. get_or b n 0) (bytes_on_lines lines bytes same)
    ∙ byte_of text n d (omega (arith, long, some))
    ∙ ap (λ k. (get_or text k d).byte) place in
    ap (λ b. b == 32) byte_is ∙ sym (ap begins_in_space (reverse_split text d (omega (arith, long, some))))

-- less the space at the end, the same is left without spaces
pub end_spaced : (text text' : List Placed) → ends_in_space text ≡ true → text' ≡ take (length text - 1) text → unspaced_end text' ≡ unspaced_end text
end_spaced text text' spaced less =
    let d : Placed = record { byte = 0; line = 0 } in
    let some = some_spaced text spaced in
    ap unspaced_end less ∙ ap reverse (front_spaced (reverse text) (get_or text (length text - 1) d) (reverse (take (length text - 1) text)) (reverse_split text d some) spaced)

pub end_kept : (text : List Placed) → ends_in_space text ≡ false → unspaced_end text ≡ text
end_kept text other = ap reverse (front_kept (reverse text) other) ∙ reverse-reverse text

-- ---- runs of lines

lines_in-append : (runs others : List Run) → lines_in (runs ++ others) ≡ lines_in runs ++ lines_in others
lines_in-append [] others = refl
lines_in-append (run ∷ runs) others = ap (λ rest. replicate run.count run.line ++ rest) (lines_in-append runs others) ∙ sym (append_assoc (replicate run.count run.line) (lines_in runs) (lines_in others))

-- a run more
pub run_added : (runs runs' : List Run) (run : Run) → runs' ≡ runs ++ run ∷ [] → lines_in runs' ≡ lines_in runs ++ replicate run.count run.line
run_added runs runs' run added =
    ap lines_in added ∙ lines_in-append runs (run ∷ []) ∙ ap (λ rest. lines_in runs ++ rest) (append-nil (replicate run.count run.line))

-- a run of nothing is taken off
pub empty_run_off : (runs runs' : List Run) (run : Run) → runs ≡ runs' ++ run ∷ [] → run.count ≤ 0 → lines_in runs' ≡ lines_in runs
empty_run_off runs runs' run whole none =
    let zero_count : run.count ≡ 0 = omega (arith, none) in
    sym (run_added runs' runs run whole ∙ ap (λ n. lines_in runs' ++ replicate n run.line) zero_count ∙ append-nil (lines_in runs'))

-- a run loses one byte
pub run_shortened : (runs popped runs' : List Run) (run less : Run) → runs ≡ popped ++ run ∷ [] → 0 < run.count →
    less ≡ record { line = run.line; count = run.count - 1 } → runs' ≡ popped ++ less ∷ [] →
    lines_in runs' ≡ take (length (lines_in runs) - 1) (lines_in runs)
run_shortened runs popped runs' run less whole some less_is shorter =
    let n : ℕ = run.count - 1 in
    let front : List ℕ = lines_in popped ++ replicate n run.line in
    let more : n + 1 ≡ run.count = omega (arith, some) in
    let before : lines_in runs ≡ front ++ run.line ∷ [] =
    run_added popped runs run whole
    ∙ ap (λ k. lines_in popped ++ replicate k run.line) (sym more)
    ∙ ap (λ rest. lines_in popped ++ rest) (sym (replicate_more n run.line))
    ∙ sym (append_assoc (lines_in popped) (replicate n run.line) (run.line ∷ [])) in
    let after : lines_in runs' ≡ front = run_added popped runs' less shorter ∙ ap (λ (r : Run). lines_in popped ++ replicate r.count r.line) less_is in
    let long : length (lines_in runs) - 1 ≡ length front = omega (arith, ap length before, length_push front run.line) in
    after ∙ sym (front_taken front run.line) ∙ (λ k. take (sym long k) (sym before k)) where
      front_taken : (front : List ℕ) (y : ℕ) → take (length front) (front ++ y ∷ []) ≡ front
      front_taken [] y = refl
      front_taken (x ∷ front) y = ap (λ rest. x ∷ rest) (front_taken front y)

drop-beyond : (xs ys : List ℕ) (n : ℕ) → length xs ≤ n → drop n (xs ++ ys) ≡ drop (n - length xs) ys
drop-beyond [] ys n far =
    let less : n ≡ n - 0 = omega arith in
    ap (λ k. drop k ys) less
drop-beyond (x ∷ xs) ys zero far = absurd (omega (arith, far))
drop-beyond (x ∷ xs) ys (suc n) far =
    let less : n - length xs ≡ suc n - suc (length xs) = omega arith in
    drop-beyond xs ys n (omega (arith, far)) ∙ ap (λ k. drop k ys) less

begun : (runs : List Run) (run : Run) → 1 ≤ length runs → run ≡ get_or runs 0 run → runs ≡ run ∷ drop 1 runs
begun [] run some is = absurd (omega (arith, some))
begun (x ∷ runs) run some is = ap (λ r. r ∷ runs) (sym is)

-- the first run, and the rest as the code cuts it off
pub first_run : (runs : List Run) (run : Run) → 1 ≤ length runs → run ≡ get_or runs 0 run → runs ≡ run ∷ take (length runs - 1) (drop 1 runs)
first_run runs run some is = begun runs run some is ∙ ap (λ rs. run ∷ rs) (sym (take_rest runs 1))

-- behind the first run
pub run_passed : (run : Run) (runs others : List Run) (place left : ℕ) → runs ≡ run ∷ others → run.count ≤ place → left ≡ place - run.count →
    drop left (lines_in others) ≡ drop place (lines_in runs)
run_passed run runs others place left whole far is =
    let long = length-replicate run.count run.line in
    let less : left ≡ place - length (replicate run.count run.line) = omega (arith, long, is) in
    ap (λ n. drop n (lines_in others)) less ∙ sym (drop-beyond (replicate run.count run.line) (lines_in others) place (omega (arith, long, far))) ∙ ap (λ rs. drop place (lines_in rs)) (sym whole)

pub run_within : (run : Run) (runs others : List Run) → runs ≡ run ∷ others → length (lines_in others) ≤ length (lines_in runs)
run_within run runs others whole = omega (arith, ap (λ rs. length (lines_in rs)) whole, length-append (replicate run.count run.line) (lines_in others))

pub in_first : (run : Run) (runs others : List Run) (place : ℕ) → runs ≡ run ∷ others → place < run.count → IsInFirst place runs
in_first run runs others place whole inside = subst (λ rs. IsInFirst place rs) (sym whole) inside

-- the line of the first byte that is left
pub first_line_left : (place : ℕ) (run : Run) (runs : List Run) → 1 ≤ length runs → run ≡ get_or runs 0 run → IsInFirst place runs →
    run.line ≡ get_or (drop place (lines_in runs)) 0 0
first_line_left place run [] some is inside = absurd (omega (arith, some))
first_line_left place run (r ∷ runs) some is inside =
    let long = length-replicate r.count r.line in
    ap (λ (q : Run). q.line) is
    ∙ sym (get_or-drop place (lines_in (r ∷ runs)) 0 0
    ∙ get_or_append_left (replicate r.count r.line) (lines_in runs) 0 (place + 0) (omega (arith, long, inside))
    ∙ get_or-replicate r.count (place + 0) r.line 0 (omega (arith, inside)))

pub none_left : (place : ℕ) (runs : List Run) → length runs ≡ 0 → 0 ≡ get_or (drop place (lines_in runs)) 0 0
none_left zero [] none = refl
none_left (suc place) [] none = refl
none_left place (r ∷ runs) none = absurd (omega (arith, none))

-- behind so many bytes more, or all
pub passed_on : (lines : List ℕ) (passed count sum : ℕ) → length lines < 2 ^ 63 → sum ≡ min (passed + count) (2 ^ 64 - 1) →
    drop sum lines ≡ drop count (drop passed lines)
passed_on lines passed count sum bound is = elim (cases_lt (passed + count) (2 ^ 64)) [
  | inl early ↦
      let exact : sum ≡ passed + count = omega (arith, is, early) in
      ap (λ n. drop n lines) exact ∙ sym (drop-drop count passed lines)
  | inr late ↦
      let all : drop (passed + count) lines ≡ [] = drop_all (passed + count) lines (omega (arith, late, bound)) in
      drop_all sum lines (omega (arith, is, late, bound)) ∙ sym all ∙ sym (drop-drop count passed lines)
]
