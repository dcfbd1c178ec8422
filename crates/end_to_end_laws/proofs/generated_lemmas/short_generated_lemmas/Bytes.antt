-- Units that stand in columns 8 to 16 and have tokens of at most 15 bytes are printed as at most 35
-- bytes for each token.
use Rattle.std.proofs.Common.{◌≡◌, ℕ, ◌+◌, ◌-◌, ◌*◌, ◌<◌, ◌≤◌, ◌==◌, ◌&&◌, ◌||◌, not, Bool, true, false, cond, List, [], ◌∷◌, ◌++◌, length, replicate, refl, ap, arith}
use Rattle.std.proofs.lemmas.Bool.Decides.{nat_tests}
use Rattle.std.proofs.lemmas.List.{length-append, length-replicate}
use Rattle.cobol_lex.specs.Written.{written}
use Rattle.cobol_lex.specs.declared.token.TokenKind.{TokenKind}
use Rattle.cobol_print.specs.declared.spacing.TokenStart.{TokenStart}
use Rattle.cobol_print.specs.Line.{turned, column_behind, lines_of, bytes_of_lines}
use Rattle.cobol_print.specs.Spacing.{hugs, no_space_behind, is_literal, fits, column_of, start_of}
use Rattle.cobol_print.specs.Layout.{spread, start_bytes, rest_bytes, unit_bytes, units_bytes}
use Rattle.cobol_print.specs.Unit.{all_tokens}
use Rattle.cobol_print.proofs.LineLemmas.{fits_is}
use Rattle.cobol_print.proofs.StreamLemmas.{lines-bytes}
use Rattle.cobol_print.specs.declared.units.unit.PrintUnit.{PrintUnit}

-- ---- what is bounded

abbrev pub IsBrief : TokenKind → Type 0
IsBrief token = length (written token) ≤ 15

abbrev pub AreBrief : List TokenKind → Type 0
AreBrief [] = Unit {0}
AreBrief (token ∷ tokens) = IsBrief token × AreBrief tokens

pub record IsSlight (unit : PrintUnit) : Type 0 where
  pub low : 8 ≤ unit.column
  pub high : unit.column ≤ 16
  pub brief : AreBrief unit.tokens

abbrev pub AreSlight : List PrintUnit → Type 0
AreSlight [] = Unit {0}
AreSlight (unit ∷ units) = IsSlight unit × AreSlight units

-- ---- a token

not-full : (column : ℕ) → column < 73 → (column == 73) ≡ false
not-full column room = grind (arith, nat_tests, room)

spread-length : (bytes : List ℕ) (column : ℕ) (inside : Bool) → column + length bytes ≤ 73 → length (spread column inside bytes) ≡ length bytes
spread-length [] column inside room = refl
spread-length (b ∷ bytes) column inside room =
    let more = spread-length bytes (column + 1) (turned inside b) (omega (arith, room)) in
    rw (not-full column (omega (arith, room))) (omega (arith, more))

-- ---- where a token begins

one-more : (column : ℕ) (closely : Bool) → cond closely column (column + 1) - column ≤ 1
one-more column true = omega arith
one-more column false = omega arith

record StartsNear (size column : ℕ) (start : TokenStart) : Type 0 where
  ends : start.column + size ≤ 73
  few : length (start_bytes start column) ≤ 20

near-here : (column at size : ℕ) → at - column ≤ 1 → at + size ≤ 73 → StartsNear size column (record { breaks = false; column = at })
near-here column at size close room =
    let spaces = length-replicate {A = ℕ} (at - column) 32 in
    record { ends = room; few = omega (arith, spaces, close) }

near-below : (column at size : ℕ) → at ≤ 20 → size ≤ 15 → StartsNear size column (record { breaks = true; column = at })
near-below column at size low brief =
    let spaces = length-replicate {A = ℕ} (at - 8) 32 in
    record { ends = omega (arith, low, brief); few = omega (arith, spaces, low) }

starts-near : (margin column : ℕ) (clinging : Bool) (token : TokenKind) (size : ℕ) → margin ≤ 16 → size ≤ 15 →
    StartsNear size column (start_of margin column clinging token size)
starts-near margin column clinging token size high brief =
    let at = column_of column clinging token in
    let here : TokenStart = record { breaks = false; column = at } in
    let wide : TokenStart = record { breaks = true; column = 12 } in
    let narrow : TokenStart = record { breaks = true; column = margin + 4 } in
    let long = is_literal token && not (fits (margin + 4) size) in
    elim (fits at size) as (λ t. fits at size ≡ t → StartsNear size column (cond t here (cond long wide narrow))) [
      | true ↦ λ fit. near-here column at size (one-more column (clinging || hugs token)) (fits_is at size fit)
      | false ↦ λ _. elim long as (λ t. StartsNear size column (cond t wide narrow)) [
        | true ↦ near-below column 12 size (omega arith) brief
        | false ↦ near-below column (margin + 4) size (omega (arith, high)) brief
      ]
    ] refl

-- ---- a unit

rest-few : (margin column : ℕ) (clinging : Bool) (tokens : List TokenKind) → margin ≤ 16 → AreBrief tokens →
    length (rest_bytes margin column clinging tokens) ≤ 35 * length tokens + 1
rest-few margin column clinging [] high brief = omega arith
rest-few margin column clinging (token ∷ tokens) high brief =
    let size = length (written token) in
    let start : TokenStart = start_of margin column clinging token size in
    let near = starts-near margin column clinging token size high brief.0 in
    let after = column_behind start.column false (written token) in
    let front = start_bytes start column in
    let bytes = spread start.column false (written token) in
    let others = rest_bytes margin after (no_space_behind token) tokens in
    let few = near.few in
    let short = brief.0 in
    let same : length bytes ≡ size = spread-length (written token) start.column false near.ends in
    let more : length others ≤ 35 * length tokens + 1 = rest-few margin after (no_space_behind token) tokens high brief.1 in
    let whole : length (front ++ bytes ++ others) ≡ length (front ++ bytes) + length others = length-append (front ++ bytes) others in
    let part : length (front ++ bytes) ≡ length front + length bytes = length-append front bytes in
    omega (arith, few, short, same, more, whole, part)

unit-few : (unit : PrintUnit) → IsSlight unit → length (unit_bytes unit.column unit.tokens) ≤ 35 * length unit.tokens
unit-few unit slight = tokens-few unit.column unit.tokens slight.high slight.brief
  where
    tokens-few : (column : ℕ) (tokens : List TokenKind) → column ≤ 16 → AreBrief tokens → length (unit_bytes column tokens) ≤ 35 * length tokens
    tokens-few column [] high brief = omega arith
    tokens-few column (token ∷ tokens) high brief =
        let after = column_behind column false (written token) in
        let front : List ℕ = replicate (column - 8) 32 in
        let bytes = spread column false (written token) in
        let others = rest_bytes column after (no_space_behind token) tokens in
        let short = brief.0 in
        let spaces : length front ≡ column - 8 = length-replicate {A = ℕ} (column - 8) 32 in
        let same : length bytes ≡ length (written token) = spread-length (written token) column false (omega (arith, high, short)) in
        let more : length others ≤ 35 * length tokens + 1 = rest-few column after (no_space_behind token) tokens high brief.1 in
        let whole : length (front ++ bytes ++ others) ≡ length (front ++ bytes) + length others = length-append (front ++ bytes) others in
        let part : length (front ++ bytes) ≡ length front + length bytes = length-append front bytes in
        omega (arith, high, short, spaces, same, more, whole, part)

-- ---- all units

units-few : (units : List PrintUnit) → AreSlight units → length (units_bytes units) ≤ 35 * length (all_tokens units)
units-few [] slight = omega arith
units-few (unit ∷ units) slight =
    let here = unit-few unit slight.0 in
    let there = units-few units slight.1 in
    let bytes = length-append (unit_bytes unit.column unit.tokens) (units_bytes units) in
    let tokens = length-append unit.tokens (all_tokens units) in
    omega (arith, here, there, bytes, tokens)

pub lines-few : (units : List PrintUnit) → AreSlight units → length (bytes_of_lines (lines_of units)) ≤ 35 * length (all_tokens units)
lines-few units slight =
    let same = ap length (lines-bytes units) in
    let few = units-few units slight in
    omega (arith, same, few)
