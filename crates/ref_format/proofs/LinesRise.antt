-- The lines of a text rise.
use Rattle.std.proofs.Common.{◌≡◌, ℕ, ◌+◌, ◌-◌, ◌≤◌, ◌<◌, true, false, cond, List, [], ◌∷◌, ◌++◌, length, map, get_or, Option, Some, None, Result, Ok, Err, inl, inr, refl, arith, append-nil}
use Rattle.std.specs.Prelude.{All, AllPairs, IfOk}
use Rattle.std.proofs.lemmas.List.{length-append, get_or-append_right}
use Rattle.std.proofs.lemmas.List.Elements.{All-nil, All-append, All-weaker}
use Rattle.std.proofs.lemmas.Bool.{cases_lt}
use Rattle.std.proofs.Math.ListN.{get_or-append}
use Rattle.ref_format.specs.declared.placed.Placed.{Placed}
use Rattle.std.specs.Str.Lines.{lines}
use Rattle.ref_format.specs.Column.{columns, card_of, is_continuation}
use Rattle.ref_format.specs.Entry.{is_dropped}
use Rattle.ref_format.specs.Line.{Line, kept_behind, kept_lines}
use Rattle.ref_format.specs.Placed.{placed}
use Rattle.ref_format.specs.Joining.{literal_at_end, trimmed, continuing, line_end, with_line, fault_of, joined, joined_or, program_text}
use Rattle.std.specs.List.Sorted.{IsNonDecreasingBy}
use Rattle.cob_base.proofs.RisingLemmas.{rising-from_pairs}
use Rattle.ref_format.specs.declared.fault.FormatError.{FormatError}
use Rattle.ref_format.specs.Laws.{LinesRise}
use Rattle.ref_format.proofs.TextStandsOnKeptLines.{Last, trimmed_cut, front_of_all, All-placed, All-line_end, All-with_line}

-- the lines of the kept ones rise, from `from` on
abbrev pub RiseFrom : ℕ → List Line → Type 0
RiseFrom from [] = Unit {0}
RiseFrom from (line ∷ lines) = (from ≤ line.number) × RiseFrom line.number lines

kept_rise : (from : ℕ) (before : List (List ℕ)) (number : ℕ) (cards : List (List ℕ)) → from ≤ number → RiseFrom from (kept_behind before number cards)
kept_rise from before number [] h = tt
kept_rise from before number (card ∷ cards) h =
    elim (is_dropped before card) as (λ t. RiseFrom from (cond t (kept_behind (card ∷ before) (number + 1) cards) (record { number = number; card = card } ∷ kept_behind (card ∷ before) (number + 1) cards))) [
      | true ↦ kept_rise from (card ∷ before) (number + 1) cards (omega (arith, h))
      | false ↦ (h, kept_rise number (card ∷ before) (number + 1) cards (omega arith))
    ]

abbrev Below : ℕ → List Placed → Type 0
Below number text = All (λ p. p.line ≤ number) text

abbrev Rising : List Placed → Type 0
Rising text = AllPairs (λ p q. p.line ≤ q.line) text

Below-append : (number : ℕ) (front : List Placed) (bytes : List ℕ) → Below number front → Below number (front ++ placed number bytes)
Below-append number front bytes below = All-append (λ p. p.line ≤ number) front (placed number bytes) below (All-placed (λ n. n ≤ number) number bytes (omega arith))

-- a rising text with one line's bytes behind it, which stand no earlier
rising_append : (number : ℕ) (front : List Placed) (bytes : List ℕ) → Rising front → Below number front → Rising (front ++ placed number bytes)
rising_append number front bytes rises below i j d less within =
    let rest : List Placed = placed number bytes in
    let most : Below number (front ++ rest) = Below-append number front bytes below in
    let long : j < length front + length rest = rw length-append at within in
    elim (cases_lt j (length front)) [
      | inl early ↦
          let near : i < length front = omega (arith, less, early) in
          rw (get_or-append front rest d i near, get_or-append front rest d j early) (rises i j d less early)
      | inr late ↦
          let least : All (λ p. number ≤ p.line) rest = All-placed (λ n. number ≤ n) number bytes (omega arith) in
          let last : number ≤ (get_or rest (j - length front) d).line = least (j - length front) d (omega (arith, long, late)) in
          let first : (get_or (front ++ rest) i d).line ≤ number = most i d (omega (arith, less, within)) in
          rw (get_or-append_right front rest (length front) j d refl late) (omega (arith, first, last))
    ]

Rising-front : (front off text : List Placed) → text ≡ front ++ off → Rising text → Rising front
Rising-front front off text e rises i j d less within =
    let whole : Rising (front ++ off) = rw e at rises in
    let near : i < length front = omega (arith, less, within) in
    let both = whole i j d less (simp length-append (omega (arith, within))) in
    rw (get_or-append front off d i near, get_or-append front off d j within) at both

rises_with_line : (last : Option ℕ) (text : List Placed) (line : Line) → Last (λ n. n ≤ line.number) last → ((n : ℕ) → last ≡ Some n → Below n text) → Below line.number text → Rising text → Rising (with_line last text line)
rises_with_line last text line l ended below rises =
    let literal = literal_at_end text in
    let cut = trimmed_cut literal text in
    let kept : List Placed = trimmed literal text in
    elim (is_continuation line.card) as (λ t. Rising (cond t (kept ++ placed line.number (continuing literal line.card)) (text ++ line_end last ++ placed line.number (columns 8 72 line.card)))) [
      | true ↦ rising_append line.number kept (continuing literal line.card) (Rising-front kept cut.0 text cut.1 rises) (front_of_all (λ p. p.line ≤ line.number) kept cut.0 text cut.1 below)
      | false ↦ rising_append line.number (text ++ line_end last) (columns 8 72 line.card) (ending last ended rises) (All-append (λ p. p.line ≤ line.number) text (line_end last) below (All-line_end (λ n. n ≤ line.number) last l))
    ] where
      ending : (last' : Option ℕ) → ((n : ℕ) → last' ≡ Some n → Below n text) → Rising text → Rising (text ++ line_end last')
      ending None e r = rw append-nil r
      ending (Some n) e r = rising_append n text (10 ∷ []) r (e n refl)

pub Rising-joined : (last : Option ℕ) (text : List Placed) (lines : List Line) (from : ℕ) → Last (λ n. n ≤ from) last → ((n : ℕ) → last ≡ Some n → Below n text) → Below from text → Rising text → RiseFrom from lines → IfOk (joined last text lines) Rising
Rising-joined last text [] from l ended below rises rest = rises
Rising-joined last text (line ∷ lines) from l ended below rises rest =
    let number = line.number in
    let next : List Placed = with_line last text line in
    let here : Below number text = All-weaker (λ p. p.line ≤ from) (λ p. p.line ≤ number) (λ p h. omega (arith, h, rest.0)) text below in
    let last_here : Last (λ n. n ≤ number) last = last_weaker last from number rest.0 l in
    let now_below : Below number next = All-with_line (λ n. n ≤ number) last text line last_here here (omega arith) in
    let now_rises : Rising next = rises_with_line last text line last_here ended here rises in
    let more = Rising-joined (Some number) next lines number (omega arith) (λ n e. All-weaker (λ p. p.line ≤ number) (λ p. p.line ≤ n) (λ p h. let same : number ≡ n = cc in omega (arith, h, same)) next now_below) now_below now_rises rest.1 in
    elim (fault_of last (literal_at_end text) line) as (λ o. IfOk (joined_or o (joined (Some number) next lines)) Rising) [ Some fault ↦ tt | None ↦ more ] where
      last_weaker : (last' : Option ℕ) (m n : ℕ) → m ≤ n → Last (λ k. k ≤ m) last' → Last (λ k. k ≤ n) last'
      last_weaker None m n h t = tt
      last_weaker (Some k) m n h t = omega (arith, h, t)

rise : (bytes : List ℕ) → IfOk (program_text bytes) Rising
unfolding program_text kept_lines
rise bytes = Rising-joined None [] (kept_lines bytes) 1 tt (λ n e. absurd (cc)) (All-nil (λ p. p.line ≤ 1)) (λ i j d less within. absurd (omega (arith, less, within))) (kept_rise 1 [] 1 (map card_of (lines bytes)) (omega arith))

rising_ok : (text : Result (List Placed) FormatError) → IfOk text Rising → IfOk text (IsNonDecreasingBy (λ p. p.line))
rising_ok (Ok text) h = rising-from_pairs (λ p. p.line) text h
rising_ok (Err fault) h = tt

pub lines_rise : LinesRise
lines_rise bytes = rising_ok (program_text bytes) (rise bytes)
