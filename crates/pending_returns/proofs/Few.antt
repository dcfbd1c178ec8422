-- A summary has no more ranges than its table.
use Rattle.std.proofs.Common.{◌≡◌, ◌<◌, ◌≤◌, ℕ, zero, suc, Bool, List, [], ◌∷◌, length, Some, slice_get, arith}
use Rattle.pending_returns.specs.declared.facts.RangeFacts.{RangeFacts}
use Rattle.pending_returns.specs.Summary.{Rises}
use Rattle.pending_returns.specs.Tabled.{AllBelow, Lists, KeepsFacts}
use Rattle.pending_returns.proofs.Getting.{get-below, get-some}
use Rattle.pending_returns.proofs.Summing.{kept-below, kept-rises}

-- rising numbers are no less than their places
at-least : (numbers : List ℕ) → Rises numbers → (at number : ℕ) →
    slice_get numbers at ≡ Some number → at ≤ number
at-least numbers rises zero number e = omega arith
at-least numbers rises (suc at) number e =
    let inside : suc at < length numbers = get-below numbers (suc at) number e in
    let before = get-some numbers at (omega (arith, inside)) in
    let here = at-least numbers rises at before.0 before.1 in
    let more = rises at before.0 number before.1 e in
    omega (arith, here, more)

-- so there are no more of them than lie below a number
few : (numbers : List ℕ) (count : ℕ) → Rises numbers → AllBelow count numbers →
    length numbers ≤ count
few [] count rises below = omega arith
few (first ∷ others) count rises below =
    let last = get-some (first ∷ others) (length others) (omega arith) in
    let here = at-least (first ∷ others) rises (length others) last.0 last.1 in
    let less = below last.0 (length others, last.1) in
    omega (arith, here, less)

pub fewer : (flags fs : List Bool) (kept ks : List ℕ) (levels : List RangeFacts) (ranks : List ℕ)
    (made : List RangeFacts) (count : ℕ) → fs ≡ flags → Lists fs kept → ks ≡ kept →
    length flags ≡ count → KeepsFacts levels ks ranks made → length made ≤ count
fewer flags fs kept ks levels ranks made count one lists two size keeps =
    let under = few ks count (kept-rises fs kept ks lists two)
    (kept-below flags fs kept ks count one lists two size) in
    omega (arith, under, keeps.size)
