-- In the order of layered calls each number stands, before those that it calls.
use Rattle.std.proofs.Common.{◌≡◌, ◌<◌, ◌≤◌, ◌+◌, ℕ, zero, suc, Bool, true, false, not, ◌&&◌, ◌||◌, if◌then◌else◌, nat_eq, List, [], ◌∷◌, length, replicate, Option, Some, None, slice_get, refl, ap, sym, ◌∙◌, subst, ◌⊎◌, inl, inr, eqb-true, eq-eqb, arith}
use Rattle.std.specs.Prelude.{slice_set, slice_index_or}
use Rattle.std.proofs.lemmas.Option.{slice_get_within}
use Rattle.pending_returns.specs.levels.Reach.{Holds, trues}
use Rattle.pending_returns.proofs.levels_lemmas.Searching.{trues-set, trues-most, set-get, no-mark}
use Rattle.out_names.specs.Ordering.{calls_it, waits, is_ready, first_ready, order_from, order_of}
use Rattle.procedure_split.specs.plan.Ordered.{Calls, Leads, begins, on, IsLayered, CalledStandLater, IsOrdered}

holds-more : (first number : ℕ) (numbers : List ℕ) → Holds numbers number → Holds (first ∷ numbers) number
holds-more first number numbers h = (suc h.0, h.1)

called : (number : ℕ) (callees : List ℕ) → calls_it number callees ≡ true → Holds callees number
called number [] h = absurd (let k : ⊥ = cc in k)
called number (callee ∷ callees) h = (elim (nat_eq callee number) as (λ b. nat_eq callee number ≡ b → (b || calls_it number callees) ≡ true → Holds (callee ∷ callees) number) [
  | true ↦ λ s e. (0, ap (λ n. Some n) (eqb-true callee number s))
  | false ↦ λ s e. holds-more callee number callees (called number callees e)
]) refl h

calls-there : (number at : ℕ) (callees : List ℕ) → slice_get callees at ≡ Some number → calls_it number callees ≡ true
calls-there number at [] e = absurd (let k : ⊥ = cc in k)
calls-there number zero (callee ∷ callees) e = (let same : callee ≡ number = cc in ap (λ b. b || calls_it number callees) (eq-eqb callee number same))
calls-there number (suc at) (callee ∷ callees) e = (let below = calls-there number at callees e in elim (nat_eq callee number) as (λ b. (b || calls_it number callees) ≡ true) [ true ↦ refl | false ↦ below ])

-- a caller that doesn't stand
abbrev Waiting : List (List ℕ) → List Bool → ℕ → Type 0
Waiting calls stands number = (from : ℕ) × Calls calls from number × (slice_get stands from ≡ Some false)

waiting : (calls : List (List ℕ)) (stands : List Bool) (number : ℕ) → waits calls stands number ≡ true → Waiting calls stands number
waiting [] stands number h = absurd (let k : ⊥ = cc in k)
waiting (callees ∷ calls) [] number h = absurd (let k : ⊥ = cc in k)
waiting (callees ∷ calls) (stand ∷ others) number h =
    let further : waits calls others number ≡ true → Waiting (callees ∷ calls) (stand ∷ others) number = λ e. (let w = waiting calls others number e in (suc w.0, w.1, w.2)) in
    (elim stand as (λ s. stand ≡ s → ((not s && calls_it number callees) || waits calls others number) ≡ true → Waiting (callees ∷ calls) (stand ∷ others) number) [
      | true ↦ λ is e. further e
      | false ↦ λ is e. (elim (calls_it number callees) as (λ b. calls_it number callees ≡ b → (b || waits calls others number) ≡ true → Waiting (callees ∷ calls) (stand ∷ others) number) [
        | true ↦ λ s k. (0, (callees, refl, called number callees s), ap (λ b. Some b) is)
        | false ↦ λ s k. further k
      ]) refl e
    ]) refl h

or-false : (a b : Bool) → (a || b) ≡ false → (a ≡ false) × (b ≡ false)
or-false true b h = absurd (let k : ⊥ = cc in k)
or-false false b h = (refl, h)

-- where it waits for none, all its callers stand
no-waiting : (calls : List (List ℕ)) (stands : List Bool) (number : ℕ) → length stands ≡ length calls → waits calls stands number ≡ false → (from : ℕ) → Calls calls from number → slice_get stands from ≡ Some true
no-waiting [] stands number size h from c = absurd (let e = c.1 in let k : ⊥ = cc in k)
no-waiting (callees ∷ calls) [] number size h from c = absurd (omega (arith, size))
no-waiting (callees ∷ calls) (true ∷ others) number size h zero c = refl
no-waiting (callees ∷ calls) (false ∷ others) number size h zero c =
    let none = (or-false (calls_it number callees) (waits calls others number) h).0 in
    let e = c.1 in
    let same : callees ≡ c.0 = cc in
    let one : calls_it number callees ≡ true = subst (λ cs. calls_it number cs ≡ true) (sym same) (calls-there number c.2.0 c.0 c.2.1) in
    let wrong : true ≡ false = sym one ∙ none in
    absurd (let k : ⊥ = cc in k)
no-waiting (callees ∷ calls) (stand ∷ others) number size h (suc from) c =
    no-waiting calls others number (omega (arith, size)) (or-false (not stand && calls_it number callees) (waits calls others number) h).1 from (c.0, c.1, c.2)

stand-off : (stands : List Bool) (number : ℕ) → slice_index_or stands number true ≡ false → slice_get stands number ≡ Some false
stand-off [] number h = absurd (let k : ⊥ = cc in k)
stand-off (stand ∷ stands) zero h = ap (λ b. Some b) h
stand-off (stand ∷ stands) (suc number) h = stand-off stands number h

off-stand : (stands : List Bool) (number : ℕ) → slice_get stands number ≡ Some false → slice_index_or stands number true ≡ false
off-stand [] number h = absurd (let k : ⊥ = cc in k)
off-stand (stand ∷ stands) zero h = (let same : stand ≡ false = cc in same)
off-stand (stand ∷ stands) (suc number) h = off-stand stands number h

ready-parts : (a b : Bool) → (not a && not b) ≡ true → (a ≡ false) × (b ≡ false)
ready-parts true b h = absurd (let k : ⊥ = cc in k)
ready-parts false true h = absurd (let k : ⊥ = cc in k)
ready-parts false false h = (refl, refl)

unready-waits : (a b : Bool) → a ≡ false → (not a && not b) ≡ false → b ≡ true
unready-waits true b off h = absurd (let k : ⊥ = cc in k)
unready-waits false true off h = refl
unready-waits false false off h = absurd (let k : ⊥ = cc in k)

above : (at number : ℕ) → at ≤ number → (at ≡ number → ⊥) → suc at ≤ number
above zero zero le ne = absurd (ne refl)
above zero (suc number) le ne = omega arith
above (suc at) zero le ne = absurd (omega (arith, le))
above (suc at) (suc number) le ne = (let below : suc at ≤ number = above at number (omega (arith, le)) (λ q. ne (ap (λ n. suc n) q)) in omega (arith, below))

module _ (calls : List (List ℕ)) (stands : List Bool) where
  ready-some : (count at number : ℕ) → first_ready count calls stands at ≡ Some number → is_ready calls stands number ≡ true
  ready-some zero at number h = absurd (let k : ⊥ = cc in k)
  ready-some (suc count) at number h = (elim (is_ready calls stands at) as (λ b. is_ready calls stands at ≡ b → (if b then Some at else first_ready count calls stands (suc at)) ≡ Some number → is_ready calls stands number ≡ true) [
    | true ↦ λ s e. (let same : at ≡ number = cc in subst (λ n. is_ready calls stands n ≡ true) same s)
    | false ↦ λ s e. ready-some count (suc at) number e
  ]) refl h

  ready-none : (count at : ℕ) → first_ready count calls stands at ≡ None → (number : ℕ) → at ≤ number → number < at + count → is_ready calls stands number ≡ false
  ready-none zero at h number from to = absurd (omega (arith, from, to))
  ready-none (suc count) at h number from to = (elim (is_ready calls stands at) as (λ b. is_ready calls stands at ≡ b → (if b then Some at else first_ready count calls stands (suc at)) ≡ None → is_ready calls stands number ≡ false) [
    | true ↦ λ s e. absurd (let k : ⊥ = cc in k)
    | false ↦ λ s e. (elim (nat_eq at number) as (λ b. nat_eq at number ≡ b → is_ready calls stands number ≡ false) [
      | true ↦ λ same. subst (λ n. is_ready calls stands n ≡ false) (eqb-true at number same) s
      | false ↦ λ apart.
          let ne : at ≡ number → ⊥ = λ q. (let wrong : true ≡ false = sym (eq-eqb at number q) ∙ apart in let k : ⊥ = cc in k) in
          ready-none count (suc at) e number (above at number from ne) (omega (arith, to))
    ]) refl
  ]) refl h

all-on : (flags : List Bool) (at : ℕ) → slice_get flags at ≡ Some false → length flags ≤ trues flags → ⊥
all-on [] at e le = (let k : ⊥ = cc in k)
all-on (true ∷ flags) zero e le = (let k : ⊥ = cc in k)
all-on (false ∷ flags) zero e le = (let most : trues flags ≤ length flags = trues-most flags in omega (arith, most, le))
all-on (true ∷ flags) (suc at) e le = all-on flags at e (omega (arith, le))
all-on (false ∷ flags) (suc at) e le = (let most : trues flags ≤ length flags = trues-most flags in omega (arith, most, le))

set-size : (flags : List Bool) (at : ℕ) → length (slice_set flags at true) ≡ length flags
set-size [] at = refl
set-size (flag ∷ flags) zero = refl
set-size (flag ∷ flags) (suc at) = ap (λ n. suc n) (set-size flags at)

set-off : (flags : List Bool) (at other : ℕ) → (at ≡ other → ⊥) → slice_get flags other ≡ Some false → slice_get (slice_set flags at true) other ≡ Some false
set-off [] at other ne e = e
set-off (flag ∷ flags) zero zero ne e = absurd (ne refl)
set-off (flag ∷ flags) zero (suc other) ne e = e
set-off (flag ∷ flags) (suc at) zero ne e = e
set-off (flag ∷ flags) (suc at) (suc other) ne e = set-off flags at other (λ q. ne (ap (λ n. suc n) q)) e

set-was-off : (flags : List Bool) (at other : ℕ) → slice_get (slice_set flags at true) other ≡ Some false → slice_get flags other ≡ Some false
set-was-off [] at other e = e
set-was-off (flag ∷ flags) zero zero e = absurd (let k : ⊥ = cc in k)
set-was-off (flag ∷ flags) zero (suc other) e = e
set-was-off (flag ∷ flags) (suc at) zero e = e
set-was-off (flag ∷ flags) (suc at) (suc other) e = set-was-off flags at other e

set-is-on : (flags : List Bool) (at : ℕ) → slice_get flags at ≡ Some false → slice_get (slice_set flags at true) at ≡ Some true
set-is-on [] at e = absurd (let k : ⊥ = cc in k)
set-is-on (flag ∷ flags) zero e = refl
set-is-on (flag ∷ flags) (suc at) e = set-is-on flags at e

set-still-on : (flags : List Bool) (at other : ℕ) → slice_get flags other ≡ Some true → slice_get (slice_set flags at true) other ≡ Some true
set-still-on [] at other e = e
set-still-on (flag ∷ flags) zero zero e = refl
set-still-on (flag ∷ flags) zero (suc other) e = e
set-still-on (flag ∷ flags) (suc at) zero e = e
set-still-on (flag ∷ flags) (suc at) (suc other) e = set-still-on flags at other e

flag-of : (flags : List Bool) (at : ℕ) → at < length flags → (slice_get flags at ≡ Some true) ⊎ (slice_get flags at ≡ Some false)
flag-of [] at lt = absurd (omega (arith, lt))
flag-of (true ∷ flags) zero lt = inl refl
flag-of (false ∷ flags) zero lt = inr refl
flag-of (flag ∷ flags) (suc at) lt = flag-of flags at (omega (arith, lt))

fresh-off : (count at : ℕ) → at < count → slice_get (replicate count false) at ≡ Some false
fresh-off zero at lt = absurd (omega (arith, lt))
fresh-off (suc count) zero lt = refl
fresh-off (suc count) (suc at) lt = fresh-off count at (omega (arith, lt))

fresh-size : (count : ℕ) → length (replicate count false) ≡ count
fresh-size zero = refl
fresh-size (suc count) = ap (λ n. suc n) (fresh-size count)

module _ (calls : List (List ℕ)) (layered : IsLayered calls) where
  before-it : (from base number : ℕ) → Calls calls from base → Leads calls base number → Leads calls from number
  before-it from base number c (begins) = on from base begins c
  before-it from base number c (on mid to led step) = on mid to (before-it from base mid c led) step

  -- where none is ready, each that doesn't stand has a caller that doesn't, and so on for ever
  module _ (stands : List Bool) (size : length stands ≡ length calls) (none : (number : ℕ) → number < length calls → is_ready calls stands number ≡ false) where
    -- a caller that doesn't stand, without a mark
    abbrev Further : List Bool → ℕ → Type 0
    Further marks head = (from : ℕ) × Calls calls from head × (slice_get stands from ≡ Some false) × (slice_get marks from ≡ Some false)

    further : (marks : List Bool) (head : ℕ) → length marks ≡ length calls → ((number : ℕ) → slice_get marks number ≡ Some true → Leads calls head number) → slice_get stands head ≡ Some false → Further marks head
    further marks head marked led off =
        let inside : head < length calls = (let k : head < length stands = slice_get_within stands head false off in omega (arith, k, size)) in
        let w = waiting calls stands head (unready-waits (slice_index_or stands head true) (waits calls stands head) (off-stand stands head off) (none head inside)) in
        let from : ℕ = w.0 in
        let there : from < length marks = (let k : from < length stands = slice_get_within stands from false w.2 in omega (arith, k, size, marked)) in
        elim (flag-of marks from there) [
          | inl seen ↦ absurd (layered.never head from (led from seen) w.1)
          | inr unseen ↦ (from, w.1, w.2, unseen)
        ]

    chased : (fuel : ℕ) (marks : List Bool) (head : ℕ) → length marks ≡ length calls → length calls ≤ trues marks + fuel → ((number : ℕ) → slice_get marks number ≡ Some true → Leads calls head number) → slice_get stands head ≡ Some false → ⊥
    chased zero marks head marked enough led off =
        let f = further marks head marked led off in
        all-on marks f.0 f.3 (omega (arith, marked, enough))
    chased (suc fuel) marks head marked enough led off =
        let f = further marks head marked led off in
        let more : trues (slice_set marks f.0 true) ≡ suc (trues marks) = trues-set marks f.0 f.3 in
        chased fuel (slice_set marks f.0 true) f.0 (set-size marks f.0 ∙ marked) (omega (arith, more, enough))
        (λ number on_now. elim (set-get marks f.0 number on_now) [
          | inl same ↦ subst (λ n. Leads calls f.0 n) (sym same) begins
          | inr old ↦ before-it f.0 head number f.1 (led number old)
        ]) f.2

    pub none-stuck : (number : ℕ) → slice_get stands number ≡ Some false → ⊥
    none-stuck number off = chased (length calls) (replicate (length calls) false) number (fresh-size (length calls)) (omega arith) (λ other on_now. absurd (no-mark (length calls) other on_now)) off

  abbrev GoodNext : List Bool → Option ℕ → Type 0
  GoodNext stands None = (number : ℕ) → number < length calls → is_ready calls stands number ≡ false
  GoodNext stands (Some next) = (slice_get stands next ≡ Some false) × ((from : ℕ) → Calls calls from next → slice_get stands from ≡ Some true)

  -- all callers of what stands do
  abbrev Closed : List Bool → Type 0
  Closed stands = (from to : ℕ) → Calls calls from to → slice_get stands to ≡ Some true → slice_get stands from ≡ Some true

  abbrev next_of : List Bool → Option ℕ
  next_of stands = first_ready (length calls) calls stands 0

  next-good : (stands : List Bool) → length stands ≡ length calls → GoodNext stands (next_of stands)
  next-good stands size = (elim (next_of stands) as (λ next. next_of stands ≡ next → GoodNext stands next) [
    | None ↦ λ e number lt. ready-none calls stands (length calls) 0 e number (omega arith) (omega (arith, lt))
    | Some next ↦ λ e.
        let parts = ready-parts (slice_index_or stands next true) (waits calls stands next) (ready-some calls stands (length calls) 0 next e) in
        (stand-off stands next parts.0, no-waiting calls stands next size parts.1)
  ]) refl

  closed-more : (stands : List Bool) (next : ℕ) → GoodNext stands (Some next) → Closed stands → Closed (slice_set stands next true)
  closed-more stands next good closed from to c on_now = elim (set-get stands next to on_now) [
    | inl same ↦ set-still-on stands next from (good.1 from (subst (λ n. Calls calls from n) same c))
    | inr old ↦ set-still-on stands next from (closed from to c old)
  ]

  fresh : (count : ℕ) (stands : List Bool) (next : Option ℕ) → length stands ≡ length calls → GoodNext stands next → (number : ℕ) → Holds (order_from count calls stands next) number → slice_get stands number ≡ Some false
  fresh zero stands next size good number h = absurd (let e = h.1 in let k : ⊥ = cc in k)
  fresh (suc count) stands None size good number h = absurd (let e = h.1 in let k : ⊥ = cc in k)
  fresh (suc count) stands (Some next) size good number (at, e) =
      let after = slice_set stands next true in
      let full : length after ≡ length calls = set-size stands next ∙ size in
      (elim at as (λ at. slice_get (next ∷ order_from count calls after (next_of after)) at ≡ Some number → slice_get stands number ≡ Some false) [
        | zero ↦ λ e. (let same : next ≡ number = cc in subst (λ n. slice_get stands n ≡ Some false) same good.0)
        | suc at ↦ λ e. set-was-off stands next number (fresh count after (next_of after) full (next-good after full) number (at, e))
      ]) e

  complete : (count : ℕ) (stands : List Bool) (next : Option ℕ) → length stands ≡ length calls → GoodNext stands next → length calls ≤ trues stands + count → (number : ℕ) → slice_get stands number ≡ Some false → Holds (order_from count calls stands next) number
  complete zero stands next size good enough number off = absurd (all-on stands number off (omega (arith, size, enough)))
  complete (suc count) stands None size good enough number off = absurd (none-stuck stands size good number off)
  complete (suc count) stands (Some next) size good enough number off =
      let after = slice_set stands next true in
      let full : length after ≡ length calls = set-size stands next ∙ size in
      let more : trues after ≡ suc (trues stands) = trues-set stands next good.0 in
      (elim (nat_eq next number) as (λ b. nat_eq next number ≡ b → Holds (next ∷ order_from count calls after (next_of after)) number) [
        | true ↦ λ same. (0, ap (λ n. Some n) (eqb-true next number same))
        | false ↦ λ apart.
            let ne : next ≡ number → ⊥ = λ q. (let wrong : true ≡ false = sym (eq-eqb next number q) ∙ apart in let k : ⊥ = cc in k) in
            holds-more next number (order_from count calls after (next_of after)) (complete count after (next_of after) full (next-good after full) (omega (arith, more, enough)) number (set-off stands next number ne off))
      ]) refl

  laid : (count : ℕ) (stands : List Bool) (next : Option ℕ) → length stands ≡ length calls → Closed stands → GoodNext stands next → length calls ≤ trues stands + count → CalledStandLater calls (order_from count calls stands next)
  laid zero stands next size closed good enough = tt
  laid (suc count) stands None size closed good enough = tt
  laid (suc count) stands (Some next) size closed good enough =
      let after = slice_set stands next true in
      let full : length after ≡ length calls = set-size stands next ∙ size in
      let more : trues after ≡ suc (trues stands) = trues-set stands next good.0 in
      let enough_after : length calls ≤ trues after + count = omega (arith, more, enough) in (
        λ again.
            let off : slice_get after next ≡ Some false = fresh count after (next_of after) full (next-good after full) next again in
            let wrong : Some true ≡ Some false = sym (set-is-on stands next good.0) ∙ off in
            (let k : ⊥ = cc in k),
        λ to c lt. complete count after (next_of after) full (next-good after full) enough_after to (elim (flag-of after to (omega (arith, lt, full))) [
          | inl on_now ↦ absurd (elim (set-get stands next to on_now) [
            | inl same ↦ layered.never next next begins (subst (λ n. Calls calls next n) same c)
            | inr old ↦
                let wrong : Some true ≡ Some false = sym (closed next to c old) ∙ good.0 in
                (let k : ⊥ = cc in k)
          ])
          | inr off ↦ off
        ]),
        laid count after (next_of after) full (closed-more stands next good closed) (next-good after full) enough_after,
      )

  abbrev none_stands : List Bool
  none_stands = replicate (length calls) false

  first-good : GoodNext none_stands (Some 0)
  first-good = (fresh-off (length calls) 0 layered.some, λ from c. absurd (layered.first from c))

  first-first : (count : ℕ) → 0 < count → slice_get (order_from count calls none_stands (Some 0)) 0 ≡ Some 0
  first-first zero lt = absurd (omega (arith, lt))
  first-first (suc count) lt = refl

  pub ordered : IsOrdered calls (order_of calls)
  ordered = record {
    first = first-first (length calls) layered.some;
    all = λ number lt. complete (length calls) none_stands (Some 0) (fresh-size (length calls)) first-good (omega arith) number (fresh-off (length calls) number lt);
    below = λ number h.
        let off = fresh (length calls) none_stands (Some 0) (fresh-size (length calls)) first-good number h in
        (let lt : number < length none_stands = slice_get_within none_stands number false off in let size = fresh-size (length calls) in omega (arith, lt, size));
    later = laid (length calls) none_stands (Some 0) (fresh-size (length calls)) (λ from to c on_now. absurd (no-mark (length calls) to on_now)) first-good (omega arith);
  }
