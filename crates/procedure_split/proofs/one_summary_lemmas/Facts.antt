-- Two summaries of one program.
use Rattle.std.proofs.Common.{◌≡◌, ◌<◌, ℕ, zero, suc, Bool, true, false, List, [], ◌∷◌, length, Some, slice_get, refl, ap, sym, ◌∙◌, subst, arith}
use Rattle.std.specs.Prelude.{map}
use Rattle.cob_tree.specs.declared.program.Range.{Range}
use Rattle.control_flow_theory.specs.language.Language.{Chooser, Program}
use Rattle.program_points.specs.paths.Flow.{ReturnsIn, CallsIn, EndsIn, IsRange}
use Rattle.pending_returns.specs.levels.Reach.{Holds}
use Rattle.program_points.specs.perform_ranges.Named.{is_before, Has}
use Rattle.pending_returns.specs.declared.facts.RangeFacts.{RangeFacts}
use Rattle.pending_returns.specs.declared.facts.Summary.{Summary}
use Rattle.pending_returns.specs.Summary.{IsNumber, Tells, IsSummary}
use Rattle.procedure_split.proofs.one_summary_lemmas.Ranges.{Rising, apart, head-before, one-list}
use Rattle.procedure_split.proofs.one_summary_lemmas.Numbers.{one-rising}

abbrev range_of : RangeFacts → Range
range_of facts = facts.range

abbrev ranges_in : List RangeFacts → List Range
ranges_in = map range_of

-- at the places of the list and of its ranges
get-range : (list : List RangeFacts) (at : ℕ) (facts : RangeFacts) →
    slice_get list at ≡ Some facts → slice_get (ranges_in list) at ≡ Some facts.range
get-range [] at facts e = absurd (let k : ⊥ = cc in k)
get-range (first ∷ list) zero facts e =
    let same : first ≡ facts = cc in ap (λ (f : RangeFacts). Some f.range) same
get-range (first ∷ list) (suc at) facts e = get-range list at facts e

get-facts : (list : List RangeFacts) (at : ℕ) (range : Range) →
    slice_get (ranges_in list) at ≡ Some range →
    (facts : RangeFacts) × (slice_get list at ≡ Some facts) × (facts.range ≡ range)
get-facts [] at range e = absurd (let k : ⊥ = cc in k)
get-facts (first ∷ list) zero range e = (first, refl, (let same : first.range ≡ range = cc in same))
get-facts (first ∷ list) (suc at) range e = get-facts list at range e

get-below : (list : List RangeFacts) (at : ℕ) → at < length list →
    (facts : RangeFacts) × (slice_get list at ≡ Some facts)
get-below [] at lt = absurd (omega (arith, lt))
get-below (first ∷ list) zero lt = (first, refl)
get-below (first ∷ list) (suc at) lt = get-below list at (omega (arith, lt))

-- no range stands twice
once : (ranges : List Range) → Rising ranges → (one other : ℕ) (range : Range) →
    slice_get ranges one ≡ Some range → slice_get ranges other ≡ Some range → one ≡ other
once [] rising one other range e g = absurd (let k : ⊥ = cc in k)
once (first ∷ ranges) rising zero zero range e g = refl
once (first ∷ ranges) rising zero (suc other) range e g =
    let same : first ≡ range = cc in
    let before : is_before first range ≡ true = head-before first ranges rising other range g in
    let twice : is_before range range ≡ true = subst (λ r. is_before r range ≡ true) same before in
    absurd (apart range range twice twice)
once (first ∷ ranges) rising (suc one) zero range e g =
    let same : first ≡ range = cc in
    let before : is_before first range ≡ true = head-before first ranges rising one range e in
    let twice : is_before range range ≡ true = subst (λ r. is_before r range ≡ true) same before in
    absurd (apart range range twice twice)
once (first ∷ ranges) rising (suc one) (suc other) range e g =
    ap (λ (n : ℕ). suc n)
    (once ranges (λ number r next here there. rising (suc number) r next here there) one other range
    e g)

bools-same : (a b : Bool) → (a ≡ true → b ≡ true) → (b ≡ true → a ≡ true) → a ≡ b
bools-same true b to from = sym (to refl)
bools-same false true to from = from refl
bools-same false false to from = refl

facts-same : (one other : RangeFacts) → one.range ≡ other.range → one.returns ≡ other.returns →
    one.calls ≡ other.calls → one.ends ≡ other.ends → one ≡ other
facts-same one other range returns calls ends =
    ap (λ (r : Range). record {
      range = r;
      returns = one.returns;
      calls = one.calls;
      ends = one.ends;
    }) range
    ∙ ap (λ (b : Bool). record {
      range = other.range;
      returns = b;
      calls = one.calls;
      ends = one.ends;
    }) returns
    ∙ ap (λ (c : List ℕ). record {
      range = other.range;
      returns = other.returns;
      calls = c;
      ends = one.ends;
    }) calls
    ∙ ap (λ (e : List ℕ). record {
      range = other.range;
      returns = other.returns;
      calls = other.calls;
      ends = e;
    }) ends

lists-same : (xs ys : List RangeFacts) → length xs ≡ length ys →
    ((at : ℕ) (x y : RangeFacts) → slice_get xs at ≡ Some x → slice_get ys at ≡ Some y → x ≡ y) →
    xs ≡ ys
lists-same [] [] len each = refl
lists-same [] (y ∷ ys) len each = absurd (omega (arith, len))
lists-same (x ∷ xs) [] len each = absurd (omega (arith, len))
lists-same (x ∷ xs) (y ∷ ys) len each =
    ap (λ (r : RangeFacts). r ∷ xs) (each 0 x y refl refl)
    ∙ ap (λ (rs : List RangeFacts). y ∷ rs) (lists-same xs ys (omega (arith, len))
    (λ at a b h g. each (suc at) a b h g))

length-in : (list : List RangeFacts) → length (ranges_in list) ≡ length list
length-in [] = refl
length-in (first ∷ list) = ap (λ (n : ℕ). suc n) (length-in list)

module _ (never_first : Chooser → Bool) (program : Program) where
  abbrev Sums : Summary → Type 0
  Sums = IsSummary never_first program

  rising-in : (summary : Summary) → Sums summary → Rising (ranges_in summary.ranges)
  rising-in summary is number range next here there =
      let one = get-facts summary.ranges number range here in
      let other = get-facts summary.ranges (suc number) next there in
      subst (λ r. is_before r next ≡ true) one.2
      (subst (λ r. is_before one.0.range r ≡ true) other.2
      (is.rising number one.0 other.0 one.1 other.1))

  has-range : (summary : Summary) → Sums summary → (range : Range) →
      Has (ranges_in summary.ranges) range → IsRange never_first program range
  has-range summary is range h =
      let found = get-facts summary.ranges h.0 range h.1 in
      (is.ranges range).1 (h.0, (found.0, found.1, found.2))

  range-had : (summary : Summary) → Sums summary → (range : Range) →
      IsRange never_first program range → Has (ranges_in summary.ranges) range
  range-had summary is range h =
      let found = (is.ranges range).0 h in (
        found.0,
        get-range summary.ranges found.0 found.1.0 found.1.1
            ∙ ap (λ (r : Range). Some r) found.1.2,
      )

  ranges-same : (one other : Summary) → Sums one → Sums other →
      ranges_in one.ranges ≡ ranges_in other.ranges
  ranges-same one other is also_is =
      one-list (ranges_in one.ranges) (ranges_in other.ranges) (rising-in one is)
      (rising-in other also_is)
      (λ range h. range-had other also_is range (has-range one is range h))
      (λ range h. range-had one is range (has-range other also_is range h))

  -- the number of a range in both
  number-same : (one other : Summary) → Sums one → Sums other → (number also : ℕ) (range : Range) →
      IsNumber one.ranges number range → IsNumber other.ranges also range → number ≡ also
  number-same one other is also_is number also range h g =
      once (ranges_in one.ranges) (rising-in one is) number also range
      (get-range one.ranges number h.0 h.1 ∙ ap (λ (r : Range). Some r) h.2)
      (subst (λ rs. slice_get rs also ≡ Some range) (sym (ranges-same one other is also_is))
      (get-range other.ranges also g.0 g.1 ∙ ap (λ (r : Range). Some r) g.2))

  called-too : (one other : Summary) → Sums one → Sums other → (f g : RangeFacts) →
      f.range ≡ g.range → Tells never_first program one.ranges f →
      Tells never_first program other.ranges g → (number : ℕ) → Holds f.calls number →
      Holds g.calls number
  called-too one other is also_is f g same tells also_tells number h =
      let there = get-below one.ranges number (tells.calls_known number h) in
      let called : Range = there.0.range in
      let calls : CallsIn never_first program f.range called =
      (tells.calls called).1 (number, h, (there.0, there.1, refl)) in
      let too : CallsIn never_first program g.range called =
      subst (λ r. CallsIn never_first program r called) same calls in
      let found = (also_tells.calls called).0 too in
      let at : number ≡ found.0 =
      number-same one other is also_is number found.0 called (there.0, there.1, refl) found.2 in
      subst (λ n. Holds g.calls n) (sym at) found.1

  ends-too : (one other : Summary) (f g : RangeFacts) → f.range ≡ g.range →
      Tells never_first program one.ranges f → Tells never_first program other.ranges g →
      (number : ℕ) → Holds f.ends number → Holds g.ends number
  ends-too one other f g same tells also_tells number h =
      (also_tells.ends number).0
      (subst (λ r. EndsIn never_first program r number) same ((tells.ends number).1 h))

  returns-too : (one other : Summary) (f g : RangeFacts) → f.range ≡ g.range →
      Tells never_first program one.ranges f → Tells never_first program other.ranges g →
      f.returns ≡ true → g.returns ≡ true
  returns-too one other f g same tells also_tells h =
      also_tells.returns.1
      (subst (λ r. ReturnsIn never_first program r) same (tells.returns.0 h))

  at-same : (one other : Summary) → Sums one → Sums other → (at : ℕ) (f g : RangeFacts) →
      slice_get one.ranges at ≡ Some f → slice_get other.ranges at ≡ Some g → f ≡ g
  at-same one other is also_is at f g h k =
      let tells = is.told at f h in
      let also_tells = also_is.told at g k in
      let both : Some f.range ≡ Some g.range =
      sym (get-range one.ranges at f h)
      ∙ ap (λ rs. slice_get rs at) (ranges-same one other is also_is)
      ∙ get-range other.ranges at g k in
      let same : f.range ≡ g.range = cc in
      facts-same f g same
      (bools-same f.returns g.returns (returns-too one other f g same tells also_tells)
      (returns-too other one g f (sym same) also_tells tells))
      (one-rising f.calls g.calls tells.calls_rise also_tells.calls_rise
      (called-too one other is also_is f g same tells also_tells)
      (called-too other one also_is is g f (sym same) also_tells tells))
      (one-rising f.ends g.ends tells.ends_rise also_tells.ends_rise
      (ends-too one other f g same tells also_tells)
      (ends-too other one g f (sym same) also_tells tells))

  pub summaries-same : (one other : Summary) → Sums one → Sums other →
      one.ranges ≡ other.ranges
  summaries-same one other is also_is =
      lists-same one.ranges other.ranges
      (sym (length-in one.ranges)
      ∙ ap (λ (rs : List Range). length rs) (ranges-same one other is also_is)
      ∙ length-in other.ranges)
      (at-same one other is also_is)
