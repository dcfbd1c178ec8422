-- A program has one report.
use Rattle.std.proofs.Common.{◌≡◌, ◌<◌, ℕ, zero, suc, Bool, true, false, ◌&&◌, ◌||◌, nat_lt, ◌==◌, List, [], ◌∷◌, map, length, Option, Some, None, slice_get, refl, ap, sym, ◌∙◌, subst, ◌⊎◌, inl, inr, arith}
use Rattle.std.proofs.lemmas.Bool.{le-ltb}
use Rattle.std.proofs.lemmas.List.{length-map}
use Rattle.cob_tree.specs.declared.program.Program.{Program}
use Rattle.cob_tree.specs.declared.program.Range.{Range}
use Rattle.out_names.specs.Naming.{paragraph_label}
use Rattle.program_points.specs.perform_ranges.Named.{is_before, exit_before}
use Rattle.program_points.proofs.perform_ranges_lemmas.Ordered.{before-far}
use Rattle.pending_returns.specs.Summary.{Rises}
use Rattle.pending_returns.specs.declared.facts.RangeFacts.{RangeFacts}
use Rattle.pending_returns.specs.declared.facts.Summary.{Summary}
use Rattle.procedure_split.specs.report.Report.{IsSummaryOf, AreDroppedOf, AreLabelsOfDropped, IsReportOf}
use Rattle.procedure_split.specs.declared.report.report.AddedCounts.{AddedCounts}
use Rattle.procedure_split.specs.declared.report.report.Report.{Report}
use Rattle.procedure_split.proofs.report_lemmas.Ascending.{Ascends, Has, AreApart, same-lists}

-- numbers that rise

abbrev Less : ℕ → ℕ → Type 0
Less number other = number < other

before-or-now : (at later : ℕ) → at < suc later → (at < later) ⊎ (at ≡ later)
before-or-now zero zero lt = inr refl
before-or-now zero (suc later) lt = inl (omega arith)
before-or-now (suc at) zero lt = absurd (omega arith)
before-or-now (suc at) (suc later) lt = elim (before-or-now at later (omega arith)) [ inl less ↦ inl (omega arith) | inr same ↦ inr (ap (λ (n : ℕ). suc n) same) ]

get-below : (xs : List ℕ) (at x : ℕ) → slice_get xs (suc at) ≡ Some x → (y : ℕ) × (slice_get xs at ≡ Some y)
get-below [] at x e = absurd (let k : ⊥ = cc in k)
get-below (y ∷ xs) zero x e = (y, refl)
get-below (y ∷ xs) (suc at) x e = get-below xs at x e

rises-far : (numbers : List ℕ) → Rises numbers → Ascends Less numbers
rises-far numbers rises at zero number other lt here there = absurd (omega arith)
rises-far numbers rises at (suc later) number other lt here there = elim (before-or-now at later lt) [
  | inl less ↦
      let between = get-below numbers later other there in
      let first : number < between.0 = rises-far numbers rises at later number between.0 less here between.1 in
      let second : between.0 < other = rises later between.0 other between.1 there in
      omega (arith, first, second)
  | inr now ↦ rises later number other (ap (λ (n : ℕ). slice_get numbers n) (sym now) ∙ here) there
]

same-numbers : (program : Program) (one other : List ℕ) → AreDroppedOf program one → AreDroppedOf program other → one ≡ other
same-numbers program one other first second =
    same-lists Less (λ x y less more. omega (arith, less, more)) one other (rises-far one first.rises)
    (rises-far other second.rises)
    (λ number has. (second.dropped number).1 ((first.dropped number).0 has))
    (λ number has. (first.dropped number).1 ((second.dropped number).0 has))

same-labels : (program : Program) (one other : List (Option (List ℕ))) → AreLabelsOfDropped program one → AreLabelsOfDropped program other → one ≡ other
same-labels program one other first second =
    first.2
    ∙ ap (map (paragraph_label program.paragraphs)) (same-numbers program first.0 second.0 first.1 second.1)
    ∙ sym second.2

-- the ranges of a summary

abbrev Earlier : Range → Range → Type 0
Earlier range other = is_before range other ≡ true

abbrev range_of : RangeFacts → Range
range_of facts = facts.range

abbrev ranges_of : Summary → List Range
ranges_of summary = map range_of summary.ranges

get-range : (ranges : List RangeFacts) (at : ℕ) (facts : RangeFacts) → slice_get ranges at ≡ Some facts → slice_get (map range_of ranges) at ≡ Some facts.range
get-range [] at facts e = absurd (let k : ⊥ = cc in k)
get-range (f ∷ ranges) zero facts e = (let k : f ≡ facts = cc in ap (λ (g : RangeFacts). Some g.range) k)
get-range (f ∷ ranges) (suc at) facts e = get-range ranges at facts e

get-facts : (ranges : List RangeFacts) (at : ℕ) (range : Range) → slice_get (map range_of ranges) at ≡ Some range → (facts : RangeFacts) × (slice_get ranges at ≡ Some facts) × (facts.range ≡ range)
get-facts [] at range e = absurd (let k : ⊥ = cc in k)
get-facts (f ∷ ranges) zero range e = (f, refl, let k : f.range ≡ range = cc in k)
get-facts (f ∷ ranges) (suc at) range e = get-facts ranges at range e

neither : (a b c : Bool) → a ≡ false → c ≡ false → (a || (b && c)) ≡ true → ⊥
neither true b c off last e = (let k : ⊥ = cc in k)
neither false true true off last e = (let k : ⊥ = cc in k)
neither false true false off last e = (let k : ⊥ = cc in k)
neither false false c off last e = (let k : ⊥ = cc in k)

not-itself : (entry : ℕ) (exit : Option ℕ) → exit_before entry exit entry exit ≡ true → ⊥
not-itself entry None e = (let k : ⊥ = cc in k)
not-itself entry (Some exit) e =
    neither (nat_lt entry entry) (entry == entry) (nat_lt exit exit) (le-ltb entry entry (omega arith)) (le-ltb exit exit (omega arith)) e

to-and-fro : (range other : Range) → Earlier range other → Earlier other range → (number : ℕ) (one next : Range) → slice_get (range ∷ other ∷ range ∷ []) number ≡ Some one → slice_get (range ∷ other ∷ range ∷ []) (suc number) ≡ Some next → is_before one next ≡ true
to-and-fro range other first second zero one next here there =
    let a : range ≡ one = cc in
    let b : other ≡ next = cc in
    subst (λ (r : Range). is_before r next ≡ true) a (subst (λ (r : Range). is_before range r ≡ true) b first)
to-and-fro range other first second (suc zero) one next here there =
    let a : other ≡ one = cc in
    let b : range ≡ next = cc in
    subst (λ (r : Range). is_before r next ≡ true) a (subst (λ (r : Range). is_before other r ≡ true) b second)
to-and-fro range other first second (suc (suc number)) one next here there = absurd (let k : ⊥ = cc in k)

-- each of two before the other would be before itself
are-apart : AreApart Earlier
are-apart range other first second = not-itself range.entry range.exit
    (before-far (range ∷ other ∷ range ∷ []) (to-and-fro range other first second) 0 2 range range (omega arith) refl refl)

rising-ranges : (program : Program) (summary : Summary) → IsSummaryOf program summary → (number : ℕ) (range next : Range) → slice_get (ranges_of summary) number ≡ Some range → slice_get (ranges_of summary) (suc number) ≡ Some next → is_before range next ≡ true
rising-ranges program summary is number range next here there =
    let first = get-facts summary.ranges number range here in
    let second = get-facts summary.ranges (suc number) next there in
    subst (λ (r : Range). is_before r next ≡ true) first.2
    (subst (λ (r : Range). is_before first.0.range r ≡ true) second.2 (is.rising number first.0 second.0 first.1 second.1))

ascending-ranges : (program : Program) (summary : Summary) → IsSummaryOf program summary → Ascends Earlier (ranges_of summary)
ascending-ranges program summary is at later range other lt here there =
    before-far (ranges_of summary) (rising-ranges program summary is) at later range other lt here there

same-ranges : (program : Program) (one other : Summary) → IsSummaryOf program one → IsSummaryOf program other → (range : Range) → Has (ranges_of one) range → Has (ranges_of other) range
same-ranges program one other first second range has =
    let facts = get-facts one.ranges has.0 range has.1 in
    let there = (second.ranges range).0 ((first.ranges range).1 (has.0, facts)) in
    (there.0, get-range other.ranges there.0 there.1.0 there.1.1 ∙ ap (λ (r : Range). Some r) there.1.2)

as-many : (program : Program) (one other : Summary) → IsSummaryOf program one → IsSummaryOf program other → length one.ranges ≡ length other.ranges
as-many program one other first second =
    let same = same-lists Earlier are-apart (ranges_of one) (ranges_of other)
    (ascending-ranges program one first) (ascending-ranges program other second)
    (same-ranges program one other first second) (same-ranges program other one second first) in
    sym (length-map one.ranges range_of) ∙ ap length same ∙ length-map other.ranges range_of

-- all parts

abbrev made_of : List ℕ → ℕ → ℕ → List (Option (List ℕ)) → ℕ → ℕ → ℕ → ℕ → ℕ → Report
made_of a b c d e f g h i = record {
  name = a;
  paragraphs = b;
  ranges = c;
  dropped = d;
  never = e;
  flags = f;
  counts = g;
  states = h;
  exits = i;
}

abbrev remade : Report → Report
remade report = made_of report.name report.paragraphs report.ranges report.dropped report.never report.flags report.counts report.states report.exits

pub one-report : (program : Program) (summary other : Summary) (added : AddedCounts) (one another : Report) → IsSummaryOf program summary → IsSummaryOf program other → IsReportOf program summary added one → IsReportOf program other added another → one ≡ another
one-report program summary other added one another is also first second =
    let name : one.name ≡ another.name = first.name ∙ sym second.name in
    let paragraphs : one.paragraphs ≡ another.paragraphs = first.paragraphs ∙ sym second.paragraphs in
    let ranges : one.ranges ≡ another.ranges = first.ranges ∙ as-many program summary other is also ∙ sym second.ranges in
    let dropped : one.dropped ≡ another.dropped = same-labels program one.dropped another.dropped first.dropped second.dropped in
    let never : one.never ≡ another.never = first.never ∙ sym second.never in
    let flags : one.flags ≡ another.flags = first.flags ∙ sym second.flags in
    let counts : one.counts ≡ another.counts = first.counts ∙ sym second.counts in
    let states : one.states ≡ another.states = first.states ∙ sym second.states in
    let exits : one.exits ≡ another.exits = first.exits ∙ sym second.exits in
    let same : remade one ≡ remade another = cc in
    same
