-- One lemma more.
use Rattle.std.proofs.Common.{◌≡◌, ◌+◌, ◌<◌, ◌≤◌, ℕ, zero, suc, Bool, true, false, List, [], ◌∷◌, ◌++◌, length, set, replicate, Option, Some, None, slice_get, refl, ap, sym, ◌∙◌, subst, ◌⊎◌, inl, inr, arith, append_assoc, append-nil, eq-eqb}
use Rattle.std.proofs.lemmas.List.{map-append, map-set, length-map, length-replicate}
use Rattle.std.proofs.Math.ListN.{length-set}
use Rattle.cob_tree.specs.declared.program.Range.{Range}
use Rattle.control_flow_theory.specs.language.Language.{Chooser, Program}
use Rattle.program_points.specs.declared.paths.trail.Move.{Move}
use Rattle.program_points.specs.declared.paths.trail.Lemma.{Lemma}
use Rattle.program_points.specs.paths.Step.{Point, start, next}
use Rattle.program_points.specs.paths.Step as lang
use Rattle.program_points.specs.paths.Flow.{is_exit}
use Rattle.program_points.specs.paths.Accepted.{walk, Return, Meets, Leads, LeadsTo, LemmasHold, lemma_ranges, IsIn, NoneTwice}
use Rattle.program_points.specs.declared.point_table.table.ProgramPoint.{ProgramPoint}
use Rattle.program_points.specs.declared.point_table.table.ProgramPoint.TheVariants.{Goes, Chooses, Calls, Stops, Ends}
use Rattle.program_points.specs.declared.point_table.table.Table.{Table}
use Rattle.program_points.specs.point_table.Table.{IsTable, ReturnsHere}
use Rattle.pending_returns.specs.levels.Reach.{trues}
use Rattle.pending_returns.proofs.levels_lemmas.Searching.{trues-set, before-or-now}
use Rattle.pending_returns.proofs.faults_lemmas.Standing.{get-below, ends-is}
use Rattle.overlap_trail.specs.declared.finding.goal.SearchGoal.TheVariants.{End}
use Rattle.overlap_trail.specs.finding.Search.{is_there, flags_of}
use Rattle.overlap_trail.specs.finding.Goal.{IsAimed, IsMetNowhere, IsMetBy}
use Rattle.overlap_trail.specs.declared.finding.return_lemmas.ReturnLemmas.{ReturnLemmas}
use Rattle.overlap_trail.specs.finding.ReturnLemmas.{RangesOnce, Knows, Learns}
use Rattle.overlap_trail.proofs.finding_lemmas.Flags.{flag-missing}
use Rattle.overlap_trail.proofs.finding_lemmas.Getting.{get-front, get-last}
use Rattle.overlap_trail.proofs.finding_lemmas.Leading.{leads}

-- a number is set

set-same : (xs : List (Option ℕ)) (at : ℕ) (x : Option ℕ) → at < length xs → slice_get (set xs at x) at ≡ Some x
set-same [] at x lt = absurd (omega arith)
set-same (y ∷ xs) zero x lt = refl
set-same (y ∷ xs) (suc at) x lt = set-same xs at x (omega (arith, lt))

set-other : (xs : List (Option ℕ)) (at other : ℕ) (x : Option ℕ) → (other ≡ at → ⊥) → slice_get (set xs at x) other ≡ slice_get xs other
set-other [] at other x ne = refl
set-other (y ∷ xs) zero zero x ne = absurd (ne refl)
set-other (y ∷ xs) zero (suc other) x ne = refl
set-other (y ∷ xs) (suc at) zero x ne = refl
set-other (y ∷ xs) (suc at) (suc other) x ne = set-other xs at other x (λ e. ne (ap (λ (n : ℕ). suc n) e))

set-split : (xs : List (Option ℕ)) (at other : ℕ) (x : Option ℕ) (y : ℕ) → slice_get (set xs at x) other ≡ Some (Some y) → ((other ≡ at) × (x ≡ Some y)) ⊎ (slice_get xs other ≡ Some (Some y))
set-split [] at other x y e = inr e
set-split (z ∷ xs) zero zero x y e = inl (refl, (let k : x ≡ Some y = cc in k))
set-split (z ∷ xs) zero (suc other) x y e = inr e
set-split (z ∷ xs) (suc at) zero x y e = inr e
set-split (z ∷ xs) (suc at) (suc other) x y e = elim (set-split xs at other x y e) [ inl new ↦ inl (ap (λ (n : ℕ). suc n) new.0, new.1) | inr old ↦ inr old ]

none-number : (count at number : ℕ) → slice_get (replicate count None) at ≡ Some (Some number) → ⊥
none-number zero at number e = (let k : ⊥ = cc in k)
none-number (suc count) zero number e = (let k : ⊥ = cc in k)
none-number (suc count) (suc at) number e = none-number count at number e

-- flags of numbers

pub more-flags : (numbers more : List (Option ℕ)) (at number : ℕ) → slice_get numbers at ≡ Some None → more ≡ set numbers at (Some number) → trues (flags_of numbers) < trues (flags_of more)
more-flags numbers more at number missing is =
    let same : flags_of more ≡ set (flags_of numbers) at true = ap (λ (ns : List (Option ℕ)). flags_of ns) is ∙ map-set (λ (o : Option ℕ). is_there o) numbers at (Some number) in
    let up : trues (flags_of more) ≡ suc (trues (flags_of numbers)) = ap (λ (fs : List Bool). trues fs) same ∙ trues-set (flags_of numbers) at (flag-missing numbers at missing) in
    omega (arith, up)

-- lists of ranges

pub in-append : (range : Range) (ranges : List Range) (new : Range) → IsIn range (ranges ++ new ∷ []) → IsIn range ranges ⊎ (new ≡ range)
in-append range [] new h = elim h [ inl same ↦ inr same | inr none ↦ absurd none ]
in-append range (other ∷ ranges) new h =
    elim h [
      | inl same ↦ inl (inl same)
      | inr more ↦ elim (in-append range ranges new more) [ inl old ↦ inl (inr old) | inr same ↦ inr same ]
    ]

pub once-append : (ranges : List Range) (new : Range) → NoneTwice ranges → (IsIn new ranges → ⊥) → NoneTwice (ranges ++ new ∷ [])
once-append [] new once missing = (λ h. h, tt)
once-append (range ∷ ranges) new once missing =
    (λ h. elim (in-append range ranges new h) [ inl old ↦ once.0 old | inr same ↦ missing (inl (sym same)) ], once-append ranges new once.1 (λ h. missing (inr h)))

pub hold-append : (never_first : Chooser → Bool) (program : Program) (earlier : List Range) (lemmas : List Lemma) (new : Lemma) → LemmasHold never_first program earlier lemmas →
    LeadsTo never_first program (earlier ++ lemma_ranges lemmas) new.range Return new.moves → LemmasHold never_first program earlier (lemmas ++ new ∷ [])
hold-append never_first program earlier [] new hold to = (subst (λ ranges. LeadsTo never_first program ranges new.range Return new.moves) (append-nil earlier) to, tt)
hold-append never_first program earlier (lemma ∷ lemmas) new hold to = (
  hold.0,
  hold-append never_first program (earlier ++ lemma.range ∷ []) lemmas new hold.1
      (subst (λ ranges. LeadsTo never_first program ranges new.range Return new.moves) (sym (append_assoc earlier (lemma.range ∷ []) (lemma_ranges lemmas))) to),
)

pub aimed-end : (table : Table) (end : ℕ) (here : ProgramPoint) → IsAimed table (End end) here → here ≡ Ends end
aimed-end table end (Goes to) met = absurd met
aimed-end table end (Chooses ways) met = absurd met
aimed-end table end (Calls called after) met = absurd met
aimed-end table end Stops met = absurd met
aimed-end table end (Ends paragraph) met = ap (λ (n : ℕ). Ends n) met

module _ (table : Table) (lemmas : List Lemma) (numbers : List (Option ℕ)) where
  pub knows-none : lemmas ≡ [] → numbers ≡ replicate (length table.ranges) None → Knows table lemmas numbers
  knows-none none is = record {
    size = ap (λ (ns : List (Option ℕ)). length ns) is ∙ length-replicate (length table.ranges) None;
    numbered = λ number lemma e. absurd (none-number (length table.ranges) number lemma (ap (λ (ns : List (Option ℕ)). slice_get ns number) (sym is) ∙ e));
    from = λ range h. absurd (subst (λ (ls : List Lemma). IsIn range (lemma_ranges ls)) none h);
    once = subst (λ (ls : List Lemma). NoneTwice (lemma_ranges ls)) (sym none) tt;
    hold = λ never_first program points is_table. subst (λ (ls : List Lemma). LemmasHold never_first program [] ls) (sym none) tt;
  }

  module _ (number end : ℕ) (range : Range) (moves : List Move) (knows : Knows table lemmas numbers) (there : slice_get table.ranges number ≡ Some range) (exit : range.exit ≡ Some end) (met : IsMetBy table numbers range (End end) moves) where
    lemma-leads : (never_first : Chooser → Bool) (program : Program) (points : ℕ → Point) → IsTable never_first program table points → LeadsTo never_first program (lemma_ranges lemmas) range Return moves
    lemma-leads never_first program points is =
        let place = met.0 in
        let ended : slice_get table.places place ≡ Some (Ends end) = met.3 ∙ ap (λ (p : ProgramPoint). Some p) (aimed-end table end met.1 met.4) in
        let now : next never_first program (points place) ≡ lang.Ends end = is.places place (Ends end) ended in
        record {
          is_there = is.entries number range there;
          end = walk (points place) [];
          path = subst (λ (ms : List Move). Leads never_first program (lemma_ranges lemmas) range (walk (start program range.entry) ms) (walk (points place) [])) (append-nil moves)
              (leads never_first program table points is lemmas numbers range knows.numbered place moves met.2 []);
          meets = subst (λ n. Meets Return range n []) (sym now) (refl, ap (λ (o : Option ℕ). is_exit o end) exit ∙ eq-eqb end end refl);
        }

    pub knows-more : RangesOnce table.ranges → slice_get numbers number ≡ Some None → (more : List Lemma) (later : List (Option ℕ)) → more ≡ lemmas ++ record { range = range; moves = moves } ∷ [] → later ≡ set numbers number (Some (length lemmas)) → Knows table more later
    knows-more once missing more later is_more is_later =
        let new : Lemma = record { range = range; moves = moves } in
        let all = lemma_ranges lemmas in
        let grown : lemma_ranges more ≡ all ++ range ∷ [] = ap (λ (ls : List Lemma). lemma_ranges ls) is_more ∙ map-append (λ (lemma : Lemma). lemma.range) lemmas (new ∷ []) in
        let count : length all ≡ length lemmas = length-map lemmas (λ (lemma : Lemma). lemma.range) in
        let last : slice_get (all ++ range ∷ []) (length lemmas) ≡ Some range = subst (λ (n : ℕ). slice_get (all ++ range ∷ []) n ≡ Some range) count (get-last all range) in
        let inside : number < length numbers = get-below numbers number None missing in
        let known_not : (other lemma : ℕ) → slice_get numbers other ≡ Some (Some lemma) → other ≡ number → ⊥ = λ other lemma e same.
        (let both : Some None ≡ Some (Some lemma) = sym missing ∙ ap (λ (n : ℕ). slice_get numbers n) (sym same) ∙ e in let k : ⊥ = cc in k) in
        record {
          size = ap (λ (ns : List (Option ℕ)). length ns) is_later ∙ length-set numbers number (Some (length lemmas)) ∙ knows.size;
          numbered = λ other lemma e.
              elim (set-split numbers number other (Some (length lemmas)) lemma (ap (λ (ns : List (Option ℕ)). slice_get ns other) (sym is_later) ∙ e)) [
                | inl now ↦
                    let same : length lemmas ≡ lemma = (let k = now.1 in cc) in (
                      range,
                      ap (λ (n : ℕ). slice_get table.ranges n) now.0 ∙ there,
                      ap (λ (rs : List Range). slice_get rs lemma) grown ∙ ap (λ (n : ℕ). slice_get (all ++ range ∷ []) n) (sym same) ∙ last,
                    )
                | inr old ↦
                    let was = knows.numbered other lemma old in
                    (was.0, was.1, ap (λ (rs : List Range). slice_get rs lemma) grown ∙ get-front all (range ∷ []) lemma was.0 was.2)
              ];
          from = λ other h.
              elim (in-append other all range (subst (λ (rs : List Range). IsIn other rs) grown h)) [
                | inl old ↦
                    let was = knows.from other old in
                    (was.0, was.1, was.2, ap (λ (ns : List (Option ℕ)). slice_get ns was.0) is_later ∙ set-other numbers number was.0 (Some (length lemmas)) (known_not was.0 was.1 was.3) ∙ was.3)
                | inr same ↦ (number, length lemmas, there ∙ ap (λ (r : Range). Some r) same, ap (λ (ns : List (Option ℕ)). slice_get ns number) is_later ∙ set-same numbers number (Some (length lemmas)) inside)
              ];
          once = subst NoneTwice (sym grown) (once-append all range knows.once (λ h.
              let was = knows.from range h in
              known_not was.0 was.1 was.3 (once was.0 number range was.2 there)));
          hold = λ never_first program points is.
              subst (λ (ls : List Lemma). LemmasHold never_first program [] ls) (sym is_more)
              (hold-append never_first program [] lemmas new (knows.hold never_first program points is) (lemma-leads never_first program points is));
        }

-- a range whose end is met nowhere doesn't return
pub met-never : (table : Table) (flags : List Bool) (range : Range) (end : ℕ) → range.exit ≡ Some end → IsMetNowhere table flags range (End end) → ReturnsHere table flags range → ⊥
met-never table flags range end exit nowhere here =
    let both : Some end ≡ Some here.1 = sym exit ∙ ends-is range.exit here.1 here.4 in
    let same : end ≡ here.1 = cc in
    nowhere here.0 (Ends here.1) here.2 here.3 (sym same)

pub endless-never : (table : Table) (flags : List Bool) (range : Range) → range.exit ≡ None → ReturnsHere table flags range → ⊥
endless-never table flags range exit here =
    let both : None ≡ Some here.1 = sym exit ∙ ends-is range.exit here.1 here.4 in
    (let k : ⊥ = cc in k)

-- of the first of the ranges, each that returns has a number
abbrev pub ClosedUpTo : Table → List Bool → ℕ → Type 0
ClosedUpTo table flags index = (number : ℕ) (range : Range) → number < index → slice_get table.ranges number ≡ Some range → ReturnsHere table flags range → slice_get flags number ≡ Some true

pub closed-more : (table : Table) (flags : List Bool) (index : ℕ) → ((range : Range) → slice_get table.ranges index ≡ Some range → ReturnsHere table flags range → slice_get flags index ≡ Some true) → ClosedUpTo table flags index → ClosedUpTo table flags (index + 1)
closed-more table flags index new so_far = λ number range lt e here. elim (before-or-now number index lt) [
  | inl less ↦ so_far number range less e here
  | inr now ↦ ap (λ (n : ℕ). slice_get flags n) now ∙ new range (ap (λ (n : ℕ). slice_get table.ranges n) (sym now) ∙ e) here
]

-- a round so far
pub record RoundSoFar (table : Table) (start known : ReturnLemmas) (number : ℕ) (more : Bool) : Type 0 where
  pub knows : Knows table known.lemmas known.numbers.items
  pub grown : trues (flags_of start.numbers.items) ≤ trues (flags_of known.numbers.items)
  pub news : more ≡ true → trues (flags_of start.numbers.items) < trues (flags_of known.numbers.items)
  pub closed : more ≡ false → ClosedUpTo table (flags_of known.numbers.items) number

pub round-none : (table : Table) (start : ReturnLemmas) → Knows table start.lemmas start.numbers.items → RoundSoFar table start start 0 false
round-none table start knows = record {
  knows = knows;
  grown = omega arith;
  news = λ wrong. absurd (let k : ⊥ = cc in k);
  closed = λ same number range lt e here. absurd (omega (arith, lt));
}

pub round-new : (table : Table) (start old new : ReturnLemmas) (number : ℕ) (more : Bool) → Learns table old new number true → Knows table new.lemmas new.numbers.items → RoundSoFar table start old number more → RoundSoFar table start new (number + 1) true
round-new table start old new number more learns knows so_far = record {
  knows = knows;
  grown = (let lt : trues (flags_of old.numbers.items) < trues (flags_of new.numbers.items) = learns in let le = so_far.grown in omega (arith, lt, le));
  news = λ same. (let lt : trues (flags_of old.numbers.items) < trues (flags_of new.numbers.items) = learns in let le = so_far.grown in omega (arith, lt, le));
  closed = λ wrong. absurd (let k : ⊥ = cc in k);
}

pub round-same : (table : Table) (start old new : ReturnLemmas) (number : ℕ) (more : Bool) → Learns table old new number false → RoundSoFar table start old number more → RoundSoFar table start new (number + 1) more
round-same table start old new number more learns so_far = subst (λ (known : ReturnLemmas). RoundSoFar table start known (number + 1) more) (sym learns.0) (record {
  knows = so_far.knows;
  grown = so_far.grown;
  news = so_far.news;
  closed = λ same. closed-more table (flags_of old.numbers.items) number learns.1 (so_far.closed same);
})
