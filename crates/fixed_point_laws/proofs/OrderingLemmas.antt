-- The plan of a structured program each of whose paragraphs is entered has these in their order.
use Rattle.std.proofs.Common.{◌≡◌, ◌<◌, ◌≤◌, ◌+◌, ◌||◌, ◌&&◌, ◌==◌, nat_lt, lt-ltb, ℕ, zero, suc, true, List, [], ◌∷◌, length, map, Some, None, slice_get, refl, ap, sym, ◌∙◌, subst, inl, inr, arith}
use Rattle.std.proofs.lemmas.Option.{slice_get_within}
use Rattle.cob_tree.specs.declared.program.Range as tree
use Rattle.control_flow_theory.specs.language.Language.{Paragraph, Program, Range, Main, Part, Perform}
use Rattle.control_flow_theory.specs.language.Structured.{FirstStops, IsStructuredControl}
use Rattle.control_flow_theory.specs.language.Items.{Do}
use Rattle.control_flow_theory.specs.lowering.FlowFacts.{FlowFacts, IsSource}
use Rattle.control_flow_theory.specs.lowering.flow.Entered.{FreelyComes, IsEntered, main, performed}
use Rattle.control_flow_theory.specs.lowering.flow.Called.{IsCalled}
use Rattle.control_flow_theory.specs.lowering.flow.Paths as theory
use Rattle.control_flow_theory.specs.main_theorem.CallsReached.{GivesSome}
use Rattle.program_points.specs.paths.Step.{Point, at, Calls, next}
use Rattle.program_points.specs.paths.Flow.{main_range, part, Pending, returning, IsRange}
use Rattle.program_points.specs.paths.Levels.{Comes, Levels, bottom, called}
use Rattle.program_points.proofs.paths_lemmas.Runs.{stands, levels-run}
use Rattle.program_points.specs.machine_paths.Uncounted.{uncounted, point_at, range_of}
use Rattle.program_points.proofs.machine_paths_lemmas.Ways.{next-calls}
use Rattle.program_points.proofs.machine_paths_lemmas.SameLevels.{comes-here, comes-back}
use Rattle.program_points.specs.perform_ranges.Named.{is_before, Has}
use Rattle.pending_returns.specs.levels.Reach.{Holds}
use Rattle.pending_returns.proofs.levels_lemmas.Exact.{path-comes}
use Rattle.pending_returns.specs.declared.facts.RangeFacts.{RangeFacts}
use Rattle.pending_returns.specs.declared.facts.Summary.{Summary}
use Rattle.pending_returns.specs.Summary.{IsSummary}
use Rattle.out_names.specs.Ordering.{order_of}
use Rattle.procedure_split.specs.plan.Planned.{calls_of, or_main, range_at, IsPlanOf}
use Rattle.procedure_split.specs.plan.Laws.{as_control, others_of}
use Rattle.procedure_split.proofs.plan_lemmas.Layers.{get-there, size-calls}
use Rattle.procedure_split.proofs.plan_lemmas.ByPaths.{planned}
use Rattle.procedure_split.proofs.one_summary_lemmas.Ranges.{Rising, one-list}
use Rattle.fixed_point.specs.Again.{IsRangeAt}
use Rattle.fixed_point_laws.specs.Ordering.{PlansGoByPlaces}
use Rattle.fixed_point_laws.proofs.LevelLemmas.{later, entered}
use Rattle.fixed_point_laws.proofs.OrderLemmas.{numbers_on, as-they-are}

-- ---- lists

map-back : {A B : Type 0} → (f : A → B) (xs : List A) (n : ℕ) (y : B) → slice_get (map f xs) n ≡ Some y → (x : A) × (slice_get xs n ≡ Some x) × (f x ≡ y)
map-back f [] n y e = absurd (let k : ⊥ = cc in k)
map-back f (x ∷ xs) zero y e = (x, refl, let k : f x ≡ y = cc in k)
map-back f (x ∷ xs) (suc n) y e = map-back f xs n y e

map-to : {A B : Type 0} → (f : A → B) (xs : List A) (n : ℕ) (x : A) → slice_get xs n ≡ Some x → slice_get (map f xs) n ≡ Some (f x)
map-to f [] n x e = absurd (let k : ⊥ = cc in k)
map-to f (y ∷ xs) zero x e = (let k : y ≡ x = cc in ap (λ z. Some (f z)) k)
map-to f (y ∷ xs) (suc n) x e = map-to f xs n x e

map-size : {A B : Type 0} → (f : A → B) (xs : List A) → length (map f xs) ≡ length xs
map-size f [] = refl
map-size f (x ∷ xs) = ap (λ (n : ℕ). suc n) (map-size f xs)

numbers-at : (from more n k : ℕ) → slice_get (numbers_on from more) n ≡ Some k → k ≡ from + n
numbers-at from zero n k e = absurd (let w : ⊥ = cc in w)
numbers-at from (suc more) zero k e = (let w : from ≡ k = cc in omega (arith, w))
numbers-at from (suc more) (suc n) k e = (let r = numbers-at (suc from) more n k e in omega (arith, r))

numbers-size : (from more : ℕ) → length (numbers_on from more) ≡ more
numbers-size from zero = refl
numbers-size from (suc more) = ap (λ (n : ℕ). suc n) (numbers-size (suc from) more)

calls-back : (ranges : List RangeFacts) (number : ℕ) (callees : List ℕ) → slice_get (calls_of ranges) number ≡ Some callees → (facts : RangeFacts) × (slice_get ranges number ≡ Some facts) × (facts.calls ≡ callees)
calls-back ranges number callees e = map-back (λ (facts : RangeFacts). facts.calls) ranges number callees e

-- ---- main, and paragraphs by themselves

abbrev parts : ℕ → ℕ → List tree.Range
parts from zero = []
parts from (suc more) = part from from ∷ parts (suc from) more

abbrev paragraphs_to : ℕ → List tree.Range
paragraphs_to more = main_range ∷ parts 1 more

parts-at : (from more n : ℕ) (range : tree.Range) → slice_get (parts from more) n ≡ Some range → (range ≡ part (from + n) (from + n)) × (n < more)
parts-at from zero n range e = absurd (let w : ⊥ = cc in w)
parts-at from (suc more) zero range e =
    let w : part from from ≡ range = cc in
    let z : from ≡ from + 0 = omega arith in
    (sym w ∙ ap (λ (k : ℕ). part k k) z, omega arith)
parts-at from (suc more) (suc n) range e =
    let r = parts-at (suc from) more n range e in
    let z : suc from + n ≡ from + suc n = omega arith in
    let lt = r.1 in
    (r.0 ∙ ap (λ (k : ℕ). part k k) z, omega (arith, lt))

at-parts : (from more n : ℕ) → n < more → slice_get (parts from more) n ≡ Some (part (from + n) (from + n))
at-parts from zero n lt = absurd (omega (arith, lt))
at-parts from (suc more) zero lt = (let z : from ≡ from + 0 = omega arith in ap (λ (k : ℕ). Some (part k k)) z)
at-parts from (suc more) (suc n) lt = (let z : suc from + n ≡ from + suc n = omega arith in at-parts (suc from) more n (omega (arith, lt)) ∙ ap (λ (k : ℕ). Some (part k k)) z)

-- the range with this number
abbrev place_range : ℕ → Range
place_range zero = Main
place_range (suc n) = Part (suc n) (suc n)

range-there : (more n : ℕ) (range : tree.Range) → slice_get (paragraphs_to more) n ≡ Some range → (range_of (place_range n) ≡ range) × (n < suc more)
range-there more zero range e = ((let w : main_range ≡ range = cc in w), omega arith)
range-there more (suc n) range e =
    let r = parts-at 1 more n range e in
    let z : suc n ≡ 1 + n = omega arith in
    let lt = r.1 in
    (ap (λ (k : ℕ). part k k) z ∙ sym r.0, omega (arith, lt))

there-range : (more n : ℕ) → n < suc more → slice_get (paragraphs_to more) n ≡ Some (range_of (place_range n))
there-range more zero lt = refl
there-range more (suc n) lt = (let z : 1 + n ≡ suc n = omega arith in at-parts 1 more n (omega (arith, lt)) ∙ ap (λ (k : ℕ). Some (part k k)) z)

place-is : (n : ℕ) → IsRangeAt n (place_range n)
place-is zero = refl
place-is (suc n) = (refl, refl)

-- a PERFORM's range there stands at its own place
part-place : (more n entry exit : ℕ) → slice_get (paragraphs_to more) n ≡ Some (part entry exit) → n ≡ entry
part-place more zero entry exit e = absurd (let w : main_range ≡ part entry exit = cc in let k : None ≡ Some exit = ap (λ (r : tree.Range). r.exit) w in let z : ⊥ = cc in z)
part-place more (suc n) entry exit e =
    let r = parts-at 1 more n (part entry exit) e in
    let k : entry ≡ 1 + n = ap (λ (r : tree.Range). r.entry) r.0 in
    omega (arith, k)

before-next : (k : ℕ) → is_before (part k k) (part (suc k) (suc k)) ≡ true
before-next k = ap (λ b. b || (k == suc k && nat_lt k (suc k))) (lt-ltb k (suc k) (omega arith))

next-of : (n : ℕ) → is_before (range_of (place_range n)) (range_of (place_range (suc n))) ≡ true
next-of zero = refl
next-of (suc n) = before-next (suc n)

paragraphs-rise : (more : ℕ) → Rising (paragraphs_to more)
paragraphs-rise more number range next here there =
    let a = range-there more number range here in
    let b = range-there more (suc number) next there in
    subst (λ r. is_before r next ≡ true) a.0 (subst (λ r. is_before (range_of (place_range number)) r ≡ true) b.0 (next-of number))

-- ---- a structured program

module _ (told : FlowFacts) (program : Program) (source : IsSource told program) (some : GivesSome told) (structured : IsStructuredControl program) where
  calls-there : (range : Range) (base : tree.Range) (point after : Point) (entry exit : ℕ) → range_of range ≡ base → Comes told.never_first program base point → next told.never_first program point ≡ Calls entry exit after → IsCalled told program range entry exit
  calls-there range base point after entry exit same c e =
      let first = next-calls told.never_first program point.paragraph point.rest entry exit after e in
      let comes = comes-back told program source some range point (subst (λ t. Comes told.never_first program t point) (sym same) c) point.rest refl in
      (point.paragraph, first.0, subst (λ rest. FreelyComes told program range point.paragraph rest) first.1 comes)

  -- levels that run are entered
  level : (range : tree.Range) (pending : List Pending) → Levels told.never_first program main_range range pending → (one : Range) × (range_of one ≡ range) × IsEntered told program one
  level range pending (bottom) = (Main, refl, main)
  level range pending (called under others from after entry exit l c n) =
      let b = level under others l in
      let is = calls-there b.0 under from after entry exit b.1 c n in
      (Part entry exit, refl, performed b.0 is.0 is.1 entry exit b.2 is.2)

  range-entered : (range : tree.Range) → IsRange told.never_first program range → (one : Range) × (range_of one ≡ range) × IsEntered told program one
  range-entered range (inl is) = (Main, sym is, main)
  range-entered range (inr p) =
      let s = stands told.never_first program main_range p.0 p.1 p.5 in
      let b = level s.0 p.1 s.1 in
      let is = calls-there b.0 s.0 p.0 p.4 p.2 p.3 b.1 s.2 p.6 in
      (Part p.2 p.3, sym p.7, performed b.0 is.0 is.1 p.2 p.3 b.2 is.2)

  -- and what is entered is a range
  entered-level : (range : Range) → IsEntered told program range → (pending : List Pending) × Levels told.never_first program main_range (range_of range) pending
  entered-level range main = ([], bottom)
  entered-level range (performed from number rest entry exit is c) =
      let l = entered-level from is in
      let after : Point = at number (uncounted rest) in (
        returning exit after ∷ l.0,
        called (range_of from) l.0 (point_at number (Do (Perform entry exit) ∷ rest)) after entry exit l.1 (comes-here told program source some from number (Do (Perform entry exit) ∷ rest) c) refl,
      )

  entered-range : (entry exit : ℕ) (range : Range) → IsEntered told program range → range ≡ Part entry exit → IsRange told.never_first program (part entry exit)
  entered-range entry exit range main same = absurd (let w : ⊥ = cc in w)
  entered-range entry exit range (performed from number rest e x is c) same =
      let l = entered-level from is in
      let after : Point = at number (uncounted rest) in
      let point : Point = point_at number (Do (Perform e x) ∷ rest) in
      inr (
        point,
        l.0,
        e,
        x,
        after,
        levels-run told.never_first program main_range (range_of from) l.0 l.1 point (comes-here told program source some from number (Do (Perform e x) ∷ rest) c),
        refl,
        ap range_of (sym same),
      )

  some-there : (paragraphs : List Paragraph) → FirstStops paragraphs → (more : ℕ) × (suc more ≡ length paragraphs)
  some-there [] h = absurd h
  some-there (paragraph ∷ paragraphs) h = (length paragraphs, refl)

  module _ (fine : theory.HasFaultyRun told program → ⊥) (summary : Summary) (is : IsSummary told.never_first program summary)
      (all : (number : ℕ) → 1 ≤ number → number < length program.paragraphs → IsEntered told program (Part number number)) where
    abbrev more : ℕ
    more = (some-there program.paragraphs structured.stops).0

    count : suc more ≡ length program.paragraphs
    count = (some-there program.paragraphs structured.stops).1

    abbrev ranges : List RangeFacts
    ranges = summary.ranges

    abbrev listed : List tree.Range
    listed = map (λ (facts : RangeFacts). facts.range) summary.ranges

    listed-rise : Rising listed
    listed-rise number range next here there =
        let a = map-back (λ (facts : RangeFacts). facts.range) ranges number range here in
        let b = map-back (λ (facts : RangeFacts). facts.range) ranges (suc number) next there in
        subst (λ r. is_before r next ≡ true) a.2 (subst (λ r. is_before a.0.range r ≡ true) b.2 (is.rising number a.0 b.0 a.1 b.1))

    one-there : (one : Range) → IsEntered told program one → Has (paragraphs_to more) (range_of one)
    one-there Main e = (0, refl)
    one-there (Part entry exit) e =
        let f = entered told program structured (Part entry exit) e in
        there entry exit f.0 f.1 (subst (λ (n : ℕ). entry < n) (sym count) f.2)
      where
        there : (entry exit : ℕ) → entry ≡ exit → 1 ≤ entry → entry < suc more → Has (paragraphs_to more) (part entry exit)
        there zero exit same least lt = absurd (omega (arith, least))
        there (suc n) exit same least lt = (suc n, there-range more (suc n) lt ∙ ap (λ (k : ℕ). Some (part (suc n) k)) same)

    listed-there : (range : tree.Range) → Has listed range → Has (paragraphs_to more) range
    listed-there range h =
        let a = map-back (λ (facts : RangeFacts). facts.range) ranges h.0 range h.1 in
        let e = range-entered range ((is.ranges range).1 (h.0, (a.0, a.1, a.2))) in
        subst (Has (paragraphs_to more)) e.1 (one-there e.0 e.2)

    in-listed : (range : tree.Range) → IsRange told.never_first program range → Has listed range
    in-listed range r =
        let n = (is.ranges range).0 r in
        (n.0, map-to (λ (facts : RangeFacts). facts.range) ranges n.0 n.1.0 n.1.1 ∙ ap (λ (q : tree.Range). Some q) n.1.2)

    place-range : (n : ℕ) → n < suc more → IsRange told.never_first program (range_of (place_range n))
    place-range zero lt = inl refl
    place-range (suc n) lt = entered-range (suc n) (suc n) (Part (suc n) (suc n)) (all (suc n) (omega arith) (subst (λ (k : ℕ). suc n < k) count lt)) refl

    there-listed : (range : tree.Range) → Has (paragraphs_to more) range → Has listed range
    there-listed range h =
        let a = range-there more h.0 range h.1 in
        subst (Has listed) a.0 (in-listed (range_of (place_range h.0)) (place-range h.0 a.1))

    listed-is : listed ≡ paragraphs_to more
    listed-is = one-list listed (paragraphs_to more) listed-rise (paragraphs-rise more) listed-there there-listed

    facts-there : (n : ℕ) (facts : RangeFacts) → slice_get ranges n ≡ Some facts → slice_get (paragraphs_to more) n ≡ Some facts.range
    facts-there n facts e =
        ap (λ (rs : List tree.Range). slice_get rs n) (sym listed-is) ∙ map-to (λ (facts : RangeFacts). facts.range) ranges n facts e

    calls-later : (n : ℕ) (facts : RangeFacts) (to : ℕ) → slice_get ranges n ≡ Some facts → Holds facts.calls to → n < to
    calls-later n facts to e h =
        let place = range-there more n facts.range (facts-there n facts e) in
        let other = get-there ranges to ((is.told n facts e).calls_known to h) in
        let c = ((is.told n facts e).calls other.0.range).1 (to, h, (other.0, other.1, refl)) in
        let it = calls-there (place_range n) facts.range c.0 c.3 c.1 c.2 place.0 (path-comes told.never_first program facts.range c.0 c.4) c.5 in
        let names = later told program structured n (place_range n) (subst (λ (k : ℕ). n < k) count place.1) (place-is n) c.1 c.2 it in
        let at_entry = part-place more to c.1 c.2 (facts-there to other.0 other.1 ∙ ap (λ (r : tree.Range). Some r) c.6) in
        let less = names.1 in
        omega (arith, less, at_entry)

    in-order : order_of (calls_of ranges) ≡ numbers_on 0 (length (calls_of ranges))
    in-order = as-they-are (calls_of ranges) (λ number callees to e h.
        let f = calls-back ranges number callees e in
        calls-later number f.0 to f.1 (subst (λ cs. Holds cs to) (sym f.2) h))

    parts-size : (from n : ℕ) → length (parts from n) ≡ n
    parts-size from zero = refl
    parts-size from (suc n) = ap (λ (k : ℕ). suc k) (parts-size (suc from) n)

    size : length (calls_of ranges) ≡ suc more
    size =
        size-calls ranges ∙ sym (map-size (λ (facts : RangeFacts). facts.range) ranges)
        ∙ ap (λ (rs : List tree.Range). length rs) listed-is ∙ ap (λ (k : ℕ). suc k) (parts-size 1 more)

    module _ (returned : List (List ℕ)) (order : List tree.Range) (plan : IsPlanOf summary.ranges returned order) where
      whole : Main ∷ others_of order ≡ map as_control (map (range_at ranges) (numbers_on 0 (length (calls_of ranges))))
      whole =
          sym (planned told program source some fine summary is returned order plan).main
          ∙ ap (λ (rs : List tree.Range). map as_control rs) (plan.stands ∙ ap (λ (ns : List ℕ). map (range_at ranges) ns) in-order)

      many : suc (length (others_of order)) ≡ length program.paragraphs
      many =
          ap (λ (rs : List Range). length rs) whole
          ∙ map-size as_control (map (range_at ranges) (numbers_on 0 (length (calls_of ranges))))
          ∙ map-size (range_at ranges) (numbers_on 0 (length (calls_of ranges)))
          ∙ numbers-size 0 (length (calls_of ranges)) ∙ size ∙ count

      seen-place : (n : ℕ) → as_control (range_of (place_range n)) ≡ place_range n
      seen-place zero = refl
      seen-place (suc n) = refl

      each : (number : ℕ) (range : Range) → slice_get (Main ∷ others_of order) number ≡ Some range → IsRangeAt number range
      each number range e =
          let total = length (calls_of ranges) in
          let f : slice_get (map as_control (map (range_at ranges) (numbers_on 0 total))) number ≡ Some range = ap (λ (rs : List Range). slice_get rs number) (sym whole) ∙ e in
          let a = map-back as_control (map (range_at ranges) (numbers_on 0 total)) number range f in
          let b = map-back (range_at ranges) (numbers_on 0 total) number a.0 a.1 in
          let n : b.0 ≡ number = (let k = numbers-at 0 total number b.0 b.1 in omega (arith, k)) in
          let within : number < total = (let k = slice_get_within (numbers_on 0 total) number b.0 b.1 in let s = numbers-size 0 total in omega (arith, k, s)) in
          let facts = get-there ranges number (let s = size-calls ranges in omega (arith, within, s)) in
          let place = range-there more number facts.0.range (facts-there number facts.0 facts.1) in
          let it : range_at ranges number ≡ range_of (place_range number) = ap or_main facts.1 ∙ sym place.0 in
          let there : a.0 ≡ range_at ranges number = sym b.2 ∙ ap (range_at ranges) n in
          let placed : a.0 ≡ range_of (place_range number) = there ∙ it in
          let same : range ≡ place_range number = sym a.2 ∙ ap as_control placed ∙ seen-place number in
          subst (IsRangeAt number) (sym same) (place-is number)

      entry-of : (n : ℕ) → (range_of (place_range n)).entry ≡ n
      entry-of zero = refl
      entry-of (suc n) = refl

      entries : (number : ℕ) (range : tree.Range) → slice_get order number ≡ Some range → range.entry ≡ number
      entries number range e =
          let total = length (calls_of ranges) in
          let f : slice_get (map (range_at ranges) (numbers_on 0 total)) number ≡ Some range =
          ap (λ (rs : List tree.Range). slice_get rs number) (sym (plan.stands ∙ ap (λ (ns : List ℕ). map (range_at ranges) ns) in-order)) ∙ e in
          let b = map-back (range_at ranges) (numbers_on 0 total) number range f in
          let n : b.0 ≡ number = (let k = numbers-at 0 total number b.0 b.1 in omega (arith, k)) in
          let within : number < total = (let k = slice_get_within (numbers_on 0 total) number b.0 b.1 in let s = numbers-size 0 total in omega (arith, k, s)) in
          let facts = get-there ranges number (let s = size-calls ranges in omega (arith, within, s)) in
          let place = range-there more number facts.0.range (facts-there number facts.0 facts.1) in
          let it : range_at ranges number ≡ range_of (place_range number) = ap or_main facts.1 ∙ sym place.0 in
          let there : range ≡ range_at ranges number = sym b.2 ∙ ap (range_at ranges) n in
          let placed : range ≡ range_of (place_range number) = there ∙ it in
          ap (λ (r : tree.Range). r.entry) placed ∙ entry-of number

pub by-places : PlansGoByPlaces
by-places = λ told program summary returning order source some structured fine is plan all. record {
  many = many told program source some structured fine summary is all returning order plan;
  each = each told program source some structured fine summary is all returning order plan;
  begins = entries told program source some structured fine summary is all returning order plan;
}
