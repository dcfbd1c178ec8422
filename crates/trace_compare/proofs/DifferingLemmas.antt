-- Two runs, and where they differ.
use Rattle.std.proofs.Common.{◌≡◌, ◌≢◌, ◌∙◌, ℕ, zero, suc, ◌<◌, ◌≤◌, true, false, if◌then◌else◌, [], ◌∷◌, ◌++◌, length, Option, Some, None, slice_get, ap, append-nil, append_assoc, arith, eqb-true, inl, inr, refl, subst, sym}
use Rattle.std.proofs.lemmas.Bool.{cases_order}
use Rattle.std.proofs.lemmas.List.{length-append}
use Rattle.std.proofs.lemmas.Option.{slice_get_within}
use Rattle.std.proofs.lemmas.Slice.Eq.{bytes_eq-Decides}
use Rattle.std.specs.Str.{bytes_eq}
use Rattle.control_flow_theory.specs.runs.Run.{Covers, Going, Over}
use Rattle.control_flow_theory.specs.semantics.Outcome.{Abend, Event, Faulted, FlowFault, How, Lost, Normally, Overlap, Reentry, Returned, Run, Standing, Stopped, Trace}
use Rattle.trace_compare.specs.declared.compared.Compared.TheVariants as compared
use Rattle.trace_compare.specs.Differing.{Course, DifferAt, EndsWith, FirstEnded, IsAnswer, OtherEvent, OtherWay, PartBehind, SameWith, SecondEnded, Undecided, Way, ahead_from, answer_from, course_of, ends_from, fault_eq, how_eq, way_ended, way_eq}
use Rattle.trace_compare.specs.Laws as laws

-- ---- lists

get_front : (xs ys : Trace) (k : ℕ) → k < length xs → slice_get (xs ++ ys) k ≡ slice_get xs k
get_front [] ys k less = absurd (omega (arith, less))
get_front (x ∷ xs) ys zero less = refl
get_front (x ∷ xs) ys (suc k) less = get_front xs ys k (omega (arith, less))

get_behind : (xs ys : Trace) → slice_get (xs ++ ys) (length xs) ≡ slice_get ys 0
get_behind [] ys = refl
get_behind (x ∷ xs) ys = get_behind xs ys

length_shown : (xs : Trace) → length (xs ++ []) ≡ length xs
length_shown xs = ap length (append-nil xs)

some_is : {A : Type 0} (x y : A) → Some x ≡ Some y → x ≡ y
some_is x y e = cc

none_is : {A : Type 0} (x : A) (found : Option A) → found ≡ Some x → found ≡ None → ⊥
none_is x found here none = let e : Some x ≡ None = sym here ∙ none in cc

-- ---- ways to end

how_same : (one other : How) → how_eq one other ≡ true → one ≡ other
how_same Normally Normally e = refl
how_same (Abend one) (Abend other) e = ap Abend (eqb-true one other e)
how_same Normally (Abend other) e = cc
how_same (Abend one) Normally e = cc

fault_same : (one other : FlowFault) → fault_eq one other ≡ true → one ≡ other
fault_same (Overlap one) (Overlap other) e = ap Overlap (eqb-true one other e)
fault_same (Reentry one) (Reentry other) e = ap Reentry (eqb-true one other e)
fault_same (Overlap one) (Reentry other) e = cc
fault_same (Reentry one) (Overlap other) e = cc

pub way_same : (one other : Way) → way_eq one other ≡ true → one ≡ other
way_same (Stopped one left) (Stopped other left_other) e = ap (λ how. Stopped how left) (how_same one other e)
way_same (Faulted one) (Faulted other) e = ap Faulted (fault_same one other e)
way_same (Returned left) (Returned left_other) e = refl
way_same Lost Lost e = refl
way_same (Stopped one left) (Faulted other) e = cc
way_same (Stopped one left) (Returned other) e = cc
way_same (Stopped one left) Lost e = cc
way_same (Faulted one) (Stopped other left) e = cc
way_same (Faulted one) (Returned other) e = cc
way_same (Faulted one) Lost e = cc
way_same (Returned one) (Stopped other left) e = cc
way_same (Returned one) (Faulted other) e = cc
way_same (Returned one) Lost e = cc
way_same Lost (Stopped other left) e = cc
way_same Lost (Faulted other) e = cc
way_same Lost (Returned other) e = cc

how_refl : (how : How) → how_eq how how ≡ true
how_refl Normally = refl
how_refl (Abend kind) = grind arith

fault_refl : (fault : FlowFault) → fault_eq fault fault ≡ true
fault_refl (Overlap paragraph) = grind arith
fault_refl (Reentry paragraph) = grind arith

way_refl : (way : Way) → way_eq way way ≡ true
way_refl (Stopped how left) = how_refl how
way_refl (Faulted fault) = fault_refl fault
way_refl (Returned left) = refl
way_refl Lost = refl

pub way_other : (one other : Way) → way_eq one other ≡ false → one ≢ other
way_other one other e = λ same.
    let is : false ≡ true = sym e ∙ ap (way_eq one) (sym same) ∙ way_refl one in cc

event_same : (one other : Event) → bytes_eq one other ≡ true → one ≡ other
event_same one other e = (bytes_eq-Decides one other).0 e

event_other : (one other : Event) → bytes_eq one other ≡ false → one ≢ other
event_other one other e = λ same.
    let is : false ≡ true = sym e ∙ (bytes_eq-Decides one other).1 same in cc

-- ---- where two runs part

-- a run that showed these events and then those
abbrev pub behind : Trace → Trace → Option Way → Course
behind shown rest ended = record { events = shown ++ rest; ended = ended }

-- behind fewer events than both have in common they don't part
pub none_part : (shown a b : Trace) (p q : Option Way) (count : ℕ) → count < length shown → PartBehind count (behind shown a p) (behind shown b q) → ⊥
none_part shown a b p q count less (OtherEvent one other x y differ) =
    differ (some_is one other (sym x ∙ get_front shown a count less ∙ sym (get_front shown b count less) ∙ y))
none_part shown a b p q count less (FirstEnded way next ends y) =
    let l = length-append shown a in let k = ends.0 in omega (arith, l, k, less)
none_part shown a b p q count less (SecondEnded way next x ends) =
    let l = length-append shown b in let k = ends.0 in omega (arith, l, k, less)
none_part shown a b p q count less (OtherWay one other ends other_ends differ) =
    let l = length-append shown a in let k = ends.0 in omega (arith, l, k, less)

pub part_here : (shown a b : Trace) (p q : Option Way) → PartBehind (length shown) (behind shown a p) (behind shown b q) → DifferAt (suc (length shown)) (behind shown a p) (behind shown b q)
part_here shown a b p q part = record {
  before = length shown;
  counted = refl;
  part = part;
  least = λ fewer less. none_part shown a b p q fewer less;
}

module _ (shown : Trace) where
  ended_here : (p : Option Way) (way : Way) → p ≡ Some way → EndsWith (behind shown [] p) (length shown) way
  ended_here p way is = (length_shown shown, is)

  next_here : (event : Event) (rest : Trace) → slice_get (shown ++ event ∷ rest) (length shown) ≡ Some event
  next_here event rest = get_behind shown (event ∷ rest)

  pub other_event : (event next : Event) (a b : Trace) (p q : Option Way) → event ≢ next → DifferAt (suc (length shown)) (behind shown (event ∷ a) p) (behind shown (next ∷ b) q)
  other_event event next a b p q differ =
      part_here shown (event ∷ a) (next ∷ b) p q (OtherEvent event next (next_here event a) (next_here next b) differ)

  pub first_ended : (way : Way) (next : Event) (b : Trace) (p q : Option Way) → p ≡ Some way → DifferAt (suc (length shown)) (behind shown [] p) (behind shown (next ∷ b) q)
  first_ended way next b p q is =
      part_here shown [] (next ∷ b) p q (FirstEnded way next (ended_here p way is) (next_here next b))

  pub second_ended : (way : Way) (next : Event) (a : Trace) (p q : Option Way) → q ≡ Some way → DifferAt (suc (length shown)) (behind shown (next ∷ a) p) (behind shown [] q)
  second_ended way next a p q is =
      part_here shown (next ∷ a) [] p q (SecondEnded way next (next_here next a) (ended_here q way is))

  pub other_way : (one other : Way) (p q : Option Way) → p ≡ Some one → q ≡ Some other → one ≢ other → DifferAt (suc (length shown)) (behind shown [] p) (behind shown [] q)
  other_way one other p q is is_other differ =
      part_here shown [] [] p q (OtherWay one other (ended_here p one is) (ended_here q other is_other) differ)

  pub both_ended : (way : Way) (p q : Option Way) → p ≡ Some way → q ≡ Some way → SameWith (length shown) (behind shown [] p) (behind shown [] q)
  both_ended way p q is is_other = record {
    way = way;
    first_ended = ended_here p way is;
    second_ended = ended_here q way is_other;
    same = refl;
  }

-- ---- the other way round

turned_part : (count : ℕ) (first second : Course) → PartBehind count first second → PartBehind count second first
turned_part count first second (OtherEvent one other x y differ) = OtherEvent other one y x (λ e. differ (sym e))
turned_part count first second (FirstEnded way next ends y) = SecondEnded way next y ends
turned_part count first second (SecondEnded way next x ends) = FirstEnded way next ends x
turned_part count first second (OtherWay one other ends other_ends differ) = OtherWay other one other_ends ends (λ e. differ (sym e))

turned_differ : (number : ℕ) (first second : Course) → DifferAt number first second → DifferAt number second first
turned_differ number first second so = record {
  before = so.before;
  counted = so.counted;
  part = turned_part so.before first second so.part;
  least = λ fewer less part. so.least fewer less (turned_part fewer second first part);
}

turned_same : (count : ℕ) (first second : Course) → SameWith count first second → SameWith count second first
turned_same count first second so = record {
  way = so.way;
  first_ended = so.second_ended;
  second_ended = so.first_ended;
  same = sym so.same;
}

pub turned_open : (first second : Course) → Undecided first second → Undecided second first
turned_open first second so = record {
  unlike = λ count same. so.unlike count (turned_same count second first same);
  alike = λ number differ. so.alike number (turned_differ number second first differ);
}

pub turned : laws.TheOtherWayRound
turned (compared.Same count) first second so = turned_same count first second so
turned (compared.Differ number) first second so = turned_differ number first second so
turned compared.Budget first second so = turned_open first second so
turned (compared.FirstFault name) first second so = absurd so
turned (compared.SecondFault name) first second so = absurd so
turned compared.NoMemory first second so = absurd so

-- ---- runs that are known only in part

-- the second goes on, and shows a front of what the first shows
module _ (first second : Course) (more : Trace) (on : second.ended ≡ None)
    (front : first.events ≡ second.events ++ more) where
  open_parts : (count : ℕ) → PartBehind count first second → ⊥
  open_parts count (OtherEvent one other x y differ) =
      differ (some_is one other (sym x ∙ ap (λ events. slice_get events count) front ∙ get_front second.events more count (slice_get_within second.events count other y) ∙ y))
  open_parts count (FirstEnded way next ends y) =
      let l = length-append second.events more in
      let k = slice_get_within second.events count next y in
      let e : length (second.events ++ more) ≡ count = ap length (sym front) ∙ ends.0 in
      omega (arith, l, k, e)
  open_parts count (SecondEnded way next x ends) = none_is way second.ended ends.1 on
  open_parts count (OtherWay one other ends other_ends differ) = none_is other second.ended other_ends.1 on

  pub still_open : Undecided first second
  still_open = record {
    unlike = λ count so. none_is so.way second.ended so.second_ended.1 on;
    alike = λ number so. open_parts so.before so.part;
  }

-- ---- each two runs have an answer

all_shown : (shown : Trace) → shown ++ [] ≡ (shown ++ []) ++ []
all_shown shown = sym (append-nil (shown ++ []))

ended_from : (shown : Trace) (p q : Option Way) → IsAnswer (ends_from (length shown) p q) (behind shown [] p) (behind shown [] q)
ended_from shown (Some one) (Some other) =
    elim (way_eq one other) as (λ t. way_eq one other ≡ t → IsAnswer (if t then compared.Same (length shown) else compared.Differ (suc (length shown))) (behind shown [] (Some one)) (behind shown [] (Some other))) [
      | true ↦ λ e. both_ended shown one (Some one) (Some other) refl (ap Some (sym (way_same one other e)))
      | false ↦ λ e. other_way shown one other (Some one) (Some other) refl refl (way_other one other e)
    ] refl
ended_from shown None q = turned_open (behind shown [] q) (behind shown [] None) (still_open (behind shown [] q) (behind shown [] None) [] refl (all_shown shown))
ended_from shown (Some one) None = still_open (behind shown [] (Some one)) (behind shown [] None) [] refl (all_shown shown)

-- the second has a next event, and the first has none
ahead_second : (shown : Trace) (p : Option Way) (next : Event) (b : Trace) (q : Option Way) → IsAnswer (ahead_from (length shown) p) (behind shown [] p) (behind shown (next ∷ b) q)
ahead_second shown (Some way) next b q = first_ended shown way next b (Some way) q refl
ahead_second shown None next b q =
    turned_open (behind shown (next ∷ b) q) (behind shown [] None)
    (still_open (behind shown (next ∷ b) q) (behind shown [] None) (next ∷ b) refl (ap (λ events. events ++ next ∷ b) (sym (append-nil shown))))

-- the first has a next event, and the second has none
ahead_first : (shown : Trace) (next : Event) (a : Trace) (p q : Option Way) → IsAnswer (ahead_from (length shown) q) (behind shown (next ∷ a) p) (behind shown [] q)
ahead_first shown next a p (Some way) = second_ended shown way next a p (Some way) refl
ahead_first shown next a p None =
    still_open (behind shown (next ∷ a) p) (behind shown [] None) (next ∷ a) refl (ap (λ events. events ++ next ∷ a) (sym (append-nil shown)))

one_shown : (shown : Trace) (event : Event) (rest : Trace) → (shown ++ event ∷ []) ++ rest ≡ shown ++ event ∷ rest
one_shown shown event rest = append_assoc shown (event ∷ []) rest

one_longer : (shown : Trace) (event : Event) → length (shown ++ event ∷ []) ≡ suc (length shown)
one_longer shown event = let l = length-append shown (event ∷ []) in omega (arith, l)

pub answers_from : (shown a : Trace) (p : Option Way) (b : Trace) (q : Option Way) → IsAnswer (answer_from (length shown) a p b q) (behind shown a p) (behind shown b q)
answers_from shown [] p [] q = ended_from shown p q
answers_from shown [] p (next ∷ b) q = ahead_second shown p next b q
answers_from shown (event ∷ a) p [] q = ahead_first shown event a p q
answers_from shown (event ∷ a) p (next ∷ b) q =
    elim (bytes_eq event next) as (λ t. bytes_eq event next ≡ t → IsAnswer (if t then answer_from (suc (length shown)) a p b q else compared.Differ (suc (length shown))) (behind shown (event ∷ a) p) (behind shown (next ∷ b) q)) [
      | true ↦ λ e.
          let so = answers_from (shown ++ event ∷ []) a p b q in
          let counted = subst (λ n. IsAnswer (answer_from n a p b q) (behind (shown ++ event ∷ []) a p) (behind (shown ++ event ∷ []) b q)) (one_longer shown event) so in
          let here = subst (λ events. IsAnswer (answer_from (suc (length shown)) a p b q) (record { events = events; ended = p }) (behind (shown ++ event ∷ []) b q)) (one_shown shown event a) counted in
          let there = subst (λ events. IsAnswer (answer_from (suc (length shown)) a p b q) (behind shown (event ∷ a) p) (record { events = events; ended = q })) (one_shown shown event b) here in
          subst (λ other. IsAnswer (answer_from (suc (length shown)) a p b q) (behind shown (event ∷ a) p) (behind shown (other ∷ b) q)) (event_same event next e) there
      | false ↦ λ e. other_event shown event next a b p q (event_other event next e)
    ] refl

pub each_has : laws.EachTwoHaveAnAnswer
each_has first second = answers_from [] first.events first.ended second.events second.ended

-- ---- and only one

pub alike_never : (count : ℕ) (first second : Course) → first.events ≡ second.events → first.ended ≡ second.ended → PartBehind count first second → ⊥
alike_never count first second same ended (OtherEvent one other x y differ) =
    differ (some_is one other (sym x ∙ ap (λ events. slice_get events count) same ∙ y))
alike_never count first second same ended (FirstEnded way next ends y) =
    let k = slice_get_within second.events count next y in
    let e : length second.events ≡ count = ap length (sym same) ∙ ends.0 in
    omega (arith, k, e)
alike_never count first second same ended (SecondEnded way next x ends) =
    let k = slice_get_within first.events count next x in
    let e : length first.events ≡ count = ap length same ∙ ends.0 in
    omega (arith, k, e)
alike_never count first second same ended (OtherWay one other ends other_ends differ) =
    differ (some_is one other (sym ends.1 ∙ ended ∙ other_ends.1))

same_never : (count number : ℕ) (first second : Course) → SameWith count first second → DifferAt number first second → ⊥
same_never count number first second so differ =
    alike_never differ.before first second so.same (so.first_ended.1 ∙ sym so.second_ended.1) differ.part

one_number : (one other : ℕ) (first second : Course) → DifferAt one first second → DifferAt other first second → one ≡ other
one_number one other first second so too =
    elim (cases_order so.before too.before) [
      | inl e ↦ so.counted ∙ ap suc e ∙ sym too.counted
      | inr order ↦ elim order [
        | inl less ↦ absurd (too.least so.before less so.part)
        | inr more ↦ absurd (so.least too.before more too.part)
      ]
    ]

pub only_one : laws.NoTwoHaveTwo
only_one (compared.Same count) (compared.Same other) first second so too = ap compared.Same (sym so.first_ended.0 ∙ too.first_ended.0)
only_one (compared.Same count) (compared.Differ number) first second so too = absurd (same_never count number first second so too)
only_one (compared.Same count) compared.Budget first second so too = absurd (too.unlike count so)
only_one (compared.Differ number) (compared.Same count) first second so too = absurd (same_never count number first second too so)
only_one (compared.Differ number) (compared.Differ other) first second so too = ap compared.Differ (one_number number other first second so too)
only_one (compared.Differ number) compared.Budget first second so too = absurd (too.alike number so)
only_one compared.Budget (compared.Same count) first second so too = absurd (so.unlike count too)
only_one compared.Budget (compared.Differ number) first second so too = absurd (so.alike number too)
only_one compared.Budget compared.Budget first second so too = refl
only_one (compared.FirstFault name) other first second so too = absurd so
only_one (compared.SecondFault name) other first second so too = absurd so
only_one compared.NoMemory other first second so too = absurd so
only_one (compared.Same count) (compared.FirstFault name) first second so too = absurd too
only_one (compared.Same count) (compared.SecondFault name) first second so too = absurd too
only_one (compared.Same count) compared.NoMemory first second so too = absurd too
only_one (compared.Differ number) (compared.FirstFault name) first second so too = absurd too
only_one (compared.Differ number) (compared.SecondFault name) first second so too = absurd too
only_one (compared.Differ number) compared.NoMemory first second so too = absurd too
only_one compared.Budget (compared.FirstFault name) first second so too = absurd too
only_one compared.Budget (compared.SecondFault name) first second so too = absurd too
only_one compared.Budget compared.NoMemory first second so too = absurd too

pub from_itself : laws.NoneDiffersFromItself
from_itself number course so = alike_never so.before course course refl refl so.part

-- ---- more steps

module _ {Left : Type 0} where
  ended_over : (s : Standing Left) (way : Way) → way_ended s ≡ Some way → s ≢ Going
  ended_over Going way e = λ is. none_is way None e refl
  ended_over (Over ending) way e = λ is. cc

  pub stays : (a later : Run Left) (way : Way) → Covers a later → (course_of a).ended ≡ Some way → later ≡ a
  stays a later way covers e = covers.ends (ended_over a.standing way e)

  keeps_get : (a later : Run Left) (k : ℕ) (event : Event) → Covers a later → slice_get a.trace k ≡ Some event → slice_get later.trace k ≡ Some event
  keeps_get a later k event covers here =
      ap (λ events. slice_get events k) covers.shows.1 ∙ get_front a.trace covers.shows.0 k (slice_get_within a.trace k event here) ∙ here

  -- what was shown before is shown later
  earlier_get : (a later : Run Left) (k : ℕ) (event : Event) → Covers a later → k < length a.trace → slice_get later.trace k ≡ Some event → slice_get a.trace k ≡ Some event
  earlier_get a later k event covers less here =
      sym (get_front a.trace covers.shows.0 k less) ∙ sym (ap (λ events. slice_get events k) covers.shows.1) ∙ here

  longer : (a later : Run Left) → Covers a later → length a.trace ≤ length later.trace
  longer a later covers =
      let l = length-append a.trace covers.shows.0 in
      let e : length later.trace ≡ length (a.trace ++ covers.shows.0) = ap length covers.shows.1 in
      omega (arith, l, e)

  ends_still : (a later : Run Left) (count : ℕ) (way : Way) → Covers a later → EndsWith (course_of a) count way → EndsWith (course_of later) count way
  ends_still a later count way covers ends =
      subst (λ run. EndsWith (course_of run) count way) (sym (stays a later way covers ends.1)) ends

  parts_still : (count : ℕ) (a b a_later b_later : Run Left) → Covers a a_later → Covers b b_later → PartBehind count (course_of a) (course_of b) → PartBehind count (course_of a_later) (course_of b_later)
  parts_still count a b a_later b_later here there (OtherEvent one other x y differ) =
      OtherEvent one other (keeps_get a a_later count one here x) (keeps_get b b_later count other there y) differ
  parts_still count a b a_later b_later here there (FirstEnded way next ends y) =
      FirstEnded way next (ends_still a a_later count way here ends) (keeps_get b b_later count next there y)
  parts_still count a b a_later b_later here there (SecondEnded way next x ends) =
      SecondEnded way next (keeps_get a a_later count next here x) (ends_still b b_later count way there ends)
  parts_still count a b a_later b_later here there (OtherWay one other ends other_ends differ) =
      OtherWay one other (ends_still a a_later count one here ends) (ends_still b b_later count other there other_ends) differ

-- both have shown as much as comes before the event at which they part
pub parts_within : (count : ℕ) (first second : Course) → PartBehind count first second → (count ≤ length first.events) × (count ≤ length second.events)
parts_within count first second (OtherEvent one other x y differ) =
    let k = slice_get_within first.events count one x in
    let l = slice_get_within second.events count other y in (omega (arith, k), omega (arith, l))
parts_within count first second (FirstEnded way next ends y) =
    let k = ends.0 in
    let l = slice_get_within second.events count next y in (omega (arith, k), omega (arith, l))
parts_within count first second (SecondEnded way next x ends) =
    let k = slice_get_within first.events count next x in
    let l = ends.0 in (omega (arith, k), omega (arith, l))
parts_within count first second (OtherWay one other ends other_ends differ) =
    let k = ends.0 in
    let l = other_ends.0 in (omega (arith, k), omega (arith, l))

module _ {Left : Type 0} (a b a_later b_later : Run Left) (here : Covers a a_later) (there : Covers b b_later) where
  none_earlier : (count : ℕ) → count < length a.trace → count < length b.trace → PartBehind count (course_of a_later) (course_of b_later) → PartBehind count (course_of a) (course_of b)
  none_earlier count less less_too (OtherEvent one other x y differ) =
      OtherEvent one other (earlier_get a a_later count one here less x) (earlier_get b b_later count other there less_too y) differ
  none_earlier count less less_too (FirstEnded way next ends y) =
      let l = longer a a_later here in let k = ends.0 in absurd (omega (arith, l, k, less))
  none_earlier count less less_too (SecondEnded way next x ends) =
      let l = longer b b_later there in let k = ends.0 in absurd (omega (arith, l, k, less_too))
  none_earlier count less less_too (OtherWay one other ends other_ends differ) =
      let l = longer a a_later here in let k = ends.0 in absurd (omega (arith, l, k, less))

  pub differ_still : (number : ℕ) → DifferAt number (course_of a) (course_of b) → DifferAt number (course_of a_later) (course_of b_later)
  differ_still number so =
      let within = parts_within so.before (course_of a) (course_of b) so.part in record {
        before = so.before;
        counted = so.counted;
        part = parts_still so.before a b a_later b_later here there so.part;
        least = λ fewer less part.
            so.least fewer less (none_earlier fewer (omega (arith, less, within.0)) (omega (arith, less, within.1)) part);
      }

  pub same_still : (count : ℕ) → SameWith count (course_of a) (course_of b) → SameWith count (course_of a_later) (course_of b_later)
  same_still count so =
      let first = stays a a_later so.way here so.first_ended.1 in
      let second = stays b b_later so.way there so.second_ended.1 in
      subst (λ run. SameWith count (course_of run) (course_of b_later)) (sym first)
      (subst (λ run. SameWith count (course_of a) (course_of run)) (sym second) so)

pub more_keep : {Left : Type 0} → laws.MoreStepsKeep Left
more_keep number a b a_later b_later here there =
    (same_still a b a_later b_later here there number, differ_still a b a_later b_later here there number)

-- ---- examples

pub small_runs : laws.SmallRunsCompareAs
small_runs = record { same = refl; other = refl; longer = refl; fault = refl; on = refl; apart = refl }
