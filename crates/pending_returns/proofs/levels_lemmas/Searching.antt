-- The search of a level.
use Rattle.std.proofs.Common.{◌≡◌, ◌+◌, ◌<◌, ◌≤◌, ℕ, zero, suc, Bool, true, false, ◌||◌, List, [], ◌∷◌, length, replicate, set, get_or, Option, Some, None, slice_get, refl, ap, sym, ◌∙◌, subst, ◌⊎◌, inl, inr, arith, eqb, eqb-true, eq-eqb}
use Rattle.std.specs.List.{IsDistinct, AllByRecursion, list_any}
use Rattle.std.proofs.lemmas.Option.{slice_get_within, slice_get_read, slice_get-get_or}
use Rattle.std.proofs.lemmas.Map.Keys.{IsDistinct-cons}
use Rattle.std.proofs.lemmas.Map.Steps.{length-le_from_distinct_below}
use Rattle.cob_tree.specs.declared.program.Range.{Range}
use Rattle.program_points.specs.declared.point_table.table.ProgramPoint.{ProgramPoint}
use Rattle.program_points.specs.declared.point_table.table.ProgramPoint.TheVariants.{Goes, Chooses, Calls, Stops, Ends}
use Rattle.program_points.specs.declared.point_table.table.Table.{Table}
use Rattle.control_flow_theory.specs.language.Language.{Chooser, Program}
use Rattle.program_points.specs.paths.Step.{Point}
use Rattle.program_points.specs.paths.Flow.{ReturnsIn}
use Rattle.program_points.specs.point_table.Table.{AllBelow, IsTable, IsTidy, IsSound, ReturnsHere, ComesIn, enters, goes, chooses, over, falls}
use Rattle.pending_returns.specs.levels.Reach.{Holds, IsMarked, Adds, AddsNext, Succeeds, IsSoFar, IsReach, trues}
use Rattle.pending_returns.proofs.levels_lemmas.Exact.{comes-path, comes-in}

pub no-mark : (count place : ℕ) → slice_get (replicate count false) place ≡ Some true → ⊥
no-mark zero place e = (let k : ⊥ = cc in k)
no-mark (suc count) zero e = (let k : ⊥ = cc in k)
no-mark (suc count) (suc place) e = no-mark count place e

pub fresh-marks : (places : List ℕ) (marks : List Bool) (count : ℕ) → places ≡ [] → marks ≡ replicate count false → IsMarked places marks
fresh-marks places marks count none same =
    let empty : (at place : ℕ) → slice_get places at ≡ Some place → ⊥ = λ at place e. (let f : slice_get [] at ≡ Some place = ap (λ (ps : List ℕ). slice_get ps at) (sym none) ∙ e in let k : ⊥ = cc in k) in
    record {
      there = λ place e. absurd (no-mark count place (ap (λ (ms : List Bool). slice_get ms place) (sym same) ∙ e));
      marked = λ place h. absurd (empty h.0 place h.1);
      once = λ a b place e f. absurd (empty a place e);
    }

there : (xs : List ℕ) (at : ℕ) → at < length xs → (x : ℕ) × (slice_get xs at ≡ Some x)
there [] at lt = absurd (omega arith)
there (x ∷ xs) zero lt = (x, refl)
there (x ∷ xs) (suc at) lt = there xs at (omega arith)

last-or : (number index : ℕ) → number < index + 1 → (number < index) ⊎ (number ≡ index)
last-or number index lt = elim (eqb number index) as (λ b. eqb number index ≡ b → (number < index) ⊎ (number ≡ index)) [
  | true ↦ λ e. inr (eqb-true number index e)
  | false ↦ λ e. inl (let ne : number ≡ index → ⊥ = λ s. (let t : eqb number index ≡ true = eq-eqb number index s in let both : true ≡ false = sym t ∙ e in let k : ⊥ = cc in k) in omega arith)
] refl

-- none stands twice, so there are no more than the places

apart : (x : ℕ) (xs : List ℕ) → ((at : ℕ) → slice_get xs at ≡ Some x → ⊥) → AllByRecursion (λ y. eqb x y ≡ false) xs
apart x [] never = tt
apart x (y ∷ xs) never = (
  (elim (eqb x y) as (λ b. eqb x y ≡ b → eqb x y ≡ false) [ true ↦ λ e. absurd (never 0 (ap (λ (n : ℕ). Some n) (sym (eqb-true x y e)))) | false ↦ λ e. e ]) refl,
  apart x xs (λ at e. never (suc at) e),
)

distinct-none : IsDistinct eqb []
unfolding IsDistinct
distinct-none = tt

pub distinct : (xs : List ℕ) → ((a b x : ℕ) → slice_get xs a ≡ Some x → slice_get xs b ≡ Some x → a ≡ b) → IsDistinct eqb xs
distinct [] once = distinct-none
distinct (x ∷ xs) once =
    IsDistinct-cons eqb x xs
    (apart x xs (λ at e. (let same : 0 ≡ suc at = once 0 (suc at) x refl e in let k : ⊥ = cc in k)))
    (distinct xs (λ a b y e f. (let same : suc a ≡ suc b = once (suc a) (suc b) y e f in let k : a ≡ b = cc in k)))

any-holds : (xs : List ℕ) (x : ℕ) → list_any (eqb x) xs ≡ true → Holds xs x
any-holds [] x e = absurd (let k : ⊥ = cc in k)
any-holds (y ∷ xs) x e =
    (elim (eqb x y) as (λ b. eqb x y ≡ b → (b || list_any (eqb x) xs) ≡ true → Holds (y ∷ xs) x) [
      | true ↦ λ s h. (0, ap (λ (n : ℕ). Some n) (sym (eqb-true x y s)))
      | false ↦ λ s h. let found = any-holds xs x h in (suc found.0, found.1)
    ]) refl e

pub few : (places : List ℕ) (marks : List Bool) → IsMarked places marks → length places ≤ length marks
few places marks is =
    length-le_from_distinct_below places (length marks) (distinct places is.once)
    (λ place e. slice_get_within marks place true (is.marked place (any-holds places place e)))

module _ (table : Table) (returns : List Bool) (range : Range) where
  next-comes : (from next : ℕ) (place : ProgramPoint) → ComesIn table returns range from → slice_get table.places from ≡ Some place → Succeeds table returns range place next → ComesIn table returns range next
  next-comes from next (Goes to) c e s = goes from next c (e ∙ ap (λ (n : ℕ). Some (Goes n)) (sym s))
  next-comes from next (Chooses ways) c e s = chooses from next s.0 ways c e s.1
  next-comes from next (Calls called after) c e s = over from next called c (e ∙ ap (λ (n : ℕ). Some (Calls called n)) (sym s.1)) s.0
  next-comes from next Stops c e s = absurd s
  next-comes from next (Ends paragraph) c e s = falls from paragraph next c e s.0 s.1

  pub begin-none : (places : List ℕ) (marks : List Bool) → places ≡ [] → IsMarked places marks → length marks ≡ length table.places → slice_get table.starts range.entry ≡ None → IsSoFar table returns range places marks 0
  begin-none places marks none marked size e = record {
    marked = marked;
    size = size;
    begun = λ start s. absurd (let both : None ≡ Some start = sym e ∙ s in let k : ⊥ = cc in k);
    sound = λ place h. absurd (let f : slice_get [] h.0 ≡ Some place = ap (λ (ps : List ℕ). slice_get ps h.0) (sym none) ∙ h.1 in let k : ⊥ = cc in k);
    done = λ number from place next lt e1 e2 s. absurd (omega arith);
  }

  pub begin-some : (places later : List ℕ) (marks : List Bool) (start : ℕ) → places ≡ [] → IsMarked later marks → length marks ≡ length table.places → slice_get table.starts range.entry ≡ Some start → Adds places later start → IsSoFar table returns range later marks 0
  begin-some places later marks start none marked size e adds = record {
    marked = marked;
    size = size;
    begun = λ other s. (let both : Some start ≡ Some other = sym e ∙ s in let same : start ≡ other = cc in subst (λ (n : ℕ). Holds later n) same adds.added);
    sound = λ place h. elim (adds.only place h) [
      | inl old ↦ absurd (let f : slice_get [] old.0 ≡ Some place = ap (λ (ps : List ℕ). slice_get ps old.0) (sym none) ∙ old.1 in let k : ⊥ = cc in k)
      | inr same ↦ enters place (e ∙ ap (λ (n : ℕ). Some n) (sym same))
    ];
    done = λ number from place next lt e1 e2 s. absurd (omega arith);
  }

  pub go-on : (places later : List ℕ) (marks more : List Bool) (at here : ℕ) (place : ProgramPoint) → IsSoFar table returns range places marks at → at < length places → slice_get places at ≡ Some here → slice_get table.places here ≡ Some place →
      AddsNext table returns range place places later → IsMarked later more → length more ≡ length marks → IsSoFar table returns range later more (at + 1)
  go-on places later marks more at here place so lt is_here is_place adds marked size =
      let kept : (other : ℕ) → Holds places other → Holds later other = λ other h. (h.0, adds.kept h.0 other h.1) in
      record {
        marked = marked;
        size = size ∙ so.size;
        begun = λ start s. kept start (so.begun start s);
        sound = λ other h. elim (adds.only other h) [
          | inl old ↦ so.sound other old
          | inr succeeds ↦ next-comes here other place (so.sound here (at, is_here)) is_place succeeds
        ];
        done = λ number from which next less e1 e2 s. elim (last-or number at less) [
          | inl before ↦
              let old = there places number (omega arith) in
              let both : Some old.0 ≡ Some from = sym (adds.kept number old.0 old.1) ∙ e1 in
              let same : old.0 ≡ from = cc in
              kept next (so.done number from which next before (old.1 ∙ ap (λ (n : ℕ). Some n) same) e2 s)
          | inr now ↦
              let e3 : slice_get later at ≡ Some from = ap (λ (n : ℕ). slice_get later n) (sym now) ∙ e1 in
              let both : Some here ≡ Some from = sym (adds.kept at here is_here) ∙ e3 in
              let same : here ≡ from = cc in
              let e4 : Some place ≡ Some which = sym is_place ∙ ap (λ (n : ℕ). slice_get table.places n) same ∙ e2 in
              let same_place : place ≡ which = cc in
              adds.added next (subst (λ p. Succeeds table returns range p next) (sym same_place) s)
        ];
      }

  complete : (places : List ℕ) (marks : List Bool) (at : ℕ) → IsSoFar table returns range places marks at → length places ≤ at → (place : ℕ) → ComesIn table returns range place → Holds places place
  complete places marks at so le place (enters start e) = so.begun start e
  complete places marks at so le place (goes from to c e) =
      let h = complete places marks at so le from c in
      so.done h.0 from (Goes to) to (let lt : h.0 < length places = slice_get_within places h.0 from h.1 in omega arith) h.1 e refl
  complete places marks at so le place (chooses from to number ways c e w) =
      let h = complete places marks at so le from c in
      so.done h.0 from (Chooses ways) to (let lt : h.0 < length places = slice_get_within places h.0 from h.1 in omega arith) h.1 e (number, w)
  complete places marks at so le place (over from after called c e r) =
      let h = complete places marks at so le from c in
      so.done h.0 from (Calls called after) after (let lt : h.0 < length places = slice_get_within places h.0 from h.1 in omega arith) h.1 e (r, refl)
  complete places marks at so le place (falls from paragraph to c e out s) =
      let h = complete places marks at so le from c in
      so.done h.0 from (Ends paragraph) to (let lt : h.0 < length places = slice_get_within places h.0 from h.1 in omega arith) h.1 e (out, s)

  pub all-reached : (places : List ℕ) (marks : List Bool) (at : ℕ) → IsSoFar table returns range places marks at → length places ≤ at → IsReach table returns range places
  all-reached places marks at so le = (so.sound, complete places marks at so le)

pub at-place : (xs ys : List ProgramPoint) (number : ℕ) (place : ProgramPoint) → xs ≡ ys → number < length xs → place ≡ get_or xs number place → slice_get ys number ≡ Some place
at-place xs ys number place same lt is = ap (λ (ps : List ProgramPoint). slice_get ps number) (sym same) ∙ slice_get_read xs (length xs) number place refl lt is

-- which ranges return

pub trues-set : (flags : List Bool) (at : ℕ) → slice_get flags at ≡ Some false → trues (set flags at true) ≡ suc (trues flags)
trues-set [] at e = absurd (let k : ⊥ = cc in k)
trues-set (true ∷ flags) zero e = absurd (let k : ⊥ = cc in k)
trues-set (false ∷ flags) zero e = refl
trues-set (true ∷ flags) (suc at) e = ap (λ (n : ℕ). suc n) (trues-set flags at e)
trues-set (false ∷ flags) (suc at) e = trues-set flags at e

pub trues-most : (flags : List Bool) → trues flags ≤ length flags
trues-most [] = omega arith
trues-most (true ∷ flags) = (let h : trues flags ≤ length flags = trues-most flags in omega arith)
trues-most (false ∷ flags) = (let h : trues flags ≤ length flags = trues-most flags in omega arith)

way-below : (most : ℕ) (ways : List (Option ℕ)) (index to : ℕ) → AllBelow most ways → slice_get ways index ≡ Some (Some to) → to < most
way-below most [] index to below e = absurd (let k : ⊥ = cc in k)
way-below most (None ∷ ways) zero to below e = absurd (let k : ⊥ = cc in k)
way-below most (Some way ∷ ways) zero to below e = (let k : way ≡ to = cc in subst (λ n. n < most) k below.0)
way-below most (None ∷ ways) (suc index) to below e = way-below most ways index to below e
way-below most (Some way ∷ ways) (suc index) to below e = way-below most ways index to below.1 e

pub comes-below : (table : Table) (returns : List Bool) (range : Range) → IsTidy table → (place : ℕ) → ComesIn table returns range place → place < length table.places
comes-below table returns range tidy place (enters start e) = tidy.starts range.entry start e
comes-below table returns range tidy place (goes from to c e) = tidy.places from (Goes to) e
comes-below table returns range tidy place (chooses from to number ways c e w) = way-below (length table.places) ways number to (tidy.places from (Chooses ways) e) w
comes-below table returns range tidy place (over from after called c e r) = (tidy.places from (Calls called after) e).1
comes-below table returns range tidy place (falls from paragraph to c e out s) = tidy.starts (suc paragraph) to s

pub returns-sound : (never_first : Chooser → Bool) (program : Program) (table : Table) (points : ℕ → Point) (returns : List Bool) (range : Range) → IsTable never_first program table points → IsSound never_first program table returns → ReturnsHere table returns range → ReturnsIn never_first program range
returns-sound never_first program table points returns range is sound here =
    (points here.0, here.1, comes-path never_first program range (points here.0) (comes-in never_first program table points returns is sound range here.0 here.2), is.places here.0 (Ends here.1) here.3, here.4)

pub set-get : (flags : List Bool) (at other : ℕ) → slice_get (set flags at true) other ≡ Some true → (other ≡ at) ⊎ (slice_get flags other ≡ Some true)
set-get [] at other e = inr e
set-get (flag ∷ flags) zero zero e = inl refl
set-get (flag ∷ flags) zero (suc other) e = inr e
set-get (flag ∷ flags) (suc at) zero e = inr e
set-get (flag ∷ flags) (suc at) (suc other) e = elim (set-get flags at other e) [ inl same ↦ inl (ap (λ (n : ℕ). suc n) same) | inr old ↦ inr old ]

pub sound-more : (never_first : Chooser → Bool) (program : Program) (table : Table) (points : ℕ → Point) (returns : List Bool) (at : ℕ) (range : Range) → IsTable never_first program table points → IsSound never_first program table returns → slice_get table.ranges at ≡ Some range → ReturnsHere table returns range → IsSound never_first program table (set returns at true)
sound-more never_first program table points returns at range is sound e here = λ number other there flag.
    elim (set-get returns at number flag) [
      | inl same ↦
          let both : Some range ≡ Some other = sym e ∙ ap (λ (n : ℕ). slice_get table.ranges n) (sym same) ∙ there in
          let k : range ≡ other = cc in
          subst (λ r. ReturnsIn never_first program r) k (returns-sound never_first program table points returns range is sound here)
      | inr old ↦ sound number other there old
    ]

pub flag-at : (flags : List Bool) (at : ℕ) (flag : Bool) → at < length flags → flag ≡ get_or flags at flag → slice_get flags at ≡ Some flag
flag-at flags at flag lt is = slice_get_read flags (length flags) at flag refl lt is

pub at-range : (xs ys : List Range) (number : ℕ) (range : Range) → xs ≡ ys → number < length xs → range ≡ get_or xs number range → slice_get ys number ≡ Some range
at-range xs ys number range same lt is = ap (λ (rs : List Range). slice_get rs number) (sym same) ∙ slice_get_read xs (length xs) number range refl lt is

pub at-or-behind : (from at : ℕ) → from ≤ at → (from ≡ at) ⊎ (from + 1 ≤ at)
at-or-behind from at le = elim (eqb from at) as (λ b. eqb from at ≡ b → (from ≡ at) ⊎ (from + 1 ≤ at)) [
  | true ↦ λ e. inl (eqb-true from at e)
  | false ↦ λ e. inr (let ne : from ≡ at → ⊥ = λ s. (let t : eqb from at ≡ true = eq-eqb from at s in let both : true ≡ false = sym t ∙ e in let k : ⊥ = cc in k) in omega arith)
] refl

pub range-at : (xs ys : List Range) (number : ℕ) (other : Range) → xs ≡ ys → number < length ys → slice_get ys number ≡ Some (get_or xs number other)
range-at xs ys number other same lt =
    let lt1 : number < length xs = omega (arith, ap (λ (rs : List Range). length rs) same) in
    ap (λ (rs : List Range). slice_get rs number) (sym same) ∙ slice_get-get_or xs number other lt1

pub before-or-now : (number index : ℕ) → number < index + 1 → (number < index) ⊎ (number ≡ index)
before-or-now = last-or
