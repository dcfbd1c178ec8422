-- Lists of places with their marks.
use Rattle.std.proofs.Common.{◌≡◌, ◌+◌, ◌<◌, ◌≤◌, ℕ, zero, suc, Bool, true, false, List, [], ◌∷◌, ◌++◌, length, set, get_or, Option, Some, None, slice_get, refl, ap, sym, ◌∙◌, subst, ◌⊎◌, inl, inr, arith, OnOk, Result, Ok, Err, eqb, eqb-true, eq-eqb}
use Rattle.std.proofs.lemmas.Option.{slice_get_read, slice_get-get_or, slice_get_within}
use Rattle.cob_tree.specs.declared.program.Range.{Range}
use Rattle.program_points.specs.declared.point_table.table.ProgramPoint.{ProgramPoint}
use Rattle.program_points.specs.declared.point_table.table.ProgramPoint.TheVariants.{Chooses}
use Rattle.program_points.specs.declared.point_table.table.Table.{Table}
use Rattle.program_points.specs.point_table.Table.{AllBelow}
use Rattle.pending_returns.specs.levels.Reach.{Holds, IsMarked, Adds, AddsNext, AddsAll, AddsSome, Succeeds}

get-front : (xs ys : List ℕ) (at x : ℕ) → slice_get xs at ≡ Some x → slice_get (xs ++ ys) at ≡ Some x
get-front [] ys at x e = absurd (let k : ⊥ = cc in k)
get-front (y ∷ xs) ys zero x e = e
get-front (y ∷ xs) ys (suc at) x e = get-front xs ys at x e

get-last : (xs : List ℕ) (x : ℕ) → slice_get (xs ++ x ∷ []) (length xs) ≡ Some x
get-last [] x = refl
get-last (y ∷ xs) x = get-last xs x

get-split : (xs : List ℕ) (x at y : ℕ) → slice_get (xs ++ x ∷ []) at ≡ Some y → (slice_get xs at ≡ Some y) ⊎ ((at ≡ length xs) × (x ≡ y))
get-split [] x zero y e = inr (refl, (let k : x ≡ y = cc in k))
get-split [] x (suc at) y e = absurd (let k : ⊥ = cc in k)
get-split (z ∷ xs) x zero y e = inl e
get-split (z ∷ xs) x (suc at) y e = elim (get-split xs x at y e) [ inl old ↦ inl old | inr new ↦ inr (ap (λ (n : ℕ). suc n) new.0, new.1) ]

set-same : (marks : List Bool) (at : ℕ) → at < length marks → slice_get (set marks at true) at ≡ Some true
set-same [] at lt = absurd (omega arith)
set-same (mark ∷ marks) zero lt = refl
set-same (mark ∷ marks) (suc at) lt = set-same marks at (omega arith)

set-other : (marks : List Bool) (at other : ℕ) → eqb at other ≡ false → slice_get (set marks at true) other ≡ slice_get marks other
set-other [] at other ne = refl
set-other (mark ∷ marks) zero zero ne = absurd (let e : eqb zero zero ≡ true = eq-eqb zero zero refl in let both : true ≡ false = sym e ∙ ne in let k : ⊥ = cc in k)
set-other (mark ∷ marks) zero (suc other) ne = refl
set-other (mark ∷ marks) (suc at) zero ne = refl
set-other (mark ∷ marks) (suc at) (suc other) ne =
    set-other marks at other ((elim (eqb at other) as (λ b. eqb at other ≡ b → eqb at other ≡ false) [
      | true ↦ λ e. absurd (let same : eqb (suc at) (suc other) ≡ true = eq-eqb (suc at) (suc other) (ap (λ (n : ℕ). suc n) (eqb-true at other e)) in let both : true ≡ false = sym same ∙ ne in let k : ⊥ = cc in k)
      | false ↦ λ e. e
    ]) refl)

pub pushed-marks : (places : List ℕ) (marks : List Bool) (place : ℕ) → IsMarked places marks → slice_get marks place ≡ Some false → place < length marks → IsMarked (places ++ place ∷ []) (set marks place true)
pushed-marks places marks place is unmarked lt =
    let fresh : Holds places place → ⊥ = λ h. (let m : slice_get marks place ≡ Some true = is.marked place h in let both : Some false ≡ Some true = sym unmarked ∙ m in let k : ⊥ = cc in k) in
    record {
      there = λ other h.
          (elim (eqb place other) as (λ b. eqb place other ≡ b → Holds (places ++ place ∷ []) other) [
            | true ↦ λ e. (length places, get-last places place ∙ ap (λ (n : ℕ). Some n) (eqb-true place other e))
            | false ↦ λ e. let old = is.there other (sym (set-other marks place other e) ∙ h) in (old.0, get-front places (place ∷ []) old.0 other old.1)
          ]) refl;
      marked = λ other h.
          elim (get-split places place h.0 other h.1) [
            | inl old ↦
                (elim (eqb place other) as (λ b. eqb place other ≡ b → slice_get (set marks place true) other ≡ Some true) [
                  | true ↦ λ e. subst (λ (n : ℕ). slice_get (set marks place true) n ≡ Some true) (eqb-true place other e) (set-same marks place lt)
                  | false ↦ λ e. set-other marks place other e ∙ is.marked other (h.0, old)
                ]) refl
            | inr new ↦ subst (λ (n : ℕ). slice_get (set marks place true) n ≡ Some true) new.1 (set-same marks place lt)
          ];
      once = λ a b other first second.
          elim (get-split places place a other first) [
            | inl old ↦ elim (get-split places place b other second) [
              | inl old2 ↦ is.once a b other old old2
              | inr new2 ↦ absurd (fresh (a, old ∙ ap (λ (n : ℕ). Some n) (sym new2.1)))
            ]
            | inr new ↦ elim (get-split places place b other second) [
              | inl old2 ↦ absurd (fresh (b, old2 ∙ ap (λ (n : ℕ). Some n) (sym new.1)))
              | inr new2 ↦ new.0 ∙ sym new2.0
            ]
          ];
    }

pub pushed-adds : (places : List ℕ) (place : ℕ) → Adds places (places ++ place ∷ []) place
pushed-adds places place = record {
  added = (length places, get-last places place);
  kept = λ at other e. get-front places (place ∷ []) at other e;
  only = λ other h. elim (get-split places place h.0 other h.1) [ inl old ↦ inl (h.0, old) | inr new ↦ inr (sym new.1) ];
}

pub same-adds : (places : List ℕ) (place : ℕ) → Holds places place → Adds places places place
same-adds places place holds = record { added = holds; kept = λ at other e. e; only = λ other h. inl h }

pub mark-at : (marks : List Bool) (place : ℕ) (mark : Bool) → place < length marks → mark ≡ get_or marks place mark → slice_get marks place ≡ Some mark
mark-at marks place mark lt e = slice_get_read marks (length marks) place mark refl lt e

-- what is added by way of one place
pub one-next : (table : Table) (returns : List Bool) (range : Range) (place : ProgramPoint) (before after : List ℕ) (to : ℕ) → Adds before after to → Succeeds table returns range place to → ((next : ℕ) → Succeeds table returns range place next → next ≡ to) → AddsNext table returns range place before after
one-next table returns range place before after to adds succeeds only = record {
  added = λ next s. subst (λ (n : ℕ). Holds after n) (sym (only next s)) adds.added;
  kept = adds.kept;
  only = λ other h. elim (adds.only other h) [ inl old ↦ inl old | inr same ↦ inr (subst (λ (n : ℕ). Succeeds table returns range place n) (sym same) succeeds) ];
}

pub none-next : (table : Table) (returns : List Bool) (range : Range) (place : ProgramPoint) (places : List ℕ) → ((next : ℕ) → Succeeds table returns range place next → ⊥) → AddsNext table returns range place places places
none-next table returns range place places none = record { added = λ next s. absurd (none next s); kept = λ at other e. e; only = λ other h. inl h }

pub all-next : (table : Table) (returns : List Bool) (range : Range) (ways : List (Option ℕ)) (before after : List ℕ) → AddsAll ways before after → AddsNext table returns range (Chooses ways) before after
all-next table returns range ways before after adds = record {
  added = λ next s. adds.added s.0 next s.1;
  kept = adds.kept;
  only = adds.only;
}

pub below-at : (most : ℕ) (ways : List (Option ℕ)) (index to : ℕ) → AllBelow most ways → slice_get ways index ≡ Some (Some to) → to < most
below-at most [] index to below e = absurd (let k : ⊥ = cc in k)
below-at most (None ∷ ways) zero to below e = absurd (let k : ⊥ = cc in k)
below-at most (Some way ∷ ways) zero to below e = (let k : way ≡ to = cc in subst (λ n. n < most) k below.0)
below-at most (None ∷ ways) (suc index) to below e = below-at most ways index to below e
below-at most (Some way ∷ ways) (suc index) to below e = below-at most ways index to below.1 e

pub some-none : (ways : List (Option ℕ)) (places : List ℕ) → AddsSome ways 0 places places
some-none ways places = record { added = λ number next lt e. absurd (omega arith); kept = λ at other e. e; only = λ other h. inl h }

last-or : (number index : ℕ) → number < index + 1 → (number < index) ⊎ (number ≡ index)
last-or number index lt = elim (eqb number index) as (λ b. eqb number index ≡ b → (number < index) ⊎ (number ≡ index)) [
  | true ↦ λ e. inr (eqb-true number index e)
  | false ↦ λ e. inl (let ne : number ≡ index → ⊥ = λ s. (let t : eqb number index ≡ true = eq-eqb number index s in let both : true ≡ false = sym t ∙ e in let k : ⊥ = cc in k) in omega arith)
] refl

pub some-skip : (ways : List (Option ℕ)) (index : ℕ) (before after : List ℕ) → slice_get ways index ≡ Some None → AddsSome ways index before after → AddsSome ways (index + 1) before after
some-skip ways index before after e some = record {
  added = λ number next lt w. elim (last-or number index lt) [
    | inl less ↦ some.added number next less w
    | inr same ↦ absurd (let both : Some None ≡ Some (Some next) = sym e ∙ ap (λ (n : ℕ). slice_get ways n) (sym same) ∙ w in let k : ⊥ = cc in k)
  ];
  kept = some.kept;
  only = some.only;
}

pub some-more : (ways : List (Option ℕ)) (index to : ℕ) (before after later : List ℕ) → slice_get ways index ≡ Some (Some to) → AddsSome ways index before after → Adds after later to → AddsSome ways (index + 1) before later
some-more ways index to before after later e some adds = record {
  added = λ number next lt w. elim (last-or number index lt) [
    | inl less ↦ let old = some.added number next less w in (old.0, adds.kept old.0 next old.1)
    | inr same ↦
        let both : Some (Some to) ≡ Some (Some next) = sym e ∙ ap (λ (n : ℕ). slice_get ways n) (sym same) ∙ w in
        let k : to ≡ next = cc in subst (λ (n : ℕ). Holds later n) k adds.added
  ];
  kept = λ at other h. adds.kept at other (some.kept at other h);
  only = λ other h. elim (adds.only other h) [ inl old ↦ some.only other old | inr same ↦ inr (index, e ∙ ap (λ (n : ℕ). Some (Some n)) (sym same)) ];
}

within : (ways : List (Option ℕ)) (number : ℕ) (way : Option ℕ) → slice_get ways number ≡ Some way → number < length ways
within [] number way e = absurd (let k : ⊥ = cc in k)
within (x ∷ ways) zero way e = omega arith
within (x ∷ ways) (suc number) way e = (let lt : number < length ways = within ways number way e in omega arith)

pub some-all : (ways : List (Option ℕ)) (index : ℕ) (before after : List ℕ) → length ways ≤ index → AddsSome ways index before after → AddsAll ways before after
some-all ways index before after le some = record {
  added = λ number next e. some.added number next (let lt : number < length ways = within ways number (Some next) e in omega arith) e;
  kept = some.kept;
  only = some.only;
}

pub way-is : (ways : List (Option ℕ)) (index : ℕ) (way : Option ℕ) → index < length ways → get_or ways index None ≡ way → slice_get ways index ≡ Some way
way-is ways index way lt e = slice_get-get_or ways index None lt ∙ ap (λ (w : Option ℕ). Some w) e

pub flag-is : (flags : List Bool) (index : ℕ) (flag : Bool) → index < length flags → get_or flags index false ≡ flag → slice_get flags index ≡ Some flag
flag-is flags index flag lt e = slice_get-get_or flags index false lt ∙ ap (λ (b : Bool). Some b) e

pub on-ok : {A B : Type 0} → (r : Result A B) (P Q : Type 0) → (P → Q) → OnOk r P → OnOk r Q
on-ok (Ok x) P Q f h = f h
on-ok (Err e) P Q f h = h

pub ok-any : {A B : Type 0} → (r : Result A B) (P : Type 0) → P → OnOk r P
ok-any (Ok x) P p = p
ok-any (Err e) P p = tt

-- marks that are taken away along the list

unset : (marks : List Bool) (at other : ℕ) → slice_get (set marks at false) other ≡ Some true → (at ≡ other → ⊥) × (slice_get marks other ≡ Some true)
unset [] at other e = absurd (let k : ⊥ = cc in k)
unset (mark ∷ marks) zero zero e = absurd (let k : ⊥ = cc in k)
unset (mark ∷ marks) zero (suc other) e = ((λ s. (let k : ⊥ = cc in k)), e)
unset (mark ∷ marks) (suc at) zero e = ((λ s. (let k : ⊥ = cc in k)), e)
unset (mark ∷ marks) (suc at) (suc other) e = (let old = unset marks at other e in ((λ s. old.0 (let k : at ≡ other = cc in k)), old.1))

-- what has a mark stands in the list from this number on
abbrev pub IsLeft : List ℕ → List Bool → ℕ → Type 0
IsLeft places marks from = (place : ℕ) → slice_get marks place ≡ Some true → (at : ℕ) × (from ≤ at) × (slice_get places at ≡ Some place)

pub left-begin : (places : List ℕ) (marks : List Bool) → IsMarked places marks → IsLeft places marks 0
left-begin places marks is = λ place e. (let h = is.there place e in (h.0, omega arith, h.1))

pub left-more : (places : List ℕ) (marks : List Bool) (from here : ℕ) → slice_get places from ≡ Some here → IsLeft places marks from → IsLeft places (set marks here false) (from + 1)
left-more places marks from here is left = λ place e.
    let old = unset marks here place e in
    let h = left place old.1 in (
      h.0,
      (elim (eqb from h.0) as (λ b. eqb from h.0 ≡ b → from + 1 ≤ h.0) [
        | true ↦ λ t. absurd (old.0 (let both : Some here ≡ Some place = sym is ∙ ap (λ (n : ℕ). slice_get places n) (eqb-true from h.0 t) ∙ h.2 in let k : here ≡ place = cc in k))
        | false ↦ λ f. (let ne : from ≡ h.0 → ⊥ = λ s. (let t : eqb from h.0 ≡ true = eq-eqb from h.0 s in let both : true ≡ false = sym t ∙ f in let k : ⊥ = cc in k) in let le = h.1 in omega arith)
      ]) refl,
      h.2,
    )

pub left-end : (places none : List ℕ) (marks : List Bool) (from : ℕ) → length places ≤ from → none ≡ [] → IsLeft places marks from → IsMarked none marks
left-end places none marks from le empty left =
    let nothing : (at place : ℕ) → slice_get none at ≡ Some place → ⊥ = λ at place e. (let f : slice_get [] at ≡ Some place = ap (λ (ps : List ℕ). slice_get ps at) (sym empty) ∙ e in let k : ⊥ = cc in k) in
    record {
      there = λ place e. (let h = left place e in absurd (let lt : h.0 < length places = slice_get_within places h.0 place h.2 in let up = h.1 in omega (arith, lt, up, le)));
      marked = λ place h. absurd (nothing h.0 place h.1);
      once = λ a b place e f. absurd (nothing a place e);
    }
