-- The paragraphs to which levels come.
use Rattle.std.proofs.Common.{◌≡◌, ◌+◌, ◌<◌, ◌≤◌, ℕ, Bool, true, false, List, length, replicate, Some, slice_get, ap, sym, ◌∙◌, subst, ◌⊎◌, inl, inr, arith, set}
use Rattle.cob_tree.specs.declared.program.Range.{Range}
use Rattle.program_points.specs.declared.point_table.table.Table.{Table}
use Rattle.program_points.specs.point_table.Table.{ComesIn, IsTidy}
use Rattle.pending_returns.specs.levels.Reach.{IsReach, AllPlaces}
use Rattle.pending_returns.proofs.levels_lemmas.Searching.{no-mark}
use Rattle.pending_returns.specs.Tabled.{OwnersBelow, IsOwner, MarksOwners, ComesToOwner, MarksLevels}
use Rattle.pending_returns.proofs.Getting.{get-below, before-or-now, set-here, set-other, same-or-not}
use Rattle.pending_returns.proofs.Leveling.{level-below}

-- flags are on the paragraphs of the first places
pub record MarksFirst (owners places : List ℕ) (at : ℕ) (before after : List Bool) : Type 0 where
  pub kept : (paragraph : ℕ) → slice_get before paragraph ≡ Some true → slice_get after paragraph ≡ Some true
  pub on : (index place paragraph : ℕ) → index < at → slice_get places index ≡ Some place → slice_get owners place ≡ Some paragraph → slice_get after paragraph ≡ Some true
  pub only : (paragraph : ℕ) → slice_get after paragraph ≡ Some true → (slice_get before paragraph ≡ Some true) ⊎ IsOwner owners places paragraph

pub marks-none : (owners places : List ℕ) (flags : List Bool) → MarksFirst owners places 0 flags flags
marks-none owners places flags = record { kept = λ p e. e; on = λ i l p lt e o. absurd (omega arith); only = λ p e. inl e }

set-on : (flags : List Bool) (at other : ℕ) → at < length flags → slice_get flags other ≡ Some true → slice_get (set flags at true) other ≡ Some true
set-on flags at other inside e = elim (same-or-not other at) [
  | inl same ↦ ap (λ (n : ℕ). slice_get (set flags at true) n) same ∙ set-here flags at true inside
  | inr ne ↦ set-other flags at other true ne ∙ e
]

pub marks-more : (owners places : List ℕ) (at here owner : ℕ) (before after : List Bool) → slice_get places at ≡ Some here → slice_get owners here ≡ Some owner → owner < length after → MarksFirst owners places at before after → MarksFirst owners places (at + 1) before (set after owner true)
marks-more owners places at here owner before after is owns inside so_far = record {
  kept = λ p e. set-on after owner p inside (so_far.kept p e);
  on = λ index place p lt e o. elim (before-or-now index at lt) [
    | inl less ↦ set-on after owner p inside (so_far.on index place p less e o)
    | inr now ↦
        let both : Some place ≡ Some here = sym e ∙ ap (λ (n : ℕ). slice_get places n) now ∙ is in
        let same : place ≡ here = cc in
        let two : Some p ≡ Some owner = sym o ∙ ap (λ (n : ℕ). slice_get owners n) same ∙ owns in
        let eq : p ≡ owner = cc in
        ap (λ (n : ℕ). slice_get (set after owner true) n) eq ∙ set-here after owner true inside
  ];
  only = λ p e. elim (same-or-not p owner) [
    | inl same ↦ inr (here, (at, is), owns ∙ ap (λ (n : ℕ). Some n) (sym same))
    | inr ne ↦ so_far.only p (sym (set-other after owner p true ne) ∙ e)
  ];
}

pub marks-all : (owners places : List ℕ) (at : ℕ) (before after : List Bool) → length places ≤ at → MarksFirst owners places at before after → MarksOwners owners places before after
marks-all owners places at before after le so_far = λ p. (
  so_far.only p,
  λ which. elim which [
    | inl old ↦ so_far.kept p old
    | inr new ↦ so_far.on new.1.0 new.0 p (let less : new.1.0 < length places = get-below places new.1.0 new.0 new.1.1 in omega (arith, less, le)) new.1.1 new.2
  ],
)

-- the same of lists that are these
pub marks-through : (owners os places ps : List ℕ) (before after : List Bool) → os ≡ owners → ps ≡ places → MarksOwners os ps before after → MarksOwners owners places before after
marks-through owners os places ps before after one two marks = subst (λ (ns : List ℕ). MarksOwners owners ns before after) two (subst (λ (ns : List ℕ). MarksOwners ns ps before after) one marks)

-- of the first levels
pub record MarksUpTo (table : Table) (returns : List Bool) (numbers : List ℕ) (at : ℕ) (flags : List Bool) : Type 0 where
  pub on : (index number : ℕ) (range : Range) (place paragraph : ℕ) → index < at → slice_get numbers index ≡ Some number → slice_get table.ranges number ≡ Some range → ComesIn table returns range place → slice_get table.owners place ≡ Some paragraph → slice_get flags paragraph ≡ Some true
  pub only : (paragraph : ℕ) → slice_get flags paragraph ≡ Some true → ComesToOwner table returns numbers paragraph

pub levels-none : (table : Table) (returns : List Bool) (numbers : List ℕ) (count : ℕ) (flags : List Bool) → flags ≡ replicate count false → MarksUpTo table returns numbers 0 flags
levels-none table returns numbers count flags is = record {
  on = λ i n r l p lt e t c o. absurd (omega arith);
  only = λ p e. absurd (no-mark count p (ap (λ (fs : List Bool). slice_get fs p) (sym is) ∙ e));
}

pub levels-more : (table : Table) (returns : List Bool) (numbers : List ℕ) (at here : ℕ) (range : Range) (places : List ℕ) (before after : List Bool) → slice_get numbers at ≡ Some here → slice_get table.ranges here ≡ Some range → IsReach table returns range places → MarksOwners table.owners places before after →
    MarksUpTo table returns numbers at before → MarksUpTo table returns numbers (at + 1) after
levels-more table returns numbers at here range places before after is is_range reach marks so_far = record {
  on = λ index number other place p lt e t c o. (marks p).1 (elim (before-or-now index at lt) [
    | inl less ↦ inl (so_far.on index number other place p less e t c o)
    | inr now ↦
        let both : Some number ≡ Some here = sym e ∙ ap (λ (n : ℕ). slice_get numbers n) now ∙ is in
        let same : number ≡ here = cc in
        let two : Some other ≡ Some range = sym t ∙ ap (λ (n : ℕ). slice_get table.ranges n) same ∙ is_range in
        let eq : other ≡ range = cc in
        inr (place, reach.1 place (subst (λ (r : Range). ComesIn table returns r place) eq c), o)
  ]);
  only = λ p e. elim ((marks p).0 e) [
    | inl old ↦ so_far.only p old
    | inr new ↦ (here, range, new.0, (at, is), is_range, reach.0 new.0 new.1, new.2)
  ];
}

pub levels-all : (table : Table) (returns : List Bool) (numbers : List ℕ) (at : ℕ) (flags : List Bool) → length numbers ≤ at → MarksUpTo table returns numbers at flags → MarksLevels table returns numbers flags
levels-all table returns numbers at flags le so_far = λ p. (
  so_far.only p,
  λ c. so_far.on c.3.0 c.0 c.1 c.2 p (let less : c.3.0 < length numbers = get-below numbers c.3.0 c.0 c.3.1 in omega (arith, less, le)) c.3.1 c.4 c.5 c.6,
)

-- the places of a level have owners
pub places-owned : (table : Table) (returns : List Bool) (range : Range) (places same os : List ℕ) → IsTidy table → IsReach table returns range places → same ≡ places → os ≡ table.owners → AllPlaces (length os) same
places-owned table returns range places same os tidy reach is owners = λ place has.
    let less = level-below table returns range places same tidy reach is place has in
    omega (arith, less, tidy.size, ap (λ (ns : List ℕ). length ns) owners)

pub owners-below : (table : Table) (os : List ℕ) (count : ℕ) → IsTidy table → os ≡ table.owners → count ≡ length table.starts → OwnersBelow count os
owners-below table os count tidy is size = λ place owner e. (let less = tidy.owners place owner (ap (λ (ns : List ℕ). slice_get ns place) (sym is) ∙ e) in omega (arith, less, size))
