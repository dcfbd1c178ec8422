-- Facts by new numbers.
use Rattle.std.proofs.Common.{◌≡◌, ◌+◌, ◌<◌, ◌≤◌, ℕ, List, [], ◌∷◌, ◌++◌, length, Some, slice_get, ap, sym, ◌∙◌, subst, inl, inr, arith, length-append, set}
use Rattle.pending_returns.specs.levels.Reach.{Holds}
use Rattle.pending_returns.specs.declared.facts.RangeFacts.{RangeFacts}
use Rattle.pending_returns.specs.Summary.{Rises}
use Rattle.pending_returns.specs.Tabled.{AllBelow, CallsBelow, Ranks, Renumbers, IsRenumbered, KeepsFacts}
use Rattle.pending_returns.proofs.Getting.{get-last, get-front, get-below, get-some, before-or-now, set-here, set-other}
use Rattle.pending_returns.proofs.Flags.{rises-far}

-- the ranks of the first
abbrev pub RanksUpTo : List ℕ → ℕ → List ℕ → Type 0
RanksUpTo kept at ranks = (index number : ℕ) → index < at → slice_get kept index ≡ Some number → slice_get ranks number ≡ Some index

pub ranks-none : (kept ranks : List ℕ) → RanksUpTo kept 0 ranks
ranks-none kept ranks = λ index number lt e. absurd (omega arith)

pub ranks-more : (kept ranks : List ℕ) (at here : ℕ) → Rises kept → slice_get kept at ≡ Some here → here < length ranks → RanksUpTo kept at ranks → RanksUpTo kept (at + 1) (set ranks here at)
ranks-more kept ranks at here rises is inside so_far = λ index number lt e. elim (before-or-now index at lt) [
  | inl less ↦
      let below : number < here = rises-far kept rises index at number here less e is in
      set-other ranks here number at (λ same. omega (arith, same, below)) ∙ so_far index number less e
  | inr now ↦
      let both : Some number ≡ Some here = sym e ∙ ap (λ (n : ℕ). slice_get kept n) now ∙ is in
      let same : number ≡ here = cc in
      ap (λ (n : ℕ). slice_get (set ranks here at) n) same ∙ set-here ranks here at inside ∙ ap (λ (n : ℕ). Some n) (sym now)
]

pub ranks-all : (kept ranks : List ℕ) (at : ℕ) → length kept ≤ at → RanksUpTo kept at ranks → Ranks kept ranks
ranks-all kept ranks at le so_far = λ index number e. so_far index number (let less : index < length kept = get-below kept index number e in omega (arith, less)) e

-- the first of them by new numbers
pub record RenumbersUpTo (ranks calls : List ℕ) (at : ℕ) (made : List ℕ) : Type 0 where
  pub size : length made ≡ at
  pub each : (index number : ℕ) → index < at → slice_get calls index ≡ Some number → slice_get made index ≡ slice_get ranks number

pub renumbers-none : (ranks calls made : List ℕ) → made ≡ [] → RenumbersUpTo ranks calls 0 made
renumbers-none ranks calls made is = record { size = ap (λ (ns : List ℕ). length ns) is; each = λ index number lt e. absurd (omega arith) }

pub renumbers-more : (ranks calls : List ℕ) (at here rank : ℕ) (made more : List ℕ) → slice_get calls at ≡ Some here → slice_get ranks here ≡ Some rank → more ≡ made ++ rank ∷ [] → RenumbersUpTo ranks calls at made → RenumbersUpTo ranks calls (at + 1) more
renumbers-more ranks calls at here rank made more is ranked same so_far = subst (λ (ns : List ℕ). RenumbersUpTo ranks calls (at + 1) ns) (sym same) (record {
  size = length-append made (rank ∷ []) ∙ ap (λ (n : ℕ). n + 1) so_far.size;
  each = λ index number lt e. elim (before-or-now index at lt) [
    | inl less ↦
        let old = get-some made index (omega (arith, so_far.size, less)) in
        get-front made rank index old.0 old.1 ∙ sym old.1 ∙ so_far.each index number less e
    | inr now ↦
        let both : Some number ≡ Some here = sym e ∙ ap (λ (n : ℕ). slice_get calls n) now ∙ is in
        let eq : number ≡ here = cc in
        ap (λ (n : ℕ). slice_get (made ++ rank ∷ []) n) (now ∙ sym so_far.size) ∙ get-last made rank ∙ sym ranked ∙ ap (λ (n : ℕ). slice_get ranks n) (sym eq)
  ];
})

pub renumbers-all : (ranks calls made : List ℕ) (at : ℕ) → at ≡ length calls → RenumbersUpTo ranks calls at made → Renumbers ranks calls made
renumbers-all ranks calls made at is so_far = record {
  size = so_far.size ∙ is;
  each = λ index number e. so_far.each index number (let less : index < length calls = get-below calls index number e in omega (arith, less, is)) e;
}

-- the first facts that are kept
pub record KeepsUpTo (levels : List RangeFacts) (kept ranks : List ℕ) (at : ℕ) (made : List RangeFacts) : Type 0 where
  pub size : length made ≡ at
  pub each : (index number : ℕ) → index < at → slice_get kept index ≡ Some number → (facts new : RangeFacts) × (slice_get levels number ≡ Some facts) × (slice_get made index ≡ Some new) × IsRenumbered ranks facts new

pub keeps-none : (levels : List RangeFacts) (kept ranks : List ℕ) (made : List RangeFacts) → made ≡ [] → KeepsUpTo levels kept ranks 0 made
keeps-none levels kept ranks made is = record { size = ap (λ (fs : List RangeFacts). length fs) is; each = λ index number lt e. absurd (omega arith) }

pub keeps-more : (levels : List RangeFacts) (kept ranks : List ℕ) (at here : ℕ) (facts new : RangeFacts) (made more : List RangeFacts) → slice_get kept at ≡ Some here → slice_get levels here ≡ Some facts → IsRenumbered ranks facts new → more ≡ made ++ new ∷ [] → KeepsUpTo levels kept ranks at made →
    KeepsUpTo levels kept ranks (at + 1) more
keeps-more levels kept ranks at here facts new made more is level renumbered same so_far = subst (λ (fs : List RangeFacts). KeepsUpTo levels kept ranks (at + 1) fs) (sym same) (record {
  size = length-append made (new ∷ []) ∙ ap (λ (n : ℕ). n + 1) so_far.size;
  each = λ index number lt e. elim (before-or-now index at lt) [
    | inl less ↦ (let old = so_far.each index number less e in (old.0, old.1, old.2, get-front made new index old.1 old.3, old.4))
    | inr now ↦
        let both : Some number ≡ Some here = sym e ∙ ap (λ (n : ℕ). slice_get kept n) now ∙ is in
        let eq : number ≡ here = cc in
        (facts, new, ap (λ (n : ℕ). slice_get levels n) eq ∙ level, ap (λ (n : ℕ). slice_get (made ++ new ∷ []) n) (now ∙ sym so_far.size) ∙ get-last made new, renumbered)
  ];
})

pub keeps-all : (levels : List RangeFacts) (kept ranks : List ℕ) (at : ℕ) (made : List RangeFacts) → at ≡ length kept → KeepsUpTo levels kept ranks at made → KeepsFacts levels kept ranks made
keeps-all levels kept ranks at made is so_far = record {
  size = so_far.size ∙ is;
  each = λ index number e. so_far.each index number (let less : index < length kept = get-below kept index number e in omega (arith, less, is)) e;
}

pub kept-calls : (levels : List RangeFacts) (count number : ℕ) (facts : RangeFacts) (calls : List ℕ) → CallsBelow count levels → slice_get levels number ≡ Some facts → calls ≡ facts.calls → AllBelow count calls
kept-calls levels count number facts calls below e same = λ call has. below number facts e call (subst (λ (ns : List ℕ). Holds ns call) same has)

pub renumbered-facts : (ranks calls : List ℕ) (facts new : RangeFacts) → new.range ≡ facts.range → new.returns ≡ facts.returns → calls ≡ facts.calls → Renumbers ranks calls new.calls → new.ends ≡ facts.ends → IsRenumbered ranks facts new
renumbered-facts ranks calls facts new range returns same renumbers ends = record {
  range = range;
  returns = returns;
  calls = subst (λ (ns : List ℕ). Renumbers ranks ns new.calls) same renumbers;
  ends = ends;
}
