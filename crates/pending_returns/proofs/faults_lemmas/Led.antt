-- Where calls lead.
use Rattle.std.proofs.Common.{◌≡◌, ◌+◌, ◌<◌, ◌≤◌, ℕ, Bool, true, List, [], length, Some, slice_get, ap, sym, ◌∙◌, subst, inl, inr, arith}
use Rattle.std.proofs.lemmas.Option.{slice_get_within}
use Rattle.pending_returns.specs.levels.Reach.{Holds, IsMarked, Adds}
use Rattle.pending_returns.specs.declared.facts.RangeFacts.{RangeFacts}
use Rattle.pending_returns.specs.Tabled.{AllBelow, AddsCalls, CallsBelow}
use Rattle.pending_returns.specs.faults.Clash.{LeadsFrom}
use Rattle.pending_returns.specs.faults.Clash as clashing
use Rattle.pending_returns.proofs.faults_lemmas.Standing.{get-below, get-some, before-or-now}

-- the ranges so far: those that were looked at have all that they perform among them
pub record LedSoFar (levels : List RangeFacts) (base : ℕ) (places : List ℕ) (marks : List Bool) (at : ℕ) : Type 0 where
  pub marked : IsMarked places marks
  pub size : length marks ≡ length levels
  pub begun : Holds places base
  pub sound : (number : ℕ) → Holds places number → LeadsFrom levels base number
  pub done : (index from to : ℕ) (facts : RangeFacts) → index < at → slice_get places index ≡ Some from → slice_get levels from ≡ Some facts → Holds facts.calls to → Holds places to

pub led-begins : (levels : List RangeFacts) (base : ℕ) (before places : List ℕ) (marks : List Bool) → before ≡ [] → Adds before places base → IsMarked places marks → length marks ≡ length levels → LedSoFar levels base places marks 0
led-begins levels base before places marks none adds marked size = record {
  marked = marked;
  size = size;
  begun = adds.added;
  sound = λ number has. elim (adds.only number has) [
    | inl old ↦ absurd (let e : slice_get [] old.0 ≡ Some number = ap (λ (ps : List ℕ). slice_get ps old.0) (sym none) ∙ old.1 in let k : ⊥ = cc in k)
    | inr same ↦ subst (λ (n : ℕ). LeadsFrom levels base n) (sym same) clashing.begins
  ];
  done = λ index from to facts lt e l h. absurd (omega arith);
}

pub led-more : (levels : List RangeFacts) (base : ℕ) (places later : List ℕ) (marks more : List Bool) (at here : ℕ) (facts : RangeFacts) → slice_get places at ≡ Some here → slice_get levels here ≡ Some facts → AddsCalls facts.calls places later → IsMarked later more → length more ≡ length marks → LedSoFar levels base places marks at →
    LedSoFar levels base later more (at + 1)
led-more levels base places later marks more at here facts at_here is adds marked size so_far = record {
  marked = marked;
  size = size ∙ so_far.size;
  begun = (so_far.begun.0, adds.kept so_far.begun.0 base so_far.begun.1);
  sound = λ number has. elim (adds.only number has) [
    | inl old ↦ so_far.sound number old
    | inr new ↦ clashing.calls here number facts (so_far.sound here (at, at_here)) is new
  ];
  done = λ index from to other lt e l h. elim (before-or-now index at lt) [
    | inl less ↦
        let inside : index < length places = (let l2 : at < length places = get-below places at here at_here in omega (arith, l2, less)) in
        let old = get-some places index inside in
        let both : Some old.0 ≡ Some from = sym (adds.kept index old.0 old.1) ∙ e in
        let same : old.0 ≡ from = cc in
        let has = so_far.done index from to other less (old.1 ∙ ap (λ (n : ℕ). Some n) same) l h in
        (has.0, adds.kept has.0 to has.1)
    | inr now ↦
        let both : Some from ≡ Some here = sym e ∙ ap (λ (n : ℕ). slice_get later n) now ∙ adds.kept at here at_here in
        let same : from ≡ here = cc in
        let one : Some other ≡ Some facts = sym l ∙ ap (λ (n : ℕ). slice_get levels n) same ∙ is in
        let eq : other ≡ facts = cc in
        adds.added to (subst (λ (f : RangeFacts). Holds f.calls to) eq h)
  ];
}

led-there : (levels : List RangeFacts) (base : ℕ) (places : List ℕ) (marks : List Bool) (at number : ℕ) → length places ≤ at → LedSoFar levels base places marks at → LeadsFrom levels base number → Holds places number
led-there levels base places marks at number le so_far (clashing.begins) = so_far.begun
led-there levels base places marks at number le so_far (clashing.calls from to facts led is has) =
    let there = led-there levels base places marks at from le so_far led in
    so_far.done there.0 from to facts (let less : there.0 < length places = get-below places there.0 from there.1 in omega (arith, less, le)) there.1 is has

pub led-all : (levels : List RangeFacts) (base : ℕ) (places : List ℕ) (marks : List Bool) (at : ℕ) → length places ≤ at → LedSoFar levels base places marks at → (number : ℕ) → (Holds places number → LeadsFrom levels base number) × (LeadsFrom levels base number → Holds places number)
led-all levels base places marks at le so_far number = (
  λ has. so_far.sound number has,
  λ led. led-there levels base places marks at number le so_far led,
)

-- the calls of one that stands among the levels
pub kept-calls : (levels : List RangeFacts) (count at : ℕ) (facts : RangeFacts) (calls : List ℕ) → CallsBelow count levels → slice_get levels at ≡ Some facts → calls ≡ facts.calls → AllBelow count calls
kept-calls levels count at facts calls below is same = subst (λ (cs : List ℕ). AllBelow count cs) (sym same) (below at facts is)

-- what is marked is one of the levels
pub there-below : (places : List ℕ) (marks : List Bool) (count at here : ℕ) → IsMarked places marks → length marks ≡ count → slice_get places at ≡ Some here → here < count
there-below places marks count at here marked size is =
    let inside : here < length marks = slice_get_within marks here true (marked.marked here (at, is)) in
    omega (arith, inside, size)
