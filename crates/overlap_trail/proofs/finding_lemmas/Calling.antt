-- Ranges that are come to by calls, and ends among ranges.
use Rattle.std.proofs.Common.{◌≡◌, ◌+◌, ◌<◌, ◌≤◌, ℕ, Bool, List, [], ◌∷◌, ◌++◌, length, Some, slice_get, refl, ap, sym, ◌∙◌, subst, inl, inr, arith}
use Rattle.cob_tree.specs.declared.program.Range.{Range}
use Rattle.pending_returns.specs.levels.Reach.{Holds, IsMarked}
use Rattle.pending_returns.proofs.levels_lemmas.Searching.{before-or-now}
use Rattle.pending_returns.specs.Tabled.{AddsCalls}
use Rattle.pending_returns.proofs.faults_lemmas.Standing.{get-below}
use Rattle.overlap_trail.specs.declared.finding.search.Predecessor.{Predecessor}
use Rattle.overlap_trail.specs.finding.Search.{Tracks}
use Rattle.overlap_trail.specs.finding.Chain.{ByCall, EndsAmong}
use Rattle.overlap_trail.proofs.finding_lemmas.Getting.{get-front, get-split, longer}
use Rattle.overlap_trail.proofs.finding_lemmas.Standing.{in-at}

-- none of the first of these ranges ends there
abbrev pub NoneEnds : List Range → ℕ → ℕ → Type 0
NoneEnds ranges end index = (at : ℕ) (range : Range) → at < index → slice_get ranges at ≡ Some range → range.exit ≡ Some end → ⊥

pub ends-more : (ranges : List Range) (end index : ℕ) (range : Range) → slice_get ranges index ≡ Some range → (range.exit ≡ Some end → ⊥) → NoneEnds ranges end index → NoneEnds ranges end (index + 1)
ends-more ranges end index range here out none = λ at other lt e x. elim (before-or-now at index lt) [
  | inl less ↦ none at other less e x
  | inr now ↦
      let both : Some range ≡ Some other = sym here ∙ ap (λ (n : ℕ). slice_get ranges n) (sym now) ∙ e in
      let same : range ≡ other = cc in
      out (ap (λ (r : Range). r.exit) same ∙ x)
]

pub ends-all : (ranges : List Range) (end index : ℕ) → length ranges ≤ index → NoneEnds ranges end index → EndsAmong ranges end → ⊥
ends-all ranges end index le none among =
    let found = in-at among.0 ranges among.1 in
    none found.0 among.0 (let less : found.0 < length ranges = get-below ranges found.0 among.0 found.1 in omega (arith, less, le)) found.1 among.2

-- none of the first of these is the number
abbrev pub NoneIs : List ℕ → ℕ → ℕ → Type 0
NoneIs numbers number index = (at : ℕ) → at < index → slice_get numbers at ≡ Some number → ⊥

pub is-more : (numbers : List ℕ) (number index other : ℕ) → slice_get numbers index ≡ Some other → (other ≡ number → ⊥) → NoneIs numbers number index → NoneIs numbers number (index + 1)
is-more numbers number index other here ne none = λ at lt e. elim (before-or-now at index lt) [
  | inl less ↦ none at less e
  | inr now ↦
      let both : Some other ≡ Some number = sym here ∙ ap (λ (n : ℕ). slice_get numbers n) (sym now) ∙ e in
      let same : other ≡ number = cc in
      ne same
]

pub is-all : (numbers : List ℕ) (number index : ℕ) → length numbers ≤ index → NoneIs numbers number index → Holds numbers number → ⊥
is-all numbers number index le none has = none has.0 (let less : has.0 < length numbers = get-below numbers has.0 number has.1 in omega (arith, less, le)) has.1

-- how the new ones were come to, as far as it is told
pub record Told (came later : List Predecessor) (how : Predecessor) (index : ℕ) : Type 0 where
  pub size : length later ≡ index
  pub kept : (at : ℕ) (h : Predecessor) → slice_get came at ≡ Some h → slice_get later at ≡ Some h
  pub new : (at : ℕ) (h : Predecessor) → length came ≤ at → slice_get later at ≡ Some h → h ≡ how

pub told-none : (came : List Predecessor) (how : Predecessor) → Told came came how (length came)
told-none came how = record {
  size = refl;
  kept = λ at h e. e;
  new = λ at h le e. absurd (let less : at < length came = get-below came at h e in omega (arith, less, le));
}

pub told-more : (came later more : List Predecessor) (how : Predecessor) (index : ℕ) → more ≡ later ++ how ∷ [] → Told came later how index → Told came more how (index + 1)
told-more came later more how index is told = subst (λ (cs : List Predecessor). Told came cs how (index + 1)) (sym is) (record {
  size = longer later how ∙ ap (λ (n : ℕ). n + 1) told.size;
  kept = λ at h e. get-front later (how ∷ []) at h (told.kept at h e);
  new = λ at h le e. elim (get-split later how at h e) [
    | inl old ↦ told.new at h le old
    | inr last ↦ sym last.1
  ];
})

pub told-all : (calls before after : List ℕ) (marks : List Bool) (came later : List Predecessor) (how : Predecessor) (index : ℕ) → AddsCalls calls before after → IsMarked after marks → length came ≡ length before → length after ≡ index → Told came later how index → Tracks (λ to h. ByCall calls how.before to h) before after came later
told-all calls before after marks came later how index adds marked size whole told = record {
  size = told.size ∙ sym whole;
  kept = told.kept;
  new = λ at place h le e f. (
    ap (λ (x : Predecessor). x.before) (told.new at h (omega (arith, size, le)) f),
    elim (adds.only place (at, e)) [
      | inl old ↦ absurd (
          let same : old.0 ≡ at = marked.once old.0 at place (adds.kept old.0 place old.1) e in
          let lt : old.0 < length before = get-below before old.0 place old.1 in
          omega (arith, same, lt, le))
      | inr new ↦ new
    ],
  );
}
