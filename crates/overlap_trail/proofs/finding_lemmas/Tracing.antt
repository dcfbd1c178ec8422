-- How places were come to, as their list grows.
use Rattle.std.proofs.Common.{◌≡◌, ◌+◌, ◌<◌, ◌≤◌, ℕ, Bool, List, [], ◌∷◌, ◌++◌, length, Option, Some, slice_get, ap, sym, ◌∙◌, subst, inl, inr, arith}
use Rattle.pending_returns.proofs.faults_lemmas.Standing.{get-below, get-some}
use Rattle.pending_returns.specs.levels.Reach.{IsMarked, Adds}
use Rattle.program_points.specs.declared.paths.trail.Move.{Move}
use Rattle.overlap_trail.specs.declared.finding.search.Predecessor.{Predecessor}
use Rattle.overlap_trail.specs.finding.Search.{Tracks, Traces}
use Rattle.overlap_trail.proofs.finding_lemmas.Getting.{get-front, get-split, same-some, longer, le-or, kept-length}

module _ (before after : List ℕ) (marks : List Bool) (place : ℕ) (adds : Adds before after place) (marked : IsMarked after marks) where
  -- what is new is the place
  pub fresh : (at other : ℕ) → length before ≤ at → slice_get after at ≡ Some other → other ≡ place
  fresh at other le e = elim (adds.only other (at, e)) [
    | inl old ↦ absurd (
        let same : old.0 ≡ at = marked.once old.0 at other (adds.kept old.0 other old.1) e in
        let lt : old.0 < length before = get-below before old.0 other old.1 in
        omega (arith, same, lt, le))
    | inr new ↦ new
  ]

  one-more : length after ≤ length before + 1
  one-more = elim (le-or (length after) (length before + 1)) [
    | inl le ↦ le
    | inr more ↦ absurd (
        let first = get-some after (length before) (omega (arith, more)) in
        let second = get-some after (length before + 1) (omega (arith, more)) in
        let one : first.0 ≡ place = fresh (length before) first.0 (omega arith) first.1 in
        let two : second.0 ≡ place = fresh (length before + 1) second.0 (omega arith) second.1 in
        let same : length before ≡ length before + 1 = marked.once (length before) (length before + 1) place (first.1 ∙ ap (λ (n : ℕ). Some n) one) (second.1 ∙ ap (λ (n : ℕ). Some n) two) in
        omega (arith, same))
  ]

  pub tracks-push : (came : List Predecessor) (how : Predecessor) → length came ≡ length before → length came < length after → Tracks (λ to h. (to ≡ place) × (h ≡ how)) before after came (came ++ how ∷ [])
  tracks-push came how size lt = record {
    size = (let up = longer came how in let most = one-more in omega (arith, up, most, size, lt));
    kept = λ at h e. get-front came (how ∷ []) at h e;
    new = λ at other h le e f. (
      fresh at other le e,
      elim (get-split came how at h f) [
        | inl old ↦ absurd (let less : at < length came = get-below came at h old in omega (arith, less, size, le))
        | inr new ↦ sym new.1
      ],
    );
  }

  pub tracks-stay : (came : List Predecessor) (how : Predecessor) → length came ≡ length before → length after ≤ length came → Tracks (λ to h. (to ≡ place) × (h ≡ how)) before after came came
  tracks-stay came how size le = record {
    size = (let up : length before ≤ length after = kept-length before after adds.kept in omega (arith, up, size, le));
    kept = λ at h e. e;
    new = λ at other h behind e f. absurd (let less : at < length came = get-below came at h f in omega (arith, less, size, behind));
  }

module _ (New : ℕ → Predecessor → Type 0) where
  pub tracks-none : (places : List ℕ) (came : List Predecessor) → length came ≡ length places → Tracks New places places came came
  tracks-none places came size = record {
    size = size;
    kept = λ at h e. e;
    new = λ at place h le e f. absurd (let less : at < length places = get-below places at place e in omega (arith, less, le));
  }

  pub tracks-through : (first second third : List ℕ) (came middle later : List Predecessor) → Tracks New first second came middle → Tracks New second third middle later → ((at place : ℕ) → slice_get second at ≡ Some place → slice_get third at ≡ Some place) → Tracks New first third came later
  tracks-through first second third came middle later one two kept = record {
    size = two.size;
    kept = λ at h e. two.kept at h (one.kept at h e);
    new = λ at place h le e f. elim (le-or (length second) at) [
      | inl behind ↦ two.new at place h behind e f
      | inr inside ↦
          let old = get-some second at (omega (arith, inside)) in
          let how = get-some middle at (let s = one.size in omega (arith, inside, s)) in
          let same : old.0 ≡ place = same-some old.0 place (sym (kept at old.0 old.1) ∙ e) in
          let equal : how.0 ≡ h = same-some how.0 h (sym (two.kept at how.0 how.1) ∙ f) in
          one.new at place h le (old.1 ∙ ap (λ (n : ℕ). Some n) same) (how.1 ∙ ap (λ (c : Predecessor). Some c) equal)
    ];
  }

pub tracks-as : (New Other : ℕ → Predecessor → Type 0) → ((place : ℕ) (how : Predecessor) → New place how → Other place how) → (before after : List ℕ) (came later : List Predecessor) → Tracks New before after came later → Tracks Other before after came later
tracks-as New Other f before after came later tracks = record {
  size = tracks.size;
  kept = tracks.kept;
  new = λ at place how le e h. f place how (tracks.new at place how le e h);
}

module _ (First : ℕ → Type 0) (Steps : ℕ → Option Move → ℕ → Type 0) where
  pub traces-none : (places : List ℕ) (came : List Predecessor) → places ≡ [] → came ≡ [] → Traces First Steps places came
  traces-none places came none empty = record {
    size = ap (λ (cs : List Predecessor). length cs) empty ∙ sym (ap (λ (ps : List ℕ). length ps) none);
    first = λ place e. absurd (let f : slice_get [] 0 ≡ Some place = ap (λ (ps : List ℕ). slice_get ps 0) (sym none) ∙ e in let k : ⊥ = cc in k);
    later = λ at place how lt e f. absurd (let g : slice_get [] at ≡ Some place = ap (λ (ps : List ℕ). slice_get ps at) (sym none) ∙ e in let k : ⊥ = cc in k);
  }

  pub traces-first : (before after : List ℕ) (marks : List Bool) (came later : List Predecessor) (start : ℕ) (how : Predecessor) → First start → before ≡ [] → Adds before after start → IsMarked after marks → Tracks (λ to h. (to ≡ start) × (h ≡ how)) before after came later → Traces First Steps after later
  traces-first before after marks came later start how first none adds marked tracks =
      let empty : length before ≡ 0 = ap (λ (ps : List ℕ). length ps) none in
      record {
        size = tracks.size;
        first = λ place e. subst First (sym (fresh before after marks start adds marked 0 place (omega (arith, empty)) e)) first;
        later = λ at place h lt e f. absurd (
            let there = get-some after 0 (let less : at < length after = get-below after at place e in omega (arith, less)) in
            let one : there.0 ≡ start = fresh before after marks start adds marked 0 there.0 (omega (arith, empty)) there.1 in
            let two : place ≡ start = fresh before after marks start adds marked at place (omega (arith, empty)) e in
            let same : 0 ≡ at = marked.once 0 at start (there.1 ∙ ap (λ (n : ℕ). Some n) one) (e ∙ ap (λ (n : ℕ). Some n) two) in
            omega (arith, same, lt));
      }

  pub traces-more : (New : ℕ → Predecessor → Type 0) (places later : List ℕ) (came more : List Predecessor) (at from : ℕ) → Traces First Steps places came → slice_get places at ≡ Some from → ((to : ℕ) (how : Predecessor) → New to how → (how.before ≡ at) × Steps from how.moved to) →
      ((at place : ℕ) → slice_get places at ≡ Some place → slice_get later at ≡ Some place) → Tracks New places later came more → Traces First Steps later more
  traces-more New places later came more at from traces here steps kept tracks =
      let inside : at < length places = get-below places at from here in
      record {
        size = tracks.size;
        first = λ place e.
            let old = get-some places 0 (omega (arith, inside)) in
            let same : old.0 ≡ place = same-some old.0 place (sym (kept 0 old.0 old.1) ∙ e) in
            traces.first place (old.1 ∙ ap (λ (n : ℕ). Some n) same);
        later = λ i place how lt e f. elim (le-or (length places) i) [
          | inl behind ↦
              let new = steps place how (tracks.new i place how behind e f) in (
                from,
                (let same : how.before ≡ at = new.0 in omega (arith, same, inside, behind)),
                ap (λ (n : ℕ). slice_get later n) new.0 ∙ kept at from here,
                new.1,
              )
          | inr less ↦
              let old = get-some places i (omega (arith, less)) in
              let was = get-some came i (let s = traces.size in omega (arith, less, s)) in
              let same : old.0 ≡ place = same-some old.0 place (sym (kept i old.0 old.1) ∙ e) in
              let equal : was.0 ≡ how = same-some was.0 how (sym (tracks.kept i was.0 was.1) ∙ f) in
              let back = traces.later i place how lt (old.1 ∙ ap (λ (n : ℕ). Some n) same) (was.1 ∙ ap (λ (c : Predecessor). Some c) equal) in
              (back.0, back.1, kept how.before back.0 back.2, back.3)
        ];
      }

  pub traces-back : (places : List ℕ) (came : List Predecessor) → Traces First Steps places came → (at : ℕ) (how : Predecessor) → 0 < at → slice_get came at ≡ Some how → how.before < at
  traces-back places came traces at how lt e =
      let place = get-some places at (let less : at < length came = get-below came at how e in let s = traces.size in omega (arith, less, s)) in
      (traces.later at place.0 how lt place.1 e).1
