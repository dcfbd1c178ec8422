-- Flags of what is needed, and moves with new numbers, so far.
use Rattle.std.proofs.Common.{◌≡◌, ◌+◌, ◌<◌, ◌≤◌, ℕ, suc, Bool, true, List, [], ◌∷◌, ◌++◌, length, Option, Some, slice_get, refl, ap, sym, ◌∙◌, subst, inl, inr, arith}
use Rattle.program_points.specs.declared.paths.trail.Move.{Move}
use Rattle.program_points.specs.declared.paths.trail.Move.TheVariants.{Over}
use Rattle.program_points.specs.declared.paths.trail.Lemma.{Lemma}
use Rattle.program_points.specs.declared.paths.trail.Hop.{Hop}
use Rattle.pending_returns.proofs.levels_lemmas.Searching.{before-or-now}
use Rattle.pending_returns.proofs.faults_lemmas.Standing.{get-below}
use Rattle.overlap_trail.specs.finding.Pruning.{Flags, FlagsOver, Adds, FlagHops, renamed, renumber, Renumbers}
use Rattle.overlap_trail.proofs.finding_lemmas.Getting.{get-front, get-last, get-split, same-some, longer, le-or}

pub adds-none : (until : ℕ) (flags : List Bool) → Adds until flags flags
adds-none until flags = record { size = refl; kept = λ at e. e; above = λ at le. refl }

pub adds-through : (until : ℕ) (a b c : List Bool) → Adds until a b → Adds until b c → Adds until a c
adds-through until a b c one two = record {
  size = two.size ∙ one.size;
  kept = λ at e. two.kept at (one.kept at e);
  above = λ at le. two.above at le ∙ one.above at le;
}

pub flags-kept : (until most : ℕ) (old new : List Bool) (moves : List Move) → Adds most old new → Flags old until moves → Flags new until moves
flags-kept until most old new moves adds flags = λ at lemma e lt. adds.kept lemma (flags at lemma e lt)

-- the first of the moves
pub record NeedSoFar (until : ℕ) (moves : List Move) (old new : List Bool) (index : ℕ) : Type 0 where
  pub adds : Adds until old new
  pub flags : (at lemma : ℕ) → at < index → slice_get moves at ≡ Some (Over lemma) → lemma < until → slice_get new lemma ≡ Some true

pub need-none : (until : ℕ) (moves : List Move) (old : List Bool) → NeedSoFar until moves old old 0
need-none until moves old = record { adds = adds-none until old; flags = λ at lemma lt e less. absurd (omega (arith, lt)) }

pub need-more : (until : ℕ) (moves : List Move) (old new later : List Bool) (index : ℕ) (moved : Move) → slice_get moves index ≡ Some moved → Adds until new later → FlagsOver later until moved → NeedSoFar until moves old new index → NeedSoFar until moves old later (index + 1)
need-more until moves old new later index moved here adds flags so_far = record {
  adds = adds-through until old new later so_far.adds adds;
  flags = λ at lemma lt e less. elim (before-or-now at index lt) [
    | inl before ↦ adds.kept lemma (so_far.flags at lemma before e less)
    | inr now ↦
        let both : Some moved ≡ Some (Over lemma) = sym here ∙ ap (λ (n : ℕ). slice_get moves n) (sym now) ∙ e in
        let same : moved ≡ Over lemma = cc in
        flags lemma same less
  ];
}

pub need-all : (until : ℕ) (moves : List Move) (old new : List Bool) (index : ℕ) → length moves ≤ index → NeedSoFar until moves old new index → Flags new until moves
need-all until moves old new index le so_far = λ at lemma e lt. so_far.flags at lemma (let less : at < length moves = get-below moves at (Over lemma) e in omega (arith, less, le)) e lt

-- the first of the hops
pub record HopsNeed (count : ℕ) (hops : List Hop) (old new : List Bool) (index : ℕ) : Type 0 where
  pub adds : Adds count old new
  pub flags : (at : ℕ) (hop : Hop) → at < index → slice_get hops at ≡ Some hop → Flags new count hop.moves

pub hops-none : (count : ℕ) (hops : List Hop) (old : List Bool) → HopsNeed count hops old old 0
hops-none count hops old = record { adds = adds-none count old; flags = λ at hop lt e. absurd (omega (arith, lt)) }

pub hops-need : (count : ℕ) (hops : List Hop) (old new later : List Bool) (index : ℕ) (hop : Hop) → slice_get hops index ≡ Some hop → Adds count new later → Flags later count hop.moves → HopsNeed count hops old new index → HopsNeed count hops old later (index + 1)
hops-need count hops old new later index hop here adds flags so_far = record {
  adds = adds-through count old new later so_far.adds adds;
  flags = λ at other lt e. elim (before-or-now at index lt) [
    | inl before ↦ flags-kept count count new later other.moves adds (so_far.flags at other before e)
    | inr now ↦
        let same : hop ≡ other = same-some hop other (sym here ∙ ap (λ (n : ℕ). slice_get hops n) (sym now) ∙ e) in
        subst (λ (h : Hop). Flags later count h.moves) same flags
  ];
}

pub hops-all : (count : ℕ) (hops : List Hop) (old new : List Bool) (index : ℕ) → length hops ≤ index → HopsNeed count hops old new index → FlagHops new count hops
hops-all count hops old new index le so_far = λ at hop e. so_far.flags at hop (let less : at < length hops = get-below hops at hop e in omega (arith, less, le)) e

-- the lemmas from this number on
pub record LemmasNeed (lemmas : List Lemma) (old new : List Bool) (index : ℕ) : Type 0 where
  pub size : length new ≡ length old
  pub kept : (at : ℕ) → slice_get old at ≡ Some true → slice_get new at ≡ Some true
  pub flags : (at : ℕ) (lemma : Lemma) → index ≤ at → slice_get lemmas at ≡ Some lemma → slice_get new at ≡ Some true → Flags new at lemma.moves

pub lemmas-none : (lemmas : List Lemma) (old : List Bool) → LemmasNeed lemmas old old (length lemmas)
lemmas-none lemmas old = record {
  size = refl;
  kept = λ at e. e;
  flags = λ at lemma le e on. absurd (let less : at < length lemmas = get-below lemmas at lemma e in omega (arith, less, le));
}

pub lemmas-need : (lemmas : List Lemma) (old new later : List Bool) (index : ℕ) (lemma : Lemma) → slice_get lemmas index ≡ Some lemma → Adds index new later → (slice_get new index ≡ Some true → Flags later index lemma.moves) → LemmasNeed lemmas old new (suc index) → LemmasNeed lemmas old later index
lemmas-need lemmas old new later index lemma here adds flags so_far = record {
  size = adds.size ∙ so_far.size;
  kept = λ at e. adds.kept at (so_far.kept at e);
  flags = λ at other le e on.
      let was : slice_get new at ≡ Some true = sym (adds.above at le) ∙ on in
      elim (le-or (suc index) at) [
        | inl behind ↦ flags-kept at index new later other.moves adds (so_far.flags at other behind e was)
        | inr not ↦
            let now : index ≡ at = omega (arith, le, not) in
            let same : lemma ≡ other = same-some lemma other (sym here ∙ ap (λ (n : ℕ). slice_get lemmas n) now ∙ e) in
            subst (λ (n : ℕ). Flags later n other.moves) now (subst (λ (l : Lemma). Flags later index l.moves) same (flags (ap (λ (n : ℕ). slice_get new n) now ∙ was)))
      ];
}

-- the first of the moves with new numbers
pub record RenamedSoFar (ranks : List (Option ℕ)) (moves made : List Move) (index : ℕ) : Type 0 where
  pub size : length made ≡ index
  pub each : (at : ℕ) (moved : Move) → at < index → slice_get moves at ≡ Some moved → slice_get made at ≡ Some (renamed ranks moved)

pub renamed-none : (ranks : List (Option ℕ)) (moves made : List Move) → made ≡ [] → RenamedSoFar ranks moves made 0
renamed-none ranks moves made none = record { size = ap (λ (ms : List Move). length ms) none; each = λ at moved lt e. absurd (omega (arith, lt)) }

pub renamed-more : (ranks : List (Option ℕ)) (moves made more : List Move) (index : ℕ) (moved : Move) → slice_get moves index ≡ Some moved → more ≡ made ++ renamed ranks moved ∷ [] → RenamedSoFar ranks moves made index → RenamedSoFar ranks moves more (index + 1)
renamed-more ranks moves made more index moved here is so_far = subst (λ (ms : List Move). RenamedSoFar ranks moves ms (index + 1)) (sym is) (record {
  size = longer made (renamed ranks moved) ∙ ap (λ (n : ℕ). n + 1) so_far.size;
  each = λ at other lt e. elim (before-or-now at index lt) [
    | inl before ↦ get-front made (renamed ranks moved ∷ []) at (renamed ranks other) (so_far.each at other before e)
    | inr now ↦
        let same : moved ≡ other = same-some moved other (sym here ∙ ap (λ (n : ℕ). slice_get moves n) (sym now) ∙ e) in
        let place : length made ≡ at = so_far.size ∙ sym now in
        subst (λ (n : ℕ). slice_get (made ++ renamed ranks moved ∷ []) n ≡ Some (renamed ranks other)) place (get-last made (renamed ranks moved) ∙ ap (λ (m : Move). Some (renamed ranks m)) same)
  ];
})

all-renamed : (ranks : List (Option ℕ)) (moves made : List Move) → length made ≡ length moves → ((at : ℕ) (moved : Move) → slice_get moves at ≡ Some moved → slice_get made at ≡ Some (renamed ranks moved)) → made ≡ renumber ranks moves
all-renamed ranks [] [] size each = refl
all-renamed ranks [] (m ∷ made) size each = absurd (let k : ⊥ = cc in k)
all-renamed ranks (moved ∷ moves) [] size each = absurd (let k : ⊥ = cc in k)
all-renamed ranks (moved ∷ moves) (m ∷ made) size each =
    let less : length made ≡ length moves = cc in
    let first : m ≡ renamed ranks moved = same-some m (renamed ranks moved) (each 0 moved refl) in
    ap (λ (x : Move). x ∷ made) first ∙ ap (λ (ms : List Move). renamed ranks moved ∷ ms) (all-renamed ranks moves made less (λ at x e. each (suc at) x e))

pub renamed-all : (ranks : List (Option ℕ)) (moves made : List Move) (index : ℕ) → index ≡ length moves → RenamedSoFar ranks moves made index → made ≡ renumber ranks moves
renamed-all ranks moves made index whole so_far =
    all-renamed ranks moves made (so_far.size ∙ whole) (λ at moved e. so_far.each at moved (let less : at < length moves = get-below moves at moved e in omega (arith, less, whole)) e)

-- the first of the hops with new numbers
pub record HopsBySoFar (ranks : List (Option ℕ)) (hops made : List Hop) (index : ℕ) : Type 0 where
  pub size : length made ≡ index
  pub each : (at : ℕ) (hop new : Hop) → slice_get hops at ≡ Some hop → slice_get made at ≡ Some new → (new.range ≡ hop.range) × (new.moves ≡ renumber ranks hop.moves)

pub by-none : (ranks : List (Option ℕ)) (hops made : List Hop) → made ≡ [] → HopsBySoFar ranks hops made 0
by-none ranks hops made none = record {
  size = ap (λ (hs : List Hop). length hs) none;
  each = λ at hop new e f. absurd (let g : slice_get [] at ≡ Some new = ap (λ (hs : List Hop). slice_get hs at) (sym none) ∙ f in let k : ⊥ = cc in k);
}

pub by-more : (ranks : List (Option ℕ)) (hops made more : List Hop) (index : ℕ) (hop : Hop) (moves : List Move) → slice_get hops index ≡ Some hop → moves ≡ renumber ranks hop.moves → more ≡ made ++ record { range = hop.range; moves = moves } ∷ [] → HopsBySoFar ranks hops made index → HopsBySoFar ranks hops more (index + 1)
by-more ranks hops made more index hop moves here same is so_far =
    let one : Hop = record { range = hop.range; moves = moves } in
    subst (λ (hs : List Hop). HopsBySoFar ranks hops hs (index + 1)) (sym is) (record {
      size = longer made one ∙ ap (λ (n : ℕ). n + 1) so_far.size;
      each = λ at other new e f. elim (get-split made one at new f) [
        | inl old ↦ so_far.each at other new e old
        | inr last ↦
            let now : index ≡ at = sym so_far.size ∙ sym last.0 in
            let equal : hop ≡ other = same-some hop other (sym here ∙ ap (λ (n : ℕ). slice_get hops n) now ∙ e) in (
              sym (ap (λ (h : Hop). h.range) last.1) ∙ ap (λ (h : Hop). h.range) equal,
              sym (ap (λ (h : Hop). h.moves) last.1) ∙ same ∙ ap (λ (h : Hop). renumber ranks h.moves) equal,
            )
      ];
    })

pub by-all : (ranks : List (Option ℕ)) (hops made : List Hop) (index : ℕ) → index ≡ length hops → HopsBySoFar ranks hops made index → Renumbers ranks hops made
by-all ranks hops made index whole so_far = record { size = so_far.size ∙ whole; each = so_far.each }
