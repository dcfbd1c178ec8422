-- A trail with fewer lemmas is accepted too.
use Rattle.std.proofs.Common.{◌≡◌, ◌+◌, ◌<◌, ◌≤◌, ℕ, zero, suc, Bool, true, false, if◌then◌else◌, List, [], ◌∷◌, ◌++◌, take, length, Option, Some, None, slice_get, refl, ap, sym, ◌∙◌, subst, inl, inr, arith, append_assoc, append-nil}
use Rattle.std.proofs.lemmas.List.{map-append, length-map}
use Rattle.cob_tree.specs.declared.program.Range.{Range}
use Rattle.control_flow_theory.specs.language.Language.{Chooser, Program}
use Rattle.cob_tree.specs.declared.ending.FlowFault.{FlowFault}
use Rattle.program_points.specs.declared.paths.trail.Move.{Move}
use Rattle.program_points.specs.declared.paths.trail.Move.TheVariants.{Arm, Over, Into}
use Rattle.program_points.specs.declared.paths.trail.Lemma.{Lemma}
use Rattle.program_points.specs.declared.paths.trail.Hop.{Hop}
use Rattle.program_points.specs.declared.paths.trail.Trail.{Trail}
use Rattle.program_points.specs.paths.Step.{Point, start, Next, Ways, Calls, Stops, Ends, next, only, is_paragraph}
use Rattle.program_points.specs.paths.Flow.{part, is_exit}
use Rattle.program_points.specs.paths.Accepted.{Walk, walk, walk_to, arm_at, by_arm, by_choice, is_range, over_call, past_end, onward_by, Leads, here, further, Aim, Return, Enter, Fault, IsEntered, Meets, LeadsTo, LemmasHold, with_exit, HopsLead, BeginsInMain, lemma_ranges, hop_ranges, IsIn, NoneTwice}
use Rattle.pending_returns.proofs.levels_lemmas.Searching.{before-or-now}
use Rattle.pending_returns.proofs.faults_lemmas.Standing.{get-below}
use Rattle.overlap_trail.specs.finding.Finding.{IsFound}
use Rattle.overlap_trail.specs.finding.Pruning.{FlagHops, FlagLemmas, over_by, renumber, KeepsOne, Keeps, Renumbers}
use Rattle.overlap_trail.proofs.finding_lemmas.Getting.{get-front, get-last, get-split, same-some, longer}
use Rattle.overlap_trail.proofs.finding_lemmas.Standing.{at-in}
use Rattle.overlap_trail.proofs.finding_lemmas.Knowing.{in-append, once-append, hold-append}

same-walk : (a b : Walk) → Some a ≡ Some b → a ≡ b
same-walk a b e = (let k : a ≡ b = cc in k)

module _ (never_first : Chooser → Bool) (program : Program) (old new : List Range) (ranks : List (Option ℕ)) (range : Range) where
  -- the lemmas over which the moves step have new numbers
  abbrev pub Fits : List Move → Type 0
  Fits moves = (at lemma : ℕ) (r : Range) → slice_get moves at ≡ Some (Over lemma) → slice_get old lemma ≡ Some r → (rank : ℕ) × (slice_get ranks lemma ≡ Some (Some rank)) × (slice_get new rank ≡ Some r)

  fits-behind : (moved : Move) (moves : List Move) → Fits (moved ∷ moves) → Fits moves
  fits-behind moved moves fits = λ at lemma r e f. fits (suc at) lemma r e f

  abbrev Goes : Next → List Move → Walk → Type 0
  Goes now moves via = (onward_by never_first program new range now (renumber ranks moves) ≡ Some (walk via.point (renumber ranks via.moves))) × Fits via.moves

  came : (now : Next) (point : Point) (moves from : List Move) (via : Walk) → Some (walk point moves) ≡ Some via → onward_by never_first program new range now (renumber ranks from) ≡ Some (walk point (renumber ranks moves)) → Fits moves → Goes now from via
  came now point moves from via e f fits =
      let same : walk point moves ≡ via = same-walk (walk point moves) via e in
      subst (λ (w : Walk). Goes now from w) same (f, fits)

  by-arm-goes : (ways : List (Option Point)) (moves : List Move) (via : Walk) → only ways ≡ None → Fits moves → by_arm ways moves ≡ Some via → Goes (Ways ways) moves via
  by-arm-goes ways [] via o fits e = absurd (let k : ⊥ = cc in k)
  by-arm-goes ways (Arm number ∷ moves) via o fits e =
      (elim (arm_at ways number) as (λ w. arm_at ways number ≡ w → walk_to w moves ≡ Some via → Goes (Ways ways) (Arm number ∷ moves) via) [
        | None ↦ λ w k. absurd (let l : ⊥ = cc in l)
        | Some to ↦ λ w k. came (Ways ways) to moves (Arm number ∷ moves) via k
            (ap (λ c. by_choice c ways (Arm number ∷ renumber ranks moves)) o ∙ ap (λ c. walk_to c (renumber ranks moves)) w)
            (fits-behind (Arm number) moves fits)
      ]) refl e
  by-arm-goes ways (Over lemma ∷ moves) via o fits e = absurd (let k : ⊥ = cc in k)
  by-arm-goes ways (Into ∷ moves) via o fits e = absurd (let k : ⊥ = cc in k)

  over-goes : (entry exit : ℕ) (after : Point) (moves : List Move) (via : Walk) → Fits moves → over_call old entry exit after moves ≡ Some via → Goes (Calls entry exit after) moves via
  over-goes entry exit after [] via fits e = absurd (let k : ⊥ = cc in k)
  over-goes entry exit after (Arm number ∷ moves) via fits e = absurd (let k : ⊥ = cc in k)
  over-goes entry exit after (Over lemma ∷ moves) via fits e =
      (elim (slice_get old lemma) as (λ o. slice_get old lemma ≡ o → (if is_range o entry exit then Some (walk after moves) else None) ≡ Some via → Goes (Calls entry exit after) (Over lemma ∷ moves) via) [
        | None ↦ λ o k. absurd (let l : ⊥ = cc in l)
        | Some r ↦ λ o k.
            (elim (is_range (Some r) entry exit) as (λ b. is_range (Some r) entry exit ≡ b → (if b then Some (walk after moves) else None) ≡ Some via → Goes (Calls entry exit after) (Over lemma ∷ moves) via) [
              | true ↦ λ is l.
                  let there = fits 0 lemma r refl o in
                  came (Calls entry exit after) after moves (Over lemma ∷ moves) via l
                  (ap (λ (x : Option (Option ℕ)). over_call new entry exit after (over_by x lemma ∷ renumber ranks moves)) there.1
                  ∙ ap (λ (x : Option Range). if is_range x entry exit then Some (walk after (renumber ranks moves)) else None) there.2
                  ∙ ap (λ b. if b then Some (walk after (renumber ranks moves)) else None) is)
                  (fits-behind (Over lemma) moves fits)
              | false ↦ λ is l. absurd (let m : ⊥ = cc in m)
            ]) refl k
      ]) refl e
  over-goes entry exit after (Into ∷ moves) via fits e = absurd (let k : ⊥ = cc in k)

  past-goes : (paragraph : ℕ) (moves : List Move) (via : Walk) → Fits moves → past_end program range.exit paragraph moves ≡ Some via → Goes (Ends paragraph) moves via
  past-goes paragraph moves via fits e =
      (elim (is_exit range.exit paragraph) as (λ b. is_exit range.exit paragraph ≡ b → (if b then None else (if is_paragraph program (suc paragraph) then Some (walk (start program (suc paragraph)) moves) else None)) ≡ Some via → Goes (Ends paragraph) moves via) [
        | true ↦ λ out k. absurd (let l : ⊥ = cc in l)
        | false ↦ λ out k.
            (elim (is_paragraph program (suc paragraph)) as (λ b. is_paragraph program (suc paragraph) ≡ b → (if b then Some (walk (start program (suc paragraph)) moves) else None) ≡ Some via → Goes (Ends paragraph) moves via) [
              | true ↦ λ is l. came (Ends paragraph) (start program (suc paragraph)) moves moves via l
                  (ap (λ b. if b then None else (if is_paragraph program (suc paragraph) then Some (walk (start program (suc paragraph)) (renumber ranks moves)) else None)) out
                  ∙ ap (λ b. if b then Some (walk (start program (suc paragraph)) (renumber ranks moves)) else None) is)
                  fits
              | false ↦ λ is l. absurd (let m : ⊥ = cc in m)
            ]) refl k
      ]) refl e

  step-goes : (now : Next) (moves : List Move) (via : Walk) → Fits moves → onward_by never_first program old range now moves ≡ Some via → Goes now moves via
  step-goes (Ways ways) moves via fits e =
      (elim (only ways) as (λ o. only ways ≡ o → by_choice o ways moves ≡ Some via → Goes (Ways ways) moves via) [
        | None ↦ λ o k. by-arm-goes ways moves via o fits k
        | Some to ↦ λ o k. came (Ways ways) to moves moves via k (ap (λ c. by_choice c ways (renumber ranks moves)) o) fits
      ]) refl e
  step-goes (Calls entry exit after) moves via fits e = over-goes entry exit after moves via fits e
  step-goes Stops moves via fits e = absurd (let k : ⊥ = cc in k)
  step-goes (Ends paragraph) moves via fits e = past-goes paragraph moves via fits e

  leads-renamed : (from to : Walk) → Leads never_first program old range from to → Fits from.moves → Leads never_first program new range (walk from.point (renumber ranks from.moves)) (walk to.point (renumber ranks to.moves)) × Fits to.moves
  leads-renamed from to (here there) fits = (here (walk there.point (renumber ranks there.moves)), fits)
  leads-renamed from to (further from1 via to1 e path) fits =
      let one = step-goes (next never_first program from1.point) from1.moves via fits e in
      let rest = leads-renamed via to1 path one.1 in
      (further (walk from1.point (renumber ranks from1.moves)) (walk via.point (renumber ranks via.moves)) (walk to1.point (renumber ranks to1.moves)) one.0 rest.0, rest.1)

  none-stay : (moves : List Move) → moves ≡ [] → renumber ranks moves ≡ []
  none-stay moves e = ap (λ (ms : List Move). renumber ranks ms) e

  entered-renamed : (called : Range) (moves : List Move) (target : Range) → IsEntered called moves target → IsEntered called (renumber ranks moves) target
  entered-renamed called [] target h = absurd h
  entered-renamed called (Arm number ∷ moves) target h = absurd h
  entered-renamed called (Over number ∷ moves) target h = absurd h
  entered-renamed called (Into ∷ moves) target h = (none-stay moves h.0, h.1)

  meets-renamed : (aim : Aim) (now : Next) (moves : List Move) → Meets aim range now moves → Meets aim range now (renumber ranks moves)
  meets-renamed Return (Ends paragraph) moves h = (none-stay moves h.0, h.1)
  meets-renamed Return (Ways ways) moves h = absurd h
  meets-renamed Return (Calls entry exit after) moves h = absurd h
  meets-renamed Return Stops moves h = absurd h
  meets-renamed (Enter called) (Calls entry exit after) moves h = entered-renamed called moves (part entry exit) h
  meets-renamed (Enter called) (Ways ways) moves h = absurd h
  meets-renamed (Enter called) Stops moves h = absurd h
  meets-renamed (Enter called) (Ends paragraph) moves h = absurd h
  meets-renamed (Fault fault ends) now moves h = (none-stay moves h.0, h.1)

  pub to-renamed : (aim : Aim) (moves : List Move) → LeadsTo never_first program old range aim moves → Fits moves → LeadsTo never_first program new range aim (renumber ranks moves)
  to-renamed aim moves leads fits =
      let path = leads-renamed (walk (start program range.entry) moves) leads.end leads.path fits in
      record {
        is_there = leads.is_there;
        end = walk leads.end.point (renumber ranks leads.end.moves);
        path = path.0;
        meets = meets-renamed aim (next never_first program leads.end.point) leads.end.moves leads.meets;
      }

-- lists

get-take : (xs : List Range) (count at : ℕ) (x : Range) → slice_get (take count xs) at ≡ Some x → (at < count) × (slice_get xs at ≡ Some x)
get-take xs zero at x e = absurd (let k : ⊥ = cc in k)
get-take [] (suc count) at x e = absurd (let k : ⊥ = cc in k)
get-take (y ∷ xs) (suc count) zero x e = (omega arith, e)
get-take (y ∷ xs) (suc count) (suc at) x e = (let found = get-take xs count at x e in (omega (arith, found.0), found.1))

of-lemma : (lemmas : List Lemma) (at : ℕ) (lemma : Lemma) → slice_get lemmas at ≡ Some lemma → slice_get (lemma_ranges lemmas) at ≡ Some lemma.range
of-lemma [] at lemma e = absurd (let k : ⊥ = cc in k)
of-lemma (other ∷ lemmas) zero lemma e = (let k : other ≡ lemma = cc in ap (λ (l : Lemma). Some l.range) k)
of-lemma (other ∷ lemmas) (suc at) lemma e = of-lemma lemmas at lemma e

once-apart : (ranges : List Range) (a b : ℕ) (range : Range) → a < b → slice_get ranges a ≡ Some range → slice_get ranges b ≡ Some range → NoneTwice ranges → ⊥
once-apart [] a b range lt e f once = (let k : ⊥ = cc in k)
once-apart (x ∷ ranges) a zero range lt e f once = omega (arith, lt)
once-apart (x ∷ ranges) zero (suc b) range lt e f once =
    let same : x ≡ range = same-some x range e in
    once.0 (subst (λ (r : Range). IsIn r ranges) (sym same) (at-in range ranges b f))
once-apart (x ∷ ranges) (suc a) (suc b) range lt e f once = once-apart ranges a b range (omega (arith, lt)) e f once.1

hold-at : (never_first : Chooser → Bool) (program : Program) (earlier : List Range) (lemmas : List Lemma) → LemmasHold never_first program earlier lemmas → (at : ℕ) (lemma : Lemma) → slice_get lemmas at ≡ Some lemma →
    LeadsTo never_first program (earlier ++ take at (lemma_ranges lemmas)) lemma.range Return lemma.moves
hold-at never_first program earlier [] hold at lemma e = absurd (let k : ⊥ = cc in k)
hold-at never_first program earlier (other ∷ lemmas) hold zero lemma e =
    let same : other ≡ lemma = cc in
    subst (λ (ranges : List Range). LeadsTo never_first program ranges lemma.range Return lemma.moves) (sym (append-nil earlier))
    (subst (λ (l : Lemma). LeadsTo never_first program earlier l.range Return l.moves) same hold.0)
hold-at never_first program earlier (other ∷ lemmas) hold (suc at) lemma e =
    subst (λ (ranges : List Range). LeadsTo never_first program ranges lemma.range Return lemma.moves) (append_assoc earlier (other.range ∷ []) (take at (lemma_ranges lemmas)))
    (hold-at never_first program (earlier ++ other.range ∷ []) lemmas hold.1 at lemma e)

-- the first of the lemmas, as far as they are kept
pub record KeepsSoFar (lemmas : List Lemma) (needed : List Bool) (kept : List Lemma) (ranks : List (Option ℕ)) (index : ℕ) : Type 0 where
  pub size : length ranks ≡ index
  pub ranked : (at rank : ℕ) → slice_get ranks at ≡ Some (Some rank) → (range : Range) × (slice_get (lemma_ranges lemmas) at ≡ Some range) × (slice_get (lemma_ranges kept) rank ≡ Some range)
  pub all : (at : ℕ) → at < index → slice_get needed at ≡ Some true → (rank : ℕ) × (slice_get ranks at ≡ Some (Some rank))
  pub from : (range : Range) → IsIn range (lemma_ranges kept) → (at : ℕ) × (at < index) × (slice_get (lemma_ranges lemmas) at ≡ Some range)
  pub once : NoneTwice (lemma_ranges lemmas) → NoneTwice (lemma_ranges kept)
  pub hold : (never_first : Chooser → Bool) (program : Program) → LemmasHold never_first program [] lemmas → LemmasHold never_first program [] kept

pub keeps-none : (lemmas : List Lemma) (needed : List Bool) (kept : List Lemma) (ranks : List (Option ℕ)) → kept ≡ [] → ranks ≡ [] → KeepsSoFar lemmas needed kept ranks 0
keeps-none lemmas needed kept ranks none empty =
    subst (λ (ls : List Lemma). KeepsSoFar lemmas needed ls ranks 0) (sym none) (subst (λ (rs : List (Option ℕ)). KeepsSoFar lemmas needed [] rs 0) (sym empty) (record {
      size = refl;
      ranked = λ at rank e. absurd (let k : ⊥ = cc in k);
      all = λ at lt e. absurd (omega (arith, lt));
      from = λ range h. absurd h;
      once = λ h. tt;
      hold = λ never_first program h. tt;
    }))

module _ (lemmas : List Lemma) (needed : List Bool) (kept : List Lemma) (ranks : List (Option ℕ)) (index : ℕ) (so_far : KeepsSoFar lemmas needed kept ranks index) where
  pub keeps-skip : (later : List (Option ℕ)) → slice_get needed index ≡ Some false → later ≡ ranks ++ None ∷ [] → KeepsSoFar lemmas needed kept later (index + 1)
  keeps-skip later off is = subst (λ (rs : List (Option ℕ)). KeepsSoFar lemmas needed kept rs (index + 1)) (sym is) (record {
    size = longer ranks None ∙ ap (λ (n : ℕ). n + 1) so_far.size;
    ranked = λ at rank e. elim (get-split ranks None at (Some rank) e) [
      | inl old ↦ so_far.ranked at rank old
      | inr last ↦ absurd (let both : None ≡ Some rank = last.1 in let k : ⊥ = cc in k)
    ];
    all = λ at lt on. elim (before-or-now at index lt) [
      | inl less ↦ (let was = so_far.all at less on in (was.0, get-front ranks (None ∷ []) at (Some was.0) was.1))
      | inr now ↦ absurd (let both : Some true ≡ Some false = sym on ∙ ap (λ (n : ℕ). slice_get needed n) now ∙ off in let k : ⊥ = cc in k)
    ];
    from = λ range h. (let was = so_far.from range h in (was.0, (let lt = was.1 in omega (arith, lt)), was.2));
    once = so_far.once;
    hold = so_far.hold;
  })

  module _ (lemma : Lemma) (here : slice_get lemmas index ≡ Some lemma) (on : slice_get needed index ≡ Some true) (flags : FlagLemmas needed lemmas) where
    -- those over which the lemma steps are kept
    fits : (never_first : Chooser → Bool) (program : Program) → Fits never_first program (take index (lemma_ranges lemmas)) (lemma_ranges kept) ranks lemma.range lemma.moves
    fits never_first program = λ at number r e f.
        let there = get-take (lemma_ranges lemmas) index number r f in
        let rank = so_far.all number there.0 (flags index lemma here on at number e there.0) in
        let was = so_far.ranked number rank.0 rank.1 in
        let same : was.0 ≡ r = same-some was.0 r (sym was.1 ∙ there.1) in
        (rank.0, rank.1, was.2 ∙ ap (λ (x : Range). Some x) same)

    pub keeps-more : (more : List Lemma) (later : List (Option ℕ)) → more ≡ kept ++ record { range = lemma.range; moves = renumber ranks lemma.moves } ∷ [] → later ≡ ranks ++ Some (length kept) ∷ [] → KeepsSoFar lemmas needed more later (index + 1)
    keeps-more more later is_more is_later =
        let new : Lemma = record { range = lemma.range; moves = renumber ranks lemma.moves } in
        let all = lemma_ranges kept in
        let grown : lemma_ranges more ≡ all ++ lemma.range ∷ [] = ap (λ (ls : List Lemma). lemma_ranges ls) is_more ∙ map-append (λ (l : Lemma). l.range) kept (new ∷ []) in
        let count : length all ≡ length kept = length-map kept (λ (l : Lemma). l.range) in
        let last_is : slice_get (all ++ lemma.range ∷ []) (length kept) ≡ Some lemma.range = subst (λ (n : ℕ). slice_get (all ++ lemma.range ∷ []) n ≡ Some lemma.range) count (get-last all lemma.range) in
        let in_ranges = of-lemma lemmas index lemma here in
        subst (λ (rs : List (Option ℕ)). KeepsSoFar lemmas needed more rs (index + 1)) (sym is_later) (record {
          size = longer ranks (Some (length kept)) ∙ ap (λ (n : ℕ). n + 1) so_far.size;
          ranked = λ at rank e. elim (get-split ranks (Some (length kept)) at (Some rank) e) [
            | inl old ↦
                let was = so_far.ranked at rank old in
                (was.0, was.1, ap (λ (rs : List Range). slice_get rs rank) grown ∙ get-front all (lemma.range ∷ []) rank was.0 was.2)
            | inr last ↦
                let same : length kept ≡ rank = (let k = last.1 in cc) in
                let now : at ≡ index = last.0 ∙ so_far.size in (
                  lemma.range,
                  ap (λ (n : ℕ). slice_get (lemma_ranges lemmas) n) now ∙ in_ranges,
                  ap (λ (rs : List Range). slice_get rs rank) grown ∙ ap (λ (n : ℕ). slice_get (all ++ lemma.range ∷ []) n) (sym same) ∙ last_is,
                )
          ];
          all = λ at lt flag. elim (before-or-now at index lt) [
            | inl less ↦ (let was = so_far.all at less flag in (was.0, get-front ranks (Some (length kept) ∷ []) at (Some was.0) was.1))
            | inr now ↦
                let place : length ranks ≡ at = so_far.size ∙ sym now in
                (length kept, subst (λ (n : ℕ). slice_get (ranks ++ Some (length kept) ∷ []) n ≡ Some (Some (length kept))) place (get-last ranks (Some (length kept))))
          ];
          from = λ range h. elim (in-append range all lemma.range (subst (λ (rs : List Range). IsIn range rs) grown h)) [
            | inl old ↦ (let was = so_far.from range old in (was.0, (let lt = was.1 in omega (arith, lt)), was.2))
            | inr same ↦ (index, omega arith, in_ranges ∙ ap (λ (r : Range). Some r) same)
          ];
          once = λ h. subst NoneTwice (sym grown) (once-append all lemma.range (so_far.once h) (λ k.
              let was = so_far.from lemma.range k in
              once-apart (lemma_ranges lemmas) was.0 index lemma.range was.1 was.2 in_ranges h));
          hold = λ never_first program h.
              subst (λ (ls : List Lemma). LemmasHold never_first program [] ls) (sym is_more)
              (hold-append never_first program [] kept new (so_far.hold never_first program h)
              (to-renamed never_first program (take index (lemma_ranges lemmas)) all ranks lemma.range Return lemma.moves (hold-at never_first program [] lemmas h index lemma here) (fits never_first program)));
        })

  pub keeps-all : length lemmas ≤ index → Keeps lemmas needed kept ranks
  keeps-all le = record {
    ranked = so_far.ranked;
    all = λ at on lt. so_far.all at (omega (arith, lt, le)) on;
    once = so_far.once;
    hold = so_far.hold;
  }

module _ (never_first : Chooser → Bool) (program : Program) (old new : List Range) (ranks : List (Option ℕ)) where
  abbrev Renamed : List Hop → List Hop → Type 0
  Renamed hops made = (at : ℕ) (hop other : Hop) → slice_get hops at ≡ Some hop → slice_get made at ≡ Some other → (other.range ≡ hop.range) × (other.moves ≡ renumber ranks hop.moves)

  abbrev AllFit : List Hop → Type 0
  AllFit hops = (at : ℕ) (hop : Hop) → slice_get hops at ≡ Some hop → Fits never_first program old new ranks hop.range hop.moves

  one-renamed : (aim : Aim) (hop other : Hop) → LeadsTo never_first program old hop.range aim hop.moves → Fits never_first program old new ranks hop.range hop.moves → other.range ≡ hop.range → other.moves ≡ renumber ranks hop.moves → LeadsTo never_first program new other.range aim other.moves
  one-renamed aim hop other leads fits same moves =
      subst (λ (r : Range). LeadsTo never_first program new r aim other.moves) (sym same)
      (subst (λ (ms : List Move). LeadsTo never_first program new hop.range aim ms) (sym moves) (to-renamed never_first program old new ranks hop.range aim hop.moves leads fits))

  hops-renamed : (fault : FlowFault) (ends : List ℕ) (hop other : Hop) (hops made : List Hop) → length made ≡ length hops → HopsLead never_first program old fault ends hop hops → AllFit (hop ∷ hops) → Renamed (hop ∷ hops) (other ∷ made) → HopsLead never_first program new fault ends other made
  hops-renamed fault ends hop other [] [] size lead fit each =
      let e = each 0 hop other refl refl in
      one-renamed (Fault fault ends) hop other lead (fit 0 hop refl) e.0 e.1
  hops-renamed fault ends hop other [] (another ∷ made) size lead fit each = absurd (let k : ⊥ = cc in k)
  hops-renamed fault ends hop other (later ∷ hops) [] size lead fit each = absurd (let k : ⊥ = cc in k)
  hops-renamed fault ends hop other (later ∷ hops) (another ∷ made) size lead fit each =
      let e = each 0 hop other refl refl in
      let f = each 1 later another refl refl in
      let less : length made ≡ length hops = cc in (
        subst (λ (r : Range). LeadsTo never_first program new other.range (Enter r) other.moves) (sym f.0) (one-renamed (Enter later.range) hop other lead.0 (fit 0 hop refl) e.0 e.1),
        hops-renamed fault (with_exit another.range.exit ends) later another hops made less
            (subst (λ (r : Range). HopsLead never_first program old fault (with_exit r.exit ends) later hops) (sym f.0) lead.1)
            (λ at h g. fit (suc at) h g) (λ at h o g k. each (suc at) h o g k),
      )

  begins-renamed : (fault : FlowFault) (hops made : List Hop) → length made ≡ length hops → BeginsInMain never_first program old fault hops → AllFit hops → Renamed hops made → BeginsInMain never_first program new fault made
  begins-renamed fault [] made size begins fit each = absurd begins
  begins-renamed fault (hop ∷ hops) [] size begins fit each = absurd (let k : ⊥ = cc in k)
  begins-renamed fault (hop ∷ hops) (other ∷ made) size begins fit each =
      let e = each 0 hop other refl refl in
      let less : length made ≡ length hops = cc in
      (e.0 ∙ begins.0, hops-renamed fault [] hop other hops made less begins.1 fit each)

same-ranges : (hops made : List Hop) → length made ≡ length hops → ((at : ℕ) (hop other : Hop) → slice_get hops at ≡ Some hop → slice_get made at ≡ Some other → other.range ≡ hop.range) → hop_ranges made ≡ hop_ranges hops
same-ranges [] [] size each = refl
same-ranges [] (other ∷ made) size each = absurd (let k : ⊥ = cc in k)
same-ranges (hop ∷ hops) [] size each = absurd (let k : ⊥ = cc in k)
same-ranges (hop ∷ hops) (other ∷ made) size each =
    let less : length made ≡ length hops = cc in
    ap (λ (r : Range). r ∷ hop_ranges made) (each 0 hop other refl refl)
    ∙ ap (λ (rs : List Range). hop.range ∷ rs) (same-ranges hops made less (λ at h o e f. each (suc at) h o e f))

pub found-short : (never_first : Chooser → Bool) (program : Program) (trail : Trail) (needed : List Bool) (kept : List Lemma) (ranks : List (Option ℕ)) (made : List Hop) → FlagHops needed (length trail.lemmas) trail.hops → Keeps trail.lemmas needed kept ranks → Renumbers ranks trail.hops made → IsFound never_first program trail →
    IsFound never_first program (record { fault = trail.fault; lemmas = kept; hops = made })
found-short never_first program trail needed kept ranks made flags keeps renumbers found =
    let ranges = lemma_ranges trail.lemmas in
    let count : length ranges ≡ length trail.lemmas = length-map trail.lemmas (λ (l : Lemma). l.range) in
    let fit : (at : ℕ) (hop : Hop) → slice_get trail.hops at ≡ Some hop → Fits never_first program ranges (lemma_ranges kept) ranks hop.range hop.moves = λ at hop here place number r e f.
    (let lt : number < length ranges = get-below ranges number r f in
    let inside : number < length trail.lemmas = omega (arith, lt, count) in
    let rank = keeps.all number (flags at hop here place number e inside) inside in
    let was = keeps.ranked number rank.0 rank.1 in
    let same : was.0 ≡ r = same-some was.0 r (sym was.1 ∙ f) in
    (rank.0, rank.1, was.2 ∙ ap (λ (x : Range). Some x) same)) in
    record {
      accepted = record {
        lemmas = keeps.hold never_first program found.accepted.lemmas;
        hops = begins-renamed never_first program ranges (lemma_ranges kept) ranks trail.fault trail.hops made renumbers.size found.accepted.hops fit renumbers.each;
      };
      lemmas_once = keeps.once found.lemmas_once;
      hops_once = subst NoneTwice (sym (same-ranges trail.hops made renumbers.size (λ at hop other e f. (renumbers.each at hop other e f).0))) found.hops_once;
    }

-- one lemma more is looked at
pub keeps-step : (lemmas : List Lemma) (needed : List Bool) (kept more : List Lemma) (ranks later : List (Option ℕ)) (index : ℕ) (lemma : Lemma) (flag : Bool) → slice_get lemmas index ≡ Some lemma → slice_get needed index ≡ Some flag → FlagLemmas needed lemmas → KeepsOne lemma flag kept ranks more later → KeepsSoFar lemmas needed kept ranks index → KeepsSoFar lemmas needed more later (index + 1)
keeps-step lemmas needed kept more ranks later index lemma true at_lemma on flags one so_far = keeps-more lemmas needed kept ranks index so_far lemma at_lemma on flags more later one.0 one.1
keeps-step lemmas needed kept more ranks later index lemma false at_lemma off flags one so_far =
    subst (λ (ls : List Lemma). KeepsSoFar lemmas needed ls later (index + 1)) (sym one.0) (keeps-skip lemmas needed kept ranks index so_far later off one.1)
