-- What is come to in a table is what is come to in its program.
use Rattle.std.proofs.Common.{◌≡◌, ◌<◌, ℕ, zero, suc, Bool, true, List, [], ◌∷◌, map, length, Option, Some, None, option_map, slice_get, refl, ap, sym, ◌∙◌, subst, eqb-true, eq-eqb, arith}
use Rattle.cob_tree.specs.declared.program.Range.{Range}
use Rattle.control_flow_theory.specs.language.Language.{Chooser, Program}
use Rattle.program_points.specs.paths.Step.{Point, next, way_at}
use Rattle.program_points.specs.paths.Step as lang
use Rattle.program_points.specs.paths.Flow.{part, Pending, FreePath, ReturnsIn, CallsIn, EndsIn}
use Rattle.program_points.specs.paths.Levels.{Comes, Levels, bottom, called}
use Rattle.program_points.specs.paths.Levels as level
use Rattle.program_points.proofs.paths_lemmas.Runs.{stands, levels-run}
use Rattle.program_points.specs.declared.point_table.table.ProgramPoint.{ProgramPoint}
use Rattle.program_points.specs.declared.point_table.table.ProgramPoint.TheVariants.{Goes, Chooses, Calls, Stops, Ends}
use Rattle.program_points.specs.declared.point_table.table.Table.{Table}
use Rattle.program_points.specs.point_table.Table.{AllBelow, Describes, IsTable, ComesIn, enters, goes, chooses, over, falls, IsSound, IsClosed}
use Rattle.pending_returns.specs.levels.Reach.{IsReach, IsCalled, IsEnded}

-- a level alone

no-more : (never_first : Chooser → Bool) (program : Program) (base range : Range) (pending : List Pending) → Levels never_first program base range pending → pending ≡ [] → range ≡ base
no-more never_first program base range pending (bottom) e = refl
no-more never_first program base range pending (called under others from after entry exit l c is) e = absurd (let k : ⊥ = cc in k)

pub path-comes : (never_first : Chooser → Bool) (program : Program) (range : Range) (point : Point) → FreePath never_first program range point [] → Comes never_first program range point
path-comes never_first program range point path =
    let s = stands never_first program range point [] path in
    subst (λ r. Comes never_first program r point) (no-more never_first program range s.0 [] s.1 refl) s.2

pub comes-path : (never_first : Chooser → Bool) (program : Program) (range : Range) (point : Point) → Comes never_first program range point → FreePath never_first program range point []
comes-path never_first program range point comes = levels-run never_first program range range [] bottom point comes

there : (places : List ProgramPoint) (number : ℕ) → number < length places → (place : ProgramPoint) × (slice_get places number ≡ Some place)
there [] number lt = absurd (omega arith)
there (place ∷ places) zero lt = (place, refl)
there (place ∷ places) (suc number) lt = there places number (omega arith)

-- ways

way-there : (points : ℕ → Point) (ways : List (Option ℕ)) (number to : ℕ) → slice_get ways number ≡ Some (Some to) → way_at (map (λ (way : Option ℕ). option_map points way) ways) number ≡ Some (points to)
way-there points [] number to e = absurd (let k : ⊥ = cc in k)
way-there points (way ∷ ways) zero to e = (let k : way ≡ Some to = cc in ap (λ (w : Option ℕ). option_map points w) k)
way-there points (way ∷ ways) (suc number) to e = way-there points ways number to e

way-back : (points : ℕ → Point) (most : ℕ) (ways : List (Option ℕ)) (number : ℕ) (point : Point) → AllBelow most ways → way_at (map (λ (way : Option ℕ). option_map points way) ways) number ≡ Some point →
    (to : ℕ) × (slice_get ways number ≡ Some (Some to)) × (points to ≡ point) × (to < most)
way-back points most [] number point below e = absurd (let k : ⊥ = cc in k)
way-back points most (None ∷ ways) zero point below e = absurd (let k : ⊥ = cc in k)
way-back points most (Some to ∷ ways) zero point below e = (let k : points to ≡ point = cc in (to, refl, k, below.0))
way-back points most (None ∷ ways) (suc number) point below e = way-back points most ways number point below e
way-back points most (Some to ∷ ways) (suc number) point below e = way-back points most ways number point below.1 e

one-back : (a to : Point) (number : ℕ) → way_at (Some a ∷ []) number ≡ Some to → a ≡ to
one-back a to zero e = (let k : a ≡ to = cc in k)
one-back a to (suc number) e = absurd (let k : ⊥ = cc in k)

module _ (never_first : Chooser → Bool) (program : Program) (table : Table) (points : ℕ → Point) (returns : List Bool) (is : IsTable never_first program table points) where
  pub comes-in : IsSound never_first program table returns → (range : Range) (place : ℕ) → ComesIn table returns range place → Comes never_first program range (points place)
  comes-in sound range place (enters s e) = subst (λ p. Comes never_first program range p) (sym (is.starts range.entry s e).0) (level.enters range)
  comes-in sound range place (goes from to c e) =
      level.chooses range (points from) (points to) (Some (points to) ∷ []) 0 (comes-in sound range from c) (is.places from (Goes to) e).0 refl
  comes-in sound range place (chooses from to number ways c e w) =
      level.chooses range (points from) (points to) (map (λ (way : Option ℕ). option_map points way) ways) number (comes-in sound range from c) (is.places from (Chooses ways) e).0 (way-there points ways number to w)
  comes-in sound range place (over from after number c e r) =
      let d = is.places from (Calls number after) e in
      let done = sound number (part d.0 d.1) d.3 r in
      level.over range (points from) (points after) done.0 d.0 d.1 (comes-in sound range from c) d.2
      (path-comes never_first program (part d.0 d.1) done.0 done.2) (done.3 ∙ ap (λ (n : ℕ). lang.Ends n) (sym (eqb-true d.1 done.1 done.4)))
  comes-in sound range place (falls from paragraph to c e out s) =
      let there = is.starts (suc paragraph) to s in
      subst (λ p. Comes never_first program range p) (sym there.0)
      (level.passes range (points from) paragraph (comes-in sound range from c) (is.places from (Ends paragraph) e) out there.2)

  abbrev Found : Range → Point → Type 0
  Found range point = (place : ℕ) × ComesIn table returns range place × (points place ≡ point) × (place < length table.places)

  place-at : (number : ℕ) → number < length table.places → (place : ProgramPoint) × (slice_get table.places number ≡ Some place)
  place-at number lt = there table.places number lt

  found-way : (range : Range) (from : ℕ) (place : ProgramPoint) (ways : List (Option Point)) (number : ℕ) (to : Point) → ComesIn table returns range from → slice_get table.places from ≡ Some place → Describes table points place (next never_first program (points from)) →
      next never_first program (points from) ≡ lang.Ways ways → way_at ways number ≡ Some to → Found range to
  found-way range from (Goes j) ways number to c e d n w =
      let same : Some (points j) ∷ [] ≡ ways = (let k : lang.Ways (Some (points j) ∷ []) ≡ lang.Ways ways = sym d.0 ∙ n in cc) in
      (j, goes from j c e, one-back (points j) to number (subst (λ ws. way_at ws number ≡ Some to) (sym same) w), d.1)
  found-way range from (Chooses js) ways number to c e d n w =
      let all = map (λ (way : Option ℕ). option_map points way) js in
      let same : all ≡ ways = (let k : lang.Ways all ≡ lang.Ways ways = sym d.0 ∙ n in cc) in
      let back = way-back points (length table.places) js number to d.1 (subst (λ ws. way_at ws number ≡ Some to) (sym same) w) in
      (back.0, chooses from back.0 number js c e back.1, back.2, back.3)
  found-way range from (Calls called_range after) ways number to c e d n w = absurd (let k : lang.Calls d.0 d.1 (points after) ≡ lang.Ways ways = sym d.2 ∙ n in let l : ⊥ = cc in l)
  found-way range from Stops ways number to c e d n w = absurd (let k : lang.Stops ≡ lang.Ways ways = sym d ∙ n in let l : ⊥ = cc in l)
  found-way range from (Ends paragraph) ways number to c e d n w = absurd (let k : lang.Ends paragraph ≡ lang.Ways ways = sym d ∙ n in let l : ⊥ = cc in l)

  found-call : (from : ℕ) (place : ProgramPoint) (entry exit : ℕ) (after : Point) → slice_get table.places from ≡ Some place → Describes table points place (next never_first program (points from)) → next never_first program (points from) ≡ lang.Calls entry exit after →
      (number : ℕ) × (to : ℕ) × (slice_get table.places from ≡ Some (Calls number to)) × (slice_get table.ranges number ≡ Some (part entry exit)) × (points to ≡ after) × (to < length table.places)
  found-call from (Goes j) entry exit after e d n = absurd (let k : lang.Ways (Some (points j) ∷ []) ≡ lang.Calls entry exit after = sym d.0 ∙ n in let l : ⊥ = cc in l)
  found-call from (Chooses js) entry exit after e d n = absurd (let k : lang.Ways (map (λ (way : Option ℕ). option_map points way) js) ≡ lang.Calls entry exit after = sym d.0 ∙ n in let l : ⊥ = cc in l)
  found-call from (Calls number to) entry exit after e d n =
      let k : lang.Calls d.0 d.1 (points to) ≡ lang.Calls entry exit after = sym d.2 ∙ n in
      let first : d.0 ≡ entry = cc in
      let second : d.1 ≡ exit = cc in
      let third : points to ≡ after = cc in
      (number, to, e, d.3 ∙ ap (λ (m : ℕ). Some (part m d.1)) first ∙ ap (λ (m : ℕ). Some (part entry m)) second, third, d.4)
  found-call from Stops entry exit after e d n = absurd (let k : lang.Stops ≡ lang.Calls entry exit after = sym d ∙ n in let l : ⊥ = cc in l)
  found-call from (Ends paragraph) entry exit after e d n = absurd (let k : lang.Ends paragraph ≡ lang.Calls entry exit after = sym d ∙ n in let l : ⊥ = cc in l)

  found-end : (from : ℕ) (place : ProgramPoint) (paragraph : ℕ) → slice_get table.places from ≡ Some place → Describes table points place (next never_first program (points from)) → next never_first program (points from) ≡ lang.Ends paragraph →
      slice_get table.places from ≡ Some (Ends paragraph)
  found-end from (Goes j) paragraph e d n = absurd (let k : lang.Ways (Some (points j) ∷ []) ≡ lang.Ends paragraph = sym d.0 ∙ n in let l : ⊥ = cc in l)
  found-end from (Chooses js) paragraph e d n = absurd (let k : lang.Ways (map (λ (way : Option ℕ). option_map points way) js) ≡ lang.Ends paragraph = sym d.0 ∙ n in let l : ⊥ = cc in l)
  found-end from (Calls number to) paragraph e d n = absurd (let k : lang.Calls d.0 d.1 (points to) ≡ lang.Ends paragraph = sym d.2 ∙ n in let l : ⊥ = cc in l)
  found-end from Stops paragraph e d n = absurd (let k : lang.Stops ≡ lang.Ends paragraph = sym d ∙ n in let l : ⊥ = cc in l)
  found-end from (Ends other) paragraph e d n = (let k : lang.Ends other ≡ lang.Ends paragraph = sym d ∙ n in let same : other ≡ paragraph = cc in e ∙ ap (λ (m : ℕ). Some (Ends m)) same)

  pub found-in : IsClosed table returns → (range : Range) (point : Point) → Comes never_first program range point → (number : ℕ) → slice_get table.ranges number ≡ Some range → Found range point
  found-in closed range point (level.enters r) number e =
      let s = is.started r.entry (is.entries number r e) in
      let there = is.starts r.entry s.0 s.1 in
      (s.0, enters s.0 s.1, there.0, there.1)
  found-in closed range point (level.chooses r from to ways way c n w) number e =
      let f = found-in closed r from c number e in
      let place = place-at f.0 f.3 in
      found-way r f.0 place.0 ways way to f.1 place.1 (is.places f.0 place.0 place.1) (ap (λ p. next never_first program p) f.2 ∙ n) w
  found-in closed range point (level.over r from after done entry exit c n1 d n2) number e =
      let f = found-in closed r from c number e in
      let place = place-at f.0 f.3 in
      let call = found-call f.0 place.0 entry exit after place.1 (is.places f.0 place.0 place.1) (ap (λ p. next never_first program p) f.2 ∙ n1) in
      let g = found-in closed (part entry exit) done d call.0 call.3 in
      let last = place-at g.0 g.3 in
      let end = found-end g.0 last.0 exit last.1 (is.places g.0 last.0 last.1) (ap (λ p. next never_first program p) g.2 ∙ n2) in
      (call.1, over f.0 call.1 call.0 f.1 call.2 (closed call.0 (part entry exit) call.3 (g.0, exit, g.1, end, eq-eqb exit exit refl)), call.4, call.5)
  found-in closed range point (level.passes r from paragraph c n out there) number e =
      let f = found-in closed r from c number e in
      let place = place-at f.0 f.3 in
      let end = found-end f.0 place.0 paragraph place.1 (is.places f.0 place.0 place.1) (ap (λ p. next never_first program p) f.2 ∙ n) in
      let s = is.started (suc paragraph) there in
      let at_start = is.starts (suc paragraph) s.0 s.1 in
      (s.0, falls f.0 paragraph s.0 f.1 end out s.1, at_start.0, at_start.1)

  pub returns-found : IsClosed table returns → (number : ℕ) (range : Range) → slice_get table.ranges number ≡ Some range → ReturnsIn never_first program range → slice_get returns number ≡ Some true
  returns-found closed number range e ret =
      let f = found-in closed range ret.0 (path-comes never_first program range ret.0 ret.2) number e in
      let place = place-at f.0 f.3 in
      let end = found-end f.0 place.0 ret.1 place.1 (is.places f.0 place.0 place.1) (ap (λ p. next never_first program p) f.2 ∙ ret.3) in
      closed number range e (f.0, ret.1, f.1, end, ret.4)

  module _ (sound : IsSound never_first program table returns) (closed : IsClosed table returns) (number : ℕ) (range : Range) (at : slice_get table.ranges number ≡ Some range) (places : List ℕ) (reach : IsReach table returns range places) where
    pub calls-found : (target : Range) → CallsIn never_first program range target → (k : ℕ) × (slice_get table.ranges k ≡ Some target) × IsCalled table places k
    calls-found target calls =
        let f = found-in closed range calls.0 (path-comes never_first program range calls.0 calls.4) number at in
        let place = place-at f.0 f.3 in
        let call = found-call f.0 place.0 calls.1 calls.2 calls.3 place.1 (is.places f.0 place.0 place.1) (ap (λ p. next never_first program p) f.2 ∙ calls.5) in
        (call.0, call.3 ∙ ap (λ (r : Range). Some r) (sym calls.6), (f.0, call.1, reach.1 f.0 f.1, call.2))

    pub calls-true : (k : ℕ) (target : Range) → slice_get table.ranges k ≡ Some target → IsCalled table places k → CallsIn never_first program range target
    calls-true k target e call =
        let d = is.places call.0 (Calls k call.1) call.3 in
        let both : Some target ≡ Some (part d.0 d.1) = sym e ∙ d.3 in
        let same : target ≡ part d.0 d.1 = cc in
        (points call.0, d.0, d.1, points call.1, comes-path never_first program range (points call.0) (comes-in sound range call.0 (reach.0 call.0 call.2)), d.2, same)

    pub ends-found : (paragraph : ℕ) → EndsIn never_first program range paragraph → IsEnded table range places paragraph
    ends-found paragraph ends =
        let f = found-in closed range ends.0 (path-comes never_first program range ends.0 ends.1) number at in
        let place = place-at f.0 f.3 in
        let end = found-end f.0 place.0 paragraph place.1 (is.places f.0 place.0 place.1) (ap (λ p. next never_first program p) f.2 ∙ ends.2) in
        (f.0, reach.1 f.0 f.1, end, ends.3)

    pub ends-true : (paragraph : ℕ) → IsEnded table range places paragraph → EndsIn never_first program range paragraph
    ends-true paragraph end =
        (points end.0, comes-path never_first program range (points end.0) (comes-in sound range end.0 (reach.0 end.0 end.1)), is.places end.0 (Ends paragraph) end.2, end.3)
