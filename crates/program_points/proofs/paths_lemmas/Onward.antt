-- One step of a trail is one step of its level.
use Rattle.std.proofs.Common.{Bool, ◌≡◌, ◌==◌, ℕ, zero, suc, true, false, if◌then◌else◌, List, [], ◌∷◌, ◌++◌, Option, Some, None, refl, ap, sym, ◌∙◌, subst, slice_get, eqb-true}
use Rattle.cob_tree.specs.declared.program.Range.{Range}
use Rattle.program_points.specs.declared.paths.trail.Move.{Move}
use Rattle.program_points.specs.declared.paths.trail.Move.TheVariants.{Arm, Over, Into}
use Rattle.control_flow_theory.specs.language.Language.{Chooser, Program}
use Rattle.program_points.specs.paths.Step.{Point, start, Next, Ways, Calls, Stops, Ends, next, way_at, no_way, only, is_paragraph}
use Rattle.program_points.specs.paths.Flow.{part, is_exit}
use Rattle.program_points.specs.paths.Levels.{Comes, chooses, over, passes}
use Rattle.program_points.specs.paths.Accepted.{Walk, walk, walk_to, arm_at, by_arm, by_choice, is_range, over_call, past_end, onward_by, Leads, here, further}

pub one-way : (ways : List (Option Point)) (to : Point) → only ways ≡ Some to → (number : ℕ) × (way_at ways number ≡ Some to)
one-way [] to e = absurd (let k : ⊥ = cc in k)
one-way (None ∷ ways) to e = let found = one-way ways to e in (suc found.0, found.1)
one-way (Some point ∷ ways) to e =
    (elim (no_way ways) as (λ b. (if b then Some point else None) ≡ Some to → (number : ℕ) × (way_at (Some point ∷ ways) number ≡ Some to)) [
      | true ↦ λ h. (0, h)
      | false ↦ λ h. absurd (let k : ⊥ = cc in k)
    ]) e

same-range : (a b : ℕ) (x y : Option ℕ) → a ≡ b → x ≡ y → ◌≡◌ {A = Range} (record { entry = a; exit = x }) (record { entry = b; exit = y })
same-range a b x y e h =
    let first : ◌≡◌ {A = Range} (record { entry = a; exit = x }) (record { entry = b; exit = x }) = ap (λ (n : ℕ). let r : Range = record { entry = n; exit = x } in r) e in
    let second : ◌≡◌ {A = Range} (record { entry = b; exit = x }) (record { entry = b; exit = y }) = ap (λ (o : Option ℕ). let r : Range = record { entry = b; exit = o } in r) h in
    first ∙ second

is-exit : (exit : Option ℕ) (paragraph : ℕ) → is_exit exit paragraph ≡ true → exit ≡ Some paragraph
is-exit None paragraph h = absurd (let k : ⊥ = cc in k)
is-exit (Some exit) paragraph h = ap (λ (n : ℕ). Some n) (eqb-true exit paragraph h)

pub is-part : (range : Range) (entry exit : ℕ) → is_range (Some range) entry exit ≡ true → range ≡ part entry exit
is-part range entry exit h =
    (elim (range.entry == entry) as (λ b. (range.entry == entry) ≡ b → (if b then is_exit range.exit exit else false) ≡ true → range ≡ part entry exit) [
      | true ↦ λ e k. same-range range.entry entry range.exit (Some exit) (eqb-true range.entry entry e) (is-exit range.exit exit k)
      | false ↦ λ e k. absurd (let l : ⊥ = cc in l)
    ]) refl h

-- the range's level comes to its return
abbrev pub Returned : (Chooser → Bool) → Program → Range → Type 0
Returned never_first program range = (done : Point) × (exit : ℕ) × Comes never_first program range done × (next never_first program done ≡ Ends exit) × (is_exit range.exit exit ≡ true)

abbrev pub AllReturn : (Chooser → Bool) → Program → List Range → Type 0
AllReturn never_first program [] = Unit {0}
AllReturn never_first program (range ∷ ranges) = Returned never_first program range × AllReturn never_first program ranges

pub all-return-append : (never_first : Chooser → Bool) (program : Program) (ranges more : List Range) → AllReturn never_first program ranges → AllReturn never_first program more → AllReturn never_first program (ranges ++ more)
all-return-append never_first program [] more all others = others
all-return-append never_first program (range ∷ ranges) more all others = (all.0, all-return-append never_first program ranges more all.1 others)

one-returns : (never_first : Chooser → Bool) (program : Program) (lemmas : List Range) (number entry exit : ℕ) → AllReturn never_first program lemmas → is_range (slice_get lemmas number) entry exit ≡ true → Returned never_first program (part entry exit)
one-returns never_first program [] number entry exit all h = absurd (let k : ⊥ = cc in k)
one-returns never_first program (range ∷ ranges) zero entry exit all h = subst (λ r. Returned never_first program r) (is-part range entry exit h) all.0
one-returns never_first program (range ∷ ranges) (suc number) entry exit all h = one-returns never_first program ranges number entry exit all.1 h

module _ (never_first : Chooser → Bool) (program : Program) (lemmas : List Range) (range : Range) where
  moved : (point : Point) (moves : List Move) (via : Walk) → Some (walk point moves) ≡ Some via → Comes never_first program range point → Comes never_first program range via.point
  moved point moves via e c = let same : walk point moves ≡ via = cc in subst (λ (w : Walk). Comes never_first program range w.point) same c

  arm-comes : (from : Point) (ways : List (Option Point)) (number : ℕ) (moves : List Move) (via : Walk) → Comes never_first program range from → next never_first program from ≡ Ways ways →
      walk_to (arm_at ways number) moves ≡ Some via → Comes never_first program range via.point
  arm-comes from ways zero moves via c e h = absurd (let k : ⊥ = cc in k)
  arm-comes from ways (suc number) moves via c e h =
      (elim (way_at ways number) as (λ o. way_at ways number ≡ o → walk_to o moves ≡ Some via → Comes never_first program range via.point) [
        | None ↦ λ w k. absurd (let l : ⊥ = cc in l)
        | Some to ↦ λ w k. moved to moves via k (chooses range from to ways number c e w)
      ]) refl h

  by-arm-comes : (from : Point) (ways : List (Option Point)) (moves : List Move) (via : Walk) → Comes never_first program range from → next never_first program from ≡ Ways ways →
      by_arm ways moves ≡ Some via → Comes never_first program range via.point
  by-arm-comes from ways [] via c e h = absurd (let k : ⊥ = cc in k)
  by-arm-comes from ways (Arm number ∷ moves) via c e h = arm-comes from ways number moves via c e h
  by-arm-comes from ways (Over number ∷ moves) via c e h = absurd (let k : ⊥ = cc in k)
  by-arm-comes from ways (Into ∷ moves) via c e h = absurd (let k : ⊥ = cc in k)

  over-comes : (from after : Point) (entry exit : ℕ) (moves : List Move) (via : Walk) → AllReturn never_first program lemmas → Comes never_first program range from → next never_first program from ≡ Calls entry exit after →
      over_call lemmas entry exit after moves ≡ Some via → Comes never_first program range via.point
  over-comes from after entry exit [] via all c e h = absurd (let k : ⊥ = cc in k)
  over-comes from after entry exit (Arm number ∷ moves) via all c e h = absurd (let k : ⊥ = cc in k)
  over-comes from after entry exit (Over number ∷ moves) via all c e h =
      (elim (is_range (slice_get lemmas number) entry exit) as (λ b. is_range (slice_get lemmas number) entry exit ≡ b → (if b then Some (walk after moves) else None) ≡ Some via → Comes never_first program range via.point) [
        | true ↦ λ is k.
            let returned = one-returns never_first program lemmas number entry exit all is in
            moved after moves via k (over range from after returned.0 entry exit c e returned.2 (returned.3 ∙ ap (λ (n : ℕ). Ends n) (sym (eqb-true exit returned.1 returned.4))))
        | false ↦ λ is k. absurd (let l : ⊥ = cc in l)
      ]) refl h
  over-comes from after entry exit (Into ∷ moves) via all c e h = absurd (let k : ⊥ = cc in k)

  past-comes : (from : Point) (paragraph : ℕ) (moves : List Move) (via : Walk) → Comes never_first program range from → next never_first program from ≡ Ends paragraph →
      past_end program range.exit paragraph moves ≡ Some via → Comes never_first program range via.point
  past-comes from paragraph moves via c e h =
      (elim (is_exit range.exit paragraph) as (λ b. is_exit range.exit paragraph ≡ b → (if b then None else (if is_paragraph program (suc paragraph) then Some (walk (start program (suc paragraph)) moves) else None)) ≡ Some via → Comes never_first program range via.point) [
        | true ↦ λ out k. absurd (let l : ⊥ = cc in l)
        | false ↦ λ out k.
            (elim (is_paragraph program (suc paragraph)) as (λ b. is_paragraph program (suc paragraph) ≡ b → (if b then Some (walk (start program (suc paragraph)) moves) else None) ≡ Some via → Comes never_first program range via.point) [
              | true ↦ λ is l. moved (start program (suc paragraph)) moves via l (passes range from paragraph c e out is)
              | false ↦ λ is l. absurd (let m : ⊥ = cc in m)
            ]) refl k
      ]) refl h

  pub onward-comes : (now : Next) (from via : Walk) → AllReturn never_first program lemmas → Comes never_first program range from.point → next never_first program from.point ≡ now →
      onward_by never_first program lemmas range now from.moves ≡ Some via → Comes never_first program range via.point
  onward-comes (Ways ways) from via all c e h =
      (elim (only ways) as (λ o. only ways ≡ o → by_choice o ways from.moves ≡ Some via → Comes never_first program range via.point) [
        | None ↦ λ o k. by-arm-comes from.point ways from.moves via c e k
        | Some to ↦ λ o k. let way = one-way ways to o in moved to from.moves via k (chooses range from.point to ways way.0 c e way.1)
      ]) refl h
  onward-comes (Calls entry exit after) from via all c e h = over-comes from.point after entry exit from.moves via all c e h
  onward-comes Stops from via all c e h = absurd (let k : ⊥ = cc in k)
  onward-comes (Ends paragraph) from via all c e h = past-comes from.point paragraph from.moves via c e h

  pub leads-comes : (from to : Walk) → Leads never_first program lemmas range from to → AllReturn never_first program lemmas → Comes never_first program range from.point → Comes never_first program range to.point
  leads-comes from to (here there) all c = c
  leads-comes from to (further from1 via to1 step path) all c = leads-comes via to1 path all (onward-comes (next never_first program from1.point) from1 via all c refl step)
