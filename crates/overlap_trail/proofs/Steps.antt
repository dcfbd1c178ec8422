-- Single steps of a trail, and what they come to.
use Rattle.std.proofs.Common.{◌≡◌, ◌+◌, ◌≤◌, ℕ, zero, suc, true, false, List, [], ◌∷◌, drop, Option, Some, None, refl, ap, sym, ◌∙◌, subst, arith}
use Rattle.cob_tree.specs.declared.program.Range.{Range}
use Rattle.program_points.specs.declared.paths.trail.Move.{Move}
use Rattle.program_points.specs.declared.paths.trail.Move.TheVariants.{Arm, Over, Into}
use Rattle.control_flow_theory.specs.language.Items.{Item, past_sentence, from_loop}
use Rattle.program_points.specs.paths.Step.{Point, at, start, Ways, Calls, Stops, only}
use Rattle.program_points.specs.paths.Accepted.{Walk, walk, walk_to, arm_at, by_arm, by_choice, over_call, onward_by, Aim, Return, Enter, Fault, Meets}
use Rattle.overlap_trail.specs.declared.follow.Followed.{Followed}
use Rattle.overlap_trail.specs.declared.follow.Followed.TheVariants.{Through, To, Left, Ended, SectionEnded, Broken, Cycled, Met, Lost}
use Rattle.overlap_trail.specs.Follow.{Known, Sought, next_at, onward_at, MeetsAt, Quietly, rests, on_to, Goes, IsStuck, ComesTo, IsArmFirst, IsBetween, IsTaken, first_arm, first_over, turned_way}

pub no-way-meets : (aim : Aim) (range : Range) (ways : List (Option Point)) (moves : List Move) → Meets aim range (Ways ways) moves → ⊥
no-way-meets Return range ways moves h = h
no-way-meets (Enter called) range ways moves h = h
no-way-meets (Fault fault ends) range ways moves h = (let e : None ≡ Some fault = h.1 in let k : ⊥ = cc in k)

pub no-stop-meets : (aim : Aim) (range : Range) (moves : List Move) → Meets aim range Stops moves → ⊥
no-stop-meets Return range moves h = h
no-stop-meets (Enter called) range moves h = h
no-stop-meets (Fault fault ends) range moves h = (let e : None ≡ Some fault = h.1 in let k : ⊥ = cc in k)

pub no-over-meets : (aim : Aim) (range : Range) (entry exit number : ℕ) (after : Point) (moves : List Move) → Meets aim range (Calls entry exit after) (Over number ∷ moves) → ⊥
no-over-meets Return range entry exit number after moves h = h
no-over-meets (Enter called) range entry exit number after moves h = h
no-over-meets (Fault fault ends) range entry exit number after moves h = (let e : Over number ∷ moves ≡ [] = h.0 in let k : ⊥ = cc in k)

pub no-first-over : (lemmas : List Range) (entry exit : ℕ) (after : Point) (moves : List Move) → first_over moves ≡ None → over_call lemmas entry exit after moves ≡ None
no-first-over lemmas entry exit after [] h = refl
no-first-over lemmas entry exit after (Arm number ∷ moves) h = refl
no-first-over lemmas entry exit after (Over number ∷ moves) h = absurd (let k : ⊥ = cc in k)
no-first-over lemmas entry exit after (Into ∷ moves) h = refl

pub no-first-arm : (ways : List (Option Point)) (moves : List Move) → first_arm moves ≡ None → by_arm ways moves ≡ None
no-first-arm ways [] h = refl
no-first-arm ways (Arm number ∷ moves) h = absurd (let k : ⊥ = cc in k)
no-first-arm ways (Over number ∷ moves) h = refl
no-first-arm ways (Into ∷ moves) h = refl

-- an arm past two isn't there
no-third : (a b : Option Point) (number : ℕ) → (number ≡ 1 → ⊥) → (number ≡ 2 → ⊥) → arm_at (a ∷ b ∷ []) number ≡ None
no-third a b zero one two = refl
no-third a b (suc zero) one two = absurd (one refl)
no-third a b (suc (suc zero)) one two = absurd (two refl)
no-third a b (suc (suc (suc number))) one two = refl

pub neither-arm : (moves : List Move) (taken number : ℕ) → drop taken moves ≡ Arm number ∷ drop (taken + 1) moves → (number ≡ 1 → ⊥) → (number ≡ 2 → ⊥) → (a b : Option Point) → by_arm (a ∷ b ∷ []) (drop taken moves) ≡ None
neither-arm moves taken number e one two a b =
    ap (λ ms. by_arm (a ∷ b ∷ []) ms) e ∙ ap (λ o. walk_to o (drop (taken + 1) moves)) (no-third a b number one two)

module _ (known : Known) (sought : Sought) where
  pub quietly-then : (a b c : Walk) → Quietly known sought a b → Quietly known sought b c → Quietly known sought a c
  quietly-then a b c (rests there) more = more
  quietly-then a b c (on_to from via to free step path) more = on_to from via c free step (quietly-then via to c path more)

  pub goes-then : (a b c : Walk) → Goes known sought a b → Quietly known sought b c → Goes known sought a c
  goes-then a b c goes more = (goes.0, goes.1, goes.2, quietly-then goes.0 b c goes.3 more)

  pub then-goes : (a b c : Walk) → Quietly known sought a b → Goes known sought b c → Goes known sought a c
  then-goes a b c (rests there) goes = goes
  then-goes a b c (on_to from via to free step path) goes =
      (via, free, step, quietly-then via to c path (on_to to goes.0 c goes.1 goes.2 goes.3))

  -- what is followed behind a way that leads on
  pub behind : (last paragraph : ℕ) (rest : List Item) (moves : List Move) (a b : Walk) (way : Followed) → Quietly known sought a b → ComesTo known sought last paragraph rest moves b way → ComesTo known sought last paragraph rest moves a way
  behind last paragraph rest moves a b (Through taken) path comes = quietly-then a b (walk (at paragraph rest) (drop taken moves)) path comes
  behind last paragraph rest moves a b (To to taken) path comes = then-goes a b (walk (start sought.program to) (drop taken moves)) path comes
  behind last paragraph rest moves a b (Left taken) path comes = quietly-then a b (walk (at paragraph (past_sentence rest)) (drop taken moves)) path comes
  behind last paragraph rest moves a b (Ended taken) path comes = quietly-then a b (walk (at paragraph []) (drop taken moves)) path comes
  behind last paragraph rest moves a b (SectionEnded taken) path comes = quietly-then a b (walk (at last []) (drop taken moves)) path comes
  behind last paragraph rest moves a b (Broken taken) path comes = quietly-then a b (walk (at paragraph (from_loop false rest)) (drop taken moves)) path comes
  behind last paragraph rest moves a b (Cycled taken) path comes = quietly-then a b (walk (at paragraph (from_loop true rest)) (drop taken moves)) path comes
  behind last paragraph rest moves a b (Met entry exit taken) path comes =
      (comes.0, comes.1, quietly-then a b (walk comes.0 (drop taken moves)) path comes.2, comes.3, comes.4)
  behind last paragraph rest moves a b Lost path comes = (comes.0, quietly-then a b comes.0 path comes.1, comes.2, comes.3)

  -- a way doesn't meet what is sought
  free-way : (from : Point) (ways : List (Option Point)) (moves : List Move) → next_at known sought from ≡ Ways ways → MeetsAt known sought (walk from moves) → ⊥
  free-way from ways moves e h = no-way-meets sought.aim sought.range ways moves (subst (λ now. Meets sought.aim sought.range now moves) e h)

  by-ways : (from : Point) (ways : List (Option Point)) (moves : List Move) → next_at known sought from ≡ Ways ways → onward_at known sought (walk from moves) ≡ by_choice (only ways) ways moves
  by-ways from ways moves e = ap (λ now. onward_by known.never_first sought.program known.lemmas sought.range now moves) e

  -- one step of a way that a choice takes
  pub choice-goes : (from : Point) (via : Walk) (ways : List (Option Point)) (moves : List Move) → next_at known sought from ≡ Ways ways → by_choice (only ways) ways moves ≡ Some via → Goes known sought (walk from moves) via
  choice-goes from via ways moves e o = (via, free-way from ways moves e, by-ways from ways moves e ∙ o, rests via)

  pub goes-quietly : (from to : Walk) → Goes known sought from to → Quietly known sought from to
  goes-quietly from to goes = on_to from goes.0 to goes.1 goes.2 goes.3

  pub choice-step : (from : Point) (via : Walk) (ways : List (Option Point)) (moves : List Move) → next_at known sought from ≡ Ways ways → by_choice (only ways) ways moves ≡ Some via → Quietly known sought (walk from moves) via
  choice-step from via ways moves e o = goes-quietly (walk from moves) via (choice-goes from via ways moves e o)

  -- one step of the only way, which takes no move
  pub one-goes : (from to : Point) (moves : List Move) → next_at known sought from ≡ Ways (Some to ∷ []) → Goes known sought (walk from moves) (walk to moves)
  one-goes from to moves e = choice-goes from (walk to moves) (Some to ∷ []) moves e refl

  pub one-step : (from to : Point) (moves : List Move) → next_at known sought from ≡ Ways (Some to ∷ []) → Quietly known sought (walk from moves) (walk to moves)
  one-step from to moves e = goes-quietly (walk from moves) (walk to moves) (one-goes from to moves e)

  pub choice-stuck : (from : Point) (ways : List (Option Point)) (moves : List Move) → next_at known sought from ≡ Ways ways → by_choice (only ways) ways moves ≡ None → IsStuck known sought (walk from moves)
  choice-stuck from ways moves e o = (walk from moves, rests (walk from moves), free-way from ways moves e, by-ways from ways moves e ∙ o)

  -- one step of two ways
  pub first-step : (from first second : Point) (moves : List Move) (taken : ℕ) → next_at known sought from ≡ Ways (Some first ∷ Some second ∷ []) → IsArmFirst moves taken 1 → Quietly known sought (walk from (drop taken moves)) (walk first (drop (taken + 1) moves))
  first-step from first second moves taken e is =
      choice-step from (walk first (drop (taken + 1) moves)) (Some first ∷ Some second ∷ []) (drop taken moves) e (ap (λ ms. by_arm (Some first ∷ Some second ∷ []) ms) is.0)

  pub second-step : (from first second : Point) (moves : List Move) (taken : ℕ) → next_at known sought from ≡ Ways (Some first ∷ Some second ∷ []) → IsArmFirst moves taken 2 → Quietly known sought (walk from (drop taken moves)) (walk second (drop (taken + 1) moves))
  second-step from first second moves taken e is =
      choice-step from (walk second (drop (taken + 1) moves)) (Some first ∷ Some second ∷ []) (drop taken moves) e (ap (λ ms. by_arm (Some first ∷ Some second ∷ []) ms) is.0)

  pub neither-stuck : (from first second : Point) (moves : List Move) (taken : ℕ) → next_at known sought from ≡ Ways (Some first ∷ Some second ∷ []) → ((a b : Option Point) → by_arm (a ∷ b ∷ []) (drop taken moves) ≡ None) → IsStuck known sought (walk from (drop taken moves))
  neither-stuck from first second moves taken e is =
      choice-stuck from (Some first ∷ Some second ∷ []) (drop taken moves) e (is (Some first) (Some second))

pub taken-from : (a b most : ℕ) (way : Followed) → a ≤ b → IsTaken b most way → IsTaken a most way
taken-from a b most (Through now) le is = (omega (arith, is.0), is.1)
taken-from a b most (To to now) le is = (omega (arith, is.0), is.1)
taken-from a b most (Left now) le is = (omega (arith, is.0), is.1)
taken-from a b most (Ended now) le is = (omega (arith, is.0), is.1)
taken-from a b most (SectionEnded now) le is = (omega (arith, is.0), is.1)
taken-from a b most (Broken now) le is = (omega (arith, is.0), is.1)
taken-from a b most (Cycled now) le is = (omega (arith, is.0), is.1)
taken-from a b most (Met entry exit now) le is = (omega (arith, is.0), is.1)
taken-from a b most Lost le is = tt

turned-taken : (taken most : ℕ) (way : Followed) → IsTaken taken most way → IsTaken taken most (turned_way way)
turned-taken taken most (Through now) is = is
turned-taken taken most (To to now) is = is
turned-taken taken most (Left now) is = is
turned-taken taken most (Ended now) is = is
turned-taken taken most (SectionEnded now) is = is
turned-taken taken most (Broken now) is = is
turned-taken taken most (Cycled now) is = is
turned-taken taken most (Met entry exit now) is = is
turned-taken taken most Lost is = is

-- the same of a turn that is told
pub as-turned : (taken most : ℕ) (way turn : Followed) → turn ≡ turned_way way → IsTaken taken most way → IsTaken taken most turn
as-turned taken most way turn same is = subst (λ w. IsTaken taken most w) (sym same) (turned-taken taken most way is)

pub cycled-taken : (taken most now : ℕ) (way : Followed) → Cycled now ≡ turned_way way → IsTaken taken most way → IsBetween taken most now
cycled-taken taken most now way same is = as-turned taken most way (Cycled now) same is
