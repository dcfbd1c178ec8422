-- Calls and loops.
use Rattle.std.proofs.Common.{◌≡◌, ◌+◌, ℕ, true, false, if◌then◌else◌, List, [], ◌∷◌, drop, Option, Some, None, slice_get, refl, ap, sym, ◌∙◌, subst}
use Rattle.control_flow_theory.specs.language.Items.{Item, Do, Turn, Turning, before, before_body}
use Rattle.control_flow_theory.specs.language.Language.{Control, Body, Stmts, Perform, Loop, Choose, If, Holds, given, done, also, none}
use Rattle.control_flow_theory.specs.language.Control.{always}
use Rattle.program_points.specs.declared.paths.trail.Move.{Move}
use Rattle.program_points.specs.declared.paths.trail.Move.TheVariants.{Over}
use Rattle.program_points.specs.paths.Step.{Point, at}
use Rattle.program_points.specs.paths.Accepted.{Walk, walk, by_arm, is_range}
use Rattle.program_points.specs.declared.numbering.kind.LoopStart.TheVariants.{Before, Again, After}
use Rattle.program_points.specs.numbering.Kind.{kind_in, remainder}
use Rattle.overlap_trail.specs.declared.follow.Followed.{Followed}
use Rattle.overlap_trail.specs.declared.follow.Followed.TheVariants.{Through, To, Left, Ended, SectionEnded, Broken, Cycled, Met, Lost}
use Rattle.overlap_trail.specs.Follow.{Known, Sought, Quietly, rests, on_to, IsStuck, ComesTo, Follows, IsTurn, Turns, turned_way, IsArmFirst, IsOverFirst, first_over}
use Rattle.overlap_trail.proofs.Steps.{no-over-meets, no-first-over, quietly-then, behind, one-step, first-step, second-step, neither-stuck}
use Rattle.overlap_trail.proofs.Rows.{body_stmts, body-before, turn-next, before-next, again-next, after-next}

-- from one turn of a loop to another, at which so many moves are taken
abbrev pub TurnsOn : Known → List Move → Body → ℕ → ℕ → Type 0
TurnsOn known moves body taken now =
    (control : Control) (sought : Sought) (paragraph : ℕ) (rest : List Item) (first : Point) → IsTurn known sought paragraph rest control body first →
    (here : Point) × IsTurn known sought paragraph rest control body here × Quietly known sought (walk first (drop taken moves)) (walk here (drop now moves))

-- what comes of a body with the loop's remainder behind it, where the loop goes on
inner-again : (known : Known) (sought : Sought) (last paragraph : ℕ) (turning : Turning) (body : Body) (rest : List Item) (moves : List Move) (from : Walk) (way : Followed) (now : ℕ) → Cycled now ≡ turned_way way → ComesTo known sought last paragraph (Turn turning body ∷ rest) moves from way →
    Quietly known sought from (walk (at paragraph (Turn turning body ∷ rest)) (drop now moves))
inner-again known sought last paragraph turning body rest moves from (Through later) now e comes = (let k : later ≡ now = cc in subst (λ n. Quietly known sought from (walk (at paragraph (Turn turning body ∷ rest)) (drop n moves))) k comes)
inner-again known sought last paragraph turning body rest moves from (Cycled later) now e comes = (let k : later ≡ now = cc in subst (λ n. Quietly known sought from (walk (at paragraph (Turn turning body ∷ rest)) (drop n moves))) k comes)
inner-again known sought last paragraph turning body rest moves from (Broken later) now e comes = absurd (let k : ⊥ = cc in k)
inner-again known sought last paragraph turning body rest moves from (To to later) now e comes = absurd (let k : ⊥ = cc in k)
inner-again known sought last paragraph turning body rest moves from (Left later) now e comes = absurd (let k : ⊥ = cc in k)
inner-again known sought last paragraph turning body rest moves from (Ended later) now e comes = absurd (let k : ⊥ = cc in k)
inner-again known sought last paragraph turning body rest moves from (SectionEnded later) now e comes = absurd (let k : ⊥ = cc in k)
inner-again known sought last paragraph turning body rest moves from (Met entry exit later) now e comes = absurd (let k : ⊥ = cc in k)
inner-again known sought last paragraph turning body rest moves from Lost now e comes = absurd (let k : ⊥ = cc in k)

-- and where it doesn't
inner-out : (known : Known) (sought : Sought) (last paragraph : ℕ) (turning : Turning) (body : Body) (rest : List Item) (moves : List Move) (from : Walk) (way : Followed) → ((now : ℕ) → turned_way way ≡ Cycled now → ⊥) → ComesTo known sought last paragraph (Turn turning body ∷ rest) moves from way →
    ComesTo known sought last paragraph rest moves from (turned_way way)
inner-out known sought last paragraph turning body rest moves from (Through now) not comes = absurd (not now refl)
inner-out known sought last paragraph turning body rest moves from (Cycled now) not comes = absurd (not now refl)
inner-out known sought last paragraph turning body rest moves from (Broken now) not comes = comes
inner-out known sought last paragraph turning body rest moves from (To to now) not comes = comes
inner-out known sought last paragraph turning body rest moves from (Left now) not comes = comes
inner-out known sought last paragraph turning body rest moves from (Ended now) not comes = comes
inner-out known sought last paragraph turning body rest moves from (SectionEnded now) not comes = comes
inner-out known sought last paragraph turning body rest moves from (Met entry exit now) not comes = comes
inner-out known sought last paragraph turning body rest moves from Lost not comes = comes

-- the same of a turn that is told
out-told : (known : Known) (sought : Sought) (last paragraph : ℕ) (turning : Turning) (body : Body) (rest : List Item) (moves : List Move) (from : Walk) (way turn : Followed) → turn ≡ turned_way way → ((now : ℕ) → turn ≡ Cycled now → ⊥) → ComesTo known sought last paragraph (Turn turning body ∷ rest) moves from way →
    ComesTo known sought last paragraph rest moves from turn
out-told known sought last paragraph turning body rest moves from way turn same not comes =
    subst (λ w. ComesTo known sought last paragraph rest moves from w) (sym same) (inner-out known sought last paragraph turning body rest moves from way (λ now e. not now (same ∙ e)) comes)

module _ (known : Known) (moves : List Move) (last taken : ℕ) where
  -- PERFORM

  pub follows-over : (entry exit number : ℕ) → IsOverFirst moves taken number → is_range (slice_get known.lemmas number) entry exit ≡ true → Follows known moves last taken (also (Perform entry exit) none) (Through (taken + 1))
  follows-over entry exit number e is = λ sought paragraph rest.
      let from = at paragraph (Do (Perform entry exit) ∷ rest) in
      let after = walk (at paragraph rest) (drop (taken + 1) moves) in
      subst (λ ms. Quietly known sought (walk from ms) after) (sym e.0)
      (on_to (walk from (Over number ∷ drop (taken + 1) moves)) after after
      (no-over-meets sought.aim sought.range entry exit number (at paragraph rest) (drop (taken + 1) moves))
      (ap (λ b. if b then Some after else None) is)
      (rests after))

  pub follows-no-lemma : (entry exit number : ℕ) → IsOverFirst moves taken number → is_range (slice_get known.lemmas number) entry exit ≡ false → Follows known moves last taken (also (Perform entry exit) none) Lost
  follows-no-lemma entry exit number e is = λ sought paragraph rest.
      let from = at paragraph (Do (Perform entry exit) ∷ rest) in
      let after = walk (at paragraph rest) (drop (taken + 1) moves) in
      subst (λ ms. IsStuck known sought (walk from ms)) (sym e.0) (
        walk from (Over number ∷ drop (taken + 1) moves),
        rests (walk from (Over number ∷ drop (taken + 1) moves)),
        no-over-meets sought.aim sought.range entry exit number (at paragraph rest) (drop (taken + 1) moves),
        ap (λ b. if b then Some after else None) is,
      )

  pub follows-met : (entry exit : ℕ) → first_over (drop taken moves) ≡ None → Follows known moves last taken (also (Perform entry exit) none) (Met entry exit taken)
  follows-met entry exit h = λ sought paragraph rest.
      let from = at paragraph (Do (Perform entry exit) ∷ rest) in
      (from, at paragraph rest, rests (walk from (drop taken moves)), refl, no-first-over known.lemmas entry exit (at paragraph rest) (drop taken moves) h)

  -- what is left of a loop

  pub turn-leaves : (body : Body) → IsArmFirst moves taken 1 → Turns known moves last taken body (Through (taken + 1))
  turn-leaves body arm = λ control sought paragraph rest first is.
      first-step known sought first (at paragraph rest) (at paragraph (before_body body (Turn (remainder control) body ∷ rest))) moves taken is arm

  turn-begins : (body : Body) → IsArmFirst moves taken 2 → (control : Control) (sought : Sought) (paragraph : ℕ) (rest : List Item) (first : Point) → IsTurn known sought paragraph rest control body first →
      Quietly known sought (walk first (drop taken moves)) (walk (at paragraph (before (body_stmts body) (Turn (remainder control) body ∷ rest))) (drop (taken + 1) moves))
  turn-begins body arm control sought paragraph rest first is =
      subst (λ r. Quietly known sought (walk first (drop taken moves)) (walk (at paragraph r) (drop (taken + 1) moves))) (sym (body-before body (Turn (remainder control) body ∷ rest)))
      (second-step known sought first (at paragraph rest) (at paragraph (before_body body (Turn (remainder control) body ∷ rest))) moves taken is arm)

  pub turn-on : (body : Body) (way : Followed) (now : ℕ) → IsArmFirst moves taken 2 → Cycled now ≡ turned_way way → Follows known moves last (taken + 1) (body_stmts body) way → TurnsOn known moves body taken now
  turn-on body way now arm same follows = λ control sought paragraph rest first is.
      let items = Turn (remainder control) body ∷ rest in
      let inside = walk (at paragraph (before (body_stmts body) items)) (drop (taken + 1) moves) in (
        at paragraph items,
        turn-next known.never_first sought.program paragraph control body rest,
        quietly-then known sought (walk first (drop taken moves)) inside (walk (at paragraph items) (drop now moves)) (turn-begins body arm control sought paragraph rest first is)
            (inner-again known sought last paragraph (remainder control) body rest moves inside way now same (follows sought paragraph items)),
      )

  pub turn-out : (body : Body) (way turn : Followed) → IsArmFirst moves taken 2 → turn ≡ turned_way way → ((now : ℕ) → turn ≡ Cycled now → ⊥) → Follows known moves last (taken + 1) (body_stmts body) way → Turns known moves last taken body turn
  turn-out body way turn arm same not follows = λ control sought paragraph rest first is.
      let items = Turn (remainder control) body ∷ rest in
      let inside = walk (at paragraph (before (body_stmts body) items)) (drop (taken + 1) moves) in
      behind known sought last paragraph rest moves (walk first (drop taken moves)) inside turn (turn-begins body arm control sought paragraph rest first is)
      (out-told known sought last paragraph (remainder control) body rest moves inside way turn same not (follows sought paragraph items))

  pub turn-lost : (body : Body) → ((a b : Option Point) → by_arm (a ∷ b ∷ []) (drop taken moves) ≡ None) → Turns known moves last taken body Lost
  turn-lost body neither = λ control sought paragraph rest first is.
      neither-stuck known sought first (at paragraph rest) (at paragraph (before_body body (Turn (remainder control) body ∷ rest))) moves taken is neither

  -- a loop

  pub loop-before : (control : Control) (body : Body) (way : Followed) → kind_in control ≡ Before → Turns known moves last taken body way → Follows known moves last taken (also (Loop control body) none) way
  loop-before control body way e turns = λ sought paragraph rest.
      let from = at paragraph (Do (Loop control body) ∷ rest) in
      let first = at paragraph (Turn (remainder control) body ∷ rest) in
      behind known sought last paragraph rest moves (walk from (drop taken moves)) (walk first (drop taken moves)) way
      (one-step known sought from first (drop taken moves) (before-next known.never_first sought.program paragraph control body rest e))
      (turns control sought paragraph rest first (turn-next known.never_first sought.program paragraph control body rest))

  pub loop-again : (control : Control) (body : Body) (way : Followed) → kind_in control ≡ Again → Turns known moves last taken body way → Follows known moves last taken (also (Loop control body) none) way
  loop-again control body way e turns = λ sought paragraph rest.
      let from = at paragraph (Do (Loop control body) ∷ rest) in
      let f = again-next known.never_first sought.program paragraph control body rest e in
      behind known sought last paragraph rest moves (walk from (drop taken moves)) (walk f.0 (drop taken moves)) way
      (one-step known sought from f.0 (drop taken moves) f.1.0)
      (turns control sought paragraph rest f.0 f.1.1)

  into-body : (control : Control) (body : Body) → kind_in control ≡ After → (sought : Sought) (paragraph : ℕ) (rest : List Item) →
      Quietly known sought (walk (at paragraph (Do (Loop control body) ∷ rest)) (drop taken moves)) (walk (at paragraph (before (body_stmts body) (Turn (remainder control) body ∷ rest))) (drop taken moves))
  into-body control body e sought paragraph rest =
      subst (λ r. Quietly known sought (walk (at paragraph (Do (Loop control body) ∷ rest)) (drop taken moves)) (walk (at paragraph r) (drop taken moves))) (sym (body-before body (Turn (remainder control) body ∷ rest)))
      (one-step known sought (at paragraph (Do (Loop control body) ∷ rest)) (at paragraph (before_body body (Turn (remainder control) body ∷ rest))) (drop taken moves) (after-next known.never_first sought.program paragraph control body rest e))

  pub loop-after : (control : Control) (body : Body) (inner way : Followed) (now : ℕ) → kind_in control ≡ After → Cycled now ≡ turned_way inner → Follows known moves last taken (body_stmts body) inner → Turns known moves last now body way → Follows known moves last taken (also (Loop control body) none) way
  loop-after control body inner way now e same follows turns = λ sought paragraph rest.
      let items = Turn (remainder control) body ∷ rest in
      let from = walk (at paragraph (Do (Loop control body) ∷ rest)) (drop taken moves) in
      let inside = walk (at paragraph (before (body_stmts body) items)) (drop taken moves) in
      let first = walk (at paragraph items) (drop now moves) in
      behind known sought last paragraph rest moves from first way
      (quietly-then known sought from inside first (into-body control body e sought paragraph rest) (inner-again known sought last paragraph (remainder control) body rest moves inside inner now same (follows sought paragraph items)))
      (turns control sought paragraph rest (at paragraph items) (turn-next known.never_first sought.program paragraph control body rest))

  pub loop-out : (control : Control) (body : Body) (inner way : Followed) → kind_in control ≡ After → way ≡ turned_way inner → ((now : ℕ) → way ≡ Cycled now → ⊥) → Follows known moves last taken (body_stmts body) inner → Follows known moves last taken (also (Loop control body) none) way
  loop-out control body inner way e same not follows = λ sought paragraph rest.
      let items = Turn (remainder control) body ∷ rest in
      let from = walk (at paragraph (Do (Loop control body) ∷ rest)) (drop taken moves) in
      let inside = walk (at paragraph (before (body_stmts body) items)) (drop taken moves) in
      behind known sought last paragraph rest moves from inside way (into-body control body e sought paragraph rest)
      (out-told known sought last paragraph (remainder control) body rest moves inside inner way same not (follows sought paragraph items))

  -- an inline PERFORM without control
  pub once-through : (body : Stmts) (way : Followed) → Follows known moves last taken body way → Follows known moves last taken (also (Choose (If (Holds always)) (given body done)) none) way
  once-through body way follows = λ sought paragraph rest.
      let from = at paragraph (Do (Choose (If (Holds always)) (given body done)) ∷ rest) in
      let to = at paragraph (before body rest) in
      behind known sought last paragraph rest moves (walk from (drop taken moves)) (walk to (drop taken moves)) way (one-step known sought from to (drop taken moves) refl) (follows sought paragraph rest)

module _ (known : Known) (moves : List Move) (body : Body) where
  pub turns-begin : (taken : ℕ) → TurnsOn known moves body taken taken
  turns-begin taken = λ control sought paragraph rest first is. (first, is, rests (walk first (drop taken moves)))

  pub turns-join : (a b c : ℕ) → TurnsOn known moves body a b → TurnsOn known moves body b c → TurnsOn known moves body a c
  turns-join a b c one two = λ control sought paragraph rest first is.
      let f = one control sought paragraph rest first is in
      let s = two control sought paragraph rest f.0 f.1 in
      (s.0, s.1, quietly-then known sought (walk first (drop a moves)) (walk f.0 (drop b moves)) (walk s.0 (drop c moves)) f.2 s.2)

  pub turns-end : (last a b : ℕ) (way : Followed) → TurnsOn known moves body a b → Turns known moves last b body way → Turns known moves last a body way
  turns-end last a b way one turns = λ control sought paragraph rest first is.
      let f = one control sought paragraph rest first is in
      behind known sought last paragraph rest moves (walk first (drop a moves)) (walk f.0 (drop b moves)) way f.2 (turns control sought paragraph rest f.0 f.1)
