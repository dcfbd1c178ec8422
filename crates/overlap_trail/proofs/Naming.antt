-- GO TO DEPENDING.
use Rattle.std.proofs.Common.{◌≡◌, ◌+◌, ◌<◌, ◌≤◌, ◌==◌, ℕ, zero, suc, Bool, true, false, if◌then◌else◌, List, [], ◌∷◌, ◌++◌, map, drop, length, Option, Some, None, slice_get, refl, ap, sym, ◌∙◌, arith, eqb-true}
use Rattle.control_flow_theory.specs.language.Language.{Chooser, GoDepending, Program, also, none}
use Rattle.control_flow_theory.specs.language.Items.{Item, Do}
use Rattle.control_flow_theory.specs.semantics.Items.{way_after, to_one}
use Rattle.program_points.specs.declared.paths.trail.Move.{Move}
use Rattle.program_points.specs.paths.Step.{Point, at, start, by_way, led, Ways, ways_from, ways_of, next, way_at, no_way, only}
use Rattle.program_points.specs.paths.Accepted.{walk, walk_to, arm_at, by_arm, by_choice}
use Rattle.overlap_trail.specs.declared.follow.Followed.TheVariants.{Through, To, Lost}
use Rattle.overlap_trail.specs.Follow.{Known, Sought, next_at, Follows, IsArmFirst, first_arm}
use Rattle.overlap_trail.proofs.Steps.{no-first-arm, one-step, choice-goes, choice-step, choice-stuck}

-- the ways of the names, and behind them this point
abbrev named_ways : Program → List ℕ → Point → List (Option Point)
named_ways program names point = map (λ (n : ℕ). Some (start program n)) names ++ Some point ∷ []

ways-named : (never_first : Chooser → Bool) (program : Program) (number : ℕ) (on_it : Chooser) (rest : List Item) (whole names : List ℕ) (way : ℕ) → ((k : ℕ) → slice_get whole (way + k) ≡ slice_get names k) →
    ways_from never_first program number way (suc (length names)) (Do (GoDepending whole on_it)) rest ≡ named_ways program names (at number rest)
ways-named never_first program number on_it rest whole [] way same =
    let none_more : way ≡ way + 0 = omega arith in
    let first : slice_get whole way ≡ None = ap (λ n. slice_get whole n) none_more ∙ same 0 in
    ap (λ (o : Option ℕ). led program number (way_after [] (to_one (by_way way) o rest tt)) ∷ []) first
ways-named never_first program number on_it rest whole (name ∷ names) way same =
    let none_more : way ≡ way + 0 = omega arith in
    let first : slice_get whole way ≡ Some name = ap (λ n. slice_get whole n) none_more ∙ same 0 in
    ap (λ (o : Option ℕ). led program number (way_after [] (to_one (by_way way) o rest tt)) ∷ ways_from never_first program number (suc way) (suc (length names)) (Do (GoDepending whole on_it)) rest) first
    ∙ ap (λ ws. Some (start program name) ∷ ws) (ways-named never_first program number on_it rest whole names (suc way) (λ k. (let more : suc way + k ≡ way + suc k = omega arith in ap (λ n. slice_get whole n) more ∙ same (suc k))))

depending-next : (never_first : Chooser → Bool) (program : Program) (number : ℕ) (on_it : Chooser) (rest : List Item) (names : List ℕ) →
    next never_first program (at number (Do (GoDepending names on_it) ∷ rest)) ≡ Ways (ways_of never_first program number (Do (GoDepending names on_it)) rest)
depending-next never_first program number on_it rest [] = refl
depending-next never_first program number on_it rest (name ∷ names) = refl

named-next : (known : Known) (sought : Sought) (paragraph : ℕ) (on_it : Chooser) (rest : List Item) (names : List ℕ) → next_at known sought (at paragraph (Do (GoDepending names on_it) ∷ rest)) ≡ Ways (named_ways sought.program names (at paragraph rest))
named-next known sought paragraph on_it rest names =
    depending-next known.never_first sought.program paragraph on_it rest names
    ∙ ap (λ (ws : List (Option Point)). Ways ws) (ways-named known.never_first sought.program paragraph on_it rest names names 0 (λ k. (let same : 0 + k ≡ k = omega arith in ap (λ n. slice_get names n) same)))

named-there : (program : Program) (names : List ℕ) (point : Point) → no_way (named_ways program names point) ≡ false
named-there program [] point = refl
named-there program (name ∷ names) point = refl

several-named : (program : Program) (names : List ℕ) (point : Point) → (names ≡ [] → ⊥) → only (named_ways program names point) ≡ None
several-named program [] point some = absurd (some refl)
several-named program (name ∷ names) point some = ap (λ b. if b then Some (start program name) else None) (named-there program names point)

named-at : (program : Program) (names : List ℕ) (point : Point) (index name : ℕ) → slice_get names index ≡ Some name → way_at (named_ways program names point) index ≡ Some (start program name)
named-at program [] point index name e = absurd (let k : ⊥ = cc in k)
named-at program (other ∷ names) point zero name e = (let k : other ≡ name = cc in ap (λ n. Some (start program n)) k)
named-at program (other ∷ names) point (suc index) name e = named-at program names point index name e

named-last : (program : Program) (names : List ℕ) (point : Point) (index : ℕ) → index ≡ length names → way_at (named_ways program names point) index ≡ Some point
named-last program [] point index e = ap (λ n. way_at (Some point ∷ []) n) e
named-last program (name ∷ names) point zero e = absurd (omega arith)
named-last program (name ∷ names) point (suc index) e = named-last program names point index (omega arith)

named-past : (program : Program) (names : List ℕ) (point : Point) (index : ℕ) → length names < index → way_at (named_ways program names point) index ≡ None
named-past program [] point zero lt = absurd (omega arith)
named-past program [] point (suc index) lt = refl
named-past program (name ∷ names) point zero lt = absurd (omega arith)
named-past program (name ∷ names) point (suc index) lt = named-past program names point index (omega arith)

module _ (known : Known) (moves : List Move) (last taken : ℕ) (names : List ℕ) (on_it : Chooser) where
  pub depending-alone : names ≡ [] → Follows known moves last taken (also (GoDepending names on_it) none) (Through taken)
  depending-alone e = λ sought paragraph rest.
      one-step known sought (at paragraph (Do (GoDepending names on_it) ∷ rest)) (at paragraph rest) (drop taken moves)
      (named-next known sought paragraph on_it rest names ∙ ap (λ ns. Ways (named_ways sought.program ns (at paragraph rest))) e)

  -- where several ways are named, the way of the next move is taken
  named-choice : (program : Program) (point : Point) (number index : ℕ) (way : Option Point) → (names ≡ [] → ⊥) → IsArmFirst moves taken number → number ≡ suc index → way_at (named_ways program names point) index ≡ way →
      by_choice (only (named_ways program names point)) (named_ways program names point) (drop taken moves) ≡ walk_to way (drop (taken + 1) moves)
  named-choice program point number index way some arm n w =
      let ways = named_ways program names point in
      ap (λ o. by_choice o ways (drop taken moves)) (several-named program names point some) ∙ ap (λ ms. by_arm ways ms) arm.0
      ∙ ap (λ k. walk_to (arm_at ways k) (drop (taken + 1) moves)) n ∙ ap (λ o. walk_to o (drop (taken + 1) moves)) w

  pub depending-goes : (number index name : ℕ) → (names ≡ [] → ⊥) → IsArmFirst moves taken number → number ≡ suc index → slice_get names index ≡ Some name → Follows known moves last taken (also (GoDepending names on_it) none) (To name (taken + 1))
  depending-goes number index name some arm n is = λ sought paragraph rest.
      let from = at paragraph (Do (GoDepending names on_it) ∷ rest) in
      choice-goes known sought from (walk (start sought.program name) (drop (taken + 1) moves)) (named_ways sought.program names (at paragraph rest)) (drop taken moves) (named-next known sought paragraph on_it rest names)
      (named-choice sought.program (at paragraph rest) number index (Some (start sought.program name)) some arm n (named-at sought.program names (at paragraph rest) index name is))

  pub depending-through : (number index : ℕ) → (names ≡ [] → ⊥) → IsArmFirst moves taken number → number ≡ suc index → index ≡ length names → Follows known moves last taken (also (GoDepending names on_it) none) (Through (taken + 1))
  depending-through number index some arm n is = λ sought paragraph rest.
      choice-step known sought (at paragraph (Do (GoDepending names on_it) ∷ rest)) (walk (at paragraph rest) (drop (taken + 1) moves)) (named_ways sought.program names (at paragraph rest)) (drop taken moves) (named-next known sought paragraph on_it rest names)
      (named-choice sought.program (at paragraph rest) number index (Some (at paragraph rest)) some arm n (named-last sought.program names (at paragraph rest) index is))

  pub depending-past : (number index : ℕ) → (names ≡ [] → ⊥) → IsArmFirst moves taken number → number ≡ suc index → length names < index → Follows known moves last taken (also (GoDepending names on_it) none) Lost
  depending-past number index some arm n lt = λ sought paragraph rest.
      choice-stuck known sought (at paragraph (Do (GoDepending names on_it) ∷ rest)) (named_ways sought.program names (at paragraph rest)) (drop taken moves) (named-next known sought paragraph on_it rest names)
      (named-choice sought.program (at paragraph rest) number index None some arm n (named-past sought.program names (at paragraph rest) index lt))

  pub depending-zero : (number : ℕ) → (names ≡ [] → ⊥) → IsArmFirst moves taken number → number ≡ 0 → Follows known moves last taken (also (GoDepending names on_it) none) Lost
  depending-zero number some arm n = λ sought paragraph rest.
      let ways = named_ways sought.program names (at paragraph rest) in
      choice-stuck known sought (at paragraph (Do (GoDepending names on_it) ∷ rest)) ways (drop taken moves) (named-next known sought paragraph on_it rest names)
      (ap (λ o. by_choice o ways (drop taken moves)) (several-named sought.program names (at paragraph rest) some) ∙ ap (λ ms. by_arm ways ms) arm.0 ∙ ap (λ k. walk_to (arm_at ways k) (drop (taken + 1) moves)) n)

  pub depending-no-move : (names ≡ [] → ⊥) → first_arm (drop taken moves) ≡ None → Follows known moves last taken (also (GoDepending names on_it) none) Lost
  depending-no-move some missing = λ sought paragraph rest.
      let ways = named_ways sought.program names (at paragraph rest) in
      choice-stuck known sought (at paragraph (Do (GoDepending names on_it) ∷ rest)) ways (drop taken moves) (named-next known sought paragraph on_it rest names)
      (ap (λ o. by_choice o ways (drop taken moves)) (several-named sought.program names (at paragraph rest) some) ∙ no-first-arm ways (drop taken moves) missing)

pub no-names : (names : List ℕ) → true ≡ (length names == 0) → names ≡ []
no-names [] h = refl
no-names (name ∷ names) h = absurd (let k : length (name ∷ names) ≡ 0 = eqb-true (length (name ∷ names)) 0 (sym h) in omega arith)

pub some-names : (names : List ℕ) → false ≡ (length names == 0) → names ≡ [] → ⊥
some-names [] h e = (let k : ⊥ = cc in k)
some-names (name ∷ names) h e = (let k : ⊥ = cc in k)

pub past-names : (names : List ℕ) (index : ℕ) → slice_get names index ≡ None → length names ≤ index
past-names [] index e = omega arith
past-names (name ∷ names) zero e = absurd (let k : ⊥ = cc in k)
past-names (name ∷ names) (suc index) e = (let h : length names ≤ index = past-names names index e in omega arith)
