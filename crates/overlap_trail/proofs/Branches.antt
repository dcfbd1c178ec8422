-- Branches, and the statements that choose among them.
use Rattle.std.proofs.Common.{◌≡◌, ◌+◌, ◌<◌, ◌≤◌, ℕ, zero, suc, Bool, true, false, List, [], ◌∷◌, ◌++◌, map, drop, length, get_or, Option, Some, None, option_map, is_some, slice_get, refl, ap, sym, ◌∙◌, subst, arith, lt-ltb}
use Rattle.std.specs.Prelude.{nat_lt}
use Rattle.std.proofs.lemmas.Option.{slice_get_read}
use Rattle.cob_tree.specs.declared.calc.Calc.{Calc}
use Rattle.cob_tree.specs.declared.calc.Target.{Target}
use Rattle.cob_tree.specs.declared.choice.Subject.{Subject}
use Rattle.cob_tree.specs.declared.cond.Cond.{Cond}
use Rattle.cob_tree.specs.declared.file.FileEntry.{FileEntry}
use Rattle.cob_tree.specs.declared.place.Place as places
use Rattle.cob_tree.specs.declared.stmt.Stmt as tree
use Rattle.cob_tree.specs.declared.stmt.When.{When, out-When}
use Rattle.control_flow_theory.specs.language.Language.{Picker, By, If, Read, Arith, Choose, Arms, done, given, Stmts, none, also, Stmt}
use Rattle.control_flow_theory.specs.language.Language as language
use Rattle.control_flow_theory.specs.language.Items.{Item, Do, before}
use Rattle.control_flow_theory.specs.language.Control.{test_of, arith_of, arith_stmt, both_arms, arm_before, else_of, Branch, branches_before, tests_of, evaluate_of, seen, seen_when, seen_stmts}
use Rattle.control_flow_theory.proofs.language_lemmas.Rows.{seen_if_any, seen_when_is}
use Rattle.program_points.specs.declared.paths.trail.Move.{Move}
use Rattle.program_points.specs.paths.Step.{Point, at, way_at, only, first_is_barred}
use Rattle.program_points.specs.paths.Accepted.{walk, walk_to, arm_at, by_arm, by_choice}
use Rattle.program_points.specs.numbering.Kind.{is_silent}
use Rattle.program_points.specs.numbering.Build.{branches_of, branch_points, seen_maybe, seen_branches}
use Rattle.overlap_trail.specs.declared.follow.Followed.{Followed}
use Rattle.overlap_trail.specs.declared.follow.Followed.TheVariants.{Through, Lost}
use Rattle.overlap_trail.specs.Follow.{Known, known_of, rests, ComesTo, Follows, FollowsBranches, FollowsArm, FollowsBoth, IsArmFirst, AreSeveral, Picks, PicksNone, first_arm}
use Rattle.program_points.specs.declared.paths.trail.Lemma.{Lemma}
use Rattle.overlap_trail.proofs.Steps.{no-first-arm, behind, one-step, choice-step, choice-stuck, first-step, second-step, neither-stuck}
use Rattle.overlap_trail.proofs.Rows.{never, IsCounted, choose-next, if-branches, evaluate-branches, evaluate-counted, evaluate-barred, both, both_branches, both-branches, barred-arith}

-- the statements of WHENs, and behind them those of WHEN OTHER
abbrev pub branches_with : ℕ → List When → Option (List tree.Stmt) → List Stmts
branches_with last whens other = seen_branches last whens ++ seen_maybe last other ∷ []

abbrev branch_point : ℕ → List Item → Stmts → Point
branch_point paragraph rest stmts = at paragraph (before stmts rest)

way-branch : (paragraph : ℕ) (rest : List Item) (branches : List Stmts) (index : ℕ) → way_at (branch_points paragraph rest branches) index ≡ option_map (branch_point paragraph rest) (slice_get branches index)
way-branch paragraph rest [] index = refl
way-branch paragraph rest (b ∷ bs) zero = refl
way-branch paragraph rest (b ∷ bs) (suc index) = way-branch paragraph rest bs index

module _ (known : Known) (moves : List Move) (last taken : ℕ) where
  -- one of two

  pub two-first : (first second : Stmts) (way : Followed) → IsArmFirst moves taken 1 → Follows known moves last (taken + 1) first way → FollowsBranches known moves last taken (first ∷ second ∷ []) way
  two-first first second way arm follows = λ sought paragraph rest from is.
      let to = at paragraph (before first rest) in
      behind known sought last paragraph rest moves (walk from (drop taken moves)) (walk to (drop (taken + 1) moves)) way
      (first-step known sought from to (at paragraph (before second rest)) moves taken is arm) (follows sought paragraph rest)

  pub two-second : (first second : Stmts) (way : Followed) → IsArmFirst moves taken 2 → Follows known moves last (taken + 1) second way → FollowsBranches known moves last taken (first ∷ second ∷ []) way
  two-second first second way arm follows = λ sought paragraph rest from is.
      let to = at paragraph (before second rest) in
      behind known sought last paragraph rest moves (walk from (drop taken moves)) (walk to (drop (taken + 1) moves)) way
      (second-step known sought from (at paragraph (before first rest)) to moves taken is arm) (follows sought paragraph rest)

  pub two-lost : (first second : Stmts) → ((a b : Option Point) → by_arm (a ∷ b ∷ []) (drop taken moves) ≡ None) → FollowsBranches known moves last taken (first ∷ second ∷ []) Lost
  two-lost first second neither = λ sought paragraph rest from is.
      neither-stuck known sought from (at paragraph (before first rest)) (at paragraph (before second rest)) moves taken is neither

  -- nothing to follow
  pub none-through : (now : ℕ) → Follows known moves last now none (Through now)
  none-through now = λ sought paragraph rest. rests (walk (at paragraph rest) (drop now moves))

  -- one of several

  pub picked : (branches : List Stmts) (index now : ℕ) (way : Followed) → Picks moves taken branches index now → FollowsArm known moves last now (slice_get branches index) way → FollowsBranches known moves last taken branches way
  picked branches index now way picks follows =
      (elim (slice_get branches index) as (λ o. slice_get branches index ≡ o → FollowsArm known moves last now o way → FollowsBranches known moves last taken branches way) [
        | None ↦ λ e lost sought paragraph rest from is.
            subst (λ w. ComesTo known sought last paragraph rest moves (walk from (drop taken moves)) w) (sym lost)
            (choice-stuck known sought from (branch_points paragraph rest branches) (drop taken moves) is
            (picks.chosen paragraph rest ∙ ap (λ o. walk_to o (drop now moves)) (way-branch paragraph rest branches index ∙ ap (λ o. option_map (branch_point paragraph rest) o) e)))
        | Some stmts ↦ λ e inner sought paragraph rest from is.
            let via = walk (at paragraph (before stmts rest)) (drop now moves) in
            behind known sought last paragraph rest moves (walk from (drop taken moves)) via way
            (choice-step known sought from via (branch_points paragraph rest branches) (drop taken moves) is
            (picks.chosen paragraph rest ∙ ap (λ o. walk_to o (drop now moves)) (way-branch paragraph rest branches index ∙ ap (λ o. option_map (branch_point paragraph rest) o) e)))
            (inner sought paragraph rest)
      ]) refl follows

  pub not-picked : (branches : List Stmts) → PicksNone moves taken branches → FollowsBranches known moves last taken branches Lost
  not-picked branches picks = λ sought paragraph rest from is. choice-stuck known sought from (branch_points paragraph rest branches) (drop taken moves) is (picks paragraph rest)

  -- a statement that chooses among them
  pub chosen : (stmt : Stmt) (picker : Picker) (arms : Arms) (branches : List Stmts) (way : Followed) → stmt ≡ Choose picker arms → IsCounted arms → first_is_barred known.never_first (Do (Choose picker arms)) ≡ false → branches_of arms ≡ branches → FollowsBranches known moves last taken branches way →
      Follows known moves last taken (also stmt none) way
  chosen stmt picker arms branches way e some is same follows =
      subst (λ (s : Stmt). Follows known moves last taken (also s none) way) (sym e) (λ sought paragraph rest.
      follows sought paragraph rest (at paragraph (Do (Choose picker arms) ∷ rest)) (choose-next known.never_first sought.program paragraph picker rest arms false branches some is same))

-- the arms as they were found
pub both-as : (known : Known) (moves : List Move) (last taken : ℕ) (first second f s : Option (List tree.Stmt)) (silent b : Bool) (way : Followed) → first ≡ f → second ≡ s → silent ≡ b → FollowsBoth known moves last taken f s b way → FollowsBoth known moves last taken first second silent way
both-as known moves last taken first second f s silent b way one two three follows =
    subst (λ x. FollowsBoth known moves last taken x second silent way) (sym one) (subst (λ x. FollowsBoth known moves last taken f x silent way) (sym two) (subst (λ x. FollowsBoth known moves last taken f s x way) (sym three) follows))

-- what is picked

pub pick-one : (moves : List Move) (taken : ℕ) (branches : List Stmts) → taken ≤ length moves → AreSeveral false branches → Picks moves taken branches 0 taken
pick-one moves taken [] le are = absurd are
pick-one moves taken (b ∷ []) le are = record { chosen = λ paragraph rest. refl; taken_then = (omega arith, le) }
pick-one moves taken (b ∷ c ∷ bs) le are = absurd (let k : ⊥ = cc in k)

by-several : (moves : List Move) (branches : List Stmts) (paragraph : ℕ) (rest : List Item) → AreSeveral true branches → by_choice (only (branch_points paragraph rest branches)) (branch_points paragraph rest branches) moves ≡ by_arm (branch_points paragraph rest branches) moves
by-several moves [] paragraph rest are = absurd are
by-several moves (b ∷ []) paragraph rest are = absurd (let k : ⊥ = cc in k)
by-several moves (b ∷ c ∷ bs) paragraph rest are = refl

pub pick-arm : (moves : List Move) (taken : ℕ) (branches : List Stmts) (number index : ℕ) → AreSeveral true branches → IsArmFirst moves taken number → number ≡ suc index → Picks moves taken branches index (taken + 1)
pick-arm moves taken branches number index are arm n = record {
  chosen = λ paragraph rest.
      let ways = branch_points paragraph rest branches in
      by-several (drop taken moves) branches paragraph rest are ∙ ap (λ ms. by_arm ways ms) arm.0 ∙ ap (λ k. walk_to (arm_at ways k) (drop (taken + 1) moves)) n;
  taken_then = (omega arith, omega (arith, arm.1));
}

pub pick-zero : (moves : List Move) (taken : ℕ) (branches : List Stmts) (number : ℕ) → AreSeveral true branches → IsArmFirst moves taken number → number ≡ 0 → PicksNone moves taken branches
pick-zero moves taken branches number are arm n = λ paragraph rest.
    let ways = branch_points paragraph rest branches in
    by-several (drop taken moves) branches paragraph rest are ∙ ap (λ ms. by_arm ways ms) arm.0 ∙ ap (λ k. walk_to (arm_at ways k) (drop (taken + 1) moves)) n

pub pick-no-move : (moves : List Move) (taken : ℕ) (branches : List Stmts) → AreSeveral true branches → first_arm (drop taken moves) ≡ None → PicksNone moves taken branches
pick-no-move moves taken branches are missing = λ paragraph rest.
    by-several (drop taken moves) branches paragraph rest are ∙ no-first-arm (branch_points paragraph rest branches) (drop taken moves) missing

-- statements of the tree

module _ (files : List FileEntry) (lemmas : List Lemma) (moves : List Move) (last taken : ℕ) where
  abbrev known : Known
  known = known_of files lemmas

  pub if-followed : (cond : Cond) (met unmet : List tree.Stmt) (way : Followed) → FollowsBranches known moves last taken (seen_stmts last met ∷ seen_stmts last unmet ∷ []) way →
      Follows known moves last taken (also (Choose (If (test_of cond)) (given (seen_stmts last met) (arm_before (else_of (map (seen last) unmet)) done))) none) way
  if-followed cond met unmet way follows =
      let arms = given (seen_stmts last met) (arm_before (else_of (map (seen last) unmet)) done) in
      chosen known moves last taken (Choose (If (test_of cond)) arms) (If (test_of cond)) arms (seen_stmts last met ∷ seen_stmts last unmet ∷ []) way refl refl refl (if-branches (seen_stmts last met) (map (seen last) unmet)) follows

  pub evaluate-followed : (subject : Subject) (whens : List When) (other : Option (List tree.Stmt)) (way : Followed) → FollowsBranches known moves last taken (branches_with last whens other) way →
      Follows known moves last taken (also (Choose (evaluate_of subject (tests_of (map (seen_when last) whens)) (is_some other)) (branches_before (map (seen_when last) whens) (arm_before (seen_if_any last other) done))) none) way
  evaluate-followed subject whens other way follows =
      let picker = evaluate_of subject (tests_of (map (seen_when last) whens)) (is_some other) in
      let arms = branches_before (map (seen_when last) whens) (arm_before (seen_if_any last other) done) in
      chosen known moves last taken (Choose picker arms) picker arms (branches_with last whens other) way refl (evaluate-counted files last (map (seen_when last) whens) other)
      (evaluate-barred files last subject (tests_of (map (seen_when last) whens)) (is_some other) arms) (evaluate-branches files last whens other) follows

  arith-chosen : (calc : Calc) (into : List Target) (first second : Option (List tree.Stmt)) (way : Followed) → arith_stmt calc into (both files last first second) ≡ Choose (By (Arith calc into)) (both_arms (both files last first second)) → IsCounted (both_arms (both files last first second)) →
      FollowsBranches known moves last taken (both_branches files last first second) way → Follows known moves last taken (also (arith_stmt calc into (both files last first second)) none) way
  arith-chosen calc into first second way e some follows =
      chosen known moves last taken (arith_stmt calc into (both files last first second)) (By (Arith calc into)) (both_arms (both files last first second)) (both_branches files last first second) way e some (barred-arith files last calc into (both_arms (both files last first second))) (both-branches files last first second) follows

  pub arith-followed : (calc : Calc) (into : List Target) (first second : Option (List tree.Stmt)) (way : Followed) → FollowsBoth known moves last taken first second false way → Follows known moves last taken (also (arith_stmt calc into (both files last first second)) none) way
  arith-followed calc into None None way is = subst (λ w. Follows known moves last taken (also (arith_stmt calc into (both files last None None)) none) w) (sym is)
      (λ sought paragraph rest. one-step known sought (at paragraph (Do (language.Do (arith_of calc into)) ∷ rest)) (at paragraph rest) (drop taken moves) refl)
  arith-followed calc into None (Some second) way follows = arith-chosen calc into None (Some second) way refl refl follows
  arith-followed calc into (Some first) None way follows = arith-chosen calc into (Some first) None way refl refl follows
  arith-followed calc into (Some first) (Some second) way follows = arith-chosen calc into (Some first) (Some second) way refl refl follows

  abbrev pub Reading : ℕ → Option places.Place → Option (List tree.Stmt) → Option (List tree.Stmt) → Stmt
  Reading file into first second = Choose (By (Read file into (is_some (seen_if_any last first)))) (both_arms (both files last first second))

  read-chosen : (file : ℕ) (into : Option places.Place) (first second : Option (List tree.Stmt)) (way : Followed) → IsCounted (both_arms (both files last first second)) → first_is_barred (never files last) (Do (Reading file into first second)) ≡ false →
      FollowsBranches known moves last taken (both_branches files last first second) way → Follows known moves last taken (also (Reading file into first second) none) way
  read-chosen file into first second way some is follows =
      chosen known moves last taken (Reading file into first second) (By (Read file into (is_some (seen_if_any last first)))) (both_arms (both files last first second)) (both_branches files last first second) way refl some is (both-branches files last first second) follows

  read-second : (file : ℕ) (into : Option places.Place) (second : List tree.Stmt) (silent : Bool) (way : Followed) → is_silent files file ≡ silent → FollowsBoth known moves last taken None (Some second) silent way → Follows known moves last taken (also (Reading file into None (Some second)) none) way
  read-second file into second true way is follows = λ sought paragraph rest.
      let from = at paragraph (Do (Reading file into None (Some second)) ∷ rest) in
      let to = at paragraph (before (seen_stmts last second) rest) in
      behind known sought last paragraph rest moves (walk from (drop taken moves)) (walk to (drop taken moves)) way
      (choice-step known sought from (walk to (drop taken moves)) (None ∷ Some to ∷ []) (drop taken moves)
      (choose-next known.never_first sought.program paragraph (By (Read file into false)) rest (both_arms (both files last None (Some second))) true (both_branches files last None (Some second)) refl is (both-branches files last None (Some second))) refl)
      (follows sought paragraph rest)
  read-second file into second false way is follows = read-chosen file into None (Some second) way refl is follows

  pub read-followed : (file : ℕ) (into : Option places.Place) (first second : Option (List tree.Stmt)) (silent : Bool) (way : Followed) → silent ≡ is_silent files file → FollowsBoth known moves last taken first second silent way → Follows known moves last taken (also (Reading file into first second) none) way
  read-followed file into None None silent way is told = subst (λ w. Follows known moves last taken (also (Reading file into None None) none) w) (sym told)
      (λ sought paragraph rest. one-step known sought (at paragraph (Do (Reading file into None None) ∷ rest)) (at paragraph rest) (drop taken moves) refl)
  read-followed file into None (Some second) silent way is follows = read-second file into second silent way (sym is) follows
  read-followed file into (Some first) None silent way is follows = read-chosen file into (Some first) None way refl refl follows
  read-followed file into (Some first) (Some second) silent way is follows = read-chosen file into (Some first) (Some second) way refl refl follows

-- branches by their number

whens-last : (last : ℕ) (whens : List When) (behind_them : Stmts) → slice_get (seen_branches last whens ++ behind_them ∷ []) (length whens) ≡ Some behind_them
whens-last last [] behind_them = refl
whens-last last (w ∷ ws) behind_them = whens-last last ws behind_them

whens-many : (last : ℕ) (whens : List When) (other : Option (List tree.Stmt)) → AreSeveral (nat_lt 0 (length whens)) (branches_with last whens other)
whens-many last [] other = refl
whens-many last (w ∷ []) other = refl
whens-many last (w ∷ v ∷ ws) other = lt-ltb 0 (suc (suc (length ws))) (omega arith)

whens-short : (last : ℕ) (whens : List When) (index : ℕ) (when : When) → slice_get whens index ≡ Some when → slice_get (seen_branches last whens) index ≡ Some (seen_when last when).arm
whens-short last [] index when e = absurd (let k : ⊥ = cc in k)
whens-short last (w ∷ ws) zero when e = (let k : w ≡ when = cc in ap (λ (x : When). Some (seen_when last x).arm) k)
whens-short last (w ∷ ws) (suc index) when e = whens-short last ws index when e

pub when-there : (last : ℕ) (whens items : List When) (index : ℕ) (when : When) → items ≡ whens → index < length items → when ≡ get_or items index when → slice_get (seen_branches last whens) index ≡ Some (seen_stmts last (out-When when).stmts)
when-there last whens items index when same lt is =
    ap (λ ws. slice_get (seen_branches last ws) index) (sym same) ∙ whens-short last items index when (slice_get_read items (length items) index when refl lt is) ∙ ap (λ (b : Branch). Some b.arm) (seen_when_is last when)

pub when-past : (last : ℕ) (whens : List When) (index : ℕ) → length whens ≤ index → slice_get (seen_branches last whens) index ≡ None
when-past last [] index le = refl
when-past last (w ∷ ws) zero le = absurd (omega arith)
when-past last (w ∷ ws) (suc index) le = when-past last ws index (omega arith)

pub when-last : (last : ℕ) (whens : List When) (other : Option (List tree.Stmt)) (index : ℕ) → index ≡ length whens → slice_get (branches_with last whens other) index ≡ Some (seen_maybe last other)
when-last last whens other index e = ap (λ n. slice_get (branches_with last whens other) n) e ∙ whens-last last whens (seen_maybe last other)

other-apart : (last : ℕ) (whens : List When) (behind_them : Stmts) (index : ℕ) → (index ≡ length whens → ⊥) → slice_get (seen_branches last whens ++ behind_them ∷ []) index ≡ slice_get (seen_branches last whens) index
other-apart last [] behind_them zero apart = absurd (apart refl)
other-apart last [] behind_them (suc index) apart = refl
other-apart last (w ∷ ws) behind_them zero apart = refl
other-apart last (w ∷ ws) behind_them (suc index) apart = other-apart last ws behind_them index (λ e. apart (ap (λ n. suc n) e))

pub not-other : (last : ℕ) (whens : List When) (other : Option (List tree.Stmt)) (index : ℕ) → (index ≡ length whens → ⊥) → slice_get (branches_with last whens other) index ≡ slice_get (seen_branches last whens) index
not-other last whens other index apart = other-apart last whens (seen_maybe last other) index apart

pub whens-several : (last : ℕ) (whens : List When) (other : Option (List tree.Stmt)) (count : ℕ) → count ≡ length whens → AreSeveral (nat_lt 0 count) (branches_with last whens other)
whens-several last whens other count size = subst (λ n. AreSeveral (nat_lt 0 n) (branches_with last whens other)) (sym size) (whens-many last whens other)
