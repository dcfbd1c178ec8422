-- Statements, one after the other.
use Rattle.std.proofs.Common.{◌≡◌, ◌+◌, ◌<◌, ◌≤◌, ℕ, zero, suc, true, false, List, [], ◌∷◌, drop, length, get_or, refl, ap, sym, ◌∙◌, subst, arith, add-one}
use Rattle.cob_tree.specs.declared.stmt.Stmt as tree
use Rattle.control_flow_theory.specs.language.Language.{Act, Go, NextSentence, StopRun, ExitParagraph, ExitSection, ExitPerform, Stmts, none, also, Stmt}
use Rattle.control_flow_theory.specs.language.Language as language
use Rattle.control_flow_theory.specs.language.Items.{Item, Do, before, past_sentence, from_loop}
use Rattle.control_flow_theory.specs.language.Control.{seen, seen_stmts}
use Rattle.program_points.specs.declared.paths.trail.Move.{Move}
use Rattle.program_points.specs.paths.Step.{at, start}
use Rattle.program_points.specs.paths.Accepted.{Walk, walk}
use Rattle.program_points.proofs.numbering_lemmas.Growing.{past-before, loop-before}
use Rattle.overlap_trail.specs.declared.follow.Followed.{Followed}
use Rattle.overlap_trail.specs.declared.follow.Followed.TheVariants.{Through, To, Left, Ended, SectionEnded, Broken, Cycled, Met, Lost}
use Rattle.overlap_trail.specs.Follow.{Known, Sought, Quietly, rests, ComesTo, Follows}
use Rattle.overlap_trail.proofs.Steps.{no-stop-meets, quietly-then, behind, one-goes, one-step}

-- through the first of the statements, so many moves are taken
abbrev pub FollowsOn : Known → List Move → Stmts → Stmts → ℕ → ℕ → Type 0
FollowsOn known moves stmts left taken now = (sought : Sought) (paragraph : ℕ) (rest : List Item) →
    Quietly known sought (walk (at paragraph (before stmts rest)) (drop taken moves)) (walk (at paragraph (before left rest)) (drop now moves))

-- what comes of statements with more behind them, with the rest behind those, unless they complete
outer : (known : Known) (sought : Sought) (last paragraph : ℕ) (more : Stmts) (rest : List Item) (moves : List Move) (from : Walk) (way : Followed) → ((now : ℕ) → way ≡ Through now → ⊥) → ComesTo known sought last paragraph (before more rest) moves from way → ComesTo known sought last paragraph rest moves from way
outer known sought last paragraph more rest moves from (Through now) not comes = absurd (not now refl)
outer known sought last paragraph more rest moves from (To to now) not comes = comes
outer known sought last paragraph more rest moves from (Left now) not comes = subst (λ items. Quietly known sought from (walk (at paragraph items) (drop now moves))) (past-before more rest) comes
outer known sought last paragraph more rest moves from (Ended now) not comes = comes
outer known sought last paragraph more rest moves from (SectionEnded now) not comes = comes
outer known sought last paragraph more rest moves from (Broken now) not comes = subst (λ items. Quietly known sought from (walk (at paragraph items) (drop now moves))) (loop-before false more rest) comes
outer known sought last paragraph more rest moves from (Cycled now) not comes = subst (λ items. Quietly known sought from (walk (at paragraph items) (drop now moves))) (loop-before true more rest) comes
outer known sought last paragraph more rest moves from (Met entry exit now) not comes = comes
outer known sought last paragraph more rest moves from Lost not comes = comes

module _ (known : Known) (moves : List Move) (last taken : ℕ) where
  pub as-seen : (stmt : tree.Stmt) (s : Stmt) (way : Followed) → seen last stmt ≡ s → Follows known moves last taken (also s none) way → Follows known moves last taken (also (seen last stmt) none) way
  as-seen stmt s way e follows = subst (λ x. Follows known moves last taken (also x none) way) (sym e) follows

  -- another statement that this one is
  pub same-stmt : (s t : Stmt) (way : Followed) → s ≡ t → Follows known moves last taken (also t none) way → Follows known moves last taken (also s none) way
  same-stmt s t way e follows = subst (λ x. Follows known moves last taken (also x none) way) (sym e) follows

  pub act-through : (stmt : Stmt) (act : Act) → stmt ≡ language.Do act → Follows known moves last taken (also stmt none) (Through taken)
  act-through stmt act e = subst (λ x. Follows known moves last taken (also x none) (Through taken)) (sym e)
      (λ sought paragraph rest. one-step known sought (at paragraph (Do (language.Do act) ∷ rest)) (at paragraph rest) (drop taken moves) refl)

  pub go-to : (to : ℕ) → Follows known moves last taken (also (Go to) none) (To to taken)
  go-to to = λ sought paragraph rest. one-goes known sought (at paragraph (Do (Go to) ∷ rest)) (start sought.program to) (drop taken moves) refl

  pub sentence-left : Follows known moves last taken (also NextSentence none) (Left taken)
  sentence-left = λ sought paragraph rest. one-step known sought (at paragraph (Do NextSentence ∷ rest)) (at paragraph (past_sentence rest)) (drop taken moves) refl

  pub stop-lost : Follows known moves last taken (also StopRun none) Lost
  stop-lost = λ sought paragraph rest.
      let from = walk (at paragraph (Do StopRun ∷ rest)) (drop taken moves) in
      (from, rests from, no-stop-meets sought.aim sought.range (drop taken moves), refl)

  pub paragraph-ended : Follows known moves last taken (also ExitParagraph none) (Ended taken)
  paragraph-ended = λ sought paragraph rest. one-step known sought (at paragraph (Do ExitParagraph ∷ rest)) (at paragraph []) (drop taken moves) refl

  pub section-ended : Follows known moves last taken (also (ExitSection last) none) (SectionEnded taken)
  section-ended = λ sought paragraph rest. one-step known sought (at paragraph (Do (ExitSection last) ∷ rest)) (at last []) (drop taken moves) refl

  pub loop-left : Follows known moves last taken (also (ExitPerform false) none) (Broken taken)
  loop-left = λ sought paragraph rest. one-step known sought (at paragraph (Do (ExitPerform false) ∷ rest)) (at paragraph (from_loop false rest)) (drop taken moves) refl

  pub turn-left : Follows known moves last taken (also (ExitPerform true) none) (Cycled taken)
  turn-left = λ sought paragraph rest. one-step known sought (at paragraph (Do (ExitPerform true) ∷ rest)) (at paragraph (from_loop true rest)) (drop taken moves) refl

  pub stmts-begin : (stmts : Stmts) → FollowsOn known moves stmts stmts taken taken
  stmts-begin stmts = λ sought paragraph rest. rests (walk (at paragraph (before stmts rest)) (drop taken moves))

  onto : (stmts left more : Stmts) (stmt : Stmt) (now : ℕ) → left ≡ also stmt more → FollowsOn known moves stmts left taken now → (sought : Sought) (paragraph : ℕ) (rest : List Item) →
      Quietly known sought (walk (at paragraph (before stmts rest)) (drop taken moves)) (walk (at paragraph (Do stmt ∷ before more rest)) (drop now moves))
  onto stmts left more stmt now e on sought paragraph rest = subst (λ ss. Quietly known sought (walk (at paragraph (before stmts rest)) (drop taken moves)) (walk (at paragraph (before ss rest)) (drop now moves))) e (on sought paragraph rest)

  pub stmts-on : (stmts left more : Stmts) (stmt : Stmt) (now later : ℕ) → left ≡ also stmt more → FollowsOn known moves stmts left taken now → Follows known moves last now (also stmt none) (Through later) → FollowsOn known moves stmts more taken later
  stmts-on stmts left more stmt now later e on follows = λ sought paragraph rest.
      quietly-then known sought (walk (at paragraph (before stmts rest)) (drop taken moves)) (walk (at paragraph (Do stmt ∷ before more rest)) (drop now moves)) (walk (at paragraph (before more rest)) (drop later moves))
      (onto stmts left more stmt now e on sought paragraph rest) (follows sought paragraph (before more rest))

  pub stmts-out : (stmts left more : Stmts) (stmt : Stmt) (now : ℕ) (way : Followed) → left ≡ also stmt more → FollowsOn known moves stmts left taken now → ((later : ℕ) → way ≡ Through later → ⊥) → Follows known moves last now (also stmt none) way → Follows known moves last taken stmts way
  stmts-out stmts left more stmt now way e on not follows = λ sought paragraph rest.
      let via = walk (at paragraph (Do stmt ∷ before more rest)) (drop now moves) in
      behind known sought last paragraph rest moves (walk (at paragraph (before stmts rest)) (drop taken moves)) via way (onto stmts left more stmt now e on sought paragraph rest)
      (outer known sought last paragraph more rest moves via way not (follows sought paragraph (before more rest)))

  pub stmts-end : (stmts left : Stmts) (now : ℕ) → left ≡ none → FollowsOn known moves stmts left taken now → Follows known moves last taken stmts (Through now)
  stmts-end stmts left now e on = λ sought paragraph rest.
      subst (λ ss. Quietly known sought (walk (at paragraph (before stmts rest)) (drop taken moves)) (walk (at paragraph (before ss rest)) (drop now moves))) e (on sought paragraph rest)

drop-at : {A : Type 0} → (xs : List A) (index : ℕ) (x : A) → index < length xs → x ≡ get_or xs index x → drop index xs ≡ x ∷ drop (suc index) xs
drop-at [] index x lt e = absurd (omega arith)
drop-at (y ∷ ys) zero x lt e = ap (λ z. z ∷ ys) (sym e)
drop-at (y ∷ ys) (suc index) x lt e = drop-at ys index x (omega arith) e

pub stmts-at : (last : ℕ) (items : List tree.Stmt) (index : ℕ) (stmt : tree.Stmt) → index < length items → stmt ≡ get_or items index stmt → seen_stmts last (drop index items) ≡ also (seen last stmt) (seen_stmts last (drop (index + 1) items))
stmts-at last items index stmt lt is =
    ap (λ ss. seen_stmts last ss) (drop-at items index stmt lt is)
    ∙ ap (λ n. also (seen last stmt) (seen_stmts last (drop n items))) (sym (add-one index))

pub stmts-past : (last : ℕ) (items : List tree.Stmt) (index : ℕ) → length items ≤ index → seen_stmts last (drop index items) ≡ none
stmts-past last [] zero le = refl
stmts-past last [] (suc index) le = refl
stmts-past last (stmt ∷ items) zero le = absurd (omega arith)
stmts-past last (stmt ∷ items) (suc index) le = stmts-past last items index (omega arith)
