-- A free flow path passes each statement that can complete.
use Rattle.std.proofs.Common.{◌≡◌, ℕ, zero, suc, Bool, true, false, if◌then◌else◌, List, [], ◌∷◌, refl, ap, sym, ◌∙◌, subst, arith, None}
use Rattle.std.specs.Prelude.{slice_get, length}
use Rattle.control_flow_theory.specs.semantics.Outcome.{Got}
use Rattle.control_flow_theory.specs.language.Language.{Picker, If, By, ByCell, Control, Times, Until, Varying, Stmt, Choose, Loop, Perform, Go, GoDepending, NextSentence, ExitParagraph, ExitSection, ExitPerform, StopRun, Stmts, none, also, Arms, done, given, missing, Body, Nested, Performed, Program, Range, Part}
use Rattle.control_flow_theory.specs.language.Language as language
use Rattle.control_flow_theory.specs.language.Items.{Turning, Counted, Tests, Steps, StepsAfter, Item, Do, Turn, before, before_body, before_arm, from_loop}
use Rattle.control_flow_theory.specs.semantics.Items.{On, way_after, tried, on, to_one, item_way}
use Rattle.control_flow_theory.specs.lowering.FlowFacts.{FlowFacts, IsFirstMissing, FirstMayBeMissing, MayGive, OwnPicker, OwnStmt, OwnStmts, OwnArms, OwnBody, arm_count}
use Rattle.control_flow_theory.specs.lowering.Completes.{completes, complete, choice_completes, body_completes, leaves_loop, leave_loop, arms_leave_loop, body_leaves_loop, first_is_dead}
use Rattle.control_flow_theory.specs.lowering.flow.Comes.{Comes, goes_on, over}
use Rattle.control_flow_theory.specs.lowering.flow.Paths.{free, free_pick}
use Rattle.control_flow_theory.proofs.lowering_lemmas.rests.Stands.{both-left, both-right}
use Rattle.control_flow_theory.proofs.lowering_lemmas.rests.Counters.{loop-before}
use Rattle.control_flow_theory.proofs.lowering_lemmas.flow.Freely.{arm-told}

abbrev turns_in : Turning → ℕ
turns_in (Counted turns) = turns
turns_in (Tests test) = 0
turns_in (Steps reached step test) = 0
turns_in (StepsAfter step test) = 0

past : (xs : List ℕ) → slice_get xs (length xs) ≡ None
past [] = refl
past (x ∷ xs) = past xs

module _ (told : FlowFacts) (program : Program) (paragraphs first : ℕ) (first_rest : List Item) where
  abbrev pub FreelyComes : Range → ℕ → List Item → Type 0
  FreelyComes range q rest = Comes (free told) program first first_rest range q rest

  pub missing-first : (picker : Picker) (arms : Arms) → FirstMayBeMissing told picker arms → first_is_dead told picker ≡ true → IsFirstMissing arms
  missing-first (If test) arms own e = cc
  missing-first (By chooser) arms own e = own e
  missing-first (ByCell cell) arms own e = cc

  -- the way that gives this arm
  pub way-of : (picker : Picker) (arms k : ℕ) → OwnPicker told picker arms → MayGive arms (first_is_dead told picker) k → free_pick told picker (k ∷ []) ≡ Got [] k []
  way-of (If test) arms zero own may = refl
  way-of (If test) arms (suc zero) own may = refl
  way-of (If test) arms (suc (suc k)) own may = absurd (let e = may.0 in let f = own.1 in omega (arith, e, f))
  way-of (By chooser) arms k own may = ap (λ n. Got [] n []) (arm-told (told.width chooser) (told.never_first chooser) k (subst (λ w. MayGive w (told.never_first chooser) k) (sym own) may))
  way-of (ByCell cell) arms k own may = absurd own

  module _ (exact : (entry exit : ℕ) → told.returning entry exit ≡ true → FreelyComes (Part entry exit) exit []) (range : Range) (q : ℕ) where
    abbrev Comes_ : List Item → Type 0
    Comes_ rest = FreelyComes range q rest

    -- one step, by these ways
    pub by-ways : (item : Item) (rest items : List Item) (ways later : List ℕ) → item_way (free told) item rest ways ≡ On [] later items → Comes_ (item ∷ rest) → Comes_ items
    by-ways item rest items ways later e c = goes_on range q item rest ways [] later items c e

    pub to-arm : (picker : Picker) (arms : Arms) (k : ℕ) (rest : List Item) → OwnPicker told picker (arm_count arms) → MayGive (arm_count arms) (first_is_dead told picker) k → Comes_ (Do (Choose picker arms) ∷ rest) → Comes_ (before_arm arms k rest)
    to-arm picker arms k rest own may c =
        by-ways (Do (Choose picker arms)) rest (before_arm arms k rest) (k ∷ []) [] (ap (λ a. tried a (λ n. on (free told) (before_arm arms n rest))) (way-of picker (arm_count arms) k own may)) c

    -- what is behind a loop's body
    pub turn-ends : (turning : Turning) (body : Body) (rest : List Item) → ((left : ℕ) → turning ≡ Counted left → left ≡ 0) → Comes_ (Turn turning body ∷ rest) → Comes_ rest
    turn-ends (Counted zero) body rest h c = by-ways (Turn (Counted zero) body) rest rest [] [] refl c
    turn-ends (Counted (suc n)) body rest h c = absurd (let e = h (suc n) refl in omega (arith, e))
    turn-ends (Tests test) body rest h c = by-ways (Turn (Tests test) body) rest rest (0 ∷ []) [] refl c
    turn-ends (Steps false step test) body rest h c = by-ways (Turn (Steps false step test) body) rest rest (0 ∷ []) [] refl c
    turn-ends (Steps true step test) body rest h c = by-ways (Turn (Steps true step test) body) rest rest (0 ∷ []) [] refl c
    turn-ends (StepsAfter step test) body rest h c = by-ways (Turn (StepsAfter step test) body) rest rest (0 ∷ []) [] refl c

    -- the loop is left, or its turn
    abbrev Left : List Item → Type 0
    Left rest = (cycle : Bool) × Comes_ (from_loop cycle rest)

    turn-left : (turning : Turning) (body : Body) (rest : List Item) → ((left : ℕ) → turning ≡ Counted left → left ≡ 0) → Left (Turn turning body ∷ rest) → Comes_ rest
    turn-left turning body rest h l =
        (elim l.0 as (λ cycle. Comes_ (from_loop cycle (Turn turning body ∷ rest)) → Comes_ rest) [
          | true ↦ λ c. turn-ends turning body rest h c
          | false ↦ λ c. c
        ]) l.1

    -- behind a body that can complete, or in which the loop is left
    loop-ends : (turning : Turning) (body : Body) (rest : List Item) → ((left : ℕ) → turning ≡ Counted left → left ≡ 0) → (if body_completes told body then true else body_leaves_loop told body) ≡ true →
        (body_completes told body ≡ true → Comes_ (Turn turning body ∷ rest)) → (body_leaves_loop told body ≡ true → Left (Turn turning body ∷ rest)) → Comes_ rest
    loop-ends turning body rest h k passes leaves =
        (elim (body_completes told body) as (λ b. body_completes told body ≡ b → (if b then true else body_leaves_loop told body) ≡ true → Comes_ rest) [
          | true ↦ λ is k. turn-ends turning body rest h (passes is)
          | false ↦ λ is k. turn-left turning body rest h (leaves k)
        ]) refl k

    abbrev Leaving : Arms → Bool → List Item → Type 0
    Leaving arms dead rest = (k : ℕ) × MayGive (arm_count arms) dead k × (Comes_ (before_arm arms k rest) → Left rest)

    abbrev Passing : Arms → Bool → List Item → Type 0
    Passing arms dead rest = (k : ℕ) × MayGive (arm_count arms) dead k × (Comes_ (before_arm arms k rest) → Comes_ rest)

    mutual
      pub stmt-passes : (s : Stmt) (rest : List Item) → OwnStmt told paragraphs s → completes told s ≡ true → Comes_ (Do s ∷ rest) → Comes_ rest
      stmt-passes (language.Do act) rest own k c = by-ways (Do (language.Do act)) rest rest [] [] refl c
      stmt-passes (Choose picker arms) rest own k c =
          let a = arms-pass arms (first_is_dead told picker) rest own.1 k (missing-first picker arms own.2) in
          a.2 (to-arm picker arms a.0 rest own.0 a.1 c)
      stmt-passes (Loop (Times amount) body) rest own k c = turn-ends (Counted 0) body rest (λ left e. ap turns_in (sym e)) (by-ways (Do (Loop (Times amount) body)) rest (Turn (Counted 0) body ∷ rest) (0 ∷ []) [] refl c)
      stmt-passes (Loop (Until false test) body) rest own k c = turn-ends (Tests test) body rest (λ left e. cc) (by-ways (Do (Loop (Until false test) body)) rest (Turn (Tests test) body ∷ rest) [] [] refl c)
      stmt-passes (Loop (Until true test) body) rest own k c =
          let behind = Turn (Tests test) body ∷ rest in
          let d = by-ways (Do (Loop (Until true test) body)) rest (before_body body behind) [] [] refl c in
          loop-ends (Tests test) body rest (λ left e. cc) k (λ is. body-passes body behind own.1 is d) (λ is. body-leaves body behind own.1 is d)
      stmt-passes (Loop (Varying false set step test) body) rest own k c = turn-ends (Steps false step test) body rest (λ left e. cc) (by-ways (Do (Loop (Varying false set step test) body)) rest (Turn (Steps false step test) body ∷ rest) [] [] refl c)
      stmt-passes (Loop (Varying true set step test) body) rest own k c =
          let behind = Turn (StepsAfter step test) body ∷ rest in
          let d = by-ways (Do (Loop (Varying true set step test) body)) rest (before_body body behind) [] [] refl c in
          loop-ends (StepsAfter step test) body rest (λ left e. cc) k (λ is. body-passes body behind own.1 is d) (λ is. body-leaves body behind own.1 is d)
      stmt-passes (Perform e x) rest own k c = over range q (Do (Perform e x)) rest [] e x rest c refl (exact e x k)
      stmt-passes (Go to) rest own k c = cc
      stmt-passes (GoDepending to chooser) rest own k c =
          by-ways (Do (GoDepending to chooser)) rest rest (length to ∷ []) [] (ap (λ a. tried a (λ n. to_one (free told) (slice_get to n) rest)) (way-of (By chooser) (suc (length to)) (length to) own.0 (omega arith, λ e. absurd (let z : true ≡ false = sym e ∙ own.2 in cc))) ∙ ap (λ o. way_after [] (to_one (free told) o rest [])) (past to)) c
      stmt-passes NextSentence rest own k c = cc
      stmt-passes ExitParagraph rest own k c = cc
      stmt-passes (ExitSection last) rest own k c = cc
      stmt-passes (ExitPerform cycle) rest own k c = cc
      stmt-passes StopRun rest own k c = cc

      pub stmts-pass : (ss : Stmts) (rest : List Item) → OwnStmts told paragraphs ss → complete told ss ≡ true → Comes_ (before ss rest) → Comes_ rest
      stmts-pass none rest own k c = c
      stmts-pass (also s ss) rest own k c = stmts-pass ss rest own.1 (both-right (completes told s) (complete told ss) k) (stmt-passes s (before ss rest) own.0 (both-left (completes told s) (complete told ss) k) c)

      body-passes : (body : Body) (rest : List Item) → OwnBody told paragraphs body → body_completes told body ≡ true → Comes_ (before_body body rest) → Comes_ rest
      body-passes (Nested ss) rest own k c = stmts-pass ss rest own k c
      body-passes (Performed e x) rest own k c = over range q (Do (Perform e x)) rest [] e x rest c refl (exact e x k)

      -- some arm that may be given is missing or can complete
      arms-pass : (arms : Arms) (dead : Bool) (rest : List Item) → OwnArms told paragraphs arms → choice_completes told dead arms ≡ true → (dead ≡ true → IsFirstMissing arms) → (k : ℕ) × MayGive (arm_count arms) dead k × (Comes_ (before_arm arms k rest) → Comes_ rest)
      arms-pass done dead rest own k first = cc
      arms-pass (given arm others) true rest own k first = absurd (first refl)
      arms-pass (given arm others) false rest own k first =
          (elim (complete told arm) as (λ b. complete told arm ≡ b → (if b then true else choice_completes told false others) ≡ true → Passing (given arm others) false rest) [
            | true ↦ λ is k. (0, (omega arith, λ f. cc), λ c. stmts-pass arm rest own.0 is c)
            | false ↦ λ is k. (let a = arms-pass others false rest own.1 k (λ f. cc) in (suc a.0, (let e = a.1.0 in omega (arith, e), λ f. cc), a.2))
          ]) refl k
      arms-pass (missing others) true rest own k first = let a = arms-pass others false rest own k (λ f. cc) in (suc a.0, (let e = a.1.0 in omega (arith, e), λ f e. absurd (omega (arith, e))), a.2)
      arms-pass (missing others) false rest own k first = (0, (omega arith, λ f. cc), λ c. c)

      -- where an EXIT PERFORM stands, the loop around is left, or its turn
      stmt-leaves : (s : Stmt) (rest : List Item) → OwnStmt told paragraphs s → leaves_loop told s ≡ true → Comes_ (Do s ∷ rest) → Left rest
      stmt-leaves (language.Do act) rest own k c = cc
      stmt-leaves (Choose picker arms) rest own k c =
          let a = arms-leave arms (first_is_dead told picker) rest own.1 k (missing-first picker arms own.2) in
          a.2 (to-arm picker arms a.0 rest own.0 a.1 c)
      stmt-leaves (Loop control body) rest own k c = cc
      stmt-leaves (Perform e x) rest own k c = cc
      stmt-leaves (Go to) rest own k c = cc
      stmt-leaves (GoDepending to chooser) rest own k c = cc
      stmt-leaves NextSentence rest own k c = cc
      stmt-leaves ExitParagraph rest own k c = cc
      stmt-leaves (ExitSection last) rest own k c = cc
      stmt-leaves (ExitPerform cycle) rest own k c = (cycle, by-ways (Do (ExitPerform cycle)) rest (from_loop cycle rest) [] [] refl c)
      stmt-leaves StopRun rest own k c = cc

      stmts-leave : (ss : Stmts) (rest : List Item) → OwnStmts told paragraphs ss → leave_loop told ss ≡ true → Comes_ (before ss rest) → Left rest
      stmts-leave none rest own k c = cc
      stmts-leave (also s ss) rest own k c =
          (elim (leaves_loop told s) as (λ b. leaves_loop told s ≡ b → (if b then true else (if completes told s then leave_loop told ss else false)) ≡ true → Left rest) [
            | true ↦ λ is k. (let l = stmt-leaves s (before ss rest) own.0 is c in (l.0, subst Comes_ (loop-before l.0 ss rest) l.1))
            | false ↦ λ is k. stmts-leave ss rest own.1 (both-right (completes told s) (leave_loop told ss) k) (stmt-passes s (before ss rest) own.0 (both-left (completes told s) (leave_loop told ss) k) c)
          ]) refl k

      body-leaves : (body : Body) (rest : List Item) → OwnBody told paragraphs body → body_leaves_loop told body ≡ true → Comes_ (before_body body rest) → Left rest
      body-leaves (Nested ss) rest own k c = stmts-leave ss rest own k c
      body-leaves (Performed e x) rest own k c = cc

      arms-leave : (arms : Arms) (dead : Bool) (rest : List Item) → OwnArms told paragraphs arms → arms_leave_loop told arms ≡ true → (dead ≡ true → IsFirstMissing arms) → (k : ℕ) × MayGive (arm_count arms) dead k × (Comes_ (before_arm arms k rest) → Left rest)
      arms-leave done dead rest own k first = cc
      arms-leave (given arm others) true rest own k first = absurd (first refl)
      arms-leave (given arm others) false rest own k first =
          (elim (leave_loop told arm) as (λ b. leave_loop told arm ≡ b → (if b then true else arms_leave_loop told others) ≡ true → Leaving (given arm others) false rest) [
            | true ↦ λ is k. (0, (omega arith, λ f. cc), λ c. stmts-leave arm rest own.0 is c)
            | false ↦ λ is k. (let a = arms-leave others false rest own.1 k (λ f. cc) in (suc a.0, (let e = a.1.0 in omega (arith, e), λ f. cc), a.2))
          ]) refl k
      arms-leave (missing others) dead rest own k first = let a = arms-leave others false rest own k (λ f. cc) in (suc a.0, (let e = a.1.0 in omega (arith, e), λ f e. absurd (omega (arith, e))), a.2)
