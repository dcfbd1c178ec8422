-- A choice by a cell among so many arms stands in statements, and how many arms the first one has.
use Rattle.std.proofs.Common.{◌≡◌, ℕ, Bool, true, false, if◌then◌else◌, ◌==◌, Option, Some, None, refl, ap, sym, ◌∙◌, ◌⊎◌, inl, inr}
use Rattle.std.proofs.lemmas.Bool.Decides.{eqb_tells}
use Rattle.control_flow_theory.specs.language.Language.{Picker, If, By, ByCell, Stmt, Do, Choose, Loop, Perform, Go, GoDepending, NextSentence, ExitParagraph, ExitSection, ExitPerform, StopRun, Stmts, none, also, Arms, done, given, missing, Body, Nested, Performed}
use Rattle.control_flow_theory.specs.rendering.Rendering.{count_arms}
use Rattle.control_flow_theory.specs.main_theorem.Chain.{or_first, picker_arms, stmt_arms, stmts_arms, arms_arms, body_arms}
use Rattle.control_flow_theory.specs.language.Each.{EachStmt, EachStmts, EachArm, EachBody}
use Rattle.control_flow_theory.proofs.main_theorem_lemmas.graphs.OneCount.{PickIs, ChoiceIs}

-- A choice by the cell among so many arms stands in it.
module _ (cell arms : ℕ) where
  abbrev pub picks : Picker → ℕ → Bool
  picks (If test) some = false
  picks (By chooser) some = false
  picks (ByCell by) some = if by == cell then some == arms else false

  abbrev mutual
    pub stmt_chooses : Stmt → Bool
    stmt_chooses (Do act) = false
    stmt_chooses (Choose picker others) =
        if picks picker (count_arms others) then true else arms_choose others
    stmt_chooses (Loop control body) = body_chooses body
    stmt_chooses (Perform entry exit) = false
    stmt_chooses (Go to) = false
    stmt_chooses (GoDepending to chooser) = false
    stmt_chooses NextSentence = false
    stmt_chooses ExitParagraph = false
    stmt_chooses (ExitSection last) = false
    stmt_chooses (ExitPerform cycle) = false
    stmt_chooses StopRun = false

    pub stmts_choose : Stmts → Bool
    stmts_choose none = false
    stmts_choose (also stmt stmts) = if stmt_chooses stmt then true else stmts_choose stmts

    pub arms_choose : Arms → Bool
    arms_choose done = false
    arms_choose (given arm others) = if stmts_choose arm then true else arms_choose others
    arms_choose (missing others) = arms_choose others

    pub body_chooses : Body → Bool
    body_chooses (Nested stmts) = stmts_choose stmts
    body_chooses (Performed entry exit) = false

one-of-two : (a b : Bool) → (if a then true else b) ≡ true → (a ≡ true) ⊎ (b ≡ true)
one-of-two true b h = inl refl
one-of-two false b h = inr h

both-none : (a b : Option ℕ) → or_first a b ≡ None → (a ≡ None) × (b ≡ None)
both-none (Some n) b e = absurd (let x : Some n ≡ None = e in cc)
both-none None b e = (refl, e)

first-or : (a b : Option ℕ) (n : ℕ) → or_first a b ≡ Some n → (a ≡ Some n) ⊎ (b ≡ Some n)
first-or (Some m) b n e = inl e
first-or None b n e = inr e

-- where there is no first choice by the cell, there is none
module _ (cell arms : ℕ) where
  picker-none : (picker : Picker) (n : ℕ) → picker_arms cell picker n ≡ None → picks cell arms picker n ≡ true → ⊥
  picker-none (If test) n e h = let x : false ≡ true = h in cc
  picker-none (By chooser) n e h = let x : false ≡ true = h in cc
  picker-none (ByCell by) n e h = elim (by == cell) as (λ b. (if b then Some n else None) ≡ None → (if b then n == arms else false) ≡ true → ⊥) [
    | true ↦ λ f k. (let x : Some n ≡ None = f in cc)
    | false ↦ λ f k. (let x : false ≡ true = k in cc)
  ] e h

  mutual
    stmt-none : (stmt : Stmt) → stmt_arms cell stmt ≡ None → stmt_chooses cell arms stmt ≡ true → ⊥
    stmt-none (Do act) = λ e h. (let x : false ≡ true = h in cc)
    stmt-none (Choose picker others) = λ e h.
        let both = both-none (picker_arms cell picker (count_arms others)) (arms_arms cell others) e in
        elim (one-of-two (picks cell arms picker (count_arms others)) (arms_choose cell arms others) h) [
          | inl p ↦ picker-none picker (count_arms others) both.0 p
          | inr k ↦ arms-none others both.1 k
        ]
    stmt-none (Loop control body) = λ e h. body-none body e h
    stmt-none (Perform entry exit) = λ e h. (let x : false ≡ true = h in cc)
    stmt-none (Go to) = λ e h. (let x : false ≡ true = h in cc)
    stmt-none (GoDepending to chooser) = λ e h. (let x : false ≡ true = h in cc)
    stmt-none NextSentence = λ e h. (let x : false ≡ true = h in cc)
    stmt-none ExitParagraph = λ e h. (let x : false ≡ true = h in cc)
    stmt-none (ExitSection last) = λ e h. (let x : false ≡ true = h in cc)
    stmt-none (ExitPerform cycle) = λ e h. (let x : false ≡ true = h in cc)
    stmt-none StopRun = λ e h. (let x : false ≡ true = h in cc)

    pub stmts-none : (stmts : Stmts) → stmts_arms cell stmts ≡ None → stmts_choose cell arms stmts ≡ true → ⊥
    stmts-none none = λ e h. (let x : false ≡ true = h in cc)
    stmts-none (also stmt stmts) = λ e h.
        let both = both-none (stmt_arms cell stmt) (stmts_arms cell stmts) e in
        elim (one-of-two (stmt_chooses cell arms stmt) (stmts_choose cell arms stmts) h) [ inl k ↦ stmt-none stmt both.0 k | inr k ↦ stmts-none stmts both.1 k ]

    arms-none : (others : Arms) → arms_arms cell others ≡ None → arms_choose cell arms others ≡ true → ⊥
    arms-none done = λ e h. (let x : false ≡ true = h in cc)
    arms-none (given arm others) = λ e h.
        let both = both-none (stmts_arms cell arm) (arms_arms cell others) e in
        elim (one-of-two (stmts_choose cell arms arm) (arms_choose cell arms others) h) [ inl k ↦ stmts-none arm both.0 k | inr k ↦ arms-none others both.1 k ]
    arms-none (missing others) = λ e h. arms-none others e h

    body-none : (body : Body) → body_arms cell body ≡ None → body_chooses cell arms body ≡ true → ⊥
    body-none (Nested stmts) = λ e h. stmts-none stmts e h
    body-none (Performed entry exit) = λ e h. (let x : false ≡ true = h in cc)

-- what is so of each choice, is of those by the cell
module _ (N : ℕ → ℕ) (cell arms : ℕ) where
  abbrev Same : ℕ → ℕ → Type 0
  Same c n = n ≡ N c

  picker-first : (picker : Picker) (n : ℕ) → PickIs Same picker n → picker_arms cell picker n ≡ Some arms → arms ≡ N cell
  picker-first (If test) n p e = absurd (let x : None ≡ Some arms = e in cc)
  picker-first (By chooser) n p e = absurd (let x : None ≡ Some arms = e in cc)
  picker-first (ByCell by) n p e = elim (eqb_tells by cell) [
    | inl f ↦ (let x : Some n ≡ Some arms = sym (ap (λ b. if b then Some n else None) f.0) ∙ e in let y : n ≡ arms = cc in sym y ∙ p ∙ ap N f.1)
    | inr f ↦ absurd (let x : None ≡ Some arms = sym (ap (λ b. if b then Some n else None) f.0) ∙ e in cc)
  ]

  picker-picks : (picker : Picker) (n : ℕ) → PickIs Same picker n → picks cell arms picker n ≡ true → arms ≡ N cell
  picker-picks (If test) n p e = absurd (let x : false ≡ true = e in cc)
  picker-picks (By chooser) n p e = absurd (let x : false ≡ true = e in cc)
  picker-picks (ByCell by) n p e = elim (eqb_tells by cell) [
    | inl f ↦ elim (eqb_tells n arms) [
      | inl g ↦ sym g.1 ∙ p ∙ ap N f.1
      | inr g ↦ absurd (let x : false ≡ true = sym g.0 ∙ sym (ap (λ b. if b then n == arms else false) f.0) ∙ e in cc)
    ]
    | inr f ↦ absurd (let x : false ≡ true = sym (ap (λ b. if b then n == arms else false) f.0) ∙ e in cc)
  ]

  mutual
    stmt-first : (stmt : Stmt) → EachStmt (ChoiceIs Same) stmt → stmt_arms cell stmt ≡ Some arms → arms ≡ N cell
    stmt-first (Do act) = λ p e. absurd (let x : None ≡ Some arms = e in cc)
    stmt-first (Choose picker others) = λ p e. elim (first-or (picker_arms cell picker (count_arms others)) (arms_arms cell others) arms e) [
      | inl f ↦ picker-first picker (count_arms others) p.0 f
      | inr f ↦ arms-first others p.1 f
    ]
    stmt-first (Loop control body) = λ p e. body-first body p.1 e
    stmt-first (Perform entry exit) = λ p e. absurd (let x : None ≡ Some arms = e in cc)
    stmt-first (Go to) = λ p e. absurd (let x : None ≡ Some arms = e in cc)
    stmt-first (GoDepending to chooser) = λ p e. absurd (let x : None ≡ Some arms = e in cc)
    stmt-first NextSentence = λ p e. absurd (let x : None ≡ Some arms = e in cc)
    stmt-first ExitParagraph = λ p e. absurd (let x : None ≡ Some arms = e in cc)
    stmt-first (ExitSection last) = λ p e. absurd (let x : None ≡ Some arms = e in cc)
    stmt-first (ExitPerform cycle) = λ p e. absurd (let x : None ≡ Some arms = e in cc)
    stmt-first StopRun = λ p e. absurd (let x : None ≡ Some arms = e in cc)

    stmts-first : (stmts : Stmts) → EachStmts (ChoiceIs Same) stmts → stmts_arms cell stmts ≡ Some arms → arms ≡ N cell
    stmts-first none = λ p e. absurd (let x : None ≡ Some arms = e in cc)
    stmts-first (also stmt stmts) = λ p e. elim (first-or (stmt_arms cell stmt) (stmts_arms cell stmts) arms e) [ inl f ↦ stmt-first stmt p.0 f | inr f ↦ stmts-first stmts p.1 f ]

    arms-first : (others : Arms) → EachArm (ChoiceIs Same) others → arms_arms cell others ≡ Some arms → arms ≡ N cell
    arms-first done = λ p e. absurd (let x : None ≡ Some arms = e in cc)
    arms-first (given arm others) = λ p e. elim (first-or (stmts_arms cell arm) (arms_arms cell others) arms e) [ inl f ↦ stmts-first arm p.0 f | inr f ↦ arms-first others p.1 f ]
    arms-first (missing others) = λ p e. arms-first others p e

    body-first : (body : Body) → EachBody (ChoiceIs Same) body → body_arms cell body ≡ Some arms → arms ≡ N cell
    body-first (Nested stmts) = λ p e. stmts-first stmts p e
    body-first (Performed entry exit) = λ p e. absurd (let x : None ≡ Some arms = e in cc)

  mutual
    stmt-picks : (stmt : Stmt) → EachStmt (ChoiceIs Same) stmt → stmt_chooses cell arms stmt ≡ true → arms ≡ N cell
    stmt-picks (Do act) = λ p e. absurd (let x : false ≡ true = e in cc)
    stmt-picks (Choose picker others) = λ p e. elim (one-of-two (picks cell arms picker (count_arms others)) (arms_choose cell arms others) e) [
      | inl f ↦ picker-picks picker (count_arms others) p.0 f
      | inr f ↦ arms-picks others p.1 f
    ]
    stmt-picks (Loop control body) = λ p e. body-picks body p.1 e
    stmt-picks (Perform entry exit) = λ p e. absurd (let x : false ≡ true = e in cc)
    stmt-picks (Go to) = λ p e. absurd (let x : false ≡ true = e in cc)
    stmt-picks (GoDepending to chooser) = λ p e. absurd (let x : false ≡ true = e in cc)
    stmt-picks NextSentence = λ p e. absurd (let x : false ≡ true = e in cc)
    stmt-picks ExitParagraph = λ p e. absurd (let x : false ≡ true = e in cc)
    stmt-picks (ExitSection last) = λ p e. absurd (let x : false ≡ true = e in cc)
    stmt-picks (ExitPerform cycle) = λ p e. absurd (let x : false ≡ true = e in cc)
    stmt-picks StopRun = λ p e. absurd (let x : false ≡ true = e in cc)

    stmts-picks : (stmts : Stmts) → EachStmts (ChoiceIs Same) stmts → stmts_choose cell arms stmts ≡ true → arms ≡ N cell
    stmts-picks none = λ p e. absurd (let x : false ≡ true = e in cc)
    stmts-picks (also stmt stmts) = λ p e. elim (one-of-two (stmt_chooses cell arms stmt) (stmts_choose cell arms stmts) e) [ inl f ↦ stmt-picks stmt p.0 f | inr f ↦ stmts-picks stmts p.1 f ]

    arms-picks : (others : Arms) → EachArm (ChoiceIs Same) others → arms_choose cell arms others ≡ true → arms ≡ N cell
    arms-picks done = λ p e. absurd (let x : false ≡ true = e in cc)
    arms-picks (given arm others) = λ p e. elim (one-of-two (stmts_choose cell arms arm) (arms_choose cell arms others) e) [ inl f ↦ stmts-picks arm p.0 f | inr f ↦ arms-picks others p.1 f ]
    arms-picks (missing others) = λ p e. arms-picks others p e

    body-picks : (body : Body) → EachBody (ChoiceIs Same) body → body_chooses cell arms body ≡ true → arms ≡ N cell
    body-picks (Nested stmts) = λ p e. stmts-picks stmts p e
    body-picks (Performed entry exit) = λ p e. absurd (let x : false ≡ true = e in cc)

-- where all choices by one cell have equally many arms, the first has what any has
pub first-is : (N : ℕ → ℕ) (cell arms : ℕ) (stmts : Stmts) → EachStmts (ChoiceIs (λ c n. n ≡ N c)) stmts → stmts_choose cell arms stmts ≡ true → stmts_arms cell stmts ≡ Some arms
first-is N cell arms stmts each h = elim (stmts_arms cell stmts) as (λ found. stmts_arms cell stmts ≡ found → found ≡ Some arms) [
  | None ↦ λ e. absurd (stmts-none cell arms stmts e h)
  | Some n ↦ λ e. ap Some (stmts-first N cell n stmts each e ∙ sym (stmts-picks N cell arms stmts each h))
] refl
