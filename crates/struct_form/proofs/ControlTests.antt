-- Control that nests, as a test; and the test is what the definition says.
use Rattle.std.proofs.Common.{◌≡◌, ℕ, Bool, true, false, ◌&&◌, refl}
use Rattle.std.proofs.lemmas.Bool.{and_from, and_parts}
use Rattle.control_flow_theory.specs.language.Language.{Stmt, Do, Choose, Loop, Perform, Go, GoDepending, NextSentence, ExitParagraph, ExitSection, ExitPerform, StopRun, Stmts, none, also, Arms, done, given, missing, Body, Nested, Performed}
use Rattle.control_flow_theory.specs.language.Structured.{StmtNests, StmtsNest, ArmsNest, BodyNests}

abbrev mutual
  pub stmt_passes : (ℕ → ℕ → Bool) → Stmt → Bool
  stmt_passes such (Do act) = true
  stmt_passes such (Choose picker arms) = arms_pass such arms
  stmt_passes such (Loop control body) = body_passes such body
  stmt_passes such (Perform entry exit) = such entry exit
  stmt_passes such (Go to) = false
  stmt_passes such (GoDepending to chooser) = false
  stmt_passes such NextSentence = false
  stmt_passes such ExitParagraph = false
  stmt_passes such (ExitSection last) = false
  stmt_passes such (ExitPerform cycle) = false
  stmt_passes such StopRun = true

  pub stmts_pass : (ℕ → ℕ → Bool) → Stmts → Bool
  stmts_pass such none = true
  stmts_pass such (also stmt stmts) = stmt_passes such stmt && stmts_pass such stmts

  pub arms_pass : (ℕ → ℕ → Bool) → Arms → Bool
  arms_pass such done = true
  arms_pass such (given arm others) = stmts_pass such arm && arms_pass such others
  arms_pass such (missing others) = arms_pass such others

  pub body_passes : (ℕ → ℕ → Bool) → Body → Bool
  body_passes such (Nested stmts) = stmts_pass such stmts
  body_passes such (Performed entry exit) = such entry exit

module _ (such : ℕ → ℕ → Bool) (Such : ℕ → ℕ → Type 0) (yes : (entry exit : ℕ) → such entry exit ≡ true → Such entry exit) where
  mutual
    pub stmt-nests : (stmt : Stmt) → stmt_passes such stmt ≡ true → StmtNests Such stmt
    stmt-nests (Do act) e = tt
    stmt-nests (Choose picker arms) e = arms-nest arms e
    stmt-nests (Loop control body) e = body-nests body e
    stmt-nests (Perform entry exit) e = yes entry exit e
    stmt-nests (Go to) e = cc
    stmt-nests (GoDepending to chooser) e = cc
    stmt-nests NextSentence e = cc
    stmt-nests ExitParagraph e = cc
    stmt-nests (ExitSection last) e = cc
    stmt-nests (ExitPerform cycle) e = cc
    stmt-nests StopRun e = tt

    pub stmts-nest : (stmts : Stmts) → stmts_pass such stmts ≡ true → StmtsNest Such stmts
    stmts-nest none e = tt
    stmts-nest (also stmt stmts) e =
        let h = and_parts (stmt_passes such stmt) (stmts_pass such stmts) e in
        (stmt-nests stmt h.0, stmts-nest stmts h.1)

    pub arms-nest : (arms : Arms) → arms_pass such arms ≡ true → ArmsNest Such arms
    arms-nest done e = tt
    arms-nest (given arm others) e =
        let h = and_parts (stmts_pass such arm) (arms_pass such others) e in
        (stmts-nest arm h.0, arms-nest others h.1)
    arms-nest (missing others) e = arms-nest others e

    pub body-nests : (body : Body) → body_passes such body ≡ true → BodyNests Such body
    body-nests (Nested stmts) e = stmts-nest stmts e
    body-nests (Performed entry exit) e = yes entry exit e

module _ (such : ℕ → ℕ → Bool) (Such : ℕ → ℕ → Type 0) (test : (entry exit : ℕ) → Such entry exit → such entry exit ≡ true) where
  mutual
    pub stmt-passes : (stmt : Stmt) → StmtNests Such stmt → stmt_passes such stmt ≡ true
    stmt-passes (Do act) h = refl
    stmt-passes (Choose picker arms) h = arms-pass arms h
    stmt-passes (Loop control body) h = body-passes body h
    stmt-passes (Perform entry exit) h = test entry exit h
    stmt-passes (Go to) h = absurd h
    stmt-passes (GoDepending to chooser) h = absurd h
    stmt-passes NextSentence h = absurd h
    stmt-passes ExitParagraph h = absurd h
    stmt-passes (ExitSection last) h = absurd h
    stmt-passes (ExitPerform cycle) h = absurd h
    stmt-passes StopRun h = refl

    pub stmts-pass : (stmts : Stmts) → StmtsNest Such stmts → stmts_pass such stmts ≡ true
    stmts-pass none h = refl
    stmts-pass (also stmt stmts) h =
        and_from (stmt_passes such stmt) (stmts_pass such stmts) (stmt-passes stmt h.0) (stmts-pass stmts h.1)

    pub arms-pass : (arms : Arms) → ArmsNest Such arms → arms_pass such arms ≡ true
    arms-pass done h = refl
    arms-pass (given arm others) h =
        and_from (stmts_pass such arm) (arms_pass such others) (stmts-pass arm h.0) (arms-pass others h.1)
    arms-pass (missing others) h = arms-pass others h

    pub body-passes : (body : Body) → BodyNests Such body → body_passes such body ≡ true
    body-passes (Nested stmts) h = stmts-pass stmts h
    body-passes (Performed entry exit) h = test entry exit h
