-- Every part of it is so: what is asked of one statement, asked of each statement in it.
use Rattle.std.specs.Prelude.{List, [], ◌∷◌}
use Rattle.control_flow_theory.specs.language.Language.{Stmt, Choose, Loop, Perform, Stmts, none, also, Arms, done, given, missing, Body, Nested, Performed, Paragraph}

module _ (At : Stmt → Type 0) where
  abbrev mutual
    -- the statement is so, and each in it
    pub EachStmt : Stmt → Type 0
    EachStmt (Choose picker arms) = At (Choose picker arms) × EachArm arms
    EachStmt (Loop control body) = At (Loop control body) × EachBody body
    EachStmt stmt = At stmt

    -- each of these statements is so
    pub EachStmts : Stmts → Type 0
    EachStmts none = Unit {0}
    EachStmts (also stmt stmts) = EachStmt stmt × EachStmts stmts

    -- each statement in the arms that are given is so
    pub EachArm : Arms → Type 0
    EachArm done = Unit {0}
    EachArm (given arm others) = EachStmts arm × EachArm others
    EachArm (missing others) = EachArm others

    -- each statement in a loop's body is so; a range there counts as the PERFORM of it
    pub EachBody : Body → Type 0
    EachBody (Nested stmts) = EachStmts stmts
    EachBody (Performed entry exit) = At (Perform entry exit)

  -- each statement in a paragraph is so
  abbrev pub EachSentence : Paragraph → Type 0
  EachSentence [] = Unit {0}
  EachSentence (sentence ∷ sentences) = EachStmts sentence × EachSentence sentences

  -- each statement in these paragraphs is so
  abbrev pub EachParagraph : List Paragraph → Type 0
  EachParagraph [] = Unit {0}
  EachParagraph (paragraph ∷ others) = EachSentence paragraph × EachParagraph others
