-- The first choice by a cell, where cells are named.
use Rattle.std.proofs.Common.{◌≡◌, ℕ, Bool, true, false, if◌then◌else◌, ◌==◌, List, [], ◌∷◌, ◌++◌, Option, Some, None, refl, ap, ap₂, ◌∙◌}
use Rattle.control_flow_theory.specs.language.Language as language
use Rattle.control_flow_theory.specs.language.Language.{none, also, done, given, missing, Nested, Performed, Stmts, Arms}
use Rattle.control_flow_theory.specs.rendering.Rendering.{count_arms}
use Rattle.control_flow_theory.specs.main_theorem.Chain.{or_first, picker_arms, stmt_arms, stmts_arms, arms_arms, body_arms}
use Rattle.added_items.specs.mentions.CellUse.{mention, act_mentions, test_mentions, picker_mentions, control_mentions, stmt_mentions, cell_uses, arms_mentions, body_mentions, arms_or, first_arms}
use Rattle.added_items.specs.declared.mentions.cell_use.CellUse.{CellUse}

module _ (cell : ℕ) where
  abbrev first : List CellUse → Option ℕ
  first told = first_arms cell told

  by-one : (here : Bool) (arms rest more : Option ℕ) →
      (if here then arms_or (or_first rest more) arms else or_first rest more)
      ≡ or_first (if here then arms_or rest arms else rest) more
  by-one true None rest more = refl
  by-one true (Some arms) rest more = refl
  by-one false arms rest more = refl

  first-append : (one other : List CellUse) → first (one ++ other) ≡ or_first (first one) (first other)
  first-append [] other = refl
  first-append (m ∷ one) other =
      ap (λ rest. if m.cell == cell then arms_or rest m.arms else rest) (first-append one other)
      ∙ by-one (m.cell == cell) m.arms (first one) (first other)

  -- a cell that isn't chosen by
  quiet : (other : ℕ) → first (mention other ∷ []) ≡ None
  quiet other = elim (other == cell) as (λ b. (if b then arms_or None None else None) ≡ None) [
    | true ↦ refl
    | false ↦ refl
  ]

  quiet-act : (act : language.Act) → first (act_mentions act) ≡ None
  quiet-act (language.Own simple) = refl
  quiet-act (language.Set other value) = quiet other
  quiet-act (language.Take other amount) = quiet other
  quiet-act (language.Lower other) = quiet other

  quiet-test : (test : language.Test) → first (test_mentions test) ≡ None
  quiet-test (language.Holds cond) = refl
  quiet-test (language.Not test) = quiet-test test
  quiet-test (language.Is other value) = quiet other
  quiet-test (language.Above other) = quiet other

  quiet-both : (one other : List CellUse) → first one ≡ None → first other ≡ None → first (one ++ other) ≡ None
  quiet-both one other h k = first-append one other ∙ ap₂ or_first h k

  quiet-control : (control : language.Control) → first (control_mentions control) ≡ None
  quiet-control (language.Times amount) = refl
  quiet-control (language.Until after test) = quiet-test test
  quiet-control (language.Varying after set step test) =
      quiet-both (act_mentions set ++ act_mentions step) (test_mentions test)
      (quiet-both (act_mentions set) (act_mentions step) (quiet-act set) (quiet-act step)) (quiet-test test)

  picker-first : (picker : language.Picker) (arms : ℕ) → first (picker_mentions picker arms) ≡ picker_arms cell picker arms
  picker-first (language.If test) arms = quiet-test test
  picker-first (language.By chooser) arms = refl
  picker-first (language.ByCell by) arms = refl

  mutual
    stmt-first : (stmt : language.Stmt) → first (stmt_mentions stmt) ≡ stmt_arms cell stmt
    stmt-first (language.Do act) = quiet-act act
    stmt-first (language.Choose picker arms) =
        first-append (picker_mentions picker (count_arms arms)) (arms_mentions arms)
        ∙ ap₂ or_first (picker-first picker (count_arms arms)) (arms-first arms)
    stmt-first (language.Loop control body) =
        first-append (control_mentions control) (body_mentions body)
        ∙ ap₂ or_first (quiet-control control) (body-first body)
    stmt-first (language.Perform entry exit) = refl
    stmt-first (language.Go to) = refl
    stmt-first (language.GoDepending to chooser) = refl
    stmt-first language.NextSentence = refl
    stmt-first language.ExitParagraph = refl
    stmt-first (language.ExitSection last) = refl
    stmt-first (language.ExitPerform cycle) = refl
    stmt-first language.StopRun = refl

    pub choices-agree : (stmts : Stmts) → first (cell_uses stmts) ≡ stmts_arms cell stmts
    choices-agree none = refl
    choices-agree (also stmt stmts) =
        first-append (stmt_mentions stmt) (cell_uses stmts) ∙ ap₂ or_first (stmt-first stmt) (choices-agree stmts)

    arms-first : (arms : Arms) → first (arms_mentions arms) ≡ arms_arms cell arms
    arms-first done = refl
    arms-first (given arm others) =
        first-append (cell_uses arm) (arms_mentions others) ∙ ap₂ or_first (choices-agree arm) (arms-first others)
    arms-first (missing others) = arms-first others

    body-first : (body : language.Body) → first (body_mentions body) ≡ body_arms cell body
    body-first (Nested stmts) = choices-agree stmts
    body-first (Performed entry exit) = refl
