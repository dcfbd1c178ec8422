-- Each statement is printed as a token at least.
use Rattle.std.proofs.Common.{◌≡◌, ℕ, suc, ◌+◌, ◌≤◌, ◌==◌, ◌&&◌, ◌||◌, Bool, true, false, List, [], ◌∷◌, ◌++◌, map, length, length-append, Option, Some, None, refl, sym, subst, arith, All, IsSome}
use Rattle.std.specs.Prelude.{codes}
use Rattle.std.specs.List.{flat_map}
use Rattle.cob_tree.specs.declared.calc.Calc.{Calc}
use Rattle.cob_tree.specs.declared.calc.Calc.TheVariants as calcs
use Rattle.cob_tree.specs.declared.calc.Target.{Target}
use Rattle.cob_tree.specs.declared.choice.Test.{Test}
use Rattle.cob_tree.specs.declared.control.Control.{Control}
use Rattle.cob_tree.specs.declared.control.Control.TheVariants as turning
use Rattle.cob_tree.specs.declared.program.Sentence.{Sentence}
use Rattle.cob_tree.specs.declared.program.Paragraph.{Paragraph}
use Rattle.cob_tree.specs.declared.program.Program.{Program}
use Rattle.cob_tree.specs.declared.stmt.Arms.{Arms, roll-Arms, map-Arms, fold-roll-Arms}
use Rattle.cob_tree.specs.declared.stmt.When.{When, roll-When, map-When, fold-roll-When}
use Rattle.cob_tree.specs.declared.stmt.Stmt.{Stmt, ind-Stmt, map-Stmt, roll-Stmt, fold-roll-Stmt}
use Rattle.cob_tree.specs.declared.stmt.Stmt.TheOpen.{Stmt-F, Arms-F, When-F}
use Rattle.control_flow_theory.specs.language.Language as language
use Rattle.control_flow_theory.specs.language.Control.{arith_stmt, arm_before, else_of, control_in, loop_of, perform_of, Branch, branches_before, Both, both_arms, both_step, branch_step, seen_step, seen, seen_when, seen_both, seen_stmts, seen_sentence, seen_paragraph, section_last, seen_paragraphs, control_of}
use Rattle.control_flow_theory.specs.lowering.Completes.{size, sizes, size_arms}
use Rattle.control_flow_theory.specs.lowering.Lowered.{total}
use Rattle.cobol_lex.specs.declared.token.TokenKind.TheVariants as kind
use Rattle.unparser.specs.Token.{Tokens, procedure_token}
use Rattle.unparser.specs.Arithmetic.{calc_front, targets_tokens, calc_back, arithmetic_tokens, end_word}
use Rattle.unparser.specs.Condition.{not_tokens}
use Rattle.unparser.specs.Head.{head_step}
use Rattle.cobol_print.specs.declared.units.statement.ArmPhrase.{ArmPhrase}
use Rattle.cobol_print.specs.declared.units.statement.ArmPhrase.TheVariants.{AtEnd, OnSizeError}
use Rattle.cobol_print.specs.declared.units.unit.PrintUnit.{PrintUnit}
use Rattle.cobol_print.specs.units.Unit.{unit_at, header, deeper, ended}
use Rattle.cobol_print.specs.units.Statement.{Lines, ArmLines, WhenLines, phrase_tokens, word_line, other_tokens, end_lines, tests_lines, some_lines, list_lines, arm_lines, whens_lines, held_by_other, held_by_else, held_step, stmt_step, arms_step, when_step, stmt_lines, arms_lines, when_lines}
use Rattle.cobol_print.specs.units.Division.{environment_units, data_units, program_id, section_line, named_line, sentence_lines, sentence_units, paragraph_units, paragraphs_units, procedure_units}
use Rattle.cobol_print.specs.Unit.{all_tokens}
use Rattle.fixed_point_laws.specs.Tokens.{parts_of, IsNamed, EachPartIsAToken}

-- ---- tokens of units

abbrev told : List PrintUnit → ℕ
told units = length (all_tokens units)

told-append : (xs ys : List PrintUnit) → told (xs ++ ys) ≡ told xs + told ys
told-append [] ys = omega arith
told-append (unit ∷ units) ys =
    let rest = told-append units ys in
    let here = length-append unit.tokens (all_tokens (units ++ ys)) in
    let there = length-append unit.tokens (all_tokens units) in
    omega (arith, rest, here, there)

told-first : (unit : PrintUnit) (units : List PrintUnit) → told (unit ∷ units) ≡ length unit.tokens + told units
told-first unit units = length-append unit.tokens (all_tokens units)

zero-least : (n : ℕ) → 0 ≤ n
zero-least n = omega arith

same-least : (n : ℕ) → n ≤ n
same-least n = omega arith

plus-none : (a n : ℕ) → a ≤ n → a + 0 ≤ n
plus-none a n h = omega (arith, h)

through : (a b c : ℕ) → a ≤ b → b ≤ c → a ≤ c
through a b c h g = omega (arith, h, g)

-- tokens of a front, and of a back
front-of : (own behind : List PrintUnit) (held : ℕ) → held ≤ told own → held ≤ told (own ++ behind)
front-of own behind held h = (let both = told-append own behind in omega (arith, both, h))

behind-of : (own behind : List PrintUnit) (held : ℕ) → held ≤ told behind → held ≤ told (own ++ behind)
behind-of own behind held h = (let both = told-append own behind in omega (arith, both, h))

both-of : (own behind : List PrintUnit) (a b : ℕ) → a ≤ told own → b ≤ told behind → a + b ≤ told (own ++ behind)
both-of own behind a b h g = (let both = told-append own behind in omega (arith, both, h, g))

whens-of : (own behind : List PrintUnit) (a rest tail : ℕ) → a ≤ told own → rest ≤ told behind + tail → a + rest ≤ told (own ++ behind) + tail
whens-of own behind a rest tail h g = (let both = told-append own behind in omega (arith, both, h, g))

one-of : (own behind : List PrintUnit) (held : ℕ) → 1 ≤ told own → held ≤ told behind → suc held ≤ told (own ++ behind)
one-of own behind held h g = (let both = told-append own behind in omega (arith, both, h, g))

first-of : (unit : PrintUnit) (units : List PrintUnit) (held : ℕ) → held ≤ told units → held ≤ told (unit ∷ units)
first-of unit units held h = (let first = told-first unit units in omega (arith, first, h))

first-some : (unit : PrintUnit) (units : List PrintUnit) → 1 ≤ length unit.tokens → 1 ≤ told (unit ∷ units)
first-some unit units h = (let first = told-first unit units in omega (arith, first, h))

begun-more : (unit : PrintUnit) (units : List PrintUnit) (held : ℕ) → 1 ≤ length unit.tokens → held ≤ told units → 1 + held ≤ told (unit ∷ units)
begun-more unit units held h g = (let first = told-first unit units in omega (arith, first, h, g))

first-more : (unit : PrintUnit) (one other : List PrintUnit) → told one ≤ told other → told (unit ∷ one) ≤ told (unit ∷ other)
first-more unit one other h =
    let here = told-first unit one in
    let there = told-first unit other in
    omega (arith, here, there, h)

abbrev has_some : {A : Type 0} → List A → Bool
has_some [] = false
has_some (x ∷ xs) = true

some-of : {A : Type 0} (xs : List A) → has_some xs ≡ true → 1 ≤ length xs
some-of [] h = absurd (let k : ⊥ = cc in k)
some-of (x ∷ xs) h = omega arith

front-begins : (program : Program) (calc : Calc) → has_some (calc_front program calc) ≡ true
front-begins program (calcs.Add parts) = refl
front-begins program (calcs.AddGiving parts) = refl
front-begins program (calcs.Subtract parts) = refl
front-begins program (calcs.SubtractGiving parts from) = refl
front-begins program (calcs.Multiply by) = refl
front-begins program (calcs.MultiplyGiving one by) = refl
front-begins program (calcs.Divide by) = refl
front-begins program (calcs.DivideGiving by into) = refl
front-begins program (calcs.Compute expr) = refl

-- a front of tokens
more-tokens : (front back : Tokens) → 1 ≤ length front → 1 ≤ length (front ++ back)
more-tokens front back some = (let all = length-append front back in omega (arith, all, some))

arith-some : (program : Program) (calc : Calc) (into : List Target) → 1 ≤ length (arithmetic_tokens program calc into)
arith-some program calc into =
    more-tokens (calc_front program calc ++ targets_tokens program into) (calc_back program calc)
    (more-tokens (calc_front program calc) (targets_tokens program into) (some-of (calc_front program calc) (front-begins program calc)))

-- the first line of a statement holds a token
abbrev Begun : Program → Stmt-F Lines ArmLines WhenLines → Type 0
Begun program y = 1 ≤ length (head_step program y)

begun : (program : Program) (y : Stmt-F Lines ArmLines WhenLines) → has_some (head_step program y) ≡ true → Begun program y
begun program y is = some-of (head_step program y) is

head-some : (program : Program) (y : Stmt-F Lines ArmLines WhenLines) → Begun program y
head-some program (Stmt-F.Display items advance) = begun program (Stmt-F.Display items advance) refl
head-some program (Stmt-F.Move from to) = begun program (Stmt-F.Move from to) refl
head-some program (Stmt-F.Arith calc into arms) = arith-some program calc into
head-some program (Stmt-F.SetTrue place) = begun program (Stmt-F.SetTrue place) refl
head-some program (Stmt-F.Opens openings) = begun program (Stmt-F.Opens openings) refl
head-some program (Stmt-F.Closes files) = begun program (Stmt-F.Closes files) refl
head-some program (Stmt-F.Read file into arms) = begun program (Stmt-F.Read file into arms) refl
head-some program (Stmt-F.Write entry from) = begun program (Stmt-F.Write entry from) refl
head-some program (Stmt-F.Rewrite entry from) = begun program (Stmt-F.Rewrite entry from) refl
head-some program (Stmt-F.If cond met unmet) = begun program (Stmt-F.If cond met unmet) refl
head-some program (Stmt-F.Evaluate subject whens other) = begun program (Stmt-F.Evaluate subject whens other) refl
head-some program (Stmt-F.Loop control body) = begun program (Stmt-F.Loop control body) refl
head-some program (Stmt-F.Perform entry exit control) = begun program (Stmt-F.Perform entry exit control) refl
head-some program (Stmt-F.Go to) = begun program (Stmt-F.Go to) refl
head-some program (Stmt-F.GoDepending to on) = begun program (Stmt-F.GoDepending to on) refl
head-some program Stmt-F.NextSentence = begun program Stmt-F.NextSentence refl
head-some program Stmt-F.StopRun = begun program Stmt-F.StopRun refl
head-some program Stmt-F.Exit = begun program Stmt-F.Exit refl
head-some program Stmt-F.ExitParagraph = begun program Stmt-F.ExitParagraph refl
head-some program Stmt-F.ExitSection = begun program Stmt-F.ExitSection refl
head-some program (Stmt-F.ExitPerform cycle) = begun program (Stmt-F.ExitPerform cycle) refl
head-some program Stmt-F.Continue = begun program Stmt-F.Continue refl

-- ---- sizes

arith-size : (calc : Calc) (into : List Target) (first second : Option language.Stmts) →
    size (arith_stmt calc into (record { first = first; second = second })) ≤ 1 + size_arms (both_arms (record { first = first; second = second }))
arith-size calc into None None = omega arith
arith-size calc into None (Some second) = omega arith
arith-size calc into (Some first) None = omega arith
arith-size calc into (Some first) (Some second) = omega arith

loop-size : (control : Control) (body : language.Stmts) → size (loop_of (control_in control) body) ≤ 1 + sizes body
loop-size turning.Once body = omega arith
loop-size (turning.Times amount) body = omega arith
loop-size (turning.Until after until) body = omega arith
loop-size (turning.Varying after item from by until) body = omega arith

perform-size : (control : Control) (entry exit : ℕ) → size (perform_of (control_in control) entry exit) ≤ 1
perform-size turning.Once entry exit = omega arith
perform-size (turning.Times amount) entry exit = omega arith
perform-size (turning.Until after until) entry exit = omega arith
perform-size (turning.Varying after item from by until) entry exit = omega arith

module _ (program : Program) (last : ℕ) where
  abbrev IsSpelled : Stmt → Type 0
  IsSpelled stmt = (column : ℕ) (closed : Bool) → size (seen last stmt) ≤ told (stmt_lines program stmt column closed)

  abbrev ArmsAreSpelled : Arms → Type 0
  ArmsAreSpelled arms = (phrase : ArmPhrase) (column : ℕ) → size_arms (both_arms (seen_both last arms)) ≤ told ((arms_lines program arms).lines phrase column)

  abbrev WhenIsSpelled : When → Type 0
  WhenIsSpelled when = (column : ℕ) → sizes (seen_when last when).arm ≤ told (when_lines program when column)

  abbrev SuchStmt : Type 0
  SuchStmt = (stmt : Stmt) × IsSpelled stmt

  abbrev SuchArms : Type 0
  SuchArms = (arms : Arms) × ArmsAreSpelled arms

  abbrev SuchWhen : Type 0
  SuchWhen = (when : When) × WhenIsSpelled when

  abbrev plain : List SuchStmt → List Stmt
  plain stmts = map (λ e. e.0) stmts

  abbrev plain_whens : List SuchWhen → List When
  plain_whens whens = map (λ e. e.0) whens

  abbrev lines_of : List SuchStmt → List Lines
  lines_of xs = map (stmt_lines program) (plain xs)

  some-spelled : (xs : List SuchStmt) (column : ℕ) (closed : Bool) → sizes (seen_stmts last (plain xs)) ≤ told (some_lines (lines_of xs) column closed)
  some-spelled [] column closed = zero-least (told [])
  some-spelled (x ∷ xs) column closed =
      both-of (stmt_lines program x.0 column (closed && length (lines_of xs) == 0)) (some_lines (lines_of xs) column closed)
      (size (seen last x.0)) (sizes (seen_stmts last (plain xs)))
      (x.1 column (closed && length (lines_of xs) == 0)) (some-spelled xs column closed)

  list-spelled : (xs : List SuchStmt) (column : ℕ) (closed : Bool) → sizes (seen_stmts last (plain xs)) ≤ told (list_lines (lines_of xs) column closed)
  list-spelled [] column closed = zero-least (told (list_lines [] column closed))
  list-spelled (x ∷ xs) column closed = some-spelled (x ∷ xs) column closed

  else-spelled : (xs : List SuchStmt) (column : ℕ) → size_arms (arm_before (else_of (map (seen last) (plain xs))) language.done) ≤ told (held_by_else (lines_of xs) column)
  else-spelled [] column = zero-least (told (held_by_else [] column))
  else-spelled (x ∷ xs) column =
      let list = list_lines (lines_of (x ∷ xs)) (deeper column) false in
      let ending : List PrintUnit = word_line column (codes "END-IF") ∷ [] in
      let held = sizes (seen_stmts last (plain (x ∷ xs))) in
      plus-none held (told (word_line column (codes "ELSE") ∷ (list ++ ending)))
      (first-of (word_line column (codes "ELSE")) (list ++ ending) held (front-of list ending held (list-spelled (x ∷ xs) (deeper column) false)))

  abbrev when_lists : List SuchWhen → List WhenLines
  when_lists xs = map (when_lines program) (plain_whens xs)

  whens-spelled : (xs : List SuchWhen) (tail : language.Arms) (column : ℕ) →
      size_arms (branches_before (map (seen_when last) (plain_whens xs)) tail) ≤ told (whens_lines (when_lists xs) column) + size_arms tail
  whens-spelled [] tail column = behind-none (size_arms tail)
    where
      behind-none : (n : ℕ) → n ≤ 0 + n
      behind-none n = omega arith
  whens-spelled (x ∷ xs) tail column =
      whens-of (when_lines program x.0 column) (whens_lines (when_lists xs) column) (sizes (seen_when last x.0).arm)
      (size_arms (branches_before (map (seen_when last) (plain_whens xs)) tail)) (size_arms tail) (x.1 column) (whens-spelled xs tail column)

  other-spelled : (xs : List SuchStmt) (column : ℕ) → sizes (seen_stmts last (plain xs)) ≤ told (held_by_other (Some (lines_of xs)) column)
  other-spelled xs column =
      let list = list_lines (lines_of xs) (deeper (deeper column)) false in
      let ending : List PrintUnit = word_line column (codes "END-EVALUATE") ∷ [] in
      let held = sizes (seen_stmts last (plain xs)) in
      first-of (unit_at (deeper column) other_tokens) (list ++ ending) held (front-of list ending held (list-spelled xs (deeper (deeper column)) false))

  -- ---- each statement, by those that it holds

  abbrev mapped : Stmt-F SuchStmt SuchArms SuchWhen → Stmt-F Stmt Arms When
  mapped =
      map-Stmt SuchStmt SuchArms SuchWhen Stmt Arms When (λ e. e.0) (λ e. e.0) (λ e. e.0)

  abbrev shown : Stmt-F Stmt Arms When → language.Stmt
  shown y =
      seen_step last (map-Stmt Stmt Arms When language.Stmt Both Branch (seen last)
      (seen_both last) (seen_when last) y)

  abbrev spelled : Stmt-F Stmt Arms When → Stmt-F Lines ArmLines WhenLines
  spelled y = map-Stmt Stmt Arms When Lines ArmLines WhenLines (stmt_lines program) (arms_lines program) (when_lines program) y

  -- a first line, and what stands below it
  below : (y : Stmt-F Lines ArmLines WhenLines) (column : ℕ) (closed : Bool) (held : ℕ) → held ≤ told (held_step y column closed) → 1 + held ≤ told (stmt_step program y column closed)
  below y column closed held h = begun-more (unit_at column (head_step program y)) (held_step y column closed) held (head-some program y) h

  lone : (y : Stmt-F Lines ArmLines WhenLines) (column : ℕ) (closed : Bool) → 1 ≤ told (stmt_step program y column closed)
  lone y column closed = below y column closed 0 (zero-least (told (held_step y column closed)))

  step-spelled : (y : Stmt-F SuchStmt SuchArms SuchWhen) (column : ℕ) (closed : Bool) → size (shown (mapped y)) ≤ told (stmt_step program (spelled (mapped y)) column closed)
  step-spelled (Stmt-F.Display texts advance) column closed = lone (spelled (mapped (Stmt-F.Display texts advance))) column closed
  step-spelled (Stmt-F.Move from to) column closed = lone (spelled (mapped (Stmt-F.Move from to))) column closed
  step-spelled (Stmt-F.Arith calc into arms) column closed =
      let y = spelled (mapped (Stmt-F.Arith calc into arms)) in
      let both = seen_both last arms.0 in
      let own = (arms_lines program arms.0).lines OnSizeError column in
      through (size (arith_stmt calc into both)) (1 + size_arms (both_arms both)) (told (stmt_step program y column closed))
      (arith-size calc into both.first both.second)
      (below y column closed (size_arms (both_arms both)) (front-of own (end_lines ((arms_lines program arms.0).some || closed) (end_word calc) column) (size_arms (both_arms both)) (arms.1 OnSizeError column)))
  step-spelled (Stmt-F.SetTrue place) column closed = lone (spelled (mapped (Stmt-F.SetTrue place))) column closed
  step-spelled (Stmt-F.Opens openings) column closed = lone (spelled (mapped (Stmt-F.Opens openings))) column closed
  step-spelled (Stmt-F.Closes files) column closed = lone (spelled (mapped (Stmt-F.Closes files))) column closed
  step-spelled (Stmt-F.Read file into arms) column closed =
      let y = spelled (mapped (Stmt-F.Read file into arms)) in
      let both = seen_both last arms.0 in
      let own = (arms_lines program arms.0).lines AtEnd column in
      below y column closed (size_arms (both_arms both)) (front-of own (end_lines ((arms_lines program arms.0).some || closed) (codes "END-READ") column) (size_arms (both_arms both)) (arms.1 AtEnd column))
  step-spelled (Stmt-F.Write entry from) column closed = lone (spelled (mapped (Stmt-F.Write entry from))) column closed
  step-spelled (Stmt-F.Rewrite entry from) column closed = lone (spelled (mapped (Stmt-F.Rewrite entry from))) column closed
  step-spelled (Stmt-F.If cond met unmet) column closed =
      let y = spelled (mapped (Stmt-F.If cond met unmet)) in
      let own = list_lines (lines_of met) (deeper column) false in
      let behind = held_by_else (lines_of unmet) column in
      let a = sizes (seen_stmts last (plain met)) in
      let b = size_arms (arm_before (else_of (map (seen last) (plain unmet))) language.done) in
      below y column closed (a + b) (both-of own behind a b (list-spelled met (deeper column) false) (else-spelled unmet column))
  step-spelled (Stmt-F.Evaluate subject whens None) column closed =
      let y = spelled (mapped (Stmt-F.Evaluate subject whens None)) in
      let tail : language.Arms = language.missing language.done in
      let own = whens_lines (when_lists whens) column in
      let behind = held_by_other None column in
      let held = size_arms (branches_before (map (seen_when last) (plain_whens whens)) tail) in
      below y column closed held
      (through held (told own + 0) (told (own ++ behind)) (whens-spelled whens tail column) (both-of own behind (told own) 0 (same-least (told own)) (zero-least (told behind))))
  step-spelled (Stmt-F.Evaluate subject whens (Some other)) column closed =
      let y = spelled (mapped (Stmt-F.Evaluate subject whens (Some other))) in
      let tail : language.Arms = language.given (seen_stmts last (plain other)) language.done in
      let own = whens_lines (when_lists whens) column in
      let behind = held_by_other (Some (lines_of other)) column in
      let held = size_arms (branches_before (map (seen_when last) (plain_whens whens)) tail) in
      below y column closed held
      (through held (told own + size_arms tail) (told (own ++ behind)) (whens-spelled whens tail column)
      (both-of own behind (told own) (size_arms tail) (same-least (told own))
      (plus-none (sizes (seen_stmts last (plain other))) (told behind) (other-spelled other column))))
  step-spelled (Stmt-F.Loop control body) column closed =
      let y = spelled (mapped (Stmt-F.Loop control body)) in
      let own = list_lines (lines_of body) (deeper column) false in
      let held = sizes (seen_stmts last (plain body)) in
      through (size (loop_of (control_in control) (seen_stmts last (plain body)))) (1 + held) (told (stmt_step program y column closed))
      (loop-size control (seen_stmts last (plain body)))
      (below y column closed held (front-of own (word_line column (codes "END-PERFORM") ∷ []) held (list-spelled body (deeper column) false)))
  step-spelled (Stmt-F.Perform entry exit control) column closed =
      through (size (perform_of (control_in control) entry exit)) 1 (told (stmt_step program (spelled (mapped (Stmt-F.Perform entry exit control))) column closed))
      (perform-size control entry exit)
      (lone (spelled (mapped (Stmt-F.Perform entry exit control))) column closed)
  step-spelled (Stmt-F.Go to) column closed = lone (spelled (mapped (Stmt-F.Go to))) column closed
  step-spelled (Stmt-F.GoDepending to on) column closed = lone (spelled (mapped (Stmt-F.GoDepending to on))) column closed
  step-spelled Stmt-F.NextSentence column closed = lone (spelled (mapped Stmt-F.NextSentence)) column closed
  step-spelled Stmt-F.StopRun column closed = lone (spelled (mapped Stmt-F.StopRun)) column closed
  step-spelled Stmt-F.Exit column closed = lone (spelled (mapped Stmt-F.Exit)) column closed
  step-spelled Stmt-F.ExitParagraph column closed = lone (spelled (mapped Stmt-F.ExitParagraph)) column closed
  step-spelled Stmt-F.ExitSection column closed = lone (spelled (mapped Stmt-F.ExitSection)) column closed
  step-spelled (Stmt-F.ExitPerform cycle) column closed = lone (spelled (mapped (Stmt-F.ExitPerform cycle))) column closed
  step-spelled Stmt-F.Continue column closed = lone (spelled (mapped Stmt-F.Continue)) column closed

  layer : (y : Stmt-F SuchStmt SuchArms SuchWhen) → IsSpelled (roll-Stmt (mapped y))
  layer y column closed =
      subst (λ (stmt : language.Stmt). size stmt ≤ told (stmt_lines program (roll-Stmt (mapped y)) column closed))
      (sym (fold-roll-Stmt language.Stmt Both Branch (seen_step last) both_step branch_step (mapped y)))
      (subst (λ (lines : Lines). size (shown (mapped y)) ≤ told (lines column closed))
      (sym (fold-roll-Stmt Lines ArmLines WhenLines (stmt_step program) arms_step (when_step program) (mapped y)))
      (step-spelled y column closed))

  abbrev mapped_arms : Arms-F SuchStmt SuchArms SuchWhen → Arms-F Stmt Arms When
  mapped_arms =
      map-Arms SuchStmt SuchArms SuchWhen Stmt Arms When (λ e. e.0) (λ e. e.0) (λ e. e.0)

  abbrev both_of : Arms-F Stmt Arms When → Both
  both_of arms =
      both_step (map-Arms Stmt Arms When language.Stmt Both Branch (seen last) (seen_both last)
      (seen_when last) arms)

  abbrev lines_by : Arms-F Stmt Arms When → ArmLines
  lines_by arms = arms_step (map-Arms Stmt Arms When Lines ArmLines WhenLines (stmt_lines program) (arms_lines program) (when_lines program) arms)

  arm-spelled : (xs : List SuchStmt) (phrase : ArmPhrase) (not : Bool) (column : ℕ) → sizes (seen_stmts last (plain xs)) ≤ told (arm_lines (lines_of xs) phrase not column)
  arm-spelled xs phrase not column =
      let list = list_lines (lines_of xs) (deeper (deeper column)) true in
      first-of (unit_at (deeper column) (not_tokens not ++ phrase_tokens phrase)) list (sizes (seen_stmts last (plain xs))) (list-spelled xs (deeper (deeper column)) true)

  both-spelled : (first second : Option (List SuchStmt)) (phrase : ArmPhrase) (column : ℕ) →
      size_arms (both_arms (both_of (mapped_arms (record { first = first; second = second })))) ≤ told ((lines_by (mapped_arms (record { first = first; second = second }))).lines phrase column)
  both-spelled None None phrase column = zero-least (told [])
  both-spelled None (Some second) phrase column =
      plus-none (sizes (seen_stmts last (plain second))) (told (arm_lines (lines_of second) phrase true column)) (arm-spelled second phrase true column)
  both-spelled (Some first) None phrase column =
      let own = arm_lines (lines_of first) phrase false column in
      let held = sizes (seen_stmts last (plain first)) in
      plus-none held (told (own ++ [])) (front-of own [] held (arm-spelled first phrase false column))
  both-spelled (Some first) (Some second) phrase column =
      let own = arm_lines (lines_of first) phrase false column in
      let behind = arm_lines (lines_of second) phrase true column in
      let one = sizes (seen_stmts last (plain first)) in
      let two = sizes (seen_stmts last (plain second)) in
      both-of own behind one (two + 0) (arm-spelled first phrase false column) (plus-none two (told behind) (arm-spelled second phrase true column))

  arms-layer : (first second : Option (List SuchStmt)) →
      ArmsAreSpelled (roll-Arms (mapped_arms (record { first = first; second = second })))
  arms-layer first second phrase column =
      let y = mapped_arms (record { first = first; second = second }) in
      subst (λ b. size_arms (both_arms b) ≤ told ((arms_lines program (roll-Arms y)).lines phrase column))
      (sym (fold-roll-Arms language.Stmt Both Branch (seen_step last) both_step branch_step y))
      (subst (λ (lines : ArmLines). size_arms (both_arms (both_of y)) ≤ told (lines.lines phrase column))
      (sym (fold-roll-Arms Lines ArmLines WhenLines (stmt_step program) arms_step (when_step program) y))
      (both-spelled first second phrase column))

  when-layer : (tests : List Test) (stmts : List SuchStmt) →
      WhenIsSpelled (roll-When (map-When SuchStmt SuchArms SuchWhen Stmt Arms When (λ e. e.0)
      (λ e. e.0) (λ e. e.0) (record { tests = tests; stmts = stmts })))
  when-layer tests stmts column =
      let y : When-F Stmt Arms When = record { tests = tests; stmts = plain stmts } in
      let list = list_lines (lines_of stmts) (deeper (deeper column)) false in
      subst (λ (b : Branch). sizes b.arm ≤ told (when_lines program (roll-When y) column))
      (sym (fold-roll-When language.Stmt Both Branch (seen_step last) both_step branch_step y))
      (subst (λ (lines : WhenLines). sizes (seen_stmts last (plain stmts)) ≤ told (lines column))
      (sym (fold-roll-When Lines ArmLines WhenLines (stmt_step program) arms_step (when_step program) y))
      (behind-of (tests_lines program (deeper column) tests) list (sizes (seen_stmts last (plain stmts))) (list-spelled stmts (deeper (deeper column)) false)))

  stmt-spelled : (stmt : Stmt) → IsSpelled stmt
  stmt-spelled stmt =
      ind-Stmt IsSpelled ArmsAreSpelled WhenIsSpelled
      (λ x y is. subst (λ z. IsSpelled (roll-Stmt z)) is (layer y))
      (λ x y is. subst (λ z. ArmsAreSpelled (roll-Arms z)) is (arms-layer y.first y.second))
      (λ x y is. subst (λ z. WhenIsSpelled (roll-When z)) is (when-layer y.tests y.stmts)) stmt

  -- ---- sentences

  stmts-spelled : (stmts : List Stmt) (column : ℕ) (closed : Bool) → sizes (seen_stmts last stmts) ≤ told (some_lines (map (stmt_lines program) stmts) column closed)
  stmts-spelled [] column closed = zero-least (told [])
  stmts-spelled (stmt ∷ stmts) column closed =
      both-of (stmt_lines program stmt column (closed && length (map (stmt_lines program) stmts) == 0)) (some_lines (map (stmt_lines program) stmts) column closed)
      (size (seen last stmt)) (sizes (seen_stmts last stmts))
      (stmt-spelled stmt column (closed && length (map (stmt_lines program) stmts) == 0)) (stmts-spelled stmts column closed)

  list-told : (stmts : List Stmt) (column : ℕ) (closed : Bool) → sizes (seen_stmts last stmts) ≤ told (list_lines (map (stmt_lines program) stmts) column closed)
  list-told [] column closed = zero-least (told (list_lines [] column closed))
  list-told (stmt ∷ stmts) column closed = stmts-spelled (stmt ∷ stmts) column closed

  ended-one : (unit : PrintUnit) → told (unit ∷ []) ≤ told (unit_at unit.column (unit.tokens ++ kind.Period ∷ []) ∷ [])
  ended-one unit =
      let one = told-first unit [] in
      let two : told (unit_at unit.column (unit.tokens ++ kind.Period ∷ []) ∷ []) ≡ length (unit.tokens ++ kind.Period ∷ []) + told [] =
      told-first (unit_at unit.column (unit.tokens ++ kind.Period ∷ [])) [] in
      let more = length-append unit.tokens (kind.Period ∷ []) in
      omega (arith, one, two, more)

  ended-more : (units : List PrintUnit) → told units ≤ told (ended units)
  ended-more [] = same-least (told [])
  ended-more (unit ∷ []) = ended-one unit
  ended-more (unit ∷ next ∷ units) = first-more unit (next ∷ units) (ended (next ∷ units)) (ended-more (next ∷ units))

  sentences-spelled : (sentences : List Sentence) → total (map (seen_sentence last) sentences) ≤ told (flat_map (sentence_units program) sentences)
  sentences-spelled [] = zero-least (told [])
  sentences-spelled (sentence ∷ sentences) =
      both-of (sentence_units program sentence) (flat_map (sentence_units program) sentences) (sizes (seen_sentence last sentence)) (total (map (seen_sentence last) sentences))
      (through (sizes (seen_sentence last sentence)) (told (sentence_lines program sentence)) (told (sentence_units program sentence))
      (list-told sentence.stmts 12 false) (ended-more (sentence_lines program sentence)))
      (sentences-spelled sentences)

name-some : (name : Option (List ℕ)) → IsSome name → 1 ≤ told (named_line name)
name-some None h = absurd (let k : ⊥ = cc in k)
name-some (Some name) h = first-some (unit_at 8 (procedure_token name ∷ kind.Period ∷ [])) [] (some-of (procedure_token name ∷ kind.Period ∷ []) refl)

paragraph-spelled : (program : Program) (last : ℕ) (paragraph : Paragraph) → IsNamed paragraph → suc (total (seen_paragraph last paragraph)) ≤ told (paragraph_units program paragraph)
paragraph-spelled program last paragraph named =
    let front = section_line paragraph.section in
    let name = named_line paragraph.name in
    let rest = flat_map (sentence_units program) paragraph.sentences in
    let held = total (seen_paragraph last paragraph) in
    one-of (front ++ name) rest held (behind-of front name 1 (name-some paragraph.name named)) (sentences-spelled program last paragraph.sentences)

paragraphs-spelled : (program : Program) (number : ℕ) (paragraphs : List Paragraph) → All IsNamed paragraphs → parts_of (seen_paragraphs number paragraphs) ≤ told (paragraphs_units program paragraphs)
paragraphs-spelled program number [] all = zero-least (told [])
paragraphs-spelled program number (paragraph ∷ others) all =
    both-of (paragraph_units program paragraph) (paragraphs_units program others)
    (suc (total (seen_paragraph (section_last number others) paragraph))) (parts_of (seen_paragraphs (suc number) others))
    (paragraph-spelled program (section_last number others) paragraph (all 0 paragraph (omega arith)))
    (paragraphs-spelled program (suc number) others (λ k d lt. all (suc k) d (omega (arith, lt))))

pub each-part : EachPartIsAToken
each-part = λ program named.
    let held = parts_of (control_of program).paragraphs in
    let front = header (codes "IDENTIFICATION") (codes "DIVISION") ∷ program_id program.name ∷ environment_units program program.files in
    behind-of (front ++ data_units program program.entries) (procedure_units program program.paragraphs) held
    (first-of (header (codes "PROCEDURE") (codes "DIVISION")) (paragraphs_units program program.paragraphs) held
    (paragraphs-spelled program 0 program.paragraphs named))
