-- What stands before what a statement holds: conditions, tests, and how often.
use Rattle.std.proofs.Common.{◌≡◌, ℕ, Bool, false, List, Option, Some, None, refl, sym, subst}
use Rattle.std.specs.Prelude.{codes}
use Rattle.cob_tree.specs.declared.choice.Subject.{Subject}
use Rattle.cob_tree.specs.declared.choice.Subject.TheVariants as subjects
use Rattle.cob_tree.specs.declared.choice.Test.{Test}
use Rattle.cob_tree.specs.declared.choice.Test.TheVariants as tests
use Rattle.cob_tree.specs.declared.cond.Cond.{Cond}
use Rattle.cob_tree.specs.declared.control.Control.{Control}
use Rattle.cob_tree.specs.declared.control.Control.TheVariants as controls
use Rattle.cob_tree.specs.declared.place.Expr.{Expr}
use Rattle.cob_tree.specs.declared.program.Program.{Program}
use Rattle.cob_tree.specs.declared.stmt.Stmt.{Stmt}
use Rattle.cob_tree.specs.declared.stmt.Stmt.TheOpen.{Stmt-F}
use Rattle.cob_tree.specs.declared.stmt.Stmt.TheVariants as stmts
use Rattle.cobol_lex.specs.declared.token.TokenKind.{TokenKind}
use Rattle.cobol_lex.specs.declared.token.TokenKind.TheVariants as kinds
use Rattle.parser_combinators.specs.declared.note.Position.{Position}
use Rattle.parser_combinators.specs.Form.{Form}
use Rattle.parser_combinators.proofs.MakerLaws as laws
use Rattle.parser_combinators.proofs.MakerLaws.{Law}
use Rattle.cobol_grammar.specs.declared.stmt_forms.head.PerformHead.{PerformHead}
use Rattle.cobol_grammar.specs.declared.stmt_forms.head.PerformHead.TheVariants as heads
use Rattle.cobol_grammar.specs.declared.stmt_forms.head.ReadHead.{ReadHead}
use Rattle.cobol_grammar.specs.declared.stmt_forms.head.ReadHead.TheVariants as reads
use Rattle.cobol_grammar.specs.declared.stmt_forms.scope.Scope.{Scope}
use Rattle.cobol_grammar.specs.stmt_forms.Part.{Parts}
use Rattle.cobol_grammar.specs.stmt_forms.Arms as arms
use Rattle.cobol_grammar.specs.stmt_forms.Choice as choice
use Rattle.cobol_grammar.specs.stmt_forms.Loop as loops
use Rattle.cobol_grammar.specs.stmt_forms.Loop.{Controlled}
use Rattle.cobol_grammar.proofs.stmt_forms_lemmas.HoldingLaws as law
use Rattle.grammar_laws.specs.form_results.Giving.{Gives}
use Rattle.grammar_laws.proofs.form_results_lemmas.Giving.{any, hence, still, pure, refuse, note, key, maybe, chosen, where_next, ◌>>=◌, ◌>>◌}
use Rattle.round_trip.specs.spelling.stmt_spelling.Part.{Kept, SpellsNumberPlace, SpellsCond, SpellsFile, SpellsRange}
use Rattle.round_trip.specs.spelling.stmt_spelling.Stmt.{Some_of, IfAny, SpellsControl, SpellsTurns, SpellsSubject, Compares, SpellsTest, SpellsStmt}
use Rattle.round_trip.specs.procedures.readable_stmts.Fit.{FitsOperand, FitsFile, PartsFit}
use Rattle.round_trip.proofs.procedures_lemmas.readable_stmts_lemmas.From.{GivesFrom, Begins, bind_from, word_from, where_begun, digits}
use Rattle.round_trip.proofs.procedures_lemmas.readable_stmts_lemmas.Lists.{some-one, items}
use Rattle.round_trip.proofs.procedures_lemmas.readable_stmts_lemmas.Made.{made}
use Rattle.round_trip.proofs.procedures_lemmas.readable_stmts_lemmas.Simple as simple

module _ {Side Known : Type 0} {parts again : Parts Side Known} {kept : Kept Side} {program : Program} {Kind : TokenKind → Type 0} (F : PartsFit parts again kept program Kind) where
  -- ---- conditions and values

  abbrev pub CondFine : Cond → Type 0
  CondFine cond = SpellsCond again kept program cond

  settled : (found : Cond × Bool) → Gives Kind (choice.settled found) (λ cond. CondFine found.0 → CondFine cond)
  unfolding choice.settled
  settled found = chosen found.1 refuse (pure (λ h. h))

  test_cond : Gives Kind (choice.test_cond parts) CondFine
  unfolding choice.test_cond
  test_cond = F.cond >>= settled

  -- what is known of a subject is what its side tells
  pub record IsKnown (expr : Expr) (known : Known) : Type 0 where
    pub side : Side
    pub told : parts.known_of side ≡ known
    pub side_kept : kept.expr expr side

  abbrev pub Suits : Subject → Option Known → Type 0
  Suits (subjects.Value expr) (Some known) = IsKnown expr known
  Suits (subjects.Value expr) None = ⊥
  Suits subjects.True (Some known) = ⊥
  Suits subjects.True None = Unit {0}
  Suits subjects.False (Some known) = ⊥
  Suits subjects.False None = Unit {0}

  abbrev pub SubjectFine : Subject × Option Known → Type 0
  SubjectFine found = SpellsSubject again kept program found.0 × Suits found.0 found.1

  subject : Gives Kind (choice.subject parts) SubjectFine
  unfolding choice.subject choice.truth_subject choice.value_subject
  subject =
      where_next (where_next (key (codes "TRUE") >> pure (λ _. (tt, tt))) (key (codes "FALSE") >> pure (λ _. (tt, tt))))
      (F.expr >>= (λ side. note >> pure (λ n f.
      ((f.spelled, simple.without_expr F parts.value_fault again.value_fault F.uses.value_expr side f n.1), record { side = side; told = refl; side_kept = f.side_kept }))))

  -- a value that is compared, with each subject of which this is known
  abbrev ComparesWith : Known → Expr → Type 0
  ComparesWith known expr = (subject : Expr) → IsKnown subject known → Compares again kept program subject expr

  compared : (known : Known) → Gives Kind (choice.compared parts known) (ComparesWith known)
  unfolding choice.compared
  compared known = F.expr >>= (λ side. note >> (note >> pure (λ m n f subject k. (
    f.spelled,
    (
      simple.without_expr F parts.value_fault again.value_fault F.uses.value_expr side f n.1,
      λ next last h l. F.uses.compares subject (parts.expr_of side) k.side next side last k.side_kept h f.side_kept l (subst (λ x. parts.subject_fault x side ≡ None) (sym k.told) m.1),
    ),
  ))))

  abbrev LastFine : Known → Option Expr → Type 0
  LastFine known last = (subject : Expr) → IsKnown subject known → IfAny (Compares again kept program subject) last

  last_part : (known : Known) → Gives Kind (choice.last_part parts known) (LastFine known)
  unfolding choice.last_part choice.last_value
  last_part known = where_next (any law.thru >> (compared known >>= (λ last. pure (λ h _. h)))) (pure (λ _ _. tt))

  -- under each subject of which this is known
  abbrev pub TestFine : Option Known → Test → Type 0
  TestFine known test = (subject : Subject) → Suits subject known → SpellsTest again kept program subject test

  value_fine : (known : Known) (not : Bool) (first : Expr) (last : Option Expr) → ComparesWith known first → LastFine known last → TestFine (Some known) (tests.Value not first last)
  value_fine known not first last f l (subjects.Value expr) s = (f expr s, l expr s)
  value_fine known not first last f l subjects.True s = absurd s
  value_fine known not first last f l subjects.False s = absurd s

  value_test : (known : Known) → Gives Kind (choice.value_test parts known) (TestFine (Some known))
  unfolding choice.value_test
  value_test known = any law.negation >>= (λ not. compared known >>= (λ first. last_part known >>= (λ last. pure (λ l f _. value_fine known not first last f l))))

  cond_fine : (cond : Cond) → CondFine cond → TestFine None (tests.Holds cond)
  cond_fine cond c (subjects.Value expr) s = absurd s
  cond_fine cond c subjects.True s = c
  cond_fine cond c subjects.False s = c

  test_by : (known : Option Known) → Gives Kind (choice.test_by parts known) (TestFine known)
  unfolding choice.test_by choice.cond_test
  test_by None = test_cond >>= (λ cond. pure (cond_fine cond))
  test_by (Some known) = value_test known

  any_fine : (known : Option Known) → TestFine known tests.Any
  any_fine known _ s = tt

  one_test : (known : Option Known) → Gives Kind (choice.one_test parts known) (TestFine known)
  unfolding choice.one_test choice.any_test
  one_test known = where_next (key (codes "ANY") >> pure (λ _. any_fine known)) (test_by known)

  next_test : (known : Option Known) → Gives Kind (choice.next_test parts known) (TestFine known)
  unfolding choice.next_test
  next_test known = key (codes "WHEN") >> still (one_test known)

  abbrev pub Tests : Option Known → List Test → Type 0
  Tests known list = Some_of (TestFine known) list

  all_tests : (known : Option Known) → Gives Kind (choice.all_tests parts known) (Tests known)
  unfolding choice.all_tests
  all_tests known = one_test known >>= (λ first. hence (λ list h f. h (some-one (TestFine known) first f)) (items (TestFine known) (next_test known)))

  pub first_tests : (known : Option Known) → Gives Kind (choice.first_tests parts known) (Tests known)
  unfolding choice.first_tests
  first_tests known = key (codes "WHEN") >> still (all_tests known)

  abbrev pub TestsOrNone : Option Known → Option (List Test) → Type 0
  TestsOrNone known None = Unit {0}
  TestsOrNone known (Some list) = Tests known list

  pub when_head : (known : Option Known) → Gives Kind (choice.when_head parts known) (TestsOrNone known)
  unfolding choice.when_head choice.other_words
  when_head known = key (codes "WHEN") >> where_next (key (codes "OTHER") >> pure (λ _ _. tt)) (all_tests known >>= (λ list. pure (λ t _. t)))

  -- ---- how often

  -- as it stands before statements that are held, and behind a name
  abbrev pub Turns : Control → Type 0
  Turns control = SpellsTurns again kept program control × SpellsControl again kept program control

  abbrev Turned : Controlled → Type 0
  Turned control = Turns control.0

  until_cond : (after : Bool) → Gives Kind (loops.until_cond parts after) Turned
  unfolding loops.until_cond
  until_cond after = key (codes "UNTIL") >> (F.cond >>= (λ cond. pure (λ c _. (c, c))))

  varied : Gives Kind (loops.varied parts) (SpellsNumberPlace again kept program)
  unfolding loops.varied
  varied = F.reference >>= (λ side. note >> pure (λ n f. (f.spelled, simple.without_place F parts.number_fault again.number_fault F.uses.number side f n.1)))

  varying_cond : (after : Bool) → Gives Kind (loops.varying_cond parts after) Turned
  unfolding loops.varying_cond
  varying_cond after = do
    key (codes "VARYING")
    item ← varied
    key (codes "FROM")
    first ← simple.number_operand F
    key (codes "BY")
    by ← simple.number_operand F
    key (codes "UNTIL")
    cond ← F.cond
    pure (λ c _ b _ f _ i _. ((i, (f, (b, c))), (i, (f, (b, c)))))

  until_control : Gives Kind (loops.until_control parts) Turned
  unfolding loops.until_control
  until_control = any law.test_part >>= (λ after. where_next (still (varying_cond after)) (still (until_cond after)))

  times_fine : (side : Side) → FitsOperand parts again kept program side → parts.whole_fault side ≡ None → SpellsControl again kept program (controls.Times (parts.operand_of side))
  times_fine side f n = (f.spelled, simple.without F parts.whole_fault again.whole_fault F.uses.whole side f n)

  -- which is an operand where it counts turns
  abbrev CountsFine : Side → Type 0
  CountsFine side = parts.whole_fault side ≡ None → FitsOperand parts again kept program side

  times_behind : (side : Side) → Gives Kind (loops.times_behind parts side) (λ control. CountsFine side → Turns control)
  unfolding loops.times_behind
  times_behind side = note >> (key (codes "TIMES") >> pure (λ _ n f. ((times_fine side (f n.1) n.1, (f n.1).counts), times_fine side (f n.1) n.1)))

  times_control : Gives Kind (loops.times_control parts) Turns
  unfolding loops.times_control
  times_control = F.operand >>= (λ side. hence (λ control h f. h (λ _. f)) (times_behind side))

  control_part : Gives Kind (loops.control_part parts) (λ control. SpellsControl again kept program control.0)
  unfolding loops.control_part loops.times_or_once
  control_part = where_next (hence (λ control h. h.1) until_control) (where_next (times_control >>= (λ control. pure (λ h. h.1))) (pure tt))

  -- ---- PERFORM of procedures

  exit_of : (exit : ℕ) → Gives Kind (loops.exit_of parts exit) (λ last. (span : ℕ × ℕ) → simple.IsSpan F span → span.1 ≡ exit → SpellsRange again kept program span.0 last)
  unfolding loops.exit_of
  exit_of exit = where_next (any law.thru >> (simple.procedure F >>= (λ end. pure (λ e _ span s _. F.range s.0 e.0 span end s.1 e.1))))
      (pure (λ span s is. subst (λ last. SpellsRange again kept program span.0 last) is (F.range s.0 s.0 span span s.1 s.1)))

  -- ---- READ and arithmetic up to their arms

  abbrev pub ReadFine : ReadHead → Type 0
  ReadFine (reads.WithSentence number) = SpellsFile again kept program number
  ReadFine (reads.Open number into) = SpellsFile again kept program number × IfAny (simple.TakesRecord F number) into

  read_open : (found : Option ℕ) → Gives Kind (arms.read_open parts found) (λ head. FitsFile parts again kept program found → ReadFine head)
  unfolding arms.read_open
  read_open found = simple.into_part F found >>= (λ into. pure (λ i f. (simple.file_there F found f, i f)))

  pub read_head : Gives Kind (arms.read_head parts) ReadFine
  unfolding arms.read_head arms.read_next arms.read_sentence
  read_head = simple.read_file F >>= (λ found.
      where_next (key (codes "NEXT") >> where_next (key (codes "SENTENCE") >> pure (λ _ _ f. simple.file_there F found f)) (still (read_open found))) (read_open found))

  pub arithmetic_work : Gives Kind (arms.arithmetic_work parts) (λ worked. simple.WorkFine F worked.1)
  unfolding arms.arithmetic_work arms.adding_work arms.multiplying_work arms.computing_work
  arithmetic_work =
      where_next (where_next (simple.add F >>= (λ work. pure (λ h. h))) (simple.subtract F >>= (λ work. pure (λ h. h))))
      (where_next (where_next (simple.multiply F >>= (λ work. pure (λ h. h))) (simple.divide F >>= (λ work. pure (λ h. h)))) (simple.compute F >>= (λ work. pure (λ h. h))))

  -- ---- heads that enter a level

  module _ {enter : Form (Unit {0})} (E : Law false enter) where
    pub if_head : Gives Kind (choice.if_head parts enter) CondFine
    unfolding choice.if_head
    if_head = any E >> (key (codes "IF") >> (test_cond >>= (λ cond. maybe (codes "THEN") >> pure (λ _ c _ _. c))))

    pub evaluate_head : Gives Kind (choice.evaluate_head parts enter) SubjectFine
    unfolding choice.evaluate_head
    evaluate_head = any E >> (key (codes "EVALUATE") >> still (still subject))

  -- ---- PERFORM up to what it holds, in an open scope

  module _ (Held : Scope → List Stmt → Type 0) (scope : Scope) where
    abbrev pub PerformFine : PerformHead → Type 0
    PerformFine (heads.Whole stmt pending_not) = SpellsStmt again kept program Held scope stmt
    PerformFine (heads.Inline control) = SpellsTurns again kept program control

    perform_named : (name : List ℕ) (position : Position) → Gives Kind (loops.perform_named parts name position) PerformFine
    unfolding loops.perform_named
    perform_named name position =
        simple.procedure_named F name position >>= (λ first. exit_of first.1 >>= (λ exit. control_part >>= (λ control.
        pure (λ c e s. made again kept program Held scope (Stmt-F.Perform first.0 exit control.0) (stmts.Perform first.0 exit control.0) (stmts.rolls-Perform first.0 exit control.0) (e first s refl, c)))))

    perform_word : Gives Kind (loops.perform_word parts) PerformFine
    unfolding loops.perform_word
    perform_word = any laws.word >>= (λ name. still (perform_named name.0 name.1))

    module _ {enter : Form (Unit {0})} (E : Law false enter) where
      until_head : Gives Kind (loops.until_head parts enter) PerformFine
      unfolding loops.until_head loops.inline
      until_head = any E >> (until_control >>= (λ control. chosen control.1 refuse (pure (λ c _. c.0))))

      times_head : (side : Side) → Gives Kind (loops.times_head parts side) (λ head. CountsFine side → PerformFine head)
      unfolding loops.times_head
      times_head side = times_behind side >>= (λ control. pure (λ h f. (h f).0))

      -- behind a word that may be a name
      item_head : (name : List ℕ) (position : Position) → Gives Kind (loops.item_head parts enter name position)
          (λ head. Kind (kinds.Word name) × Begins parts.is_name (Some (kinds.Word name)) → PerformFine head)
      unfolding loops.item_head
      item_head name position = any E >> (F.reference_behind name position >>= (λ side. hence (λ head h f _ k. h (f k.0 k.1)) (times_head side)))

      digits_head : (found : List ℕ) (position : Position) → Gives Kind (loops.digits_head parts enter found position) (λ head. Kind (kinds.Digits found) → PerformFine head)
      unfolding loops.digits_head
      digits_head found position = any E >> hence (λ head h _ k. h (λ _. F.digits_side found position k)) (times_head (parts.digits_side found position))

      operand_head : Gives Kind (loops.operand_head parts enter) PerformFine
      unfolding loops.operand_head
      operand_head = any E >> (F.operand >>= (λ side. hence (λ head h f _. h (λ _. f)) (times_head side)))

      perform_name : GivesFrom (Begins parts.is_name) Kind (loops.perform_name parts enter) PerformFine
      unfolding loops.perform_name
      perform_name = bind_from word_from (λ name. where_next (item_head name.0 name.1) (still (perform_named name.0 name.1)))

      perform_digits : Gives Kind (loops.perform_digits parts enter) PerformFine
      unfolding loops.perform_digits
      perform_digits = digits >>= (λ found. where_next (digits_head found.0 found.1) (still (perform_named found.0 found.1)))

      perform_other : Gives Kind (loops.perform_other parts enter) PerformFine
      unfolding loops.perform_other loops.perform_operand
      perform_other = where_next perform_digits (where_next perform_word (where_next operand_head refuse))

      pub perform_head : Gives Kind (loops.perform_head parts enter) PerformFine
      unfolding loops.perform_head loops.perform_behind
      perform_head = key (codes "PERFORM") >> still (where_next until_head (where_begun perform_name perform_other))
