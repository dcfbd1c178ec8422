-- What is written of the program's own statements, row by row.
use Rattle.std.proofs.Common.{◌≡◌, ℕ, suc, Bool, true, false, ◌||◌, List, [], ◌∷◌, map, Option, Some, None, is_some, refl, ap, sym, ◌∙◌}
use Rattle.cob_tree.specs.declared.calc.Calc.{Calc}
use Rattle.cob_tree.specs.declared.calc.Target.{Target}
use Rattle.cob_tree.specs.declared.cond.Cond.{Cond}
use Rattle.cob_tree.specs.declared.control.Control.{Control}
use Rattle.cob_tree.specs.declared.place.Place.{Place}
use Rattle.cob_tree.specs.declared.stmt.Arms.{Arms, out-Arms}
use Rattle.cob_tree.specs.declared.stmt.Stmt.{Stmt}
use Rattle.cob_tree.specs.declared.stmt.Stmt.TheVariants.{Continue, If, Loop, Perform, Arith, Read}
use Rattle.control_flow_theory.specs.language.Language as language
use Rattle.control_flow_theory.specs.language.Control.{always, test_of, arm_before, else_of, stmts_of, arith_stmt, control_in, loop_of, perform_of, Both, both_arms, seen, seen_stmts}
use Rattle.control_flow_theory.specs.language.Own.{OwnAct, OwnTest, OwnControl}
use Rattle.control_flow_theory.proofs.language_lemmas.Rows.{seen_if_any, seen_if, seen_loop, seen_perform, seen_arith, seen_read, seen_both_is}
use Rattle.control_flow_theory.specs.rendering.Rendering.{Empty, Continues, Goes, standing, arm_stands, written_act, written_test, written_control, written_arms, written_arm}
use Rattle.statement_builders.specs.arms.EmptyArms.{if_had, put_arm, stands_so}
use Rattle.statement_builders.specs.arms.Choosing.{IsIf, IsRead, IsArith}
use Rattle.program_facts.specs.own_items.Owning.{OwnTurns}
use Rattle.cobol_theory.specs.cell_serving.Naming.{first_stands}
use Rattle.statement_builders.specs.arms.Written.{Way, naming_in, written, all_written, or_nothing, written_if_any}
use Rattle.statement_builders.proofs.arms_lemmas.ChoiceRows.{continues_is, stays_is}

module _ (way : Way) where
  -- Parts without a word on an added item.

  abbrev test_is : language.Test → language.Test
  test_is = written_test (naming_in way) way.place way.range

  pub own_test : (test : language.Test) → OwnTest test → test_is test ≡ test
  own_test (language.Holds cond) h = refl
  own_test (language.Not test) h = ap language.Not (own_test test h)
  own_test (language.Is cell value) h = absurd h
  own_test (language.Above cell) h = absurd h

  abbrev act_is : language.Act → language.Act
  act_is = written_act (naming_in way) way.place way.range

  pub own_act : (act : language.Act) → OwnAct act → act_is act ≡ act
  own_act (language.Own simple) h = refl
  own_act (language.Set cell value) h = absurd h
  own_act (language.Take cell amount) h = absurd h
  own_act (language.Lower cell) h = absurd h

  pub own_do : (act : language.Act) → OwnAct act → language.Do act ≡ written way (language.Do act)
  own_do act h = ap language.Do (sym (own_act act h))

  abbrev control_is : language.Control → language.Control
  control_is = written_control (naming_in way) way.place way.range

  own_control : (control : language.Control) → OwnControl control → control_is control ≡ control
  own_control (language.Times amount) h = refl
  own_control (language.Until after test) h = ap (language.Until after) (own_test test h)
  own_control (language.Varying after set step test) h =
      ap (λ s. language.Varying after s (act_is step) (test_is test)) (own_act set h.0)
      ∙ ap (λ s. language.Varying after set s (test_is test)) (own_act step h.1)
      ∙ ap (language.Varying after set step) (own_test test h.2)

  -- PERFORM.

  turns_perform : (turns : Option language.Control) (entry exit number : ℕ) → OwnTurns turns → way.place (language.Part entry exit) ≡ number →
      perform_of turns number number ≡ written way (perform_of turns entry exit)
  turns_perform None entry exit number h e = ap (λ n. language.Perform n n) (sym e)
  turns_perform (Some turns) entry exit number h e =
      ap (λ n. language.Loop turns (language.Performed n n)) (sym e)
      ∙ ap (λ t. language.Loop t (language.Performed (way.place (language.Part entry exit)) (way.place (language.Part entry exit)))) (sym (own_control turns h))

  pub perform_row : (control : Control) (entry exit number : ℕ) (made : Stmt) → OwnTurns (control_in control) → way.place (language.Part entry exit) ≡ number →
      seen 0 made ≡ perform_of (control_in control) number number → seen 0 made ≡ written way (seen 0 (Perform entry exit control))
  perform_row control entry exit number made h e is =
      is ∙ turns_perform (control_in control) entry exit number h e ∙ ap (written way) (sym (seen_perform 0 entry exit control))

  turns_loop : (turns : Option language.Control) (body : language.Stmts) → OwnTurns turns →
      loop_of turns (or_nothing way body) ≡ written way (loop_of turns body)
  turns_loop None body h = ap (language.Choose (language.If (language.Holds always))) (sym (continues_is (all_written way body) language.done))
  turns_loop (Some turns) body h = ap (λ t. language.Loop t (language.Nested (or_nothing way body))) (sym (own_control turns h))

  pub loop_row : (control : Control) (body stmts : List Stmt) (made : Stmt) → OwnTurns (control_in control) → seen_stmts 0 stmts ≡ or_nothing way (seen_stmts 0 body) →
      seen 0 made ≡ loop_of (control_in control) (seen_stmts 0 stmts) → seen 0 made ≡ written way (seen 0 (Loop control body))
  loop_row control body stmts made h b is =
      is ∙ ap (loop_of (control_in control)) b ∙ turns_loop (control_in control) (seen_stmts 0 body) h
      ∙ ap (written way) (sym (seen_loop 0 control body))

  -- Arms.

  abbrev pub arms_are : (ℕ → Empty) → ℕ → language.Arms → language.Arms
  arms_are = written_arms (naming_in way) way.place way.range

  abbrev pub arm_is : Option language.Stmts → language.Stmts
  arm_is None = language.none
  arm_is (Some stmts) = all_written way stmts

  pub any_is : (arm : Option (List Stmt)) → written_if_any way arm ≡ arm_is (seen_if_any 0 arm)
  any_is None = refl
  any_is (Some stmts) = refl

  missing_is : (had : Bool) (others : language.Arms) → written_arm Continue (if_had had) false language.none others ≡ put_arm (if_had had) language.none others
  missing_is true others = refl
  missing_is false others = refl

  pub arm_row : (empty : ℕ → Empty) (k : ℕ) (had : Bool) (arm : Option language.Stmts) (others : language.Arms) → empty k ≡ if_had had →
      arms_are empty k (arm_before arm others) ≡ put_arm (if_had had) (arm_is arm) (arms_are empty (suc k) others)
  arm_row empty k had None others h =
      ap (λ e. written_arm Continue e false language.none (arms_are empty (suc k) others)) h
      ∙ missing_is had (arms_are empty (suc k) others)
  arm_row empty k had (Some stmts) others h =
      ap (λ e. written_arm Continue e true (all_written way stmts) (arms_are empty (suc k) others)) h

  given_stands : (had : Bool) (stmts : language.Stmts) → arm_stands (if_had had) true stmts ≡ stands_so had (all_written way stmts)
  given_stands true language.none = refl
  given_stands false language.none = refl
  given_stands true (language.also stmt stmts) = refl
  given_stands false (language.also stmt stmts) = refl

  missing_stands : (had : Bool) → arm_stands (if_had had) false language.none ≡ stands_so had language.none
  missing_stands true = refl
  missing_stands false = refl

  first_row : (empty : ℕ → Empty) (k : ℕ) (had : Bool) (arm : Option language.Stmts) (others : language.Arms) → empty k ≡ if_had had →
      first_stands (standing empty k (arm_before arm others)) ≡ stands_so had (arm_is arm)
  first_row empty k had None others h = ap (λ e. arm_stands e false language.none) h ∙ missing_stands had
  first_row empty k had (Some stmts) others h = ap (λ e. arm_stands e true stmts) h ∙ given_stands had stmts

  -- IF.

  else_row : (empty : ℕ → Empty) (stmts : List language.Stmt) → empty 1 ≡ Goes →
      put_arm Goes (all_written way (stmts_of stmts)) language.done ≡ arms_are empty 1 (arm_before (else_of stmts) language.done)
  else_row empty [] h = ap (λ e. written_arm Continue e false language.none language.done) (sym h)
  else_row empty (stmt ∷ stmts) h = refl

  pub if_row : (cond : Cond) (met met' unmet unmet' : List Stmt) (made : Stmt) → OwnTest (test_of cond) →
      seen_stmts 0 met' ≡ all_written way (seen_stmts 0 met) → seen_stmts 0 unmet' ≡ all_written way (seen_stmts 0 unmet) →
      IsIf cond (seen_stmts 0 met') (seen_stmts 0 unmet') made → seen 0 made ≡ written way (seen 0 (If cond met unmet))
  if_row cond met met' unmet unmet' made h m u is =
      let empty : ℕ → Empty = (naming_in way).empty way.range (language.If (test_of cond)) in
      let whole : language.Test → language.Arms → language.Stmt = λ test arms. language.Choose (language.If test) arms in
      is
      ∙ ap (λ stmts. whole (test_of cond) (put_arm Continues stmts (put_arm Goes (seen_stmts 0 unmet') language.done))) m
      ∙ ap (λ stmts. whole (test_of cond) (put_arm Continues (all_written way (seen_stmts 0 met)) (put_arm Goes stmts language.done))) u
      ∙ ap (λ arms. whole (test_of cond) (put_arm Continues (all_written way (seen_stmts 0 met)) arms)) (else_row empty (map (seen 0) unmet) refl)
      ∙ ap (λ test. whole test (put_arm Continues (all_written way (seen_stmts 0 met)) (arms_are empty 1 (arm_before (else_of (map (seen 0) unmet)) language.done)))) (sym (own_test (test_of cond) h))
      ∙ ap (written way) (sym (seen_if 0 cond met unmet))

  -- READ and arithmetic.

  read_choice : (file : ℕ) (into : Option Place) (first second : Option language.Stmts) →
      language.Choose (language.By (language.Read file into (stands_so (is_some first) (arm_is first)))) (put_arm (if_had (is_some first)) (arm_is first) (put_arm Goes (arm_is second) language.done))
      ≡ written way (language.Choose (language.By (language.Read file into (is_some first))) (arm_before first (arm_before second language.done)))
  read_choice file into first second =
      let had = is_some first in
      let empty : ℕ → Empty = (naming_in way).empty way.range (language.By (language.Read file into had)) in
      let rest = arm_before second language.done in
      let whole : Bool → language.Arms → language.Stmt = λ stands arms. language.Choose (language.By (language.Read file into stands)) arms in
      ap (λ stands. whole stands (put_arm (if_had had) (arm_is first) (put_arm Goes (arm_is second) language.done))) (sym (first_row empty 0 had first rest refl))
      ∙ ap (whole (first_stands (standing empty 0 (arm_before first rest))))
      (ap (put_arm (if_had had) (arm_is first)) (sym (arm_row empty 1 false second language.done refl)) ∙ sym (arm_row empty 0 had first rest refl))

  abbrev both_of : Option (List Stmt) → Option (List Stmt) → Both
  both_of first second = record { first = seen_if_any 0 first; second = seen_if_any 0 second }

  pub some_seen : (arm : Option (List Stmt)) → is_some arm ≡ is_some (seen_if_any 0 arm)
  some_seen None = refl
  some_seen (Some stmts) = refl

  pub read_row : (file : ℕ) (into : Option Place) (arms : Arms) (first second : List Stmt) (made : Stmt) →
      seen_stmts 0 first ≡ written_if_any way (out-Arms arms).first → seen_stmts 0 second ≡ written_if_any way (out-Arms arms).second →
      IsRead file into (is_some (out-Arms arms).first) (seen_stmts 0 first) (seen_stmts 0 second) made →
      seen 0 made ≡ written way (seen 0 (Read file into arms))
  read_row file into arms first second made f s is =
      let one = (out-Arms arms).first in
      let two = (out-Arms arms).second in
      let whole : Bool → language.Stmts → language.Stmts → language.Stmt =
      λ had a b. language.Choose (language.By (language.Read file into (stands_so had a))) (put_arm (if_had had) a (put_arm Goes b language.done)) in
      let chosen : Both → language.Stmt = λ both. language.Choose (language.By (language.Read file into (is_some both.first))) (both_arms both) in
      is
      ∙ ap (λ a. whole (is_some one) a (seen_stmts 0 second)) (f ∙ any_is one)
      ∙ ap (whole (is_some one) (arm_is (seen_if_any 0 one))) (s ∙ any_is two)
      ∙ ap (λ had. whole had (arm_is (seen_if_any 0 one)) (arm_is (seen_if_any 0 two))) (some_seen one)
      ∙ read_choice file into (seen_if_any 0 one) (seen_if_any 0 two)
      ∙ ap (λ both. written way (chosen both)) (sym (seen_both_is 0 arms))
      ∙ ap (written way) (sym (seen_read 0 file into arms))

  arith_choice : (calc : Calc) (into : List Target) (first second : Option language.Stmts) → (is_some first || is_some second) ≡ true →
      language.Choose (language.By (language.Arith calc into)) (put_arm (if_had (is_some first)) (arm_is first) (put_arm Goes (arm_is second) language.done))
      ≡ written way (arith_stmt calc into (record { first = first; second = second }))
  arith_choice calc into None None h = absurd (let e : false ≡ true = h in cc)
  arith_choice calc into None (Some second) h = refl
  arith_choice calc into (Some first) None h =
      ap (language.Choose (language.By (language.Arith calc into))) (stays_is (all_written way first) (language.missing language.done))
  arith_choice calc into (Some first) (Some second) h =
      ap (language.Choose (language.By (language.Arith calc into))) (stays_is (all_written way first) (put_arm Goes (all_written way second) language.done))

  pub arith_row : (calc : Calc) (into : List Target) (arms : Arms) (first second : List Stmt) (made : Stmt) →
      (is_some (out-Arms arms).first || is_some (out-Arms arms).second) ≡ true →
      seen_stmts 0 first ≡ written_if_any way (out-Arms arms).first → seen_stmts 0 second ≡ written_if_any way (out-Arms arms).second →
      IsArith calc into (is_some (out-Arms arms).first) (seen_stmts 0 first) (seen_stmts 0 second) made → seen 0 made ≡ written way (seen 0 (Arith calc into arms))
  arith_row calc into arms first second made h f s is =
      let one = (out-Arms arms).first in
      let two = (out-Arms arms).second in
      let whole : Bool → language.Stmts → language.Stmts → language.Stmt =
      λ had a b. language.Choose (language.By (language.Arith calc into)) (put_arm (if_had had) a (put_arm Goes b language.done)) in
      is
      ∙ ap (λ a. whole (is_some one) a (seen_stmts 0 second)) (f ∙ any_is one)
      ∙ ap (whole (is_some one) (arm_is (seen_if_any 0 one))) (s ∙ any_is two)
      ∙ ap (λ had. whole had (arm_is (seen_if_any 0 one)) (arm_is (seen_if_any 0 two))) (some_seen one)
      ∙ arith_choice calc into (seen_if_any 0 one) (seen_if_any 0 two)
      (ap (λ b. b || is_some (seen_if_any 0 two)) (sym (some_seen one)) ∙ ap (λ b. is_some one || b) (sym (some_seen two)) ∙ h)
      ∙ ap (λ both. written way (arith_stmt calc into both)) (sym (seen_both_is 0 arms))
      ∙ ap (written way) (sym (seen_arith 0 calc into arms))
