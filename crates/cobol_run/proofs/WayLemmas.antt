-- What the head of the rest comes to, statement by statement, where no word on an added item stands.
use Rattle.std.proofs.Common.{◌≡◌, ℕ, Bool, true, false, not, List, [], ◌∷◌, map, Ok, Err, refl, ap, sym, ◌∙◌, subst}
use Rattle.std.specs.Prelude.{if◌then◌else◌}
use Rattle.cob_tree.specs.declared.cond.Cond.{Cond, fold-roll-Cond}
use Rattle.cob_tree.specs.declared.cond.Cond.TheOpen.{Cond-F}
use Rattle.cob_tree.specs.declared.cond.Cond.TheVariants as cond
use Rattle.cob_tree.specs.declared.cond.Cond.TheVariants.{rolls-Not}
use Rattle.cob_tree.specs.declared.stmt.Stmt.{Stmt}
use Rattle.cob_tree.specs.declared.stmt.Stmt.TheVariants as stmts
use Rattle.cob_store.specs.Answer.{Answer, and_then}
use Rattle.meanings.specs.statements.Condition.{Tests, cond_step, holds}
use Rattle.meanings.specs.statements.Filing.{Declared}
use Rattle.meanings.specs.statements.Does.{memory_in}
use Rattle.control_flow_theory.specs.semantics.Outcome.{Tried, Got, Ends}
use Rattle.control_flow_theory.specs.semantics.Doing.{Doing, alone_act, alone_test, arm_of, giving}
use Rattle.control_flow_theory.specs.semantics.Items.{item_way, tried}
use Rattle.control_flow_theory.specs.language.Language as language
use Rattle.control_flow_theory.specs.language.Control.{arm_before, else_of, seen, seen_stmts, test_of}
use Rattle.control_flow_theory.specs.language.Items.{Item, before, before_arm}
use Rattle.control_flow_theory.specs.language.Items as items
use Rattle.control_flow_theory.specs.language.Own.{OwnAct, OwnStmt, OwnTest}
use Rattle.control_flow_theory.proofs.language_lemmas.Conditions.{cond-back}
use Rattle.control_flow_theory.proofs.language_lemmas.ReadBack.{stmt-back}
use Rattle.control_flow_theory.proofs.language_lemmas.Rows.{seen_if}
use Rattle.control_flow_theory.proofs.language_lemmas.Unseen.{cond_of, simple_of, unseen}
use Rattle.cobol_theory.specs.cobol_meaning.Acting.{Memory, acting, answered, does_to, tests_in}
use Rattle.cobol_theory.specs.cobol_meaning.Runs.{doing_in}
use Rattle.cobol_run.specs.Own.{HeadOwn}
use Rattle.cobol_run.specs.NextStep.{on}

-- ---- conditions and acts

module _ (declared : Declared) where
  abbrev doing : Doing Memory
  doing = doing_in declared

  not-answered : (memory : Memory) (answer : Answer Bool) → answered memory (and_then answer (λ test. Ok (not test))) ≡ giving not (answered memory answer)
  not-answered memory (Ok test) = refl
  not-answered memory (Err abend) = refl

  not-holds : (inner : Cond) → holds (cond.Not inner) ≡ (λ entries memory. and_then (holds inner entries memory) (λ test. Ok (not test)))
  not-holds inner = ap holds (sym (rolls-Not inner)) ∙ fold-roll-Cond Tests cond_step (Cond-F.Not inner)

  not-test : (inner : Cond) (memory : Memory) → tests_in declared (cond.Not inner) memory ≡ giving not (tests_in declared inner memory)
  not-test inner memory =
      ap (λ (h : Tests). answered memory (h declared.entries (memory_in declared memory.store))) (not-holds inner)
      ∙ not-answered memory (holds inner declared.entries (memory_in declared memory.store))

  alone-test : (test : language.Test) → OwnTest test → (memory : Memory) → alone_test (acting declared) test memory ≡ tests_in declared (cond_of test) memory
  alone-test (language.Holds whole) h memory = refl
  alone-test (language.Not test) h memory = ap (giving not) (alone-test test h memory) ∙ sym (not-test (cond_of test) memory)
  alone-test (language.Is cell value) h memory = absurd h
  alone-test (language.Above cell) h memory = absurd h

  pub test-is : (whole : Cond) → OwnTest (test_of whole) → (memory : Memory) → alone_test (acting declared) (test_of whole) memory ≡ tests_in declared whole memory
  test-is whole h memory = alone-test (test_of whole) h memory ∙ ap (λ c. tests_in declared c memory) (cond-back whole h)

  alone-act : (act : language.Act) → OwnAct act → (memory : Memory) → alone_act (acting declared) act memory ≡ does_to declared (simple_of act) memory
  alone-act (language.Own simple) h memory = refl
  alone-act (language.Set cell value) h memory = absurd h
  alone-act (language.Take cell amount) h memory = absurd h
  alone-act (language.Lower cell) h memory = absurd h

  -- a statement that acts
  act-way : (last : ℕ) (stmt : Stmt) (act : language.Act) → seen last stmt ≡ language.Do act → HeadOwn (seen last stmt) → (memory : Memory) →
      alone_act (acting declared) act memory ≡ does_to declared stmt memory
  act-way last stmt act e h memory =
      let own : OwnAct act = subst HeadOwn e h in
      let back : simple_of act ≡ stmt = sym (ap unseen e) ∙ stmt-back last stmt (subst OwnStmt (sym e) own) in
      alone-act act own memory ∙ ap (λ s. does_to declared s memory) back

  pub do-way : (last : ℕ) (stmt : Stmt) (act : language.Act) → seen last stmt ≡ language.Do act → HeadOwn (seen last stmt) → (rest : List Item) (memory : Memory) →
      item_way doing (items.Do (seen last stmt)) rest memory ≡ tried (does_to declared stmt memory) (λ u. on rest)
  do-way last stmt act e h rest memory =
      ap (λ s. item_way doing (items.Do s) rest memory) e
      ∙ ap (λ t. tried t (λ u. on rest)) (act-way last stmt act e h memory)

  -- IF
  if-arms : (last : ℕ) (met unmet : List Stmt) (rest : List Item) (t : Tried Memory Bool) →
      tried (giving arm_of t) (λ k. on (before_arm (language.given (seen_stmts last met) (arm_before (else_of (map (seen last) unmet)) language.done)) k rest))
      ≡ tried t (λ holds. on (before (seen_stmts last (if holds then met else unmet)) rest))
  if-arms last met unmet rest (Ends trace kind memory) = refl
  if-arms last met unmet rest (Got trace true memory) = refl
  if-arms last met [] rest (Got trace false memory) = refl
  if-arms last met (stmt ∷ stmts) rest (Got trace false memory) = refl

  pub if-way : (last : ℕ) (whole : Cond) (met unmet : List Stmt) (rest : List Item) (memory : Memory) → OwnTest (test_of whole) →
      item_way doing (items.Do (seen last (stmts.If whole met unmet))) rest memory
      ≡ tried (tests_in declared whole memory) (λ holds. on (before (seen_stmts last (if holds then met else unmet)) rest))
  if-way last whole met unmet rest memory h =
      ap (λ s. item_way doing (items.Do s) rest memory) (seen_if last whole met unmet)
      ∙ ap (λ t. tried (giving arm_of t) (λ k. on (before_arm (language.given (seen_stmts last met) (arm_before (else_of (map (seen last) unmet)) language.done)) k rest))) (test-is whole h memory)
      ∙ if-arms last met unmet rest (tests_in declared whole memory)
