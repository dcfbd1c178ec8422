-- Statements without a jump are in scope anywhere.
use Rattle.std.proofs.Common.{◌≡◌, ℕ, Bool, true, List, [], ◌∷◌, map, Option, Some, None, refl, ap, sym, ◌∙◌, subst}
use Rattle.std.proofs.lemmas.Bool.{and_from, and_parts}
use Rattle.cob_tree.specs.declared.choice.Test.{Test}
use Rattle.cob_tree.specs.declared.stmt.Arms.{Arms, roll-Arms, map-Arms, fold-roll-Arms}
use Rattle.cob_tree.specs.declared.stmt.When.{When, roll-When, map-When, fold-roll-When}
use Rattle.cob_tree.specs.declared.stmt.Stmt.{Stmt, ind-Stmt, map-Stmt, roll-Stmt, fold-roll-Stmt}
use Rattle.cob_tree.specs.declared.stmt.Stmt.TheOpen.{Stmt-F, Arms-F, When-F}
use Rattle.control_flow_theory.specs.language.All.{all}
use Rattle.cobol_grammar.specs.declared.stmt_forms.scope.Scope.{Scope}
use Rattle.cobol_grammar.specs.stmt_forms.Loop.{looped}
use Rattle.struct_form.specs.Nested as nested
use Rattle.struct_form.specs.Nested.{stmt_nests, arms_nest, when_nests, stmts_nest}
use Rattle.round_trip.specs.fitting_statements.Scope as scopes
use Rattle.round_trip.specs.fitting_statements.Scope.{Scoped, each_in, is_in_scope, are_arms_in_scope, is_when_in_scope, are_in_scope}
use Rattle.end_to_end_laws.specs.results.result_procedures.Laws.{NestedStatementsAreInScope}

module _ (count here : ℕ) where
  abbrev Such : Stmt → Type 0
  Such stmt = (scope : Scope) → stmt_nests count here stmt ≡ true → is_in_scope stmt scope ≡ true

  abbrev SuchTwo : Arms → Type 0
  SuchTwo arms = (scope : Scope) → arms_nest count here arms ≡ true → are_arms_in_scope arms scope ≡ true

  abbrev SuchOne : When → Type 0
  SuchOne when = (scope : Scope) → when_nests count here when ≡ true → is_when_in_scope when scope ≡ true

  abbrev SuchStmt : Type 0
  SuchStmt = (stmt : Stmt) × Such stmt

  abbrev SuchArms : Type 0
  SuchArms = (arms : Arms) × SuchTwo arms

  abbrev SuchWhen : Type 0
  SuchWhen = (when : When) × SuchOne when

  abbrev plain : List SuchStmt → List Stmt
  plain list = map (λ e. e.0) list

  abbrev plain_whens : List SuchWhen → List When
  plain_whens whens = map (λ e. e.0) whens

  stmts-are : (xs : List SuchStmt) (scope : Scope) → stmts_nest count here (plain xs) ≡ true → are_in_scope (plain xs) scope ≡ true
  stmts-are [] scope h = refl
  stmts-are (x ∷ xs) scope h =
      let parts = and_parts (stmt_nests count here x.0) (stmts_nest count here (plain xs)) h in
      and_from (is_in_scope x.0 scope) (are_in_scope (plain xs) scope) (x.1 scope parts.0) (stmts-are xs scope parts.1)

  whens-are : (xs : List SuchWhen) (scope : Scope) → all (map (when_nests count here) (plain_whens xs)) ≡ true → each_in (map is_when_in_scope (plain_whens xs)) scope ≡ true
  whens-are [] scope h = refl
  whens-are (x ∷ xs) scope h =
      let parts = and_parts (when_nests count here x.0) (all (map (when_nests count here) (plain_whens xs))) h in
      and_from (is_when_in_scope x.0 scope) (each_in (map is_when_in_scope (plain_whens xs)) scope) (x.1 scope parts.0) (whens-are xs scope parts.1)

  abbrev mapped : Stmt-F SuchStmt SuchArms SuchWhen → Stmt-F Stmt Arms When
  mapped = map-Stmt SuchStmt SuchArms SuchWhen Stmt Arms When (λ e. e.0) (λ e. e.0) (λ e. e.0)

  abbrev nests : Stmt-F Stmt Arms When → Bool
  nests y = nested.nests_step count here (map-Stmt Stmt Arms When Bool Bool Bool (stmt_nests count here) (arms_nest count here) (when_nests count here) y)

  abbrev told : Stmt-F Stmt Arms When → Scoped
  told y = scopes.stmt_step (map-Stmt Stmt Arms When Scoped Scoped Scoped is_in_scope are_arms_in_scope is_when_in_scope y)

  step-is : (y : Stmt-F SuchStmt SuchArms SuchWhen) (scope : Scope) → nests (mapped y) ≡ true → told (mapped y) scope ≡ true
  step-is (Stmt-F.Display items advance) scope h = refl
  step-is (Stmt-F.Move from to) scope h = refl
  step-is (Stmt-F.Arith calc into arms) scope h = arms.1 scope h
  step-is (Stmt-F.SetTrue place) scope h = refl
  step-is (Stmt-F.Opens openings) scope h = refl
  step-is (Stmt-F.Closes files) scope h = refl
  step-is (Stmt-F.Read file into arms) scope h = arms.1 scope h
  step-is (Stmt-F.Write entry from) scope h = refl
  step-is (Stmt-F.Rewrite entry from) scope h = refl
  step-is (Stmt-F.If cond met unmet) scope h =
      let parts = and_parts (stmts_nest count here (plain met)) (stmts_nest count here (plain unmet)) h in
      and_from (are_in_scope (plain met) scope) (are_in_scope (plain unmet) scope) (stmts-are met scope parts.0) (stmts-are unmet scope parts.1)
  step-is (Stmt-F.Evaluate subject whens None) scope h =
      let parts = and_parts (all (map (when_nests count here) (plain_whens whens))) true h in
      and_from (each_in (map is_when_in_scope (plain_whens whens)) scope) true (whens-are whens scope parts.0) refl
  step-is (Stmt-F.Evaluate subject whens (Some other)) scope h =
      let parts = and_parts (all (map (when_nests count here) (plain_whens whens))) (stmts_nest count here (plain other)) h in
      and_from (each_in (map is_when_in_scope (plain_whens whens)) scope) (are_in_scope (plain other) scope) (whens-are whens scope parts.0) (stmts-are other scope parts.1)
  step-is (Stmt-F.Loop control body) scope h = stmts-are body (looped scope) h
  step-is (Stmt-F.Perform entry exit control) scope h = refl
  step-is (Stmt-F.Go to) scope h = refl
  step-is (Stmt-F.GoDepending to on) scope h = refl
  step-is Stmt-F.NextSentence scope h = refl
  step-is Stmt-F.StopRun scope h = refl
  step-is Stmt-F.Exit scope h = absurd cc
  step-is Stmt-F.ExitParagraph scope h = refl
  step-is Stmt-F.ExitSection scope h = absurd cc
  step-is (Stmt-F.ExitPerform cycle) scope h = absurd cc
  step-is Stmt-F.Continue scope h = refl

  stmt-layer : (y : Stmt-F SuchStmt SuchArms SuchWhen) → Such (roll-Stmt (mapped y))
  stmt-layer y scope h =
      ap (λ (s : Scoped). s scope) (fold-roll-Stmt Scoped Scoped Scoped scopes.stmt_step scopes.arms_step scopes.when_step (mapped y))
      ∙ step-is y scope (sym (fold-roll-Stmt Bool Bool Bool (nested.nests_step count here) nested.arms_step nested.when_step (mapped y)) ∙ h)

  abbrev mapped_arms : Arms-F SuchStmt SuchArms SuchWhen → Arms-F Stmt Arms When
  mapped_arms = map-Arms SuchStmt SuchArms SuchWhen Stmt Arms When (λ e. e.0) (λ e. e.0) (λ e. e.0)

  abbrev nests_arms : Arms-F Stmt Arms When → Bool
  nests_arms arms = nested.arms_step (map-Arms Stmt Arms When Bool Bool Bool (stmt_nests count here) (arms_nest count here) (when_nests count here) arms)

  abbrev told_arms : Arms-F Stmt Arms When → Scoped
  told_arms arms = scopes.arms_step (map-Arms Stmt Arms When Scoped Scoped Scoped is_in_scope are_arms_in_scope is_when_in_scope arms)

  arms-are : (first second : Option (List SuchStmt)) (scope : Scope) → let y = mapped_arms (record { first = first; second = second }) in
      nests_arms y ≡ true → told_arms y scope ≡ true
  arms-are None None scope h = refl
  arms-are None (Some second) scope h = stmts-are second scope h
  arms-are (Some first) None scope h =
      let parts = and_parts (stmts_nest count here (plain first)) true h in
      and_from (are_in_scope (plain first) scope) true (stmts-are first scope parts.0) refl
  arms-are (Some first) (Some second) scope h =
      let parts = and_parts (stmts_nest count here (plain first)) (stmts_nest count here (plain second)) h in
      and_from (are_in_scope (plain first) scope) (are_in_scope (plain second) scope) (stmts-are first scope parts.0) (stmts-are second scope parts.1)

  arms-layer : (first second : Option (List SuchStmt)) → SuchTwo (roll-Arms (mapped_arms (record { first = first; second = second })))
  arms-layer first second scope h =
      let y = mapped_arms (record { first = first; second = second }) in
      ap (λ (s : Scoped). s scope) (fold-roll-Arms Scoped Scoped Scoped scopes.stmt_step scopes.arms_step scopes.when_step y)
      ∙ arms-are first second scope (sym (fold-roll-Arms Bool Bool Bool (nested.nests_step count here) nested.arms_step nested.when_step y) ∙ h)

  when-layer : (tests : List Test) (stmts : List SuchStmt) → SuchOne (roll-When (map-When SuchStmt SuchArms SuchWhen Stmt Arms When (λ e. e.0) (λ e. e.0) (λ e. e.0) (record { tests = tests; stmts = stmts })))
  when-layer tests stmts scope h =
      let y : When-F Stmt Arms When = record { tests = tests; stmts = plain stmts } in
      ap (λ (s : Scoped). s scope) (fold-roll-When Scoped Scoped Scoped scopes.stmt_step scopes.arms_step scopes.when_step y)
      ∙ stmts-are stmts scope (sym (fold-roll-When Bool Bool Bool (nested.nests_step count here) nested.arms_step nested.when_step y) ∙ h)

  stmt-is : (stmt : Stmt) → Such stmt
  stmt-is stmt =
      ind-Stmt Such SuchTwo SuchOne
      (λ x y is. subst (λ z. Such (roll-Stmt z)) is (stmt-layer y))
      (λ x y is. subst (λ z. SuchTwo (roll-Arms z)) is (arms-layer y.first y.second))
      (λ x y is. subst (λ z. SuchOne (roll-When z)) is (when-layer y.tests y.stmts)) stmt

  list-is : (scope : Scope) (list : List Stmt) → stmts_nest count here list ≡ true → are_in_scope list scope ≡ true
  list-is scope [] h = refl
  list-is scope (stmt ∷ list) h =
      let parts = and_parts (stmt_nests count here stmt) (stmts_nest count here list) h in
      and_from (is_in_scope stmt scope) (are_in_scope list scope) (stmt-is stmt scope parts.0) (list-is scope list parts.1)

pub in-scope : NestedStatementsAreInScope
in-scope count here scope list h = list-is count here scope list h
