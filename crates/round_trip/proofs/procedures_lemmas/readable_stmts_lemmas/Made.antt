-- Statements, arms and branches that are made of what they are to have.
use Rattle.std.proofs.Common.{◌≡◌, ◌∙◌, sym, ap, subst, List, Option}
use Rattle.cob_tree.specs.declared.choice.Subject.{Subject}
use Rattle.cob_tree.specs.declared.choice.Test.{Test}
use Rattle.cob_tree.specs.declared.program.Program.{Program}
use Rattle.cob_tree.specs.declared.stmt.Arms.{Arms, out-roll-Arms}
use Rattle.cob_tree.specs.declared.stmt.Stmt.{Stmt, roll-Stmt, out-Stmt, out-roll-Stmt}
use Rattle.cob_tree.specs.declared.stmt.Stmt.TheOpen.{Stmt-F}
use Rattle.cob_tree.specs.declared.stmt.When.{When, out-roll-When}
use Rattle.cobol_grammar.specs.declared.stmt_forms.scope.Scope.{Scope}
use Rattle.cobol_grammar.specs.stmt_forms.Arms.{arms_of}
use Rattle.cobol_grammar.specs.stmt_forms.Choice.{when_of}
use Rattle.cobol_grammar.specs.stmt_forms.Part.{Parts}
use Rattle.round_trip.specs.spelling.stmt_spelling.Part.{Kept}
use Rattle.round_trip.specs.spelling.stmt_spelling.Stmt.{Some_of, IfAny, SpellsArms, SpellsTest, SpellsWhen, SpellsShape, SpellsStmt}

module _ {Side Known : Type 0} (again : Parts Side Known) (kept : Kept Side) (program : Program) (Held : Scope → List Stmt → Type 0) (scope : Scope) where
  pub made : (y : Stmt-F Stmt Arms When) (x : Stmt) → roll-Stmt y ≡ x → SpellsShape again kept program Held scope y → SpellsStmt again kept program Held scope x
  made y x e h = subst (SpellsShape again kept program Held scope) (sym (ap out-Stmt (sym e) ∙ out-roll-Stmt y)) h

  pub made_arms : (first second : Option (List Stmt)) → IfAny (Held scope) first → IfAny (Held scope) second → SpellsArms again kept program Held scope (arms_of first second)
  made_arms first second f s =
      subst (λ arms. IfAny (Held scope) arms.first × IfAny (Held scope) arms.second) (sym (out-roll-Arms (record { first = first; second = second }))) (f, s)

  pub made_when : (subject : Subject) (tests : List Test) (held : List Stmt) → Some_of (SpellsTest again kept program subject) tests → Held scope held →
      SpellsWhen again kept program Held scope subject (when_of tests held)
  made_when subject tests held t h =
      subst (λ when. Some_of (SpellsTest again kept program subject) when.tests × Held scope when.stmts) (sym (out-roll-When (record { tests = tests; stmts = held }))) (t, h)
