-- CONTINUE and EXIT leave the memory as it is, and show nothing.
use Rattle.std.proofs.Common.{◌≡◌, true, [], refl, subst}
use Rattle.cob_tree.specs.declared.stmt.Arms.{Arms}
use Rattle.cob_tree.specs.declared.stmt.When.{When}
use Rattle.cob_tree.specs.declared.stmt.Stmt.{Stmt, roll-Stmt, out-Stmt, roll-out-Stmt}
use Rattle.cob_tree.specs.declared.stmt.Stmt.TheOpen.{Stmt-F}
use Rattle.meanings.specs.statements.Filing.{Declared}
use Rattle.control_flow_theory.specs.semantics.Outcome.{Got}
use Rattle.cobol_theory.specs.cobol_meaning.Acting.{Memory, does_to}
use Rattle.program_facts.specs.completion.FlowFacts.{does_nothing}

skips-rolled : (declared : Declared) (memory : Memory) (view : Stmt-F Stmt Arms When) →
    does_nothing (roll-Stmt view) ≡ true →
    does_to declared (roll-Stmt view) memory ≡ Got [] tt memory
unfolding out-Stmt roll-Stmt denote.Hole.Carrier.out denote.Hole.Carrier.roll
skips-rolled declared memory Stmt-F.Continue is = refl
skips-rolled declared memory Stmt-F.Exit is = refl
skips-rolled declared memory _ is = cc

pub skips : (declared : Declared) (stmt : Stmt) (memory : Memory) → does_nothing stmt ≡ true →
    does_to declared stmt memory ≡ Got [] tt memory
skips declared stmt memory =
    subst (λ s. does_nothing s ≡ true → does_to declared s memory ≡ Got [] tt memory)
    (roll-out-Stmt stmt) (skips-rolled declared memory (out-Stmt stmt))
