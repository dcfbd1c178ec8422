-- The premises of the headline hold of one small program.
use Rattle.std.proofs.Common.{◌≡◌, ℕ, ◌<◌, ◌≤◌, Some, slice_get, true, [], ◌∷◌, refl, ap, sym, ◌∙◌, arith, inl}
use Rattle.cob_tree.specs.declared.place.Place.{out-Place, roll-Place}
use Rattle.cob_tree.specs.declared.place.Operand.{out-Operand}
use Rattle.cob_tree.specs.declared.cond.Cond.{out-Cond}
use Rattle.cob_tree.specs.declared.stmt.Stmt.{out-Stmt}
use Rattle.control_flow_theory.specs.runs.Run.{Going, Over, IsOver}
use Rattle.control_flow_theory.specs.runs.Tied.{Tied}
use Rattle.control_flow_theory.specs.runs.Machine.{meaning}
use Rattle.control_flow_theory.proofs.runs_lemmas.Ties.{ended-tied, over-covers, tied-refl}
use Rattle.control_flow_theory.proofs.runs_lemmas.Machines.{machine-steady}
use Rattle.control_flow_theory.specs.semantics.Outcome.{Stopped, Faulted, Normally, Run}
use Rattle.control_flow_theory.specs.language.Language.{Picker, Range}
use Rattle.control_flow_theory.specs.semantics.Doing.{alone}
use Rattle.control_flow_theory.specs.semantics.Source.{source_machine}
use Rattle.control_flow_theory.specs.semantics.Walk.{main_machine}
use Rattle.control_flow_theory.specs.semantics.Graph.{tree, IsLast}
use Rattle.control_flow_theory.specs.rendering.Rendering.{Empty, Stays, Naming, Procedure, place_of}
use Rattle.control_flow_theory.specs.rendering.Procedures.{StmtsStand, stmts_call, AreProcedures}
use Rattle.control_flow_theory.specs.rendering.Laws.{NeverFaults}
use Rattle.control_flow_theory.specs.semantics.Examples.{stopped}
use Rattle.control_flow_theory.specs.semantics.Parts.{small}
use Rattle.control_flow_theory.specs.rendering.WholeExample.{jumping_program, jumping_procedure, jumping_family, no_cells, TheJumpIsRestructured}
use Rattle.control_flow_theory.proofs.semantics_lemmas.Growth.{source-grows, main-grows}
use Rattle.control_flow_theory.proofs.rendering_lemmas.Example.{each-from}
use Rattle.control_flow_theory.proofs.rendering_lemmas.Serviceable.{whole, names, whole-serves}
use Rattle.control_flow_theory.proofs.rendering_lemmas.Chained.{restructured-same}

abbrev kept : ℕ → ℕ
kept n = n

abbrev no_arm : Range → Picker → ℕ → Empty
no_arm range picker arm = Stays

abbrev came : ℕ → Run ℕ
came n = stopped (11 ∷ 13 ∷ []) n

came-over : (n : ℕ) → IsOver (came n)
came-over n going = cc

jump-lowers : Tied (meaning (source_machine (alone small) kept jumping_program)) (meaning (main_machine small kept jumping_family))
unfolding out-Stmt out-Cond out-Place roll-Place out-Operand denote.Hole.Carrier.out denote.Hole.Carrier.roll
jump-lowers =
    let source = meaning (source_machine (alone small) kept jumping_program) in
    let walk = meaning (main_machine small kept jumping_family) in
    ended-tied source walk (machine-steady (source_machine (alone small) kept jumping_program) (source-grows (alone small) kept jumping_program)) (machine-steady (main_machine small kept jumping_family) (main-grows small kept jumping_family))
    (record { most = 6; whole = came; over = came-over; first = λ n. (6, omega arith, refl); second = λ n. (3, omega arith, refl) })

jump-never-faults : NeverFaults small kept jumping_program
unfolding out-Stmt out-Cond out-Place roll-Place out-Operand denote.Hole.Carrier.out denote.Hole.Carrier.roll
jump-never-faults n steps fault is =
    let source = meaning (source_machine (alone small) kept jumping_program) in
    let covers = over-covers source (machine-steady (source_machine (alone small) kept jumping_program) (source-grows (alone small) kept jumping_program)) n (came n) 6 steps (came-over n) refl in
    let over : IsOver (source n steps) = (λ going. (let e : Over (Faulted fault) ≡ Going = sym is ∙ going in cc)) in
    let e : Over (Stopped Normally n) ≡ Over (Faulted fault) = ap (λ (r : Run ℕ). r.standing) (covers.ends over) ∙ is in
    cc

abbrev CalledBefore : ℕ → Procedure → Type 0
CalledBefore number procedure = 1 ≤ number → (from : ℕ) × (caller : Procedure) × (from < number) × (slice_get (jumping_procedure ∷ []) from ≡ Some caller) × (stmts_call procedure.range caller.body ≡ true)

jump-procedures : (naming : Naming) → AreProcedures jumping_family naming no_cells (jumping_procedure ∷ [])
jump-procedures naming = record {
  main = refl;
  alone = each-from (λ number procedure. place_of (jumping_procedure ∷ []) procedure.range ≡ number) (jumping_procedure ∷ []) (refl, tt);
  node = each-from (λ number procedure. jumping_family.node procedure.range (jumping_family.entry procedure.range) ≡ tree procedure.body procedure.end) (jumping_procedure ∷ []) (refl, tt);
  last = each-from (λ number procedure. IsLast procedure.end) (jumping_procedure ∷ []) (tt, tt);
  stands = each-from (λ number procedure. StmtsStand naming no_cells (jumping_procedure ∷ []) procedure.range procedure.body) (jumping_procedure ∷ []) ((refl, inl (refl, inl tt)), tt);
  performed = each-from CalledBefore (jumping_procedure ∷ []) ((λ le. absurd (omega (arith, le))), tt);
}

pub jump-restructured : TheJumpIsRestructured
jump-restructured =
    let result = whole small kept kept no_cells no_arm in
    let naming = names small kept kept no_cells no_arm in
    let same = restructured-same small kept kept result (λ memory. memory.own) (λ n. record { own = n; cells = λ range cell. 0 }) (λ memory other. memory ≡ other) naming no_cells (whole-serves small kept kept no_cells no_arm)
    jumping_program (jumping_procedure ∷ []) jump-never-faults
    (record { lowered = jumping_family; shaped = jumping_family; lowering = jump-lowers; shaping = tied-refl (meaning (main_machine small kept jumping_family)) (machine-steady (main_machine small kept jumping_family) (main-grows small kept jumping_family)); are = jump-procedures naming }) in
    (result, naming, same.0, same.1)
