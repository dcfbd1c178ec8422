-- Zero is zero, as control sees an inline PERFORM without TIMES, UNTIL and VARYING.
use Rattle.std.proofs.Common.{◌≡◌, Bool, true, [], Ok, pos, refl, ap, sym, ◌∙◌, arith, Option, Ordering, Equal}
use Rattle.cob_num.specs.declared.number.Dec.{Dec}
use Rattle.cob_num.specs.Decimal.{order_of}
use Rattle.cob_num.proofs.LimitLemmas.{decimal_yes}
use Rattle.cob_tree.specs.declared.cond.Cond.{fold-roll-Cond}
use Rattle.cob_tree.specs.declared.cond.Cond.TheOpen.{Cond-F}
use Rattle.cob_tree.specs.declared.cond.Cond.TheVariants.{rolls-Relation}
use Rattle.cob_tree.specs.declared.cond.Rel.TheVariants as rels
use Rattle.cob_tree.specs.declared.place.Expr.{out-roll-Expr}
use Rattle.cob_tree.specs.declared.place.Expr.TheOpen.{Expr-F, Operand-F}
use Rattle.cob_tree.specs.declared.place.Figure.TheVariants.{Zero}
use Rattle.cob_tree.specs.declared.place.Operand.{out-roll-Operand, roll-Operand}
use Rattle.cob_store.specs.Answer.{Answer, and_then}
use Rattle.cob_store.specs.Place.{Memory}
use Rattle.meanings.specs.statements.Condition.{Tests, cond_step, holds, rel_holds, relation}
use Rattle.meanings.specs.statements.Does.{memory_in}
use Rattle.meanings.specs.statements.Filing.{Declared}
use Rattle.meanings.specs.statements.Side.{Nought, Side, compared, expr_side, operand_side, valued}
use Rattle.control_flow_theory.specs.semantics.Outcome.{Got}
use Rattle.control_flow_theory.specs.language.Control.{always, zero_side}
use Rattle.cobol_theory.specs.cobol_meaning.Acting as acting
use Rattle.cobol_theory.specs.cobol_meaning.Acting.{answered, tests_in}

-- each side is the figure
word_nought : (memory : Memory) → operand_side memory (roll-Operand (Operand-F.Figure Zero)) ≡ Ok Nought
word_nought memory = rw (out-roll-Operand (Operand-F.Figure Zero), operand_side) refl

side_nought : (memory : Memory) → expr_side memory zero_side ≡ Ok Nought
side_nought memory = rw (out-roll-Expr (Expr-F.Leaf (roll-Operand (Operand-F.Figure Zero))), expr_side) (word_nought memory)

abbrev ordered : Option Dec → Answer Ordering
ordered number = and_then (valued number) (λ first. and_then (valued number) (λ second. Ok (order_of first second)))

same_order : compared Nought Nought ≡ Ok Equal
same_order = ap ordered (decimal_yes (pos 0) 0 (omega arith) (omega arith))

abbrev sides_related : Answer Side → Answer Bool
sides_related side = and_then side (λ a. and_then side (λ b. and_then (compared a b) (λ order. Ok (rel_holds rels.Equal order))))

related : (memory : Memory) → relation memory zero_side rels.Equal zero_side ≡ Ok true
related memory =
    ap sides_related (side_nought memory)
    ∙ ap (λ answer. and_then answer (λ order. Ok (rel_holds rels.Equal order))) same_order

pub always_holds : (declared : Declared) (memory : acting.Memory) → tests_in declared always memory ≡ Got [] true memory
always_holds declared memory =
    ap (λ (tests : Tests). answered memory (tests declared.entries (memory_in declared memory.store)))
    (ap holds (sym (rolls-Relation zero_side rels.Equal zero_side)) ∙ fold-roll-Cond Tests cond_step (Cond-F.Relation zero_side rels.Equal zero_side))
    ∙ ap (answered memory) (related (memory_in declared memory.store))
