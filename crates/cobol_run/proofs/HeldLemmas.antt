-- What MOVE and ADD of VARYING do.
use Rattle.std.proofs.Common.{◌≡◌, Bool, false, is_some, ◌||◌, List, [], ◌∷◌, None, Result, Ok, Err, refl, ap, sym, ◌∙◌}
use Rattle.std.specs.Prelude.{IfOk}
use Rattle.cob_base.specs.declared.memory.NoMemory.{NoMemory}
use Rattle.cob_tree.specs.declared.calc.Calc.{Calc}
use Rattle.cob_tree.specs.declared.calc.Calc.TheVariants as calc
use Rattle.cob_tree.specs.declared.calc.Target.{Target}
use Rattle.cob_tree.specs.declared.place.Operand.{Operand}
use Rattle.cob_tree.specs.declared.place.Place.{Place}
use Rattle.cob_tree.specs.declared.stmt.Arms.{out-roll-Arms}
use Rattle.cob_tree.specs.declared.stmt.Stmt.{out-Stmt, out-roll-Stmt}
use Rattle.cob_tree.specs.declared.stmt.Stmt.TheOpen.{Stmt-F}
use Rattle.cob_tree.specs.declared.stmt.Stmt.TheVariants.{Move, Arith, rolls-Move, rolls-Arith}
use Rattle.cob_store.specs.declared.area.Area.{Area}
use Rattle.cob_store.specs.Answer.{Answer, and_then}
use Rattle.cob_store.specs.Store.{Roots}
use Rattle.file_model.specs.World.{World}
use Rattle.meanings.specs.statements.Arithmetic.{calculated}
use Rattle.meanings.specs.statements.Does.{calculates, does, has_arms, of_moves, of_sum}
use Rattle.meanings.specs.statements.Filing.{Declared}
use Rattle.meanings.specs.statements.Moving.{moved}
use Rattle.cob_act.specs.Moving.{outcome_of}
use Rattle.control_flow_theory.specs.language.Control.{augmenting, bare}
use Rattle.cobol_theory.specs.cobol_meaning.Acting.{acted, answered, does_to}
use Rattle.cobol_run.specs.Plan.{memory_in}

module _ (declared : Declared) where
  does-move : (from : Operand) (to : List Place) (store : Roots) (world : World) → does declared (Move from to) store world ≡ of_moves (moved declared.areas.items from to store)
  does-move from to store world = rw (ap out-Stmt (sym (rolls-Move from to)) ∙ out-roll-Stmt (Stmt-F.Move from to), does) refl

  has-none : has_arms bare ≡ false
  has-none = ap (λ arms. is_some arms.first || is_some arms.second) (out-roll-Arms (record { first = None; second = None }))

  does-arith : (calc : Calc) (into : List Target) (store : Roots) (world : World) → does declared (Arith calc into bare) store world ≡ of_sum false (calculated declared.areas.items calc false into store).store (calculated declared.areas.items calc false into store).answer
  does-arith calc into store world =
      rw (ap out-Stmt (sym (rolls-Arith calc into bare)) ∙ out-roll-Stmt (Stmt-F.Arith calc into bare), does)
      (ap (λ b. calculates declared store b (calculated declared.areas.items calc b into store)) has-none)

  moved-as : (before : Roots) (world : World) (after : Roots) (answer : Answer (Unit {0})) → answered (memory_in after world) answer ≡ acted (memory_in before world) (of_moves (outcome_of after answer))
  moved-as before world after (Ok _) = refl
  moved-as before world after (Err abend) = refl

  summed-as : (before : Roots) (world : World) (after : Roots) (answer : Answer Bool) → answered (memory_in after world) (and_then answer (λ error. Ok tt)) ≡ acted (memory_in before world) (of_sum false after answer)
  summed-as before world after (Ok error) = refl
  summed-as before world after (Err abend) = refl

  pub augments_as : (areas : List Area) (item : Place) (by : Operand) (before after : Roots) (world : World) (answer : Answer Bool) →
      areas ≡ declared.areas.items →
      outcome_of after answer ≡ calculated areas (calc.Add (by ∷ [])) false (record { place = item; rounded = false } ∷ []) before →
      answered (memory_in after world) (and_then answer (λ error. Ok tt)) ≡ does_to declared (augmenting item by) (memory_in before world)
  augments_as areas item by before after world answer same e =
      summed-as before world after answer
      ∙ ap (λ o. acted (memory_in before world) (of_sum false o.store o.answer)) (e ∙ ap (λ list. calculated list (calc.Add (by ∷ [])) false (record { place = item; rounded = false } ∷ []) before) same)
      ∙ sym (ap (acted (memory_in before world)) (does-arith (calc.Add (by ∷ [])) (record { place = item; rounded = false } ∷ []) before world))

  pub sets_as : (areas : List Area) (from : Operand) (item : Place) (to : List Place) (before after : Roots) (result : Result (Answer (Unit {0})) NoMemory) →
      areas ≡ declared.areas.items → to ≡ item ∷ [] →
      IfOk result (λ answer. outcome_of after answer ≡ moved areas from to before) →
      IfOk result (λ answer. (world : World) → answered (memory_in after world) answer ≡ does_to declared (Move from (item ∷ [])) (memory_in before world))
  sets_as areas from item to before after (Err e) same single h = tt
  sets_as areas from item to before after (Ok answer) same single h = λ world.
      moved-as before world after answer
      ∙ ap (λ o. acted (memory_in before world) (of_moves o)) (h ∙ ap (λ a. moved a from to before) same ∙ ap (λ list. moved declared.areas.items from list before) single)
      ∙ sym (ap (acted (memory_in before world)) (does-move from (item ∷ []) before world))
