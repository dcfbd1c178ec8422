-- The choosers that are written take the same arms.
use Rattle.std.proofs.Common.{◌≡◌, ℕ, Bool, true, ◌&&◌, List, length, None, Some, Option, refl, ap, sym, subst, ◌⊎◌, inl, inr}
use Rattle.std.specs.Prelude.{Ok, Err, is_some, ◌==◌, IsTrue}
use Rattle.cob_tree.specs.declared.number.Number.{Number}
use Rattle.cob_tree.specs.declared.place.Place.{Place}
use Rattle.cob_store.specs.declared.spot.Spot.{Spot}
use Rattle.cob_store.specs.Answer.{Answer, and_then}
use Rattle.cob_store.specs.Place.{memory_of, reach_of}
use Rattle.cob_store.specs.Store.{Roots}
use Rattle.control_flow_theory.specs.semantics.Outcome.{Tried, Got, Ends}
use Rattle.file_model.specs.World.{Read}
use Rattle.file_model.specs.Attempts.{Attempt, read_at}
use Rattle.control_flow_theory.specs.language.Language as language
use Rattle.control_flow_theory.specs.language.Language.{Chooser, Evaluate, Arith, Depending}
use Rattle.meanings.specs.statements.Filing.{Declared, Effect, Abended, no_effect, settled, status_spot, status_place, address_at, record_spot, record_put, read_end}
use Rattle.cobol_theory.specs.cobol_meaning.Acting.{Memory, answered, chosen, chooses_in}
use Rattle.cobol_theory.specs.cell_serving.Choosing.{Suits, written_chooser}
use Rattle.cobol_theory.specs.cell_serving.Laws.{AreLiterals, SameChoice, ChoosesAlike}
use Rattle.cobol_theory.specs.cell_serving.Naming.{first_stands}
use Rattle.cobol_theory.proofs.cell_serving_lemmas.Depending.{same}

-- ---- READ

-- where the file has a status item, nothing else need take care of a status
module _ (declared : Declared) (file : ℕ) (before later : Roots) (attempt : Attempt) (one other : Bool) where
  abbrev by_spot : (cared : Bool) → Answer (Option Spot) → Effect
  by_spot cared spot = elim spot [
    | Ok item ↦ settled Read file cared item later attempt
    | Err abend ↦ no_effect before (Abended abend)
  ]

  by_reach : (reach : Answer Spot) → by_spot one (and_then reach (λ spot. Ok (Some spot))) ≡ by_spot other (and_then reach (λ spot. Ok (Some spot)))
  by_reach (Ok spot) = refl
  by_reach (Err abend) = refl

  cared-either : (status : Option Place) → IsTrue (is_some status) → by_spot one (status_spot declared before status) ≡ by_spot other (status_spot declared before status)
  cared-either None is = cc
  cared-either (Some place) is = by_reach (reach_of (memory_of declared.areas.items before) place)

read-alike : (declared : Declared) (file : ℕ) (into : Option Place) (had stands : Bool) (memory : Memory) → (stands ≡ had) ⊎ IsTrue (is_some (status_place declared file)) →
    chooses_in declared (language.Read file into had) memory ≡ chooses_in declared (language.Read file into stands) memory
read-alike declared file into had stands memory (inl same) = ap (λ had. chooses_in declared (language.Read file into had) memory) (sym same)
read-alike declared file into had stands memory (inr some) =
    let attempt : Attempt = read_at memory.world file (address_at declared file) (record_spot declared file).length in
    let later : Roots = record_put declared file memory.store attempt in
    ap (λ effect. chosen memory (read_end declared file into true attempt.status attempt.world effect))
    (cared-either declared file memory.store later attempt (had && attempt.status == 10) (stands && attempt.status == 10) (status_place declared file) some)

-- ---- all choosers

same-choice : (arms : ℕ) (first : Tried Memory ℕ) → SameChoice arms first first
same-choice arms (Got trace arm memory) = (refl, inl refl, refl)
same-choice arms (Ends trace kind memory) = (refl, refl, refl)

equal-choice : (arms : ℕ) (first second : Tried Memory ℕ) → first ≡ second → SameChoice arms first second
equal-choice arms first second is = subst (SameChoice arms first) is (same-choice arms first)

pub choose-alike : (declared : Declared) (literal : ℕ → Number) (chooser : Chooser) (arms : List Bool) → AreLiterals literal → Suits declared chooser arms →
    ChoosesAlike declared chooser (written_chooser literal chooser arms) (length arms)
choose-alike declared literal (Evaluate subject tests has_other) arms worth suits memory = same-choice (length arms) (chooses_in declared (Evaluate subject tests has_other) memory)
choose-alike declared literal (language.Read file into has_end) arms worth suits memory =
    equal-choice (length arms) (chooses_in declared (language.Read file into has_end) memory) (chooses_in declared (language.Read file into (first_stands arms)) memory)
    (read-alike declared file into has_end (first_stands arms) memory suits)
choose-alike declared literal (Arith calc into) arms worth suits memory = same-choice (length arms) (chooses_in declared (Arith calc into) memory)
choose-alike declared literal (Depending p names) arms worth suits memory =
    equal-choice (length arms) (chooses_in declared (Depending p names) memory) (chooses_in declared (written_chooser literal (Depending p names) arms) memory)
    (ap (answered memory) (same declared literal worth p names suits.1 suits.2 memory suits.0))
