-- Each choice gives one of its arms, and READ its first only where AT END or a status item stands.
use Rattle.std.proofs.Common.{◌≡◌, ◌≢◌, ℕ, zero, suc, ◌+◌, ◌-◌, ◌≤◌, ◌<◌, Bool, true, false, not, ◌&&◌, ◌||◌, if◌then◌else◌, ◌==◌, List, [], ◌∷◌, length, Option, Some, None, Ok, Err, is_some, refl, ap, arith}
use Rattle.std.specs.Prelude.{nat_le, unsigned_abs, is_none, slice_get}
use Rattle.std.specs.Int.{is_positive}
use Rattle.std.proofs.lemmas.Bool.{leb-true, eqb-true, eqb-false, false≢true}
use mathlib.Core.Bool.{true≢false}
use Rattle.cob_num.specs.declared.number.Dec.{Dec}
use Rattle.cob_tree.specs.declared.choice.Test.{Test}
use Rattle.cob_tree.specs.declared.entry.Entry.{Entry}
use Rattle.cob_tree.specs.declared.file.FileEntry.{FileEntry}
use Rattle.cob_tree.specs.declared.place.Place.{Place}
use Rattle.cob_tree.specs.declared.ending.Abend.TheVariants.{Io}
use Rattle.cob_store.specs.declared.spot.Spot.{Spot}
use Rattle.cob_store.specs.Answer.{Answer, and_then}
use Rattle.cob_store.specs.Store.{Roots}
use Rattle.cob_store.specs.Place as stored
use Rattle.cob_store.specs.Place.{place_value, Value}
use Rattle.file_model.specs.World.{World, Read}
use Rattle.file_model.specs.Attempts.{Attempt, read_at}
use Rattle.meanings.specs.statements.Choice.{Asked, asked, one_holds, when_chosen, evaluated}
use Rattle.meanings.specs.statements.Side.{valued}
use Rattle.meanings.specs.statements.Arithmetic.{calculated}
use Rattle.meanings.specs.statements.Does.{memory_in, of_sum}
use Rattle.meanings.specs.statements.Filing.{Declared, Effect, Operation, Ended, Went, Chose, Abended, no_effect, after, then_do, of_outcome, into, into_by, end_by, always_ends, settled, status_spot, status_by, operated_to, record_put, read_end, address_at, record_spot}
use Rattle.control_flow_theory.specs.language.Language.{Chooser, Evaluate, Arith, Depending}
use Rattle.control_flow_theory.specs.language.Language as language
use Rattle.control_flow_theory.specs.lowering.FlowFacts.{ChoiceIsTold}
use Rattle.cobol_theory.specs.cobol_meaning.Acting.{Memory, answered, chosen, name_in, arm_in, chooses_in}
use Rattle.program_facts.specs.completion.FlowFacts.{never_ends, status_missing, width_of}

-- ---- EVALUATE

-- an answer from the first number to the second
abbrev Within : ℕ → ℕ → Answer ℕ → Type 0
Within low high (Ok arm) = (low ≤ arm) × (arm ≤ high)
Within low high (Err abend) = Unit {0}

within-later : (number count : ℕ) (later : Answer ℕ) →
    Within (suc number) (suc number + count) later → Within number (number + suc count) later
within-later number count (Ok arm) h = (omega (arith, h.0), omega (arith, h.1))
within-later number count (Err abend) h = tt

when-within : (number count : ℕ) (held : Answer Bool) (later : Answer ℕ) →
    Within (suc number) (suc number + count) later →
    Within number (number + suc count) (and_then held (λ here. if here then Ok number else later))
when-within number count (Ok true) later h = (omega arith, omega arith)
when-within number count (Ok false) later h = within-later number count later h
when-within number count (Err abend) later h = tt

module _ (entries : List Entry) (memory : stored.Memory) where
  whens-within : (read : Asked) (number : ℕ) (whens : List (List Test)) →
      Within number (number + length whens) (when_chosen entries memory read number whens)
  whens-within read number [] = (omega arith, omega arith)
  whens-within read number (when ∷ whens) =
      when-within number (length whens) (one_holds entries memory read when)
      (when_chosen entries memory read (suc number) whens) (whens-within read (suc number) whens)

  asked-within : (answer : Answer Asked) (whens : List (List Test)) →
      Within 1 (1 + length whens)
      (and_then answer (λ read. when_chosen entries memory read 1 whens))
  asked-within (Ok read) whens = whens-within read 1 whens
  asked-within (Err abend) whens = tt

-- an arm from 1 on, counted from 0
arms-told : (memory : Memory) (count : ℕ) (answer : Answer ℕ) → Within 1 (1 + count) answer →
    ChoiceIsTold (suc count) false (answered memory (and_then answer arm_in))
arms-told memory count (Ok (suc arm)) h = (omega (arith, h.1), λ never. absurd (false≢true never))
arms-told memory count (Ok zero) h = absurd (omega (arith, h.0))
arms-told memory count (Err abend) h = tt

-- ---- GO TO DEPENDING

name-below : (positive within : Bool) (number names : ℕ) → (within ≡ true → number ≤ names) →
    (if positive && within then number - 1 else names) < suc names
name-below true true number names h = let le : number ≤ names = h refl in omega (arith, le)
name-below true false number names h = omega arith
name-below false within number names h = omega arith

name-in-below : (names : ℕ) (number : Dec) → name_in names number < suc names
name-in-below names number =
    name-below (is_positive number.value) (nat_le (unsigned_abs number.value) names)
    (unsigned_abs number.value) names (leb-true (unsigned_abs number.value) names)

names-told : (memory : Memory) (names : ℕ) (value : Answer Value) →
    ChoiceIsTold (suc names) false (answered memory (and_then value (λ value.
    and_then (valued value) (λ number. Ok (name_in names number)))))
names-told memory names (Err abend) = tt
names-told memory names (Ok None) = tt
names-told memory names (Ok (Some number)) =
    (name-in-below names number, λ never. absurd (false≢true never))

-- ---- arithmetic

sum-told : (memory : Memory) (store : Roots) (answer : Answer Bool) →
    ChoiceIsTold 2 false (chosen memory (of_sum true store answer))
sum-told memory store (Ok true) = (omega arith, λ never. absurd (false≢true never))
sum-told memory store (Ok false) = (omega arith, λ never. absurd (false≢true never))
sum-told memory store (Err abend) = tt

-- ---- READ

-- where it goes on: not behind a status other than 00 of which nothing takes care
abbrev GoesOn : Bool → ℕ → Ended → Type 0
GoesOn never status Went = never ≡ true → status ≡ 0
GoesOn never status (Chose arm) = ⊥
GoesOn never status (Abended abend) = Unit {0}

end-by : (never cared nought : Bool) (status : ℕ) → (nought ≡ true → status ≡ 0) →
    (never ≡ true → cared ≡ false) →
    GoesOn never status (if nought || cared then Went else Abended (Io status))
end-by never cared true status h careless = λ is. h refl
end-by never true false status h careless = λ is. absurd (true≢false (careless is))
end-by never false false status h careless = tt

end-goes_on : (never cared : Bool) (status : ℕ) → (never ≡ true → cared ≡ false) →
    GoesOn never status (end_by cared status)
end-goes_on never cared status careless =
    end-by never cared (status == 0) status (eqb-true status 0) careless

module _ (declared : Declared) (file : ℕ) (has_end : Bool) (before later : Roots)
    (attempt : Attempt) where
  abbrev by_spot : Answer (Option Spot) → Effect
  by_spot spot = elim spot [
    | Ok item ↦ settled Read file (has_end && attempt.status == 10) item later attempt
    | Err abend ↦ no_effect before (Abended abend)
  ]

  spot-goes_on : (spot : Answer (Option Spot)) →
      GoesOn false attempt.status (by_spot spot).end
  spot-goes_on (Ok item) =
      end-goes_on false ((is_some item || (has_end && attempt.status == 10))
      && not (always_ends attempt.status)) attempt.status (λ never. absurd (false≢true never))
  spot-goes_on (Err abend) = tt

  place-goes_on : (place : Option Place) (ends : Bool) → has_end ≡ ends →
      GoesOn (if ends then false else is_none place) attempt.status
      (by_spot (status_spot declared before place)).end
  place-goes_on (Some place) true is = spot-goes_on (status_spot declared before (Some place))
  place-goes_on (Some place) false is = spot-goes_on (status_spot declared before (Some place))
  place-goes_on None true is = spot-goes_on (Ok None)
  place-goes_on None false is =
      end-goes_on true ((false || (has_end && attempt.status == 10))
      && not (always_ends attempt.status)) attempt.status
      (λ never. ap (λ b. (b && attempt.status == 10) && not (always_ends attempt.status)) is)

  entry-goes_on : (entry : Option FileEntry) (ends : Bool) → has_end ≡ ends →
      GoesOn (if ends then false else status_missing entry) attempt.status
      (by_spot (status_spot declared before (status_by entry))).end
  entry-goes_on None true is = spot-goes_on (Ok None)
  entry-goes_on None false is = spot-goes_on (Ok None)
  entry-goes_on (Some entry) ends is = place-goes_on entry.status ends is

-- INTO, and then the second arm
into-told : (memory : Memory) (never : Bool) (operations : List Operation) (store : Roots)
    (answer : Answer (Unit {0})) →
    ChoiceIsTold 2 never (chosen memory (after operations (of_outcome store answer (Chose 2))))
into-told memory never operations store (Ok _) = (omega arith, λ is none. omega (arith, none))
into-told memory never operations store (Err abend) = tt

module _ (memory : Memory) (declared : Declared) (file : ℕ) (place : Option Place) (before : World)
    (operations : List Operation) (store : Roots) where
  abbrev effect_by : Ended → Effect
  effect_by end = record { operations = operations; store = store; end = end }

  read-by : (never nought : Bool) (status : ℕ) (end : Ended) → (nought ≡ false → status ≢ 0) →
      GoesOn never status end →
      ChoiceIsTold 2 never (chosen memory (if nought
      then then_do before (effect_by end) (λ now world. into declared file now place (Chose 2))
      else then_do before (effect_by end) (λ now world. no_effect now (Chose 1))))
  read-by never true status Went other h =
      into-told memory never operations (into_by declared file store place).store
      (into_by declared file store place).answer
  read-by never false status Went other h = (omega arith, λ is. absurd (other refl (h is)))
  read-by never true status (Abended abend) other h = tt
  read-by never false status (Abended abend) other h = tt
  read-by never nought status (Chose arm) other h = absurd h

  read-told : (never : Bool) (status : ℕ) (end : Ended) → GoesOn never status end →
      ChoiceIsTold 2 never
      (chosen memory (read_end declared file place true status before (effect_by end)))
  read-told never status end h =
      read-by never (status == 0) status end (eqb-false status 0) h

-- ---- each chooser

pub chooses : (declared : Declared) (chooser : Chooser) (memory : Memory) →
    ChoiceIsTold (width_of chooser) (never_ends declared.files chooser)
    (chooses_in declared chooser memory)
chooses declared (Evaluate subject tests has_other) memory =
    arms-told memory (length tests)
    (evaluated declared.entries (memory_in declared memory.store) subject tests)
    (asked-within declared.entries (memory_in declared memory.store)
    (asked (memory_in declared memory.store) subject) tests)
chooses declared (language.Read file into has_end) memory =
    let attempt : Attempt = read_at memory.world file (address_at declared file)
    (record_spot declared file).length in
    let effect : Effect = operated_to declared Read file (has_end && attempt.status == 10)
    memory.store (record_put declared file memory.store attempt) attempt in
    read-told memory declared file into attempt.world effect.operations effect.store
    (never_ends declared.files (language.Read file into has_end)) attempt.status effect.end
    (entry-goes_on declared file has_end memory.store
    (record_put declared file memory.store attempt) attempt (slice_get declared.files file) has_end
    refl)
chooses declared (Arith calc into) memory =
    sum-told memory (calculated declared.areas.items calc true into memory.store).store
    (calculated declared.areas.items calc true into memory.store).answer
chooses declared (Depending on names) memory =
    names-told memory names (place_value on (memory_in declared memory.store))
