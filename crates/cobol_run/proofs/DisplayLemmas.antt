-- What a trace displays.
use Rattle.std.proofs.Common.{◌≡◌, ℕ, zero, suc, take, Bool, true, false, List, [], ◌∷◌, ◌++◌, ◌&&◌, Ok, Err, refl, ap, sym, ◌∙◌, append_assoc, append-nil, Option}
use Rattle.std.specs.Prelude.{if◌then◌else◌, ◌==◌}
use Rattle.cob_store.specs.declared.spot.Spot.{Spot}
use Rattle.cob_store.specs.Answer.{Answer}
use Rattle.cob_store.specs.Store.{Roots}
use Rattle.cob_tree.specs.declared.file.Opening.{Opening}
use Rattle.cob_tree.specs.declared.place.Operand.{Operand}
use Rattle.cob_tree.specs.declared.place.Place.{Place}
use Rattle.file_model.specs.Attempts.{Address, Attempt, read_at, rewritten_at, written_at}
use Rattle.file_model.specs.World.{Verb, World}
use Rattle.file_model.specs.World as verbs
use Rattle.meanings.specs.statements.Filing.{Abended, Chose, Declared, Effect, Ended, Operation, Went, address_at, after, each_file, file_of, from_by, into_by, no_effect, of_outcome, opened, operated_to, put_out, read, record_put, record_spot, rewritten, settled, shut, status_place, status_spot, then_by, written}
use Rattle.control_flow_theory.specs.semantics.Outcome.{Trace}
use Rattle.cobol_theory.specs.cobol_meaning.Acting.{event_seen, events_of}
use Rattle.cobol_run.specs.Running.{displayed, shown_by}

pub displayed_both : (first second : Trace) → displayed (first ++ second) ≡ displayed first ++ displayed second
displayed_both [] second = refl
displayed_both (event ∷ first) second =
    ap (λ more. shown_by event ++ more) (displayed_both first second) ∙ sym (append_assoc (shown_by event) (displayed first) (displayed second))

pub displayed_on : (trace events : Trace) → displayed events ≡ [] → displayed (trace ++ events) ≡ displayed trace
displayed_on trace events none =
    displayed_both trace events ∙ ap (λ more. displayed trace ++ more) none ∙ append-nil (displayed trace)

-- ---- statements on files display nothing

abbrev pub IsSilent : Effect → Type 0
IsSilent effect = displayed (events_of effect.operations) ≡ []

events_both : (first second : List Operation) → events_of (first ++ second) ≡ events_of first ++ events_of second
events_both [] second = refl
events_both (operation ∷ first) second = ap (λ more. event_seen operation.event ∷ more) (events_both first second)

after-silent : (operations : List Operation) (effect : Effect) → displayed (events_of operations) ≡ [] → IsSilent effect → IsSilent (after operations effect)
after-silent operations effect first second =
    ap displayed (events_both operations effect.operations)
    ∙ displayed_both (events_of operations) (events_of effect.operations)
    ∙ ap (λ list. list ++ displayed (events_of effect.operations)) first
    ∙ second

then-silent : (world : World) (effect : Effect) (end : Ended) (next : Roots → World → Effect) → IsSilent effect → ((store : Roots) (now : World) → IsSilent (next store now)) → IsSilent (then_by world effect end next)
then-silent world effect (Abended abend) next first second = first
then-silent world effect Went next first second = after-silent effect.operations (next effect.store _) first (second effect.store _)
then-silent world effect (Chose arm) next first second = after-silent effect.operations (next effect.store _) first (second effect.store _)

settled-silent : (verb : Verb) (file : ℕ) (cared : Bool) (item : Option Spot) (store : Roots) (attempt : Attempt) → IsSilent (settled verb file cared item store attempt)
settled-silent verbs.Open file cared item store attempt = refl
settled-silent verbs.Read file cared item store attempt = refl
settled-silent verbs.Write file cared item store attempt = refl
settled-silent verbs.Rewrite file cared item store attempt = refl
settled-silent verbs.Close file cared item store attempt = refl

operated-by : (verb : Verb) (file : ℕ) (cared : Bool) (before now : Roots) (attempt : Attempt) (answer : Answer (Option Spot)) →
    IsSilent (elim answer [
      | Ok item ↦ settled verb file cared item now attempt
      | Err abend ↦ no_effect before (Abended abend)
    ])
operated-by verb file cared before now attempt (Ok item) = settled-silent verb file cared item now attempt
operated-by verb file cared before now attempt (Err abend) = refl

module _ (declared : Declared) where
  operated-silent : (verb : Verb) (file : ℕ) (cared : Bool) (before now : Roots) (attempt : Attempt) → IsSilent (operated_to declared verb file cared before now attempt)
  operated-silent verb file cared before now attempt =
      operated-by verb file cared before now attempt (status_spot declared before (status_place declared file))

  each-silent : {A : Type 0} (does : Roots → World → A → Effect) → ((store : Roots) (world : World) (a : A) → IsSilent (does store world a)) → (list : List A) (store : Roots) (world : World) → IsSilent (each_file does store world list)
  each-silent does one [] store world = refl
  each-silent does one (a ∷ others) store world =
      then-silent world (does store world a) (does store world a).end (λ now later. each_file does now later others) (one store world a) (λ now later. each-silent does one others now later)

  pub opens_silent : (store : Roots) (world : World) (openings : List Opening) → IsSilent (each_file (opened declared) store world openings)
  opens_silent store world openings =
      each-silent (opened declared) (λ now later opening. operated-silent verbs.Open opening.file false now now _) openings store world

  pub closes_silent : (store : Roots) (world : World) (files : List ℕ) → IsSilent (each_file (shut declared) store world files)
  closes_silent store world files =
      each-silent (shut declared) (λ now later file. operated-silent verbs.Close file false now now _) files store world

  outcome-silent : (store : Roots) (answer : Answer (Unit {0})) (end : Ended) → IsSilent (of_outcome store answer end)
  outcome-silent store (Ok u) end = refl
  outcome-silent store (Err abend) end = refl

  -- by whether a record came
  end-by : (came : Bool) (file : ℕ) (place : Option Place) (arms : Bool) (world : World) (effect : Effect) → IsSilent effect →
      IsSilent (if came
      then then_by world effect effect.end (λ store now. of_outcome (into_by declared file store place).store (into_by declared file store place).answer (if arms then Chose 2 else Went))
      else then_by world effect effect.end (λ store now. no_effect store (if arms then Chose 1 else Went)))
  end-by true file place arms world effect first =
      then-silent world effect effect.end _ first (λ store now. outcome-silent (into_by declared file store place).store (into_by declared file store place).answer _)
  end-by false file place arms world effect first = then-silent world effect effect.end _ first (λ store now. refl)

  pub read_silent : (store : Roots) (world : World) (file : ℕ) (place : Option Place) (at_end arms : Bool) → IsSilent (read declared store world file place at_end arms)
  read_silent store world file place at_end arms =
      let attempt : Attempt = read_at world file (address_at declared file) (record_spot declared file).length in
      let now : Roots = record_put declared file store attempt in
      end-by (attempt.status == 0) file place arms attempt.world (operated_to declared verbs.Read file (at_end && attempt.status == 10) store now attempt)
      (operated-silent verbs.Read file (at_end && attempt.status == 10) store now attempt)

  put-silent : (verb : Verb) (attempts : ℕ → Address → List ℕ → Attempt) (entry file : ℕ) (store : Roots) (answer : Answer (Unit {0})) → IsSilent (put_out declared verb attempts entry file store answer)
  put-silent verb attempts entry file store (Err abend) = refl
  put-silent verb attempts entry file store (Ok u) = operated-silent verb file false store store _

  pub written_silent : (store : Roots) (world : World) (entry : ℕ) (from : Option Operand) → IsSilent (written declared store world entry from)
  written_silent store world entry from =
      put-silent verbs.Write (written_at world) entry (file_of declared entry) (from_by declared entry store from).store (from_by declared entry store from).answer

  pub rewritten_silent : (store : Roots) (world : World) (entry : ℕ) (from : Option Operand) → IsSilent (rewritten declared store world entry from)
  rewritten_silent store world entry from =
      put-silent verbs.Rewrite (rewritten_at world) entry (file_of declared entry) (from_by declared entry store from).store (from_by declared entry store from).answer

-- nor do some of their operations
none-both : (xs ys : List ℕ) → (xs ++ ys) ≡ [] → (xs ≡ []) × (ys ≡ [])
none-both [] ys e = (refl, e)
none-both (x ∷ xs) ys e = absurd (let never : ⊥ = cc in never)

pub front_silent : (some : ℕ) (operations : List Operation) → displayed (events_of operations) ≡ [] → displayed (events_of (take some operations)) ≡ []
front_silent zero [] none = refl
front_silent zero (operation ∷ operations) none = refl
front_silent (suc some) [] none = refl
front_silent (suc some) (operation ∷ operations) none =
    let b = none-both (shown_by (event_seen operation.event)) (displayed (events_of operations)) none in
    ap (λ bytes. bytes ++ displayed (events_of (take some operations))) b.0 ∙ front_silent some operations b.1
