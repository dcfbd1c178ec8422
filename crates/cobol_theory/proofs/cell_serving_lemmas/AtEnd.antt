-- Without a status item READ with AT END and without differ where a file has come to its end.
use Rattle.std.proofs.Common.{◌≡◌, ℕ, zero, suc, Bool, true, false, ◌&&◌, List, [], ◌∷◌, take, drop, length, None, Some, Option, refl, ap, subst, ◌∙◌, ◌⊎◌, inl, inr}
use Rattle.std.specs.Prelude.{Ok, Err, is_some, ◌==◌, IsTrue, slice_get, unwrap_or}
use Rattle.cob_tree.specs.declared.file.How.TheVariants as how
use Rattle.cob_tree.specs.declared.number.Number.{Number}
use Rattle.cob_tree.specs.declared.place.Place.{Place}
use Rattle.control_flow_theory.specs.semantics.Outcome.{Tried}
use Rattle.file_model.specs.Attempts.{Attempt, closed, read_at, read_of, permitted}
use Rattle.file_model.specs.Status.{opened_row, may_read}
use Rattle.file_model.specs.World.{FileState, Read}
use Rattle.control_flow_theory.specs.language.Language as language
use Rattle.meanings.specs.statements.Filing.{Declared, Abended, no_effect, settled, status_spot, status_place, address_at, record_spot, record_put, read_end}
use Rattle.cobol_theory.specs.cobol_meaning.Acting.{Memory, chosen, chooses_in}
use Rattle.cobol_theory.specs.cell_serving.Choosing.{Suits, written_chooser}
use Rattle.cobol_theory.specs.cell_serving.Laws.{SameChoice, ChoosesAlike}
use Rattle.cobol_theory.specs.cell_serving.Naming.{first_stands}

-- a file that has just been opened
abbrev ready : FileState
ready = record { row = opened_row how.Input; at = 0; start = 0 }

abbrev all_ready : (last : ℕ) → List FileState
all_ready zero = ready ∷ []
all_ready (suc last) = ready ∷ all_ready last

last-ready : (last : ℕ) → slice_get (all_ready last) last ≡ Some ready
last-ready zero = refl
last-ready (suc last) = last-ready last

abbrev nothing : List ℕ
nothing = []

none-taken : (size : ℕ) → take size nothing ≡ nothing
none-taken zero = refl
none-taken (suc size) = refl

module _ (declared : Declared) (file : ℕ) (into : Option Place) where
  -- no device holds anything
  abbrev at_end : Memory
  at_end = record { store = []; world = record { shelves = []; files = all_ready file } }

  abbrev size : ℕ
  size = (record_spot declared file).length

  abbrev nothing_read : Attempt
  nothing_read = read_of at_end.world file ready size []

  -- what a READ of a file in this state takes of no bytes
  abbrev taken : Option FileState → List ℕ → Attempt
  taken state bytes = permitted at_end.world file (may_read (unwrap_or state closed).row) (read_of at_end.world file (unwrap_or state closed) size bytes)

  nothing-is : read_at at_end.world file (address_at declared file) size ≡ nothing_read
  nothing-is =
      ap (λ state. taken state (take size (drop (unwrap_or state closed).at nothing))) (last-ready file)
      ∙ ap (taken (Some ready)) (none-taken size)

  abbrev choice : (has_end : Bool) → Attempt → Option Place → Tried Memory ℕ
  choice has_end attempt status =
      chosen at_end (read_end declared file into true attempt.status attempt.world (elim (status_spot declared [] status) [
        | Ok item ↦ settled Read file (has_end && attempt.status == 10) item (record_put declared file [] attempt) attempt
        | Err abend ↦ no_effect [] (Abended abend)
      ]))

  choice-is : status_place declared file ≡ None → (has_end : Bool) → chooses_in declared (language.Read file into has_end) at_end ≡ choice has_end nothing_read None
  choice-is none has_end =
      ap (λ attempt. choice has_end attempt (status_place declared file)) nothing-is
      ∙ ap (choice has_end nothing_read) none

  at-end : (arms : ℕ) (one other : Bool) → status_place declared file ≡ None → ((memory : Memory) → SameChoice arms (chooses_in declared (language.Read file into one) memory) (chooses_in declared (language.Read file into other) memory)) →
      SameChoice arms (choice one nothing_read None) (choice other nothing_read None)
  at-end arms one other none alike =
      subst (SameChoice arms (choice one nothing_read None)) (choice-is none other)
      (subst (λ here. SameChoice arms here (chooses_in declared (language.Read file into other) at_end)) (choice-is none one) (alike at_end))

  stands-so : (arms : ℕ) (had stands : Bool) → ((memory : Memory) → SameChoice arms (chooses_in declared (language.Read file into had) memory) (chooses_in declared (language.Read file into stands) memory)) →
      (status : Option Place) → status_place declared file ≡ status → (stands ≡ had) ⊎ IsTrue (is_some (status_place declared file))
  stands-so arms had stands alike (Some place) is = inr (ap is_some is)
  stands-so arms true true alike None is = inl refl
  stands-so arms false false alike None is = inl refl
  stands-so arms true false alike None is = absurd (at-end arms true false is alike)
  stands-so arms false true alike None is = absurd (at-end arms false true is alike)

pub suits : (declared : Declared) (literal : ℕ → Number) (file : ℕ) (into : Option Place) (has_end : Bool) (arms : List Bool) →
    ChoosesAlike declared (language.Read file into has_end) (written_chooser literal (language.Read file into has_end) arms) (length arms) →
    Suits declared (language.Read file into has_end) arms
suits declared literal file into has_end arms alike = stands-so declared file into (length arms) has_end (first_stands arms) alike (status_place declared file) refl
