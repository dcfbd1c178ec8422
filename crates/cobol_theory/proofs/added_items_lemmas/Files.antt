-- What is done to files.
use Rattle.std.proofs.Common.{◌≡◌, ℕ, suc, ◌+◌, ◌<◌, Bool, true, false, ◌⊎◌, inl, inr, List, [], ◌∷◌, ◌++◌, length, map, Option, Some, None, refl, ap, sym, subst, arith}
use Rattle.std.specs.Prelude.{if◌then◌else◌, not, is_some}
use Rattle.std.proofs.lemmas.Bool.{and_parts}
use Rattle.cob_tree.specs.declared.entry.Entry.{Entry}
use Rattle.cob_store.specs.Store.{Roots}
use Rattle.file_model.specs.World.{World}
use Rattle.meanings.specs.statements.Filing.{Effect, Operation, Ended, Went, Chose, Abended, first_entry, is_of_file, then_by, then_do, after, each_file, last_world, no_effect}
use Rattle.control_flow_theory.specs.language.All.{all}
use Rattle.cobol_theory.specs.added_items.Widened.{widened_effect}

-- ---- the records of files

-- of no file among these
first-past : (file number : ℕ) (of : Option ℕ) (others : List Entry) → not (is_some of) ≡ true →
    first_entry file (number + 1) others ≡ number + 1 + length others →
    (if is_of_file file of then number else first_entry file (number + 1) others) ≡ number + suc (length others)
first-past file number None others e rest = omega (arith, rest)
first-past file number (Some other) others e rest = absurd (cc)

first-in-none : (file number : ℕ) (added : List Entry) → all (map (λ entry. not (is_some entry.file)) added) ≡ true → first_entry file number added ≡ number + length added
first-in-none file number [] e = omega arith
first-in-none file number (entry ∷ others) e =
    let h = and_parts (not (is_some entry.file)) (all (map (λ entry. not (is_some entry.file)) others)) e in
    first-past file number entry.file others h.0 (first-in-none file (number + 1) others h.1)

-- the first entry of a file, with others of no file behind: the same, or past all
abbrev pub FirstThere : (file number size more wide plain : ℕ) → Type 0
FirstThere file number size more wide plain =
    ((wide ≡ plain) × (plain < number + size)) ⊎ ((wide ≡ number + size + more) × (plain ≡ number + size))

first-by : (test : Bool) (file number size more wide plain : ℕ) → FirstThere file (number + 1) size more wide plain →
    FirstThere file number (suc size) more (if test then number else wide) (if test then number else plain)
first-by true file number size more wide plain h = inl (refl, omega arith)
first-by false file number size more wide plain (inl h) = inl (h.0, omega (arith, h.1))
first-by false file number size more wide plain (inr h) = inr (omega (arith, h.0), omega (arith, h.1))

pub first-there : (file number : ℕ) (entries added : List Entry) → all (map (λ entry. not (is_some entry.file)) added) ≡ true →
    FirstThere file number (length entries) (length added) (first_entry file number (entries ++ added)) (first_entry file number entries)
first-there file number [] added e = inr (let is = first-in-none file number added e in (omega (arith, is), omega arith))
first-there file number (entry ∷ others) added e =
    first-by (is_of_file file entry.file) file number (length others) (length added) (first_entry file (number + 1) (others ++ added)) (first_entry file (number + 1) others)
    (first-there file (number + 1) others added e)

-- ---- effects

module _ (tail : Roots) (roots : ℕ) where
  -- both do the same to the world, and so many roots are stored
  pub record WidensEffect (wide plain : Effect) : Type 0 where
    pub same : wide ≡ widened_effect tail plain
    pub long : length plain.store ≡ roots

  pub none-widens : (store : Roots) (end : Ended) → length store ≡ roots → WidensEffect (no_effect (store ++ tail) end) (no_effect store end)
  none-widens store end long = record { same = refl; long = long }

  after-widens : (operations : List Operation) (wide plain : Effect) → WidensEffect wide plain → WidensEffect (after operations wide) (after operations plain)
  after-widens operations wide plain h = record { same = ap (after operations) h.same; long = h.long }

  then_by-widens : (before : World) (operations : List Operation) (store : Roots) (end : Ended) (later next : Roots → World → Effect) → length store ≡ roots →
      ((store : Roots) → length store ≡ roots → (world : World) → WidensEffect (later (store ++ tail) world) (next store world)) →
      WidensEffect (then_by before (record { operations = operations; store = store ++ tail; end = end }) end later) (then_by before (record { operations = operations; store = store; end = end }) end next)
  then_by-widens before operations store Went later next long h =
      after-widens operations (later (store ++ tail) (last_world before operations)) (next store (last_world before operations)) (h store long (last_world before operations))
  then_by-widens before operations store (Chose arm) later next long h =
      after-widens operations (later (store ++ tail) (last_world before operations)) (next store (last_world before operations)) (h store long (last_world before operations))
  then_by-widens before operations store (Abended abend) later next long h = record { same = refl; long = long }

  pub then_do-widens : (before : World) (wide plain : Effect) (later next : Roots → World → Effect) → WidensEffect wide plain →
      ((store : Roots) → length store ≡ roots → (world : World) → WidensEffect (later (store ++ tail) world) (next store world)) →
      WidensEffect (then_do before wide later) (then_do before plain next)
  then_do-widens before wide plain later next first h =
      subst (λ x. WidensEffect (then_do before x later) (then_do before plain next)) (sym first.same)
      (then_by-widens before plain.operations plain.store plain.end later next first.long h)

  pub each_file-widens : {A : Type 0} (later next : Roots → World → A → Effect) (store : Roots) (world : World) (items : List A) → length store ≡ roots →
      ((store : Roots) → length store ≡ roots → (world : World) (a : A) → WidensEffect (later (store ++ tail) world a) (next store world a)) →
      WidensEffect (each_file later (store ++ tail) world items) (each_file next store world items)
  each_file-widens later next store world [] long h = none-widens store Went long
  each_file-widens later next store world (a ∷ others) long h =
      then_do-widens world (later (store ++ tail) world a) (next store world a)
      (λ now world. each_file later now world others) (λ now world. each_file next now world others) (h store long world a)
      (λ store long world. each_file-widens later next store world others long h)
