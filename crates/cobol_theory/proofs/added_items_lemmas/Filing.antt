-- OPEN, CLOSE, READ, WRITE and REWRITE.
use Rattle.std.proofs.Common.{◌≡◌, ℕ, zero, suc, ◌+◌, ◌<◌, ◌≤◌, Bool, true, false, ◌&&◌, ◌⊎◌, inl, inr, List, [], ◌∷◌, ◌++◌, length, Option, Some, None, refl, ap, sym, ◌∙◌, subst, arith}
use Rattle.std.specs.Prelude.{Ok, Err, if◌then◌else◌, not, ◌==◌, slice_get, unwrap_or}
use Rattle.std.proofs.lemmas.Bool.{and_parts}
use Rattle.std.proofs.lemmas.Option.{slice_get_past}
use Rattle.std.proofs.lemmas.List.{length-append}
use Rattle.cob_tree.specs.declared.file.FileEntry.{FileEntry}
use Rattle.cob_tree.specs.declared.file.Opening.{Opening}
use Rattle.cob_tree.specs.declared.place.Operand.{Operand}
use Rattle.cob_tree.specs.declared.place.Place.{Place, out-Place}
use Rattle.cob_store.specs.declared.area.Area.{Area}
use Rattle.cob_store.specs.declared.spot.Spot.{Spot}
use Rattle.cob_store.specs.declared.spot.Reached.{Reached}
use Rattle.cob_store.specs.Answer.{Answer, and_then}
use Rattle.cob_store.specs.Store.{Roots, fitted, put_at, spot_bytes}
use Rattle.cob_store.specs.Place.{memory_of, reached, reached_in}
use Rattle.file_model.specs.World.{World, Verb, Open, Read, Write, Rewrite, Close}
use Rattle.file_model.specs.Attempts.{Address, Attempt, opened_at, closed_at, read_at, written_at, rewritten_at, padded_to}
use Rattle.meanings.specs.statements.Outcome.{Outcome}
use Rattle.meanings.specs.statements.Moving.{area_form, item_reached, operand_sent, place_sent, form_of, is_group}
use Rattle.meanings.specs.statements.Filing as filing
use Rattle.meanings.specs.statements.Filing.{Declared, Effect, Ended, Went, Chose, Abended, address_at, addresses, record_entry, root_by, record_spot, file_by, file_of, status_by, status_place, status_spot, with_status, status_bytes, settled, operated_to, operated, opened, shut, of_outcome, into_by, into, record_put, read_end, read_by, item_form, from_by, entry_bytes, put_out}
use Rattle.cobol_theory.specs.added_items.Within.{place_within, operand_within, if_any, files_within}
use Rattle.cobol_theory.specs.added_items.Widened.{AreInside, AddedItems, declared_beside, IsWhole, AreApart}
use Rattle.cobol_theory.proofs.added_items_lemmas.Bytes.{get-append, spot-same, put-same, put-long}
use Rattle.cobol_theory.proofs.added_items_lemmas.Places as places
use Rattle.cobol_theory.proofs.added_items_lemmas.Places.{IsRooted}
use Rattle.cobol_theory.proofs.added_items_lemmas.Sides as sides
use Rattle.cobol_theory.proofs.added_items_lemmas.Sides.{item-below}
use Rattle.cobol_theory.proofs.added_items_lemmas.Outcomes as outcomes
use Rattle.cobol_theory.proofs.added_items_lemmas.Moves as moves
use Rattle.cobol_theory.proofs.added_items_lemmas.Files as files
use Rattle.cobol_theory.proofs.added_items_lemmas.Files.{FirstThere, first-there}

-- the status item of a file whose files are within
status-within : (count : ℕ) (entries : List FileEntry) → files_within count entries ≡ true → (file : ℕ) → if_any count (place_within count) (status_by (slice_get entries file)) ≡ true
status-within count [] e file = refl
status-within count (entry ∷ entries) e zero = (and_parts (if_any count (place_within count) entry.status) (files_within count entries) e).0
status-within count (entry ∷ entries) e (suc file) = status-within count entries (and_parts (if_any count (place_within count) entry.status) (files_within count entries) e).1 file

-- the root of a record that stands among the program's own, or of none
root-there : (roots more_roots : List ℕ) (areas more : List Area) (wide plain : ℕ) → ((item : ℕ) (area : Area) → slice_get areas item ≡ Some area → area.root < length roots) →
    ((wide ≡ plain) × (plain < length areas)) ⊎ ((length areas + length more ≤ wide) × (length areas ≤ plain)) →
    root_by (roots ++ more_roots) (slice_get (areas ++ more) wide) ≡ root_by roots (slice_get areas plain)
root-there roots more_roots areas more wide plain inside (inl h) =
    ap (λ n. root_by (roots ++ more_roots) (slice_get (areas ++ more) n)) h.0
    ∙ ap (root_by (roots ++ more_roots)) (get-append areas more plain h.1)
    ∙ by_area (slice_get areas plain) (inside plain)
  where
    by_area : (area : Option Area) → ((a : Area) → area ≡ Some a → a.root < length roots) → root_by (roots ++ more_roots) area ≡ root_by roots area
    by_area None h = refl
    by_area (Some area) h = ap (λ size. record { root = area.root; start = 0; length = unwrap_or size 0 }) (get-append roots more_roots area.root (h area refl))
root-there roots more_roots areas more wide plain inside (inr h) =
    ap (root_by (roots ++ more_roots)) (slice_get_past (areas ++ more) wide (subst (λ n. n ≤ wide) (sym (length-append areas more)) h.0))
    ∙ sym (ap (root_by roots) (slice_get_past areas plain h.1))

get-there : {X : Type 0} (xs : List X) (i : ℕ) → i < length xs → (x : X) × (slice_get xs i ≡ Some x)
get-there [] i h = absurd (omega (arith, h))
get-there (x ∷ xs) zero h = (x, refl)
get-there (x ∷ xs) (suc i) h = get-there xs i (omega (arith, h))

module _ (declared : Declared) (added : AddedItems) (tail : Roots) (whole : IsWhole declared) (apart : AreApart added) where
  abbrev areas : List Area
  areas = declared.areas.items

  abbrev roots : ℕ
  roots = length declared.areas.roots

  abbrev beside : Declared
  beside = declared_beside added declared

  abbrev WidensEffect : Effect → Effect → Type 0
  WidensEffect = files.WidensEffect tail roots

  pub lies-inside : (store : Roots) → length store ≡ roots → AreInside areas store
  lies-inside store long item area is = subst (λ n. area.root < n) (sym long) (whole.inside item area is)

  abbrev first : ℕ → ℕ
  first file = record_entry declared file

  first-cases : (file : ℕ) → FirstThere file 0 (length declared.entries) (length added.entries) (record_entry beside file) (first file)
  first-cases file = first-there file 0 declared.entries added.entries apart.of_no_file

  record-same : (file : ℕ) → record_spot beside file ≡ record_spot declared file
  record-same file = root-there declared.areas.roots added.roots areas added.areas (record_entry beside file) (first file) whole.inside (cases (first-cases file))
    where
      cases : FirstThere file 0 (length declared.entries) (length added.entries) (record_entry beside file) (first file) →
          ((record_entry beside file ≡ first file) × (first file < length areas)) ⊎ ((length areas + length added.areas ≤ record_entry beside file) × (length areas ≤ first file))
      cases (inl h) = inl (h.0, omega (arith, h.1, whole.sized))
      cases (inr h) = inr (omega (arith, h.0, whole.sized, apart.sized), omega (arith, h.1, whole.sized))

  -- ---- the status item

  abbrev IsRootedSpot : Roots → Option Spot → Type 0
  IsRootedSpot store None = Unit {0}
  IsRootedSpot store (Some spot) = spot.root < length store

  abbrev IsRootedAnswer : Roots → Answer (Option Spot) → Type 0
  IsRootedAnswer store (Ok spot) = IsRootedSpot store spot
  IsRootedAnswer store (Err abend) = Unit {0}

  spot-rooted : (store : Roots) (r : Answer Reached) → IsRooted store r → IsRootedAnswer store (and_then (and_then r (λ place. Ok place.spot)) (λ spot. Ok (Some spot)))
  spot-rooted store (Ok r) h = h
  spot-rooted store (Err abend) h = tt

  status-found : (store : Roots) → length store ≡ roots → (place : Option Place) → if_any (length areas) (place_within (length areas)) place ≡ true →
      (status_spot beside (store ++ tail) place ≡ status_spot declared store place) × IsRootedAnswer store (status_spot declared store place)
  status-found store long None e = (refl, tt)
  status-found store long (Some place) e =
      let found = places.place-same areas added.areas store tail (lies-inside store long) place e in
      (ap (λ r. and_then (and_then r (λ place. Ok place.spot)) (λ spot. Ok (Some spot))) found.same, spot-rooted store (reached place (memory_of areas store)) found.rooted)

  with_status-same : (store : Roots) (item : Option Spot) (status : ℕ) → IsRootedSpot store item → with_status (store ++ tail) item status ≡ with_status store item status ++ tail
  with_status-same store None status h = refl
  with_status-same store (Some spot) status h = put-same store tail spot (fitted spot.length (status_bytes status)) h

  with_status-long : (store : Roots) (item : Option Spot) (status : ℕ) → length (with_status store item status) ≡ length store
  with_status-long store None status = refl
  with_status-long store (Some spot) status = put-long store tail spot (fitted spot.length (status_bytes status))

  rooted-later : (before later : Roots) (item : Option Spot) → length later ≡ length before → IsRootedSpot before item → IsRootedSpot later item
  rooted-later before later None long h = tt
  rooted-later before later (Some spot) long h = subst (λ n. spot.root < n) (sym long) h

  operated-by : (verb : Verb) (file : ℕ) (cared : Bool) (before later : Roots) (attempt : Attempt) → length before ≡ roots → length later ≡ roots →
      (wide plain : Answer (Option Spot)) → wide ≡ plain → IsRootedAnswer before plain →
      WidensEffect (elim wide [ Ok item ↦ settled verb file cared item (later ++ tail) attempt | Err abend ↦ filing.no_effect (before ++ tail) (Abended abend) ])
      (elim plain [ Ok item ↦ settled verb file cared item later attempt | Err abend ↦ filing.no_effect before (Abended abend) ])
  operated-by verb file cared before later attempt long later_long wide plain same h =
      subst (λ x. WidensEffect (elim x [ Ok item ↦ settled verb file cared item (later ++ tail) attempt | Err abend ↦ filing.no_effect (before ++ tail) (Abended abend) ])
      (elim plain [ Ok item ↦ settled verb file cared item later attempt | Err abend ↦ filing.no_effect before (Abended abend) ])) (sym same) (by_answer plain h)
    where
      by_answer : (x : Answer (Option Spot)) → IsRootedAnswer before x →
          WidensEffect (elim x [ Ok item ↦ settled verb file cared item (later ++ tail) attempt | Err abend ↦ filing.no_effect (before ++ tail) (Abended abend) ])
          (elim x [ Ok item ↦ settled verb file cared item later attempt | Err abend ↦ filing.no_effect before (Abended abend) ])
      by_answer (Ok item) h = record {
        same = ap (λ s. record (settled verb file cared item later attempt) { store = s }) (with_status-same later item attempt.status (rooted-later before later item (later_long ∙ sym long) h));
        long = with_status-long later item attempt.status ∙ later_long;
      }
      by_answer (Err abend) h = record { same = refl; long = long }

  operated_to-widens : (verb : Verb) (file : ℕ) (cared : Bool) (before later : Roots) (attempt : Attempt) → length before ≡ roots → length later ≡ roots →
      WidensEffect (operated_to beside verb file cared (before ++ tail) (later ++ tail) attempt) (operated_to declared verb file cared before later attempt)
  operated_to-widens verb file cared before later attempt long later_long =
      let found = status-found before long (status_place declared file) (status-within (length areas) declared.files whole.statuses file) in
      operated-by verb file cared before later attempt long later_long (status_spot beside (before ++ tail) (status_place declared file)) (status_spot declared before (status_place declared file)) found.0 found.1

  pub opened-widens : (store : Roots) → length store ≡ roots → (world : World) (opening : Opening) → WidensEffect (opened beside (store ++ tail) world opening) (opened declared store world opening)
  opened-widens store long world opening =
      operated_to-widens Open opening.file false store store (opened_at world (addresses declared) opening.file (address_at declared opening.file) opening.how) long long

  pub shut-widens : (store : Roots) → length store ≡ roots → (world : World) (file : ℕ) → WidensEffect (shut beside (store ++ tail) world file) (shut declared store world file)
  shut-widens store long world file = operated_to-widens Close file false store store (closed_at world file) long long

  -- ---- READ

  pub of_outcome-widens : (wide plain : Outcome (Unit {0})) (end : Ended) → outcomes.Widens tail roots wide plain →
      WidensEffect (of_outcome wide.store wide.answer end) (of_outcome plain.store plain.answer end)
  of_outcome-widens wide plain end h = subst (λ x. WidensEffect (of_outcome x.store x.answer end) (of_outcome plain.store plain.answer end)) (sym h.same) (by_answer plain.answer)
    where
      by_answer : (answer : Answer (Unit {0})) → WidensEffect (of_outcome (plain.store ++ tail) answer end) (of_outcome plain.store answer end)
      by_answer (Ok a) = record { same = refl; long = h.long }
      by_answer (Err abend) = record { same = refl; long = h.long }

  pub item-found : (item : ℕ) → item < length areas → (store : Roots) → length store ≡ roots → (inside : AreInside areas store) →
      places.FoundBy areas added.areas store tail inside (item_reached item)
  item-found item h store long inside = by_area (slice_get areas item) refl
    where
      same : slice_get (areas ++ added.areas) item ≡ slice_get areas item
      same = get-append areas added.areas item h

      by_area : (area : Option Area) → area ≡ slice_get areas item → places.FoundBy areas added.areas store tail inside (item_reached item)
      by_area None is = record {
        same = ap (reached_in (places.there areas added.areas store tail inside) [] None) (same ∙ sym is) ∙ sym (ap (reached_in (memory_of areas store) [] None) (sym is));
        rooted = subst (λ a. IsRooted store (reached_in (memory_of areas store) [] None a)) is tt;
      }
      by_area (Some area) is = record {
        same = ap (reached_in (places.there areas added.areas store tail inside) [] None) (same ∙ sym is) ∙ sym (ap (reached_in (memory_of areas store) [] None) (sym is));
        rooted = subst (λ a. IsRooted store (reached_in (memory_of areas store) [] None a)) is (inside item area (sym is));
      }

  first-same : (file : ℕ) → first file < length areas → record_entry beside file ≡ first file
  first-same file h = cases (first-cases file)
    where
      cases : FirstThere file 0 (length declared.entries) (length added.entries) (record_entry beside file) (first file) → record_entry beside file ≡ first file
      cases (inl g) = g.0
      cases (inr g) = absurd (omega (arith, h, g.1, whole.sized))

  place-finds : (place : Place) → place_within (length areas) place ≡ true → moves.Finds areas added.areas tail roots (reached place)
  place-finds place e store long inside = places.place-same areas added.areas store tail inside place e

  group-same : (place : Place) → place_within (length areas) place ≡ true → is_group (form_of (areas ++ added.areas) place) ≡ is_group (form_of areas place)
  group-same place e = ap is_group (moves.form-same areas added.areas place e)

  into-widens : (file : ℕ) → first file < length areas → (store : Roots) → length store ≡ roots → (place : Option Place) → if_any (length areas) (place_within (length areas)) place ≡ true →
      outcomes.Widens tail roots (into_by beside file (store ++ tail) place) (into_by declared file store place)
  into-widens file h store long None e = record { same = refl; long = long }
  into-widens file h store long (Some place) e =
      moves.sent_on-widens areas added.areas tail roots
      (place_sent (memory_of (areas ++ added.areas) (store ++ tail)) (not (is_group (form_of (areas ++ added.areas) place))) (item_reached (record_entry beside file)))
      (place_sent (memory_of areas store) (not (is_group (form_of areas place))) (item_reached (first file)))
      (out-Place place).item (item-below (length areas) place e) (reached place) store long (lies-inside store long)
      (ap (λ n. place_sent (memory_of (areas ++ added.areas) (store ++ tail)) (not (is_group (form_of (areas ++ added.areas) place))) (item_reached n)) (first-same file h)
      ∙ ap (λ group. place_sent (memory_of (areas ++ added.areas) (store ++ tail)) (not group) (item_reached (first file))) (group-same place e)
      ∙ sides.place_sent-same areas added.areas store tail (lies-inside store long) (not (is_group (form_of areas place))) (item_reached (first file)) (item-found (first file) h store long (lies-inside store long)))
      (place-finds place e)

  record_root : (file : ℕ) → first file < length areas → (record_spot declared file).root < roots
  record_root file h = by_area (slice_get areas (first file)) refl
    where
      by_area : (area : Option Area) → area ≡ slice_get areas (first file) → (record_spot declared file).root < roots
      by_area None is = let g = get-there areas (first file) h in absurd (cc)
      by_area (Some area) is = subst (λ a. (root_by declared.areas.roots a).root < roots) is (whole.inside (first file) area (sym is))

  record_put-same : (file : ℕ) → first file < length areas → (store : Roots) → length store ≡ roots → (attempt : Attempt) →
      record_put beside file (store ++ tail) attempt ≡ record_put declared file store attempt ++ tail
  record_put-same file h store long attempt =
      ap (λ spot. if attempt.status == 0 then put_at (store ++ tail) spot attempt.bytes else store ++ tail) (record-same file) ∙ by_case (attempt.status == 0)
    where
      by_case : (b : Bool) → (if b then put_at (store ++ tail) (record_spot declared file) attempt.bytes else store ++ tail) ≡ (if b then put_at store (record_spot declared file) attempt.bytes else store) ++ tail
      by_case true = put-same store tail (record_spot declared file) attempt.bytes (subst (λ n. (record_spot declared file).root < n) (sym long) (record_root file h))
      by_case false = refl

  record_put-long : (file : ℕ) (store : Roots) (attempt : Attempt) → length (record_put declared file store attempt) ≡ length store
  record_put-long file store attempt = by_case (attempt.status == 0)
    where
      by_case : (b : Bool) → length (if b then put_at store (record_spot declared file) attempt.bytes else store) ≡ length store
      by_case true = put-long store tail (record_spot declared file) attempt.bytes
      by_case false = refl

  read_end-widens : (file : ℕ) → first file < length areas → (place : Option Place) → if_any (length areas) (place_within (length areas)) place ≡ true →
      (arms : Bool) (status : ℕ) (before : World) (wide plain : Effect) → WidensEffect wide plain →
      WidensEffect (read_end beside file place arms status before wide) (read_end declared file place arms status before plain)
  read_end-widens file h place e arms status before wide plain g = by_case (status == 0)
    where
      by_case : (b : Bool) →
          WidensEffect (if b then filing.then_do before wide (λ store world. into beside file store place (if arms then Chose 2 else Went)) else filing.then_do before wide (λ store world. filing.no_effect store (if arms then Chose 1 else Went)))
          (if b then filing.then_do before plain (λ store world. into declared file store place (if arms then Chose 2 else Went)) else filing.then_do before plain (λ store world. filing.no_effect store (if arms then Chose 1 else Went)))
      by_case true =
          files.then_do-widens tail roots before wide plain (λ store world. into beside file store place (if arms then Chose 2 else Went)) (λ store world. into declared file store place (if arms then Chose 2 else Went)) g
          (λ store long world. of_outcome-widens (into_by beside file (store ++ tail) place) (into_by declared file store place) (if arms then Chose 2 else Went) (into-widens file h store long place e))
      by_case false =
          files.then_do-widens tail roots before wide plain (λ store world. filing.no_effect store (if arms then Chose 1 else Went)) (λ store world. filing.no_effect store (if arms then Chose 1 else Went)) g
          (λ store long world. record { same = refl; long = long })

  read_by-widens : (store : Roots) → length store ≡ roots → (file : ℕ) → first file < length areas → (place : Option Place) → if_any (length areas) (place_within (length areas)) place ≡ true →
      (at_end arms : Bool) (attempt : Attempt) → WidensEffect (read_by beside (store ++ tail) file place at_end arms attempt) (read_by declared store file place at_end arms attempt)
  read_by-widens store long file h place e at_end arms attempt =
      read_end-widens file h place e arms attempt.status attempt.world
      (operated_to beside Read file (at_end && attempt.status == 10) (store ++ tail) (record_put beside file (store ++ tail) attempt) attempt)
      (operated_to declared Read file (at_end && attempt.status == 10) store (record_put declared file store attempt) attempt)
      (subst (λ later. WidensEffect (operated_to beside Read file (at_end && attempt.status == 10) (store ++ tail) later attempt) (operated_to declared Read file (at_end && attempt.status == 10) store (record_put declared file store attempt) attempt))
      (sym (record_put-same file h store long attempt))
      (operated_to-widens Read file (at_end && attempt.status == 10) store (record_put declared file store attempt) attempt long (record_put-long file store attempt ∙ long)))

  pub read-widens : (store : Roots) → length store ≡ roots → (world : World) (file : ℕ) → first file < length areas → (place : Option Place) → if_any (length areas) (place_within (length areas)) place ≡ true →
      (at_end arms : Bool) → WidensEffect (filing.read beside (store ++ tail) world file place at_end arms) (filing.read declared store world file place at_end arms)
  read-widens store long world file h place e at_end arms =
      subst (λ size. WidensEffect (read_by beside (store ++ tail) file place at_end arms (read_at world file (address_at declared file) size)) (filing.read declared store world file place at_end arms))
      (sym (ap (λ (spot : Spot). spot.length) (record-same file)))
      (read_by-widens store long file h place e at_end arms (read_at world file (address_at declared file) (record_spot declared file).length))

  -- ---- WRITE and REWRITE

  from-widens : (entry : ℕ) → entry < length areas → (store : Roots) → length store ≡ roots → (from : Option Operand) → if_any (length areas) (operand_within (length areas)) from ≡ true →
      outcomes.Widens tail roots (from_by beside entry (store ++ tail) from) (from_by declared entry store from)
  from-widens entry h store long None e = record { same = refl; long = long }
  from-widens entry h store long (Some operand) e =
      moves.sent_on-widens areas added.areas tail roots
      (operand_sent (memory_of (areas ++ added.areas) (store ++ tail)) (not (is_group (item_form (areas ++ added.areas) entry))) operand)
      (operand_sent (memory_of areas store) (not (is_group (item_form areas entry))) operand)
      entry h (item_reached entry) store long (lies-inside store long)
      (ap (λ area. operand_sent (memory_of (areas ++ added.areas) (store ++ tail)) (not (is_group (area_form false area))) operand) (get-append areas added.areas entry h)
      ∙ sides.operand_sent-same areas added.areas store tail (lies-inside store long) (not (is_group (item_form areas entry))) operand e)
      (item-found entry h)

  file-same : (entry : ℕ) → entry < length areas → file_of beside entry ≡ file_of declared entry
  file-same entry h = ap (λ e. unwrap_or (file_by e) 0) (get-append declared.entries added.entries entry (omega (arith, h, whole.sized)))

  entry_bytes-same : (file : ℕ) (store : Roots) → length store ≡ roots → (area : Option Area) → ((a : Area) → area ≡ Some a → a.root < roots) →
      entry_bytes beside file (store ++ tail) area ≡ entry_bytes declared file store area
  entry_bytes-same file store long None h = refl
  entry_bytes-same file store long (Some area) h =
      ap (λ (spot : Spot). padded_to spot.length (spot_bytes (store ++ tail) (record { root = area.root; start = area.start; length = area.size }))) (record-same file)
      ∙ ap (padded_to (record_spot declared file).length) (spot-same store tail (record { root = area.root; start = area.start; length = area.size }) (subst (λ n. area.root < n) (sym long) (h area refl)))

  put_out-widens : (verb : Verb) (attempts : ℕ → Address → List ℕ → Attempt) (entry : ℕ) → entry < length areas → (wide plain : Outcome (Unit {0})) → outcomes.Widens tail roots wide plain →
      WidensEffect (put_out beside verb attempts entry (file_of beside entry) wide.store wide.answer) (put_out declared verb attempts entry (file_of declared entry) plain.store plain.answer)
  put_out-widens verb attempts entry h wide plain g =
      subst (λ x. WidensEffect (put_out beside verb attempts entry (file_of beside entry) x.store x.answer) (put_out declared verb attempts entry (file_of declared entry) plain.store plain.answer)) (sym g.same)
      (subst (λ file. WidensEffect (put_out beside verb attempts entry file (plain.store ++ tail) plain.answer) (put_out declared verb attempts entry (file_of declared entry) plain.store plain.answer)) (sym (file-same entry h))
      (by_answer plain.answer))
    where
      file : ℕ
      file = file_of declared entry

      bytes : entry_bytes beside file (plain.store ++ tail) (slice_get (areas ++ added.areas) entry) ≡ entry_bytes declared file plain.store (slice_get areas entry)
      bytes = ap (entry_bytes beside file (plain.store ++ tail)) (get-append areas added.areas entry h) ∙ entry_bytes-same file plain.store g.long (slice_get areas entry) (whole.inside entry)

      by_answer : (answer : Answer (Unit {0})) → WidensEffect (put_out beside verb attempts entry file (plain.store ++ tail) answer) (put_out declared verb attempts entry file plain.store answer)
      by_answer (Err abend) = record { same = refl; long = g.long }
      by_answer (Ok a) =
          subst (λ b. WidensEffect (operated beside verb file false (plain.store ++ tail) (attempts file (address_at declared file) b)) (operated declared verb file false plain.store (attempts file (address_at declared file) (entry_bytes declared file plain.store (slice_get areas entry)))))
          (sym bytes)
          (operated_to-widens verb file false plain.store plain.store (attempts file (address_at declared file) (entry_bytes declared file plain.store (slice_get areas entry))) g.long g.long)

  pub written-widens : (store : Roots) → length store ≡ roots → (world : World) (entry : ℕ) → entry < length areas → (from : Option Operand) → if_any (length areas) (operand_within (length areas)) from ≡ true →
      WidensEffect (filing.written beside (store ++ tail) world entry from) (filing.written declared store world entry from)
  written-widens store long world entry h from e =
      put_out-widens Write (written_at world) entry h (from_by beside entry (store ++ tail) from) (from_by declared entry store from) (from-widens entry h store long from e)

  pub rewritten-widens : (store : Roots) → length store ≡ roots → (world : World) (entry : ℕ) → entry < length areas → (from : Option Operand) → if_any (length areas) (operand_within (length areas)) from ≡ true →
      WidensEffect (filing.rewritten beside (store ++ tail) world entry from) (filing.rewritten declared store world entry from)
  rewritten-widens store long world entry h from e =
      put_out-widens Rewrite (rewritten_at world) entry h (from_by beside entry (store ++ tail) from) (from_by declared entry store from) (from-widens entry h store long from e)
