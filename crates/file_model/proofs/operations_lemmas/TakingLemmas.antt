-- The files of a device that is gone, closed one after another, and the device behind the bench.
use Rattle.std.proofs.Common.{◌≡◌, ◌∙◌, sym, subst, ℕ, zero, suc, ◌<◌, ◌≤◌, ◌+◌, Bool, true, false, List, [], ◌∷◌, map, length, take, drop, Option, Some, None, IfSome, refl, ap, arith, slice_get, slice_set, if◌then◌else◌, get_or}
use Rattle.std.proofs.lemmas.List.{length-map}
use Rattle.std.proofs.Math.ListN.{length-set}
use Rattle.std.proofs.lemmas.Option.{slice_get_read, slice_get-map}
use Rattle.std.specs.Option.{option_map}
use Rattle.std.specs.Str.{bytes_eq}
use Rattle.cob_tree.specs.declared.file.FileEntry.{FileEntry}
use Rattle.file_model.specs.declared.table.FileRow.{FileRow}
use Rattle.file_model.specs.Attempts.{Address, address_of}
use Rattle.file_model.specs.Status.{closed_row}
use Rattle.file_model.specs.operations.Seen.{Seen}
use Rattle.file_model.specs.operations.Standing.{rows_closed_on}
use Rattle.file_model.specs.operations.Calls.{TakenOff, addresses_of}
use Rattle.file_model.proofs.operations_lemmas.CallLemmas.{seen_at}
use Rattle.file_model.proofs.operations_lemmas.StandLemmas.{some_same}

pub length_closed : (name : List ℕ) (addresses : List Address) (table : List FileRow) → length (rows_closed_on name addresses table) ≡ length table
length_closed name [] table = refl
length_closed name (address ∷ addresses) [] = refl
length_closed name (address ∷ addresses) (row ∷ table) = ap suc (length_closed name addresses table)

push_if : (b : Bool) (row : FileRow) (s t : List FileRow) → (if b then row ∷ s else row ∷ t) ≡ row ∷ (if b then s else t)
push_if true row s t = refl
push_if false row s t = refl

first_row : (b : Bool) (row : FileRow) (table : List FileRow) → (if b then closed_row ∷ table else row ∷ table) ≡ (if b then closed_row else row) ∷ table
first_row true row table = refl
first_row false row table = refl

close_next : (name : List ℕ) (addresses : List Address) (table : List FileRow) (at : ℕ) (address : Address) → slice_get addresses at ≡ Some address → at < length table →
    (if bytes_eq address.device name then slice_set (rows_closed_on name (take at addresses) table) at closed_row else rows_closed_on name (take at addresses) table) ≡ rows_closed_on name (take (suc at) addresses) table
close_next name [] table at address is within = cc
close_next name (first ∷ addresses) [] at address is within = absurd (omega (arith, within))
close_next name (first ∷ addresses) (row ∷ table) zero address is within =
    let f : first ≡ address = some_same first address is in
    subst (λ (a : Address). (if bytes_eq a.device name then closed_row ∷ table else row ∷ table) ≡ (if bytes_eq first.device name then closed_row else row) ∷ table) f
    (first_row (bytes_eq first.device name) row table)
close_next name (first ∷ addresses) (row ∷ table) (suc at) address is within =
    push_if (bytes_eq address.device name) (if bytes_eq first.device name then closed_row else row) (slice_set (rows_closed_on name (take at addresses) table) at closed_row) (rows_closed_on name (take at addresses) table)
    ∙ ap (λ l. (if bytes_eq first.device name then closed_row else row) ∷ l) (close_next name addresses table at address is (omega (arith, within)))

pub address_at : (files : List FileEntry) (at : ℕ) (entry : FileEntry) → at < length files → entry ≡ get_or files at entry → slice_get (addresses_of files) at ≡ Some (address_of entry.assign)
address_at files at entry within is = slice_get-map (λ (file : FileEntry). address_of file.assign) files at ∙ ap (option_map (λ (file : FileEntry). address_of file.assign)) (slice_get_read files (length files) at entry refl within is)

pub rows_step : (name : List ℕ) (files : List FileEntry) (table rows now : List FileRow) (at : ℕ) (entry : FileEntry) → entry ≡ get_or files at entry → at < length files → length files ≤ length table →
    rows ≡ rows_closed_on name (take at (addresses_of files)) table → now ≡ (if bytes_eq (address_of entry.assign).device name then slice_set rows at closed_row else rows) →
    now ≡ rows_closed_on name (take (at + 1) (addresses_of files)) table
rows_step name files table rows now at entry is within fits so_far next =
    let e : suc at ≡ at + 1 = omega arith in
    next ∙ ap (λ r. if bytes_eq (address_of entry.assign).device name then slice_set r at closed_row else r) so_far
    ∙ close_next name (addresses_of files) table at (address_of entry.assign) (address_at files at entry within is) (omega arith)
    ∙ ap (λ n. rows_closed_on name (take n (addresses_of files)) table) e

pub take_whole : {A : Type 0} (xs : List A) (n : ℕ) → length xs ≤ n → take n xs ≡ xs
take_whole [] zero within = refl
take_whole [] (suc n) within = refl
take_whole (x ∷ xs) zero within = absurd (omega (arith, within))
take_whole (x ∷ xs) (suc n) within = ap (λ l. x ∷ l) (take_whole xs n (omega (arith, within)))

pub all_closed : (name : List ℕ) (files : List FileEntry) (table : List FileRow) (n : ℕ) → length files ≤ n → rows_closed_on name (take n (addresses_of files)) table ≡ rows_closed_on name (addresses_of files) table
all_closed name files table n past = ap (λ a. rows_closed_on name a table) (take_whole (addresses_of files) n (simp length-map (omega arith)))

-- ---- the device behind the bench

get_dropped : (devices rest : List Seen) (at : ℕ) (device : Seen) → drop at devices ≡ device ∷ rest → slice_get devices at ≡ Some device
get_dropped [] rest zero device e = cc
get_dropped [] rest (suc at) device e = cc
get_dropped (first ∷ devices) rest zero device e = cc
get_dropped (first ∷ devices) rest (suc at) device e = get_dropped devices rest at device e

pub behind_seen : {A : Type 0} (see : A → Seen) (items : List A) (old : List Seen) (n left left_now at : ℕ) (item : A) → n ≡ length items → left_now < n → item ≡ get_or items left_now item → (taken : TakenOff at left left_now old (map see items)) → see item ≡ taken.device
behind_seen see items old n left left_now at item many within is taken =
    some_same (see item) taken.device (sym (seen_at see items n left_now item many within is) ∙ get_dropped (map see items) (drop left old) left_now taken.device taken.behind)

pub closed_if : (old : List Seen) (at : ℕ) (device : Seen) (name : List ℕ) (addresses : List Address) (table now : List FileRow) → slice_get old at ≡ Some device → name ≡ device.name → now ≡ rows_closed_on name addresses table →
    IfSome (slice_get old at) (λ device. now ≡ rows_closed_on device.name addresses table)
closed_if old at device name addresses table now here named rows =
    subst (λ (o : Option Seen). IfSome o (λ device. now ≡ rows_closed_on device.name addresses table)) (sym here) (rows ∙ ap (λ n. rows_closed_on n addresses table) named)

-- ---- lengths

slice_get_some : (table : List FileRow) (file : ℕ) → file < length table → slice_get table file ≡ None → ⊥
slice_get_some [] file within e = omega (arith, within)
slice_get_some (row ∷ table) zero within e = let x : Some row ≡ None = e in cc
slice_get_some (row ∷ table) (suc file) within e = slice_get_some table file (omega (arith, within)) e

pub length_noted : (f : FileRow → FileRow) (table now : List FileRow) (file : ℕ) → file < length table → IfSome (slice_get table file) (λ row. now ≡ slice_set table file (f row)) → length now ≡ length table
length_noted f table now file within after = go (slice_get table file) (λ e. slice_get_some table file within e) after
  where
    go : (o : Option FileRow) → (o ≡ None → ⊥) → IfSome o (λ row. now ≡ slice_set table file (f row)) → length now ≡ length table
    go None there after = absurd (there refl)
    go (Some row) there after = ap length after ∙ length-set table file (f row)

pub length_gone : (o : Option Seen) (addresses : List Address) (table now : List FileRow) → (o ≡ None → ⊥) → IfSome o (λ device. now ≡ rows_closed_on device.name addresses table) → length now ≡ length table
length_gone None addresses table now there rows = absurd (there refl)
length_gone (Some device) addresses table now there rows = ap length rows ∙ length_closed device.name addresses table
