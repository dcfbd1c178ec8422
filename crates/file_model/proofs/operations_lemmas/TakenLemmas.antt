-- Whether a file of the program is open at a place, from one file to the next.
use Rattle.std.proofs.Common.{◌≡◌, ◌∙◌, sym, subst, ℕ, zero, suc, ◌<◌, ◌≤◌, ◌+◌, Bool, true, false, ◌&&◌, ◌||◌, is_some, List, [], ◌∷◌, length, take, Some, None, refl, ap, arith, slice_get, get_or}
use Rattle.std.proofs.lemmas.List.{length-map}
use Rattle.cob_tree.specs.declared.file.FileEntry.{FileEntry}
use Rattle.file_model.specs.declared.table.FileRow.{FileRow}
use Rattle.file_model.specs.Attempts.{Address, address_of, same_address}
use Rattle.file_model.specs.operations.Standing.{is_open_there}
use Rattle.file_model.specs.operations.Calls.{addresses_of}
use Rattle.file_model.proofs.operations_lemmas.StandLemmas.{some_same}
use Rattle.file_model.proofs.operations_lemmas.TakingLemmas.{address_at, take_whole}

or_not : (a b : Bool) → a ≡ false → b ≡ false → (a || b) ≡ false
or_not a b e f = ap (λ x. x || b) e ∙ f

or_first : (a b : Bool) → (a || b) ≡ false → a ≡ false
or_first true b e = e
or_first false b e = refl

or_other : (a b : Bool) → (a || b) ≡ false → b ≡ false
or_other true b e = absurd (let x : true ≡ false = e in cc)
or_other false b e = e

or_yes : (a b : Bool) → b ≡ true → (a || b) ≡ true
or_yes true b e = refl
or_yes false b e = e

-- ---- by places

none_next : (address : Address) (addresses : List Address) (rows : List FileRow) (at : ℕ) (here : Address) (row : FileRow) → slice_get addresses at ≡ Some here → slice_get rows at ≡ Some row →
    (is_some row.how && same_address address here) ≡ false → is_open_there address (take at addresses) rows ≡ false → is_open_there address (take (suc at) addresses) rows ≡ false
none_next address [] rows at here row is at_row other none = let x : None ≡ Some here = is in cc
none_next address (first ∷ addresses) [] at here row is at_row other none = let x : None ≡ Some row = at_row in cc
none_next address (first ∷ addresses) (one ∷ rows) zero here row is at_row other none =
    let a : first ≡ here = some_same first here is in
    let r : one ≡ row = some_same one row at_row in
    or_not (is_some one.how && same_address address first) false (ap (λ (x : FileRow). is_some x.how && same_address address first) r ∙ ap (λ (x : Address). is_some row.how && same_address address x) a ∙ other) refl
none_next address (first ∷ addresses) (one ∷ rows) (suc at) here row is at_row other none =
    or_not (is_some one.how && same_address address first) (is_open_there address (take (suc at) addresses) rows)
    (or_first (is_some one.how && same_address address first) (is_open_there address (take at addresses) rows) none)
    (none_next address addresses rows at here row is at_row other (or_other (is_some one.how && same_address address first) (is_open_there address (take at addresses) rows) none))

one_there : (address : Address) (addresses : List Address) (rows : List FileRow) (at : ℕ) (here : Address) (row : FileRow) → slice_get addresses at ≡ Some here → slice_get rows at ≡ Some row →
    (is_some row.how && same_address address here) ≡ true → is_open_there address addresses rows ≡ true
one_there address [] rows at here row is at_row found = let x : None ≡ Some here = is in cc
one_there address (first ∷ addresses) [] at here row is at_row found = let x : None ≡ Some row = at_row in cc
one_there address (first ∷ addresses) (one ∷ rows) zero here row is at_row found =
    let a : first ≡ here = some_same first here is in
    let r : one ≡ row = some_same one row at_row in
    ap (λ b. b || is_open_there address addresses rows) (ap (λ (x : FileRow). is_some x.how && same_address address first) r ∙ ap (λ (x : Address). is_some row.how && same_address address x) a ∙ found)
one_there address (first ∷ addresses) (one ∷ rows) (suc at) here row is at_row found =
    or_yes (is_some one.how && same_address address first) (is_open_there address addresses rows) (one_there address addresses rows at here row is at_row found)

-- ---- by files

pub taken_step : (address : Address) (files : List FileEntry) (rows : List FileRow) (at : ℕ) (entry : FileEntry) (row : FileRow) (result : Bool) → entry ≡ get_or files at entry → slice_get rows at ≡ Some row → at < length files → length files ≤ length rows →
    result ≡ (is_some row.how && same_address address (address_of entry.assign)) → result ≡ false → is_open_there address (take at (addresses_of files)) rows ≡ false → is_open_there address (take (at + 1) (addresses_of files)) rows ≡ false
taken_step address files rows at entry row result is row_is within fits asked other none =
    let e : suc at ≡ at + 1 = omega arith in
    subst (λ (n : ℕ). is_open_there address (take n (addresses_of files)) rows ≡ false) e
    (none_next address (addresses_of files) rows at (address_of entry.assign) row (address_at files at entry within is) row_is (sym asked ∙ other) none)

pub taken_here : (address : Address) (files : List FileEntry) (rows : List FileRow) (at : ℕ) (entry : FileEntry) (row : FileRow) (result : Bool) → entry ≡ get_or files at entry → slice_get rows at ≡ Some row → at < length files → length files ≤ length rows →
    result ≡ (is_some row.how && same_address address (address_of entry.assign)) → result ≡ true → is_open_there address (addresses_of files) rows ≡ true
taken_here address files rows at entry row result is row_is within fits asked found =
    one_there address (addresses_of files) rows at (address_of entry.assign) row (address_at files at entry within is) row_is (sym asked ∙ found)

pub taken_all : (address : Address) (files : List FileEntry) (rows : List FileRow) (n : ℕ) → length files ≤ n → is_open_there address (take n (addresses_of files)) rows ≡ is_open_there address (addresses_of files) rows
taken_all address files rows n past = ap (λ a. is_open_there address a rows) (take_whole (addresses_of files) n (simp length-map (omega arith)))
