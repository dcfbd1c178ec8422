-- Steps of loops over entries, the last first.
use Rattle.std.proofs.Common.{◌≡◌, ℕ, ◌-◌, ◌<◌, ◌≤◌, Bool, true, false, ◌||◌, List, [], ◌∷◌, length, get_or, take, reverse, Some, None, refl, ap, ◌∙◌, arith, if◌then◌else◌}
use Rattle.std.proofs.lemmas.List.{length-reverse, length-take-le}
use Rattle.cob_tree.specs.declared.entry.Entry.{Entry}
use Rattle.symbol_tables.specs.data_names.Grouping.{bound_of, holds, same_file}
use Rattle.symbol_tables.proofs.data_names_lemmas.GroupingLemmas.{last_first}
use Rattle.declaration_checks.specs.Redefining.{is_alike, last_alike}

length-before : (before : List Entry) (at : ℕ) → at ≤ length before → length (reverse (take (at - 1) before)) ≡ at - 1
length-before before at h = length-reverse (take (at - 1) before) ∙ length-take-le (at - 1) before (omega arith)

last_alike-cons : (entry x : Entry) (before : List Entry) → last_alike entry (x ∷ before) ≡ (if same_file entry.file x.file then (if holds (bound_of entry.level) x then None else (if is_alike entry x then Some (length before) else last_alike entry before)) else None)
unfolding last_alike
last_alike-cons entry x before = refl

pub last_alike_none : (entry : Entry) → last_alike entry [] ≡ None
unfolding last_alike
last_alike_none entry = refl

pub last_alike_step : (entry : Entry) (before : List Entry) (at : ℕ) (x : Entry) → 0 < at → at ≤ length before → x ≡ get_or before (at - 1) x → last_alike entry (reverse (take at before)) ≡ (if same_file entry.file x.file then (if holds (bound_of entry.level) x then None else (if is_alike entry x then Some (at - 1) else last_alike entry (reverse (take (at - 1) before)))) else None)
last_alike_step entry before at x h l e =
    ap (last_alike entry) (last_first before at x h l e)
    ∙ last_alike-cons entry x (reverse (take (at - 1) before))
    ∙ ap (λ n. if same_file entry.file x.file then (if holds (bound_of entry.level) x then None else (if is_alike entry x then Some n else last_alike entry (reverse (take (at - 1) before)))) else None) (length-before before at l)

pub or_false : (b : Bool) → (b || false) ≡ b
or_false true = refl
or_false false = refl

pub or_assoc : (a b c : Bool) → (a || (b || c)) ≡ ((a || b) || c)
or_assoc true b c = refl
or_assoc false b c = refl
