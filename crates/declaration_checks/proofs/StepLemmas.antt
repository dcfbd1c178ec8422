-- Steps of loops over clauses, records and lists that are folded.
use Rattle.std.proofs.Common.{◌≡◌, ℕ, ◌+◌, ◌<◌, List, [], ◌∷◌, ◌++◌, length, get_or, take, drop, Some, refl, sym, ap, ◌∙◌, if◌then◌else◌}
use Rattle.std.proofs.lemmas.List.{append_assoc, drop_more, take_more}
use Rattle.std.specs.List.{fold, list_any}
use Rattle.cob_tree.specs.declared.entry.Entry.{Entry}
use Rattle.cobol_grammar.specs.declared.data_forms.draft.Clause.{Clause}
use Rattle.cobol_grammar.specs.declared.data_forms.draft.FdDraft.{FdDraft}
use Rattle.cobol_grammar.specs.declared.data_forms.draft.SelectDraft.{SelectDraft}
use Rattle.parser_combinators.specs.declared.note.NameKind.TheVariants.{Usage}
use Rattle.declaration_checks.specs.Clause.{again_from, is_of, kind_of, position_of}
use Rattle.declaration_checks.specs.Declaring.{record_bases, section_bases}
use Rattle.declaration_checks.specs.Fault.{fault_at}
use Rattle.declaration_checks.specs.File.{file_number}

-- one element more, of those to come and of those before
pub drop_step : {X : Type 0} (xs : List X) (at : ℕ) (x : X) → at < length xs → x ≡ get_or xs at x → drop at xs ≡ x ∷ drop (at + 1) xs
drop_step xs at x h e = drop_more xs at x h ∙ ap (λ y. y ∷ drop (at + 1) xs) (sym e)

pub take_step : {X : Type 0} (xs : List X) (at : ℕ) (x : X) → at < length xs → x ≡ get_or xs at x → take (at + 1) xs ≡ take at xs ++ x ∷ []
take_step xs at x h e = take_more xs at x h ∙ ap (λ y. take at xs ++ y ∷ []) (sym e)

pub again_from_step : (clauses : List Clause) (at : ℕ) (x : Clause) → at < length clauses → x ≡ get_or clauses at x → again_from (take at clauses) (drop at clauses) ≡ (if list_any (is_of (kind_of x)) (take at clauses) then fault_at Usage (position_of x) else again_from (take (at + 1) clauses) (drop (at + 1) clauses))
again_from_step clauses at x h e = rw (drop_step clauses at x h e, take_step clauses at x h e) refl

pub record_bases_step : (bases : List Entry) (selects : List SelectDraft) (fds : List FdDraft) (at : ℕ) (x : FdDraft) → at < length fds → x ≡ get_or fds at x → bases ++ record_bases selects at (drop at fds) ≡ (bases ++ section_bases (Some (file_number selects x at)) x.entries) ++ record_bases selects (at + 1) (drop (at + 1) fds)
record_bases_step bases selects fds at x h e =
    rw (drop_step fds at x h e) (sym (append_assoc bases (section_bases (Some (file_number selects x at)) x.entries) (record_bases selects (at + 1) (drop (at + 1) fds))))

-- a fold, one element on
pub fold_push : {A B : Type 0} (f : B → A → B) (a : B) (xs : List A) (x : A) → fold f a (xs ++ x ∷ []) ≡ f (fold f a xs) x
fold_push f a [] x = refl
fold_push f a (y ∷ ys) x = fold_push f (f a y) ys x

pub fold_step : {A B : Type 0} (f : B → A → B) (a : B) (xs : List A) (at : ℕ) (x : A) → at < length xs → x ≡ get_or xs at x → fold f a (take (at + 1) xs) ≡ f (fold f a (take at xs)) x
fold_step f a xs at x h e = ap (fold f a) (take_step xs at x h e) ∙ fold_push f a (take at xs) x
