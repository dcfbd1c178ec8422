-- An entry whose draft breaks no rule keeps the rules.
use Rattle.std.proofs.Common.{◌≡◌, ℕ, ◌≤◌, Bool, true, false, not, ◌&&◌, ◌||◌, if◌then◌else◌, List, [], ◌∷◌, map, Option, Some, None, Ok, Err, Result, refl, ap, sym, ◌∙◌, subst}
use Rattle.std.specs.Prelude.{◌==◌, nat_le, nat_lt, slice_get, length, ◌^◌}
use Rattle.std.specs.List.{fold, list_any}
use Rattle.std.specs.Option.{is_some}
use Rattle.std.proofs.lemmas.Bool.{and_parts, leb-true}
use Rattle.std.proofs.lemmas.Slice.Eq.{bytes_eq-Decides}
use Rattle.cob_tree.specs.declared.entry.Entry.{Entry}
use Rattle.cob_tree.specs.declared.picture.Picture.{Picture}
use Rattle.cob_tree.specs.declared.place.Operand.{Operand}
use Rattle.cobol_grammar.specs.declared.data_forms.draft.Clause.{Clause}
use Rattle.cobol_grammar.specs.declared.data_forms.draft.Clause.TheVariants as clauses
use Rattle.cobol_grammar.specs.declared.data_forms.draft.SpanDraft.{SpanDraft}
use Rattle.cobol_grammar.specs.declared.data_forms.draft.ThruDraft.{ThruDraft}
use Rattle.parser_combinators.specs.declared.note.NameKind.{NameKind}
use Rattle.parser_combinators.specs.declared.note.NameKind.TheVariants.{Redefines as BadRedefines, Usage, Value, Unknown}
use Rattle.parser_combinators.specs.declared.note.Note.{Note}
use Rattle.parser_combinators.specs.declared.note.Position.{Position}
use Rattle.parser_combinators.specs.Note.{precedes, earliest}
use Rattle.picture_data.specs.declared.fault.PictureFault.{PictureFault}
use Rattle.picture_data.specs.Reading.{picture_of as picture_of_text}
use Rattle.declaration_checks.specs.declared.literal.LiteralTarget.{LiteralTarget}
use Rattle.declaration_checks.specs.Base.{level_by, is_count, count_of, number_of, picture_if, picture_by, picture_in, sign_in, sign_by as sign_of_words, occurs_in, spans_in, span_of, to_of, value_of}
use Rattle.declaration_checks.specs.Fault.{fault_at, fault_unless, first_of}
use Rattle.declaration_checks.specs.Item.{picture_by as picture_fault_by, is_signed, sign_stands, sign_by, may_repeat, occurs_by}
use Rattle.declaration_checks.specs.Literal.{fits}
use Rattle.declaration_checks.specs.Redefining.{is_called_by, is_called, is_meant, if_meant, meant_at, redefined, name_fault, item_fault as redefined_item_fault, redefines_by, is_short}
use Rattle.declaration_checks.specs.Value.{to_fault, span_fault, and_span, may_have_value, thru_fault, second_fault, literals_fault, value_by}
use Rattle.round_trip.specs.declarations.printed_pictures.Writable.{IsWritable}
use Rattle.round_trip.proofs.declarations_lemmas.Pictures.{read_pictures_are_writable}
use Rattle.round_trip.specs.spelling.data_spelling.Printable.{IfAny}
use Rattle.round_trip.specs.declarations.printed_declarations.Rules.{PictureSuits, SignSuits, Repeats, SpanFits, SpansFit, is_level}

-- ---- several faults that are none

pub none_of : (early late : Option Note) → earliest early late ≡ None → (early ≡ None) × (late ≡ None)
none_of None late e = (refl, e)
none_of (Some early) None e = absurd cc
none_of (Some early) (Some late) e = go (precedes late early) e
  where
    go : (b : Bool) → (if b then Some late else Some early) ≡ None → (Some early ≡ None) × (Some late ≡ None)
    go true e = absurd cc
    go false e = absurd cc

abbrev pub AllNone : List (Option Note) → Type 0
AllNone [] = Unit {0}
AllNone (fault ∷ faults) = (fault ≡ None) × AllNone faults

fold-none : (fault : Option Note) (faults : List (Option Note)) → fold earliest fault faults ≡ None → (fault ≡ None) × AllNone faults
fold-none fault [] e = (e, tt)
fold-none fault (next ∷ faults) e =
    let behind = fold-none (earliest fault next) faults e in
    let here = none_of fault next behind.0 in
    (here.0, (here.1, behind.1))

pub first-none : (faults : List (Option Note)) → first_of faults ≡ None → AllNone faults
first-none faults e = (fold-none None faults e).1

pub held : (b : Bool) (kind : NameKind) (at : Position) → fault_unless b kind at ≡ None → b ≡ true
held true kind at e = refl
held false kind at e = absurd cc

-- ---- pictures

-- a picture that suits is the one that stays
abbrev pub kept : Bool → Option Picture → Option Picture
kept group picture = if group then None else picture

text-writable : (text : List ℕ) (picture : Picture) → picture_by text ≡ Some picture → IsWritable picture
text-writable text picture e = go (nat_lt (length text) (2 ^ 31)) e
  where
    by : (r : Result Picture PictureFault) → picture_of_text text ≡ r → picture_if r ≡ Some picture → IsWritable picture
    by (Ok found) is e = read_pictures_are_writable text picture (is ∙ ap Ok (some-is e))
      where
        some-is : Some found ≡ Some picture → found ≡ picture
        some-is e = cc
    by (Err fault) is e = absurd cc

    go : (b : Bool) → (if b then picture_if (picture_of_text text) else None) ≡ Some picture → IsWritable picture
    go true e = by (picture_of_text text) refl e
    go false e = absurd cc

suits-item : (o : Option Picture) → is_some o ≡ true → ((picture : Picture) → o ≡ Some picture → IsWritable picture) → PictureSuits false o
suits-item None e h = absurd cc
suits-item (Some picture) e h = h picture refl

abbrev Pictured : Bool → Option Picture → Type 0
Pictured group o = PictureSuits group (kept group o) × (kept group o ≡ o)

pub pictured : (group : Bool) (at : Position) (clause : Option Clause) → picture_fault_by (picture_in clause) group at clause ≡ None → Pictured group (picture_in clause)
pictured true at (Some (clauses.Picture clause_at text text_at)) e = absurd cc
pictured true at None e = (refl, refl)
pictured true at (Some (clauses.Redefines clause_at name name_at)) e = (refl, refl)
pictured true at (Some (clauses.Usage clause_at said_usage)) e = (refl, refl)
pictured true at (Some (clauses.Sign clause_at leading separate)) e = (refl, refl)
pictured true at (Some (clauses.Occurs clause_at count count_at)) e = (refl, refl)
pictured true at (Some (clauses.Value clause_at spans)) e = (refl, refl)
pictured false at (Some (clauses.Picture clause_at text text_at)) e =
    (suits-item (picture_by text) (held (is_some (picture_by text)) _ text_at e) (λ picture is. text-writable text picture is), refl)
pictured false at None e = absurd cc
pictured false at (Some (clauses.Redefines clause_at name name_at)) e = absurd cc
pictured false at (Some (clauses.Usage clause_at said_usage)) e = absurd cc
pictured false at (Some (clauses.Sign clause_at leading separate)) e = absurd cc
pictured false at (Some (clauses.Occurs clause_at count count_at)) e = absurd cc
pictured false at (Some (clauses.Value clause_at spans)) e = absurd cc

-- ---- signs

signed-by : (group leading separate : Bool) (o : Option Picture) → sign_stands (not group && is_signed o) leading separate ≡ true → SignSuits (sign_of_words leading separate) o
signed-by group leading false o e = tt
signed-by true true true o e = absurd cc
signed-by true false true o e = absurd cc
signed-by false true true o e = e
signed-by false false true o e = e

pub signed : (group : Bool) (o : Option Picture) (clause : Option Clause) → sign_by o group clause ≡ None → SignSuits (sign_in clause) o
signed group o (Some (clauses.Sign at leading separate)) e = signed-by group leading separate o (held (sign_stands (not group && is_signed o) leading separate) Usage at e)
signed group o None e = tt
signed group o (Some (clauses.Redefines at name name_at)) e = tt
signed group o (Some (clauses.Picture at text text_at)) e = tt
signed group o (Some (clauses.Usage at said_usage)) e = tt
signed group o (Some (clauses.Occurs at count count_at)) e = tt
signed group o (Some (clauses.Value at spans)) e = tt

-- ---- repetitions

counted : (n : ℕ) → is_count n ≡ true → (1 ≤ n) × (n ≤ 65535)
counted n e = let h = and_parts (nat_le 1 n) (nat_le n 65535) e in (leb-true 1 n h.0, leb-true n 65535 h.1)

repeats-by : (level dims : ℕ) (digits : List ℕ) → may_repeat level dims ≡ true → is_count (number_of digits) ≡ true → Repeats level dims (count_of digits)
repeats-by level dims digits may is =
    let same : count_of digits ≡ number_of digits = ap (λ b. if b then number_of digits else 1) is in
    subst (Repeats level dims) (sym same) (may, (counted (number_of digits) is).0, (counted (number_of digits) is).1)

pub repeated : (level dims : ℕ) (clause : Option Clause) → occurs_by level dims clause ≡ None → IfAny (Repeats level dims) (occurs_in clause)
repeated level dims (Some (clauses.Occurs at digits count_at)) e =
    let h = first-none (fault_unless (may_repeat level dims) Usage at ∷ fault_unless (is_count (number_of digits)) Usage count_at ∷ []) e in
    repeats-by level dims digits (held (may_repeat level dims) Usage at h.0) (held (is_count (number_of digits)) Usage count_at h.1.0)
repeated level dims None e = tt
repeated level dims (Some (clauses.Redefines at name name_at)) e = tt
repeated level dims (Some (clauses.Picture at text text_at)) e = tt
repeated level dims (Some (clauses.Usage at said_usage)) e = tt
repeated level dims (Some (clauses.Sign at leading separate)) e = tt
repeated level dims (Some (clauses.Value at spans)) e = tt

-- ---- values

abbrev pub Valued : Entry → LiteralTarget → Bool → Operand → Type 0
Valued entry target barred value = (may_have_value entry target.group barred ≡ true) × (fits value target ≡ true)

first-fits : (entry : Entry) (target : LiteralTarget) (barred : Bool) (spans : List SpanDraft) → may_have_value entry target.group barred ≡ true → literals_fault target spans ≡ None →
    IfAny (Valued entry target barred) (value_of spans)
first-fits entry target barred [] may e = tt
first-fits entry target barred (span ∷ spans) may e =
    let h = first-none (fault_unless (fits span.from target) Value span.from_at ∷ thru_fault span.thru ∷ second_fault spans ∷ []) e in
    (may, held (fits span.from target) Value span.from_at h.0)

pub valued : (entry : Entry) (target : LiteralTarget) (barred : Bool) (clause : Option Clause) → value_by entry target barred clause ≡ None → IfAny (Valued entry target barred) (value_of (spans_in clause))
valued entry target barred (Some (clauses.Value at spans)) e =
    let h = first-none (fault_unless (may_have_value entry target.group barred) Value at ∷ literals_fault target spans ∷ []) e in
    first-fits entry target barred spans (held (may_have_value entry target.group barred) Value at h.0) h.1.0
valued entry target barred None e = tt
valued entry target barred (Some (clauses.Redefines at name name_at)) e = tt
valued entry target barred (Some (clauses.Picture at text text_at)) e = tt
valued entry target barred (Some (clauses.Usage at said_usage)) e = tt
valued entry target barred (Some (clauses.Sign at leading separate)) e = tt
valued entry target barred (Some (clauses.Occurs at count count_at)) e = tt

-- ---- what it redefines

-- the entry of this number may be redefined, and has the name that is said
abbrev pub Redefined : List Entry → List ℕ → ℕ → Entry → List ℕ → ℕ → Type 0
Redefined bases sizes at entry name number = (redefined bases at entry name ≡ Some number) × (is_short sizes at entry number ≡ true)

a-fault : (bases : List Entry) (name : List ℕ) (at : Position) → name_fault bases name at ≡ None → ⊥
a-fault bases name at e = go (list_any (is_called name) bases) e
  where
    go : (b : Bool) → (if b then fault_at BadRedefines at else fault_at Unknown at) ≡ None → ⊥
    go true e = cc
    go false e = cc

-- where one is said, it is found
abbrev pub Found : List Entry → List ℕ → ℕ → Entry → Option Clause → Type 0
Found bases sizes at entry (Some (clauses.Redefines clause_at name name_at)) = (number : ℕ) × Redefined bases sizes at entry name number
Found bases sizes at entry _ = Unit {0}

pub found : (bases : List Entry) (sizes : List ℕ) (at : ℕ) (entry : Entry) (clause : Option Clause) → redefines_by bases sizes at entry clause ≡ None → Found bases sizes at entry clause
found bases sizes at entry (Some (clauses.Redefines clause_at name name_at)) e = go (redefined bases at entry name) refl e
  where
    go : (o : Option ℕ) → redefined bases at entry name ≡ o → redefined_item_fault bases sizes at entry name name_at o ≡ None → (number : ℕ) × Redefined bases sizes at entry name number
    go None is e = absurd (a-fault bases name name_at e)
    go (Some number) is e = (number, (is, held (is_short sizes at entry number) BadRedefines name_at e))
found bases sizes at entry None e = tt
found bases sizes at entry (Some (clauses.Picture clause_at text text_at)) e = tt
found bases sizes at entry (Some (clauses.Usage clause_at said_usage)) e = tt
found bases sizes at entry (Some (clauses.Sign clause_at leading separate)) e = tt
found bases sizes at entry (Some (clauses.Occurs clause_at count count_at)) e = tt
found bases sizes at entry (Some (clauses.Value clause_at spans)) e = tt

-- the entry of that number has the name
pub named-so : (bases : List Entry) (name : List ℕ) (entry : Entry) (o : Option ℕ) (number : ℕ) → meant_at bases name entry o ≡ Some number →
    (other : Entry) × (slice_get bases number ≡ Some other) × (other.name ≡ Some name)
named-so bases name entry None number e = absurd cc
named-so bases name entry (Some at) number e = go (slice_get bases at) refl e
  where
    called : (o : Option (List ℕ)) → is_called_by name o ≡ true → o ≡ Some name
    called None e = absurd cc
    called (Some other) e = ap (λ n. Some n) ((bytes_eq-Decides other name).0 e)

    number-is : Some at ≡ Some number → at ≡ number
    number-is e = cc

    by : (other : Entry) (b : Bool) → is_meant name entry other ≡ b → (if b then Some at else None) ≡ Some number → (at ≡ number) × (other.name ≡ Some name)
    by other true is e = (number-is e, called other.name (and_parts (is_called name other) (not (is_some other.occurs) && not (is_some entry.occurs)) is).0)
    by other false is e = absurd cc

    go : (o : Option Entry) → slice_get bases at ≡ o → if_meant name entry at o ≡ Some number → (other : Entry) × (slice_get bases number ≡ Some other) × (other.name ≡ Some name)
    go None is e = absurd cc
    go (Some other) is e =
        let h = by other (is_meant name entry other) refl e in
        (other, ap (slice_get bases) (sym h.0) ∙ is, h.1)

-- ---- the spans of a level 88

span-fits : (target : LiteralTarget) (draft : SpanDraft) → span_fault target draft ≡ None → SpanFits target (span_of draft)
span-fits target draft e =
    let h = first-none (fault_unless (fits draft.from target) Value draft.from_at ∷ to_fault target draft.thru ∷ []) e in
    (held (fits draft.from target) Value draft.from_at h.0, thru draft.thru h.1.0)
  where
    thru : (o : Option ThruDraft) → to_fault target o ≡ None → IfAny (λ to. fits to target ≡ true) (to_of o)
    thru None e = tt
    thru (Some t) e = held (fits t.to target) Value t.to_at e

pub spans-fit : (target : LiteralTarget) (fault : Option Note) (drafts : List SpanDraft) → fold (and_span target) fault drafts ≡ None → (fault ≡ None) × SpansFit target (map span_of drafts)
spans-fit target fault [] e = (e, tt)
spans-fit target fault (draft ∷ drafts) e =
    let behind = spans-fit target (and_span target fault draft) drafts e in
    let here = none_of fault (span_fault target draft) behind.0 in
    (here.0, (span-fits target draft here.1, behind.1))

-- ---- levels

pub a-level : (number : ℕ) → is_level (level_by number) ≡ true
a-level number = go (nat_lt number 50 || (number == 77 || number == 88)) refl
  where
    go : (b : Bool) → (nat_lt number 50 || (number == 77 || number == 88)) ≡ b → is_level (if b then number else 0) ≡ true
    go true e = e
    go false e = refl
