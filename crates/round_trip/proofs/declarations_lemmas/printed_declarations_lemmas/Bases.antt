-- What a printed entry says by itself: what the entry is.
use Rattle.std.proofs.Common.{◌≡◌, ℕ, ◌≤◌, ◌^◌, Bool, true, false, if◌then◌else◌, List, [], ◌∷◌, ◌++◌, length, map, Option, Some, None, refl, ap, sym, ◌∙◌, subst, arith}
use Rattle.std.specs.Prelude.{◌==◌, is_some}
use Rattle.std.proofs.lemmas.Bool.{lt-ltb}
use Rattle.std.proofs.lemmas.Bool.Decides.{nat_tests}
use Rattle.cob_tree.specs.declared.entry.Entry.{Entry}
use Rattle.cob_tree.specs.declared.entry.Span.{Span}
use Rattle.cob_tree.specs.declared.picture.Picture.{Picture}
use Rattle.cob_tree.specs.declared.picture.Sign.{Sign}
use Rattle.cob_tree.specs.declared.picture.Sign.TheVariants.{Within, SeparateLeading, SeparateTrailing}
use Rattle.cob_tree.specs.declared.picture.Usage.{Usage}
use Rattle.cob_tree.specs.declared.place.Operand.{Operand}
use Rattle.cob_tree.specs.declared.program.Program.{Program}
use Rattle.cobol_grammar.specs.declared.data_forms.draft.Clause.{Clause}
use Rattle.cobol_grammar.specs.declared.data_forms.draft.EntryDraft.{EntryDraft}
use Rattle.cobol_grammar.specs.declared.data_forms.draft.SpanDraft.{SpanDraft}
use Rattle.symbol_tables.specs.data_names.Names.{is_group}
use Rattle.picture_data.specs.Reading.{picture_of as picture_of_text}
use Rattle.declaration_checks.specs.declared.clause.ClauseKind.TheVariants as kinds
use Rattle.declaration_checks.specs.Base.{level_of, base_by, base_of, condition_of, item_of, picture_if, picture_in, sign_in, occurs_in, spans_in, span_of, value_of}
use Rattle.declaration_checks.specs.Clause.{clause_of, is_of}
use Rattle.declaration_checks.specs.Standing.{before, behind, standing_of}
use Rattle.cobol_print.specs.units.Picture.{picture_text}
use Rattle.round_trip.specs.declarations.printed_pictures.Writable.{IsWritable}
use Rattle.round_trip.proofs.declarations_lemmas.printed_pictures_lemmas.Pictures.{pictures_read_back}
use Rattle.round_trip.proofs.declarations_lemmas.printed_pictures_lemmas.Lengths.{picture-short}
use Rattle.round_trip.specs.spelling.data_spelling.Printable.{IfAny}
use Rattle.round_trip.specs.spelling.data_spelling.Drafts.{IsRedefines, IsPicture, IsUsage, IsSign, IsSpans, IsOccurs, IsValue, IsRanges, AreClauses, IsDraft}
use Rattle.round_trip.specs.declarations.printed_declarations.Rules.{marked, base, bases, PictureSuits, Repeats, IsFilled, ItemKeeps, ConditionKeeps, KindKeeps, is_level}
use Rattle.round_trip.proofs.declarations_lemmas.printed_declarations_lemmas.Numbers.{count-is, level-is}
use Rattle.round_trip.proofs.declarations_lemmas.printed_declarations_lemmas.Lookup.{first_in, parts-of, redefines-found, picture-found, sign-found, occurs-found, value-found, any-found}

-- ---- each part of the clauses

pub marked-is : (program : Program) (o : Option ℕ) (list : List Clause) → IsRedefines program o list → (if is_some (first_in list) then Some 0 else None) ≡ marked o
marked-is program None list h = ap (λ list. if is_some (first_in list) then Some 0 else None) h
marked-is program (Some number) list h = ap (λ list. if is_some (first_in list) then Some 0 else None) h.2

pub picture-is : (o : Option Picture) (list : List Clause) → IfAny IsWritable o → IsPicture o list → picture_in (first_in list) ≡ o
picture-is None list w h = ap (λ list. picture_in (first_in list)) h
picture-is (Some picture) list w h =
    ap (λ list. picture_in (first_in list)) h.2
    ∙ ap (λ b. if b then picture_if (picture_of_text (picture_text picture)) else None) (lt-ltb (length (picture_text picture)) (2 ^ 31) (picture-short picture w))
    ∙ ap picture_if (pictures_read_back picture w)

sign-is : (sign : Sign) (list : List Clause) → IsSign sign list → sign_in (first_in list) ≡ sign
sign-is Within list h = ap (λ list. sign_in (first_in list)) h
sign-is SeparateLeading list h = ap (λ list. sign_in (first_in list)) h.1
sign-is SeparateTrailing list h = ap (λ list. sign_in (first_in list)) h.1

abbrev IsCount : ℕ → Type 0
IsCount count = (1 ≤ count) × (count ≤ 65535)

occurs-is : (o : Option ℕ) (list : List Clause) → IfAny IsCount o → IsOccurs o list → occurs_in (first_in list) ≡ o
occurs-is None list c h = ap (λ list. occurs_in (first_in list)) h
occurs-is (Some count) list c h = ap (λ list. occurs_in (first_in list)) h.2 ∙ ap (λ n. Some n) (count-is count c.0 c.1)

-- the first of these
abbrev first_value : List Span → Option Operand
first_value [] = None
first_value (span ∷ spans) = Some span.from

value-first : (drafts : List SpanDraft) → value_of drafts ≡ first_value (map span_of drafts)
value-first [] = refl
value-first (draft ∷ drafts) = refl

value-is : (o : Option Operand) (list : List Clause) → IsValue o list → value_of (spans_in (first_in list)) ≡ o
value-is None list h = ap (λ list. value_of (spans_in (first_in list))) h
value-is (Some value) list h = ap (λ list. value_of (spans_in (first_in list))) h.3 ∙ value-first h.1 ∙ ap first_value h.2

-- ---- an entry of these parts

abbrev made : ℕ → Option (List ℕ) → Option ℕ → Option ℕ → Option Picture → Sign → Usage → Option ℕ → Option Operand → List Span → Entry
made level name file redefines picture sign usage occurs value ranges = record {
  level = level;
  name = name;
  file = file;
  redefines = redefines;
  picture = picture;
  sign = sign;
  usage = usage;
  occurs = occurs;
  value = value;
  ranges = ranges;
}

pub same-entry : {l m : ℕ} {n o : Option (List ℕ)} {f g : Option ℕ} {r s : Option ℕ} {p q : Option Picture} {a b : Sign} {t u : Usage} {c d : Option ℕ} {v w : Option Operand} {x y : List Span} →
    l ≡ m → n ≡ o → f ≡ g → r ≡ s → p ≡ q → a ≡ b → t ≡ u → c ≡ d → v ≡ w → x ≡ y → made l n f r p a t c v x ≡ made m o g s q b u d w y
same-entry {l = l} {m = m} {n = n} {o = o} {f = f} {g = g} {r = r} {s = s} {p = p} {q = q} {a = a} {b = b} {t = t} {u = u} {c = c} {d = d} {v = v} {w = w} {x = x} {y = y} h1 h2 h3 h4 h5 h6 h7 h8 h9 h10 =
    ap (λ l. made l n f r p a t c v x) h1 ∙ ap (λ n. made m n f r p a t c v x) h2 ∙ ap (λ f. made m o f r p a t c v x) h3 ∙ ap (λ r. made m o g r p a t c v x) h4
    ∙ ap (λ p. made m o g s p a t c v x) h5 ∙ ap (λ a. made m o g s q a t c v x) h6 ∙ ap (λ t. made m o g s q b t c v x) h7 ∙ ap (λ c. made m o g s q b u c v x) h8
    ∙ ap (λ v. made m o g s q b u d v x) h9 ∙ ap (λ x. made m o g s q b u d w x) h10

-- ---- a level 88

ranges-spans : (spans : List Span) (list : List Clause) → IsFilled spans → IsRanges spans list → IsSpans spans list
ranges-spans [] list f h = absurd f
ranges-spans (span ∷ spans) list f h = h

-- it has the clause of its values alone
pub condition-spans : (program : Program) (at : ℕ) (entry : Entry) (list : List Clause) → ConditionKeeps program at entry → AreClauses program entry list → IsSpans entry.ranges list
condition-spans program at entry list K h =
    let p = h.3 in
    let u = p.3 in
    let s = u.3 in
    let o = s.3 in
    let v = o.3 in
    let no_redefines : h.0 ≡ [] = subst (λ x. IsRedefines program x h.0) K.no_redefines h.2 in
    let no_picture : p.0 ≡ [] = subst (λ x. IsPicture x p.0) K.no_picture p.2 in
    let no_usage : u.0 ≡ [] = subst (λ x. IsUsage x u.0) K.no_usage u.2 in
    let no_sign : s.0 ≡ [] = subst (λ x. IsSign x s.0) K.no_sign s.2 in
    let no_occurs : o.0 ≡ [] = subst (λ x. IsOccurs x o.0) K.no_occurs o.2 in
    let no_value : v.0 ≡ [] = subst (λ x. IsValue x v.0) K.no_value v.2 in
    let is : list ≡ v.1 =
    h.4 ∙ ap (λ front. front ++ h.1) no_redefines ∙ p.4 ∙ ap (λ front. front ++ p.1) no_picture ∙ u.4 ∙ ap (λ front. front ++ u.1) no_usage ∙ s.4 ∙ ap (λ front. front ++ s.1) no_sign
    ∙ o.4 ∙ ap (λ front. front ++ o.1) no_occurs ∙ v.4 ∙ ap (λ front. front ++ v.1) no_value in
    ranges-spans entry.ranges list K.filled (subst (IsRanges entry.ranges) (sym is) v.3)

-- ---- a picture that suits can be written

pub writable : (group : Bool) (o : Option Picture) → PictureSuits group o → IfAny IsWritable o
writable true o e = subst (IfAny IsWritable) (sym e) tt
writable false None e = absurd e
writable false (Some picture) w = w

counts : (level dims : ℕ) (o : Option ℕ) → IfAny (Repeats level dims) o → IfAny IsCount o
counts level dims None h = tt
counts level dims (Some count) h = (h.1, h.2)

-- ---- what it says by itself

item-base : (program : Program) (at : ℕ) (entry : Entry) (draft : EntryDraft) → ItemKeeps program at entry → IsDraft program entry draft → item_of draft entry.level entry.file ≡ base entry
item-base program at entry draft K D =
    let P = parts-of program entry draft.clauses D.clauses K.no_ranges in
    same-entry refl D.name refl
    (ap (λ b. if b then Some 0 else None) (any-found (is_of kinds.Redefines) draft.clauses) ∙ ap (λ o. if is_some o then Some 0 else None) (redefines-found P)
    ∙ marked-is program entry.redefines P.redefines P.is_redefines)
    (ap picture_in (picture-found P) ∙ picture-is entry.picture P.picture (writable (is_group (base entry) (behind (bases program) at)) entry.picture K.pictured) P.is_picture)
    (ap sign_in (sign-found P) ∙ sign-is entry.sign P.sign P.is_sign)
    refl
    (ap occurs_in (occurs-found P) ∙ occurs-is entry.occurs P.occurs (counts entry.level (standing_of (base entry) (before (bases program) at)).dims entry.occurs K.repeated) P.is_occurs)
    (ap (λ o. value_of (spans_in o)) (value-found P) ∙ value-is entry.value P.value P.is_value)
    (sym K.no_ranges)

condition-base : (program : Program) (at : ℕ) (entry : Entry) (draft : EntryDraft) → 88 ≡ entry.level → ConditionKeeps program at entry → IsDraft program entry draft → condition_of draft entry.file ≡ base entry
condition-base program at entry draft e K D =
    let S = condition-spans program at entry draft.clauses K D.clauses in
    same-entry e D.name refl (sym (ap marked K.no_redefines)) (sym K.no_picture) (sym K.no_sign) refl (sym K.no_occurs) (sym K.no_value)
    (ap (λ list. map span_of (spans_in (clause_of kinds.Value list))) S.3 ∙ S.2)

is-88 : (level : ℕ) → (level == 88) ≡ true → 88 ≡ level
is-88 level e = grind (arith, nat_tests)

pub base-is : (program : Program) (at : ℕ) (entry : Entry) (draft : EntryDraft) → is_level entry.level ≡ true → KindKeeps (entry.level == 88) program at entry → IsDraft program entry draft →
    base_of entry.file draft ≡ base entry
base-is program at entry draft level K D =
    ap (λ digits. base_by draft (level_of digits) entry.file) D.level ∙ ap (λ n. base_by draft n entry.file) (level-is entry.level level) ∙ go (entry.level == 88) refl K
  where
    go : (b : Bool) → (entry.level == 88) ≡ b → KindKeeps b program at entry → (if b then condition_of draft entry.file else item_of draft entry.level entry.file) ≡ base entry
    go true e K = condition-base program at entry draft (is-88 entry.level e) K D
    go false e K = item-base program at entry draft K D
