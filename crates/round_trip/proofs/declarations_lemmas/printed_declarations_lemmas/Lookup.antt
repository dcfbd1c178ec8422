-- Clauses of a printed entry by their kind: each kind has its own part of them.
use Rattle.std.proofs.Common.{◌≡◌, ℕ, ◌<◌, ◌≤◌, ◌⊎◌, inl, inr, Bool, true, false, not, cond, ◌||◌, if◌then◌else◌, List, [], ◌∷◌, ◌++◌, Option, Some, None, refl, ap, sym, ◌∙◌, subst, append-nil, arith}
use Rattle.std.specs.Prelude.{◌==◌, is_some}
use Rattle.std.specs.List.{find, list_any}
use Rattle.std.proofs.lemmas.Bool.Decides.{nat_tests}
use Rattle.cob_tree.specs.declared.entry.Entry.{Entry}
use Rattle.cob_tree.specs.declared.entry.Span.{Span}
use Rattle.cob_tree.specs.declared.picture.Picture.{Picture}
use Rattle.cob_tree.specs.declared.picture.Sign.{Sign}
use Rattle.cob_tree.specs.declared.picture.Sign.TheVariants.{Within, SeparateLeading, SeparateTrailing}
use Rattle.cob_tree.specs.declared.picture.Usage.{Usage as ItemUsage}
use Rattle.cob_tree.specs.declared.picture.Usage.TheVariants.{Display, Binary, Packed}
use Rattle.cob_tree.specs.declared.place.Operand.{Operand}
use Rattle.cob_tree.specs.declared.program.Program.{Program}
use Rattle.cobol_grammar.specs.declared.data_forms.draft.Clause.{Clause}
use Rattle.parser_combinators.specs.declared.note.NameKind.TheVariants.{Usage}
use Rattle.declaration_checks.specs.declared.clause.ClauseKind.{ClauseKind}
use Rattle.declaration_checks.specs.declared.clause.ClauseKind.TheVariants as kinds
use Rattle.declaration_checks.specs.Clause.{kind_of, kind_number, is_of, clause_of, again_from, duplicate_fault, position_of}
use Rattle.declaration_checks.specs.Fault.{fault_at}
use Rattle.round_trip.specs.spelling.data_spelling.Drafts.{IsRedefines, IsPicture, IsUsage, IsSign, IsSpans, alone, IsOccurs, IsValue, IsRanges, AreClauses}

-- ---- a part is one clause of a kind, or none

abbrev pub Only : ClauseKind → List Clause → Type 0
Only kind list = (list ≡ []) ⊎ ((clause : Clause) × (list ≡ clause ∷ []) × (kind_number (kind_of clause) ≡ kind_number kind))

abbrev pub first_in : List Clause → Option Clause
first_in [] = None
first_in (clause ∷ list) = Some clause

of-kind : (kind : ClauseKind) (clause : Clause) (list : List Clause) → list ≡ clause ∷ [] → kind_number (kind_of clause) ≡ kind_number kind → Only kind list
of-kind kind clause list e k = inr (clause, e, k)

pub redefines-only : (program : Program) (o : Option ℕ) (list : List Clause) → IsRedefines program o list → Only kinds.Redefines list
redefines-only program None list h = inl h
redefines-only program (Some number) list h = of-kind kinds.Redefines _ list h.2 refl

pub picture-only : (o : Option Picture) (list : List Clause) → IsPicture o list → Only kinds.Picture list
picture-only None list h = inl h
picture-only (Some picture) list h = of-kind kinds.Picture _ list h.2 refl

pub usage-only : (usage : ItemUsage) (list : List Clause) → IsUsage usage list → Only kinds.Usage list
usage-only Display list h = inl h
usage-only Binary list h = of-kind kinds.Usage _ list h.1 refl
usage-only Packed list h = of-kind kinds.Usage _ list h.1 refl

pub sign-only : (sign : Sign) (list : List Clause) → IsSign sign list → Only kinds.Sign list
sign-only Within list h = inl h
sign-only SeparateLeading list h = of-kind kinds.Sign _ list h.1 refl
sign-only SeparateTrailing list h = of-kind kinds.Sign _ list h.1 refl

pub occurs-only : (o : Option ℕ) (list : List Clause) → IsOccurs o list → Only kinds.Occurs list
occurs-only None list h = inl h
occurs-only (Some count) list h = of-kind kinds.Occurs _ list h.2 refl

spans-only : (spans : List Span) (list : List Clause) → IsSpans spans list → Only kinds.Value list
spans-only spans list h = of-kind kinds.Value _ list h.3 refl

pub value-only : (o : Option Operand) (list : List Clause) → IsValue o list → Only kinds.Value list
value-only None list h = inl h
value-only (Some value) list h = spans-only (alone value ∷ []) list h

pub ranges-only : (spans : List Span) (list : List Clause) → IsRanges spans list → Only kinds.Value list
ranges-only [] list h = inl h
ranges-only (span ∷ spans) list h = spans-only (span ∷ spans) list h

-- ---- a clause of a kind

abbrev differ : ClauseKind → ClauseKind → Bool
differ one other = not (kind_number one == kind_number other)

other-kind : (a b : ℕ) → not (a == b) ≡ true → (a == b) ≡ false
other-kind a b e = go (a == b) e
  where
    go : (v : Bool) → not v ≡ true → v ≡ false
    go true e = absurd cc
    go false e = refl

same-number : (a : ℕ) → (a == a) ≡ true
same-number a = grind (arith, nat_tests)

-- a part of another kind has none
pub skipped : (kind other : ClauseKind) (front back : List Clause) → Only other front → differ other kind ≡ true → clause_of kind (front ++ back) ≡ clause_of kind back
skipped kind other front back (inl e) d = ap (λ list. clause_of kind (list ++ back)) e
skipped kind other front back (inr h) d =
    ap (λ list. clause_of kind (list ++ back)) h.1
    ∙ ap (λ n. cond (n == kind_number kind) (Some h.0) (clause_of kind back)) h.2
    ∙ ap (λ b. cond b (Some h.0) (clause_of kind back)) (other-kind (kind_number other) (kind_number kind) d)

pub found : (kind : ClauseKind) (front back : List Clause) → Only kind front → clause_of kind back ≡ None → clause_of kind (front ++ back) ≡ first_in front
found kind front back (inl e) none = ap (λ list. clause_of kind (list ++ back)) e ∙ none ∙ sym (ap first_in e)
found kind front back (inr h) none =
    ap (λ list. clause_of kind (list ++ back)) h.1
    ∙ ap (λ n. cond (n == kind_number kind) (Some h.0) (clause_of kind back)) h.2
    ∙ ap (λ b. cond b (Some h.0) (clause_of kind back)) (same-number (kind_number kind)) ∙ sym (ap first_in h.1)

pub last-skipped : (kind other : ClauseKind) (list : List Clause) → Only other list → differ other kind ≡ true → clause_of kind list ≡ None
last-skipped kind other list only d = ap (clause_of kind) (sym (append-nil list)) ∙ skipped kind other list [] only d

pub last-found : (kind : ClauseKind) (list : List Clause) → Only kind list → clause_of kind list ≡ first_in list
last-found kind list only = ap (clause_of kind) (sym (append-nil list)) ∙ found kind list [] only refl

pub any-found : (test : Clause → Bool) (list : List Clause) → list_any test list ≡ is_some (find test list)
any-found test [] = refl
any-found test (clause ∷ list) = go (test clause) (any-found test list)
  where
    go : (b : Bool) → list_any test list ≡ is_some (find test list) → (b || list_any test list) ≡ is_some (cond b (Some clause) (find test list))
    go true again = refl
    go false again = again

-- ---- all parts

-- the parts of the clauses of an item
pub record Parts (program : Program) (entry : Entry) (list : List Clause) : Type 0 where
  pub redefines : List Clause
  pub picture : List Clause
  pub usage : List Clause
  pub sign : List Clause
  pub occurs : List Clause
  pub value : List Clause
  pub is_redefines : IsRedefines program entry.redefines redefines
  pub is_picture : IsPicture entry.picture picture
  pub is_usage : IsUsage entry.usage usage
  pub is_sign : IsSign entry.sign sign
  pub is_occurs : IsOccurs entry.occurs occurs
  pub is_value : IsValue entry.value value
  pub is : list ≡ redefines ++ (picture ++ (usage ++ (sign ++ (occurs ++ value))))

pub parts-of : (program : Program) (entry : Entry) (list : List Clause) → AreClauses program entry list → entry.ranges ≡ [] → Parts program entry list
parts-of program entry list h none =
    let p = h.3 in
    let u = p.3 in
    let s = u.3 in
    let o = s.3 in
    let v = o.3 in
    let last : v.1 ≡ [] = subst (λ spans. IsRanges spans v.1) none v.3 in
    record {
      redefines = h.0;
      picture = p.0;
      usage = u.0;
      sign = s.0;
      occurs = o.0;
      value = v.0;
      is_redefines = h.2;
      is_picture = p.2;
      is_usage = u.2;
      is_sign = s.2;
      is_occurs = o.2;
      is_value = v.2;
      is = h.4
          ∙ ap (λ list. h.0 ++ list) (p.4 ∙ ap (λ list. p.0 ++ list) (u.4 ∙ ap (λ list. u.0 ++ list) (s.4 ∙ ap (λ list. s.0 ++ list) (o.4 ∙ ap (λ list. o.0 ++ list) (v.4 ∙ ap (λ list. v.0 ++ list) last ∙ append-nil v.0)))));
    }

module _ {program : Program} {entry : Entry} {list : List Clause} (P : Parts program entry list) where
  abbrev pub redefines_only : Only kinds.Redefines P.redefines
  redefines_only = redefines-only program entry.redefines P.redefines P.is_redefines

  abbrev pub picture_only : Only kinds.Picture P.picture
  picture_only = picture-only entry.picture P.picture P.is_picture

  abbrev pub usage_only : Only kinds.Usage P.usage
  usage_only = usage-only entry.usage P.usage P.is_usage

  abbrev pub sign_only : Only kinds.Sign P.sign
  sign_only = sign-only entry.sign P.sign P.is_sign

  abbrev pub occurs_only : Only kinds.Occurs P.occurs
  occurs_only = occurs-only entry.occurs P.occurs P.is_occurs

  abbrev pub value_only : Only kinds.Value P.value
  value_only = value-only entry.value P.value P.is_value

  -- the parts behind one
  abbrev pub behind_sign : List Clause
  behind_sign = P.occurs ++ P.value

  abbrev pub behind_usage : List Clause
  behind_usage = P.sign ++ behind_sign

  abbrev pub behind_picture : List Clause
  behind_picture = P.usage ++ behind_usage

  abbrev pub behind_redefines : List Clause
  behind_redefines = P.picture ++ behind_picture

  pub redefines-found : clause_of kinds.Redefines list ≡ first_in P.redefines
  redefines-found =
      ap (clause_of kinds.Redefines) P.is
      ∙ found kinds.Redefines P.redefines behind_redefines redefines_only
      (skipped kinds.Redefines kinds.Picture P.picture behind_picture picture_only refl
      ∙ skipped kinds.Redefines kinds.Usage P.usage behind_usage usage_only refl
      ∙ skipped kinds.Redefines kinds.Sign P.sign behind_sign sign_only refl
      ∙ skipped kinds.Redefines kinds.Occurs P.occurs P.value occurs_only refl
      ∙ last-skipped kinds.Redefines kinds.Value P.value value_only refl)

  pub picture-found : clause_of kinds.Picture list ≡ first_in P.picture
  picture-found =
      ap (clause_of kinds.Picture) P.is
      ∙ skipped kinds.Picture kinds.Redefines P.redefines behind_redefines redefines_only refl
      ∙ found kinds.Picture P.picture behind_picture picture_only
      (skipped kinds.Picture kinds.Usage P.usage behind_usage usage_only refl
      ∙ skipped kinds.Picture kinds.Sign P.sign behind_sign sign_only refl
      ∙ skipped kinds.Picture kinds.Occurs P.occurs P.value occurs_only refl
      ∙ last-skipped kinds.Picture kinds.Value P.value value_only refl)

  pub usage-found : clause_of kinds.Usage list ≡ first_in P.usage
  usage-found =
      ap (clause_of kinds.Usage) P.is
      ∙ skipped kinds.Usage kinds.Redefines P.redefines behind_redefines redefines_only refl
      ∙ skipped kinds.Usage kinds.Picture P.picture behind_picture picture_only refl
      ∙ found kinds.Usage P.usage behind_usage usage_only
      (skipped kinds.Usage kinds.Sign P.sign behind_sign sign_only refl
      ∙ skipped kinds.Usage kinds.Occurs P.occurs P.value occurs_only refl
      ∙ last-skipped kinds.Usage kinds.Value P.value value_only refl)

  pub sign-found : clause_of kinds.Sign list ≡ first_in P.sign
  sign-found =
      ap (clause_of kinds.Sign) P.is
      ∙ skipped kinds.Sign kinds.Redefines P.redefines behind_redefines redefines_only refl
      ∙ skipped kinds.Sign kinds.Picture P.picture behind_picture picture_only refl
      ∙ skipped kinds.Sign kinds.Usage P.usage behind_usage usage_only refl
      ∙ found kinds.Sign P.sign behind_sign sign_only
      (skipped kinds.Sign kinds.Occurs P.occurs P.value occurs_only refl ∙ last-skipped kinds.Sign kinds.Value P.value value_only refl)

  pub occurs-found : clause_of kinds.Occurs list ≡ first_in P.occurs
  occurs-found =
      ap (clause_of kinds.Occurs) P.is
      ∙ skipped kinds.Occurs kinds.Redefines P.redefines behind_redefines redefines_only refl
      ∙ skipped kinds.Occurs kinds.Picture P.picture behind_picture picture_only refl
      ∙ skipped kinds.Occurs kinds.Usage P.usage behind_usage usage_only refl
      ∙ skipped kinds.Occurs kinds.Sign P.sign behind_sign sign_only refl
      ∙ found kinds.Occurs P.occurs P.value occurs_only (last-skipped kinds.Occurs kinds.Value P.value value_only refl)

  pub value-found : clause_of kinds.Value list ≡ first_in P.value
  value-found =
      ap (clause_of kinds.Value) P.is
      ∙ skipped kinds.Value kinds.Redefines P.redefines behind_redefines redefines_only refl
      ∙ skipped kinds.Value kinds.Picture P.picture behind_picture picture_only refl
      ∙ skipped kinds.Value kinds.Usage P.usage behind_usage usage_only refl
      ∙ skipped kinds.Value kinds.Sign P.sign behind_sign sign_only refl
      ∙ skipped kinds.Value kinds.Occurs P.occurs P.value occurs_only refl
      ∙ last-found kinds.Value P.value value_only

-- ---- no kind twice

-- each of these is of an earlier kind than that
abbrev Earlier : ℕ → List Clause → Type 0
Earlier number [] = Unit {0}
Earlier number (clause ∷ list) = (kind_number (kind_of clause) < number) × Earlier number list

earlier-more : (number more : ℕ) (list : List Clause) → number ≤ more → Earlier number list → Earlier more list
earlier-more number more [] h e = tt
earlier-more number more (clause ∷ list) h e = (omega (arith, h, e.0), earlier-more number more list h e.1)

earlier-last : (number : ℕ) (list : List Clause) (clause : Clause) → Earlier number list → kind_number (kind_of clause) < number → Earlier number (list ++ clause ∷ [])
earlier-last number [] clause e h = (h, tt)
earlier-last number (first ∷ list) clause e h = (e.0, earlier-last number list clause e.1 h)

none-alike : (kind : ClauseKind) (list : List Clause) → Earlier (kind_number kind) list → list_any (is_of kind) list ≡ false
none-alike kind [] e = refl
none-alike kind (clause ∷ list) e = ap (λ b. b || list_any (is_of kind) list) (apart (kind_number (kind_of clause)) (kind_number kind) e.0) ∙ none-alike kind list e.1
  where
    apart : (a b : ℕ) → a < b → (a == b) ≡ false
    apart a b h = grind (arith, nat_tests)

-- a part of a later kind, and then the rest
again-part : (kind : ClauseKind) (next : ℕ) (before front back : List Clause) → Only kind front → kind_number kind < next → Earlier (kind_number kind) before →
    ((behind : List Clause) → Earlier next behind → again_from behind back ≡ None) → again_from before (front ++ back) ≡ None
again-part kind next before front back (inl e) h earlier rest =
    ap (λ list. again_from before (list ++ back)) e ∙ rest before (earlier-more (kind_number kind) next before (omega (arith, h)) earlier)
again-part kind next before front back (inr c) h earlier rest =
    ap (λ list. again_from before (list ++ back)) c.1
    ∙ ap (λ b. if b then fault_at Usage (position_of c.0) else again_from (before ++ c.0 ∷ []) back) (none-alike (kind_of c.0) before (subst (λ n. Earlier n before) (sym c.2) earlier))
    ∙ rest (before ++ c.0 ∷ []) (earlier-last next before c.0 (earlier-more (kind_number kind) next before (omega (arith, h)) earlier) (subst (λ n. n < next) (sym c.2) h))

pub none-again : {program : Program} {entry : Entry} {list : List Clause} → Parts program entry list → duplicate_fault list ≡ None
none-again P =
    ap duplicate_fault P.is
    ∙ again-part kinds.Redefines 1 [] P.redefines (behind_redefines P) (redefines_only P) (omega arith) tt
    (λ a e. again-part kinds.Picture 2 a P.picture (behind_picture P) (picture_only P) (omega arith) e
    (λ b f. again-part kinds.Usage 3 b P.usage (behind_usage P) (usage_only P) (omega arith) f
    (λ c g. again-part kinds.Sign 4 c P.sign (behind_sign P) (sign_only P) (omega arith) g
    (λ d h. again-part kinds.Occurs 5 d P.occurs P.value (occurs_only P) (omega arith) h
    (λ i j. ap (again_from i) (sym (append-nil P.value)) ∙ again-part kinds.Value 6 i P.value [] (value_only P) (omega arith) j (λ k l. refl))))))
