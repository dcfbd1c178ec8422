-- What each name of a program's own paragraphs stands for in the table that these tell.
use Rattle.std.proofs.Common.{◌≡◌, ℕ, zero, suc, ◌+◌, ◌-◌, Bool, ◌⊎◌, inl, inr, List, [], ◌∷◌, ◌++◌, length, Option, Some, None, slice_get, unwrap_or, refl, ap, sym, ◌∙◌, subst, append_assoc, arith}
use Rattle.std.proofs.lemmas.List.{length-append}
use Rattle.cob_tree.specs.declared.program.Paragraph.{Paragraph}
use Rattle.cob_tree.specs.declared.program.Program.{Program}
use Rattle.cob_tree.specs.declared.program.Sentence.{Sentence}
use Rattle.symbol_tables.specs.declared.procedure_names.table.Header.{Header}
use Rattle.symbol_tables.specs.declared.procedure_names.table.ProcedureTable.{ProcedureTable}
use Rattle.symbol_tables.specs.procedure_names.Procedures.{header_of, range_of}
use Rattle.round_trip.specs.spelling.stmt_spelling.Division.{is_bare_by}
use Rattle.round_trip.specs.procedures.Names.{AreDifferent}
use Rattle.round_trip.specs.procedures.Outline.{MayFollow, is_bare, AreHeaded, MayBegin, AreOutlined}
use Rattle.round_trip.specs.procedures.Told.{behind_section}
use Rattle.round_trip.proofs.procedures_lemmas.Finding.{Head, names_in, headers_in, finds, Among}
use Rattle.round_trip.proofs.procedures_lemmas.Heads.{section_heads, name_heads, heads_of, starts_of, starts, units_count, heads}

-- ---- where the section ends before which a list stands

abbrev ends_by : Option (List ℕ) → (here later : ℕ) → ℕ
ends_by None here later = later
ends_by (Some section) here later = here

abbrev pub ends : List Paragraph → (number : ℕ) → ℕ
ends [] number = number
ends (paragraph ∷ paragraphs) number = ends_by paragraph.section number (ends paragraphs (number + 1))

ends-told : (list : List Paragraph) (number : ℕ) → unwrap_or (slice_get (starts list number) 0) (number + length list) ≡ ends list number
ends-told [] number = let none : number + 0 ≡ number = omega arith in none
ends-told (p ∷ list) number =
    let count : number + length (p ∷ list) ≡ (number + 1) + length list = omega arith in
    go p.section (ap (unwrap_or (slice_get (starts list (number + 1)) 0)) count ∙ ends-told list (number + 1))
  where
    go : (o : Option (List ℕ)) → unwrap_or (slice_get (starts list (number + 1)) 0) (number + length (p ∷ list)) ≡ ends list (number + 1) →
        unwrap_or (slice_get (starts_of o number ++ starts list (number + 1)) 0) (number + length (p ∷ list)) ≡ ends_by o number (ends list (number + 1))
    go None e = e
    go (Some section) e = refl

-- a paragraph of the list that has a name, and its number
pub record NamedAt (list : List Paragraph) (number at : ℕ) : Type 0 where
  pub place : ℕ
  pub paragraph : Paragraph
  pub there : slice_get list place ≡ Some paragraph
  pub name : List ℕ
  pub named : paragraph.name ≡ Some name
  pub number_is : number + place ≡ at

-- what stands last before the end is named, unless nothing stands before it
last-named : (list : List Paragraph) (bare : Bool) → AreHeaded bare list → (number : ℕ) → (ends list number ≡ number) ⊎ NamedAt list number (ends list number - 1)
last-named [] bare a number = inl refl
last-named (p ∷ list) bare a number = go p.name p.section refl refl a.0 (last-named list (is_bare p) a.1 (number + 1))
  where
    go : (name section : Option (List ℕ)) → p.name ≡ name → p.section ≡ section → MayFollow bare name section →
        (ends list (number + 1) ≡ number + 1) ⊎ NamedAt list (number + 1) (ends list (number + 1) - 1) →
        (ends (p ∷ list) number ≡ number) ⊎ NamedAt (p ∷ list) number (ends (p ∷ list) number - 1)
    go None None n s f k = absurd f
    go (Some name) (Some section) n s f k = inl (ap (λ o. ends_by o number (ends list (number + 1))) s)
    go None (Some section) n s f k = inl (ap (λ o. ends_by o number (ends list (number + 1))) s)
    go (Some name) None n s f (inl e) =
        let same : ends (p ∷ list) number ≡ ends list (number + 1) = ap (λ o. ends_by o number (ends list (number + 1))) s in
        let at : number + 0 ≡ ends (p ∷ list) number - 1 = omega (arith, same, e) in
        inr (record { place = 0; paragraph = p; there = refl; name = name; named = n; number_is = at })
    go (Some name) None n s f (inr k) =
        let same : ends (p ∷ list) number ≡ ends list (number + 1) = ap (λ o. ends_by o number (ends list (number + 1))) s in
        let at : number + suc k.place ≡ ends (p ∷ list) number - 1 = omega (arith, same, k.number_is) in
        inr (record { place = suc k.place; paragraph = k.paragraph; there = k.there; name = k.name; named = k.named; number_is = at })

-- each paragraph behind the first has a header
abbrev pub Behind : List Paragraph → Type 0
Behind [] = Unit {0}
Behind (p ∷ list) = AreHeaded (is_bare p) list

first-behind : (name section : Option (List ℕ)) (sentences : List Sentence) (list : List Paragraph) →
    MayBegin name section (record { name = name; section = section; sentences = sentences }) list → AreHeaded (is_bare_by name section sentences) list
first-behind None None sentences list f = f.1
first-behind (Some name) None sentences list f = f.1
first-behind None (Some section) sentences list f = f.1
first-behind (Some name) (Some section) sentences list f = f.1

pub outlined-behind : (list : List Paragraph) → AreOutlined list → Behind list
outlined-behind [] o = tt
outlined-behind (p ∷ list) o = first-behind p.name p.section p.sentences list o

-- ---- the headers of one paragraph

get-behind : {A : Type 0} (front : List A) (x : A) (back : List A) → slice_get (front ++ x ∷ back) (length front + 1) ≡ slice_get back 0
get-behind {A = A} [] x back = at-one (x ∷ back) refl
  where
    at-one : (list : List A) → list ≡ x ∷ back → slice_get list (0 + 1) ≡ slice_get back 0
    at-one list e = ap (λ l. slice_get l 1) e
get-behind (y ∷ front) x back =
    let count : length (y ∷ front) + 1 ≡ suc (length front + 1) = omega arith in
    ap (slice_get (y ∷ (front ++ x ∷ back))) count ∙ get-behind front x back

-- a table whose headers, sections and paragraphs from here on are those of the list
pub record Rows (program : Program) (table : ProcedureTable) (front : List Head) (sections : List ℕ) (number index : ℕ) (list : List Paragraph) : Type 0 where
  pub names : table.names ≡ names_in (front ++ heads program list number index (length sections))
  pub headers : table.headers ≡ headers_in (front ++ heads program list number index (length sections))
  pub starts : table.starts ≡ sections ++ starts list number
  pub count : table.count ≡ number + length list

module _ (program : Program) (table : ProcedureTable) (different : AreDifferent table.names) where
  pub rows-next : (front : List Head) (sections : List ℕ) (number index : ℕ) (p : Paragraph) (list : List Paragraph) → Rows program table front sections number index (p ∷ list) →
      Rows program table (front ++ heads_of p.name p.section number index (length sections)) (sections ++ starts_of p.section number) (number + 1) (index + units_count program p) list
  rows-next front sections number index p list R =
      let here = heads_of p.name p.section number index (length sections) in
      let began = starts_of p.section number in
      let i = index + units_count program p in
      let same : front ++ (here ++ heads program list (number + 1) i (length sections + length began)) ≡ (front ++ here) ++ heads program list (number + 1) i (length (sections ++ began)) =
      sym (append_assoc front here (heads program list (number + 1) i (length sections + length began))) ∙ ap (λ k. (front ++ here) ++ heads program list (number + 1) i k) (sym (length-append sections began)) in
      let count : number + length (p ∷ list) ≡ (number + 1) + length list = omega arith in
      record {
        names = R.names ∙ ap names_in same;
        headers = R.headers ∙ ap headers_in same;
        starts = R.starts ∙ sym (append_assoc sections began (starts list (number + 1)));
        count = R.count ∙ count;
      }

  -- the name of the paragraph, behind that of its section
  name-finds : (front : List Head) (section : Option (List ℕ)) (name : List ℕ) (number index sections : ℕ) (back : List Head) →
      table.names ≡ names_in (front ++ (heads_of (Some name) section number index sections ++ back)) → table.headers ≡ headers_in (front ++ (heads_of (Some name) section number index sections ++ back)) →
      header_of table name ≡ Some (record { first = number; section = None; index = behind_section section index })
  name-finds front None name number index sections back n h = finds table front name (record { first = number; section = None; index = index }) back n h different
  name-finds front (Some section) name number index sections back n h =
      let first : Head = (section, record { first = number; section = Some sections; index = index }) in
      let second : Head = (name, record { first = number; section = None; index = index + 3 }) in
      let same : front ++ (first ∷ (second ∷ back)) ≡ (front ++ first ∷ []) ++ second ∷ back = sym (append_assoc front (first ∷ []) (second ∷ back)) in
      finds table (front ++ first ∷ []) name (record { first = number; section = None; index = index + 3 }) back (n ∙ ap names_in same) (h ∙ ap headers_in same) different

  section-finds : (front : List Head) (section : List ℕ) (name : Option (List ℕ)) (number index sections : ℕ) (back : List Head) →
      table.names ≡ names_in (front ++ (heads_of name (Some section) number index sections ++ back)) → table.headers ≡ headers_in (front ++ (heads_of name (Some section) number index sections ++ back)) →
      header_of table section ≡ Some (record { first = number; section = Some sections; index = index })
  section-finds front section name number index sections back n h =
      finds table front section (record { first = number; section = Some sections; index = index }) (name_heads name number (index + 3) ++ back) n h different

  module _ (front : List Head) (sections : List ℕ) (number index : ℕ) (p : Paragraph) (list : List Paragraph) (R : Rows program table front sections number index (p ∷ list)) where
    abbrev back : List Head
    back = heads program list (number + 1) (index + units_count program p) (length sections + length (starts_of p.section number))

    pub name-found : (name : List ℕ) → p.name ≡ Some name → header_of table name ≡ Some (record { first = number; section = None; index = behind_section p.section index })
    name-found name e =
        name-finds front p.section name number index (length sections) back
        (R.names ∙ ap (λ o. names_in (front ++ (heads_of o p.section number index (length sections) ++ back))) e)
        (R.headers ∙ ap (λ o. headers_in (front ++ (heads_of o p.section number index (length sections) ++ back))) e)

    pub section-found : (section : List ℕ) → p.section ≡ Some section → header_of table section ≡ Some (record { first = number; section = Some (length sections); index = index })
    section-found section e =
        section-finds front section p.name number index (length sections) back
        (R.names ∙ ap (λ o. names_in (front ++ (heads_of p.name o number index (length sections) ++ back))) e)
        (R.headers ∙ ap (λ o. headers_in (front ++ (heads_of p.name o number index (length sections) ++ back))) e)

    section-last : (section : List ℕ) → p.section ≡ Some section → unwrap_or (slice_get table.starts (length sections + 1)) table.count - 1 ≡ ends list (number + 1) - 1
    section-last section e =
        let count : number + length (p ∷ list) ≡ (number + 1) + length list = omega arith in
        ap (λ n. n - 1)
        (ap (λ l. unwrap_or (slice_get l (length sections + 1)) table.count) (R.starts ∙ ap (λ o. sections ++ (starts_of o number ++ starts list (number + 1))) e)
        ∙ (ap (λ n. unwrap_or (slice_get (sections ++ number ∷ starts list (number + 1)) (length sections + 1)) n) (R.count ∙ count)
        ∙ (ap (λ o. unwrap_or o ((number + 1) + length list)) (get-behind sections number (starts list (number + 1))) ∙ ends-told list (number + 1))))

    -- what each of its names stands for
    pub name-range : (name : List ℕ) → p.name ≡ Some name → range_of table (header_of table name) ≡ Some (number, number)
    name-range name e = ap (λ o. range_of table o) (name-found name e)

    pub section-range : (section : List ℕ) → p.section ≡ Some section → range_of table (header_of table section) ≡ Some (number, ends list (number + 1) - 1)
    section-range section e = ap (λ o. range_of table o) (section-found section e) ∙ ap (λ last. Some (number, last)) (section-last section e)

  -- ---- a paragraph by its place

  -- what its names stand for; the last paragraph of a section is its first one or has a name
  pub record Spot (list : List Paragraph) (number at : ℕ) (p : Paragraph) : Type 0 where
    pub named : (name : List ℕ) → p.name ≡ Some name → range_of table (header_of table name) ≡ Some (at, at)
    pub last : ℕ
    pub headed : (section : List ℕ) → p.section ≡ Some section → range_of table (header_of table section) ≡ Some (at, last)
    pub last_named : (last ≡ at) ⊎ NamedAt list number last

  first-spot : (front : List Head) (sections : List ℕ) (number index : ℕ) (p : Paragraph) (list : List Paragraph) → Rows program table front sections number index (p ∷ list) → AreHeaded (is_bare p) list →
      Spot (p ∷ list) number (number + 0) p
  first-spot front sections number index p list R a =
      let none : number ≡ number + 0 = omega arith in
      record {
        named = λ name e. name-range front sections number index p list R name e ∙ ap (λ n. Some (n, n)) none;
        last = ends list (number + 1) - 1;
        headed = λ section e. section-range front sections number index p list R section e ∙ ap (λ n. Some (n, ends list (number + 1) - 1)) none;
        last_named = go (last-named list (is_bare p) a (number + 1));
      }
    where
      go : (ends list (number + 1) ≡ number + 1) ⊎ NamedAt list (number + 1) (ends list (number + 1) - 1) → (ends list (number + 1) - 1 ≡ number + 0) ⊎ NamedAt (p ∷ list) number (ends list (number + 1) - 1)
      go (inl e) = inl (omega (arith, e))
      go (inr k) =
          let at : number + suc k.place ≡ ends list (number + 1) - 1 = omega (arith, k.number_is) in
          inr (record { place = suc k.place; paragraph = k.paragraph; there = k.there; name = k.name; named = k.named; number_is = at })

  spot-behind : (q : Paragraph) (list : List Paragraph) (number at : ℕ) (p : Paragraph) → Spot list (number + 1) ((number + 1) + at) p → Spot (q ∷ list) number (number + suc at) p
  spot-behind q list number at p S =
      let same : (number + 1) + at ≡ number + suc at = omega arith in
      record {
        named = λ name e. S.named name e ∙ ap (λ n. Some (n, n)) same;
        last = S.last;
        headed = λ section e. S.headed section e ∙ ap (λ n. Some (n, S.last)) same;
        last_named = go S.last_named;
      }
    where
      go : (S.last ≡ (number + 1) + at) ⊎ NamedAt list (number + 1) S.last → (S.last ≡ number + suc at) ⊎ NamedAt (q ∷ list) number S.last
      go (inl e) = inl (omega (arith, e))
      go (inr k) =
          let at : number + suc k.place ≡ S.last = omega (arith, k.number_is) in
          inr (record { place = suc k.place; paragraph = k.paragraph; there = k.there; name = k.name; named = k.named; number_is = at })

  behind-next : (p : Paragraph) (list : List Paragraph) → Behind (p ∷ list) → Behind list
  behind-next p [] a = tt
  behind-next p (q ∷ list) a = a.1

  some-is : {A : Type 0} {x y : A} → Some x ≡ Some y → x ≡ y
  some-is e = cc

  pub spot-at : (list : List Paragraph) (front : List Head) (sections : List ℕ) (number index : ℕ) → Rows program table front sections number index list → Behind list →
      (at : ℕ) (p : Paragraph) → slice_get list at ≡ Some p → Spot list number (number + at) p
  spot-at [] front sections number index R a at p e = absurd cc
  spot-at (q ∷ list) front sections number index R a zero p e = subst (Spot (q ∷ list) number (number + 0)) (some-is e) (first-spot front sections number index q list R a)
  spot-at (q ∷ list) front sections number index R a (suc at) p e =
      spot-behind q list number at p
      (spot-at list (front ++ heads_of q.name q.section number index (length sections)) (sections ++ starts_of q.section number) (number + 1) (index + units_count program q)
      (rows-next front sections number index q list R) (behind-next q list a) at p e)

  -- ---- the paragraph of a header

  pub record HeadAt (list : List Paragraph) (number : ℕ) (name : List ℕ) (header : Header) : Type 0 where
    pub place : ℕ
    pub paragraph : Paragraph
    pub there : slice_get list place ≡ Some paragraph
    pub first : header.first ≡ number + place
    pub has : (paragraph.name ≡ Some name) ⊎ (paragraph.section ≡ Some name)

  among-both : {A : Type 0} (x : A) (xs ys : List A) → Among x (xs ++ ys) → Among x xs ⊎ Among x ys
  among-both x [] ys h = inr h
  among-both x (y ∷ xs) ys (inl e) = inl (inl e)
  among-both {A = A} x (y ∷ xs) ys (inr h) = go (among-both x xs ys h)
    where
      go : Among x xs ⊎ Among x ys → Among x (y ∷ xs) ⊎ Among x ys
      go (inl k) = inl (inr k)
      go (inr k) = inr k

  among-section : (section : Option (List ℕ)) (number index sections : ℕ) (name : List ℕ) (header : Header) → Among (name, header) (section_heads section number index sections) → (section ≡ Some name) × (header.first ≡ number)
  among-section None number index sections name header h = absurd h
  among-section (Some section) number index sections name header (inl e) = (ap (λ (head : Head). Some head.0) e, ap (λ (head : Head). head.1.first) (sym e))
  among-section (Some section) number index sections name header (inr h) = absurd h

  among-name : (name : Option (List ℕ)) (number index : ℕ) (word : List ℕ) (header : Header) → Among (word, header) (name_heads name number index) → (name ≡ Some word) × (header.first ≡ number)
  among-name None number index word header h = absurd h
  among-name (Some name) number index word header (inl e) = (ap (λ (head : Head). Some head.0) e, ap (λ (head : Head). head.1.first) (sym e))
  among-name (Some name) number index word header (inr h) = absurd h

  pub head-at : (list : List Paragraph) (number index sections : ℕ) (name : List ℕ) (header : Header) → Among (name, header) (heads program list number index sections) → HeadAt list number name header
  head-at [] number index sections name header h = absurd h
  head-at (p ∷ list) number index sections name header h =
      go (λ k. head-at list (number + 1) (index + units_count program p) (sections + length (starts_of p.section number)) name header k)
      (among-both (name, header) (heads_of p.name p.section number index sections) (heads program list (number + 1) (index + units_count program p) (sections + length (starts_of p.section number))) h)
    where
      Later : Type 0
      Later = Among (name, header) (heads program list (number + 1) (index + units_count program p) (sections + length (starts_of p.section number)))

      none : number ≡ number + 0
      none = omega arith

      here : Among (name, header) (section_heads p.section number index sections) ⊎ Among (name, header) (name_heads p.name number (behind_section p.section index)) → HeadAt (p ∷ list) number name header
      here (inl k) = let s = among-section p.section number index sections name header k in record { place = 0; paragraph = p; there = refl; first = s.1 ∙ none; has = inr s.0 }
      here (inr k) = let s = among-name p.name number (behind_section p.section index) name header k in record { place = 0; paragraph = p; there = refl; first = s.1 ∙ none; has = inl s.0 }

      go : (Later → HeadAt list (number + 1) name header) → Among (name, header) (heads_of p.name p.section number index sections) ⊎ Later → HeadAt (p ∷ list) number name header
      go later (inl k) = here (among-both (name, header) (section_heads p.section number index sections) (name_heads p.name number (behind_section p.section index)) k)
      go later (inr k) =
          let s = later k in
          let same : header.first ≡ number + suc s.place = omega (arith, s.first) in
          record { place = suc s.place; paragraph = s.paragraph; there = s.there; first = same; has = s.has }
