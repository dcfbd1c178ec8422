-- Where a name stands first in a list, and which header it finds.
use Rattle.std.proofs.Common.{◌≡◌, ℕ, zero, suc, ◌+◌, ◌<◌, Bool, true, false, ◌||◌, ◌⊎◌, inl, inr, cond, not, if◌then◌else◌, List, [], ◌∷◌, ◌++◌, map, length, get_or, Option, Some, None, slice_get, refl, ap, sym, ◌∙◌, subst, arith, nat_lt, lt-ltb}
use Rattle.std.specs.Prelude.{position}
use Rattle.std.specs.List.{list_any, prefix_len}
use Rattle.std.specs.Str.{bytes_eq}
use Rattle.std.proofs.lemmas.Bool.Decides.{nat_tests}
use Rattle.std.proofs.lemmas.Slice.Eq.{bytes_eq-Decides}
use Rattle.std.proofs.lemmas.List.{length-append, map-append, length-map}
use Rattle.std.proofs.lemmas.List.Quantifiers.{position-Some}
use Rattle.symbol_tables.specs.declared.procedure_names.table.Header.{Header}
use Rattle.symbol_tables.specs.declared.procedure_names.table.ProcedureTable.{ProcedureTable}
use Rattle.symbol_tables.specs.procedure_names.Procedures as procedures
use Rattle.symbol_tables.specs.procedure_names.Procedures.{header_at, header_of, with_name}
use Rattle.round_trip.specs.procedures.Names.{AreDifferent}

-- a name with its header
abbrev pub Head : Type 0
Head = List ℕ × Header

abbrev pub name_of : Head → List ℕ
name_of head = head.0

abbrev pub header_in : Head → Header
header_in head = head.1

abbrev pub names_in : List Head → List (List ℕ)
names_in heads = map name_of heads

abbrev pub headers_in : List Head → List Header
headers_in heads = map header_in heads

-- ---- the first place

prefix-at : {A : Type 0} (test : A → Bool) (before : List A) (x : A) (rest : List A) → list_any test before ≡ false → test x ≡ true →
    prefix_len (λ y. not (test y)) (before ++ x ∷ rest) ≡ length before
prefix-at test [] x rest none here = ap (λ b. cond (not b) (1 + prefix_len (λ y. not (test y)) rest) 0) here
prefix-at {A = A} test (y ∷ before) x rest none here = go (test y) none (prefix-at test before x rest)
  where
    go : (b : Bool) → (b || list_any test before) ≡ false → (list_any test before ≡ false → test x ≡ true → prefix_len (λ y. not (test y)) (before ++ x ∷ rest) ≡ length before) →
        cond (not b) (1 + prefix_len (λ y. not (test y)) (before ++ x ∷ rest)) 0 ≡ length (y ∷ before)
    go true none again = absurd cc
    go false none again = let is = again none here in omega (arith, is)

prefix-none : {A : Type 0} (test : A → Bool) (list : List A) → list_any test list ≡ false → prefix_len (λ y. not (test y)) list ≡ length list
prefix-none test [] none = refl
prefix-none {A = A} test (y ∷ list) none = go (test y) none (prefix-none test list)
  where
    go : (b : Bool) → (b || list_any test list) ≡ false → (list_any test list ≡ false → prefix_len (λ y. not (test y)) list ≡ length list) →
        cond (not b) (1 + prefix_len (λ y. not (test y)) list) 0 ≡ length (y ∷ list)
    go true none again = absurd cc
    go false none again = let is = again none in omega (arith, is)

place-by : (n m k : ℕ) → n ≡ k → k < m → cond (nat_lt n m) (Some n) None ≡ Some k
place-by n m k e less = let inside : n < m = omega (arith, e, less) in ap (λ b. cond b (Some n) None) (lt-ltb n m inside) ∙ ap Some e

none-by : (n m : ℕ) → n ≡ m → cond (nat_lt n m) (Some n) None ≡ None
none-by n m e = ap (λ k. cond (nat_lt k m) (Some k) None) e ∙ ap (λ b. cond b (Some m) None) (self m)
  where
    self : (m : ℕ) → nat_lt m m ≡ false
    self m = grind (arith, nat_tests)

pub found-at : {A : Type 0} (test : A → Bool) (before : List A) (x : A) (rest : List A) → list_any test before ≡ false → test x ≡ true → position test (before ++ x ∷ rest) ≡ Some (length before)
found-at test before x rest none here =
    let inside : length before < length (before ++ x ∷ rest) = omega (arith, length-append before (x ∷ rest)) in
    place-by (prefix_len (λ y. not (test y)) (before ++ x ∷ rest)) (length (before ++ x ∷ rest)) (length before) (prefix-at test before x rest none here) inside

pub found-none : {A : Type 0} (test : A → Bool) (list : List A) → list_any test list ≡ false → position test list ≡ None
found-none test list none = none-by (prefix_len (λ y. not (test y)) list) (length list) (prefix-none test list none)

-- the first that passes, and those before it
pub record Split {A : Type 0} (test : A → Bool) (list : List A) : Type 0 where
  pub before : List A
  pub one : A
  pub behind : List A
  pub parts : list ≡ before ++ one ∷ behind
  pub none : list_any test before ≡ false
  pub passes : test one ≡ true

pub split-first : {A : Type 0} (test : A → Bool) (list : List A) → list_any test list ≡ true → Split test list
split-first test [] e = absurd cc
split-first {A = A} test (x ∷ list) e = go (test x) refl e (split-first test list)
  where
    go : (b : Bool) → test x ≡ b → (b || list_any test list) ≡ true → (list_any test list ≡ true → Split test list) → Split test (x ∷ list)
    go true is e more = record { before = []; one = x; behind = list; parts = refl; none = refl; passes = is }
    go false is e more =
        let s = more e in
        record { before = x ∷ s.before; one = s.one; behind = s.behind; parts = ap (λ l. x ∷ l) s.parts; none = ap (λ b. b || list_any test s.before) is ∙ s.none; passes = s.passes }

-- ---- names that are different

same-name : (name : List ℕ) → bytes_eq name name ≡ true
same-name name = (bytes_eq-Decides name name).1 refl

true-false : {C : Type 0} {b : Bool} → b ≡ true → b ≡ false → C
true-false e f = absurd cc

apart : (one other : List ℕ) (b : Bool) → bytes_eq one other ≡ b → bytes_eq other one ≡ false → b ≡ false
apart one other false e f = refl
apart one other true e f = true-false (subst (λ w. bytes_eq w one ≡ true) ((bytes_eq-Decides one other).0 e) (same-name one)) f

or-none : (a b : Bool) → a ≡ false → b ≡ false → (a || b) ≡ false
or-none false b e f = f
or-none true b e f = absurd cc

neither : (a b : Bool) → (a || b) ≡ false → (a ≡ false) × (b ≡ false)
neither false b e = (refl, e)
neither true b e = absurd cc

any-append : {A : Type 0} (test : A → Bool) (xs : List A) (y : A) (ys : List A) → list_any test (xs ++ y ∷ ys) ≡ false → (list_any test xs ≡ false) × (test y ≡ false) × (list_any test ys ≡ false)
any-append test [] y ys e = let n = neither (test y) (list_any test ys) e in (refl, n.0, n.1)
any-append test (x ∷ xs) y ys e =
    let n = neither (test x) (list_any test (xs ++ y ∷ ys)) e in
    let m = any-append test xs y ys n.1 in
    (or-none (test x) (list_any test xs) n.0 m.0, m.1, m.2)

-- none of those before it has the name
pub new-name : (before : List (List ℕ)) (name : List ℕ) (behind : List (List ℕ)) → AreDifferent (before ++ name ∷ behind) → list_any (bytes_eq name) before ≡ false
new-name [] name behind d = refl
new-name (other ∷ before) name behind d =
    or-none (bytes_eq name other) (list_any (bytes_eq name) before)
    (apart name other (bytes_eq name other) refl (any-append (bytes_eq other) before name behind d.0).1) (new-name before name behind d.1)

-- one more
pub different-more : (names : List (List ℕ)) (name : List ℕ) → AreDifferent names → list_any (bytes_eq name) names ≡ false → AreDifferent (names ++ name ∷ [])
different-more [] name d new = (refl, tt)
different-more (other ∷ names) name d new =
    let n = neither (bytes_eq name other) (list_any (bytes_eq name) names) new in
    (one-behind (bytes_eq other) names name d.0 (apart other name (bytes_eq other name) refl n.0), different-more names name d.1 n.1)
  where
    one-behind : (test : List ℕ → Bool) (xs : List (List ℕ)) (y : List ℕ) → list_any test xs ≡ false → test y ≡ false → list_any test (xs ++ y ∷ []) ≡ false
    one-behind test [] y e f = or-none (test y) false f refl
    one-behind test (x ∷ xs) y e f = let n = neither (test x) (list_any test xs) e in or-none (test x) (list_any test (xs ++ y ∷ [])) n.0 (one-behind test xs y n.1 f)

-- a name that none has yet
pub with-new : (name : List ℕ) (header : Header) (table : ProcedureTable) → list_any (bytes_eq name) table.names ≡ false →
    with_name name header table ≡ record table { names = table.names ++ name ∷ []; headers = table.headers ++ header ∷ [] }
with-new name header table new =
    ap (λ o. procedures.named_by o name header table) (found-none (bytes_eq name) table.names new)
    ∙ ap (λ (b : Bool). record table { names = if b then table.names else table.names ++ name ∷ []; headers = table.headers ++ header ∷ [] }) new

-- ---- the header that a name finds

at-end : {A : Type 0} (xs : List A) (x : A) (ys : List A) → slice_get (xs ++ x ∷ ys) (length xs) ≡ Some x
at-end [] x ys = refl
at-end (y ∷ xs) x ys = at-end xs x ys

module _ (table : ProcedureTable) where
  pub finds : (front : List Head) (name : List ℕ) (header : Header) (back : List Head) → table.names ≡ names_in (front ++ (name, header) ∷ back) → table.headers ≡ headers_in (front ++ (name, header) ∷ back) →
      AreDifferent table.names → header_of table name ≡ Some header
  finds front name header back n h d =
      let names : table.names ≡ names_in front ++ name ∷ names_in back = n ∙ map-append name_of front ((name, header) ∷ back) in
      let headers : table.headers ≡ headers_in front ++ header ∷ headers_in back = h ∙ map-append header_in front ((name, header) ∷ back) in
      let first = new-name (names_in front) name (names_in back) (subst AreDifferent names d) in
      let count : length (names_in front) ≡ length (headers_in front) = length-map front name_of ∙ sym (length-map front header_in) in
      ap (λ list. header_at (position (bytes_eq name) list) table) names
      ∙ (ap (λ o. header_at o table) (found-at (bytes_eq name) (names_in front) name (names_in back) first (same-name name))
      ∙ (ap (λ list. slice_get list (length (names_in front))) headers
      ∙ (ap (λ k. slice_get (headers_in front ++ header ∷ headers_in back) k) count ∙ at-end (headers_in front) header (headers_in back))))

-- one of these
abbrev pub Among : {A : Type 0} → A → List A → Type 0
Among x [] = ⊥
Among x (y ∷ ys) = (y ≡ x) ⊎ Among x ys

some-is : {A : Type 0} {x y : A} → Some x ≡ Some y → x ≡ y
some-is e = cc

pair-is : (head : Head) (name : List ℕ) (header : Header) → name_of head ≡ name → header_in head ≡ header → head ≡ (name, header)
pair-is head name header e f = ap (λ n. (n, header_in head)) e ∙ ap (λ h. (name, h)) f

among-at : (heads : List Head) (k : ℕ) (name : List ℕ) (header : Header) → bytes_eq name (get_or (names_in heads) k []) ≡ true → k < length (names_in heads) → slice_get (headers_in heads) k ≡ Some header → Among (name, header) heads
among-at [] k name header e less f = absurd cc
among-at (head ∷ heads) zero name header e less f = inl (pair-is head name header (sym ((bytes_eq-Decides name (name_of head)).0 e)) (some-is f))
among-at (head ∷ heads) (suc k) name header e less f = inr (among-at heads k name header e (omega (arith, less)) f)

pub among-found : (table : ProcedureTable) (heads : List Head) (name : List ℕ) (header : Header) → table.names ≡ names_in heads → table.headers ≡ headers_in heads → header_of table name ≡ Some header → Among (name, header) heads
among-found table heads name header n h e = go (position (bytes_eq name) table.names) refl e
  where
    go : (o : Option ℕ) → position (bytes_eq name) table.names ≡ o → header_at o table ≡ Some header → Among (name, header) heads
    go None is e = absurd cc
    go (Some k) is e =
        let there = position-Some (bytes_eq name) (names_in heads) k [] (ap (position (bytes_eq name)) (sym n) ∙ is) in
        among-at heads k name header there.1 there.0 (ap (λ list. slice_get list k) (sym h) ∙ e)
