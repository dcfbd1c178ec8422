-- Places added, one after the other.
use Rattle.std.proofs.Common.{◌≡◌, ◌==◌, ◌+◌, ◌<◌, ◌≤◌, ℕ, zero, suc, Bool, true, false, if◌then◌else◌, List, [], ◌∷◌, ◌++◌, map, length, Option, Some, None, option_map, slice_get, refl, ap, sym, ◌∙◌, subst, ◌⊎◌, inl, inr, arith, eqb-true, eq-eqb, length-append, set, IfOk, Result, Ok, Err, take, get_or, add-one}
use Rattle.std.proofs.lemmas.List.{map-append}
use Rattle.std.proofs.lemmas.Option.{slice_get-get_or}
use Rattle.cob_tree.specs.declared.program.Range.{Range}
use Rattle.control_flow_theory.specs.language.Language.{Chooser, Stmts, none, also, Stmt, Program}
use Rattle.control_flow_theory.specs.language.Items.{Item, Do, before, past_sentence, from_loop}
use Rattle.program_points.specs.paths.Step.{Point, at, Next, next}
use Rattle.program_points.specs.paths.Step as lang
use Rattle.program_points.specs.paths.Flow.{part}
use Rattle.program_points.specs.declared.point_table.table.ProgramPoint.{ProgramPoint}
use Rattle.program_points.specs.declared.point_table.table.ProgramPoint.TheVariants.{Goes, Chooses, Calls, Stops, Ends}
use Rattle.program_points.specs.point_table.Table.{Describes, AllBelow}
use Rattle.program_points.specs.declared.numbering.build.Exits.{Exits}
use Rattle.program_points.specs.numbering.Build.{part_of, Grown, HasParagraphs, IsAt, IsBehind, Builds, BuildsBranches, after_at}

-- the points, with one more
abbrev pub with_point : (ℕ → Point) → ℕ → Point → ℕ → Point
with_point points number point other = if number == other then point else points other

pub point-here : (points : ℕ → Point) (number : ℕ) (point : Point) → with_point points number point number ≡ point
point-here points number point = ap (λ b. if b then point else points number) (eq-eqb number number refl)

pub point-other : (points : ℕ → Point) (number : ℕ) (point : Point) (other : ℕ) → other < number → with_point points number point other ≡ points other
point-other points number point other lt =
    (elim (number == other) as (λ b. (number == other) ≡ b → (if b then point else points other) ≡ points other) [
      | true ↦ λ e. absurd (let same : number ≡ other = eqb-true number other e in omega arith)
      | false ↦ λ e. refl
    ]) refl

pub get-front : (xs ys : List ProgramPoint) (number : ℕ) → number < length xs → slice_get (xs ++ ys) number ≡ slice_get xs number
get-front [] ys number lt = absurd (omega arith)
get-front (x ∷ xs) ys zero lt = refl
get-front (x ∷ xs) ys (suc number) lt = get-front xs ys number (omega arith)

pub get-last : (xs : List ProgramPoint) (x : ProgramPoint) → slice_get (xs ++ x ∷ []) (length xs) ≡ Some x
get-last [] x = refl
get-last (y ∷ xs) x = get-last xs x

pub below-more : (few most : ℕ) (ways : List (Option ℕ)) → few ≤ most → AllBelow few ways → AllBelow most ways
below-more few most [] le below = tt
below-more few most (None ∷ ways) le below = below-more few most ways le below
below-more few most (Some way ∷ ways) le below = (omega (arith, below.0), below-more few most ways le below.1)

pub same-ways : (most : ℕ) (points later : ℕ → Point) (ways : List (Option ℕ)) → AllBelow most ways → ((number : ℕ) → number < most → later number ≡ points number) →
    map (λ (way : Option ℕ). option_map points way) ways ≡ map (λ (way : Option ℕ). option_map later way) ways
same-ways most points later [] below same = refl
same-ways most points later (None ∷ ways) below same = ap (λ (ws : List (Option Point)). None ∷ ws) (same-ways most points later ways below same)
same-ways most points later (Some way ∷ ways) below same =
    ap (λ (p : Point). Some p ∷ map (λ (w : Option ℕ). option_map points w) ways) (sym (same way below.0)) ∙ ap (λ (ws : List (Option Point)). Some (later way) ∷ ws) (same-ways most points later ways below.1 same)

-- what a place says still holds among more places
pub describes-more : (old new : List ProgramPoint) (old_ranges new_ranges : List Range) (points later : ℕ → Point) (place : ProgramPoint) (now : Next) → length old ≤ length new →
    ((number : ℕ) (range : Range) → slice_get old_ranges number ≡ Some range → slice_get new_ranges number ≡ Some range) → ((number : ℕ) → number < length old → later number ≡ points number) →
    Describes (part_of old old_ranges) points place now → Describes (part_of new new_ranges) later place now
describes-more old new old_ranges new_ranges points later (Goes to) now le ranges same d =
    (d.0 ∙ ap (λ (p : Point). lang.Ways (Some p ∷ [])) (sym (same to d.1)), omega (arith, d.1))
describes-more old new old_ranges new_ranges points later (Chooses ways) now le ranges same d =
    (d.0 ∙ ap (λ (ws : List (Option Point)). lang.Ways ws) (same-ways (length old) points later ways d.1 same), below-more (length old) (length new) ways le d.1)
describes-more old new old_ranges new_ranges points later (Calls number after) now le ranges same d =
    (d.0, d.1, d.2 ∙ ap (λ (p : Point). lang.Calls d.0 d.1 p) (sym (same after d.4)), ranges number (part d.0 d.1) d.3, omega (arith, d.4))
describes-more old new old_ranges new_ranges points later Stops now le ranges same d = d
describes-more old new old_ranges new_ranges points later (Ends paragraph) now le ranges same d = d

module _ (never_first : Chooser → Bool) (program : Program) (home : ℕ) where
  pub grown-none : (old : List ProgramPoint) (ranges : List Range) (points : ℕ → Point) → Grown never_first program home old old ranges ranges points points
  grown-none old ranges points = record {
    longer = omega arith;
    kept = λ number lt. refl;
    ranges = λ number range e. e;
    same = λ number lt. refl;
    described = λ number le lt. absurd (omega arith);
    owned = λ number le lt. absurd (omega arith);
  }

  split-at : (number most : ℕ) → (number < most) ⊎ (most ≤ number)
  split-at zero zero = inr (omega arith)
  split-at zero (suc most) = inl (omega arith)
  split-at (suc number) zero = inr (omega arith)
  split-at (suc number) (suc most) = elim (split-at number most) [ inl lt ↦ inl (omega arith) | inr le ↦ inr (omega arith) ]

  pub grown-then : (old mid new : List ProgramPoint) (r0 r1 r2 : List Range) (points via later : ℕ → Point) → Grown never_first program home old mid r0 r1 points via → Grown never_first program home mid new r1 r2 via later → Grown never_first program home old new r0 r2 points later
  grown-then old mid new r0 r1 r2 points via later first second = record {
    longer = omega (arith, first.longer, second.longer);
    kept = λ number lt. second.kept number (omega (arith, first.longer)) ∙ first.kept number lt;
    ranges = λ number range e. second.ranges number range (first.ranges number range e);
    same = λ number lt. second.same number (omega (arith, first.longer)) ∙ first.same number lt;
    described = λ number le lt.
        elim (split-at number (length mid)) [
          | inl inner ↦
              let d = first.described number le inner in (
                d.0,
                second.kept number inner ∙ d.1,
                subst (λ (p : Point). Describes (part_of new r2) later d.0 (next never_first program p)) (sym (second.same number inner))
                    (describes-more mid new r1 r2 via later d.0 (next never_first program (via number)) second.longer second.ranges second.same d.2),
              )
          | inr outer ↦ second.described number outer lt
        ];
    owned = λ number le lt.
        elim (split-at number (length mid)) [
          | inl inner ↦ ap (λ (p : Point). p.paragraph) (second.same number inner) ∙ first.owned number le inner
          | inr outer ↦ second.owned number outer lt
        ];
  }

  -- one place more
  pub grown-add : (old : List ProgramPoint) (r0 r1 : List Range) (points : ℕ → Point) (place : ProgramPoint) (point : Point) → point.paragraph ≡ home → ((number : ℕ) (range : Range) → slice_get r0 number ≡ Some range → slice_get r1 number ≡ Some range) →
      Describes (part_of old r1) points place (next never_first program point) → Grown never_first program home old (old ++ place ∷ []) r0 r1 points (with_point points (length old) point)
  grown-add old r0 r1 points place point inside ranges d =
      let new = old ++ place ∷ [] in
      let later = with_point points (length old) point in
      let long : length new ≡ length old + 1 = length-append old (place ∷ []) in
      record {
        longer = omega (arith, long);
        kept = λ number lt. get-front old (place ∷ []) number lt;
        ranges = ranges;
        same = λ number lt. point-other points (length old) point number lt;
        described = λ number le lt.
            let here : number ≡ length old = omega (arith, long) in (
              place,
              ap (λ n. slice_get new n) here ∙ get-last old place,
              subst (λ (p : Point). Describes (part_of new r1) later place (next never_first program p)) (sym (ap (λ n. later n) here ∙ point-here points (length old) point))
                  (describes-more old new r1 r1 points later place (next never_first program point) (omega (arith, long)) (λ n r e. e) (λ n l. point-other points (length old) point n l) d),
            );
        owned = λ number le lt.
            let here : number ≡ length old = omega (arith, long) in
            ap (λ (n : ℕ). (later n).paragraph) here ∙ ap (λ (p : Point). p.paragraph) (point-here points (length old) point) ∙ inside;
      }

pub set-here : (places : List ProgramPoint) (at : ℕ) (place : ProgramPoint) → at < length places → slice_get (set places at place) at ≡ Some place
set-here [] at place lt = absurd (omega arith)
set-here (p ∷ places) zero place lt = refl
set-here (p ∷ places) (suc at) place lt = set-here places at place (omega arith)

pub set-other : (places : List ProgramPoint) (at other : ℕ) (place : ProgramPoint) → (other ≡ at → ⊥) → slice_get (set places at place) other ≡ slice_get places other
set-other [] at other place ne = refl
set-other (p ∷ places) zero zero place ne = absurd (ne refl)
set-other (p ∷ places) zero (suc other) place ne = refl
set-other (p ∷ places) (suc at) zero place ne = refl
set-other (p ∷ places) (suc at) (suc other) place ne = set-other places at other place (λ e. ne (ap (λ (n : ℕ). suc n) e))

module _ (never_first : Chooser → Bool) (program : Program) (count number : ℕ) (old new : List ProgramPoint) (r0 r1 : List Range) (points later : ℕ → Point) (grown : Grown never_first program number old new r0 r1 points later) where
  pub still-at : (place : ℕ) (point : Point) → IsAt old points place point → IsAt new later place point
  still-at place point is = (grown.same place is.1 ∙ is.0, omega (arith, is.1, grown.longer))

  pub still-paragraphs : HasParagraphs program count old points → HasParagraphs program count new later
  still-paragraphs has = record {
    starts = λ k less. grown.same k (omega (arith, has.room)) ∙ has.starts k less;
    ends = λ k less. grown.same (count + k) (omega (arith, has.room)) ∙ has.ends k less;
    room = omega (arith, has.room, grown.longer);
  }

  pub still-behind : (rest : List Item) (exits : Exits) → IsBehind program count number old points rest exits → IsBehind program count number new later rest exits
  still-behind rest exits behind = record {
    paragraphs = still-paragraphs behind.paragraphs;
    here = behind.here;
    after = still-at exits.after (at number rest) behind.after;
    leave = still-at exits.leave (at number (past_sentence rest)) behind.leave;
    broken = still-at exits.broken (at number (from_loop false rest)) behind.broken;
    cycled = still-at exits.cycled (at number (from_loop true rest)) behind.cycled;
  }

pub past-before : (stmts : Stmts) (rest : List Item) → past_sentence (before stmts rest) ≡ past_sentence rest
past-before none rest = refl
past-before (also stmt stmts) rest = past-before stmts rest

pub loop-before : (cycle : Bool) (stmts : Stmts) (rest : List Item) → from_loop cycle (before stmts rest) ≡ from_loop cycle rest
loop-before cycle none rest = refl
loop-before cycle (also stmt stmts) rest = loop-before cycle stmts rest

same-at : (places : List ProgramPoint) (points : ℕ → Point) (place number : ℕ) (a b : List Item) → a ≡ b → IsAt places points place (at number b) → IsAt places points place (at number a)
same-at places points place number a b e is = subst (λ r. IsAt places points place (at number r)) (sym e) is

pub before-behind : (program : Program) (count number : ℕ) (places : List ProgramPoint) (points : ℕ → Point) (stmts : Stmts) (rest : List Item) (exits : Exits) (place : ℕ) → IsBehind program count number places points rest exits → IsAt places points place (at number (before stmts rest)) →
    IsBehind program count number places points (before stmts rest) (after_at exits place)
before-behind program count number places points stmts rest exits place behind is = record {
  paragraphs = behind.paragraphs;
  here = behind.here;
  after = is;
  leave = same-at places points exits.leave number (past_sentence (before stmts rest)) (past_sentence rest) (past-before stmts rest) behind.leave;
  broken = same-at places points exits.broken number (from_loop false (before stmts rest)) (from_loop false rest) (loop-before false stmts rest) behind.broken;
  cycled = same-at places points exits.cycled number (from_loop true (before stmts rest)) (from_loop true rest) (loop-before true stmts rest) behind.cycled;
}

pub below-append : (most : ℕ) (ways more : List (Option ℕ)) → AllBelow most ways → AllBelow most more → AllBelow most (ways ++ more)
below-append most [] more below others = others
below-append most (None ∷ ways) more below others = below-append most ways more below others
below-append most (Some way ∷ ways) more below others = (below.0, below-append most ways more below.1 others)

pub take-at : {A : Type 0} → (xs : List A) (index : ℕ) (x : A) → slice_get xs index ≡ Some x → take (suc index) xs ≡ take index xs ++ x ∷ []
take-at [] index x e = absurd (let k : ⊥ = cc in k)
take-at (y ∷ ys) zero x e = (let k : y ≡ x = cc in ap (λ z. z ∷ []) k)
take-at (y ∷ ys) (suc index) x e = ap (λ zs. y ∷ zs) (take-at ys index x e)

pub take-all : {A : Type 0} → (xs : List A) (index : ℕ) → length xs ≤ index → take index xs ≡ xs
take-all [] zero le = refl
take-all [] (suc index) le = refl
take-all (x ∷ xs) zero le = absurd (omega arith)
take-all (x ∷ xs) (suc index) le = ap (λ ys. x ∷ ys) (take-all xs index (omega arith))

pub names-taken : (names : List ℕ) (index : ℕ) → index < length names → map (λ (n : ℕ). Some n) (take (index + 1) names) ≡ map (λ (n : ℕ). Some n) (take index names) ++ Some (get_or names index 0) ∷ []
names-taken names index lt =
    ap (λ n. map (λ (k : ℕ). Some k) (take n names)) (add-one index)
    ∙ ap (λ (xs : List ℕ). map (λ (k : ℕ). Some k) xs) (take-at names index (get_or names index 0) (slice_get-get_or names index 0 lt))
    ∙ map-append (λ (k : ℕ). Some k) (take index names) (get_or names index 0 ∷ [])

pub names-all : (names : List ℕ) (index : ℕ) → length names ≤ index → map (λ (n : ℕ). Some n) (take index names) ≡ map (λ (n : ℕ). Some n) names
names-all names index le = ap (λ (xs : List ℕ). map (λ (k : ℕ). Some k) xs) (take-all names index le)

pub one-below : (most : ℕ) (ways : List (Option ℕ)) (way : ℕ) → AllBelow most ways → way < most → AllBelow most (ways ++ Some way ∷ [])
one-below most ways way below lt = below-append most ways (Some way ∷ []) below (lt, tt)

-- what a call leaves that added one place
pub if-added : {E : Type 0} → (r : Result ℕ E) (mid new : List ProgramPoint) (place : ProgramPoint) (r1 r2 : List Range) (P : List ProgramPoint → List Range → ℕ → Type 0) → P (mid ++ place ∷ []) r1 (length mid) → r2 ≡ r1 →
    IfOk r (λ n. (n ≡ length mid) × (new ≡ mid ++ place ∷ [])) → IfOk r (λ n. P new r2 n)
if-added (Ok n) mid new place r1 r2 P base e h =
    subst (λ (k : ℕ). P new r2 k) (sym h.0) (subst (λ (rs : List Range). P new rs (length mid)) (sym e) (subst (λ (ps : List ProgramPoint). P ps r1 (length mid)) (sym h.1) base))
if-added (Err error) mid new place r1 r2 P base e h = h

pub if-ok : {A E : Type 0} → (r : Result A E) (P Q : A → Type 0) → ((x : A) → P x → Q x) → IfOk r P → IfOk r Q
if-ok (Ok x) P Q f h = f x h
if-ok (Err e) P Q f h = h

module _ (never_first : Chooser → Bool) (count number : ℕ) where
  abbrev pub Built : List ProgramPoint → List ProgramPoint → List Range → List Range → Stmts → Exits → ℕ → Type 0
  Built old new r0 r1 stmts exits begin = Builds never_first count number old new r0 r1 stmts exits begin

  abbrev pub Branched : List ProgramPoint → List ProgramPoint → List Range → List Range → List Stmts → Exits → List (Option ℕ) → Type 0
  Branched old new r0 r1 branches exits ways = BuildsBranches never_first count number old new r0 r1 branches exits ways

  pub build-none : (old : List ProgramPoint) (ranges : List Range) (exits : Exits) → Built old old ranges ranges none exits exits.after
  build-none old ranges exits = λ program points rest behind. (points, grown-none never_first program number old ranges points, behind.after)

  -- a statement in front of others
  pub build-also : (old mid new : List ProgramPoint) (r0 r1 r2 : List Range) (stmt : Stmt) (more : Stmts) (exits : Exits) (later begin : ℕ) → Built old mid r0 r1 more exits later → Built mid new r1 r2 (also stmt none) (after_at exits later) begin →
      Built old new r0 r2 (also stmt more) exits begin
  build-also old mid new r0 r1 r2 stmt more exits later begin behind_it first = λ program points rest behind.
      let b = behind_it program points rest behind in
      let still = still-behind never_first program count number old mid r0 r1 points b.0 b.1 rest exits behind in
      let f = first program b.0 (before more rest) (before-behind program count number mid b.0 more rest exits later still b.2) in
      (f.0, grown-then never_first program number old mid new r0 r1 r2 points b.0 f.0 b.1 f.1, f.2)

  -- one statement that takes one place
  pub one-place : (old : List ProgramPoint) (r0 r1 : List Range) (place : ProgramPoint) (stmt : Stmt) (exits : Exits) → ((n : ℕ) (range : Range) → slice_get r0 n ≡ Some range → slice_get r1 n ≡ Some range) →
      ((program : Program) (points : ℕ → Point) (rest : List Item) → IsBehind program count number old points rest exits → Describes (part_of old r1) points place (next never_first program (at number (Do stmt ∷ rest)))) →
      Built old (old ++ place ∷ []) r0 r1 (also stmt none) exits (length old)
  one-place old r0 r1 place stmt exits kept describes = λ program points rest behind.
      let point = at number (Do stmt ∷ rest) in (
        with_point points (length old) point,
        grown-add never_first program number old r0 r1 points place point refl kept (describes program points rest behind),
        (point-here points (length old) point, omega (arith, length-append old (place ∷ []))),
      )

  -- one that goes one way, to a place
  pub build-goes : (old : List ProgramPoint) (ranges : List Range) (stmt : Stmt) (exits : Exits) (to : ℕ) (where_to : Program → List Item → Point) →
      ((program : Program) (points : ℕ → Point) (rest : List Item) → IsBehind program count number old points rest exits →
      (next never_first program (at number (Do stmt ∷ rest)) ≡ lang.Ways (Some (where_to program rest) ∷ [])) × IsAt old points to (where_to program rest)) →
      Built old (old ++ Goes to ∷ []) ranges ranges (also stmt none) exits (length old)
  build-goes old ranges stmt exits to where_to says = one-place old ranges ranges (Goes to) stmt exits (λ n r e. e)
      (λ program points rest behind.
      let s = says program points rest behind in
      (s.0 ∙ ap (λ (p : Point). lang.Ways (Some p ∷ [])) (sym s.1.0), s.1.1))

  -- the same, whatever the call that left it says
  pub moved : (old new other : List ProgramPoint) (r0 r1 r2 : List Range) (s t : Stmts) (exits : Exits) (begin same : ℕ) → other ≡ new → r2 ≡ r1 → same ≡ begin → s ≡ t → Built old new r0 r1 t exits begin → Built old other r0 r2 s exits same
  moved old new other r0 r1 r2 s t exits begin same a b c e builds =
      subst (λ (x : Stmts). Built old other r0 r2 x exits same) (sym e)
      (subst (λ (n : ℕ). Built old other r0 r2 t exits n) (sym c)
      (subst (λ (rs : List Range). Built old other r0 rs t exits begin) (sym b)
      (subst (λ (ps : List ProgramPoint). Built old ps r0 r1 t exits begin) (sym a) builds)))

  -- branches

  pub branches-none : (old : List ProgramPoint) (ranges : List Range) (exits : Exits) → Branched old old ranges ranges [] exits []
  branches-none old ranges exits = λ program points rest behind. (points, grown-none never_first program number old ranges points, refl, tt)

  pub branches-more : (old mid new : List ProgramPoint) (r0 r1 r2 : List Range) (branches : List Stmts) (stmts : Stmts) (exits : Exits) (begin : ℕ) (ways : List (Option ℕ)) → Branched old mid r0 r1 branches exits ways →
      Built mid new r1 r2 stmts exits begin → Branched old new r0 r2 (branches ++ stmts ∷ []) exits (ways ++ Some begin ∷ [])
  branches-more old mid new r0 r1 r2 branches stmts exits begin ways built builds = λ program points rest behind.
      let a = built program points rest behind in
      let b = builds program a.0 rest (still-behind never_first program count number old mid r0 r1 points a.0 a.1 rest exits behind) in
      let told = same-ways (length mid) a.0 b.0 ways a.3 b.1.same in (
        b.0,
        grown-then never_first program number old mid new r0 r1 r2 points a.0 b.0 a.1 b.1,
        map-append (λ (ss : Stmts). Some (at number (before ss rest))) branches (stmts ∷ []) ∙ ap (λ (ws : List (Option Point)). ws ++ Some (at number (before stmts rest)) ∷ []) (a.2 ∙ told)
            ∙ ap (λ (p : Point). map (λ (way : Option ℕ). option_map b.0 way) ways ++ Some p ∷ []) (sym b.2.0) ∙ sym (map-append (λ (way : Option ℕ). option_map b.0 way) ways (Some begin ∷ [])),
        below-append (length new) ways (Some begin ∷ []) (below-more (length mid) (length new) ways b.1.longer a.3) (b.2.1, tt),
      )
