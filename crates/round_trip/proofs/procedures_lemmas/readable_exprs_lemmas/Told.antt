-- What is told of sides, and how many terms they have up to their end; which windows have room.
use Rattle.std.proofs.Common.{◌≡◌, ℕ, ◌+◌, ◌≤◌, ◌<◌, Bool, true, false, List, [], map, Option, Some, None, refl, ap, sym, ◌∙◌, subst, arith}
use Rattle.std.specs.Prelude.{codes}
use Rattle.std.proofs.lemmas.Bool.{both_ways}
use Rattle.cob_tree.specs.declared.place.Expr.{Expr}
use Rattle.cob_tree.specs.declared.place.Op.{Op}
use Rattle.cob_tree.specs.declared.place.Operand.{Operand}
use Rattle.cob_tree.specs.declared.place.Operand.TheVariants as operands
use Rattle.cob_tree.specs.declared.place.Place.{Place, out-Place, out-roll-Place}
use Rattle.cob_tree.specs.declared.place.Sub.{Sub}
use Rattle.cob_tree.specs.declared.place.Window.{Window, out-Window, out-roll-Window}
use Rattle.cob_tree.specs.declared.program.Program.{Program}
use Rattle.parser_combinators.specs.declared.note.Position.{Position}
use Rattle.symbol_tables.specs.declared.data_names.name.Referent.{Referent}
use Rattle.symbol_tables.specs.data_names.Names.{Names}
use Rattle.program_facts.specs.term_counts.Expression.{expr_terms, operand_terms, window_terms}
use Rattle.cobol_grammar.specs.declared.expr_forms.chain.Chain.{Chain}
use Rattle.cobol_grammar.specs.declared.expr_forms.either.MaybeSubscripts.{MaybeSubscripts}
use Rattle.cobol_grammar.specs.declared.expr_forms.front.FirstInParens.{FirstInParens}
use Rattle.cobol_grammar.specs.declared.expr_forms.front.FirstInParens.TheVariants as fronts
use Rattle.cobol_grammar.specs.declared.expr_forms.reference.RefSuffixes.{RefSuffixes}
use Rattle.cobol_grammar.specs.declared.expr_forms.reference.Suffix.{Suffix}
use Rattle.cobol_grammar.specs.declared.expr_forms.reference.Suffix.TheVariants as suffixes
use Rattle.cobol_grammar.specs.declared.expr_forms.side.Side.{Side}
use Rattle.cobol_grammar.specs.declared.expr_forms.side.ParsedExpr.TheVariants as whats
use Rattle.cobol_grammar.specs.expr_forms.Chain as chains
use Rattle.cobol_grammar.specs.expr_forms.Either as eithers
use Rattle.cobol_grammar.specs.expr_forms.Fault.{whole_fault, item_of}
use Rattle.cobol_grammar.specs.expr_forms.Side as sides
use Rattle.cobol_grammar.specs.expr_forms.Side.{expr_of, place_of, literal_kind}
use Rattle.cobol_grammar.specs.expr_forms.Window.{second_count}
use Rattle.program_facts.proofs.well_scoped_lemmas.Made.{both}
use Rattle.round_trip.specs.spelling.expr_spelling.Printable.{is_counting, is_number, are_fit, if_fit, judged_sub, judged_window, IsPrintableOperand}
use Rattle.round_trip.specs.spelling.expr_spelling.Printable as judging
use Rattle.round_trip.specs.spelling.expr_spelling.Spelled.{what_of, IsOperandSide, size_terms, HasRoom, made_window, made_place, WindowHasRoom, PlaceHasRoom, OperandHasRoom}
use Rattle.round_trip.proofs.spelling_lemmas.expr_spelling_lemmas.Layers.{judged-Place, judged_windows, judged-window, judged_sizes, terms-Leaf, terms-Minus, terms-Place, terms-Number, terms-place, terms-window, window_count}
use Rattle.round_trip.proofs.spelling_lemmas.expr_spelling_lemmas.Exprs.{leaf-side}
use Rattle.round_trip.proofs.procedures_lemmas.readable_exprs_lemmas.Words.{is_there, IsLiteral, number-literal}
use Rattle.round_trip.proofs.procedures_lemmas.readable_exprs_lemmas.Known.{IsKnown, IsPlace, ChainKnown, IsBase, chain_terms, whole-of, leaf-known, ref-known, sum_side-known, negated-known, one-known, finish-known, finish-terms, joined-known, joined-terms, literal-known, literal-is, literal-fit, literal-there, base-known, number_sub-fit, item_sub-fit, subs-added}

-- ---- room

pub none-room : (alone : Bool) (count : ℕ) → WindowHasRoom alone 501 count None
none-room alone count from size e = absurd cc

pub window-room : (alone : Bool) (count : ℕ) (from : Expr) (size : Option Expr) → HasRoom alone 501 count from size → WindowHasRoom alone 501 count (Some (made_window from size))
window-room alone count from size room f s e =
    let same : made_window from size ≡ made_window f s = some-is e in
    let outs = sym (out-roll-Window (record { from = from; «length» = size })) ∙ ap (λ w. out-Window w) same ∙ out-roll-Window (record { from = f; «length» = s }) in
    subst (λ x. HasRoom alone 501 count x s) (ap (λ w. w.from) outs) (subst (λ y. HasRoom alone 501 count from y) (ap (λ w. w.«length») outs) room)
  where
    some-is : {A : Type 0} {x y : A} → Some x ≡ Some y → x ≡ y
    some-is e = cc

pub place-room : (alone : Bool) (count item : ℕ) (of : List (List ℕ)) (subs : List Sub) (window : Option Window) → WindowHasRoom alone 501 count window →
    PlaceHasRoom alone 501 count (made_place item of subs window)
place-room alone count item of subs window room i o s w e =
    let outs = sym (out-roll-Place (record { item = item; of = of; subs = subs; window = window })) ∙ ap (λ p. out-Place p) e ∙ out-roll-Place (record { item = i; of = o; subs = s; window = w }) in
    subst (λ x. WindowHasRoom alone 501 count x) (ap (λ p. p.window) outs) room

abbrev place_in : Operand → Option Place
place_in (operands.Place place) = Some place
place_in _ = None

pub operand-room : (alone : Bool) (count : ℕ) (place : Place) → PlaceHasRoom alone 501 count place → OperandHasRoom alone 501 count (operands.Place place)
operand-room alone count place room other e =
    subst (λ p. PlaceHasRoom alone 501 count p) (some-is (ap (λ o. place_in o) e)) room
  where
    some-is : {A : Type 0} {x y : A} → Some x ≡ Some y → x ≡ y
    some-is e = cc

pub literal-room : (names : Names) (program : Program) (alone : Bool) (count : ℕ) (operand : Operand) → IsLiteral names program operand → OperandHasRoom alone 501 count operand
literal-room names program alone count operand h place e = absurd (apart (sym h.what ∙ ap (λ o. what_of o) e))
  where
    apart : whats.Literal operand ≡ whats.Ref place → ⊥
    apart e = cc

pub second-few : (alone : Bool) (count : ℕ) → count ≤ 500 → second_count alone count ≤ 500
second-few true count few = omega arith
second-few false count few = few

second-most : (alone : Bool) (count size : ℕ) → second_count alone count + size ≤ 500 → size < 501
second-most alone count size few = omega (arith, few)

second-counted : (alone : Bool) (count k a b m : ℕ) → k ≡ count + a → m ≡ second_count alone k + b → alone ≡ false → m ≡ count + (a + b)
second-counted true count k a b m e h within = absurd (both_ways true within refl)
second-counted false count k a b m e h within = omega (arith, e, h)

module _ (names : Names) (program : Program) where
  -- ---- sides, behind so many terms, and how many there are up to their end

  pub record Told (before : ℕ) (side : Side) (after : ℕ) : Type 0 where
    pub known : IsKnown names program side
    pub counted : after ≡ before + expr_terms (expr_of side.what)
    pub few : before ≤ 500 → after ≤ 500

  pub record WindowTold (alone : Bool) (before : ℕ) (window : Window) (after : ℕ) : Type 0 where
    pub fit : (judged_window names program window).fit ≡ true
    pub room : before ≤ 500 → WindowHasRoom alone 501 before (Some window)
    pub few : before ≤ 500 → after ≤ 500
    pub counted : alone ≡ false → after ≡ before + window_terms window

  abbrev pub SuffixTold : (alone : Bool) (before : ℕ) → Suffix → (after : ℕ) → Type 0
  SuffixTold alone before (suffixes.Subs subs) after = (are_fit (map (judged_sub names program) subs) ≡ true) × (after ≡ before)
  SuffixTold alone before (suffixes.Window window) after = WindowTold alone before window after

  pub record BehindTold (alone : Bool) (before : ℕ) (behind : RefSuffixes) : Type 0 where
    pub subs : are_fit (map (judged_sub names program) behind.subs) ≡ true
    pub fit : if_fit (judged_windows names program behind.window) ≡ true
    pub room : before ≤ 500 → WindowHasRoom alone 501 before behind.window
    pub few : before ≤ 500 → behind.count ≤ 500
    pub counted : alone ≡ false → behind.count ≡ before + window_count behind.window

  pub record PlaceTold (alone : Bool) (before : ℕ) (side : Side) (after : ℕ) : Type 0 where
    pub place : Place
    pub is : IsPlace names program place side
    pub room : before ≤ 500 → PlaceHasRoom alone 501 before place
    pub few : before ≤ 500 → after ≤ 500
    pub counted : alone ≡ false → after ≡ before + operand_terms (operands.Place place)

  -- counted itself
  pub record OperandTold (alone : Bool) (before : ℕ) (side : Side) (after : ℕ) : Type 0 where
    pub operand : Operand
    pub is : IsOperandSide names program operand side
    pub fit : IsPrintableOperand names program operand
    pub there : is_there side.kind ≡ true
    pub room : OperandHasRoom alone 501 (before + 1) operand
    pub few : after ≤ 500
    pub counted : alone ≡ false → after ≡ before + (1 + operand_terms operand)

  pub record SizeTold (before : ℕ) (size : Option Expr) (after : ℕ) : Type 0 where
    pub fit : judging.if_counting (judged_sizes names program size) ≡ true
    pub few : before ≤ 500 → after ≤ 500
    pub counted : after ≡ before + size_terms size

  pub record ChainTold (before : ℕ) (chain : Chain) (after : ℕ) : Type 0 where
    pub known : ChainKnown names program chain
    pub counted : after ≡ before + chain_terms names program chain
    pub few : before ≤ 500 → after ≤ 500

  abbrev BaseTold : Option Place → Type 0
  BaseTold None = Unit {0}
  BaseTold (Some place) = IsBase names program place

  -- its leaves are counted as long as they are few; its subscripts are fit where no fault is noted of
  -- them
  pub record EitherTold (either : MaybeSubscripts) : Type 0 where
    pub subs : either.fault ≡ None → are_fit (map (judged_sub names program) either.subs) ≡ true
    pub base : either.fault ≡ None → BaseTold either.base
    pub chain : ChainKnown names program either.chain
    pub leaves : either.leaves ≤ 500 → either.leaves ≡ chain_terms names program either.chain

  abbrev pub FrontTold : (before : ℕ) → FirstInParens → Type 0
  FrontTold before (fronts.Either either) = EitherTold either
  FrontTold before (fronts.Sum chain after) = ChainTold before chain after

  -- ---- what is made of them

  pub sum-told : (position : Position) (before : ℕ) (side : Side) (after : ℕ) → Told before side after → Told before (sides.sum_side position side) after
  unfolding sides.sum_side
  sum-told position before side after h = record { known = sum_side-known names program position side h.known; counted = h.counted; few = h.few }

  pub negated-told : (position : Position) (before more : ℕ) (side : Side) (after : ℕ) → more ≡ before + 1 → more ≤ 500 → Told more side after → is_number side.kind ≡ true →
      Told before (sides.negated position side) after
  unfolding sides.negated
  negated-told position before more side after e few h n =
      let c = h.counted in
      let t = terms-Minus (expr_of side.what) in
      record {
        known = negated-known names program position side h.known n;
        counted = omega (arith, c, t, e);
        few = λ _. h.few few;
      }

  pub leaf-told : (before : ℕ) (side : Side) (after : ℕ) → OperandTold false before side after → Told before side after
  leaf-told before side after h = record {
    known = leaf-known names program h.operand side h.is h.fit h.there;
    counted = h.counted refl ∙ ap (λ n. before + n) (sym (ap (λ e. expr_terms e) (leaf-side names program h.operand side h.is).told ∙ terms-Leaf h.operand));
    few = λ _. h.few;
  }

  -- a reference is an operand, which is counted itself
  pub place-operand : (alone : Bool) (before more : ℕ) (side : Side) (after : ℕ) → more ≡ before + 1 → more ≤ 500 → PlaceTold alone more side after → OperandTold alone before side after
  place-operand alone before more side after e few h = record {
    operand = operands.Place h.place;
    is = h.is.is;
    fit = ap (λ j. j.fit) (judged-Place names program h.place) ∙ h.is.fit;
    there = h.is.there;
    room = subst (λ n. OperandHasRoom alone 501 n (operands.Place h.place)) e (operand-room alone more h.place (h.room few));
    few = h.few few;
    counted = λ within. let c = h.counted within in omega (arith, c, e);
  }

  pub literal-operand : (alone : Bool) (before more : ℕ) (operand : Operand) (position : Position) → more ≡ before + 1 → more ≤ 500 → IsLiteral names program operand →
      OperandTold alone before (sides.literal_side operand (literal_kind operand) position) more
  literal-operand alone before more operand position e few h = record {
    operand = operand;
    is = literal-is names program operand position h;
    fit = literal-fit names program operand h;
    there = literal-there names program operand position h;
    room = literal-room names program alone (before + 1) operand h;
    few = few;
    counted = λ within. let t = h.terms in omega (arith, t, e);
  }

  pub place-told : (alone : Bool) (before : ℕ) (found : Referent) (of : List (List ℕ)) (position : Position) (behind : RefSuffixes) →
      IsPlace names program (place_of found of behind.subs behind.window) (sides.ref_side found of behind.subs behind.window position) → BehindTold alone before behind →
      PlaceTold alone before (sides.ref_side found of behind.subs behind.window position) behind.count
  place-told alone before found of position behind is h =
      let place = place_of found of behind.subs behind.window in
      record {
        place = place;
        is = is;
        room = λ few. place-room alone before (item_of found) of behind.subs behind.window (h.room few);
        few = h.few;
        counted = λ within. h.counted within ∙ ap (λ n. before + n) (sym (terms-Place place ∙ terms-place (item_of found) of behind.subs behind.window));
      }

  -- ---- sums

  pub one-told : (before : ℕ) (side : Side) (after : ℕ) → Told before side after → ChainTold before (chains.chain_of side) after
  one-told before side after h = record {
    known = one-known names program side h.known;
    counted = let c = h.counted in omega (arith, c);
    few = h.few;
  }

  pub finish-told : (before : ℕ) (chain : Chain) (after : ℕ) → ChainTold before chain after → Told before (chains.finish chain) after
  finish-told before chain after h = record {
    known = finish-known names program chain h.known;
    counted = h.counted ∙ ap (λ n. before + n) (sym (finish-terms names program chain));
    few = h.few;
  }

  pub joined-told : (op : Op) (before count : ℕ) (chain : Chain) (right : Side) (after : ℕ) → ChainTold before chain count → Told count right after →
      is_number chain.last.kind ≡ true → is_number right.kind ≡ true → ChainTold before (chains.joined op chain right) after
  joined-told op before count chain right after c r n m =
      let a = c.counted in
      let b = r.counted in
      let t = joined-terms names program op chain right in
      record {
        known = joined-known names program op chain right c.known r.known n m;
        counted = omega (arith, a, b, t);
        few = λ few. r.few (c.few few);
      }

  -- ---- windows

  pub window-told : (alone : Bool) (before count : ℕ) (first : Side) (size : Option Expr) (after : ℕ) → Told before first count → whole_fault first ≡ None →
      SizeTold (second_count alone count) size after → WindowTold alone before (made_window (expr_of first.what) size) after
  window-told alone before count first size after f n s =
      let from = expr_of first.what in
      let counting = subst (λ k. is_counting k ≡ true) f.known.is.known.kind (whole-of first.position first.kind n f.known.there) in
      record {
        fit = ap (λ j. j.fit) (judged-window names program from size) ∙ both (both f.known.fit counting) s.fit;
        room = λ few. window-room alone before from size (room few);
        few = λ few. s.few (second-few alone count (f.few few));
        counted = λ within. second-counted alone before count (expr_terms from) (size_terms size) after f.counted s.counted within
            ∙ ap (λ n. before + n) (sym (terms-window from size));
      }
    where
      room : before ≤ 500 → HasRoom alone 501 before (expr_of first.what) size
      room few =
          let most = f.few few in
          let c = f.counted in
          let all = subst (λ n. n ≤ 500) s.counted (s.few (second-few alone count most)) in
          record {
            first = omega (arith, most, c);
            second = second-most alone count (size_terms size) all;
            some = subst (λ n. n ≤ 500) c most;
            all = subst (λ n. second_count alone n + size_terms size ≤ 500) c all;
          }

  pub size-told : (before : ℕ) (side : Side) (after : ℕ) → Told before side after → whole_fault side ≡ None → SizeTold before (Some (expr_of side.what)) after
  size-told before side after h n = record {
    fit = both h.known.fit (subst (λ k. is_counting k ≡ true) h.known.is.known.kind (whole-of side.position side.kind n h.known.there));
    few = h.few;
    counted = h.counted;
  }

  -- ---- subscripts or a sum

  digits-terms : (digits : List ℕ) (position : Position) → expr_terms (expr_of (sides.digits_side digits position).what) ≡ 1
  unfolding sides.literal_side
  digits-terms digits position =
      let number = operands.Number (sides.number_of false digits) in
      terms-Leaf number ∙ ap (λ n. 1 + n) (terms-Number (sides.number_of false digits))

  digits-number : (digits : List ℕ) (position : Position) → is_number (sides.digits_side digits position).kind ≡ true
  unfolding sides.literal_side
  digits-number digits position = refl

  ref-terms : (found : Referent) (of : List (List ℕ)) (position : Position) → expr_terms (expr_of (sides.ref_side found of [] None position).what) ≡ 1
  unfolding sides.ref_side
  ref-terms found of position =
      let place = place_of found of [] None in
      terms-Leaf (operands.Place place) ∙ ap (λ n. 1 + n) (terms-Place place ∙ terms-place (item_of found) of [] None)

  pub number-either : (digits : List ℕ) (position : Position) → EitherTold (eithers.number_either digits position)
  number-either digits position =
      let literal = number-literal names program (sides.number_of false digits) in
      record {
        subs = λ _. both (number_sub-fit names program digits) refl;
        base = λ _. tt;
        chain = one-known names program (sides.digits_side digits position) (literal-known names program (operands.Number (sides.number_of false digits)) position literal);
        leaves = λ _. let one = digits-terms digits position in omega (arith, one);
      }

  pub ref-either : (found : Referent) (of : List (List ℕ)) (position : Position) →
      IsPlace names program (place_of found of [] None) (sides.ref_side found of [] None position) → EitherTold (eithers.ref_either found of position)
  ref-either found of position h = record {
    subs = λ _. refl;
    base = λ n. base-known names program found of position position h n;
    chain = one-known names program (sides.ref_side found of [] None position) (ref-known names program (place_of found of [] None) (sides.ref_side found of [] None position) h);
    leaves = λ _. let one = ref-terms found of position in omega (arith, one);
  }

  added-fit : (base : Option Place) (negative : Bool) (digits : List ℕ) → BaseTold base → (judged_sub names program (eithers.added_sub base negative digits)).fit ≡ true
  added-fit None negative digits b = number_sub-fit names program digits
  added-fit (Some place) negative digits b = item_sub-fit names program place negative digits b

  more-leaves : (leaves : ℕ) → eithers.more_leaves leaves ≤ 500 → eithers.more_leaves leaves ≡ leaves + 1
  more-leaves leaves few = omega (arith, few)

  pub with-number : (op : Op) (negative : Bool) (digits : List ℕ) (position : Position) (e : MaybeSubscripts) → EitherTold e → is_number e.chain.last.kind ≡ true →
      EitherTold (eithers.with_number op negative digits position e)
  unfolding eithers.with_number
  with-number op negative digits position e h n =
      let right = sides.digits_side digits position in
      let known = literal-known names program (operands.Number (sides.number_of false digits)) position (number-literal names program (sides.number_of false digits)) in
      record {
        subs = λ f. subs-added names program e.subs (eithers.added_sub e.base negative digits) (h.subs f) (added-fit e.base negative digits (h.base f));
        base = λ _. tt;
        chain = joined-known names program op e.chain right h.chain known n (digits-number digits position);
        leaves = λ few. counted few;
      }
    where
      counted : eithers.more_leaves e.leaves ≤ 500 → eithers.more_leaves e.leaves ≡ chain_terms names program (chains.joined op e.chain (sides.digits_side digits position))
      counted few =
          let more = more-leaves e.leaves few in
          let before = h.leaves (omega (arith, few, more)) in
          let t = joined-terms names program op e.chain (sides.digits_side digits position) in
          let one = digits-terms digits position in
          omega (arith, more, before, t, one)

  with-fit : (base : Option Place) (subs : List Sub) → BaseTold base → are_fit (map (judged_sub names program) subs) ≡ true → are_fit (map (judged_sub names program) (eithers.subs_with base subs)) ≡ true
  with-fit None subs b s = s
  with-fit (Some place) subs b s = subs-added names program subs (eithers.bare_sub place) s (item_sub-fit names program place false (codes "0") b)

  pub subs-of : (e : MaybeSubscripts) → EitherTold e → e.fault ≡ None → are_fit (map (judged_sub names program) (eithers.subs_of e)) ≡ true
  unfolding eithers.subs_of
  subs-of e h n = with-fit e.base e.subs (h.base n) (h.subs n)

  -- its leaves are counted now
  pub either-told : (before more : ℕ) (e : MaybeSubscripts) → more ≡ before + e.leaves → more ≤ 500 → EitherTold e → ChainTold before e.chain more
  either-told before more e same few h =
      let leaves = h.leaves (omega (arith, same, few)) in
      record { known = h.chain; counted = omega (arith, same, leaves); few = λ _. few }
