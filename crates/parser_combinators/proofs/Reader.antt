-- A lawful form has one reading, and stops at its first fault.
use Rattle.std.proofs.Common.{◌≡◌, ℕ, ◌+◌, ◌≤◌, take, drop, length-take, List, [], ◌∷◌, ◌++◌, length, Err, refl, sym, ap, subst, ◌∙◌, append_assoc, length-append, arith}
use Rattle.std.proofs.Math.Seq.{drop-append_seam, drop-append-add}
use Rattle.std.proofs.lemmas.List.{take-append-drop}
use Rattle.cobol_lex.specs.declared.token.Token.{Token}
use Rattle.parser_combinators.specs.declared.why.Why.{Why}
use Rattle.parser_combinators.specs.declared.why.Unread.{Unread}
use Rattle.parser_combinators.specs.declared.why.Unread.TheVariants as unread
use Rattle.parser_combinators.specs.Form.{Input, at, Outcome, Got, Stop, left, next, Form}
use Rattle.parser_combinators.specs.Part.{ended, ended_by}
use Rattle.parser_combinators.specs.Reading.{start_at, IsFirstFault, IsReader, Reads, Stops}
use Rattle.parser_combinators.proofs.Lawful.{Lawful, behind, Extends, got_is}

longer : (a b rest : List Token) (t : Token) → t ∷ a ++ (b ++ rest) ≡ rest → ⊥
longer a b rest t e =
    let n : length (t ∷ a ++ (b ++ rest)) ≡ length rest = ap length e in
    omega (arith, n, length-append (t ∷ a) (b ++ rest), length-append b rest)

left_behind : {A : Type 0} (more : List Token) (o : Outcome A) → left (behind more o) ≡ left o ++ more
left_behind more (Got a r) = refl
left_behind more (Stop why r) = refl

module _ {A : Type 0} (f : Form A) (F : Lawful f) (p : Input) where
  abbrev reads : List Token → Outcome A
  reads ts = f.reads (at ts p)

  all_cut : (front more rest : List Token) → left (reads (front ++ (more ++ rest))) ≡ rest → f.cut (at front p)
  all_cut front more rest e = F.part (at front p) (go (left (reads front)) refl (F.extends (at front p) (more ++ rest)))
    where
      go : (r : List Token) → left (reads front) ≡ r → Extends (reads front) (reads (front ++ (more ++ rest))) (more ++ rest) r → left (reads front) ≡ []
      go [] is h = is
      go (t ∷ r) is h = absurd (longer r more rest t (sym (ap left h ∙ left_behind (more ++ rest) (reads front) ∙ ap (λ q. q ++ (more ++ rest)) is) ∙ e))

  not_cut : (used : List Token) (t : Token) (more : List Token) → left (reads (used ++ t ∷ more)) ≡ t ∷ more → f.cut (at (used ++ t ∷ []) p) → ⊥
  not_cut used t more e h =
      let x = subst (Extends (reads (used ++ t ∷ [])) (reads ((used ++ t ∷ []) ++ more)) more) (F.whole (at (used ++ t ∷ []) p) h) (F.extends (at (used ++ t ∷ []) p) more) in
      let same : (used ++ t ∷ []) ++ more ≡ used ++ t ∷ more = append_assoc used (t ∷ []) more in
      let y : more ≡ x.0 ++ t ∷ more = x.1 ∙ ap (λ r. x.0 ++ r) (ap (λ r. left (reads r)) same ∙ e) in
      let n : length more ≡ length (x.0 ++ t ∷ more) = ap length y in
      omega (arith, n, length-append x.0 (t ∷ more))

  first_fault : (why : Why) (rest : List Token) → f.reads p ≡ Stop why rest → IsFirstFault f p rest
  first_fault why rest e =
      let w = F.within p in
      let here : left (f.reads p) ≡ rest = ap left e in
      let parts : p.rest ≡ w.0 ++ rest = w.1 ∙ ap (λ r. w.0 ++ r) here in
      record {
        used = w.0;
        parts = parts;
        before = λ front more s. all_cut front more rest (ap (λ q. left (reads q)) (sym (append_assoc front more rest) ∙ ap (λ q. q ++ rest) (sym s) ∙ sym parts) ∙ here);
        at_it = λ t more s. not_cut w.0 t more (ap (λ q. left (reads q)) (ap (λ q. w.0 ++ q) (sym s) ∙ sym parts) ∙ here ∙ s);
      }

-- ---- what a function answers that reads from a start on

module _ {A : Type 0} (f : Form A) (F : Lawful f) (p : Input) where
  pub spelled : (a : A) (q made : Input) → made ≡ p → f.reads made ≡ Got a q → f.spells p a q
  spelled a q made m e = F.sound p a q (ap f.reads (sym m) ∙ e)

  pub the_only : (a b : A) (q r made : Input) → made ≡ p → f.reads made ≡ Got a q → f.spells p b r → (a ≡ b) × (q ≡ r)
  the_only a b q r made m e s = got_is a b q r (sym e ∙ ap f.reads m ∙ F.complete p b r s)

  pub stops : (e : Unread) (why : Why) (q made : Input) → made ≡ p → e ≡ unread.Stop why → Reads {A = A} (f.reads made) (Err e) q → Stops f p why q.rest
  stops e why q made m is h =
      let by_why : f.reads p ≡ Stop why q.rest = ap f.reads (sym m) ∙ subst (λ x. Reads {A = A} (f.reads made) (Err x) q) is h in
      record { first = first_fault f F p why q.rest by_why; by_why = by_why }

  pub none : (why : Why) (rest : List Token) (b : A) (r : Input) → Stops f p why rest → f.spells p b r → ⊥
  none why rest b r h s = let x : Got b r ≡ Stop why rest = sym (F.complete p b r s) ∙ h.by_why in cc

-- nothing is left behind the end
pub ended_rest : (p : Input) (u : Unit {0}) (q : Input) → ended.reads p ≡ Got u q → (p ≡ q) × (q.rest ≡ [])
ended_rest p u q e = go p.rest refl e
  where
    go : (ts : List Token) → p.rest ≡ ts → (ended_by (next ts)).reads p ≡ Got u q → (p ≡ q) × (q.rest ≡ [])
    go [] is h = let same = (got_is tt u p q h).1 in (same, ap (λ r. r.rest) (sym same) ∙ is)
    go (t ∷ ts) is h = absurd cc

pub rest_is_drop : {A : Type 0} (f : Form A) → Lawful f → (from : ℕ) (tokens : List Token) (a : A) (q : Input) → from ≤ length tokens → f.reads (start_at from tokens) ≡ Got a q → q.rest ≡ drop q.taken tokens
rest_is_drop f F from tokens a q h e =
    let w = F.within (start_at from tokens) in
    let used : List Token = w.0 in
    let parts : drop from tokens ≡ used ++ q.rest = w.1 ∙ ap (λ o. used ++ left o) e in
    let all : length (drop from tokens) ≡ length used + length q.rest = ap length parts ∙ length-append used q.rest in
    let n : q.taken + length q.rest ≡ from + length (drop from tokens) = F.counted (start_at from tokens) a q e in
    let front : length (take from tokens) ≡ from = simp length-take (omega (arith, h)) in
    let count : q.taken ≡ length (take from tokens) + length used = omega (arith, all, n, front) in
    let again : drop (length (take from tokens) + length used) (take from tokens ++ drop from tokens) ≡ drop (length used) (drop from tokens) = drop-append-add (take from tokens) (drop from tokens) (length used) in
    sym (ap (λ k. drop k tokens) count ∙ ap (λ ts. drop (length (take from tokens) + length used) ts) (sym (take-append-drop from tokens)) ∙ again ∙ ap (λ ts. drop (length used) ts) parts ∙ drop-append_seam used q.rest)

pub reader : {A : Type 0} {f : Form A} → Lawful f → IsReader f
reader {f = f} F = record {
  sound = F.sound;
  complete = F.complete;
  unique = λ p a b q r s t. got_is a b q r (sym (F.complete p a q s) ∙ F.complete p b r t);
  fault = λ p. first_fault f F p;
  is_cut = λ p. (F.whole p, F.part p);
  noted = F.noted;
  leaves = rest_is_drop f F;
}
