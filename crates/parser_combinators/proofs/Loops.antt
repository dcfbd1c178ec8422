-- What a loop of a parser keeps: the whole outcome is that of the form's loop from here on. And what it answers
-- where no level is left.
use Rattle.std.proofs.Common.{◌≡◌, ◌<◌, Bool, true, false, if◌then◌else◌, List, [], ◌∷◌, ◌++◌, length, Err, refl, sym, ap, subst, ◌∙◌}
use Rattle.cobol_lex.specs.declared.token.TokenKind.{TokenKind}
use Rattle.parser_combinators.specs.declared.why.Why.{Why}
use Rattle.parser_combinators.specs.declared.why.Why.TheVariants.{Syntax}
use Rattle.parser_combinators.specs.declared.why.Unread.{Unread}
use Rattle.parser_combinators.specs.declared.why.Unread.TheVariants as unread
use Rattle.parser_combinators.specs.Form.{Input, Outcome, Got, Stop, then_read, Form, refuse, is_next, chosen, loop, added}
use Rattle.parser_combinators.specs.Part.{too_deep}
use Rattle.parser_combinators.specs.Reading.{Reads, unread_where}
use Rattle.parser_combinators.proofs.Turns.{loop-unrolls}
use Rattle.parser_combinators.proofs.MakerLaws.{Law}
use Rattle.parser_combinators.proofs.MakerLaws as laws

-- each turn takes a token
pub shrinks : {A : Type 0} {f : Form A} → Law true f → (a : A) (p q : Input) → f.reads p ≡ Got a q → length q.rest < length p.rest
shrinks F a p q e = (F.consumes refl).less p a q e

-- ---- a loop that carries a value

module _ {S : Type 0} (begin : TokenKind → Bool) {step : S → Form S} (L : (s : S) → Law true (step s)) where
  abbrev turn : S → Input → Bool → Outcome S
  turn s p b = if b then then_read ((step s).reads p) (λ x q. (loop begin step x).reads q) else Got s p

  unrolls : (s : S) (p : Input) (total : Outcome S) (b : Bool) → b ≡ is_next begin p → total ≡ (loop begin step s).reads p → total ≡ turn s p b
  unrolls s p total b e h = h ∙ loop-unrolls (λ _. begin) step (λ x. (L x).lawful) (λ x. (L x).consumes refl) s p ∙ sym (ap (turn s p) e)

  -- a turn that is read
  pub goes_on : (s x : S) (p q : Input) (total : Outcome S) → true ≡ is_next begin p → (step s).reads p ≡ Got x q → total ≡ (loop begin step s).reads p → total ≡ (loop begin step x).reads q
  goes_on s x p q total b e h = unrolls s p total true b h ∙ ap (λ o. then_read o (λ y r. (loop begin step y).reads r)) e

  -- a turn that is not
  pub ends_err : (s : S) (e : Unread) (p q : Input) (total : Outcome S) → true ≡ is_next begin p → Reads {A = S} ((step s).reads p) (Err e) q → total ≡ (loop begin step s).reads p → Reads {A = S} total (Err e) q
  ends_err s (unread.Stop why) p q total b e h = unrolls s p total true b h ∙ ap (λ o. then_read o (λ y r. (loop begin step y).reads r)) e
  ends_err s unread.NoMemory p q total b e h = tt

  -- no other turn
  pub is_done : (s : S) (p : Input) (total : Outcome S) → false ≡ is_next begin p → total ≡ (loop begin step s).reads p → total ≡ Got s p
  is_done s p total b h = unrolls s p total false b h

-- ---- a list of items

item_err : {A : Type 0} (item : Form A) (front : List A) (e : Unread) (p q : Input) → Reads {A = A} (item.reads p) (Err e) q → Reads {A = List A} ((added item front).reads p) (Err e) q
item_err item front (unread.Stop why) p q h = ap (λ o. then_read o (λ x r. Got (front ++ x ∷ []) r)) h
item_err item front unread.NoMemory p q h = tt

module _ {A : Type 0} (begin : TokenKind → Bool) {item : Form A} (L : Law true item) where
  each : (front : List A) → Law true (added item front)
  each front = laws.added front L

  pub item_goes_on : (front : List A) (x : A) (p q : Input) (total : Outcome (List A)) → true ≡ is_next begin p → item.reads p ≡ Got x q → total ≡ (loop begin (added item) front).reads p → total ≡ (loop begin (added item) (front ++ x ∷ [])).reads q
  item_goes_on front x p q total b e h = goes_on begin each front (front ++ x ∷ []) p q total b (ap (λ o. then_read o (λ y r. Got (front ++ y ∷ []) r)) e) h

  pub item_ends_err : (front : List A) (e : Unread) (p q : Input) (total : Outcome (List A)) → true ≡ is_next begin p → Reads {A = A} (item.reads p) (Err e) q → total ≡ (loop begin (added item) front).reads p → Reads {A = List A} total (Err e) q
  item_ends_err front e p q total b h k = ends_err begin each front e p q total b (item_err item front e p q h) k

  pub item_is_done : (front : List A) (p : Input) (total : Outcome (List A)) → false ≡ is_next begin p → total ≡ (loop begin (added item) front).reads p → total ≡ Got front p
  item_is_done front p total b h = is_done begin each front p total b h

-- ---- what is nested too deep

pub too_deep_err : (A : Type 0) (why : Why) (begin : TokenKind → Bool) (p : Input) (begins : Bool) (e : Unread) → begins ≡ is_next begin p → e ≡ unread_where begins why → Reads {A = A} ((too_deep why begin).reads p) (Err e) p
too_deep_err A why begin p begins e b h = subst (λ r. Reads {A = A} ((too_deep why begin).reads p) (Err r) p) (ap (λ c. unread_where c why) (sym b) ∙ sym h) (go (is_next begin p))
  where
    go : (c : Bool) → (chosen c (refuse {A = A} why) (refuse Syntax)).reads p ≡ Stop (if c then why else Syntax) p.rest
    go true = refl
    go false = refl
