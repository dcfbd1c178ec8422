-- A test that holds if and only if something does; the same with a scope and a depth beside it.
use Rattle.std.proofs.Common.{arith, ◌≡◌, ◌≤◌, ℕ, max, Bool, true, false, ◌&&◌, List, [], ◌∷◌, map, Option, Some, None, refl, sym, subst, ◌∙◌}
use Rattle.std.proofs.lemmas.Bool.{and_parts}
use Rattle.control_flow_theory.specs.language.All.{all}
use Rattle.program_facts.specs.well_scoped.Part.{is_filled, if_any}
use Rattle.program_facts.proofs.well_scoped_lemmas.Made.{both}
use Rattle.round_trip.specs.spelling.stmt_spelling.Stmt.{Each, IfAny, Some_of}
use Rattle.round_trip.specs.fitting_statements.Statement.{some_pass}

-- ---- tests

pub record Same (test : Bool) (P : Type 0) : Type 0 where
  pub to : test ≡ true → P
  pub from : P → test ≡ true

pub itself : (test : Bool) → Same test (test ≡ true)
itself test = record { to = λ h. h; from = λ h. h }

pub always : Same true (Unit {0})
always = record { to = λ _. tt; from = λ _. refl }

pub never : Same false ⊥
never = record { to = λ h. absurd cc; from = λ h. absurd h }

pub beside : {a b : Bool} {P Q : Type 0} → Same a P → Same b Q → Same (a && b) (P × Q)
beside {a = a} {b = b} A B = record {
  to = λ h. let both_hold = and_parts a b h in (A.to both_hold.0, B.to both_hold.1);
  from = λ h. both (A.from h.0) (B.from h.1);
}

pub each-same : {X : Type 0} {test : X → Bool} {P : X → Type 0} → ((x : X) → Same (test x) (P x)) → (list : List X) → Same (all (map test list)) (Each P list)
each-same S [] = record { to = λ _. tt; from = λ _. refl }
each-same S (x ∷ list) = beside (S x) (each-same S list)

pub some-same : {X : Type 0} {test : X → Bool} {P : X → Type 0} → ((x : X) → Same (test x) (P x)) → (list : List X) → Same (some_pass test list) (Some_of P list)
some-same S list = beside (itself (is_filled list)) (each-same S list)

pub any-same : {X : Type 0} {test : X → Bool} {P : X → Type 0} → ((x : X) → Same (test x) (P x)) → (o : Option X) → Same (if_any test o) (IfAny P o)
any-same S None = always
any-same S (Some x) = S x

-- ---- with a scope and a depth

pub record Tells (fitting scoping : Bool) (deepness levels : ℕ) (P : Type 0) : Type 0 where
  pub to : fitting ≡ true → scoping ≡ true → deepness ≤ levels → P
  pub fit : P → fitting ≡ true
  pub scoped : P → scoping ≡ true
  pub depth : P → deepness ≤ levels

pub leaf : {n : ℕ} {a : Bool} {P : Type 0} → Same a P → Tells a true 0 n P
leaf S = record { to = λ f _ _. S.to f; fit = S.from; scoped = λ _. refl; depth = λ _. omega arith }

-- what is told by the scope
pub scoped-leaf : {n : ℕ} (scoped : Bool) → Tells true scoped 0 n (scoped ≡ true)
scoped-leaf scoped = record { to = λ _ s _. s; fit = λ _. refl; scoped = λ h. h; depth = λ _. omega arith }

pub before : {a f s : Bool} {d n : ℕ} {P Q : Type 0} → Same a P → Tells f s d n Q → Tells (a && f) s d n (P × Q)
before {a = a} {f = f} S T = record {
  to = λ h s d. let parts = and_parts a f h in (S.to parts.0, T.to parts.1 s d);
  fit = λ h. both (S.from h.0) (T.fit h.1);
  scoped = λ h. T.scoped h.1;
  depth = λ h. T.depth h.1;
}

pub beside-told : {f s g t : Bool} {d e n : ℕ} {P Q : Type 0} → Tells f s d n P → Tells g t e n Q → Tells (f && g) (s && t) (max d e) n (P × Q)
beside-told {f = f} {s = s} {g = g} {t = t} {d = d} {e = e} {n = n} T U = record {
  to = λ h k m. let fits = and_parts f g h in let scopes = and_parts s t k in
      (T.to fits.0 scopes.0 (omega arith), U.to fits.1 scopes.1 (omega arith));
  fit = λ h. both (T.fit h.0) (U.fit h.1);
  scoped = λ h. both (T.scoped h.0) (U.scoped h.1);
  depth = λ h. let one = T.depth h.0 in let other = U.depth h.1 in omega arith;
}

-- what is told of the same
pub retold : {f s g t : Bool} {d e n : ℕ} {P : Type 0} → f ≡ g → s ≡ t → d ≡ e → Tells g t e n P → Tells f s d n P
retold {n = n} f s d T = record {
  to = λ h k m. T.to (sym f ∙ h) (sym s ∙ k) (subst (λ x. x ≤ n) d m);
  fit = λ p. f ∙ T.fit p;
  scoped = λ p. s ∙ T.scoped p;
  depth = λ p. subst (λ x. x ≤ n) (sym d) (T.depth p);
}

-- at a depth that is as much
pub deep : {f s : Bool} {d n : ℕ} {P : Type 0} (e : ℕ) → e ≤ d → d ≤ e → Tells f s d n P → Tells f s e n P
deep {d = d} {n = n} e below above T = record {
  to = λ h k m. T.to h k (omega arith);
  fit = λ p. T.fit p;
  scoped = λ p. T.scoped p;
  depth = λ p. let most = T.depth p in omega arith;
}
