-- The first colon.
use Rattle.std.proofs.Common.{◌≡◌, ◌∙◌, sym, subst, ℕ, zero, suc, ◌<◌, ◌≤◌, ◌+◌, ◌==◌, Bool, true, false, List, [], ◌∷◌, ◌++◌, length, take, drop, refl, ap, arith, if◌then◌else◌, get_or, eqb-true, eq-eqb, length-take, min}
use Rattle.file_model.specs.Attempts.{Address, address_of, before_colon, disk}

-- no colon stands at that place
differs : (byte : ℕ) → (byte ≡ 58 → ⊥) → (byte == 58) ≡ false
differs byte other = go (byte == 58) refl
  where
    go : (b : Bool) → (byte == 58) ≡ b → (byte == 58) ≡ false
    go true e = absurd (other (eqb-true byte 58 e))
    go false e = e

skip : (assign : List ℕ) (at : ℕ) → at < length assign → (get_or assign at 0 ≡ 58 → ⊥) → take at assign ++ before_colon (drop at assign) ≡ take (suc at) assign ++ before_colon (drop (suc at) assign)
skip [] at within other = absurd (omega (arith, within))
skip (byte ∷ bytes) zero within other = ap (λ b. if b then [] else byte ∷ before_colon bytes) (differs byte other)
skip (byte ∷ bytes) (suc at) within other = ap (λ l. byte ∷ l) (skip bytes at (omega (arith, within)) other)

stop : (assign : List ℕ) (at : ℕ) → at < length assign → get_or assign at 0 ≡ 58 → take at assign ++ before_colon (drop at assign) ≡ take at assign
stop [] at within is = absurd (omega (arith, within))
stop (byte ∷ bytes) zero within is = ap (λ b. if b then [] else byte ∷ before_colon bytes) (eq-eqb byte 58 is)
stop (byte ∷ bytes) (suc at) within is = ap (λ l. byte ∷ l) (stop bytes at (omega (arith, within)) is)

pub colon_step : (assign : List ℕ) (at : ℕ) → at < length assign → (get_or assign at 0 ≡ 58 → ⊥) → before_colon assign ≡ take at assign ++ before_colon (drop at assign) → before_colon assign ≡ take (at + 1) assign ++ before_colon (drop (at + 1) assign)
colon_step assign at within other so_far = let e : suc at ≡ at + 1 = omega arith in subst (λ (n : ℕ). before_colon assign ≡ take n assign ++ before_colon (drop n assign)) e (so_far ∙ skip assign at within other)

-- the bytes before a colon are those up to its place
pub colon_here : (assign : List ℕ) (at : ℕ) → at < length assign → get_or assign at 0 ≡ 58 → before_colon assign ≡ take at assign ++ before_colon (drop at assign) → take at assign ≡ before_colon assign
colon_here assign at within is so_far = sym (so_far ∙ stop assign at within is)

pub colon_count : (assign : List ℕ) (at : ℕ) → at ≤ length assign → take at assign ≡ before_colon assign → at ≡ length (before_colon assign)
colon_count assign at within e = let f : length (take at assign) ≡ length (before_colon assign) = ap length e in let g : length (take at assign) ≡ min at (length assign) = length-take at assign in omega arith

take_end : (assign : List ℕ) (at : ℕ) → length assign ≤ at → take at assign ++ before_colon (drop at assign) ≡ take at assign
take_end [] zero within = refl
take_end [] (suc at) within = refl
take_end (byte ∷ bytes) zero within = absurd (omega (arith, within))
take_end (byte ∷ bytes) (suc at) within = ap (λ l. byte ∷ l) (take_end bytes at (omega (arith, within)))

pub colon_nowhere : (assign : List ℕ) (at : ℕ) → length assign ≤ at → before_colon assign ≡ take at assign ++ before_colon (drop at assign) → take at assign ≡ before_colon assign
colon_nowhere assign at past so_far = sym (so_far ∙ take_end assign at past)

-- ---- addresses

abbrev choice : Bool → List ℕ → Address
choice b text = if b then record { device = disk; name = text } else record { device = before_colon text; name = drop (suc (length (before_colon text))) text }

pub whole_device : (assign : List ℕ) → length (before_colon assign) ≡ length assign → disk ≡ (address_of assign).device
whole_device assign e = sym (ap (λ b. (choice b assign).device) (eq-eqb (length (before_colon assign)) (length assign) e))

pub whole_name : (assign : List ℕ) → length (before_colon assign) ≡ length assign → assign ≡ (address_of assign).name
whole_name assign e = sym (ap (λ b. (choice b assign).name) (eq-eqb (length (before_colon assign)) (length assign) e))

not_equal : (a b : ℕ) → (a ≡ b → ⊥) → (a == b) ≡ false
not_equal a b other = go (a == b) refl
  where
    go : (x : Bool) → (a == b) ≡ x → (a == b) ≡ false
    go true e = absurd (other (eqb-true a b e))
    go false e = e

pub cut_device : (assign : List ℕ) (at : ℕ) → at ≡ length (before_colon assign) → (at ≡ length assign → ⊥) → take at assign ≡ before_colon assign → take at assign ≡ (address_of assign).device
cut_device assign at e other front = front ∙ sym (ap (λ b. (choice b assign).device) (not_equal (length (before_colon assign)) (length assign) (λ f. other (e ∙ f))))

pub cut_name : (assign : List ℕ) (at : ℕ) → at ≡ length (before_colon assign) → (at ≡ length assign → ⊥) → drop (at + 1) assign ≡ (address_of assign).name
cut_name assign at e other =
    subst (λ (n : ℕ). drop (n + 1) assign ≡ (address_of assign).name) (sym e)
    (let f : suc (length (before_colon assign)) ≡ length (before_colon assign) + 1 = omega arith in
    subst (λ (n : ℕ). drop n assign ≡ (address_of assign).name) f
    (sym (ap (λ b. (choice b assign).name) (not_equal (length (before_colon assign)) (length assign) (λ f. other (e ∙ f))))))
