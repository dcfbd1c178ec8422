-- Only separators stand between the tokens of a text.
use Rattle.std.proofs.Common.{◌≡◌, ℕ, ◌-◌, zero, suc, Bool, true, false, List, [], ◌∷◌, ◌++◌, refl, sym, ap, subst}
use Rattle.std.specs.Prelude.{Result, Ok, Err, if◌then◌else◌}
use Rattle.ref_format.specs.declared.placed.Placed.{Placed}
use Rattle.ref_format.specs.Placed.{bytes_of}
use Rattle.cobol_lex.specs.Byte.{is_separator}
use Rattle.cobol_lex.specs.Awaits.{awaits_behind}
use Rattle.cobol_lex.specs.Lexeme.{next_lexeme}
use Rattle.cobol_lex.specs.Token.{with_token, after_lexeme, tokens_from}
use Rattle.cobol_lex.specs.Laid.{Covers}
use Rattle.cobol_lex.specs.Laws.{TokensCover}
use Rattle.cobol_lex.specs.declared.token.Token.{Token}
use Rattle.cobol_lex.specs.declared.token.TokenKind.{TokenKind}
use Rattle.cobol_lex.specs.declared.awaits.Awaits.{Awaits}
use Rattle.cobol_lex.specs.declared.awaits.Awaits.TheVariants as awaits
use Rattle.cobol_lex.specs.declared.lexeme.Lexeme.{Lexeme}
use Rattle.cobol_lex.specs.declared.fault.LexError.{LexError}

-- behind the bytes that are taken the tokens cover the rest
abbrev Found : (taken : ℕ) → List Placed → Result (List Token) LexError → Type 0
Found taken text (Ok tokens) = (piece : List Placed) × (rest : List Placed) × (text ≡ piece ++ rest) × (taken ≡ 0 → piece ≡ []) × Covers rest tokens
Found taken text (Err fault) = Unit {0}

add_gap : (p : Placed) (rest : List Placed) (tokens : List Token) → is_separator p.byte ≡ true → Covers rest tokens → Covers (p ∷ rest) tokens
add_gap p rest [] sep h = rw sep h
add_gap p rest (token ∷ tokens) sep h = (p ∷ h.0, h.1, h.2, ap (λ t. p ∷ t) h.3, rw sep h.4, h.5, h.6)

all_of : (rest piece r : List Placed) (tokens : List Token) → rest ≡ piece ++ r → piece ≡ [] → Covers r tokens → Covers rest tokens
all_of rest piece r tokens e none h = subst (λ t. Covers t tokens) (sym (subst (λ q. rest ≡ q ++ r) none e)) h

found_gap : (p : Placed) (rest : List Placed) (result : Result (List Token) LexError) → is_separator p.byte ≡ true → Found 0 rest result → Found 0 (p ∷ rest) result
found_gap p rest (Ok tokens) sep h = ([], p ∷ rest, refl, (λ _. refl), add_gap p rest tokens sep (all_of rest h.0 h.1 tokens h.2 (h.3 refl) h.4))
found_gap p rest (Err fault) sep h = tt

found_token : (kind : TokenKind) (taken : ℕ) (p : Placed) (rest : List Placed) (result : Result (List Token) LexError) → Found taken rest result → Found 0 (p ∷ rest) (with_token (record { kind = kind; line = p.line }) result)
found_token kind taken p rest (Ok tokens) h = ([], p ∷ rest, refl, (λ _. refl), ([], p ∷ h.0, h.1, ap (λ t. p ∷ t) h.2, refl, refl, h.4))
found_token kind taken p rest (Err fault) h = tt

found_more : (taken : ℕ) (p : Placed) (rest : List Placed) (result : Result (List Token) LexError) → Found taken rest result → Found (suc taken) (p ∷ rest) result
found_more taken p rest (Ok tokens) h = (p ∷ h.0, h.1, ap (λ t. p ∷ t) h.2, (λ e. absurd cc), h.4)
found_more taken p rest (Err fault) h = tt

found_lexeme : (text : List Placed) (lexeme : Result Lexeme LexError) (follows : Lexeme → Result (List Token) LexError) → ((c : Lexeme) → Found 0 text (follows c)) → Found 0 text (after_lexeme lexeme follows)
found_lexeme text (Ok lexeme) follows h = h lexeme
found_lexeme text (Err fault) follows h = tt

found_choice : (text : List Placed) (v w : Bool) (x y : Result (List Token) LexError) → w ≡ v → (w ≡ true → Found 0 text x) → Found 0 text y → Found 0 text (if v then x else y)
found_choice text true w x y is in_x in_y = in_x is
found_choice text false w x y is in_x in_y = in_y

found : (taken : ℕ) (awaits : Awaits) (before : ℕ) (text : List Placed) → Found taken text (tokens_from taken awaits before text)
found taken awaits before [] = ([], [], refl, (λ _. refl), refl)
found (suc taken) awaits before (p ∷ rest) = found_more taken p rest _ (found taken awaits p.byte rest)
found zero awaits before (p ∷ rest) =
    found_choice (p ∷ rest) (is_separator p.byte) (is_separator p.byte) _ _ refl
    (λ sep. found_gap p rest _ sep (found 0 awaits p.byte rest))
    (found_lexeme (p ∷ rest) (next_lexeme awaits before p.line (bytes_of (p ∷ rest))) _ (λ lexeme.
    found_token lexeme.kind (lexeme.length - 1) p rest _ (found (lexeme.length - 1) (awaits_behind awaits lexeme.kind) p.byte rest)))

pub tokens_cover : TokensCover
tokens_cover text tokens is =
    let h = subst (Found 0 text) is (found 0 awaits.Any 0 text) in
    all_of text h.0 h.1 tokens h.2 (h.3 refl) h.4
