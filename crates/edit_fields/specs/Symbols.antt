-- The symbols of a mask as they are held.
use Rattle.std.specs.Prelude.{ℕ, ◌≡◌, ◌-◌, ◌≤◌, ◌++◌, List, length, take, replicate}
use Rattle.std.proofs.Common.{sym, ap, ◌∙◌, arith, length-take}
use Rattle.edit_fields.specs.declared.symbols.Symbols.TheInside.{Inside}

-- the symbols, without the zeros after them
abbrev pub symbol_bytes : Inside → List ℕ
symbol_bytes s = take s.len s.bytes

-- at most 160 symbols, with zeros after them up to that
pub record IsPadded (s : Inside) : Type 0 where
  pub fits : s.len ≤ 160
  -- there are 160 bytes
  pub full : length s.bytes ≡ 160
  -- the bytes after the symbols are zeros
  pub padded : s.bytes ≡ take s.len s.bytes ++ replicate (160 - s.len) 0

-- symbols with zeros after them up to 160 bytes
abbrev pub symbols_of : List ℕ → Inside
symbols_of bytes = record { bytes = bytes ++ replicate (160 - length bytes) 0; len = length bytes }

-- symbols come back from their bytes
pub symbols_of-symbol_bytes : (s : Inside) → IsPadded s → symbols_of (symbol_bytes s) ≡ s
symbols_of-symbol_bytes s h =
    let fits : s.len ≤ length s.bytes = omega (arith, h.fits, h.full) in
    let whole : length (take s.len s.bytes) ≡ s.len = simp length-take (omega (arith, fits)) in
    let made : ℕ → List ℕ → Inside = λ n bytes. record { bytes = bytes; len = n } in
    ap (λ n. made n (take s.len s.bytes ++ replicate (160 - n) 0)) whole ∙ ap (made s.len)
    (sym h.padded)
