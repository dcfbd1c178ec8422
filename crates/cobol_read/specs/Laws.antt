-- What holds of reading.
use Rattle.std.specs.Prelude.{ℕ, ◌≡◌, ◌≢◌, List}
use Rattle.cob_tree.specs.declared.program.Program.{Program}
use Rattle.cobol_read.specs.declared.refusal.ReadRefusal.{ReadRefusal}
use Rattle.cobol_read.specs.declared.refusal.ReadRefusal.TheVariants as refusals
use Rattle.cobol_read.specs.Reading.{HasCause, Reads}

-- bytes are one program at most, and a program or refused for one cause
pub record ReadsOneWay : Type 0 where
  -- bytes are one program at most
  pub program : (bytes : List ℕ) (p q : Program) → Reads bytes p → Reads bytes q → p ≡ q
  -- bytes that are a program have no cause of a refusal
  pub refused : (bytes : List ℕ) (p : Program) (refusal : ReadRefusal) →
      Reads bytes p → refusal ≢ refusals.NoMemory → HasCause bytes refusal → ⊥
  -- bytes have one cause of a refusal at most
  pub cause : (bytes : List ℕ) (one other : ReadRefusal) →
      one ≢ refusals.NoMemory → other ≢ refusals.NoMemory →
      HasCause bytes one → HasCause bytes other → one ≡ other
