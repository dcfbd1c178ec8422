-- What words come to, over what was made of them.
use Rattle.std.proofs.Common.{◌≡◌, ◌∙◌, [], ◌∷◌, ◌++◌, ℕ, List, None, Result, Ok, Err, true, false, inr, ap, refl, subst, sym}
use Rattle.std.specs.Prelude.{IfOk, OnErr, map, codes}
use Rattle.file_model.specs.operations.Seen.{Seen}
use Rattle.cob_base.specs.Source.{SourceCall}
use Rattle.cob_base.specs.Sink.{SinkCall}
use Rattle.restructure_core.specs.run.Bench.{BenchCall}
use Rattle.restructure_asks.specs.declared.status.Status.{Status}
use Rattle.restructure_asks.specs.declared.status.Status.TheVariants as status
use Rattle.restructure_asks.specs.Status.{status_number}
use Rattle.restructure_asks.specs.Ask.{ask_of}
use Rattle.restructure_asks.specs.Program.{asked_page, is_page, ShowsPage}
use Rattle.restructure_asks.specs.Tool.{Ends, EndsCompared, EndsWithFiles, IsEitherTold}
use Rattle.restructure_tool.specs.Folders.{HadDiskAndNull, Serves}
use Rattle.restructure_tool.specs.Answered.{Answers, IsStarved}

module _ {W E : Type 0} (source : SourceCall) (out notes : SinkCall) where
  -- what `program` does over both benches
  pub serves-of : (words : Result W E) (bytes : W → List (List ℕ)) (bench second : BenchCall) (answer : Status) → HadDiskAndNull bench → HadDiskAndNull second
      → IfOk words (λ w. is_page (bytes w) ≡ true → ShowsPage (asked_page (bytes w)) source out notes answer)
      → IfOk words (λ w. is_page (bytes w) ≡ false → Ends (ask_of (bytes w)) source out notes answer)
      → IfOk words (λ w. is_page (bytes w) ≡ false → EndsWithFiles (ask_of (bytes w)) source out notes bench answer)
      → IfOk words (λ w. is_page (bytes w) ≡ false → EndsCompared (ask_of (bytes w)) source out notes bench second answer)
      → (answer ≡ status.DeviceFault → IsEitherTold notes bench second)
      → IfOk words (λ w. Serves (bytes w) source out notes answer)
  serves-of (Ok w) bytes bench second answer first other page ends over compared told = record {
    page = page;
    asked = λ h. record {
      bench = bench;
      second = second;
      devices = first;
      devices_too = other;
      ends = ends h;
      over = over h;
      compared = compared h;
      told = told;
    };
  }
  serves-of (Err e) bytes bench second answer first other page ends over compared told = tt

  pub starved-of : (words : Result W E) (answer : Status) → OnErr words (answer ≡ status.NoMemory) → OnErr words (Ends None source out notes answer) → OnErr words (IsStarved source out notes answer)
  starved-of (Ok w) answer is h = tt
  starved-of (Err e) answer is h = (is, h)

  pub answers-of : (words : Result W E) (bytes : W → List (List ℕ)) (exit : ℕ) (answer : Status) → exit ≡ status_number answer → IsStarved source out notes answer → IfOk words (λ w. Answers (bytes w) source out notes exit)
  answers-of (Ok w) bytes exit answer is h = record { status = answer; number = is; serves = inr h }
  answers-of (Err e) bytes exit answer is h = tt

module _ {X : Type 0} (show : X → Seen) (devices made one none : List X) (first last : X) where
  -- a list of two, as it is made
  two-of : devices ≡ made → made ≡ one ++ last ∷ [] → one ≡ none ++ first ∷ [] → none ≡ [] → devices ≡ first ∷ last ∷ []
  two-of is both single empty = is ∙ both ∙ ap (λ them. them ++ last ∷ []) (single ∙ ap (λ them. them ++ first ∷ []) empty)

  pub names-of : devices ≡ made → made ≡ one ++ last ∷ [] → one ≡ none ++ first ∷ [] → none ≡ [] → (show first).name ≡ codes "DISK" → (show last).name ≡ codes "NULL"
      → map (λ (device : Seen). device.name) (map show devices) ≡ codes "DISK" ∷ codes "NULL" ∷ []
  names-of is both single empty disk null =
      ap (λ them. map (λ (device : Seen). device.name) (map show them)) (two-of is both single empty)
      ∙ ap (λ name. name ∷ (show last).name ∷ []) disk ∙ ap (λ name. codes "DISK" ∷ name ∷ []) null

  pub faults-of : devices ≡ made → made ≡ one ++ last ∷ [] → one ≡ none ++ first ∷ [] → none ≡ [] → (show first).faults ≡ 0 → (show last).faults ≡ 0
      → map (λ (device : Seen). device.faults) (map show devices) ≡ 0 ∷ 0 ∷ []
  faults-of is both single empty disk null =
      ap (λ them. map (λ (device : Seen). device.faults) (map show them)) (two-of is both single empty)
      ∙ ap (λ count. count ∷ (show last).faults ∷ []) disk ∙ ap (λ count. 0 ∷ count ∷ []) null

-- what is read of a box is what is read of the value that it was made of
pub by-box : {V N : Type 0} (read : V → N) (at : N) (held made : V) (want : N) → at ≡ read held → held ≡ made → read made ≡ want → at ≡ want
by-box read at held made want is same so = is ∙ subst (λ it. read it ≡ want) (sym same) so
