-- What holds up to the last symbol of a mask: what its string is, and where its digits begin.
use Rattle.std.proofs.Common.{◌≡◌, ℕ, ◌≤◌, true, false, List, Some, inl, inr, refl, ap, ◌∙◌, arith}
use Rattle.std.proofs.lemmas.Bool.{cases_Bool}
use Rattle.std.specs.Char.{to_ascii_uppercase}
use Rattle.edit_fields.specs.declared.shape.Stage.{Stage}
use Rattle.edit_fields.specs.declared.shape.Stage.TheVariants as stages
use Rattle.edit_fields.specs.declared.shape.Shape.{Shape}
use Rattle.edit_fields.specs.Shape.{behind, digits}
use Rattle.edit_fields.specs.Edited.{is_tail}
use Rattle.edit_fields.proofs.BranchLemmas.{some_of}
use Rattle.edit_fields.proofs.MaskLemmas.{Come, ended, comes}
use Rattle.edit_fields.proofs.StepLemmas.{Step, behind_steps, is_early, will}

pub step_of : (c : ℕ) (shape next : Shape) → behind c shape ≡ Some next → Step c shape.stage shape next
step_of c shape next e = some_of (λ n. Step c shape.stage shape n) (behind c shape) next e (behind_steps c shape)

-- no digit stands behind a tail
pub tail_digits : {shape last : Shape} {text : List ℕ} → Come shape text last → is_tail shape.stage ≡ true → digits last ≡ digits shape
tail_digits ended tail = refl
tail_digits (comes {shape} {next} {last} {byte} {rest} e come) tail =
    let on = (step_of (to_ascii_uppercase byte) shape next e).tails tail in
    tail_digits come on.0 ∙ on.1

-- what the string will be, it is
kept : {shape last : Shape} {text : List ℕ} → Come shape text last → (x : ℕ) → will shape.stage shape.string ≡ Some x → will last.stage last.string ≡ Some x
kept ended x is = is
kept (comes {shape} {next} {last} {byte} {rest} e come) x is = kept come x ((step_of (to_ascii_uppercase byte) shape next e).promised x is)

-- before the first digit there is none
abbrev pub NoneYet : Shape → Type 0
NoneYet shape = is_early shape.stage ≡ true → digits shape ≡ 0

pub none_next : (c : ℕ) (shape next : Shape) → behind c shape ≡ Some next → NoneYet shape → NoneYet next
none_next c shape next e none early =
    let before = (step_of c shape next e).early early in
    before.1 ∙ none before.0

none_last : {shape last : Shape} {text : List ℕ} → Come shape text last → NoneYet shape → NoneYet last
none_last ended none = none
none_last (comes {shape} {next} {last} {byte} {rest} e come) none = none_last come (none_next (to_ascii_uppercase byte) shape next e none)

string_by : (stage : Stage) (string x : ℕ) → is_early stage ≡ false → will stage string ≡ Some x → string ≡ x
string_by stages.Start string x late is = absurd cc
string_by (stages.Lead lead) string x late is = absurd cc
string_by stages.Body string x late is = absurd cc
string_by (stages.Led lead) string x late is = absurd cc
string_by (stages.Once first) string x late is = absurd cc
string_by stages.InString string x late is = cc
string_by stages.Nines string x late is = cc
string_by (stages.Letter letter) string x late is = cc
string_by stages.Ended string x late is = cc

-- a symbol that the string will have is the string's in the end
pub settled : (x : ℕ) (shape last : Shape) (text : List ℕ) → Come shape text last → NoneYet shape → 1 ≤ digits last → will shape.stage shape.string ≡ Some x → last.string ≡ x
settled x shape last text come none some is =
    let late : is_early last.stage ≡ false = elim (cases_Bool (is_early last.stage)) [
      | inl early ↦ absurd (omega (arith, some, none_last come none early))
      | inr late ↦ late
    ] in
    string_by last.stage last.string x late (kept come x is)

-- and so is a sign that has to come again
pub once_floats : (c : ℕ) (shape last : Shape) (text : List ℕ) → Come shape text last → NoneYet shape → 1 ≤ digits last → shape.stage ≡ stages.Once c → last.string ≡ c
once_floats c shape last text come none some at = settled c shape last text come none some (ap (λ s. will s shape.string) at)
