-- A text that is read on by one byte, or at its end.
use Rattle.std.proofs.Common.{◌≡◌, ℕ, suc, ◌+◌, ◌<◌, List, ◌∷◌, length, get_or, drop, Ok, Err, Result, refl, sym, ap, ◌∙◌, add-one, drop-cons}
use Rattle.std.proofs.Math.Seq.{drop-length}
use Rattle.std.specs.Char.{to_ascii_uppercase}
use Rattle.cob_tree.specs.declared.picture.Picture.{Picture}
use Rattle.picture_data.specs.declared.fault.PictureFault.{PictureFault}
use Rattle.picture_data.specs.declared.fault.Flaw.{Flaw}
use Rattle.picture_data.specs.declared.reading.PictureReading.{PictureReading}
use Rattle.picture_data.specs.Fault.{fault_at}
use Rattle.picture_data.specs.Reading.{read_from, step, finish, ended}

-- one byte on
pub reads_on : (n : ℕ) (reading : PictureReading) (byte : ℕ) (rest : List ℕ) → read_from n (Ok reading) (byte ∷ rest) ≡ read_from (n + 1) (step (to_ascii_uppercase byte) reading) rest
unfolding read_from
reads_on n reading byte rest = refl

pub goes_on : (text : List ℕ) (n : ℕ) (reading : PictureReading) (upper : ℕ) (next : Result PictureReading Flaw) (all : Result Picture PictureFault) → n < length text → upper ≡ to_ascii_uppercase (get_or text n 0) → next ≡ step upper reading → all ≡ read_from n (Ok reading) (drop n text) → all ≡ read_from (n + 1) next (drop (n + 1) text)
goes_on text n reading upper next all h u e is =
    is ∙ ap (read_from n (Ok reading)) (drop-cons text n 0 h) ∙ reads_on n reading (get_or text n 0) (drop (suc n) text)
    ∙ ap (λ made. read_from (n + 1) made (drop (suc n) text)) (ap (λ b. step b reading) (sym u) ∙ sym e)
    ∙ ap (λ k. read_from (n + 1) next (drop k text)) (sym (add-one n))

pub stops : (n : ℕ) (flaw : Flaw) (rest : List ℕ) → read_from n (Err flaw) rest ≡ Err (fault_at flaw n)
unfolding read_from
stops n flaw rest = refl

pub ends : (text : List ℕ) (n : ℕ) (reading : PictureReading) (made : Result Picture Flaw) (all : Result Picture PictureFault) → n ≡ length text → made ≡ finish reading → all ≡ read_from n (Ok reading) (drop n text) → all ≡ ended (length text) made
unfolding read_from
ends text n reading made all e m is =
    is ∙ ap (λ k. read_from k (Ok reading) (drop k text)) e ∙ ap (read_from (length text) (Ok reading)) (drop-length text)
    ∙ ap (ended (length text)) (sym m)
