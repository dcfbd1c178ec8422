-- What holds of pictures and their text.
use Rattle.std.specs.Prelude.{◌≡◌, ◌<◌, ◌^◌, length, Ok}
use Rattle.cob_tree.specs.declared.picture.Picture.{Picture}
use Rattle.picture_data.specs.Reading.{picture_of}
use Rattle.cobol_print.specs.units.Picture.{picture_text}
use Rattle.round_trip.specs.declarations.printed_pictures.Writable.{IsWritable}

-- pictures are read back from their text
pub record PicturesReadBack : Type 0 where
  -- the text that a picture is printed as is read as that picture
  pub back : (picture : Picture) → IsWritable picture →
      picture_of (picture_text picture) ≡ Ok picture
  -- and is no longer than a text may be
  pub short : (picture : Picture) → IsWritable picture →
      length (picture_text picture) < 2 ^ 31
