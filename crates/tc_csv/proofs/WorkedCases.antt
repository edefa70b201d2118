-- Texts as spreadsheets write them, and their records.
use Rattle.std.proofs.Common.{◌≡◌, ◌∷◌, [], codes, refl}
use Rattle.csv.specs.Machine.{next_record}
use Rattle.csv.specs.Reading.{records_from, strip_bom}
use Rattle.tc_csv.specs.Tables.{records_of}

-- a byte order mark, CRLF, quotes, and no last line end
pub spreadsheet : records_of (239 ∷ 187 ∷ 191 ∷ codes "step,text\r\n1,\"check, \"\"then\"\" go\"\r\n2,wait")
    ≡ (codes "step" ∷ codes "text" ∷ []) ∷ (codes "1" ∷ codes "check, \"then\" go" ∷ []) ∷ (codes "2" ∷ codes "wait" ∷ []) ∷ []
unfolding next_record records_from strip_bom
spreadsheet = refl

-- a second mark belongs to the first field
pub second_mark : records_of (239 ∷ 187 ∷ 191 ∷ 239 ∷ 187 ∷ 191 ∷ codes "step") ≡ ((239 ∷ 187 ∷ 191 ∷ codes "step") ∷ []) ∷ []
unfolding next_record records_from strip_bom
second_mark = refl

-- empty lines are no records, and an empty text has none
pub empty_lines : records_of (codes "\n\r\nstep\n\n1\n\n") ≡ (codes "step" ∷ []) ∷ (codes "1" ∷ []) ∷ []
unfolding next_record records_from strip_bom
empty_lines = refl

pub empty_text : records_of [] ≡ []
unfolding next_record records_from strip_bom
empty_text = refl
