-- The definitions, carried out.
use Rattle.std.proofs.Common.{◌≡◌, true, false, [], ◌∷◌, codes, refl}
use Rattle.std.specs.Fmt.{digits}
use Rattle.csv.specs.Reading.{strip_bom}
use Rattle.tc_types.specs.declared.loads.LoadKind.TheVariants.{Stack}
use Rattle.tc_script.specs.declared.faults.LineFault.TheVariants as fault
use Rattle.tc_script.specs.declared.slots.Slot.TheVariants as slot
use Rattle.tc_check.specs.FileLines.{record_lines}
use Rattle.tc_check.specs.LineTexts.{fault_text}
use Rattle.tc_check.specs.Notes.{writes_60}
use Rattle.tc_check.specs.Places.{row_place}
use Rattle.tc_check.specs.Shown.{quoted}

-- a TAB and a quote
pub strange-shown : quoted (9 ∷ 97 ∷ 34 ∷ []) ≡ codes "\"\\x09a\\x22\""
strange-shown = refl

-- 42 bytes are shown whole, and of 260 bytes the first 256
pub whole-shown : quoted (codes "123456789012345678901234567890123456789012") ≡ codes "\"123456789012345678901234567890123456789012\""
whole-shown = refl

pub long-shown : quoted (codes "12345678901234567890123456789012345678901234567890123456789012345678901234567890123456789012345678901234567890123456789012345678901234567890123456789012345678901234567890123456789012345678901234567890123456789012345678901234567890123456789012345678901234567890") ≡ codes "\"1234567890123456789012345678901234567890123456789012345678901234567890123456789012345678901234567890123456789012345678901234567890123456789012345678901234567890123456789012345678901234567890123456789012345678901234567890123456789012345678901234567890123456\".."
long-shown = refl

-- an empty line, and a line end between quotes
pub lines-found : record_lines (codes "step\n\n1,\"a\nb\"\n2\n") ≡ 1 ∷ 3 ∷ 5 ∷ []
unfolding strip_bom
lines-found = refl

pub row-placed : row_place Stack (1 ∷ 3 ∷ 4 ∷ []) 1 ≡ codes "line 1 (line 3 of the file)"
unfolding digits
row-placed = refl

pub second_60-found : writes_60 (codes "2031-05-04T23:59:60Z") ∷ writes_60 (codes "20310504t235960Z") ∷ writes_60 (codes "2031-05-04 23:59:59Z") ∷ writes_60 (codes "60") ∷ []
    ≡ true ∷ true ∷ false ∷ false ∷ []
second_60-found = refl

pub flag-told : fault_text 12 (codes "100 ann enter 5 ---- CRIT 8 1 - - ok") (fault.Word 6 (slot.Critical false)) ≡ codes "line 12, word 6: not yes or no: \"CRIT\""
unfolding digits
flag-told = refl

pub request-missing : fault_text 3 (codes "100 ann approve") (fault.Missing 4 slot.Request) ≡ codes "line 3, word 4: missing, the number of a request in plain digits"
unfolding digits
request-missing = refl
