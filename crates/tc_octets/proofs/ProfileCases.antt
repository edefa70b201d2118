-- Worked cases of a profile's text, carried out by the definitions.
use Rattle.std.proofs.Common.{◌≡◌, [], ◌∷◌, refl}
use Rattle.std.specs.Prelude.{codes}
use Rattle.tc_octets.specs.declared.keys.Key.TheVariants as keys
use Rattle.tc_octets.specs.ProfileTexts.{blank, setting, bad, statements, value_of}

empty_text : statements [] ≡ []
empty_text = refl

comment_and_spaces : statements (codes "# rehearsal\n\n  scid=7  \n") ≡ blank ∷ blank ∷ setting (codes "scid") (codes "7") ∷ []
comment_and_spaces = refl

without_last_end : statements (codes "tc.map = none") ≡ setting (codes "tc.map") (codes "none") ∷ []
without_last_end = refl

with_return : statements (codes "scid = 1\r\napid = 2\n") ≡ setting (codes "scid") (codes "1") ∷ setting (codes "apid") (codes "2") ∷ []
with_return = refl

return_at_the_end : statements (codes "scid = 1\r") ≡ bad ∷ []
return_at_the_end = refl

without_equals : statements (codes "scid\n") ≡ bad ∷ []
without_equals = refl

two_equals : statements (codes "scid = = 1\n") ≡ setting (codes "scid") (codes "= 1") ∷ []
two_equals = refl

no_name_and_no_value : statements (codes "=\n") ≡ setting [] [] ∷ []
no_name_and_no_value = refl

comment_outside_ascii : statements (35 ∷ 195 ∷ 169 ∷ 10 ∷ []) ≡ bad ∷ []
comment_outside_ascii = refl

given : value_of keys.TcMap (statements (codes "scid = 42\ntc.map = 5\n")) ≡ codes "5"
given = refl

not_given : value_of keys.TmLength (statements (codes "scid = 42\ntc.map = 5\n")) ≡ codes "1115"
not_given = refl
