-- Texts that spell moments, or none.
use Rattle.std.proofs.Common.{◌≡◌, Option, Some, None, Result, codes, inl, refl, arith}
use Rattle.std.specs.Prelude.{IfErr, IfNone, ok_or}
use Rattle.std.specs.Fmt.{digits}
use Rattle.tc_words.specs.Asked.{SpellsMoment}

-- a text of which no moment was read is told as such
pub unread : {T E : Type 0} (read : Option T) (fault : E) (result : Result T E) (P : Type 0) → result ≡ ok_or read fault → IfNone read P → IfErr result (λ told. (told ≡ fault) × P)
unread (Some moment) fault result P is none = rw is tt
unread None fault result P is none = rw is (refl, none)

-- 0 is spelled so
pub zero_spelled : SpellsMoment 0 (codes "0")
unfolding digits
zero_spelled = (omega arith, inl refl)
