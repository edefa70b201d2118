-- Characters of ASCII, as text.
use Rattle.std.proofs.Common.{◌≡◌, ℕ, ◌<◌, [], ◌∷◌}
use Rattle.std.specs.Prelude.{encode_utf8}
use Rattle.std.proofs.lemmas.Str.{encode_ascii}

-- a character of ASCII is one byte
pub ascii_pushed : (c : ℕ) → c < 128 → encode_utf8 c ≡ c ∷ []
ascii_pushed c small = encode_ascii c small
