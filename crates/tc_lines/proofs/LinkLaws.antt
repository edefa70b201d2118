-- How a control word is printed.
use Rattle.std.proofs.Common.{◌≡◌, ℕ, ◌-◌, ◌^◌, false, [], ◌++◌, length, ap, arith}
use Rattle.std.specs.Prelude.{replicate}
use Rattle.std.specs.Fmt.{digits, char_count, padded_integral, format_spec}
use Rattle.std.proofs.lemmas.List.{append-nil}
use Rattle.tc_types.specs.LinkLines.{word_digits}

-- what `{:08x}` writes
pub word_padded : (word : ℕ) → padded_integral (format_spec 32 0 4 8 (2 ^ 64 - 1)) false [] (digits 16 false word) ≡ word_digits word
unfolding padded_integral char_count
word_padded word =
    let bare : 8 - length (digits 16 false word) - 0 - 0 ≡ 8 - length (digits 16 false word) = omega arith in
    rw (append-nil (digits 16 false word)) (ap (λ zeros. replicate zeros 48 ++ digits 16 false word) bare)
