-- The first K is not 0, so that the FOP is refused nothing but memory.
use Rattle.std.proofs.Common.{◌≡◌, ◌≤◌, ◌⊎◌, inl, inr, ℕ, Err, ap, arith}
use Rattle.tc_desk.proofs.parts.Parts.over.Goals as goal

none_is_0 : (k t1 limit : ℕ) → 1 ≤ k → 1 ≤ t1 → 1 ≤ limit → (k ≡ 0) ⊎ (t1 ≡ 0) ⊎ (limit ≡ 0) → ⊥
none_is_0 k t1 limit some ticks times (inl zero) = omega (arith, some, zero)
none_is_0 k t1 limit some ticks times (inr (inl zero)) = omega (arith, ticks, zero)
none_is_0 k t1 limit some ticks times (inr (inr zero)) = omega (arith, times, zero)

pub returns-in_err-fop-clause-refused : goal.returns-in_err-fop-clause-refused
returns-in_err-fop-clause-refused g c =
    let gone : c.from_residual.result ≡ Err c.in_err-fop.field-0.0 = grind arith in
    let some : 1 ≤ c.first_k.result = c.first_k.ensures.some c.requires.config.0.1 in
    rw gone (c.in_err-fop.ensures.memory (λ bad. none_is_0 c.first_k.result 10 3 some (omega arith) (omega arith) (c.in_err-fop.ensures.bad.0 (ap Err bad))))
