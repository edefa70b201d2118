-- It is what jiff says of that second.
use Rattle.std.proofs.Common.{◌≡◌, ℕ, Bool, Option, Some, pos, ◌*ℤ◌, ap, ◌∙◌, arith, rules}
use Rattle.jiff_core.specs.DateTime.{civil_nanos}
use Rattle.jiff_core.proofs.SignedLemmas.{signed_arith}
use Rattle.jiff_fmt.specs.Text.{datetime_text}
use Rattle.tc_wall.proofs.ClockLemmas.{clock_is}
use Rattle.tc_wall.proofs.times.time_text.Goals as goal

pub returns : goal.returns
returns c =
    let made : c.unwrap-instant.result.nanosecond ≡ pos c.args.moment *ℤ pos 1000000000 = search rules in
    c.datetime_text.ensures
    ∙ ap (λ (o : Bool × ℕ × Option ℕ). datetime_text o.0 o.1 o.2 c.to_plain-shown.result)
    (c.precision-printer.ensures ∙ ap (λ (o : Bool × ℕ × Option ℕ). (o.0, o.1, Some 0)) (c.separator.ensures ∙ ap (λ (o : Bool × ℕ × Option ℕ). (o.0, 32, o.2)) c.new.ensures))
    ∙ clock_is c.args.moment c.to_plain-shown.result (omega (arith, c.get.ensures.range)) (ap civil_nanos c.to_plain-shown.ensures ∙ c.to_datetime.ensures ∙ omega (arith, signed_arith, made))
