use Rattle.std.proofs.Common.{◌≡◌, ◌^◌, true, inl, inr}
use Rattle.std.specs.Str.Parse.{digits_value}
use Rattle.std.proofs.lemmas.Bool.{cases_lt}
use Rattle.std.proofs.lemmas.Str.Parse.{parse_gives}
use Rattle.ms_lex.specs.Kinds.{is_digits}
use Rattle.ms_line_parts.proofs.Numerals.{own, digits_all, digits_some, digits_text}
use Rattle.ms_line_parts.proofs.words.value_of.Goals as goal

pub returns-in-Err-parse : goal.returns-in-Err-parse
returns-in-Err-parse c = λ h.
    let same : c.in-Ok.text.now ≡ c.args.digits.now = c.in-Ok.ensures.cases.0 in
    let digits : is_digits c.in-Ok.text.now ≡ true = rw same h in
    elim (cases_lt (digits_value 10 c.in-Ok.text.now) (2 ^ 128)) [
      | inl less ↦
          let gives = parse_gives own 128 c.in-Ok.text.now c.parse.result c.parse.ensures.value.0 (digits_all c.in-Ok.text.now digits) (digits_some c.in-Ok.text.now digits) less in
          absurd (cc (gives, c.in-Err-parse.is))
      | inr more ↦ rw same at more
    ]

pub returns-in-Err : goal.returns-in-Err
returns-in-Err c = λ h. absurd (c.in-Err.ensures.cases.0 (digits_text c.args.digits.now h))
