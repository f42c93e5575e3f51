use Rattle.std.proofs.Common.{◌≡◌, Some, arith, decimal, refl, sym, ap, ◌∙◌}
use Rattle.ms_line_parts.proofs.Numerals.{read_back}
use Rattle.ms_line_parts.proofs.Texts.{other}
use Rattle.ms_line_parts.proofs.words.small_number.Goals as goal

pub returns-in_default : goal.returns-in_default
returns-in_default c = λ n small e.
    let read : c.value_of.result ≡ Some n = read_back c.args.text.now c.value_of.result c.value_of.ensures n small e in
    let same : c.in-Some.n ≡ n = cc in
    other refl refl c.is_decimal.ensures c.if-is_decimal.false (ap decimal same ∙ sym e)

pub returns-in_default-2 : goal.returns-in_default-2
returns-in_default-2 c = λ n small e.
    let read : c.value_of.result ≡ Some n = read_back c.args.text.now c.value_of.result c.value_of.ensures n small e in
    let same : c.in-Some.n ≡ n = cc in
    omega arith

pub returns-in_default-3 : goal.returns-in_default-3
returns-in_default-3 c = λ n small e.
    let read : c.value_of.result ≡ Some n = read_back c.args.text.now c.value_of.result c.value_of.ensures n small e in
    cc
