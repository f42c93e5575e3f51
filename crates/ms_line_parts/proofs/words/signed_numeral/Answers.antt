use Rattle.std.proofs.Common.{◌≡◌, ◌≤◌, ◌^◌, ◌-◌, pos, ◌-ℤ◌, to_z, of_z, w64, Some, ap, sym, ◌∙◌, arith}
use mir.Syntax.{w128}
use Rattle.std.proofs.lemmas.Int.{ints}
use Rattle.ms_grammar.specs.Numbers.{bits}
use Rattle.ms_line_parts.proofs.Numerals.{signed_below}
use Rattle.ms_line_parts.proofs.words.signed_numeral.Goals as goal

pub returns-then-size-lowest_of : goal.returns-then-size-lowest_of
returns-then-size-lowest_of c =
    let low : c.in_ok-size.size ≤ 2 ^ (bits c.args.ty - 1) = omega (arith, c.if-size-lowest_of.true, c.lowest_of.ensures.value) in
    let small : c.in_ok-size.size ≤ 2 ^ 63 = omega (arith, c.if-size-lowest_of.true, c.lowest_of.ensures.within) in
    let value : to_z w64 (of_z w64 (to_z w128 (of_z w128 (pos 0 -ℤ to_z w128 c.in_ok-size.size)))) ≡ pos 0 -ℤ pos c.in_ok-size.size = omega (arith, ints) in
    ap Some value ∙ sym (signed_below (bits c.args.ty) c.args.text.now c.in_ok-size.size (sym c.has_minus.ensures ∙ c.if-has_minus.true) c.in_ok-size.ensures low)
