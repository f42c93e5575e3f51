use Rattle.std.proofs.Common.{◌≡◌, ◌^◌, w64, FitsSigned, rules, drop, sym, ap, subst, ◌∙◌}
use Rattle.std.proofs.lemmas.Int.{to_z-of_z}
use Rattle.ms_grammar.specs.Fits.{offset_of_items}
use Rattle.ms_grammar.specs.Parts.{texts}
use Rattle.ms_line_parts.specs.Sums.{IsSum, sum_over}
use Rattle.ms_line_parts.proofs.Offsets.{offset_is}
use Rattle.ms_line_parts.proofs.objects.offset.Goals as goal

pub returns-in-Some : goal.returns-in-Some
returns-in-Some c = λ sizes items names f g h.
    let one = offset_is sizes items names _ _ f g h in
    let first : one.first ≡ c.in-Some.first = (let told = one.is in let read = c.in-Some.ensures.is in cc) in
    let whole : sum_over c.in-Some.first (texts c.args.line.now c.args.object.now) (drop 2 (texts c.args.line.now c.args.indices.now)) ≡ offset_of_items sizes items =
    ap (λ v. sum_over v (texts c.args.line.now c.args.object.now) (drop 2 (texts c.args.line.now c.args.indices.now))) (sym first) ∙ one.sum in
    let fits : FitsSigned w64 c.in-Some.first = search rules in
    c.small.ensures (offset_of_items sizes items) (subst (λ z. IsSum (2 ^ 126) z c.sum_over.result)
    (ap (λ v. sum_over v (texts c.args.line.now c.args.object.now) (drop 2 (texts c.args.line.now c.args.indices.now))) (to_z-of_z w64 c.in-Some.first fits) ∙ whole) c.sum_over.ensures)

pub returns-in-None : goal.returns-in-None
returns-in-None c = λ sizes items names f g h.
    let one = offset_is sizes items names _ _ f g h in
    absurd (let told = one.is in let read = c.in-None.ensures.is in cc)
