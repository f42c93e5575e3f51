use Rattle.std.proofs.Common.{◌≡◌, true, sym, ap, ◌∙◌}
use Rattle.std.specs.List.{list_all}
use Rattle.ms_line_parts.specs.Terms.{is_small}
use Rattle.ms_line_parts.proofs.Variables.{smalls_are, smalls_there, few, told_more}
use Rattle.ms_line_parts.proofs.terms.small_offset.Goals as goal

pub returns-then-are_small : goal.returns-then-are_small
returns-then-are_small c = λ sizes items names whole f g h e.
    let small = smalls_are whole (ap (list_all is_small) (sym e) ∙ ap (list_all is_small) (sym c.as_slice.ensures) ∙ sym c.are_small.ensures ∙ c.if-are_small.true) in
    told_more c.offset.result (c.offset.ensures sizes items names f g (few sizes items whole h)) (λ no near each. no near) (λ n is. (is.0, is.1, small.each, e ∙ small.same))

pub returns-else-are_small : goal.returns-else-are_small
returns-else-are_small c = λ sizes items names whole f g h e. λ near each.
    let all : c.are_small.result ≡ true = c.are_small.ensures ∙ ap (list_all is_small) (c.as_slice.ensures ∙ e) ∙ smalls_there whole each in
    let none = c.if-are_small.false in cc
