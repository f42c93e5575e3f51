use Rattle.std.proofs.Common.{◌≡◌, true, ◌&&◌, sym, ap, ◌∙◌}
use Rattle.std.specs.List.{flat_map}
use Rattle.ms_grammar.specs.Form.{name_text}
use Rattle.ms_grammar.specs.Limits.{names_of_value, names_of_arg, names_of_entry, names_of_index}
use Rattle.ms_line.specs.Short.{is_short, are_short}
use Rattle.ms_line.proofs.ShortLemmas.{all_flat, short_append}
use Rattle.ms_line.proofs.measure.is_short_inst.Goals as goal

pub returns-then-is_short_name : goal.returns-then-is_short_name
returns-then-is_short_name c =
    let short : is_short (name_text c.in-Call.callee) ≡ true = cc in
    rw (c.in-Call.is, short, c.are_short_args.ensures, c.as_slice-then-is_short_name.ensures) (all_flat names_of_arg c.in-Call.args)

pub returns-in-Phi : goal.returns-in-Phi
returns-in-Phi c = rw (c.in-Phi.is, c.are_short_entries.ensures, c.as_slice-in-Phi.ensures) (all_flat names_of_entry c.in-Phi.entries)

pub returns-then-is_short_value : goal.returns-then-is_short_value
returns-then-is_short_value c =
    let short : are_short (names_of_value c.in-Step.base) ≡ true = cc in
    rw (c.in-Step.is, c.are_short_terms.ensures, c.as_slice.ensures)
    (all_flat names_of_index c.in-Step.terms
    ∙ sym (short_append (names_of_value c.in-Step.base) (flat_map names_of_index c.in-Step.terms) ∙ ap (λ b. b && are_short (flat_map names_of_index c.in-Step.terms)) short))
