use Rattle.std.proofs.Common.{◌≡◌, true, sym, ap, ◌∙◌}
use Rattle.ms_lex.specs.Kinds.{is_token, is_number}
use Rattle.ms_line_parts.proofs.OneKind.{no_number}
use Rattle.ms_line_parts.proofs.Values.{numeral_told, truth_told}
use Rattle.ms_line_parts.proofs.words.number_at.Goals as goal

pub returns-in-Number : goal.returns-in-Number
returns-in-Number c =
    let spelled : is_number c.bytes_of-text.result.now ≡ true = ap (λ k. is_token k c.bytes_of-text.result.now) (sym c.in-Number.is) ∙ c.bytes_of-text.ensures.kind in
    numeral_told c.args.ty c.bytes_of-text.result.now _ c.numeral.result c.bytes_of-text.ensures.bytes spelled c.numeral.ensures

pub returns-in_default : goal.returns-in_default
returns-in_default c =
    truth_told c.args.ty c.bytes_of-text.result.now _ c.truth.result c.bytes_of-text.ensures.bytes
    (no_number c.args.token.kind c.bytes_of-text.result.now c.bytes_of-text.ensures.kind c.in_default.not-Number) c.truth.ensures
