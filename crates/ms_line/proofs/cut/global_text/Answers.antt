use Rattle.std.proofs.Common.{◌≡◌, ◌∷◌, sym, ◌∙◌}
use Rattle.ms_line.proofs.Cells.{global_word}
use Rattle.ms_line.proofs.cut.global_text.Goals as goal

pub returns : goal.returns
returns c =
    let shown : c.bytes_of.result.now ≡ 64 ∷ c.in_ok-from_bytes.field-0 = cc (c.in-Some.ensures, c.if-mark-ne64.false, c.in_ok-from_bytes.ensures) in
    (sym c.bytes_of.ensures.bytes ∙ shown, global_word c.args.token.kind c.bytes_of.result.now c.in_ok-from_bytes.field-0 c.bytes_of.ensures.kind shown)
