use Rattle.std.proofs.Common.{◌≡◌, ap, ◌∙◌, arith}
use Rattle.ms_line_parts.specs.Sizes.{cut}
use Rattle.ms_line_parts.proofs.Totals.{object_total}
use Rattle.ms_line_parts.proofs.objects.object_size.Goals as goal

pub returns-then-size-le65536 : goal.returns-then-size-le65536
returns-then-size-le65536 c = λ size sizes h.
    let whole : c.total_size-size.result ≡ cut size = c.total_size-size.ensures ∙ ap cut (object_total _ size sizes h) in
    (omega (arith, whole, c.if-size-le65536.true), c.if-size-le65536.true)

pub returns-else-size-le65536 : goal.returns-else-size-le65536
returns-else-size-le65536 c = λ size sizes h.
    let whole : c.total_size-size.result ≡ cut size = c.total_size-size.ensures ∙ ap cut (object_total _ size sizes h) in
    omega (arith, whole, c.if-size-le65536.false)
