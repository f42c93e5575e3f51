use Rattle.ms_edits.proofs.names.names_no_local.Goals as goal

pub returns : goal.returns
returns c = (
  λ t. let h = c.has_operand.ensures.0 t in (h.0, h.2.0, h.1, h.2.1, h.2.2),
  λ (o, l, among, is, none). c.has_operand.ensures.1 (o, among, (l, is, none)),
)
