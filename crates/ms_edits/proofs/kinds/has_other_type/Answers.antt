use Rattle.ms_edits.proofs.kinds.has_other_type.Goals as goal

pub returns : goal.returns
returns c = (
  λ t. let h = c.has_operand.ensures.0 t in (h.0, h.1, (h.2.0, h.2.2.0, h.2.1, h.2.2.1, h.2.2.2)),
  λ (o, among, (l, ty, is, has, other)). c.has_operand.ensures.1 (o, among, (l, is, (ty, has, other))),
)
