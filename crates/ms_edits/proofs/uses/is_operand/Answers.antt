use Rattle.std.proofs.Common.{refl, inl}
use Rattle.ms_edits.proofs.uses.is_operand.Goals as goal

pub returns-then-insts_have : goal.returns-then-insts_have
returns-then-insts_have c = (
  λ t. let h = c.insts_have.ensures.0 c.if-insts_have.true in inl (h.0, h.1, h.2, h.3, h.4.0, h.4.1, h.4.2),
  λ h. refl,
)
