use Rattle.std.proofs.Common.{append_assoc}
use Rattle.ms_session.proofs.lines.operands_line.Goals as goal

pub returns : goal.returns
returns c =
    rw (
      c.from_vec.ensures,
      c.in_ok-push.ensures.items,
      c.in_ok-push_operands.ensures,
      c.in_ok-extend_from_slice-2.ensures.items,
      c.in_ok-push_number.ensures,
      c.of_phi.ensures,
      c.in_ok-extend_from_slice.ensures.items,
      c.new-out.ensures.items,
    ) (simp append_assoc)
