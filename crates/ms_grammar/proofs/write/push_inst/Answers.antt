use Rattle.std.proofs.Common.{append_assoc, append-nil}
use Rattle.ms_grammar.proofs.Printing.{text_of_append}
use Rattle.ms_grammar.proofs.write.push_inst.Goals as goal

pub returns-in_ok-push_text-in-Phi : goal.returns-in_ok-push_text-in-Phi
returns-in_ok-push_text-in-Phi c =
    rw c.in-Phi.is (simp (
      c.in_ok-push_text-in-Phi.ensures,
      c.in_ok-push_entries-in-Phi.ensures,
      c.as_slice.ensures,
      c.in_ok-push_blank-in-Phi.ensures,
      c.in_ok-push_type-in-Phi.ensures,
      c.in_ok-push_lead-in-Phi.ensures,
      text_of_append,
      append_assoc,
      append-nil,
    ))
