use Rattle.std.proofs.Common.{append_assoc, append-nil}
use Rattle.ms_grammar.proofs.Printing.{text_of_append}
use Rattle.ms_grammar.proofs.write.push_head.Goals as goal

pub returns : goal.returns
returns c =
    simp (
      c.in_ok-push_apart.ensures,
      c.in_ok-push_keyword.ensures,
      c.in_ok-push_params.ensures,
      c.as_slice.ensures,
      c.in_ok-push_head_front.ensures,
      text_of_append,
      append_assoc,
      append-nil,
    )
