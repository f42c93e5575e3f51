use Rattle.std.proofs.Common.{append_assoc, append-nil}
use Rattle.ms_grammar.proofs.Printing.{text_of_append}
use Rattle.ms_grammar.proofs.write.push_call.Goals as goal

pub returns : goal.returns
returns c =
    simp (
      c.in_ok-push_ends.ensures,
      c.in_ok-push_keyword.ensures,
      c.in_ok-push_args.ensures,
      c.as_slice.ensures,
      c.in_ok-push_call_front.ensures,
      text_of_append,
      append_assoc,
      append-nil,
    )
