use Rattle.std.proofs.Common.{◌-◌, arith}
use Rattle.std.proofs.lemmas.List.{take_rest}
use Rattle.ms_lex.proofs.lex.next_token.Goals as goal

pub returns-in-None : goal.returns-in-None
returns-in-None c =
    let line = c.args.line.now in
    let at = c.next_place-at.result in
    record {
      next = c.next_place-at.ensures;
      within = omega arith;
      no_comment = c.if-line-at-eq59.false;
      no_token = λ kind later more fits. (rw (take_rest line at) at (c.in-None.ensures kind)).none (later - at);
    }
