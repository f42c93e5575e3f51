use Rattle.std.proofs.Common.{sym}
use Rattle.ms_lex.proofs.First.{none_begins, none_of_kind, begins}
use Rattle.ms_lex.proofs.front.first_token.Goals as goal

pub returns-in_err-kind : goal.returns-in_err-kind
returns-in_err-kind c = rw (c.from_residual.ensures) (none_begins c.args.bytes.now c.requires (sym c.in_err-kind.ensures))

pub returns-in_err-length : goal.returns-in_err-length
returns-in_err-length c =
    rw (c.from_residual-in_err-length.ensures) (none_of_kind c.args.bytes.now c.in_ok-kind.kind c.requires (sym c.in_ok-kind.ensures) c.in_err-length.ensures)

pub returns : goal.returns
returns c = begins c.args.bytes.now c.in_ok-kind.kind c.in_ok-length.length c.requires (sym c.in_ok-kind.ensures) c.in_ok-length.ensures
