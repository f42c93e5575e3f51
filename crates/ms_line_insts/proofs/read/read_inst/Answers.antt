use Rattle.ms_line_insts.proofs.Spelt.{read_no_inst}
use Rattle.ms_line_insts.proofs.read.read_inst.Goals as goal

pub returns : goal.returns
returns c =
    read_no_inst c.args.line.now c.args.tokens.now c.phi.result (rw c.in_default.is at c.in_ok-found.ensures) (rw c.in_default-2.is at c.in_ok-found-2.ensures) (rw c.in_default-3.is at c.in_ok-found-3.ensures) (rw c.in_default-4.is at c.in_ok-found-4.ensures) (rw c.in_default-5.is at c.in_ok-found-5.ensures) (rw c.in_default-6.is at c.in_ok-found-6.ensures) (rw c.in_default-7.is at c.in_ok-found-7.ensures) (rw c.in_default-8.is at c.in_ok-found-8.ensures) (rw c.in_default-9.is at c.in_ok-found-9.ensures) (rw c.in_default-10.is at c.in_ok-found-10.ensures) c.phi.ensures
