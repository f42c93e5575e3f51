use Rattle.std.proofs.Common.{sym, subst, List}
use Rattle.ms_grammar.specs.declared.line.RawArg.{RawArg}
use Rattle.ms_line_insts.proofs.ArgLemmas.{no_args, some_args_found, some_args_none, open_args_none}
use Rattle.ms_grammar.specs.Kept.{Each}
use Rattle.ms_grammar.specs.Fits.{IsArg}
use Rattle.ms_line_insts.specs.Front.{Front}
use Rattle.ms_line_insts.specs.CallFronts.{closed_args}
use Rattle.ms_line_insts.proofs.args.args_front.Goals as goal

pub returns-in-Some : goal.returns-in-Some
returns-in-Some c =
    subst (λ (xs : List RawArg). Front (Each IsArg) closed_args c.args.line.now c.args.tokens.now xs c.in-Some.rest.now) (sym c.new.ensures) (no_args c.args.line.now c.args.tokens.now c.in-Some.rest.now c.in-Some.ensures)

pub returns-in_default-2 : goal.returns-in_default-2
returns-in_default-2 c =
    some_args_none c.args.line.now c.args.tokens.now c.in_default.ensures (rw c.in_default-2.is at c.in_ok-args.ensures)

pub returns-in-Some-behind_word : goal.returns-in-Some-behind_word
returns-in-Some-behind_word c =
    some_args_found c.args.line.now c.args.tokens.now c.in-Some-2.at_close.now c.in-Some-2.args c.in-Some-behind_word.rest.now c.in_default.ensures (rw c.in-Some-2.is at c.in_ok-args.ensures) c.in-Some-behind_word.ensures

pub returns-in-None : goal.returns-in-None
returns-in-None c =
    open_args_none c.args.line.now c.args.tokens.now c.in-Some-2.at_close.now c.in-Some-2.args c.in_default.ensures (rw c.in-Some-2.is at c.in_ok-args.ensures) c.in-None.ensures
