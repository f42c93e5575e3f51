use Rattle.ms_grammar.specs.Form.{arg_parts}
use Rattle.ms_line_insts.specs.CallFronts.{BeginsMark, IsPointerArg}
use Rattle.ms_line_insts.proofs.ArgLemmas.{read_comma}
use Rattle.ms_line_insts.proofs.calls.further_pointer.Goals as goal

pub returns-in_default : goal.returns-in_default
returns-in_default c = λ y ps marks g h. c.in_default.ensures _ h

pub returns : goal.returns
returns c =
    read_comma (BeginsMark c.args.line.now) IsPointerArg arg_parts c.args.line.now c.args.tokens.now c.in-Some.behind.now c.pointer_front.result c.in-Some.ensures c.pointer_front.ensures
