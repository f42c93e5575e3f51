use Rattle.std.proofs.Common.{refl, sym, ◌∙◌}
use Rattle.ms_line_insts.proofs.Heads.{cast_found, cast_other}
use Rattle.ms_line_insts.proofs.simple.cast_head.Goals as goal

pub returns-in_default : goal.returns-in_default
returns-in_default c = λ y ps starts g h. c.in_default.ensures y.0 _ tt h

pub returns-then-same_flags : goal.returns-then-same_flags
returns-then-same_flags c =
    cast_found c.args.line.now c.args.tokens.now c.in-Some.at_flags.now c.flags_front.result.1.now c.in-Some.op c.flags_front.result.0 c.in-Some.ensures c.flags_front.ensures (c.if-same_flags.ensures.yes refl ∙ c.flags_for_cast.ensures)

pub returns-else-same_flags : goal.returns-else-same_flags
returns-else-same_flags c =
    cast_other c.args.line.now c.args.tokens.now c.in-Some.at_flags.now c.flags_front.result.1.now c.in-Some.op c.flags_front.result.0 c.in-Some.ensures c.flags_front.ensures (λ e. c.if-same_flags.ensures.no refl (e ∙ sym c.flags_for_cast.ensures))
