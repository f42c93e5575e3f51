use Rattle.ms_line_insts.proofs.FlagLemmas.{all_found}
use Rattle.ms_line_insts.proofs.flags.flags_front.Goals as goal

pub returns : goal.returns
returns c =
    all_found c.args.line.now c.args.tokens.now c.flag_front-nneg.result.1.now c.flag_front-nuw.result.1.now c.flag_front-nsw.result.1.now c.flag_front-exact.result.1.now
    c.flag_front-disjoint.result.1.now c.flag_front-nneg.result.0 c.flag_front-nuw.result.0 c.flag_front-nsw.result.0 c.flag_front-exact.result.0 c.flag_front-disjoint.result.0
    c.flag_front-nneg.ensures c.flag_front-nuw.ensures c.flag_front-nsw.ensures c.flag_front-exact.ensures c.flag_front-disjoint.ensures
