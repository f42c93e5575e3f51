use Rattle.ms_walk.proofs.Once.{clobber_once, clobber_before_once}
use Rattle.ms_walk.proofs.laws.one_clobber.Goals as goal

pub returns : goal.returns
returns c = record {
  at = clobber_once c.one_answer.ensures.one;
  one = λ f i loc d e n x y. clobber_before_once c.one_answer.ensures.one f n.one_place i loc d e x y;
}
