use Rattle.std.proofs.Common.{refl, arith}
use Rattle.std.proofs.lemmas.Bool.{false≢true, iff_false}
use Rattle.ms_resolve.specs.Used.{arg_value}
use Rattle.ms_script.specs.Names.{KnowsValue}
use Rattle.ms_script.proofs.EachLemmas.{same_first, same_next, same_end, same_not}
use Rattle.ms_script.proofs.lookup.Lookup.knows_args.Goals as goal

pub loop-arg-init : goal.loop-arg-init
loop-arg-init c = same_first (KnowsValue c.args.self.now.m.now c.args.self.now.func.now) arg_value c.args.args.now

pub loop-arg-preserved : goal.loop-arg-preserved
loop-arg-preserved c =
    same_next (KnowsValue c.args.self.now.m.now c.args.self.now.func.now) arg_value c.args.args.now c.loop-arg.arg-index c.arg-item.result c.loop-arg-test.true c.arg-item.is
    (c.knows_value.ensures.0 c.if-not-knows_value.false) c.loop-arg.invariant

pub returns-then-not-knows_value : goal.returns-then-not-knows_value
returns-then-not-knows_value c = (
  λ t. absurd (false≢true t),
  λ h. absurd (iff_false c.knows_value.ensures c.if-not-knows_value.true
      (same_not (KnowsValue c.args.self.now.m.now c.args.self.now.func.now) arg_value c.args.args.now c.loop-arg.arg-index c.arg-item.result c.loop-arg-test.true c.arg-item.is
      c.loop-arg.invariant h)),
)

pub returns : goal.returns
returns c = (
  λ t. same_end (KnowsValue c.args.self.now.m.now c.args.self.now.func.now) arg_value c.args.args.now c.loop-arg.arg-index (let end = c.loop-arg-test.false in omega arith) c.loop-arg.invariant,
  λ h. refl,
)
