use Rattle.std.proofs.Common.{refl, arith}
use Rattle.std.proofs.lemmas.Bool.{false≢true, iff_false}
use Rattle.ms_resolve.specs.Used.{index_value}
use Rattle.ms_script.specs.Names.{KnowsValue}
use Rattle.ms_script.proofs.EachLemmas.{same_first, same_next, same_end, same_not}
use Rattle.ms_script.proofs.lookup.Lookup.knows_terms.Goals as goal

pub loop-term-init : goal.loop-term-init
loop-term-init c = same_first (KnowsValue c.args.self.now.m.now c.args.self.now.func.now) index_value c.args.terms.now

pub loop-term-preserved : goal.loop-term-preserved
loop-term-preserved c =
    same_next (KnowsValue c.args.self.now.m.now c.args.self.now.func.now) index_value c.args.terms.now c.loop-term.term-index c.term-item.result c.loop-term-test.true c.term-item.is
    (c.knows_value.ensures.0 c.if-not-knows_value.false) c.loop-term.invariant

pub returns-then-not-knows_value : goal.returns-then-not-knows_value
returns-then-not-knows_value c = (
  λ t. absurd (false≢true t),
  λ h. absurd (iff_false c.knows_value.ensures c.if-not-knows_value.true
      (same_not (KnowsValue c.args.self.now.m.now c.args.self.now.func.now) index_value c.args.terms.now c.loop-term.term-index c.term-item.result c.loop-term-test.true c.term-item.is
      c.loop-term.invariant h)),
)

pub returns : goal.returns
returns c = (
  λ t. same_end (KnowsValue c.args.self.now.m.now c.args.self.now.func.now) index_value c.args.terms.now c.loop-term.term-index (let end = c.loop-term-test.false in omega arith) c.loop-term.invariant,
  λ h. refl,
)
