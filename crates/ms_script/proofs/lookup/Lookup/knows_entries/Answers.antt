use Rattle.std.proofs.Common.{refl, arith}
use Rattle.std.proofs.lemmas.Bool.{false≢true, iff_false}
use Rattle.ms_resolve.specs.Used.{entry_value, entry_block}
use Rattle.ms_script.specs.Names.{KnowsValue, KnowsBlock}
use Rattle.ms_script.proofs.EachLemmas.{same_first, same_next, same_end, same_not}
use Rattle.ms_script.proofs.lookup.Lookup.knows_entries.Goals as goal

pub loop-entry-init : goal.loop-entry-init
loop-entry-init c = (
  same_first (KnowsValue c.args.self.now.m.now c.args.self.now.func.now) entry_value c.args.entries.now,
  same_first (KnowsBlock c.args.self.now.func.now) entry_block c.args.entries.now,
)

pub loop-entry-preserved : goal.loop-entry-preserved
loop-entry-preserved c =
    let known = c.knows_entry.ensures.0 c.if-not-knows_entry.false in (
      same_next (KnowsValue c.args.self.now.m.now c.args.self.now.func.now) entry_value c.args.entries.now c.loop-entry.entry-index c.entry-item.result c.loop-entry-test.true c.entry-item.is
          known.0 c.loop-entry.invariant.0,
      same_next (KnowsBlock c.args.self.now.func.now) entry_block c.args.entries.now c.loop-entry.entry-index c.entry-item.result c.loop-entry-test.true c.entry-item.is
          known.1 c.loop-entry.invariant.1,
    )

pub returns-then-not-knows_entry : goal.returns-then-not-knows_entry
returns-then-not-knows_entry c = (
  λ t. absurd (false≢true t),
  λ h. absurd (iff_false c.knows_entry.ensures c.if-not-knows_entry.true (
    same_not (KnowsValue c.args.self.now.m.now c.args.self.now.func.now) entry_value c.args.entries.now c.loop-entry.entry-index c.entry-item.result c.loop-entry-test.true c.entry-item.is
        c.loop-entry.invariant.0 h.0,
    same_not (KnowsBlock c.args.self.now.func.now) entry_block c.args.entries.now c.loop-entry.entry-index c.entry-item.result c.loop-entry-test.true c.entry-item.is
        c.loop-entry.invariant.1 h.1,
  )),
)

pub returns : goal.returns
returns c =
    let end = c.loop-entry-test.false in (
      λ t. (
        same_end (KnowsValue c.args.self.now.m.now c.args.self.now.func.now) entry_value c.args.entries.now c.loop-entry.entry-index (omega arith) c.loop-entry.invariant.0,
        same_end (KnowsBlock c.args.self.now.func.now) entry_block c.args.entries.now c.loop-entry.entry-index (omega arith) c.loop-entry.invariant.1,
      ),
      λ h. refl,
    )
