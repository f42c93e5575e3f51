use Rattle.std.proofs.Common.{refl, arith}
use Rattle.std.proofs.lemmas.Bool.{iff_false, false≢true}
use Rattle.ms_ir.specs.declared.inst.Entry.{Entry}
use Rattle.ms_ir.specs.Edits.{IsNoBlock}
use Rattle.ms_edits.specs.Told.{AtPlace}
use Rattle.ms_edits.proofs.ListLemmas.{none_more, none_in, in_at}
use Rattle.ms_edits.proofs.names.has_from_none.Goals as goal

pub loop-k-init : goal.loop-k-init
loop-k-init c = λ j lt h. omega arith

pub loop-k-preserved : goal.loop-k-preserved
loop-k-preserved c =
    none_more (AtPlace c.args.entries.now (λ (e : Entry). IsNoBlock c.args.func.now e.from.0)) c.loop-k.k c.loop-k.invariant (iff_false c.is_from_none.ensures c.if-is_from_none.false)

pub returns-then-is_from_none : goal.returns-then-is_from_none
returns-then-is_from_none c = (
  λ t. in_at c.args.entries.now (λ (e : Entry). IsNoBlock c.args.func.now e.from.0) c.loop-k.k (c.is_from_none.ensures.0 c.if-is_from_none.true),
  λ h. refl,
)

pub returns : goal.returns
returns c = (
  λ t. absurd (false≢true t),
  λ h. absurd (none_in c.args.entries.now (λ (e : Entry). IsNoBlock c.args.func.now e.from.0) c.loop-k.k
      (let end = c.loop-k-test.false in let len = c.len-k-end.ensures in omega arith) c.loop-k.invariant h),
)
