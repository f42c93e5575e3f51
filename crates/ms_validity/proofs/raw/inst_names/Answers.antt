use Rattle.std.proofs.Common.{refl, arith}
use Rattle.std.proofs.lemmas.Bool.{iff_false, false≢true}
use Rattle.ms_grammar.specs.declared.line.RawVal.{RawVal}
use Rattle.ms_resolve.specs.Faults.{IsIn}
use Rattle.ms_resolve.specs.Used.{global_of, values_of}
use Rattle.ms_validity.specs.Raw.{HasName}
use Rattle.ms_validity.proofs.ListLemmas.{AtPlace, none_more, none_in, in_at, has_flat, flat_has}
use Rattle.ms_validity.proofs.raw.inst_names.Goals as goal

pub loop-k-preserved : goal.loop-k-preserved
loop-k-preserved c =
    none_more (AtPlace (values_of c.args.inst.now) (λ (v : RawVal). HasName (global_of v) c.args.names.now.funcs)) c.loop-k.k c.loop-k.invariant
    (iff_false c.in_ok-names_func_at.ensures c.if-branch.false)

pub returns-then-branch : goal.returns-then-branch
returns-then-branch c = (
  λ t. flat_has global_of (values_of c.args.inst.now) (IsIn c.args.names.now.funcs)
      (in_at (values_of c.args.inst.now) (λ (v : RawVal). HasName (global_of v) c.args.names.now.funcs) c.loop-k.k (c.in_ok-names_func_at.ensures.0 c.if-branch.true)),
  λ h. refl,
)

pub returns : goal.returns
returns c = (
  λ t. absurd (false≢true t),
  λ h. absurd (none_in (values_of c.args.inst.now) (λ (v : RawVal). HasName (global_of v) c.args.names.now.funcs) c.loop-k.k
      (let end = c.loop-k-test.false in let count = c.value_count-k-end.ensures in let le = c.loop-k.auto.k-end in omega arith)
      c.loop-k.invariant (has_flat global_of (values_of c.args.inst.now) (IsIn c.args.names.now.funcs) h)),
)
