use Rattle.std.proofs.Common.{nat_eq, Some, refl, sym, ap, ◌∙◌, arith}
use Rattle.std.specs.HashMap.{get}
use Rattle.std.proofs.lemmas.Bool.{both_ways, false≢true}
use Rattle.ms_ir.specs.declared.inst.Val.{Val}
use Rattle.ms_validity.proofs.EdgeLemmas.{first_same, first_new, first_other, first_all}
use Rattle.ms_validity.proofs.edges.two_values.Goals as goal
use Rattle.ms_validity.proofs.edges.two_values.Goals.{in-Some+else-not-same_val, in-None+in_ok-insert-in-None}

pub loop-k-preserved : goal.loop-k-preserved
loop-k-preserved c =
    let entries = c.args.entries.now in
    let e = c.nth-entry.result in
    elim c.match-get.branch [
      | in-Some+else-not-same_val w ↦
          rw w.first-is
          (first_same entries c.loop-k.k (get nat_eq c.loop-k.first) e c.loop-k.invariant c.nth-entry.ensures
          (sym w.in-Some.ensures.value ∙ ap (λ (v : Val). Some v) (w.same_val.ensures.0 w.if-not-same_val.false)))
      | in-None+in_ok-insert-in-None w ↦
          rw w.first-is
          (first_new entries c.loop-k.k (get nat_eq c.loop-k.first) (get nat_eq w.insert.new.self) e c.loop-k.invariant c.nth-entry.ensures
          (sym w.in-None.ensures.value) (λ q. w.in_ok-insert-in-None.ensures.updates.0 q))
    ]

pub returns-then-not-same_val : goal.returns-then-not-same_val
returns-then-not-same_val c = (
  λ t. first_other c.args.entries.now c.loop-k.k (get nat_eq c.loop-k.first) c.nth-entry.result c.in-Some.val.now c.loop-k.invariant c.nth-entry.ensures
      (sym c.in-Some.ensures.value) (λ s. both_ways c.same_val.result c.if-not-same_val.true (c.same_val.ensures.1 s)),
  λ h. refl,
)

pub returns : goal.returns
returns c = (
  λ t. absurd (false≢true t),
  λ h. absurd (first_all c.args.entries.now c.loop-k.k (get nat_eq c.loop-k.first) (let end = c.loop-k-test.false in omega arith) c.loop-k.invariant h),
)
