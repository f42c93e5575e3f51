use Rattle.std.proofs.Common.{map, refl, arith}
use Rattle.std.proofs.lemmas.Bool.{iff_false, false≢true}
use Rattle.std.proofs.lemmas.List.{length-map}
use Rattle.ms_ir.specs.Uses.{entry_use}
use Rattle.ms_edits.specs.declared.spots.After.TheVariants.{Moved}
use Rattle.ms_edits.specs.Told.{AtPlace}
use Rattle.ms_edits.specs.Moved.{IsUseMissed, func_after}
use Rattle.ms_edits.proofs.ListLemmas.{none_more, none_in, in_at}
use Rattle.ms_edits.proofs.moves.is_phi_missed.Goals as goal

pub loop-k-init : goal.loop-k-init
loop-k-init c = λ j lt h. omega arith

pub loop-k-preserved : goal.loop-k-preserved
loop-k-preserved c =
    let blocks = (func_after c.args.func.now (Moved c.args.from c.args.to)).blocks in
    none_more (AtPlace (map (entry_use blocks) c.args.entries.now) (IsUseMissed blocks c.args.to c.args.l)) c.loop-k.k c.loop-k.invariant
    (iff_false c.is_entry_missed.ensures c.if-is_entry_missed.false)

pub returns-then-is_entry_missed : goal.returns-then-is_entry_missed
returns-then-is_entry_missed c =
    let blocks = (func_after c.args.func.now (Moved c.args.from c.args.to)).blocks in (
      λ t. in_at (map (entry_use blocks) c.args.entries.now) (IsUseMissed blocks c.args.to c.args.l) c.loop-k.k (c.is_entry_missed.ensures.0 c.if-is_entry_missed.true),
      λ h. refl,
    )

pub returns : goal.returns
returns c =
    let blocks = (func_after c.args.func.now (Moved c.args.from c.args.to)).blocks in (
      λ t. absurd (false≢true t),
      λ h. absurd (none_in (map (entry_use blocks) c.args.entries.now) (IsUseMissed blocks c.args.to c.args.l) c.loop-k.k
          (let end = c.loop-k-test.false in let len = c.len-k-end.ensures in let same = length-map c.args.entries.now (entry_use blocks) in omega arith) c.loop-k.invariant h),
    )
