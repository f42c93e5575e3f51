use Rattle.std.proofs.Common.{length, refl, ap, inl, inr, arith}
use Rattle.std.proofs.lemmas.Bool.{iff_false}
use Rattle.ms_paths.specs.Flow.{Block as Run}
use Rattle.ms_edits.specs.declared.spots.After.TheVariants.{Moved}
use Rattle.ms_edits.specs.Moved.{func_after}
use Rattle.ms_edits.proofs.MissedLemmas.{ends_some, insts_some, some_split}
use Rattle.ms_edits.proofs.moves.is_some_missed.Goals as goal

pub behind-requires : goal.behind-requires
behind-requires c =
    let len = c.same_paths.ensures.blocks c.args.func.now.blocks in
    let flow = ap (length {A = Run}) c.requires.graph in
    let lt = c.requires.moves.to_in in
    omega arith

pub returns-then-are_insts_missed : goal.returns-then-are_insts_missed
returns-then-are_insts_missed c = (
  λ t. insts_some (func_after c.args.func.now (Moved c.args.from c.args.to)).blocks c.args.to c.args.l (c.are_insts_missed.ensures.0 c.if-are_insts_missed.true),
  λ h. refl,
)

pub returns : goal.returns
returns c =
    let blocks = (func_after c.args.func.now (Moved c.args.from c.args.to)).blocks in (
      λ t. ends_some blocks c.args.to c.args.l (c.are_ends_missed.ensures.0 t),
      λ h. elim (some_split blocks c.args.to c.args.l h) [
        | inl a ↦ absurd (iff_false c.are_insts_missed.ensures c.if-are_insts_missed.false a)
        | inr a ↦ c.are_ends_missed.ensures.1 a
      ],
    )
