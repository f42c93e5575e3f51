use Rattle.std.proofs.Common.{◌≡◌, ◌<◌, Option, subst}
use Rattle.std.specs.Prelude.{MatchOption}
use Rattle.ms_ir.specs.declared.names.BlockNo.{BlockNo}
use Rattle.ms_ir.specs.Changes.{IsCondBr, cut_target}
use Rattle.ms_ir.specs.Edits.{HasNoSlot, term_at}
use Rattle.ms_edits.proofs.UnlinkLemmas.{cut_in}
use Rattle.ms_edits.proofs.kinds.is_bad_unlink.Goals as goal

pub leaves_phis-requires-clause-there : goal.leaves_phis-requires-clause-there
leaves_phis-requires-clause-there c =
    let f = c.args.func.now in
    let b = c.args.b.0 in
    let h = subst
    (λ (o : Option BlockNo). MatchOption o (HasNoSlot f b c.args.slot) (λ t. IsCondBr (term_at f.blocks b) × (c.args.slot < 2) × (cut_target (term_at f.blocks b) c.args.slot ≡ t)))
    c.in-Some.is c.in_ok-target.ensures in
    cut_in f c.requires.sound b c.args.slot c.in-Some.target h.0 h.2
