use Rattle.ms_output.proofs.Near.{draft_small}
use Rattle.ms_output.proofs.Opened.{open_of}
use Rattle.ms_output.proofs.Shapes.{has_shape}
use Rattle.ms_test_scripts.proofs.modules.accepted.Goals as goal

pub accept-requires : goal.accept-requires
accept-requires c =
    let draft = c.args.draft.now in
    let text = c.requires in
    record { shape = has_shape draft (c.draft_told.ensures.lines text.0 draft text.1) (c.places_told.ensures.walk _ (c.draft_told.ensures.shape text.0 draft text.1)) }

pub returns-in-Ok : goal.returns-in-Ok
returns-in-Ok c =
    let draft = c.args.draft.now in
    let text = c.requires in
    let accepted = c.in-Ok.ensures.ok in
    open_of draft c.in-Ok.module (draft_small text.0 draft text.1) (c.accepted_are_sound.ensures text.0 draft c.in-Ok.module text.1 accepted) accepted
