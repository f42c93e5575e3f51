use Rattle.ms_line_parts.proofs.Values.{no_local, number_alone}
use Rattle.ms_line_parts.proofs.words.value_at.Goals as goal
use Rattle.ms_line_parts.proofs.words.value_at.Goals.{in_default-via-in-Global+else-is_pointer, in_default-via-in_default}

pub returns-in-None : goal.returns-in-None
returns-in-None c = no_local c.args.line.now c.args.token c.args.ty c.requires c.in-Local.is (rw c.in-None.is at c.in_ok-name-in-Local.ensures)

pub returns-in_default : goal.returns-in_default
returns-in_default c =
    number_alone c.args.line.now c.args.token c.args.ty _ c.number_value.result c.requires
    (λ e. elim c.in_default.branch [ in_default-via-in-Global+else-is_pointer w ↦ cc (w.in-Global.is) | in_default-via-in_default w ↦ w.in_default.not-Local e ])
    (λ e p. elim c.in_default.branch [ in_default-via-in-Global+else-is_pointer w ↦ (let t = w.if-is_pointer.ensures.1 p in cc) | in_default-via-in_default w ↦ w.in_default.not-Global e ])
    c.number_value.ensures
