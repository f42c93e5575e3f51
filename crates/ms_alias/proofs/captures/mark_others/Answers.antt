use Rattle.std.proofs.Common.{refl, sym, ap, ◌∙◌}
use Rattle.ms_alias.specs.Tables.{caught_at}
use Rattle.ms_alias.proofs.Renewed.{unequal}
use Rattle.ms_alias.proofs.captures.mark_others.Goals as goal

pub returns-then-caught_at : goal.returns-then-caught_at
returns-then-caught_at c =
    let was = c.caught_at.ensures ∙ ap (caught_at c.args.old.now) c.set_of-set.ensures in
    let is = c.caught_at-in-loop-l.ensures ∙ ap (caught_at c.args.new.now) c.set_of-set.ensures in
    (λ t. (record { 0 = c.loop-l.l }, λ same. unequal c.caught_at.result c.caught_at-in-loop-l.result c.if-caught_at.true (was ∙ same ∙ sym is)), λ m. refl)
