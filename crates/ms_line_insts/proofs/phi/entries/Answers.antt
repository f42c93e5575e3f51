use Rattle.std.proofs.Common.{List, [], ◌∷◌, ◌++◌, sym, ap, subst, ◌∙◌}
use Rattle.ms_grammar.specs.Fits.{IsEntryOf}
use Rattle.ms_grammar.specs.declared.line.RawEntry.{RawEntry}
use Rattle.ms_grammar.specs.Form.{entry_parts}
use Rattle.ms_line_insts.specs.Front.{Always}
use Rattle.ms_line_insts.specs.ListFronts.{IsTail, behind_comma}
use Rattle.ms_line_insts.proofs.Entries.{always_if, never_if, entry_no_end}
use Rattle.ms_line_insts.proofs.Lists.{so_far_first, so_far_more, so_far_end, no_first}
use Rattle.ms_line_insts.proofs.Lists.{SoFar}
use Rattle.ms_line_insts.proofs.phi.entries.Goals as goal

pub returns-in_default : goal.returns-in_default
returns-in_default c =
    no_first Always IsTail (IsEntryOf c.args.ty) entry_parts c.args.line.now c.args.tokens.now (λ ys ps ends. tt) (never_if (IsEntryOf c.args.ty) entry_parts c.args.line.now c.args.tokens.now (rw c.in_default.is at c.in_ok-first.ensures))

pub loop-entries-init : goal.loop-entries-init
loop-entries-init c =
    subst (λ (xs : List RawEntry). SoFar IsTail (IsEntryOf c.args.ty) entry_parts c.args.line.now c.args.tokens.now xs c.in-Some.behind.now) (sym (c.in_ok-push.ensures.ok ∙ ap (λ l. l ++ c.in-Some.first ∷ []) c.new-entries.ensures))
    (so_far_first Always IsTail (IsEntryOf c.args.ty) entry_parts c.args.line.now c.args.tokens.now c.in-Some.first c.in-Some.behind.now (λ ys ps ends. tt) (always_if (IsEntryOf c.args.ty) entry_parts c.args.line.now c.args.tokens.now c.in-Some.first c.in-Some.behind.now (rw c.in-Some.is at c.in_ok-first.ensures)))

pub loop-entries-preserved : goal.loop-entries-preserved
loop-entries-preserved c =
    let at = c.loop-entries.at.now in
    let a = rw c.in-Some-2.is at c.in_ok-entry.ensures in
    subst (λ (xs : List RawEntry). SoFar IsTail (IsEntryOf c.args.ty) entry_parts c.args.line.now c.args.tokens.now xs c.in-Some-2.rest.now) (sym c.in_ok-push-2.ensures.ok)
    (so_far_more Always IsTail (IsEntryOf c.args.ty) entry_parts c.args.line.now c.args.tokens.now c.loop-entries.entries c.in-Some-2.entry at c.in-Some-2.rest.now (λ ys ps ends. tt) c.loop-entries.invariant
    (always_if (IsEntryOf c.args.ty) (behind_comma entry_parts) c.args.line.now at c.in-Some-2.entry c.in-Some-2.rest.now a) (entry_no_end c.args.line.now at c.args.ty c.in-Some-2.entry c.in-Some-2.rest.now a))

pub returns : goal.returns
returns c =
    so_far_end Always IsTail (IsEntryOf c.args.ty) entry_parts c.args.line.now c.args.tokens.now c.loop-entries.entries c.loop-entries.at.now (λ ys ps ends. tt) c.loop-entries.invariant
    (never_if (IsEntryOf c.args.ty) (behind_comma entry_parts) c.args.line.now c.loop-entries.at.now (rw c.in_default-2.is at c.in_ok-entry.ensures))
