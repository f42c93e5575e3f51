use Rattle.std.proofs.Common.{sym, ap, subst, ◌∙◌, List}
use Rattle.std.proofs.lemmas.Bool.{false≢true}
use Rattle.ms_lex.specs.Line.{IsTokens}
use Rattle.ms_lex.proofs.OneList.{no_list}
use Rattle.ms_line.specs.Sorts.{sort_of}
use Rattle.ms_read.specs.Places.{is_inst}
use Rattle.ms_script.proofs.PastLines.{fitting_told, not_inst}
use Rattle.ms_script.proofs.past.fits_past.Goals as goal

pub returns-in-Err-NotOfProfile : goal.returns-in-Err-NotOfProfile
returns-in-Err-NotOfProfile c = absurd ((rw c.in-Err-NotOfProfile.field-0-is at c.in-Err-NotOfProfile.ensures.err) c.requires.past.written c.requires.past.says)

pub returns-then-not-is_inst : goal.returns-then-not-is_inst
returns-then-not-is_inst c =
    let of = c.in-Ok.ensures.ok in (
      λ t. absurd (false≢true t),
      λ h. absurd (not_inst c.args.m.now c.args.line.now of.written of.says (ap is_inst (sym of.is) ∙ sym c.if-not-is_inst.ensures) h),
    )

pub returns-in-Err-Bad : goal.returns-in-Err-Bad
returns-in-Err-Bad c =
    let past = c.requires.past.says in
    absurd (no_list c.args.line.now past.tokens c.in-Err-Bad.field-0-0 past.are_tokens (rw c.in-Err-Bad.field-0-is at c.in-Err-Bad.ensures.err))

pub returns : goal.returns
returns c =
    let of = c.in-Ok.ensures.ok in
    fitting_told c.args.m.now c.args.line.now c.as_slice.result.now of.written c.in_ok-fits_by_tokens.field-0
    (subst (λ ts. IsTokens c.args.line.now ts) (sym c.as_slice.ensures) c.in-Ok-tokens.ensures.ok) of.says (ap is_inst (sym of.is) ∙ sym c.if-not-is_inst.ensures) c.in_ok-fits_by_tokens.ensures
