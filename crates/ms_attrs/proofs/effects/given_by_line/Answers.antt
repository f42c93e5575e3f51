use Rattle.std.proofs.Common.{◌≡◌, ◌∙◌, ap, map, refl}
use Rattle.ms_attrs.specs.Parts.{part_of}
use Rattle.ms_attrs.specs.Texts.{texts_of}
use Rattle.ms_attrs.proofs.TextLemmas.{one_cut}
use Rattle.ms_attrs.proofs.effects.given_by_line.Goals as goal

pub returns : goal.returns
returns c = λ cut cuts.
    let line = c.args.line.now in
    let same = one_cut line (texts_of line c.in_ok-tokens.tokens) (cut line) c.in_ok-tokens.ensures.texts (cuts line) in
    let parts : c.as_slice-2.result.now ≡ map part_of (texts_of c.args.line.now c.in_ok-tokens.tokens) = c.as_slice-2.ensures.value ∙ c.in_ok-parts.ensures ∙ ap (λ ts. map part_of (texts_of c.args.line.now ts)) c.as_slice.ensures in
    rw (c.in_ok-given_among.ensures, c.inside-inner.ensures, c.behind_four.ensures, parts, same) refl
