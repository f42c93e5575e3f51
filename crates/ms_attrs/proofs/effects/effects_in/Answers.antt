use Rattle.std.proofs.Common.{◌≡◌, ◌∙◌, ap, map, refl}
use Rattle.ms_attrs.specs.Parts.{part_of}
use Rattle.ms_attrs.specs.Texts.{texts_of}
use Rattle.ms_attrs.proofs.TextLemmas.{one_cut, cut, cut_cuts}
use Rattle.ms_attrs.proofs.effects.effects_in.Goals as goal

pub returns : goal.returns
returns c =
    let line = c.args.line.now in
    let same = one_cut line (texts_of line c.in_ok-tokens.tokens) (cut line) c.in_ok-tokens.ensures.texts (cut_cuts line) in
    let parts : c.as_slice-2.result.now ≡ map part_of (texts_of c.args.line.now c.in_ok-tokens.tokens) = c.as_slice-2.ensures.value ∙ c.in_ok-parts.ensures ∙ ap (λ ts. map part_of (texts_of c.args.line.now ts)) c.as_slice.ensures in
    record {
      cut = cut;
      cuts = cut_cuts;
      value = rw (c.in_both.ensures, c.in_ok-own.ensures, parts, c.in_ok-grouped.ensures cut cut_cuts, c.as_slice-3.ensures, same) refl;
    }
