use Rattle.std.proofs.Common.{◌≡◌, ◌∙◌, ap, map, refl}
use Rattle.ms_attrs.specs.Parts.{part_of}
use Rattle.ms_attrs.specs.Texts.{texts_of}
use Rattle.ms_attrs.proofs.captures.keeps_in.Goals as goal

pub returns : goal.returns
returns c =
    let parts : c.as_slice-2.result.now ≡ map part_of (texts_of c.args.line.now c.in_ok-tokens.tokens) = c.as_slice-2.ensures.value ∙ c.in_ok-parts.ensures ∙ ap (λ ts. map part_of (texts_of c.args.line.now ts)) c.as_slice.ensures in
    record {
      texts = texts_of c.args.line.now c.in_ok-tokens.tokens;
      are_texts = c.in_ok-tokens.ensures.texts;
      value = rw (c.is_released_among.ensures, parts) refl;
    }
