-- What is printed for a line says the same again.
use Rattle.std.proofs.Common.{◌≡◌, ℕ, List, [], ◌∷◌, ◌++◌, length, map, refl, sym, ap, ◌∙◌, arith}
use Rattle.std.proofs.lemmas.List.{append-nil}
use Rattle.ms_lex.specs.Line.{EndsAfter}
use Rattle.ms_ir.specs.declared.names.Param.{Param}
use Rattle.ms_grammar.specs.Kept.{Each}
use Rattle.ms_grammar.specs.Parts.{text_of}
use Rattle.ms_grammar.specs.Form.{Scale, no_scale, form, inst_parts, result_parts, printed}
use Rattle.ms_grammar.specs.Fits.{FitsLine, IsParam}
use Rattle.ms_grammar.specs.Grammar.{Says, kept_of, without_name}
use Rattle.ms_grammar.specs.declared.line.Line.{Line}
use Rattle.ms_grammar.specs.declared.line.Line.TheVariants as said
use Rattle.ms_grammar.specs.declared.line.RawInst.{RawInst}
use Rattle.ms_grammar.specs.declared.line.RawInst.TheVariants.{Gep, Step}
use Rattle.ms_grammar.proofs.Printing.{text_of_append}
use Rattle.ms_reread.proofs.Places.{Stands, follow_map, whole_tokens}
use Rattle.ms_reread.proofs.Moves.{Old}
use Rattle.ms_reread.proofs.Pieces.{Said}
use Rattle.ms_reread.proofs.Lines.{line_back}

-- the printed form needs no sizes and no indices
inst_text : (s t : Scale) (i : RawInst) → text_of (inst_parts s i) ≡ text_of (inst_parts t i)
inst_text s t (Gep base offset head index rest) = refl
inst_text s t (Step base offset terms head index rest) = refl
inst_text s t i = refl

line_text : (s t : Scale) (l : Line) → text_of (form s l) ≡ text_of (form t l)
line_text s t (said.Inst n inst) =
    ap (λ x. 32 ∷ 32 ∷ x) (text_of_append (result_parts n) (inst_parts s inst) ∙ (ap (λ x. text_of (result_parts n) ++ x) (inst_text s t inst) ∙ sym (text_of_append (result_parts n) (inst_parts t inst))))
line_text s t l = refl

-- parameters without names
each_bare : (ps : List Param) → Each IsParam (map without_name ps)
each_bare [] = tt
each_bare (p ∷ ps) = (tt, each_bare ps)

pub fits_kept : (scale : Scale) (l : Line) → FitsLine scale l → FitsLine scale (kept_of l)
fits_kept scale (said.Declare head) h = (h.0, each_bare head.params)
fits_kept scale said.Empty h = h
fits_kept scale said.Close h = h
fits_kept scale (said.Kept text) h = h
fits_kept scale (said.Group n text) h = h
fits_kept scale (said.GlobalVar name text) h = h
fits_kept scale (said.Label n) h = h
fits_kept scale (said.Define head) h = h
fits_kept scale (said.Inst n inst) h = h
fits_kept scale (said.Term term) h = h

pub old_line : (bytes : List ℕ) (w : Line) (says : Says bytes w) → Old bytes says.tokens
old_line bytes w says = record {
  from = 0;
  follow = follow_map bytes (EndsAfter bytes) (λ place. Unit {0}) 0 says.tokens (λ place end. tt) says.are_tokens;
  readable = says.readable;
}

-- the parts of a line's printed form, where it stands
whole_line : (bytes : List ℕ) (w : Line) (says : Says bytes w) → Said (printed (kept_of w)) 0 (length (printed (kept_of w))) (form says.scale (kept_of w))
whole_line bytes w says =
    let line : List ℕ = printed (kept_of w) in
    let text : List ℕ = text_of (form says.scale (kept_of w)) in
    let same : line ≡ text = line_text no_scale says.scale (kept_of w) in
    let stands : Stands line 0 text [] = record { within = omega arith; here = same ∙ sym (append-nil text) } in
    let long : length line ≡ length text = ap length same in
    (line_back says.scale w says.fits).again bytes says.tokens (old_line bytes w says) says.spelled line [] 0 (length line) stands tt (omega arith)

pub said_again : (bytes : List ℕ) (w : Line) → Says bytes w → Says (printed (kept_of w)) (kept_of w)
said_again bytes w says =
    let again = whole_line bytes w says in
    record {
      tokens = again.tokens;
      scale = says.scale;
      are_tokens = whole_tokens (printed (kept_of w)) again.tokens again.follow;
      readable = again.readable;
      spelled = again.spelled;
      fits = fits_kept says.scale w says.fits;
    }
