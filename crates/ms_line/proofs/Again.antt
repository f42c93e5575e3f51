-- What is printed for a line that was read is read as the same line.
use Rattle.std.proofs.Common.{◌≡◌, ◌≤◌, ℕ, List, [], ◌∷◌, map, refl, sym, ap, subst, ◌∙◌, arith}
use Rattle.std.specs.Prelude.{flat_map}
use Rattle.ms_ir.specs.declared.names.Param.{Param}
use Rattle.ms_grammar.specs.Form.{printed}
use Rattle.ms_grammar.specs.Grammar.{Says, kept_of, without_name}
use Rattle.ms_grammar.specs.Kept.{Each}
use Rattle.ms_grammar.specs.Limits.{IsShort, IsWithinLimits, names_of_param}
use Rattle.ms_grammar.specs.declared.line.Line.{Line}
use Rattle.ms_grammar.specs.declared.line.Line.TheVariants as line
use Rattle.ms_line.specs.Cause.{IsRead, IsReadAgain}

params_twice : (ps : List Param) → map without_name ps ≡ map without_name (map without_name ps)
params_twice [] = refl
params_twice (p ∷ ps) = ap (λ l. without_name p ∷ l) (params_twice ps)

kept_twice : (w : Line) → kept_of w ≡ kept_of (kept_of w)
kept_twice (line.Declare head) = ap (λ ps. line.Declare (record head { params = ps })) (params_twice head.params)
kept_twice line.Empty = refl
kept_twice line.Close = refl
kept_twice (line.Kept text) = refl
kept_twice (line.Group n text) = refl
kept_twice (line.GlobalVar name text) = refl
kept_twice (line.Label n) = refl
kept_twice (line.Define head) = refl
kept_twice (line.Inst n inst) = refl
kept_twice (line.Term term) = refl

no_names : (ps : List Param) → Each IsShort (flat_map names_of_param (map without_name ps))
no_names [] = tt
no_names (p ∷ ps) = (omega arith, no_names ps)

-- what is kept of a line is within the limits
pub kept_within : (w : Line) → IsWithinLimits w → IsWithinLimits (kept_of w)
kept_within (line.Declare head) h = ((h.0.0, no_names head.params), tt)
kept_within line.Empty h = h
kept_within line.Close h = h
kept_within (line.Kept text) h = h
kept_within (line.Group n text) h = h
kept_within (line.GlobalVar name text) h = h
kept_within (line.Label n) h = h
kept_within (line.Define head) h = h
kept_within (line.Inst n inst) h = h
kept_within (line.Term term) h = h

pub read_again : ((bytes : List ℕ) (w : Line) → Says bytes w → Says (printed (kept_of w)) (kept_of w)) → (bytes : List ℕ) (l : Line) → IsRead bytes l → IsReadAgain l
read_again law bytes l r =
    let same : l ≡ kept_of l = r.kept ∙ kept_twice r.written ∙ ap kept_of (sym r.kept) in
    let says : Says (printed l) l = subst (λ x. Says (printed x) x) (sym r.kept) (law bytes r.written r.says) in
    record { as_itself = record { written = l; says = says; within = subst IsWithinLimits (sym r.kept) (kept_within r.written r.within); kept = same } }
