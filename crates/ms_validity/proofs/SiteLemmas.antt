-- The faults of a function's lines, by the places of the lines and by the places of the function.
use Rattle.std.proofs.Common.{◌≡◌, ℕ, ◌⊎◌, length, Some, refl, sym, ap, ◌∙◌, subst, inl, inr, ⊎_elim, arith}
use Rattle.std.specs.Prelude.{◌↔◌}
use Rattle.std.specs.List.{slice_get}
use Rattle.std.proofs.lemmas.Option.{same_Some}
use Rattle.ms_ir.specs.declared.inst.Inst.{Inst}
use Rattle.ms_ir.specs.declared.inst.Term.{Term}
use Rattle.ms_ir.specs.Func.{Placed, Block, FuncState}
use Rattle.ms_ir.specs.Module.{ModuleState}
use Rattle.ms_resolve.specs.Shape.{InstLine, BlockLines, FuncLines}
use Rattle.ms_resolve.specs.Scope.{Scope, func_of}
use Rattle.ms_resolve.specs.Module.{inst_lines_of, term_lines_of, term_line_of}
use Rattle.ms_resolve.specs.Cause.{lines_of_body}
use Rattle.ms_validity.specs.declared.phase.Phase.{Phase}
use Rattle.ms_validity.specs.Faults.{HasInst, HasTerm}
use Rattle.ms_validity.specs.Told.{BodyHas, InstFault, InstHas, TermFault, TermHas}
use Rattle.ms_validity.proofs.BuiltLemmas.{built_at, term_from}
use Rattle.ms_validity.proofs.ListLemmas.{map_get}
use Rattle.ms_validity.proofs.SpotLemmas.{block_within}

-- a line of the function has the fault, by the places of the lines
abbrev pub InstSite : FuncLines → FuncState → (ℕ → ℕ → Inst → Type 0) → ℕ → Type 0
InstSite l f P n = (b k : ℕ) × (line : InstLine) × (x : Placed) × HasInst l f n b k line x × P b k x.inst

abbrev pub TermSite : FuncLines → FuncState → (ℕ → Term → Type 0) → ℕ → Type 0
TermSite l f P n = (b : ℕ) × (block : BlockLines) × (x : Block) × HasTerm l f n b block x × P b x.term

abbrev pub SiteHas : Phase → ModuleState → FuncLines → FuncState → ℕ → Type 0
SiteHas phase m l f n = InstSite l f (InstFault phase m f) n ⊎ TermSite l f (TermFault phase f) n

inst_site : (phase : Phase) (m : ModuleState) (s : Scope) (sp : ℕ) (l : FuncLines) (n i : ℕ) → InstHas phase m (func_of s sp l) (inst_lines_of l) i n
    → InstSite l (func_of s sp l) (InstFault phase m (func_of s sp l)) n
inst_site phase m s sp l n i w =
    let r = built_at s 0 0 (length l.head.params) l.blocks w.0 w.1 w.2 w.3.found in
    let number = r.5.1 in
    let numbered = w.3.numbered in
    let same : r.5.0 ≡ i = omega arith in
    let listed = subst (λ j. slice_get (inst_lines_of l) j ≡ Some r.1.line) same r.5.2 in
    (w.0, w.1, r.1, w.2, record { block = r.0; block_is = r.2; line_is = r.3; inst_is = w.3.found; on = same_Some r.1.line n (sym listed ∙ w.4) }, w.5)

site_inst : (phase : Phase) (m : ModuleState) (s : Scope) (sp : ℕ) (l : FuncLines) (n : ℕ) → InstSite l (func_of s sp l) (InstFault phase m (func_of s sp l)) n
    → (i : ℕ) × InstHas phase m (func_of s sp l) (inst_lines_of l) i n
site_inst phase m s sp l n w =
    let f = func_of s sp l in
    let h = w.4 in
    let r = built_at s 0 0 (length l.head.params) l.blocks w.0 w.1 w.3 h.inst_is in
    let block : h.block ≡ r.0 = same_Some h.block r.0 (sym h.block_is ∙ r.2) in
    let here = subst (λ (z : BlockLines). slice_get z.insts w.1 ≡ Some w.2) block h.line_is in
    let line : w.2 ≡ r.1 = same_Some w.2 r.1 (sym here ∙ r.3) in
    let number = r.5.1 in
    let same : r.5.0 ≡ w.3.number = omega arith in
    let listed = subst (λ j. slice_get (inst_lines_of l) j ≡ Some r.1.line) same r.5.2 in
    let on : r.1.line ≡ n = ap (λ (z : InstLine). z.line) (sym line) ∙ h.on in
    (w.3.number, (w.0, w.1, w.3, record { block = block_within f.blocks w.0 w.1 w.3 h.inst_is; found = h.inst_is; numbered = refl }, listed ∙ ap (λ x. Some x) on, w.5))

term_site : (phase : Phase) (s : Scope) (sp : ℕ) (l : FuncLines) (n b : ℕ) → TermHas phase (func_of s sp l) (term_lines_of l) b n
    → TermSite l (func_of s sp l) (TermFault phase (func_of s sp l)) n
term_site phase s sp l n b w =
    let r = term_from s 0 0 (length l.head.params) l.blocks b w.0 w.1 in
    (b, r.0, w.0, record { block_is = r.1; term_is = w.1; on = same_Some (term_line_of r.0) n (sym (map_get term_line_of l.blocks b r.0 r.1) ∙ w.2) }, w.3)

site_term : (phase : Phase) (s : Scope) (sp : ℕ) (l : FuncLines) (n : ℕ) → TermSite l (func_of s sp l) (TermFault phase (func_of s sp l)) n
    → (b : ℕ) × TermHas phase (func_of s sp l) (term_lines_of l) b n
site_term phase s sp l n w =
    (w.0, (w.2, w.3.term_is, map_get term_line_of l.blocks w.0 w.1 w.3.block_is ∙ ap (λ x. Some x) w.3.on, w.4))

pub body_sites : (phase : Phase) (m : ModuleState) (s : Scope) (sp : ℕ) (l : FuncLines) (n : ℕ)
    → BodyHas phase m (func_of s sp l) (lines_of_body l) n ↔ SiteHas phase m l (func_of s sp l) n
body_sites phase m s sp l n = (
  λ h. ⊎_elim (λ (w : (i : ℕ) × InstHas phase m (func_of s sp l) (inst_lines_of l) i n). inl (inst_site phase m s sp l n w.0 w.1))
      (λ (w : (b : ℕ) × TermHas phase (func_of s sp l) (term_lines_of l) b n). inr (term_site phase s sp l n w.0 w.1)) h,
  λ h. ⊎_elim (λ (w : InstSite l (func_of s sp l) (InstFault phase m (func_of s sp l)) n). inl (site_inst phase m s sp l n w))
      (λ (w : TermSite l (func_of s sp l) (TermFault phase (func_of s sp l)) n). inr (site_term phase s sp l n w)) h,
)
