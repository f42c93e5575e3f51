-- A function that is an accepted one in order, but for its names, has no fault in its types, its edges or the order of uses.
use Rattle.std.proofs.Common.{◌≡◌, ◌+ℤ◌, ℕ, ℤ, List, [], ◌∷◌, Option, Some, None, map, filter, refl, sym, ap, subst, ◌∙◌, inl, inr, ⊎_elim}
use Rattle.std.specs.Prelude.{◌≢◌, Contains, slice_get}
use Rattle.std.specs.List.{flat_map}
use Rattle.ms_ir.specs.declared.names.Ty.{Ty}
use Rattle.ms_ir.specs.declared.inst.Val.{Val}
use Rattle.ms_ir.specs.declared.inst.IndexTerm.{IndexTerm}
use Rattle.ms_ir.specs.declared.inst.Inst.{Inst}
use Rattle.ms_ir.specs.declared.inst.Inst.TheVariants.{Alloca, Gep, Step, Load, Store, Copy, Call, Bin, Cmp, Select, Cast, Phi}
use Rattle.ms_ir.specs.declared.inst.Term.{Term}
use Rattle.ms_ir.specs.declared.inst.Term.TheVariants.{Br, CondBr, Ret, Unreachable}
use Rattle.ms_ir.specs.Func.{Placed, Block, FuncState, insts_at}
use Rattle.ms_ir.specs.Module.{ModuleState}
use Rattle.ms_ir.specs.Uses.{operands_of, term_operands, uses_at, term_uses_at}
use Rattle.ms_ir.specs.Sound.{HasBadEntries, LeadsToFirst}
use Rattle.ms_ir.specs.SoundFunc.{IsSoundFunc}
use Rattle.ms_grammar.specs.declared.line.RawInst.{RawInst}
use Rattle.ms_resolve.specs.Shape.{BlockLines}
use Rattle.ms_resolve.specs.Used.{values_of, term_values, callee_of, global_of}
use Rattle.ms_resolve.specs.Faults.{IsIn}
use Rattle.ms_validity.specs.Faults.{HasInst, HasTerm, CallsOtherwise, ReturnsOtherwise, HasTypeFaultIn, HasEdgeFaultIn, HasOrderFaultIn, given_type}
use Rattle.ms_validity.specs.Faults as valid
use Rattle.ms_grammar.specs.Parts.{filled}
use Rattle.ms_again.specs.Ordered.{arg_by, step_of, kept_term, is_open, index_by, added_in, inst_by, given_by, term_by, ordered, ordered_val}
use Rattle.ms_again.proofs.Carried.{AreAlike, other_inst, other_block, other_type_alike, entries_alike, uses_alike, term_uses_alike, before_alike}
use Rattle.ms_again.proofs.NameSound.{inst_globals, term_globals, callee_is}
use Rattle.ms_again.proofs.ValidSound.{calls_same}
use Rattle.ms_reprint.proofs.Parts.{at_from, block_from, operands_by, from_mapped, term_operands_by}
use Rattle.ms_reprint.proofs.Lines.{ren}
use Rattle.ms_reprint.proofs.Names.{target_of}
use Rattle.ms_reprint.proofs.Said.{contains_at}
use Rattle.ms_reprint.proofs.Faults.{Lined, func_lines, block_of_lines, inst_of_lines, term_globals_none, no_other_type, fits_back}

step_calls : (m : ModuleState) (b : Val) (o : ℤ) (ts : List IndexTerm) (head index tail : List ℕ) → CallsOtherwise m (step_of b o ts head index tail) → ⊥
step_calls m b o [] head index tail h = h
step_calls m b o (t ∷ ts) head index tail h = h

calls_back : (m : ModuleState) (v : Val → Val) (i : Inst) → CallsOtherwise m (inst_by v i) → CallsOtherwise m i
calls_back m v (Call callee ret args effects head tail) h =
    (h.0, h.1, ⊎_elim (λ (r : ret ≢ h.0.ret). inl r) (λ (w : valid.ArgsFit h.0 (map (arg_by v) args) → ⊥). inr (λ fits. w (fits_back h.0 v args fits))) h.2)
calls_back m v (Step base offset terms head index tail) h =
    step_calls m (v base) (offset +ℤ added_in (map (index_by v) terms)) (filter is_open (map (index_by v) terms)) head (filled (map kept_term (map (index_by v) terms)) index) tail h
calls_back m v (Alloca size head tail) h = h
calls_back m v (Gep base offset head index tail) h = h
calls_back m v (Load ty ptr tail) h = h
calls_back m v (Store ty val ptr tail) h = h
calls_back m v (Copy to from len head tail) h = h
calls_back m v (Bin op flags ty a b tail) h = h
calls_back m v (Cmp pred flags ty a b tail) h = h
calls_back m v (Select c ty a b tail) h = h
calls_back m v (Cast op flags from a to tail) h = h
calls_back m v (Phi ty entries tail) h = h

same_given : (v : Val → Val) (given : Option (Ty × Val)) → given_type (given_by v given) ≡ given_type given
same_given v None = refl
same_given v (Some g) = refl

returns_back : (f g : FuncState) (v : Val → Val) (t : Term) → g.ret ≡ f.ret → ReturnsOtherwise g (term_by v t) → ReturnsOtherwise f t
returns_back f g v (Ret given tail) e h = λ same. h (same_given v given ∙ same ∙ sym e)
returns_back f g v (Br to tail) e h = h
returns_back f g v (CondBr c a b tail) e h = h
returns_back f g v (Unreachable tail) e h = h

-- the instruction of the function
record Was (f : FuncState) (b k : ℕ) (x : Placed) : Type 0 where
  pub z : Placed
  pub there : slice_get (insts_at f.blocks b) k ≡ Some z
  pub y : Placed
  pub at : slice_get (insts_at (ordered f).blocks b) k ≡ Some y
  pub same : y.inst ≡ x.inst
  pub is : y.inst ≡ inst_by (ordered_val f) z.inst

was_inst : (f g : FuncState) → AreAlike g (ordered f) → (b k : ℕ) (x : Placed) → slice_get (insts_at g.blocks b) k ≡ Some x → Was f b k x
was_inst f g alike b k x at =
    let o = other_inst g (ordered f) alike b k x at in
    let r = at_from f 0 f.blocks b k o.y o.there in
    record { z = r.x; there = r.there; y = o.y; at = o.there; same = ap (λ (p : Placed). p.inst) o.same; is = ap (λ (p : Placed). p.inst) r.is }

record WasTerm (f : FuncState) (b : ℕ) (x : Block) : Type 0 where
  pub z : Block
  pub there : slice_get f.blocks b ≡ Some z
  pub y : Block
  pub at : slice_get (ordered f).blocks b ≡ Some y
  pub same : y.term ≡ x.term
  pub is : y.term ≡ term_by (ordered_val f) z.term

was_term : (f g : FuncState) → AreAlike g (ordered f) → (b : ℕ) (x : Block) → slice_get g.blocks b ≡ Some x → WasTerm f b x
was_term f g alike b x at =
    let o = other_block g (ordered f) alike b x at in
    let r = block_from f 0 f.blocks b o.y o.there in
    record { z = r.x; there = r.there; y = o.y; at = o.there; same = ap (λ (p : Block). p.term) o.same; is = r.term_is }

in_same : {X : Type 0} (xs ys : List X) (x : X) → xs ≡ ys → IsIn xs x → Contains ys x
in_same {X} xs ys x e h = let P : List X → Type 0 = λ l. Contains l x in subst P e (contains_at xs h.0 x h.1)

is_in_same : {X : Type 0} (xs ys : List X) (x : X) → xs ≡ ys → IsIn xs x → IsIn ys x
is_in_same {X} xs ys x e h = let P : List X → Type 0 = λ l. IsIn l x in subst P e h

-- functions and globals have other names
abbrev pub AreOthers : ModuleState → Type 0
AreOthers m = (n : List ℕ) → IsIn m.names.funcs n → IsIn m.names.globals n → ⊥

-- types
pub no_type_fault : (m o : ModuleState) → o.names ≡ m.names → o.sigs ≡ m.sigs → AreOthers m → (f g : FuncState) (w : Lined m f) → AreAlike g (ordered f) → (n : ℕ) → HasTypeFaultIn o (func_lines m f w) g n → ⊥
no_type_fault m o names sigs others f g w alike n (valid.HasTypeFaultIn.operand b k line x p h on other) =
    let was = was_inst f g alike b k x h.inst_is in
    let there = in_same (operands_of x.inst) (operands_of (inst_by (ordered_val f) was.z.inst)) p (ap operands_of (sym was.same ∙ was.is)) on in
    let from = operands_by (ordered_val f) was.z.inst p there in
    no_other_type f w.numbered p from.was ((w.accepted.sound.insts b k was.z was.there).operands from.was from.there) from.is (other_type_alike g (ordered f) alike p other)
no_type_fault m o names sigs others f g w alike n (valid.HasTypeFaultIn.func_operand b k line x name h on there) =
    let r = block_of_lines m f w b h.block h.block_is in
    let i = inst_of_lines m f f.blocks b h.block r k line h.line_is in
    let own = is_in_same (flat_map global_of (values_of line.inst)) (flat_map global_of (values_of i.of.said.line)) name
    (ap (λ (l : RawInst). flat_map global_of (values_of l)) i.is ∙ inst_globals (ren (target_of f) i.of.said.scope) i.of.said.line) on in
    others name (is_in_same o.names.funcs m.names.funcs name (ap (λ s. s.funcs) names) there) (i.of.said.globals name own)
no_type_fault m o names sigs others f g w alike n (valid.HasTypeFaultIn.global_called b k line x name h on there) =
    let r = block_of_lines m f w b h.block h.block_is in
    let i = inst_of_lines m f f.blocks b h.block r k line h.line_is in
    let own = is_in_same (callee_of line.inst) (callee_of i.of.said.line) name (ap callee_of i.is ∙ callee_is (ren (target_of f) i.of.said.scope) i.of.said.line) on in
    others name (i.of.said.callee name own) (is_in_same o.names.globals m.names.globals name (ap (λ s. s.globals) names) there)
no_type_fault m o names sigs others f g w alike n (valid.HasTypeFaultIn.call b k line x name h on there calls) =
    let was = was_inst f g alike b k x h.inst_is in
    let own = subst (λ (i : Inst). CallsOtherwise m i) (sym was.same ∙ was.is) (calls_same o m x.inst sigs calls) in
    w.accepted.calls b k was.z was.there (calls_back m (ordered_val f) was.z.inst own)
no_type_fault m o names sigs others f g w alike n (valid.HasTypeFaultIn.term_operand b block x p h on other) =
    let was = was_term f g alike b x h.term_is in
    let there = in_same (term_operands x.term) (term_operands (term_by (ordered_val f) was.z.term)) p (ap term_operands (sym was.same ∙ was.is)) on in
    let from = from_mapped (ordered_val f) (term_operands was.z.term) (term_operands (term_by (ordered_val f) was.z.term)) p (term_operands_by (ordered_val f) was.z.term) there in
    no_other_type f w.numbered p from.was ((w.accepted.sound.terms b was.z was.there).operands from.was from.there) from.is (other_type_alike g (ordered f) alike p other)
no_type_fault m o names sigs others f g w alike n (valid.HasTypeFaultIn.func_returned b block x name h on there) =
    let r = block_of_lines m f w b block h.block_is in
    let own = is_in_same (flat_map global_of (term_values block.end.term)) (flat_map global_of (term_values r.of.term.line)) name
    (ap (λ (l : BlockLines). flat_map global_of (term_values l.end.term)) r.is ∙ term_globals (ren (target_of f) r.of.term.scope) r.of.term.line) on in
    term_globals_none r.of.term.line r.of.term.says.fits name own
no_type_fault m o names sigs others f g w alike n (valid.HasTypeFaultIn.returned b block x h returns) =
    let was = was_term f g alike b x h.term_is in
    w.accepted.returns b was.z was.there
    (returns_back f g (ordered_val f) was.z.term (ap (λ (s : FuncState). s.ret) alike) (subst (λ (t : Term). ReturnsOtherwise g t) (sym was.same ∙ was.is) returns))

-- edges
pub no_edge_fault : (m : ModuleState) (f g : FuncState) (w : Lined m f) → IsSoundFunc (ordered f) → AreAlike g (ordered f) → (n : ℕ) → HasEdgeFaultIn (func_lines m f w) g n → ⊥
no_edge_fault m f g w sound alike n (valid.HasEdgeFaultIn.branch b block x h leads) =
    let was = was_term f g alike b x h.term_is in
    (sound.terms b was.y was.at).targets (subst (λ (t : Term). LeadsToFirst t) (sym was.same) leads)
no_edge_fault m f g w sound alike n (valid.HasEdgeFaultIn.phi b k line x h bad) =
    let was = was_inst f g alike b k x h.inst_is in
    (sound.insts b k was.y was.at).entries (subst (λ (i : Inst). HasBadEntries (ordered f).blocks b i) (sym was.same) (entries_alike g (ordered f) alike b x.inst bad))

-- the order of uses
pub no_order_fault : (m : ModuleState) (f g : FuncState) (w : Lined m f) → IsSoundFunc (ordered f) → AreAlike g (ordered f) → (n : ℕ) → HasOrderFaultIn (func_lines m f w) g n → ⊥
no_order_fault m f g w sound alike n (valid.HasOrderFaultIn.inst b k line x u h on before) =
    let was = was_inst f g alike b k x h.inst_is in
    (sound.insts b k was.y was.at).uses u
    (in_same (uses_at g.blocks b k x.inst) (uses_at (ordered f).blocks b k was.y.inst) u (uses_alike g (ordered f) alike b k x.inst ∙ ap (λ (i : Inst). uses_at (ordered f).blocks b k i) (sym was.same)) on)
    (before_alike g (ordered f) alike u before)
no_order_fault m f g w sound alike n (valid.HasOrderFaultIn.term b block x u h on before) =
    let was = was_term f g alike b x h.term_is in
    (sound.terms b was.y was.at).uses u
    (in_same (term_uses_at g.blocks b x.term) (term_uses_at (ordered f).blocks b was.y.term) u (term_uses_alike g (ordered f) alike b x.term ∙ ap (λ (t : Term). term_uses_at (ordered f).blocks b t) (sym was.same)) on)
    (before_alike g (ordered f) alike u before)
