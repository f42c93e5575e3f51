-- What may be asked before an instruction.
use Rattle.std.proofs.Common.{◌≡◌, refl, sym, subst}
use Rattle.ms_ir.specs.declared.names.InstNo.{InstNo}
use Rattle.ms_ir.specs.declared.inst.Inst.{Inst}
use Rattle.ms_ir.specs.declared.inst.Inst.TheVariants as inst
use Rattle.ms_ir.specs.Func.{FuncState}
use Rattle.ms_alias.specs.declared.loc.Loc.{Loc}
use Rattle.ms_alias.specs.Reaches.{IsLocRead, IsLocWritten}
use Rattle.ms_kept.specs.Answers.{IsAskedLoc}

-- what an instruction reads
pub read_asked : (f : FuncState) (i : InstNo) (p : Inst) (loc : Loc) → IsLocRead f i p loc → IsAskedLoc f i loc
read_asked f i (inst.Load ty ptr tail) loc h = subst (λ (l : Loc). IsAskedLoc f i l) (sym h.5) (h.0, h.3, h.4)
read_asked f i (inst.Copy to from len head tail) loc h = subst (λ (l : Loc). IsAskedLoc f i l) (sym h.5) (h.0, h.3, h.4)
read_asked f i (inst.Call callee ret args effects head tail) loc h = subst (λ (l : Loc). IsAskedLoc f i l) (sym h.1) refl
read_asked f i p loc h = absurd h

-- the bytes that it writes
pub written_asked : (f : FuncState) (i : InstNo) (p : Inst) (loc : Loc) → IsLocWritten f p loc → IsAskedLoc f i loc
written_asked f i (inst.Store ty val ptr tail) loc h = subst (λ (l : Loc). IsAskedLoc f i l) (sym h.5) (h.0, h.3, h.4)
written_asked f i (inst.Copy to from len head tail) loc h = subst (λ (l : Loc). IsAskedLoc f i l) (sym h.5) (h.0, h.3, h.4)
written_asked f i p loc h = absurd h
