-- Instructions that a script inserts.
use Rattle.std.proofs.Common.{◌≡◌, ℕ, true, List, sym, ap, subst, ◌∙◌}
use Rattle.std.specs.Prelude.{Result, Ok, Err, IfOk, IfErr}
use Rattle.ms_ir.specs.declared.names.Name.{Name}
use Rattle.ms_ir.specs.Module.{ModuleState}
use Rattle.ms_grammar.specs.Grammar.{Says, kept_of}
use Rattle.ms_grammar.specs.Limits.{IsWithinLimits}
use Rattle.ms_grammar.specs.declared.line.Line.{Line}
use Rattle.ms_grammar.specs.declared.line.Line.TheVariants as said
use Rattle.ms_grammar.specs.declared.line.RawInst.{RawInst}
use Rattle.ms_grammar.proofs.OneLine.{one_line}
use Rattle.ms_line.specs.Cause.{IsRead, IsPast}
use Rattle.ms_line.specs.declared.fault.LineFault.{LineFault}
use Rattle.ms_line.specs.declared.fault.LineFault.TheVariants.{NotOfProfile}
use Rattle.ms_script.specs.Found.{SaysFitting, IsFittingInst, InstCause}
use Rattle.ms_script.specs.declared.inserted.Made.{Made}

-- an instruction loses no names
kept_inst : (w : Line) (n : Name) (i : RawInst) → said.Inst n i ≡ kept_of w → w ≡ said.Inst n i
kept_inst said.Empty n i e = absurd (cc)
kept_inst said.Close n i e = absurd (cc)
kept_inst (said.Kept _) n i e = absurd (cc)
kept_inst (said.Group _ _) n i e = absurd (cc)
kept_inst (said.GlobalVar _ _) n i e = absurd (cc)
kept_inst (said.Label _) n i e = absurd (cc)
kept_inst (said.Declare _) n i e = absurd (cc)
kept_inst (said.Define _) n i e = absurd (cc)
kept_inst (said.Inst _ _) n i e = sym e
kept_inst (said.Term _) n i e = absurd (cc)

pub inst_found : (m : ModuleState) (line : List ℕ) (l : Line) (r : Result Made LineFault) → IsRead line l
    → IfOk r (λ made. IsFittingInst m l × (l ≡ said.Inst made.name made.inst))
    → IfOk r (λ made. Says line (said.Inst made.name made.inst) × IsFittingInst m (said.Inst made.name made.inst) × IsWithinLimits (said.Inst made.name made.inst))
inst_found m line l (Ok made) read h =
    let written : read.written ≡ said.Inst made.name made.inst = kept_inst read.written made.name made.inst (sym h.1 ∙ read.kept) in
    (subst (λ x. Says line x) written read.says, subst (λ x. IsFittingInst m x) h.1 h.0, subst IsWithinLimits written read.within)
inst_found m line l (Err _) read h = tt

pub none_fitting : (m : ModuleState) (line : List ℕ) (l : Line) (r : Result Made LineFault) → IsRead line l
    → IfErr r (λ fault. (fault ≡ NotOfProfile) × (IsFittingInst m l → ⊥)) → IfErr r (InstCause m line)
none_fitting m line l (Ok _) read h = tt
none_fitting m line l (Err fault) read h = subst (λ f. InstCause m line f) (sym h.0) (λ says.
    let written : read.written ≡ said.Inst says.result says.inst = one_line line read.written (said.Inst says.result says.inst) read.says says.says in
    let is : l ≡ said.Inst says.result says.inst = read.kept ∙ ap kept_of written in
    h.1 (subst (λ x. IsFittingInst m x) (sym is) (says.named, says.called)))

-- a line passes a limit as it does, whatever it is found to say
pub past_so : (line : List ℕ) (m : ModuleState) (says : SaysFitting m line) → IsPast line → IsWithinLimits (said.Inst says.result says.inst) → ⊥
past_so line m says past within = past.past (subst IsWithinLimits (one_line line (said.Inst says.result says.inst) past.written says.says past.says) within)
