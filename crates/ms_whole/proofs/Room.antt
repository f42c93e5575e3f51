-- How much room there is changes nothing that is told of a function.
use Rattle.std.proofs.Common.{ℕ, List, refl}
use Rattle.std.specs.Prelude.{◌↔◌}
use Rattle.ms_ir.specs.declared.names.LocalNo.{LocalNo}
use Rattle.ms_ir.specs.declared.names.Ty.{Ty}
use Rattle.ms_ir.specs.declared.inst.Val.{Val}
use Rattle.ms_ir.specs.declared.inst.Val.TheVariants.{Num, Local, Global}
use Rattle.ms_ir.specs.Func.{FuncState}
use Rattle.ms_ir.specs.Uses.{Operand, Use}
use Rattle.ms_ir.specs.Sound.{IsUsedBefore}
use Rattle.ms_ir.specs.SoundFunc.{IsValueIn, AreValues, AreBehind, IsSoundFunc}
use Rattle.ms_flow.specs.Flow.{FlowState}
use Rattle.ms_form.specs.Form.{FormState}
use Rattle.ms_build.specs.Built.{IsFormOf}
use Rattle.ms_alias.specs.Bases.{Alloca}
use Rattle.ms_alias.specs.Captured.{IsCaptured}
use Rattle.ms_alias.specs.Tables.{AliasState, IsAliasOf}
use Rattle.ms_cache.specs.Stays.{Kept}
use Rattle.ms_cache.proofs.Alike.{Alike, base_alike, tables_alike}
use Rattle.ms_kept.specs.Answers.{AreRight}
use Rattle.ms_whole.specs.Whole.{IsWhole}

-- the function and the form with another room
abbrev pub roomy : ℕ → FuncState → FuncState
roomy k f = record f { spare = k }

abbrev pub roomy_form : ℕ → FormState → FormState
roomy_form k h = record h { spare = k }

-- ---- pointers
roomy_alike : (f : FuncState) (k : ℕ) → Alike f (roomy k f)
roomy_alike f k = record { makers = λ l. refl; params = refl; edges = refl }

captured_to : (f : FuncState) (k : ℕ) (l : LocalNo) → IsCaptured f l → IsCaptured (roomy k f) l
captured_to f k l h =
    (h.0, h.1, h.2, h.3, (h.4.0, h.4.1, h.4.2, (h.4.3.0, h.4.3.1, base_alike f (roomy k f) (roomy_alike f k) h.4.3.0 (Alloca l) h.4.3.2)))

alias_roomy : (f : FuncState) (k : ℕ) (a : AliasState) → IsAliasOf f a → IsAliasOf (roomy k f) a
alias_roomy f k a h = tables_alike f (roomy k f) a (roomy_alike f k) (λ l. (captured_to f k l, captured_to (roomy k f) f.spare l)) h

-- ---- a sound function
value_roomy : (f : FuncState) (k : ℕ) (ty : Ty) (v : Val) → IsValueIn f ty v → IsValueIn (roomy k f) ty v
value_roomy f k ty (Num own n) h = h
value_roomy f k ty (Local l) h = h
value_roomy f k ty (Global g) h = h

values_roomy : (f : FuncState) (k : ℕ) (operands : List Operand) → AreValues f operands → AreValues (roomy k f) operands
values_roomy f k operands h = λ o c. value_roomy f k o.ty o.val (h o c)

before_roomy : (f : FuncState) (k : ℕ) (u : Use) → IsUsedBefore (roomy k f) u → IsUsedBefore f u
before_roomy f k u h = (
  h.0,
  record {
    local = h.1.local;
    is_local = h.1.is_local;
    block = h.1.block;
    place = h.1.place;
    giver = h.1.giver;
    gives = h.1.gives;
    path_is = h.1.path_is;
    not_met = h.1.not_met;
  },
)

behind_roomy : (f : FuncState) (k : ℕ) (uses : List Use) → AreBehind f uses → AreBehind (roomy k f) uses
behind_roomy f k uses h = λ u c before. h u c (before_roomy f k u before)

sound_roomy : (f : FuncState) (k : ℕ) → IsSoundFunc f → IsSoundFunc (roomy k f)
sound_roomy f k s = record {
  closed = s.closed;
  insts = λ b j x e. (let i = s.insts b j x e in record {
    types = i.types;
    operands = values_roomy f k _ i.operands;
    alloca = i.alloca;
    phi = i.phi;
    entered = i.entered;
    entries = i.entries;
    uses = behind_roomy f k _ i.uses;
  });
  terms = λ b x e. (let t = s.terms b x e in record {
    types = t.types;
    operands = values_roomy f k _ t.operands;
    targets = t.targets;
    uses = behind_roomy f k _ t.uses;
  });
  reducible = s.reducible;
}

-- ---- a form
form_roomy : (f : FuncState) (k m : ℕ) (h : FormState) → IsFormOf f h → IsFormOf (roomy k f) (roomy_form m h)
form_roomy f k m h r = record {
  phis = r.phis;
  entering = r.entering;
  no_entering = r.no_entering;
  operands = r.operands;
  no_operand = r.no_operand;
  defining = r.defining;
  no_defining = r.no_defining;
  lasts = r.lasts;
}

-- ---- all of it
pub whole_roomy : (f : FuncState) (flow : FlowState) (h : FormState) (a : AliasState) (kept : List Kept) (k m : ℕ)
    → ((f : FuncState) (k : ℕ) (kept : List Kept) → AreRight f kept ↔ AreRight (record f { spare = k }) kept) → IsWhole f flow h a kept
    → IsWhole (roomy k f) flow (roomy_form m h) a kept
whole_roomy f flow h a kept k m same w = record {
  formed = record { graph = w.formed.graph; closed = w.formed.closed; reducible = w.formed.reducible; form = form_roomy f k m h w.formed.form };
  places = record { blocks = w.places.blocks; slots = w.places.slots; numbers = w.places.numbers };
  waiting = w.waiting;
  alias = alias_roomy f k a w.alias;
  sound = sound_roomy f k w.sound;
  right = (same f k kept).0 w.right;
}
