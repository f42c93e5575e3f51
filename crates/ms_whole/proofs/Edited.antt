-- What the calls ask that an edit makes, and what is whole behind it.
use Rattle.std.proofs.Common.{◌≡◌, ◌∙◌, ◌+◌, ℕ, Bool, true, false, List, [], Some, refl, sym, ap, subst}
use Rattle.std.specs.Prelude.{◌↔◌, IsTrue}
use Rattle.ms_paths.specs.Flow.{IsClosed, IsReducible}
use Rattle.ms_ir.specs.declared.names.BlockNo.{BlockNo}
use Rattle.ms_ir.specs.declared.names.InstNo.{InstNo}
use Rattle.ms_ir.specs.declared.names.Name.{Name}
use Rattle.ms_ir.specs.declared.inst.Inst.{Inst}
use Rattle.ms_ir.specs.declared.inst.Kind.{Kind}
use Rattle.ms_ir.specs.declared.inst.Edit.{Edit}
use Rattle.ms_ir.specs.declared.inst.Edit.TheVariants.{Insert, Remove, Move}
use Rattle.ms_ir.specs.Inst.{kind_of_inst}
use Rattle.ms_ir.specs.Func.{Placed, FuncState, IsAt, IsSomewhere}
use Rattle.ms_ir.specs.Graph.{graph_of, is_def}
use Rattle.ms_ir.specs.Locals.{IsNumbered}
use Rattle.ms_ir.specs.SoundFunc.{IsSoundFunc}
use Rattle.ms_ir.specs.Edits.{edited, IsFaultless}
use Rattle.ms_flow.specs.Flow.{FlowState}
use Rattle.ms_flow.specs.Table.{edges_of}
use Rattle.ms_form.specs.Form.{FormState, HasPlaces}
use Rattle.ms_form.specs.Counts.{pred_counts}
use Rattle.ms_build.specs.Built.{IsFormOf}
use Rattle.ms_alias.specs.Captured.{IsCaptured, Differ}
use Rattle.ms_alias.specs.Tables.{AliasState, IsAliasOf}
use Rattle.ms_update.specs.Edits.{blocks_without, func_without}
use Rattle.ms_update.proofs.Without.{edges_without}
use Rattle.ms_update.proofs.Told.{put_back, form_blocks}
use Rattle.ms_cache.specs.declared.change.Change.{Change}
use Rattle.ms_cache.specs.Stays.{Kept, AreWhatStays}
use Rattle.ms_kept.specs.Answers.{AreRight, IsChangeOf, IsToldOf, KeepsBehind, judged}
use Rattle.ms_whole.specs.Whole.{IsWhole}
use Rattle.ms_whole.proofs.Counted.{put_at_place}

-- ---- laws, as they are handed on

abbrev pub Told : Type 0
Told = (f : FuncState) (e : Edit) (c : Change) → IsToldOf f e c → (old new : List Kept) → AreWhatStays (judged f e) c old new → KeepsBehind f e old new

abbrev pub Right : Type 0
Right = (f : FuncState) (e : Edit) → IsFaultless f e → IsNumbered f → IsSoundFunc f → IsNumbered (edited f e) → IsSoundFunc (edited f e) → (a d : AliasState)
    → IsAliasOf f a → IsAliasOf (edited f e) d → (old new : List Kept) → AreRight f old → KeepsBehind f e old new → AreRight (edited f e) new

-- ---- whole again

-- What was brought up to date is the edited function's, and the answers are those that stay.
pub whole_behind : Right → (f g : FuncState) (e : Edit) (flow flow' : FlowState) (h h' : FormState) (a d : AliasState) (old new : List Kept) → g ≡ edited f e → IsFaultless f e
    → IsNumbered f → IsNumbered g → IsSoundFunc (edited f e) → IsWhole f flow h a old → flow'.graph ≡ edges_of g.blocks → IsReducible flow'.graph → IsFormOf g h'
    → HasPlaces (pred_counts flow') g.made h' → h'.waiting ≡ [] → IsAliasOf g d → KeepsBehind f e old new → IsWhole g flow' h' d new
whole_behind right f g e flow flow' h h' a d old new is fine n n' sound w graph reducible form places waiting alias keeps = record {
  formed = record { graph = graph; closed = sound'.closed; reducible = reducible; form = form };
  places = places;
  waiting = waiting;
  alias = alias;
  sound = sound';
  right = subst (λ (k : FuncState). AreRight k new) (sym is)
      (right f e fine n w.sound (subst IsNumbered is n') sound a d w.alias (subst (λ (k : FuncState). IsAliasOf k d) is alias) old new w.right keeps);
}
  where
    sound' : IsSoundFunc g
    sound' = subst IsSoundFunc (sym is) sound

-- ---- a change of one instruction

-- what such a change says by itself
pub record Says (c : Change) (i : InstNo) (def captured : Bool) : Type 0 where
  pub inst : c.inst ≡ Some i
  pub def_is : c.def ≡ def
  pub captured_is : c.captured ≡ captured
  pub own_only : c.own_only ≡ false
  pub unlinked : c.unlinked ≡ false

pub says : (c : Change) (i : InstNo) (def captured : Bool) → c.inst ≡ Some i → c.def ≡ def → c.captured ≡ captured → c.own_only ≡ false → c.unlinked ≡ false → Says c i def captured
says c i def captured inst def_is captured_is own_only unlinked = record { inst = inst; def_is = def_is; captured_is = captured_is; own_only = own_only; unlinked = unlinked }

abbrev number_as : ℕ → InstNo
number_as m = record { 0 = m }

change_of : (f g : FuncState) (n : ℕ) (kind : Kind) (c : Change) (i : InstNo) (def captured : Bool) → Says c i def captured → i.0 ≡ n → def ≡ is_def kind
    → (IsTrue captured ↔ Differ (IsCaptured f) (IsCaptured g)) → IsChangeOf f g n kind c
change_of f g n kind c i def captured s num is_kind changed = record {
  inst = s.inst ∙ ap (λ (m : ℕ). Some (number_as m)) num;
  def = s.def_is ∙ is_kind;
  own_only = s.own_only;
  captured = subst (λ (t : Bool). IsTrue t ↔ Differ (IsCaptured f) (IsCaptured g)) (sym s.captured_is) changed;
  unlinked = s.unlinked;
}

-- ---- an insert

pub put_told : (f g : FuncState) (b : BlockNo) (p : ℕ) (inst : Inst) (name : Name) (c : Change) (i : InstNo) (def captured : Bool) → g ≡ edited f (Insert b p inst name)
    → Says c i def captured → i.0 ≡ f.made → def ≡ is_def (kind_of_inst inst) → (IsTrue captured ↔ Differ (IsCaptured f) (IsCaptured g)) → IsToldOf f (Insert b p inst name) c
put_told f g b p inst name c i def captured is s num kind changed =
    change_of f (edited f (Insert b p inst name)) f.made (kind_of_inst inst) c i def captured s num kind
    (subst (λ (k : FuncState). IsTrue captured ↔ Differ (IsCaptured f) (IsCaptured k)) is changed)

-- what `insert` asks
pub record PutReady (g : FuncState) (flow : FlowState) (h : FormState) (i : ℕ) : Type 0 where
  pub graph : flow.graph ≡ edges_of g.blocks
  pub closed : IsClosed (graph_of g.blocks)
  pub there : IsSomewhere g.blocks i
  pub newest : g.made ≡ i + 1
  pub form : IsFormOf (func_without i g) h
  pub places : HasPlaces (pred_counts flow) i h

module _ (f : FuncState) (n : IsNumbered f) (b : BlockNo) (p : ℕ) (inst : Inst) (name : Name) (fine : IsFaultless f (Insert b p inst name)) (flow : FlowState) (h : FormState)
    (a : AliasState) (kept : List Kept) (w : IsWhole f flow h a kept) (sound : IsSoundFunc (edited f (Insert b p inst name))) where
  abbrev put_func : FuncState
  put_func = edited f (Insert b p inst name)

  without : blocks_without f.made put_func.blocks ≡ f.blocks
  without = put_back f b.0 p inst name n

  ready : PutReady put_func flow h f.made
  ready = record {
    graph = w.formed.graph ∙ sym (ap edges_of without) ∙ edges_without f.made put_func.blocks;
    closed = sound.closed;
    there = (b.0, p, (put_at_place f b p inst name fine).0, (put_at_place f b p inst name fine).1);
    newest = refl;
    form = form_blocks f (func_without f.made put_func) h (sym without) w.formed.form;
    places = w.places;
  }

  pub put_ready : (g : FuncState) (i : InstNo) → g ≡ put_func → i.0 ≡ f.made → PutReady g flow h i.0
  put_ready g i is num = subst (λ (k : FuncState). PutReady k flow h i.0) (sym is) (subst (PutReady put_func flow h) (sym num) ready)

-- ---- a remove

pub take_told : (f g : FuncState) (b : BlockNo) (p : ℕ) (x : Placed) (c : Change) (i : InstNo) (def captured : Bool) → g ≡ edited f (Remove b p) → IsAt f.blocks i.0 b.0 p x
    → Says c i def captured → def ≡ is_def (kind_of_inst x.inst) → (IsTrue captured ↔ Differ (IsCaptured f) (IsCaptured g)) → IsToldOf f (Remove b p) c
take_told f g b p x c i def captured is at s kind changed = (
  x,
  at.found,
  change_of f (edited f (Remove b p)) x.number (kind_of_inst x.inst) c i def captured s (sym at.numbered) kind
      (subst (λ (k : FuncState). IsTrue captured ↔ Differ (IsCaptured f) (IsCaptured k)) is changed),
)

-- ---- a move

pub move_told : (f g : FuncState) (b : BlockNo) (p : ℕ) (d : BlockNo) (q : ℕ) (x : Placed) (c : Change) (i : InstNo) (def : Bool) → g ≡ edited f (Move b p d q) → IsAt f.blocks i.0 b.0 p x
    → Says c i def false → def ≡ is_def (kind_of_inst x.inst) → (Differ (IsCaptured f) (IsCaptured g) → ⊥) → IsToldOf f (Move b p d q) c
move_told f g b p d q x c i def is at s kind same = (
  x,
  at.found,
  change_of f (edited f (Move b p d q)) x.number (kind_of_inst x.inst) c i def false s (sym at.numbered) kind
      (subst (λ (k : FuncState). IsTrue false ↔ Differ (IsCaptured f) (IsCaptured k)) is ((λ t. absurd (let e : false ≡ true = t in cc)), λ o. absurd (same o))),
)
