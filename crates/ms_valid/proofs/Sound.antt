-- Each function of an accepted module is sound.
use Rattle.std.proofs.Common.{◌≡◌, ◌∙◌, ◌<◌, ◌^◌, ℕ, zero, suc, List, [], ◌∷◌, length, Some, refl, sym, ap, subst, ⊎_elim, arith}
use Rattle.std.specs.Prelude.{Contains, slice_get}
use Rattle.std.specs.List.{flat_map}
use Rattle.ms_paths.specs.Flow.{IsReducible, IsClosed}
use Rattle.ms_ir.specs.declared.names.Ty.{Ty}
use Rattle.ms_ir.specs.declared.names.Name.{Name}
use Rattle.ms_ir.specs.declared.inst.Val.{Val}
use Rattle.ms_ir.specs.declared.inst.Val.TheVariants.{Local}
use Rattle.ms_ir.specs.declared.inst.Inst.{Inst as Held}
use Rattle.ms_ir.specs.declared.inst.Term.{Term as Left}
use Rattle.ms_ir.specs.Func.{Placed, Block, FuncState, insts_at}
use Rattle.ms_ir.specs.Graph.{graph_of}
use Rattle.ms_ir.specs.Locals.{HasType}
use Rattle.ms_ir.specs.Module.{ModuleState}
use Rattle.ms_ir.specs.Types.{is_integer, is_alloca, is_phi, has_entry, types_stand, term_stands}
use Rattle.ms_ir.specs.Types as ir
use Rattle.ms_ir.specs.Sound.{HasOtherType}
use Rattle.ms_ir.specs.SoundFunc.{IsValueIn, IsSoundInst, IsSoundTerm, IsSoundFunc}
use Rattle.ms_ir.specs.Uses.{Operand, operands_of, term_operands, uses_at, term_uses_at}
use Rattle.ms_grammar.specs.Numbers.{bits}
use Rattle.ms_grammar.specs.Kept.{Each}
use Rattle.ms_grammar.specs.Fits.{IsValue}
use Rattle.ms_grammar.specs.Grammar.{Says}
use Rattle.ms_grammar.specs.declared.line.Line.{Line}
use Rattle.ms_grammar.specs.declared.line.Line.TheVariants as said
use Rattle.ms_grammar.specs.declared.line.RawVal.{RawVal}
use Rattle.ms_grammar.specs.declared.line.RawVal.TheVariants as raw
use Rattle.ms_read.specs.Told.{IsSaid}
use Rattle.ms_read.specs.declared.place.Place.TheVariants.{Outside}
use Rattle.ms_resolve.specs.Shape.{InstLine, BlockLines, FuncLines, body, item_lines}
use Rattle.ms_resolve.specs.Scope.{Scope, value_of, number_of_name, inst_of, term_of}
use Rattle.ms_resolve.specs.Used.{Names, values_of, term_values, local_of, inst_names, term_names}
use Rattle.ms_resolve.specs.Faults.{IsIn}
use Rattle.ms_resolve.specs.Faults as named
use Rattle.ms_resolve.specs.Module.{funcs_of}
use Rattle.ms_resolve.proofs.FirstFacts.{first_local}
use Rattle.ms_validity.specs.Cause.{IsAccepted}
use Rattle.ms_validity.specs.Faults.{body_there, bodies_there, IsBody, HasInst, HasTerm}
use Rattle.ms_validity.specs.Faults as valid
use Rattle.ms_validity.proofs.BuiltLemmas.{built_at, term_from}
use Rattle.ms_validity.proofs.FaultLemmas.{scope_in, built, body_at, func_in, inst_in, term_in, all_closed}
use Rattle.ms_validity.proofs.ListLemmas.{in_nil, in_here, in_cons, flat_in}
use Rattle.ms_valid.proofs.Values.{Comes, FromLine, FromTerm, from_line, from_term, integer, same_type}
use Rattle.ms_valid.proofs.Spelled.{inst_number, inst_stored, term_number, kept_same}
use Rattle.ms_valid.proofs.Named.{local_at, named_typed}
use Rattle.ms_valid.proofs.Places.{Leads, all_first, item_first, first_alone, phis_first, phis_alone}
use Rattle.ms_valid.proofs.Loops.{reducible_by}

contains_in : {X : Type 0} (xs : List X) (x : X) → Contains xs x → IsIn xs x
contains_in [] x (k, lt, is) = absurd (let l : k < 0 = lt in omega arith)
contains_in (y ∷ xs) x (zero, lt, is) = (zero, ap Some is)
contains_in (y ∷ xs) x (suc k, lt, is) = let r = contains_in xs x (k, omega arith, is) in (suc r.0, r.1)

pub each_in : (P : ℕ × Line → Type 0) (xs : List (ℕ × Line)) (x : ℕ × Line) → Each P xs → IsIn xs x → P x
each_in P [] x each i = absurd (in_nil x i)
each_in P (y ∷ xs) x each i = ⊎_elim (λ (e : y ≡ x). subst P e each.0) (λ (r : IsIn xs x). each_in P xs x each.1 r) (in_cons y xs x i)

-- a value of a line is one of the function
value_in : (s : Scope) (f : FuncState) (ty : Ty) (v : RawVal) → IsValue ty v → ((t : Ty) (n : ℕ) → v ≡ raw.Num t n → n < 2 ^ bits t) →
    ((n : Name) → v ≡ raw.Local n → HasType f (local_at (number_of_name s.locals n)) ty) → IsValueIn f ty (value_of s v)
value_in s f ty (raw.Num own n) h below local =
    let lt : n < 2 ^ bits own = below own n refl in
    (h.0, integer ty h.1, subst (λ (t : Ty). n < 2 ^ ir.bits t) h.0 lt)
value_in s f ty (raw.Local n) h below local = local n refl
value_in s f ty (raw.Global n) h below local = h.0

module _ (draft : List (ℕ × Line)) (m : ModuleState) (said_are : Each (λ (entry : ℕ × Line). IsSaid entry.1) draft) (w : Leads Outside draft) (a : IsAccepted draft m) (p : ℕ) (l : FuncLines)
    (lines_are : slice_get (funcs_of a.items) p ≡ Some l) (body_is : slice_get (bodies_there m) p ≡ Some (built a.items m a.named.whole l)) where
  abbrev pub s : Scope
  s = scope_in a.items m a.named.whole l

  abbrev pub f : FuncState
  f = built a.items m a.named.whole l

  pub is_body : IsBody a.items m l f
  is_body = record { place = p; lines_are = lines_are; body_is = body_is }

  pub item : IsIn a.items (body l)
  item = func_in a.items p l lines_are

  walked : Leads Outside (flat_map item_lines a.items)
  walked = subst (λ (d : List (ℕ × Line)). Leads Outside d) a.named.shape.lines w

  -- a line of the function is said
  pub is_said : (n : ℕ) (line : Line) → IsIn (item_lines (body l)) (n, line) → IsSaid line
  is_said n line i =
      each_in (λ (entry : ℕ × Line). IsSaid entry.1) draft (n, line) said_are
      (subst (λ (d : List (ℕ × Line)). IsIn d (n, line)) (sym a.named.shape.lines) (flat_in item_lines a.items (body l) (n, line) item i))

  -- a local that a line names has the type that is written
  local_has : (used : Names) (n : ℕ) (o : Operand) (name : Name) → named.StandsAt l n used → IsIn used.locals name → o.val ≡ Local (local_at (number_of_name s.locals name)) →
      (HasOtherType f o → ⊥) → HasType f (local_at (number_of_name s.locals name)) o.ty
  local_has used n o name stands among val none =
      let t = named_typed s (a.named.whole.spare l.head.name) l name refl
      (λ not. a.named.sound n (named.HasNameFault.inside l item (named.HasFaultIn.unknown used stands (named.UsesUnknown.local name among (λ first. not (first_local l name first)))))) in
      subst (λ (ty : Ty). HasType f (local_at (number_of_name s.locals name)) ty) (same_type t.0 o.ty (λ other. none (local_at (number_of_name s.locals name), t.0, val, t.1, other))) t.1

  module _ (b k : ℕ) (x : Placed) (found : slice_get (insts_at f.blocks b) k ≡ Some x) (block : BlockLines) (line : InstLine) (block_is : slice_get l.blocks b ≡ Some block) (line_is : slice_get block.insts k ≡ Some line)
      (inst_is : x.inst ≡ inst_of s line.inst) where
    pub has_inst : HasInst l f line.line b k line x
    has_inst = record { block = block; block_is = block_is; line_is = line_is; inst_is = found; on = refl }

    pub inst_said : IsSaid (said.Inst line.name line.inst)
    inst_said = is_said line.line (said.Inst line.name line.inst) (inst_in l block line (b, block_is) (k, line_is))

    pub inst_says : Says inst_said.row (said.Inst line.name line.inst)
    inst_says = subst (λ (v : Line). Says inst_said.row v) (kept_same inst_said.read.written (said.Inst line.name line.inst) inst_said.read.kept refl) inst_said.read.says

    inst_from : FromLine s line.inst
    inst_from = from_line s inst_says.scale line.inst inst_says.fits.1 (inst_stored inst_said.row line.name line.inst inst_says)

    no_other : (o : Operand) → Contains (operands_of x.inst) o → HasOtherType f o → ⊥
    no_other o among other =
        a.types line.line (record { lines = l; f = f; body = is_body; fault = valid.HasTypeFaultIn.operand b k line x o has_inst (contains_in (operands_of x.inst) o among) other })

    inst_value : (o : Operand) → Contains (operands_of x.inst) o → IsValueIn f o.ty o.val
    inst_value o among =
        let c : Comes s o (values_of line.inst) = inst_from.come o (subst (λ (i : Held). Contains (operands_of i) o) inst_is among) in
        subst (λ (v : Val). IsValueIn f o.ty v) (sym c.val_is)
        (value_in s f o.ty c.raw c.is_value
        (λ t n e. inst_number inst_said.row line.name line.inst inst_says t n (subst (λ (v : RawVal). IsIn (values_of line.inst) v) e c.among))
        (λ n e.
        local_has (inst_names line.inst) line.line o n (named.StandsAt.inst block line (b, block_is) (k, line_is) refl refl)
        (flat_in local_of (values_of line.inst) (raw.Local n) n (subst (λ (v : RawVal). IsIn (values_of line.inst) v) e c.among) (in_here n []))
        (c.val_is ∙ ap (value_of s) e) (no_other o among)))

    sound_inst : IsSoundInst f b k x.inst
    sound_inst = record {
      types = ap types_stand inst_is ∙ inst_from.types;
      operands = inst_value;
      alloca = λ t. first_alone s 0 (length l.head.params) b k l.blocks x (item_first a.items l (all_first a.items a.named.shape.each walked) item) found t;
      phi = λ t j y less at.
          let front = phis_first a.items l block walked item (b, block_is) in
          phis_alone s 0 (length l.head.params) l.blocks b block front.0 block_is front.1 k x found t j y less at;
      entered = ap has_entry inst_is ∙ inst_from.entered;
      entries = λ bad. a.edges line.line (record { lines = l; f = f; body = is_body; fault = valid.HasEdgeFaultIn.phi b k line x has_inst bad });
      uses = λ u among before.
          a.order line.line (record { lines = l; f = f; body = is_body; fault = valid.HasOrderFaultIn.inst b k line x u has_inst (contains_in (uses_at f.blocks b k x.inst) u among) before });
    }

  module _ (b : ℕ) (x : Block) (found : slice_get f.blocks b ≡ Some x) (block : BlockLines) (block_is : slice_get l.blocks b ≡ Some block) (term_is : x.term ≡ term_of s block.end.term) where
    pub has_term : HasTerm l f block.end.line b block x
    has_term = record { block_is = block_is; term_is = found; on = refl }

    pub term_said : IsSaid (said.Term block.end.term)
    term_said = is_said block.end.line (said.Term block.end.term) (term_in l block (b, block_is))

    pub term_says : Says term_said.row (said.Term block.end.term)
    term_says = subst (λ (v : Line). Says term_said.row v) (kept_same term_said.read.written (said.Term block.end.term) term_said.read.kept refl) term_said.read.says

    term_made : FromTerm s block.end.term
    term_made = from_term s block.end.term term_says.fits

    no_other_there : (o : Operand) → Contains (term_operands x.term) o → HasOtherType f o → ⊥
    no_other_there o among other =
        a.types block.end.line (record { lines = l; f = f; body = is_body; fault = valid.HasTypeFaultIn.term_operand b block x o has_term (contains_in (term_operands x.term) o among) other })

    term_value : (o : Operand) → Contains (term_operands x.term) o → IsValueIn f o.ty o.val
    term_value o among =
        let c : Comes s o (term_values block.end.term) = term_made.come o (subst (λ (t : Left). Contains (term_operands t) o) term_is among) in
        subst (λ (v : Val). IsValueIn f o.ty v) (sym c.val_is)
        (value_in s f o.ty c.raw c.is_value
        (λ t n e. term_number term_said.row block.end.term term_says t n (subst (λ (v : RawVal). IsIn (term_values block.end.term) v) e c.among))
        (λ n e.
        local_has (term_names block.end.term) block.end.line o n (named.StandsAt.term block (b, block_is) refl refl)
        (flat_in local_of (term_values block.end.term) (raw.Local n) n (subst (λ (v : RawVal). IsIn (term_values block.end.term) v) e c.among) (in_here n []))
        (c.val_is ∙ ap (value_of s) e) (no_other_there o among)))

    sound_term : IsSoundTerm f b x.term
    sound_term = record {
      types = ap term_stands term_is ∙ term_made.types;
      operands = term_value;
      targets = λ first. a.edges block.end.line (record { lines = l; f = f; body = is_body; fault = valid.HasEdgeFaultIn.branch b block x has_term first });
      uses = λ u among before.
          a.order block.end.line (record { lines = l; f = f; body = is_body; fault = valid.HasOrderFaultIn.term b block x u has_term (contains_in (term_uses_at f.blocks b x.term) u among) before });
    }

  sound_func : IsClosed (graph_of f.blocks) → IsReducible (graph_of f.blocks) → IsSoundFunc f
  sound_func closed reducible = record {
    closed = closed;
    insts = λ b k x found. let r = built_at s 0 0 (length l.head.params) l.blocks b k x found in sound_inst b k x found r.0 r.1 r.2 r.3 r.4;
    terms = λ b x found. let r = term_from s 0 0 (length l.head.params) l.blocks b x found in sound_term b x found r.0 r.1 r.2;
    reducible = reducible;
  }

pub accepted_sound : (draft : List (ℕ × Line)) (m : ModuleState) → Each (λ (entry : ℕ × Line). IsSaid entry.1) draft → Leads Outside draft → IsAccepted draft m →
    (n : ℕ) (f : FuncState) → slice_get m.bodies n ≡ Some (Some f) → IsSoundFunc f
accepted_sound draft m said_are w a n f e =
    let there : IsIn (bodies_there m) f = flat_in body_there m.bodies (Some f) f (n, e) (in_here f []) in
    let r = body_at a.items m a.named.whole there.0 f there.1 in
    let closed : IsClosed (graph_of f.blocks) = all_closed draft a.items m a.named.shape a.named.whole n f e in
    let reducible : IsReducible (graph_of f.blocks) = reducible_by (graph_of f.blocks) closed (λ no. a.reducible n (record { f = f; body = e; irreducible = no })) in
    subst IsSoundFunc r.2
    (sound_func draft m said_are w a there.0 r.0 r.1 (there.1 ∙ ap Some (sym r.2))
    (subst (λ (g : FuncState). IsClosed (graph_of g.blocks)) (sym r.2) closed) (subst (λ (g : FuncState). IsReducible (graph_of g.blocks)) (sym r.2) reducible))
