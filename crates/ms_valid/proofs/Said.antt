-- Each instruction and terminator of an accepted module's function is one that a line gives.
use Rattle.std.proofs.Common.{◌≡◌, ◌∙◌, ℕ, suc, List, [], ◌∷◌, length, map, Some, refl, sym, ap, subst, ⊎_elim}
use Rattle.std.specs.Prelude.{slice_get}
use Rattle.std.specs.List.{flat_map}
use Rattle.ms_attrs.specs.Effects.{IsEffectsOf}
use Rattle.ms_ir.specs.declared.names.Param.{Param}
use Rattle.ms_ir.specs.Func.{Placed, Block, FuncState, insts_at}
use Rattle.ms_ir.specs.Module.{ModuleState}
use Rattle.ms_grammar.specs.Kept.{Each}
use Rattle.ms_grammar.specs.Grammar.{Says, without_name}
use Rattle.ms_grammar.specs.declared.line.Line.{Line}
use Rattle.ms_grammar.specs.declared.line.Line.TheVariants as said
use Rattle.ms_read.specs.Told.{IsSaid}
use Rattle.ms_read.specs.declared.place.Place.TheVariants.{Outside}
use Rattle.ms_resolve.specs.Shape.{InstLine, BlockLines, FuncLines}
use Rattle.ms_resolve.specs.Scope.{Scope, inst_of, term_of, params_from}
use Rattle.ms_resolve.specs.Used.{values_of, global_of, callee_of, inst_names}
use Rattle.ms_resolve.specs.Faults.{IsIn, symbols_of, name_of_symbol}
use Rattle.ms_resolve.specs.Faults as named
use Rattle.ms_resolve.specs.Module.{funcs_of, func_names_in, global_names_in}
use Rattle.ms_validity.specs.Cause.{IsAccepted}
use Rattle.ms_validity.specs.Faults.{body_there, bodies_there}
use Rattle.ms_validity.specs.Faults as valid
use Rattle.ms_validity.proofs.BuiltLemmas.{built_at, term_from}
use Rattle.ms_validity.proofs.FaultLemmas.{built, body_at, in_or_not, known_named, called_known}
use Rattle.ms_validity.proofs.ListLemmas.{in_here, in_left, flat_in}
use Rattle.ms_valid.specs.Func.{AllSaid, IsScopeIn, IsSaidHead, IsSaidInst, IsSaidTerm}
use Rattle.ms_valid.proofs.Spelled.{kept_same}
use Rattle.ms_valid.proofs.Terms.{is_same}
use Rattle.ms_valid.proofs.Places.{Leads}
use Rattle.ms_valid.proofs.Sound.{s, f, is_body, item, is_said, has_inst, inst_said, inst_says, term_said, term_says}

same_params : (z : Scope) (n : ℕ) (ps : List Param) → map without_name ps ≡ map without_name (params_from z n ps)
same_params z n [] = refl
same_params z n (p ∷ ps) = ap (λ (qs : List Param). without_name p ∷ qs) (same_params z (suc n) ps)

module _ (draft : List (ℕ × Line)) (m : ModuleState) (said_are : Each (λ (entry : ℕ × Line). IsSaid entry.1) draft) (w : Leads Outside draft) (a : IsAccepted draft m) (p : ℕ) (l : FuncLines)
    (lines_are : slice_get (funcs_of a.items) p ≡ Some l) (body_is : slice_get (bodies_there m) p ≡ Some (built a.items m a.named.whole l)) where
  abbrev own : Scope
  own = s draft m said_are w a p l lines_are body_is

  abbrev func : FuncState
  func = f draft m said_are w a p l lines_are body_is

  funcs_are : flat_map func_names_in a.items ≡ m.names.funcs
  funcs_are = sym (ap (λ (x : ModuleState). x.names.funcs) a.named.whole.module_is)

  globals_are : flat_map global_names_in a.items ≡ m.names.globals
  globals_are = sym (ap (λ (x : ModuleState). x.names.globals) a.named.whole.module_is)

  scope_in_module : IsScopeIn m own
  scope_in_module = record {
    funcs = funcs_are;
    globals = globals_are;
    sigs = sym (ap (λ (x : ModuleState). x.sigs) a.named.whole.module_is);
    effects = λ post.
        subst (λ (groups : List (ℕ × List ℕ)). IsEffectsOf post groups (a.named.whole.meaning.effects post)) (sym (ap (λ (x : ModuleState). x.groups) a.named.whole.module_is))
        (a.named.whole.meaning.effects_are post);
    keeps = a.named.whole.meaning.keeps_are;
  }

  inst_by_line : (b k : ℕ) (x : Placed) → slice_get (insts_at func.blocks b) k ≡ Some x → (block : BlockLines) (line : InstLine) → slice_get l.blocks b ≡ Some block → slice_get block.insts k ≡ Some line →
      x.inst ≡ inst_of own line.inst → IsSaidInst m x.inst
  inst_by_line b k x found block line block_is line_is inst_is =
      let here = has_inst draft m said_are w a p l lines_are body_is b k x found block line block_is line_is inst_is in
      let known : List (List ℕ) = map name_of_symbol (symbols_of a.items) in
      let is_item = item draft m said_are w a p l lines_are body_is in
      let sound_body = is_body draft m said_are w a p l lines_are body_is in
      record {
        bytes = (inst_said draft m said_are w a p l lines_are body_is b k x found block line block_is line_is inst_is).row;
        name = line.name;
        line = line.inst;
        says = inst_says draft m said_are w a p l lines_are body_is b k x found block line block_is line_is inst_is;
        globals = λ g among.
            let is_known : IsIn known g = ⊎_elim (λ (h : IsIn known g). h)
            (λ (n : IsIn known g → ⊥). absurd (a.named.sound line.line
            (named.HasNameFault.inside l is_item (named.HasFaultIn.unknown (inst_names line.inst) (named.StandsAt.inst block line (b, block_is) (k, line_is) refl refl)
            (named.UsesUnknown.global g (in_left (flat_map global_of (values_of line.inst)) (callee_of line.inst) g among) n)))))
            (in_or_not known g) in
            ⊎_elim
            (λ (h : IsIn (flat_map func_names_in a.items) g).
            absurd (a.types line.line (record {
              lines = l;
              f = func;
              body = sound_body;
              fault = valid.HasTypeFaultIn.func_operand b k line x g here among (subst (λ (z : List (List ℕ)). IsIn z g) funcs_are h);
            })))
            (λ (h : IsIn (flat_map global_names_in a.items) g). subst (λ (z : List (List ℕ)). IsIn z g) globals_are h)
            (known_named a.items g is_known);
        callee = λ c among.
            ⊎_elim
            (λ (h : IsIn m.names.funcs c). h)
            (λ (h : IsIn m.names.globals c). absurd (a.types line.line (record { lines = l; f = func; body = sound_body; fault = valid.HasTypeFaultIn.global_called b k line x c here among h })))
            (called_known a.items m l block line c a.named.sound a.named.whole is_item (b, block_is) (k, line_is) among);
        scope = own;
        in_module = scope_in_module;
        is = is_same (inst_of own line.inst) x.inst inst_is;
      }

  term_by_line : (b : ℕ) (x : Block) → slice_get func.blocks b ≡ Some x → (block : BlockLines) → slice_get l.blocks b ≡ Some block → x.term ≡ term_of own block.end.term → IsSaidTerm m x.term
  term_by_line b x found block block_is term_is = record {
    bytes = (term_said draft m said_are w a p l lines_are body_is b x found block block_is term_is).row;
    line = block.end.term;
    says = term_says draft m said_are w a p l lines_are body_is b x found block block_is term_is;
    scope = own;
    in_module = scope_in_module;
    is = term_is;
  }

  pub head_said : IsSaid (said.Define l.head)
  head_said = is_said draft m said_are w a p l lines_are body_is l.line (said.Define l.head) (in_here (l.line, said.Define l.head) _)

  pub head_is : IsSaidHead func l.head
  head_is = record {
    bytes = head_said.row;
    says = subst (λ (v : Line). Says head_said.row v) (kept_same head_said.read.written (said.Define l.head) head_said.read.kept refl) head_said.read.says;
    name = refl;
    attrs = refl;
    ret = refl;
    post = refl;
    params = same_params own 0 l.head.params;
  }

  pub insts_are : (b k : ℕ) (x : Placed) → slice_get (insts_at func.blocks b) k ≡ Some x → IsSaidInst m x.inst
  insts_are b k x found = let r = built_at own 0 0 (length l.head.params) l.blocks b k x found in inst_by_line b k x found r.0 r.1 r.2 r.3 r.4

  pub terms_are : (b : ℕ) (x : Block) → slice_get func.blocks b ≡ Some x → IsSaidTerm m x.term
  terms_are b x found = let r = term_from own 0 0 (length l.head.params) l.blocks b x found in term_by_line b x found r.0 r.1 r.2

  -- with the head of its define line
  abbrev pub said_of : AllSaid m func
  said_of = record { head = l.head; said_head = head_is; insts = insts_are; terms = terms_are }

pub accepted_said : (draft : List (ℕ × Line)) (m : ModuleState) → Each (λ (entry : ℕ × Line). IsSaid entry.1) draft → Leads Outside draft → IsAccepted draft m →
    (n : ℕ) (f : FuncState) → slice_get m.bodies n ≡ Some (Some f) → AllSaid m f
accepted_said draft m said_are w a n f e =
    let there : IsIn (bodies_there m) f = flat_in body_there m.bodies (Some f) f (n, e) (in_here f []) in
    let r = body_at a.items m a.named.whole there.0 f there.1 in
    subst (AllSaid m) r.2 (said_of draft m said_are w a there.0 r.0 r.1 (there.1 ∙ ap Some (sym r.2)))
