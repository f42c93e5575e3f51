-- Each function of an accepted module is accepted.
use Rattle.std.proofs.Common.{◌≡◌, ◌∙◌, ℕ, true, List, [], ◌∷◌, ◌++◌, length, map, Some, refl, sym, ap, subst, ⊎_elim}
use Rattle.std.specs.Prelude.{slice_get}
use Rattle.std.specs.List.{flat_map}
use Rattle.ms_ir.specs.declared.inst.Inst.{Inst as Held}
use Rattle.ms_ir.specs.Func.{Placed, Block, FuncState, insts_at}
use Rattle.ms_ir.specs.Module.{ModuleState}
use Rattle.ms_ir.specs.SoundFunc.{IsSoundFunc}
use Rattle.ms_grammar.specs.Kept.{Each}
use Rattle.ms_grammar.specs.Fits.{IsNamed, IsMade, IsParam}
use Rattle.ms_grammar.specs.Grammar.{Says}
use Rattle.ms_grammar.specs.declared.line.Line.{Line}
use Rattle.ms_grammar.specs.declared.line.Line.TheVariants as said
use Rattle.ms_read.specs.Told.{IsSaid}
use Rattle.ms_resolve.specs.Shape.{LabelLine, InstLine, BlockLines, FuncLines, body, item_lines, label_lines, inst_line, block_lines}
use Rattle.ms_resolve.specs.Faults.{IsIn, IsMadeAgain}
use Rattle.ms_resolve.specs.Faults as named
use Rattle.ms_resolve.specs.Made.{named_in}
use Rattle.ms_resolve.specs.Module.{funcs_of}
use Rattle.ms_validity.specs.Cause.{IsAccepted}
use Rattle.ms_validity.specs.Faults.{body_there, bodies_there, CallsOtherwise, ReturnsOtherwise}
use Rattle.ms_validity.specs.Faults as valid
use Rattle.ms_validity.proofs.BuiltLemmas.{built_at, term_from}
use Rattle.ms_validity.proofs.FaultLemmas.{built, body_at, called_known, called_name, inst_in}
use Rattle.ms_validity.proofs.ListLemmas.{in_here, in_there, in_left, flat_in}
use Rattle.ms_read.specs.declared.place.Place.TheVariants.{Outside}
use Rattle.ms_valid.specs.Func.{IsAcceptedFunc}
use Rattle.ms_valid.proofs.Spelled.{is_inside, kept_same}
use Rattle.ms_valid.proofs.Places.{Leads}
use Rattle.ms_valid.proofs.Sound.{s, f, is_body, item, is_said, has_inst, has_term, accepted_sound}
use Rattle.ms_valid.proofs.Said.{head_said, said_of}
use Rattle.ms_valid.proofs.Words.{none_named, are_words, are_apart, made_words}

-- what is said of a line of a function
says_it : (line : Line) (h : IsSaid line) → is_inside line ≡ true → Says h.row line
says_it line h t = subst (λ (v : Line). Says h.row v) (kept_same h.read.written line h.read.kept t) h.read.says

module _ (draft : List (ℕ × Line)) (m : ModuleState) (said_are : Each (λ (entry : ℕ × Line). IsSaid entry.1) draft) (w : Leads Outside draft) (a : IsAccepted draft m) (p : ℕ) (l : FuncLines)
    (lines_are : slice_get (funcs_of a.items) p ≡ Some l) (body_is : slice_get (bodies_there m) p ≡ Some (built a.items m a.named.whole l)) where
  abbrev func : FuncState
  func = f draft m said_are w a p l lines_are body_is

  pub none_again : (n : ℕ) → IsMadeAgain (named_in l) n → ⊥
  none_again n again = a.named.sound n (named.HasNameFault.inside l (item draft m said_are w a p l lines_are body_is) (named.HasFaultIn.again again))

  pub params_fit : Each IsParam l.head.params
  params_fit = (says_it (said.Define l.head) (head_said draft m said_are w a p l lines_are body_is) refl).fits.0.1

  label_in : (b : BlockLines) → IsIn l.blocks b → (y : LabelLine) → b.label ≡ Some y → IsIn (item_lines (body l)) (y.line, said.Label y.name)
  label_in b ib y e =
      in_there (l.line, said.Define l.head) (flat_map block_lines l.blocks ++ (l.close, said.Close) ∷ []) (y.line, said.Label y.name)
      (in_left (flat_map block_lines l.blocks) ((l.close, said.Close) ∷ []) (y.line, said.Label y.name)
      (flat_in block_lines l.blocks b (y.line, said.Label y.name) ib
      (in_left (label_lines b.label ++ map inst_line b.insts) ((b.end.line, said.Term b.end.term) ∷ []) (y.line, said.Label y.name)
      (in_left (label_lines b.label) (map inst_line b.insts) (y.line, said.Label y.name)
      (subst (λ o. IsIn (label_lines o) (y.line, said.Label y.name)) (sym e) (in_here (y.line, said.Label y.name) []))))))

  pub label_named : (b : BlockLines) → IsIn l.blocks b → (y : LabelLine) → b.label ≡ Some y → IsNamed y.name
  label_named b ib y e = (says_it (said.Label y.name) (is_said draft m said_are w a p l lines_are body_is y.line (said.Label y.name) (label_in b ib y e)) refl).fits

  pub inst_made : (b : BlockLines) (x : InstLine) → IsIn l.blocks b → IsIn b.insts x → IsMade x.name x.inst
  inst_made b x ib ix =
      (says_it (said.Inst x.name x.inst) (is_said draft m said_are w a p l lines_are body_is x.line (said.Inst x.name x.inst) (inst_in l b x ib ix)) refl).fits.0

  pub calls_fit : (b k : ℕ) (x : Placed) → slice_get (insts_at func.blocks b) k ≡ Some x → CallsOtherwise m x.inst → ⊥
  calls_fit b k x found other =
      let r = built_at (s draft m said_are w a p l lines_are body_is) 0 0 (length l.head.params) l.blocks b k x found in
      let here = has_inst draft m said_are w a p l lines_are body_is b k x found r.0 r.1 r.2 r.3 r.4 in
      let sound_body = is_body draft m said_are w a p l lines_are body_is in
      let name = called_name m (s draft m said_are w a p l lines_are body_is) r.1.inst (subst (λ (i : Held). CallsOtherwise m i) r.4 other) in
      ⊎_elim
      (λ (z : IsIn m.names.funcs name.0). a.types r.1.line (record { lines = l; f = func; body = sound_body; fault = valid.HasTypeFaultIn.call b k r.1 x name.0 here name.1 z other }))
      (λ (z : IsIn m.names.globals name.0). a.types r.1.line (record { lines = l; f = func; body = sound_body; fault = valid.HasTypeFaultIn.global_called b k r.1 x name.0 here name.1 z }))
      (called_known a.items m l r.0 r.1 name.0 a.named.sound a.named.whole (item draft m said_are w a p l lines_are body_is) (b, r.2) (k, r.3) name.1)

  pub returns_fit : (b : ℕ) (x : Block) → slice_get func.blocks b ≡ Some x → ReturnsOtherwise func x.term → ⊥
  returns_fit b x found other =
      let r = term_from (s draft m said_are w a p l lines_are body_is) 0 0 (length l.head.params) l.blocks b x found in
      let here = has_term draft m said_are w a p l lines_are body_is b x found r.0 r.1 r.2 in
      a.types r.0.end.line (record { lines = l; f = func; body = is_body draft m said_are w a p l lines_are body_is; fault = valid.HasTypeFaultIn.returned b r.0 x here other })

  abbrev pub accepted_of : IsSoundFunc func → IsAcceptedFunc m func
  accepted_of sound = record {
    sound = sound;
    all_said = said_of draft m said_are w a p l lines_are body_is;
    words = are_words (s draft m said_are w a p l lines_are body_is) (a.named.whole.spare l.head.name) l refl refl (made_words l params_fit label_named inst_made);
    apart = are_apart (s draft m said_are w a p l lines_are body_is) (a.named.whole.spare l.head.name) l refl refl none_again;
    unnamed = none_named (s draft m said_are w a p l lines_are body_is) 0 0 (length l.head.params) l.blocks;
    calls = calls_fit;
    returns = returns_fit;
  }

pub accepted_whole : (draft : List (ℕ × Line)) (m : ModuleState) → Each (λ (entry : ℕ × Line). IsSaid entry.1) draft → Leads Outside draft → IsAccepted draft m →
    (n : ℕ) (f : FuncState) → slice_get m.bodies n ≡ Some (Some f) → IsAcceptedFunc m f
accepted_whole draft m said_are w a n f e =
    let there : IsIn (bodies_there m) f = flat_in body_there m.bodies (Some f) f (n, e) (in_here f []) in
    let r = body_at a.items m a.named.whole there.0 f there.1 in
    let sound = accepted_sound draft m said_are w a n f e in
    subst (IsAcceptedFunc m) r.2 (accepted_of draft m said_are w a there.0 r.0 r.1 (there.1 ∙ ap Some (sym r.2)) (subst IsSoundFunc (sym r.2) sound))
