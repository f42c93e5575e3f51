-- What a line of a script says, by its tokens.
use Rattle.std.proofs.Common.{◌≡◌, ℕ, List, [], ◌∷◌, Option, Some, None, refl, sym, ap, subst, ◌∙◌, get_or, arith}
use Rattle.ms_lex.specs.Line.{IsTokens, IsBad}
use Rattle.ms_lex.specs.declared.token.Token.{Token}
use Rattle.ms_lex.proofs.OneList.{one_list, no_list}
use Rattle.ms_ir.specs.declared.names.FuncNo.{FuncNo}
use Rattle.ms_ir.specs.declared.names.Name.{Name}
use Rattle.ms_ir.specs.Module.{ModuleState}
use Rattle.ms_grammar.specs.Parts.{bytes_at}
use Rattle.ms_line.specs.declared.fault.LineFault.{LineFault}
use Rattle.ms_line.specs.declared.fault.LineFault.TheVariants as fault
use Rattle.ms_script.specs.Verbs.{verb_text}
use Rattle.ms_script.specs.Lines.{verb_of, block_of, number_of, IsSpot, Ends, IsEditLine, SaysEdit, IsSmallEdit, IsSmall}
use Rattle.ms_script.specs.Found.{IsFunc, IsFront, NoFront, InsertedCause}
use Rattle.ms_script.specs.Ends.{IsEnded, EndCause, IsSpotted, SpotCause, LineCause}
use Rattle.ms_script.specs.Script.{SaysNothing}
use Rattle.ms_script.specs.declared.verb.Verb.{Verb}
use Rattle.ms_script.specs.declared.verb.Verb.TheVariants as verb
use Rattle.ms_script.specs.declared.edit.RawEdit.{RawEdit}
use Rattle.ms_script.specs.declared.edit.RawEdit.TheVariants.{Insert, Remove, Move, Unlink}
use Rattle.ms_script.proofs.Fronts.{one_spot}

-- the words begin with different letters
first_of : Verb → ℕ
first_of verb.Insert = 105
first_of verb.Remove = 114
first_of verb.Move = 109
first_of verb.Unlink = 117

first_is : (v : Verb) → get_or (verb_text v) 0 0 ≡ first_of v
unfolding verb_text first_of
first_is verb.Insert = refl
first_is verb.Remove = refl
first_is verb.Move = refl
first_is verb.Unlink = refl

by_first : (v w : Verb) → first_of v ≡ first_of w → v ≡ w
unfolding first_of
by_first verb.Insert verb.Insert e = refl
by_first verb.Remove verb.Remove e = refl
by_first verb.Move verb.Move e = refl
by_first verb.Unlink verb.Unlink e = refl
by_first v w e = absurd (omega (arith, e))

pub one_verb : (v w : Verb) → verb_text v ≡ verb_text w → v ≡ w
one_verb v w e = by_first v w (sym (first_is v) ∙ ap (λ t. get_or t 0 0) e ∙ first_is w)

-- what is inserted behind a block and a number, and what is not
pub insert_cause : (m : ModuleState) (line : List ℕ) (block : Name) (n : ℕ) (rest : List Token) (f : LineFault) → InsertedCause m line rest f → EndCause m line verb.Insert block n rest f
insert_cause m line block n rest fault.NotOfProfile h = λ edit e ends. by_edit edit e ends
  where
    by_edit : (edit : RawEdit) → verb_of edit ≡ verb.Insert → Ends m line rest edit → ⊥
    by_edit (Insert _ _ inst result) e ends = h inst result ends
    by_edit (Remove _ _) e ends = cc
    by_edit (Move _ _ _ _) e ends = cc
    by_edit (Unlink _ _) e ends = cc
insert_cause m line block n rest fault.TooLong h =
    (Insert block n h.0 h.1, record { verb_is = refl; block_is = refl; number_is = refl; ends = h.2 }, λ small. h.3 small.1)
insert_cause m line block n rest fault.Memory h = tt

-- the front of a line that is an edit
edit_front : (m : ModuleState) (line : List ℕ) (tokens : List Token) (func : FuncNo) (edit : RawEdit) → IsTokens line tokens → (h : IsEditLine m line func edit)
    → IsFront m line tokens (verb_of edit) func h.spot
edit_front m line tokens func edit are h = record {
  first = h.verb;
  second = h.global;
  whole = one_list line tokens (h.verb ∷ h.global ∷ h.spot) are h.are_tokens;
  verb_is = h.verb_is;
  func_is = record { name = h.name; is = h.global_is; func_is = h.func_is; body = h.body; body_is = h.body_is };
}

pub none_said : (m : ModuleState) (line : List ℕ) (tokens : List Token) → IsTokens line tokens → (tokens ≡ [] → ⊥) → NoFront m line tokens → SaysNothing m line
none_said m line tokens are some none = λ one says. by_one one says
  where
    by_one : (one : Option (FuncNo × RawEdit)) → SaysEdit m line one → ⊥
    by_one None says = some (one_list line tokens [] are says)
    by_one (Some entry) says = none (verb_of entry.1) entry.0 says.spot (edit_front m line tokens entry.0 entry.1 are says)

-- a front and what it is spotted with
pub edit_of : (m : ModuleState) (line : List ℕ) (tokens rest : List Token) (v : Verb) (func : FuncNo) (edit : RawEdit) → IsTokens line tokens → IsFront m line tokens v func rest
    → IsSpotted m line v rest edit → IsEditLine m line func edit
edit_of m line tokens rest v func edit are front h = record {
  verb = front.first;
  global = front.second;
  spot = rest;
  rest = h.rest;
  are_tokens = subst (λ ts. IsTokens line ts) front.whole are;
  verb_is = front.verb_is ∙ ap verb_text (sym h.verb_is);
  name = front.func_is.name;
  global_is = front.func_is.is;
  spot_is = h.spot_is;
  ends = h.ends;
  func_is = front.func_is.func_is;
  body = front.func_is.body;
  body_is = front.func_is.body_is;
}

-- an edit's line has one word, and one spot behind its function
spotted : (m : ModuleState) (line : List ℕ) (tokens rest : List Token) (v : Verb) (func other : FuncNo) (edit : RawEdit) → IsTokens line tokens → IsFront m line tokens v func rest
    → IsEditLine m line other edit → IsSpotted m line v rest edit
spotted m line tokens rest v func other edit are front h =
    let cells : h.verb ∷ h.global ∷ h.spot ≡ front.first ∷ front.second ∷ rest = one_list line (h.verb ∷ h.global ∷ h.spot) tokens h.are_tokens are ∙ front.whole in
    let first : h.verb ≡ front.first = cc in
    let behind : h.spot ≡ rest = cc in
    record {
      rest = h.rest;
      verb_is = one_verb (verb_of edit) v (sym h.verb_is ∙ ap (λ t. bytes_at line t) first ∙ front.verb_is);
      spot_is = subst (λ ts. IsSpot line (block_of edit) (number_of edit) ts h.rest) behind h.spot_is;
      ends = h.ends;
    }

pub line_cause : (m : ModuleState) (line : List ℕ) (tokens rest : List Token) (v : Verb) (func : FuncNo) (f : LineFault) → IsTokens line tokens → (tokens ≡ [] → ⊥)
    → IsFront m line tokens v func rest → SpotCause m line v rest f → LineCause m line f
line_cause m line tokens rest v func fault.NotOfProfile are some front h = λ one says. by_one one says
  where
    by_one : (one : Option (FuncNo × RawEdit)) → SaysEdit m line one → ⊥
    by_one None says = some (one_list line tokens [] are says)
    by_one (Some entry) says = h entry.1 (spotted m line tokens rest v func entry.0 entry.1 are front says)
line_cause m line tokens rest v func fault.TooLong are some front h = (Some (func, h.0), edit_of m line tokens rest v func h.0 are front h.1, h.2)
line_cause m line tokens rest v func fault.Memory are some front h = tt

pub bad_says_nothing : (m : ModuleState) (line : List ℕ) (at : ℕ) → IsBad line at → SaysNothing m line
bad_says_nothing m line at bad = λ one says. by_one one says
  where
    by_one : (one : Option (FuncNo × RawEdit)) → SaysEdit m line one → ⊥
    by_one None says = no_list line [] at says bad
    by_one (Some entry) says = no_list line (says.verb ∷ says.global ∷ says.spot) at says.are_tokens bad
