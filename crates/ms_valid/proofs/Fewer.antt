-- Lines with fewer parts than lines that are said are said, too: a phi with an entry less, and the branch to one of two targets.
use Rattle.std.proofs.Common.{◌≡◌, ◌≢◌, ◌∙◌, ℕ, zero, suc, Bool, true, false, List, [], ◌∷◌, ◌++◌, length, map, Option, Some, None, refl, sym, ap, subst, inl, inr, arith}
use Rattle.std.specs.Prelude.{slice_get, remove, position, if◌then◌else◌, ◌==◌}
use Rattle.std.specs.List.{flat_map}
use Rattle.std.proofs.lemmas.Bool.{true≢false}
use Rattle.std.proofs.lemmas.List.{append-nil}
use Rattle.ms_lex.specs.Line.{EndsAfter}
use Rattle.ms_lex.specs.declared.token.Token.{Token}
use Rattle.ms_ir.specs.declared.names.Ty.{Ty}
use Rattle.ms_ir.specs.declared.names.Name.{Name}
use Rattle.ms_ir.specs.declared.names.Name.TheVariants as name
use Rattle.ms_ir.specs.declared.inst.Entry.{Entry}
use Rattle.ms_ir.specs.declared.inst.Inst.{Inst}
use Rattle.ms_ir.specs.declared.inst.Inst.TheVariants as inst
use Rattle.ms_ir.specs.declared.inst.Term.{Term}
use Rattle.ms_ir.specs.declared.inst.Term.TheVariants as term
use Rattle.ms_ir.specs.Changes.{IsCondBr, kept_target, is_from, without, inst_without}
use Rattle.ms_ir.specs.Module.{ModuleState}
use Rattle.ms_ir.specs.Types.{has_entry}
use Rattle.ms_ir.proofs.FuncLemmas.{map-remove}
use Rattle.ms_grammar.specs.Kept.{Each}
use Rattle.ms_grammar.specs.Parts.{Part, blank, token, kept, tail, text_of, Spells}
use Rattle.ms_grammar.specs.Form.{Scale, no_scale, form, word_part, further, listed, entry_parts, inst_parts, result_parts}
use Rattle.ms_grammar.specs.Fits.{IsNamed, IsEntryOf, FitsLine, FitsTerm}
use Rattle.ms_grammar.specs.Grammar.{Says}
use Rattle.ms_grammar.specs.declared.keyword.Keyword.TheVariants as word
use Rattle.ms_grammar.specs.declared.line.Line.{Line}
use Rattle.ms_grammar.specs.declared.line.Line.TheVariants as said
use Rattle.ms_grammar.specs.declared.line.RawEntry.{RawEntry}
use Rattle.ms_grammar.specs.declared.line.RawInst.{RawInst}
use Rattle.ms_grammar.specs.declared.line.RawInst.TheVariants.{Phi}
use Rattle.ms_grammar.specs.declared.line.RawTerm.{RawTerm}
use Rattle.ms_grammar.specs.declared.line.RawTerm.TheVariants.{Br, CondBr, Ret, Unreachable}
use Rattle.ms_resolve.specs.Scope.{Scope, block_of, entry_of, inst_of, term_of}
use Rattle.ms_resolve.specs.Used.{values_of, entry_value, global_of, callee_of}
use Rattle.ms_resolve.specs.Faults.{IsIn}
use Rattle.ms_validity.proofs.ListLemmas.{in_flat, flat_in, get_map, map_get}
use Rattle.ms_reread.proofs.Places.{Stands, Gap, gap_none, follow_map, whole_tokens}
use Rattle.ms_reread.proofs.Moves.{Old}
use Rattle.ms_reread.proofs.Pieces.{Back, Next, IsWhole, said_part, behind, behind_free, next_behind, nothing, blank_next, token_back, token_then}
use Rattle.ms_reread.proofs.Classes.{tail_next}
use Rattle.ms_reread.proofs.Tokens.{word_whole, type_whole, local_whole}
use Rattle.ms_reread.proofs.Values.{each_entry, local_then, comma_next}
use Rattle.ms_edited.proofs.Places.{behind as place_behind, remove_moves}
use Rattle.ms_valid.specs.Func.{IsScopeIn, IsSaidInst, IsSaidTerm, IsOrHasNumbers}
use Rattle.ms_valid.proofs.Terms.{same_inst, numbers_or_same}

-- ---- a line from parts that are read again

text_says : (scale : Scale) (l : Line) (was : List Part) (old : List ℕ) (tokens : List Token) → Old old tokens → Spells old tokens was → Back false was (form scale l) → FitsLine scale l
    → Says (text_of (form scale l)) l
text_says scale l was old tokens o spelled back fits =
    let text : List ℕ = text_of (form scale l) in
    let stands : Stands text 0 text [] = record { within = omega arith; here = sym (append-nil text) } in
    let again = back.again old tokens o spelled text [] 0 (length text) stands tt (omega arith) in
    record {
      tokens = again.tokens;
      scale = scale;
      are_tokens = whole_tokens text again.tokens again.follow;
      readable = again.readable;
      spelled = again.spelled;
      fits = fits;
    }

line_says : (bytes : List ℕ) (w l : Line) (says : Says bytes w) → Back false (form says.scale w) (form says.scale l) → FitsLine says.scale l → Says (text_of (form says.scale l)) l
line_says bytes w l says back fits =
    text_says says.scale l (form says.scale w) bytes says.tokens
    (record {
      from = 0;
      follow = follow_map bytes (EndsAfter bytes) (λ place. Unit {0}) 0 says.tokens (λ place end. tt) says.are_tokens;
      readable = says.readable;
    })
    says.spelled back fits

-- ---- a branch without kept text

-- nothing is kept
no_tail : Next false [] (kept tail [] ∷ [])
no_tail = record {
  lead = λ old tokens o spelled rest before. before;
  back = record {
    again = λ old tokens o spelled line rest at to stands before there.
        let same : at ≡ to = omega arith in
        said_part line at to (kept tail []) [] (subst (λ n. Gap line at n) same (gap_none line at stands.within)) (record { items = []; each = tt; whole = refl }, refl) tt;
  };
}

-- a token where none was
token_new : {free : Bool} {was ps : List Part} {s : List ℕ} → IsWhole s → Next free was ps → Back free was (token s ∷ ps)
token_new w next = behind (token_back {was = []} w) next

abbrev blanks : List Part
blanks = blank ∷ blank ∷ blank ∷ blank ∷ []

branch_back : (n : Name) → IsNamed n → Back false blanks (form no_scale (said.Term (Br n [])))
branch_back n h =
    (blank_next (blank_next (token_new (word_whole word.Br) (blank_next (token_new (word_whole word.Label) (blank_next (token_new (local_whole n h) no_tail)))))).back).back

branch_says : (n : Name) → IsNamed n → Says (text_of (form no_scale (said.Term (Br n [])))) (said.Term (Br n []))
branch_says n h =
    text_says no_scale (said.Term (Br n [])) blanks [] [] (record { from = 0; follow = tt; readable = tt }) ([], [], refl, refl, ([], [], refl, refl, ([], [], refl, refl, ([], [], refl, refl, refl))))
    (branch_back n h) h

branch_said : (m : ModuleState) (s : Scope) (n : Name) → IsScopeIn m s → IsNamed n → IsSaidTerm m (term.Br (block_of s n) [])
branch_said m s n in_module h = record {
  bytes = text_of (form no_scale (said.Term (Br n [])));
  line = Br n [];
  says = branch_says n h;
  scope = s;
  in_module = in_module;
  is = refl;
}

either_said : (m : ModuleState) (s : Scope) (x y : Name) (first : Bool) → IsScopeIn m s → IsNamed x → IsNamed y → IsSaidTerm m (term.Br (if first then block_of s y else block_of s x) [])
either_said m s x y true in_module hx hy = branch_said m s y in_module hy
either_said m s x y false in_module hx hy = branch_said m s x in_module hx

kept_by : (m : ModuleState) (s : Scope) (slot : ℕ) (line : RawTerm) → IsScopeIn m s → FitsTerm line → IsCondBr (term_of s line) → IsSaidTerm m (term.Br (kept_target (term_of s line) slot) [])
kept_by m s slot (CondBr cond x y rest) in_module fits is = either_said m s x y (slot == 0) in_module fits.1 fits.2
kept_by m s slot (Br to rest) in_module fits is = absurd is
kept_by m s slot (Ret given rest) in_module fits is = absurd is
kept_by m s slot (Unreachable rest) in_module fits is = absurd is

-- the branch to the target that is kept is said where the conditional branch is
pub kept_said : (m : ModuleState) (t : Term) (slot : ℕ) → IsSaidTerm m t → IsCondBr t → IsSaidTerm m (term.Br (kept_target t slot) [])
kept_said m t slot h is =
    subst (λ (u : Term). IsSaidTerm m (term.Br (kept_target u slot) [])) (sym h.is) (kept_by m h.scope slot h.line h.in_module h.says.fits (subst IsCondBr h.is is))

-- ---- a phi with an entry less

abbrev parts_of : List RawEntry → List (List Part)
parts_of entries = map entry_parts entries

entry_back : (ty : Ty) (e : RawEntry) → IsEntryOf ty e → Back false (entry_parts e) (entry_parts e)
entry_back ty e h = (each_entry ty (e ∷ []) (h, tt)).0

further_all : (ty : Ty) (entries : List RawEntry) → Each (IsEntryOf ty) entries → Next false (further (parts_of entries)) (further (parts_of entries))
further_all ty [] h = nothing
further_all ty (e ∷ entries) h = comma_next (behind (entry_back ty e h.0) (further_all ty entries h.1))

further_less : (ty : Ty) (entries : List RawEntry) (k : ℕ) → Each (IsEntryOf ty) entries → Next false (further (parts_of entries)) (further (parts_of (remove entries k)))
further_less ty [] zero h = nothing
further_less ty [] (suc k) h = nothing
further_less ty (e ∷ entries) zero h = next_behind (nothing {was = word_part word.Comma ∷ blank ∷ entry_parts e}) (further_all ty entries h.1)
further_less ty (e ∷ entries) (suc k) h = comma_next (behind (entry_back ty e h.0) (further_less ty entries k h.1))

-- parts that are left out, before others
left_out : {was : List Part} → Back true was []
left_out = record {
  again = λ old tokens o spelled line rest at to stands before there.
      let same : at ≡ to = omega arith in
      record { tokens = []; follow = subst (λ n. Gap line at n) same (gap_none line at stands.within); spelled = refl; readable = tt };
}

listed_less : (ty : Ty) (entries : List RawEntry) (k : ℕ) → Each (IsEntryOf ty) entries → Back false (listed (parts_of entries)) (listed (parts_of (remove entries k)))
listed_less ty [] zero h = nothing.back
listed_less ty [] (suc k) h = nothing.back
listed_less ty (e ∷ []) zero h = nothing.back
listed_less ty (e ∷ (d ∷ entries)) zero h =
    behind_free (left_out {was = entry_parts e ++ word_part word.Comma ∷ blank ∷ []}) (behind (entry_back ty d h.1.0) (further_all ty entries h.1.1))
listed_less ty (e ∷ entries) (suc k) h = behind (entry_back ty e h.0) (further_less ty entries k h.1)

result_then : (n : Name) (was ps : List Part) → IsNamed n → Back false was ps → Back false (result_parts n ++ was) (result_parts n ++ ps)
result_then (name.Word text) was ps h b = local_then (name.Word text) h (blank_next (token_then (word_whole word.Equals) (blank_next b)))
result_then (name.Number n) was ps h b = local_then (name.Number n) h (blank_next (token_then (word_whole word.Equals) (blank_next b)))
result_then name.Absent was ps h b = absurd h

phi_back : (scale : Scale) (n : Name) (ty : Ty) (entries : List RawEntry) (rest : List ℕ) (k : ℕ) → IsNamed n → Each (IsEntryOf ty) entries
    → Back false (form scale (said.Inst n (Phi ty entries rest))) (form scale (said.Inst n (Phi ty (remove entries k) rest)))
phi_back scale n ty entries rest k named each =
    (blank_next (blank_next (result_then n (inst_parts scale (Phi ty entries rest)) (inst_parts scale (Phi ty (remove entries k) rest)) named
    (token_then (word_whole word.Phi) (blank_next (token_then (type_whole ty) (blank_next (behind (listed_less ty entries k each) (tail_next rest)))))))).back).back

each_less : (ty : Ty) (entries : List RawEntry) (k : ℕ) → Each (IsEntryOf ty) entries → Each (IsEntryOf ty) (remove entries k)
each_less ty [] zero h = tt
each_less ty [] (suc k) h = tt
each_less ty (e ∷ entries) zero h = h.1
each_less ty (e ∷ entries) (suc k) h = (h.0, each_less ty entries k h.1)

-- the globals of the entries that are left
globals_less : (entries : List RawEntry) (k : ℕ) (w : List ℕ) → IsIn (flat_map global_of (map entry_value (remove entries k))) w → IsIn (flat_map global_of (map entry_value entries)) w
globals_less entries k w among =
    let r = in_flat global_of (map entry_value (remove entries k)) w among in
    let e = get_map entry_value (remove entries k) r.1.0 r.0 r.1.1 in
    let at : slice_get entries (place_behind k r.1.0) ≡ Some e.0 = sym (remove_moves entries k r.1.0) ∙ e.1 in
    let there : IsIn (map entry_value entries) r.0 = (place_behind k r.1.0, map_get entry_value entries (place_behind k r.1.0) e.0 at ∙ ap Some e.2) in
    flat_in global_of (map entry_value entries) r.0 w there r.2

-- a line that says an instruction in a module, under a scope
record IsSaidBy (m : ModuleState) (s : Scope) (line : RawInst) : Type 0 where
  pub bytes : List ℕ
  pub name : Name
  pub says : Says bytes (said.Inst name line)
  pub globals : (w : List ℕ) → IsIn (flat_map global_of (values_of line)) w → IsIn m.names.globals w
  pub callee : (w : List ℕ) → IsIn (callee_of line) w → IsIn m.names.funcs w
  pub in_module : IsScopeIn m s

said_by : (m : ModuleState) (s : Scope) (line : RawInst) (i : Inst) → IsSaidBy m s line → IsOrHasNumbers (inst_of s line) i → IsSaidInst m i
said_by m s line i h is = record {
  bytes = h.bytes;
  name = h.name;
  line = line;
  says = h.says;
  globals = h.globals;
  callee = h.callee;
  scope = s;
  in_module = h.in_module;
  is = is;
}

no_entries : (ty : Ty) (s : Scope) (entries : List RawEntry) (rest : List ℕ) → has_entry (inst.Phi ty (map (entry_of s) entries) rest) ≡ true → entries ≢ []
no_entries ty s [] rest some e = true≢false (sym some)
no_entries ty s (x ∷ entries) rest some e = cc

phi_less : (m : ModuleState) (s : Scope) (ty : Ty) (entries : List RawEntry) (rest : List ℕ) (at : Option ℕ) → IsSaidBy m s (Phi ty entries rest)
    → has_entry (inst.Phi ty (without (map (entry_of s) entries) at) rest) ≡ true → IsSaidInst m (inst.Phi ty (without (map (entry_of s) entries) at) rest)
phi_less m s ty entries rest None h some = said_by m s (Phi ty entries rest) (inst.Phi ty (map (entry_of s) entries) rest) h refl
phi_less m s ty entries rest (Some k) h some =
    let same : map (entry_of s) (remove entries k) ≡ remove (map (entry_of s) entries) k = map-remove (entry_of s) entries k in
    let left : remove entries k ≢ [] = no_entries ty s (remove entries k) rest (subst (λ (es : List Entry). has_entry (inst.Phi ty es rest) ≡ true) (sym same) some) in
    said_by m s (Phi ty (remove entries k) rest) (inst.Phi ty (remove (map (entry_of s) entries) k) rest)
    (record {
      bytes = text_of (form h.says.scale (said.Inst h.name (Phi ty (remove entries k) rest)));
      name = h.name;
      says = line_says h.bytes (said.Inst h.name (Phi ty entries rest)) (said.Inst h.name (Phi ty (remove entries k) rest)) h.says
          (phi_back h.says.scale h.name ty entries rest k h.says.fits.0 h.says.fits.1.1) (h.says.fits.0, (left, each_less ty entries k h.says.fits.1.1));
      globals = λ w among. h.globals w (globals_less entries k w among);
      callee = h.callee;
      in_module = h.in_module;
    })
    (ap (λ (es : List Entry). inst.Phi ty es rest) (sym same))

inst_less : (m : ModuleState) (s : Scope) (b : ℕ) (line : RawInst) → IsSaidBy m s line → has_entry (inst_without b (inst_of s line)) ≡ true → IsSaidInst m (inst_without b (inst_of s line))
inst_less m s b (Phi ty entries rest) h some = phi_less m s ty entries rest (position (is_from b) (map (entry_of s) entries)) h some
inst_less m s b line h some = said_by m s line (inst_of s line) h (same_inst (inst_of s line))

-- without an entry for a block an instruction is said where it was said with it, as long as some entry is left
pub less_said : (m : ModuleState) (b : ℕ) (i : Inst) → IsSaidInst m i → has_entry (inst_without b i) ≡ true → IsSaidInst m (inst_without b i)
less_said m b i h some =
    let by : IsSaidBy m h.scope h.line = record { bytes = h.bytes; name = h.name; says = h.says; globals = h.globals; callee = h.callee; in_module = h.in_module } in
    elim (numbers_or_same (inst_of h.scope h.line) i h.is) [
      | inl same ↦
          subst (λ (j : Inst). IsSaidInst m (inst_without b j)) (sym same)
          (inst_less m h.scope b h.line by (subst (λ (j : Inst). has_entry (inst_without b j) ≡ true) same some))
      | inr numbers ↦
          let stays : inst_without b i ≡ i = ap (inst_without b) numbers.now_is ∙ sym numbers.now_is in
          subst (λ (j : Inst). IsSaidInst m j) (sym stays) h
    ]
