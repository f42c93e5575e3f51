-- A line whose locals and blocks get other names is said by its printed form, where those are names.
use Rattle.std.proofs.Common.{◌≡◌, ℕ, suc, Bool, true, false, List, [], ◌∷◌, ◌++◌, Some, None, length, map, refl, ap, subst, arith}
use Rattle.ms_lex.specs.declared.token.Token.{Token}
use Rattle.ms_ir.specs.declared.names.Ty.{Ty}
use Rattle.ms_ir.specs.declared.names.Ty.TheVariants.{I1, I64, Ptr}
use Rattle.ms_ir.specs.declared.names.Name.{Name}
use Rattle.ms_ir.specs.declared.names.Name.TheVariants as name
use Rattle.ms_ir.specs.declared.names.Param.{Param}
use Rattle.ms_grammar.specs.Kept.{Each}
use Rattle.ms_grammar.specs.Parts.{Part, blank, token, apart, attributes, post, object, gep_head, indices, call_head, copy_head, Spells}
use Rattle.ms_grammar.specs.Form.{Scale, form, word_part, type_part, local_part, value_part, brace_parts, front_parts, listed, arg_parts, entry_parts, index_text, name_text, named_parts, param_parts, dots_parts, end_parts, target_parts, inst_parts, term_parts, result_parts}
use Rattle.ms_grammar.specs.Fits.{IsNamed, MayBeNamed, IsValue, IsArg, IsParam, IsEntryOf, FitsInst, FitsTerm, FitsHead}
use Rattle.ms_grammar.specs.declared.line.Head.{Head}
use Rattle.ms_grammar.specs.declared.line.Line.TheVariants as said
use Rattle.ms_grammar.specs.declared.line.RawVal.{RawVal}
use Rattle.ms_grammar.specs.declared.line.RawVal.TheVariants.{Num, Local, Global}
use Rattle.ms_grammar.specs.declared.line.RawArg.{RawArg}
use Rattle.ms_grammar.specs.declared.line.RawEntry.{RawEntry}
use Rattle.ms_grammar.specs.declared.line.RawIndex.{RawIndex}
use Rattle.ms_grammar.specs.declared.line.RawInst.{RawInst}
use Rattle.ms_grammar.specs.declared.line.RawInst.TheVariants.{Alloca, Gep, Step, Load, Store, Copy, Call, Bin, Cmp, Select, Cast, Phi}
use Rattle.ms_grammar.specs.declared.line.RawTerm.{RawTerm}
use Rattle.ms_grammar.specs.declared.line.RawTerm.TheVariants.{Br, CondBr, Ret, Unreachable}
use Rattle.ms_grammar.specs.declared.keyword.Keyword.{Keyword}
use Rattle.ms_grammar.specs.declared.keyword.Keyword.TheVariants as word
use Rattle.ms_print.specs.Numbering.{shown_params, shown_name, free_after}
use Rattle.ms_reread.proofs.Places.{Gap, gap_none}
use Rattle.ms_reread.proofs.Moves.{Old}
use Rattle.ms_reread.proofs.Pieces.{Back, Next, behind, behind_free, next_behind, nothing, blank_next, token_back, token_then, mark_free, mark_next, flag_next}
use Rattle.ms_reread.proofs.Classes.{kept_back, attributes_next, post_next, tail_next}
use Rattle.ms_reread.proofs.Tokens.{word_whole, type_whole, op_whole, predicate_whole, cast_whole, result_whole, global_whole, global_name_whole, local_whole, label_whole, colon_calm, open_calm, close_calm, open_square}
use Rattle.ms_reread.proofs.Values.{EachBack, count_back, value_back, comma_next, listed_back}
use Rattle.ms_reread.proofs.Renewed.{terms_whole}
use Rattle.ms_again.proofs.Woven.{terms_local, woven_other}
use Rattle.ms_again.proofs.Renaming.{Renaming, renamed_val, renamed_arg, renamed_entry, renamed_index, renamed_inst, renamed_term}

-- tokens that are written anew, whatever was said in their place
nothing_old : Old [] []
nothing_old = record { from = 0; follow = tt; readable = tt }

fresh : {free : Bool} {was ps : List Part} → Back free [] ps → Back free was ps
fresh b = record { again = λ old tokens o spelled line rest at to stands before there. b.again [] [] nothing_old refl line rest at to stands before there }

fresh_next : {free : Bool} {was ps : List Part} → Next free [] ps → Next free was ps
fresh_next n = record {
  lead = λ old tokens o spelled rest before. n.lead [] [] nothing_old refl rest before;
  back = fresh n.back;
}

-- a blank says nothing
with_blank : (old : List ℕ) (tokens : List Token) (was : List Part) → Spells old tokens was → Spells old tokens (blank ∷ was)
with_blank old tokens was h = ([], tokens, refl, refl, h)

unblank : {free : Bool} {was ps : List Part} → Next free (blank ∷ was) ps → Next free was ps
unblank {was = was} n = record {
  lead = λ old tokens o spelled rest before. n.lead old tokens o (with_blank old tokens was spelled) rest before;
  back = record { again = λ old tokens o spelled line rest at to stands before there. n.back.again old tokens o (with_blank old tokens was spelled) line rest at to stands before there };
}

nothing_free : Back true [] []
nothing_free = record {
  again = λ old tokens o spelled line rest at to stands before there.
      let same : at ≡ to = omega arith in
      record { tokens = []; follow = subst (λ n. Gap line at n) same (gap_none line at stands.within); spelled = refl; readable = tt };
}

-- values
val_back : (r : Renaming) (ty : Ty) (a : RawVal) → IsValue ty (renamed_val r a) → Back false (value_part a ∷ []) (value_part (renamed_val r a) ∷ [])
val_back r ty (Num own n) h = value_back ty (Num own n) h
val_back r ty (Local n) h = token_back (local_whole (r.local n) h)
val_back r ty (Global n) h = value_back ty (Global n) h

val_then : {free : Bool} {was ps : List Part} (r : Renaming) (ty : Ty) (a : RawVal) → IsValue ty (renamed_val r a) → Next free was ps → Back free (value_part a ∷ was) (value_part (renamed_val r a) ∷ ps)
val_then r ty a h next = behind (val_back r ty a h) next

typed_val : {free : Bool} {was ps : List Part} (r : Renaming) (ty : Ty) (a : RawVal) → IsValue ty (renamed_val r a) → Next free was ps →
    Back free (type_part ty ∷ blank ∷ value_part a ∷ was) (type_part ty ∷ blank ∷ value_part (renamed_val r a) ∷ ps)
typed_val r ty a h next = token_then (type_whole ty) (blank_next (val_then r ty a h next))

other_local : {free : Bool} {was ps : List Part} (n m : Name) → IsNamed m → Next free was ps → Back free (local_part n ∷ was) (local_part m ∷ ps)
other_local n m h next = behind (token_back {was = local_part n ∷ []} (local_whole m h)) next

arg_val : {free : Bool} {was ps : List Part} (r : Renaming) (a : RawArg) → IsArg (renamed_arg r a) → Next free was ps →
    Back free (type_part a.ty ∷ apart attributes a.text ∷ blank ∷ value_part a.val ∷ was) (type_part a.ty ∷ apart attributes a.text ∷ blank ∷ value_part (renamed_val r a.val) ∷ ps)
arg_val r a h next = token_then (type_whole a.ty) (next_behind (attributes_next a.text) (blank_next (val_then r a.ty a.val h next)))

entry_back : (r : Renaming) (ty : Ty) (e : RawEntry) → IsEntryOf ty (renamed_entry r e) → Back false (entry_parts e) (entry_parts (renamed_entry r e))
entry_back r ty e h =
    mark_free open_square
    (blank_next (val_then r ty e.val h.0 (comma_next (other_local e.from (r.block e.from) h.1 (blank_next (token_back (word_whole word.CloseSquare))))))).back

each_arg : (r : Renaming) (args : List RawArg) → Each IsArg (map (renamed_arg r) args) → EachBack (map arg_parts args) (map arg_parts (map (renamed_arg r) args))
each_arg r [] h = tt
each_arg r (a ∷ args) h = (arg_val r a h.0 nothing, each_arg r args h.1)

each_entry : (r : Renaming) (ty : Ty) (entries : List RawEntry) → Each (IsEntryOf ty) (map (renamed_entry r) entries) → EachBack (map entry_parts entries) (map entry_parts (map (renamed_entry r) entries))
each_entry r ty [] h = tt
each_entry r ty (e ∷ entries) h = (entry_back r ty e h.0, each_entry r ty entries h.1)

-- as many indices
same_count : (r : Renaming) (terms : List RawIndex) → length (map index_text terms) ≡ length (map index_text (map (renamed_index r) terms))
same_count r [] = refl
same_count r (t ∷ terms) = ap suc (same_count r terms)

end_next : (last rest : List ℕ) → Next false (end_parts last rest) (end_parts last rest)
end_next last rest = next_behind (post_next last) (tail_next rest)

-- an instruction
inst_back : (r : Renaming) (scale : Scale) (i : RawInst) → FitsInst scale (renamed_inst r i) → Back false (inst_parts scale i) (inst_parts scale (renamed_inst r i))
inst_back r scale (Alloca size head rest) h = token_then (word_whole word.Alloca) (blank_next (behind (kept_back (object size) head) (tail_next rest)))
inst_back r scale (Gep base offset head index rest) h =
    token_then (word_whole word.Getelementptr)
    (blank_next (behind (kept_back (gep_head scale.sizes) head)
    (comma_next (typed_val r Ptr base h.0 (comma_next (behind (kept_back (indices scale.indices) index) (tail_next rest)))))))
inst_back r scale (Step base offset terms head index rest) h =
    token_then (word_whole word.Getelementptr)
    (blank_next (behind (kept_back (gep_head scale.sizes) head)
    (comma_next (typed_val r Ptr base h.0 (comma_next (behind
    (woven_other scale.items (map index_text terms) (map index_text (map (renamed_index r) terms)) index (same_count r terms)
    (terms_whole scale.sizes scale.items (map (renamed_index r) terms) h.2) (terms_local scale.sizes scale.items (map (renamed_index r) terms) h.2))
    (tail_next rest)))))))
inst_back r scale (Load ty ptr rest) h =
    token_then (word_whole word.Load) (blank_next (token_then (type_whole ty) (comma_next (typed_val r Ptr ptr h.1 (tail_next rest)))))
inst_back r scale (Store ty val ptr rest) h =
    token_then (word_whole word.Store) (blank_next (typed_val r ty val h.1 (comma_next (typed_val r Ptr ptr h.2 (tail_next rest)))))
inst_back r scale (Copy to from len head last rest) h =
    behind (kept_back copy_head head)
    (blank_next (token_then (word_whole word.Memcpy)
    (mark_next open_calm (arg_val r to h.2 (comma_next (arg_val r from h.3
    (comma_next (token_then (type_whole I64) (blank_next (behind (count_back len)
    (comma_next (token_then (type_whole I1) (blank_next (token_then (word_whole word.False)
    (mark_next close_calm (end_next last rest).back)))))))))))))))
inst_back r scale (Call callee ret args head last rest) h =
    behind (kept_back (call_head ret) head)
    (blank_next (token_then (global_name_whole callee h.0.0)
    (mark_next open_calm (behind (listed_back (map arg_parts args) (map arg_parts (map (renamed_arg r) args)) (each_arg r args h.2))
    (mark_next close_calm (end_next last rest).back)))))
inst_back r scale (Bin op flags ty a b rest) h =
    token_then (op_whole op)
    (flag_next flags.nuw (word_whole word.Nuw) (flag_next flags.nsw (word_whole word.Nsw)
    (flag_next flags.exact (word_whole word.Exact) (flag_next flags.disjoint (word_whole word.Disjoint)
    (blank_next (typed_val r ty a h.2 (comma_next (val_then r ty b h.3 (tail_next rest)))))))))
inst_back r scale (Cmp pred flags ty a b rest) h =
    token_then (word_whole word.Icmp)
    (flag_next flags.samesign (word_whole word.Samesign)
    (blank_next (token_then (predicate_whole pred)
    (blank_next (typed_val r ty a h.2 (comma_next (val_then r ty b h.3 (tail_next rest))))))))
inst_back r scale (Select cond ty a b rest) h =
    token_then (word_whole word.Select)
    (blank_next (typed_val r I1 cond h.0 (comma_next (typed_val r ty a h.1 (comma_next (typed_val r ty b h.2 (tail_next rest)))))))
inst_back r scale (Cast op flags from a to rest) h =
    token_then (cast_whole op)
    (flag_next flags.nneg (word_whole word.Nneg) (flag_next flags.nuw (word_whole word.Nuw) (flag_next flags.nsw (word_whole word.Nsw)
    (blank_next (typed_val r from a h.4 (blank_next (token_then (word_whole word.To) (blank_next (token_then (type_whole to) (tail_next rest))))))))))
inst_back r scale (Phi ty entries rest) h =
    token_then (word_whole word.Phi)
    (blank_next (token_then (type_whole ty)
    (blank_next (behind (listed_back (map entry_parts entries) (map entry_parts (map (renamed_entry r) entries)) (each_entry r ty entries h.1)) (tail_next rest)))))

target_then : {free : Bool} {was ps : List Part} (n m : Name) → IsNamed m → Next free was ps → Back free (target_parts n ++ was) (target_parts m ++ ps)
target_then n m h next = token_then (word_whole word.Label) (blank_next (other_local n m h next))

term_back : (r : Renaming) (t : RawTerm) → FitsTerm (renamed_term r t) → Back false (term_parts t) (term_parts (renamed_term r t))
term_back r (Br target rest) h = token_then (word_whole word.Br) (blank_next (target_then target (r.block target) h (tail_next rest)))
term_back r (CondBr cond if_true if_false rest) h =
    token_then (word_whole word.Br)
    (blank_next (typed_val r I1 cond h.0 (comma_next (target_then if_true (r.block if_true) h.1 (comma_next (target_then if_false (r.block if_false) h.2 (tail_next rest)))))))
term_back r (Ret None rest) h = token_then (word_whole word.Ret) (blank_next (token_then (word_whole word.Void) (tail_next rest)))
term_back r (Ret (Some given) rest) h = token_then (word_whole word.Ret) (blank_next (typed_val r given.0 given.1 h.1 (tail_next rest)))
term_back r (Unreachable rest) h = token_then (word_whole word.Unreachable) (tail_next rest)

-- the local of a result, written anew
result_fresh : (n : Name) → IsNamed n → Back true [] (local_part n ∷ blank ∷ word_part word.Equals ∷ blank ∷ [])
result_fresh n h =
    let first : Next true [] (blank ∷ []) = unblank (blank_next nothing_free) in
    let second : Back true [] (word_part word.Equals ∷ blank ∷ []) = behind (token_back {was = []} (word_whole word.Equals)) first in
    let third : Next true [] (blank ∷ word_part word.Equals ∷ blank ∷ []) = unblank (blank_next second) in
    behind (token_back {was = []} (local_whole n h)) third

result_back : (n m : Name) → MayBeNamed m → Back true (result_parts n) (result_parts m)
result_back n (name.Word text) h = fresh (result_fresh (name.Word text) h)
result_back n (name.Number k) h = fresh (result_fresh (name.Number k) h)
result_back n name.Absent h = fresh nothing_free

-- the name of a parameter, written anew
named_fresh : (n m : Name) → MayBeNamed m → Next false (named_parts n) (named_parts m)
named_fresh n (name.Word text) h = fresh_next (unblank (blank_next (token_back {was = []} (local_whole (name.Word text) h))))
named_fresh n (name.Number k) h = fresh_next (unblank (blank_next (token_back {was = []} (local_whole (name.Number k) h))))
named_fresh n name.Absent h = nothing

pub param_back : (p : Param) (m : Name) → MayBeNamed m → Back false (param_parts p) (param_parts (record p { name = m }))
param_back p m h = token_then (type_whole p.ty) (next_behind (attributes_next p.text) (named_fresh p.name m h))

pub each_dots : (variadic : Bool) → EachBack (dots_parts variadic) (dots_parts variadic)
each_dots true = (token_back (word_whole word.Dots), tt)
each_dots false = tt

each_param : (next : ℕ) (ps : List Param) (variadic : Bool) → Each IsParam (shown_params next ps) →
    EachBack (map param_parts ps ++ dots_parts variadic) (map param_parts (shown_params next ps) ++ dots_parts variadic)
each_param next [] variadic h = each_dots variadic
each_param next (p ∷ ps) variadic h = (param_back p (shown_name next p.name) h.0, each_param (free_after next p.name) ps variadic h.1)

pub head_back : (w : Keyword) (h : Head) (was ps : List (List Part)) → FitsHead h → EachBack was ps →
    Back false (front_parts w h ++ listed was ++ word_part word.Close ∷ apart post h.post ∷ []) (front_parts w h ++ listed ps ++ word_part word.Close ∷ apart post h.post ∷ [])
head_back w h was ps fits each =
    token_then (word_whole w)
    (next_behind (attributes_next h.attrs)
    (blank_next (token_then (result_whole h.ret)
    (blank_next (token_then (global_whole h.name fits.0)
    (mark_next open_calm (behind (listed_back was ps each) (mark_next close_calm (post_next h.post).back))))))))

pub brace_next : Next false brace_parts brace_parts
brace_next = blank_next (token_back (word_whole word.OpenBrace))

-- whole lines
abbrev pub with_params : Head → Head
with_params h = record h { params = shown_params 0 h.params }

pub define_back : (h : Head) → FitsHead h → Each IsParam (shown_params 0 h.params) → (scale : Scale) → Back false (form scale (said.Define h)) (form scale (said.Define (with_params h)))
define_back h fits named scale =
    behind (head_back word.Define h (map param_parts h.params ++ dots_parts h.variadic) (map param_parts (shown_params 0 h.params) ++ dots_parts h.variadic) fits
    (each_param 0 h.params h.variadic named)) brace_next

pub inst_line_back : (r : Renaming) (n m : Name) (scale : Scale) (i : RawInst) → MayBeNamed m → FitsInst scale (renamed_inst r i) →
    Back false (form scale (said.Inst n i)) (form scale (said.Inst m (renamed_inst r i)))
inst_line_back r n m scale i named fits = (blank_next (blank_next (behind_free (result_back n m named) (inst_back r scale i fits))).back).back

pub term_line_back : (r : Renaming) (scale : Scale) (t : RawTerm) → FitsTerm (renamed_term r t) → Back false (form scale (said.Term t)) (form scale (said.Term (renamed_term r t)))
term_line_back r scale t fits = (blank_next (blank_next (term_back r t fits)).back).back

pub label_line_back : (scale : Scale) (n m : Name) → IsNamed m → Back false (form scale (said.Label n)) (form scale (said.Label m))
label_line_back scale n m h = behind (token_back {was = token (name_text n) ∷ []} (label_whole m h)) (mark_next colon_calm (nothing {was = []}).back)
