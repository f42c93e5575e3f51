-- Each line is read again where it is printed.
use Rattle.std.proofs.Common.{ℕ, Bool, false, List, [], ◌∷◌, ◌++◌, Some, None, map}
use Rattle.ms_ir.specs.declared.names.Ty.TheVariants.{I1, I64, Ptr}
use Rattle.ms_ir.specs.declared.names.Name.{Name}
use Rattle.ms_ir.specs.declared.names.Name.TheVariants as name
use Rattle.ms_grammar.specs.Parts.{Part, apart, post, object, gep_head, indices, call_head, copy_head, kept_line, group_line, global_line}
use Rattle.ms_grammar.specs.Form.{Scale, form, word_part, brace_parts, front_parts, listed, arg_parts, entry_parts, param_parts, dots_parts, end_parts, index_text, target_parts, inst_parts, term_parts, result_parts}
use Rattle.ms_grammar.specs.Fits.{IsNamed, FitsInst, FitsTerm, FitsHead, FitsLine, IsMade}
use Rattle.ms_grammar.specs.Grammar.{kept_of, without_name}
use Rattle.ms_grammar.specs.declared.line.Head.{Head}
use Rattle.ms_grammar.specs.declared.line.Line.{Line}
use Rattle.ms_grammar.specs.declared.line.Line.TheVariants as said
use Rattle.ms_grammar.specs.declared.line.RawInst.{RawInst}
use Rattle.ms_grammar.specs.declared.line.RawInst.TheVariants.{Alloca, Gep, Step, Load, Store, Copy, Call, Bin, Cmp, Select, Cast, Phi}
use Rattle.ms_grammar.specs.declared.line.RawTerm.{RawTerm}
use Rattle.ms_grammar.specs.declared.line.RawTerm.TheVariants.{Br, CondBr, Ret, Unreachable}
use Rattle.ms_grammar.specs.declared.keyword.Keyword.{Keyword}
use Rattle.ms_grammar.specs.declared.keyword.Keyword.TheVariants as word
use Rattle.ms_reread.proofs.Pieces.{Back, Next, behind, next_behind, nothing, blank_next, token_back, token_then, mark_next, flag_next}
use Rattle.ms_reread.proofs.Classes.{kept_back, attributes_next, post_next, tail_next}
use Rattle.ms_reread.proofs.Tokens.{word_whole, type_whole, op_whole, predicate_whole, cast_whole, result_whole, global_whole, global_name_whole, label_whole, colon_calm, open_calm, close_calm}
use Rattle.ms_reread.proofs.Renewed.{terms_whole, woven_back}
use Rattle.ms_reread.proofs.Values.{EachBack, count_back, value_then, typed_then, local_then, comma_next, arg_then, listed_back, each_arg, each_entry, each_param, each_bare}

-- what is kept behind the arguments of a call
end_next : (last rest : List ℕ) → Next false (end_parts last rest) (end_parts last rest)
end_next last rest = next_behind (post_next last) (tail_next rest)

-- an instruction
inst_back : (scale : Scale) (i : RawInst) → FitsInst scale i → Back false (inst_parts scale i) (inst_parts scale i)
inst_back scale (Alloca size head rest) h = token_then (word_whole word.Alloca) (blank_next (behind (kept_back (object size) head) (tail_next rest)))
inst_back scale (Gep base offset head index rest) h =
    token_then (word_whole word.Getelementptr)
    (blank_next (behind (kept_back (gep_head scale.sizes) head)
    (comma_next (typed_then Ptr base h.0 (comma_next (behind (kept_back (indices scale.indices) index) (tail_next rest)))))))
inst_back scale (Step base offset terms head index rest) h =
    token_then (word_whole word.Getelementptr)
    (blank_next (behind (kept_back (gep_head scale.sizes) head)
    (comma_next (typed_then Ptr base h.0
    (comma_next (behind (woven_back scale.items (map index_text terms) index (terms_whole scale.sizes scale.items terms h.2)) (tail_next rest)))))))
inst_back scale (Load ty ptr rest) h =
    token_then (word_whole word.Load) (blank_next (token_then (type_whole ty) (comma_next (typed_then Ptr ptr h.1 (tail_next rest)))))
inst_back scale (Store ty val ptr rest) h =
    token_then (word_whole word.Store) (blank_next (typed_then ty val h.1 (comma_next (typed_then Ptr ptr h.2 (tail_next rest)))))
inst_back scale (Copy to from len head last rest) h =
    behind (kept_back copy_head head)
    (blank_next (token_then (word_whole word.Memcpy)
    (mark_next open_calm (arg_then to h.2 (comma_next (arg_then from h.3
    (comma_next (token_then (type_whole I64) (blank_next (behind (count_back len)
    (comma_next (token_then (type_whole I1) (blank_next (token_then (word_whole word.False)
    (mark_next close_calm (end_next last rest).back)))))))))))))))
inst_back scale (Call callee ret args head last rest) h =
    behind (kept_back (call_head ret) head)
    (blank_next (token_then (global_name_whole callee h.0.0)
    (mark_next open_calm (behind (listed_back (map arg_parts args) (map arg_parts args) (each_arg args h.2))
    (mark_next close_calm (end_next last rest).back)))))
inst_back scale (Bin op flags ty a b rest) h =
    token_then (op_whole op)
    (flag_next flags.nuw (word_whole word.Nuw) (flag_next flags.nsw (word_whole word.Nsw)
    (flag_next flags.exact (word_whole word.Exact) (flag_next flags.disjoint (word_whole word.Disjoint)
    (blank_next (typed_then ty a h.2 (comma_next (value_then ty b h.3 (tail_next rest)))))))))
inst_back scale (Cmp pred flags ty a b rest) h =
    token_then (word_whole word.Icmp)
    (flag_next flags.samesign (word_whole word.Samesign)
    (blank_next (token_then (predicate_whole pred)
    (blank_next (typed_then ty a h.2 (comma_next (value_then ty b h.3 (tail_next rest))))))))
inst_back scale (Select cond ty a b rest) h =
    token_then (word_whole word.Select)
    (blank_next (typed_then I1 cond h.0 (comma_next (typed_then ty a h.1 (comma_next (typed_then ty b h.2 (tail_next rest)))))))
inst_back scale (Cast op flags from a to rest) h =
    token_then (cast_whole op)
    (flag_next flags.nneg (word_whole word.Nneg) (flag_next flags.nuw (word_whole word.Nuw) (flag_next flags.nsw (word_whole word.Nsw)
    (blank_next (typed_then from a h.4 (blank_next (token_then (word_whole word.To) (blank_next (token_then (type_whole to) (tail_next rest))))))))))
inst_back scale (Phi ty entries rest) h =
    token_then (word_whole word.Phi)
    (blank_next (token_then (type_whole ty)
    (blank_next (behind (listed_back (map entry_parts entries) (map entry_parts entries) (each_entry ty entries h.1)) (tail_next rest)))))

target_then : {free : Bool} {was ps : List Part} (n : Name) → IsNamed n → Next free was ps → Back free (target_parts n ++ was) (target_parts n ++ ps)
target_then n h next = token_then (word_whole word.Label) (blank_next (local_then n h next))

term_back : (t : RawTerm) → FitsTerm t → Back false (term_parts t) (term_parts t)
term_back (Br target rest) h = token_then (word_whole word.Br) (blank_next (target_then target h (tail_next rest)))
term_back (CondBr cond if_true if_false rest) h =
    token_then (word_whole word.Br)
    (blank_next (typed_then I1 cond h.0 (comma_next (target_then if_true h.1 (comma_next (target_then if_false h.2 (tail_next rest)))))))
term_back (Ret None rest) h = token_then (word_whole word.Ret) (blank_next (token_then (word_whole word.Void) (tail_next rest)))
term_back (Ret (Some given) rest) h = token_then (word_whole word.Ret) (blank_next (typed_then given.0 given.1 h.1 (tail_next rest)))
term_back (Unreachable rest) h = token_then (word_whole word.Unreachable) (tail_next rest)

-- the line of a function, whose parameters may lose their names
head_back : (w : Keyword) (h : Head) (was ps : List (List Part)) → FitsHead h → EachBack was ps →
    Back false (front_parts w h ++ listed was ++ word_part word.Close ∷ apart post h.post ∷ []) (front_parts w h ++ listed ps ++ word_part word.Close ∷ apart post h.post ∷ [])
head_back w h was ps fits each =
    token_then (word_whole w)
    (next_behind (attributes_next h.attrs)
    (blank_next (token_then (result_whole h.ret)
    (blank_next (token_then (global_whole h.name fits.0)
    (mark_next open_calm (behind (listed_back was ps each) (mark_next close_calm (post_next h.post).back))))))))

brace_next : Next false brace_parts brace_parts
brace_next = blank_next (token_back (word_whole word.OpenBrace))

-- the name of a result, and what stands behind it
result_then : (n : Name) (ps : List Part) → IsNamed n → Back false ps ps → Back false (result_parts n ++ ps) (result_parts n ++ ps)
result_then (name.Word text) ps h b = local_then (name.Word text) h (blank_next (token_then (word_whole word.Equals) (blank_next b)))
result_then (name.Number n) ps h b = local_then (name.Number n) h (blank_next (token_then (word_whole word.Equals) (blank_next b)))
result_then name.Absent ps h b = absurd h

made_word : (text : List ℕ) (i : RawInst) → IsMade (name.Word text) i → IsNamed (name.Word text)
made_word text (Store _ _ _ _) h = absurd (cc)
made_word text (Copy _ _ _ _ _ _) h = absurd (cc)
made_word text (Call _ None _ _ _ _) h = absurd (cc)
made_word text (Call _ (Some _) _ _ _ _) h = h
made_word text i h = h

made_number : (n : ℕ) (i : RawInst) → IsMade (name.Number n) i → IsNamed (name.Number n)
made_number n (Store _ _ _ _) h = absurd (cc)
made_number n (Copy _ _ _ _ _ _) h = absurd (cc)
made_number n (Call _ None _ _ _ _) h = absurd (cc)
made_number n (Call _ (Some _) _ _ _ _) h = h
made_number n i h = h

inst_line_back : (scale : Scale) (n : Name) (i : RawInst) → IsMade n i → Back false (inst_parts scale i) (inst_parts scale i) → Back false (result_parts n ++ inst_parts scale i) (result_parts n ++ inst_parts scale i)
inst_line_back scale name.Absent i made b = b
inst_line_back scale (name.Word text) i made b = result_then (name.Word text) (inst_parts scale i) (made_word text i made) b
inst_line_back scale (name.Number n) i made b = result_then (name.Number n) (inst_parts scale i) (made_number n i made) b

-- a line, of which the kept part is printed
pub line_back : (scale : Scale) (l : Line) → FitsLine scale l → Back false (form scale l) (form scale (kept_of l))
line_back scale said.Empty h = nothing.back
line_back scale said.Close h = token_back (word_whole word.CloseBrace)
line_back scale (said.Kept text) h = kept_back kept_line text
line_back scale (said.Group n text) h = kept_back (group_line n) text
line_back scale (said.GlobalVar name text) h = kept_back (global_line name) text
line_back scale (said.Label n) h = token_then (label_whole n h) (mark_next colon_calm nothing.back)
line_back scale (said.Declare head) h =
    head_back word.Declare head (map param_parts head.params ++ dots_parts head.variadic) (map param_parts (map without_name head.params) ++ dots_parts head.variadic) h
    (each_bare head.params head.variadic)
line_back scale (said.Define head) h =
    behind (head_back word.Define head (map param_parts head.params ++ dots_parts head.variadic) (map param_parts head.params ++ dots_parts head.variadic) h.0
    (each_param head.params head.variadic h.0.1)) brace_next
line_back scale (said.Inst n inst) h = (blank_next (blank_next (inst_line_back scale n inst h.0 (inst_back scale inst h.1))).back).back
line_back scale (said.Term term) h = (blank_next (blank_next (term_back term h)).back).back
