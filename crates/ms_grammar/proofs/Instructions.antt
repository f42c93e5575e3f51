-- Two readings of one instruction, or of one terminator, are one.
use Rattle.std.proofs.Common.{◌≡◌, ℕ, true, false, List, [], ◌∷◌, ◌++◌, Option, None, map, take, codes, refl, sym, ap, subst, ◌∙◌, append-nil}
use Rattle.std.specs.Str.{bytes_eq}
use Rattle.ms_ir.specs.declared.names.Ty.{Ty}
use Rattle.ms_ir.specs.declared.names.Ty.TheVariants.{I1}
use Rattle.ms_ir.specs.declared.names.Name.{Name}
use Rattle.ms_grammar.specs.Words.{spelling, type_word}
use Rattle.ms_grammar.specs.Kept.IsCallType.{none as no_type}
use Rattle.ms_grammar.specs.Parts.{Part, blank, token, kept, call_head, copy_head, texts, joined, result_word}
use Rattle.ms_grammar.specs.Form.{Scale, word_part, arg_parts, listed, copy_pointers, copy_length, end_parts, inst_parts, term_parts, name_text}
use Rattle.ms_grammar.specs.Fits.{FitsInst, FitsTerm, IsOwnName}
use Rattle.ms_grammar.specs.declared.line.RawVal.{RawVal}
use Rattle.ms_grammar.specs.declared.line.RawArg.{RawArg}
use Rattle.ms_grammar.specs.declared.line.RawInst.{RawInst}
use Rattle.ms_grammar.specs.declared.line.RawInst.TheVariants.{Alloca, Gep, Step, Load, Store, Copy, Call, Bin, Cmp, Select, Cast, Phi}
use Rattle.ms_grammar.specs.declared.line.RawTerm.{RawTerm}
use Rattle.ms_grammar.specs.declared.line.RawTerm.TheVariants.{Br, CondBr, Ret, Unreachable}
use Rattle.ms_grammar.specs.declared.keyword.Keyword.TheVariants as word
use Rattle.ms_grammar.proofs.Steps.{same}
use Rattle.ms_grammar.proofs.Both.{Both, both_blank, both_token, both_lead, flip, behind_first}
use Rattle.ms_grammar.proofs.Calls.{both_call_head}
use Rattle.ms_grammar.proofs.Callees.{call_one, copy_one}
use Rattle.ms_grammar.proofs.Forms.{load_one, store_one, select_one, bin_one, cast_line_one, jump_one, branch_one, ret_one, unreachable_one}
use Rattle.ms_grammar.proofs.Insts.{alloca_one, gep_one, cmp_one, phi_one}
use Rattle.ms_grammar.proofs.Indices.{step_one, gep_no_step}
use Rattle.ms_grammar.proofs.Leads.{lead_is, one_lead}

-- what stands before a memcpy's name could stand before the name of any function that gives nothing
copy_as_call : (line : List ℕ) (c d : List ℕ) (b : Option Ty) (ps qs : List Part) → Both line (kept (call_head b) c ∷ ps) (kept copy_head d ∷ qs) →
    (e : List ℕ) × Both line (kept (call_head b) c ∷ ps) (kept (call_head None) e ∷ qs)
copy_as_call line c d b ps qs h =
    let head = h.other.3 in
    let text : List ℕ = joined (texts line head.mark ++ [] ∷ result_word None ∷ [] ∷ []) in (
      text,
      record {
        tokens = h.tokens;
        one = h.one;
        other = (
          h.other.0,
          h.other.1,
          h.other.2,
          record {
            mark = head.mark;
            before = [];
            result = head.result;
            written = [];
            whole = head.whole ∙ sym (append-nil (head.mark ++ head.result)) ∙ regroup head.mark head.result;
            marked = head.marked;
            attributes = record { items = []; each = tt; whole = refl };
            result_is = head.result_is;
            written_is = no_type refl;
            is = refl;
          },
          h.other.4,
        );
      },
    )
  where
    regroup : {X : Type 0} (us vs : List X) → (us ++ vs) ++ [] ≡ ((us ++ []) ++ vs) ++ []
    regroup us vs = ap (λ ws. (ws ++ vs) ++ []) (sym (append-nil us))

pub own_no_memcpy : (n : Name) → IsOwnName n → 64 ∷ name_text n ≡ spelling word.Memcpy → ⊥
unfolding spelling
own_no_memcpy n own e =
    let text : name_text n ≡ codes "llvm.memcpy.p0.p0.i64" = behind_first 64 64 (name_text n) (codes "llvm.memcpy.p0.p0.i64") e in
    let begins : bytes_eq (take 5 (name_text n)) (codes "llvm.") ≡ true = ap (λ s. bytes_eq (take 5 s) (codes "llvm.")) text in
    let none = own.1 in
    cc

memcpy_mark : (m : List ℕ) × (spelling word.Memcpy ≡ 64 ∷ m)
unfolding spelling
memcpy_mark = (codes "llvm.memcpy.p0.p0.i64", refl)

-- no line is a memcpy and another call
call_no_copy : (line : List ℕ) (s t : Scale) (n : Name) (b : Option Ty) (ys : List RawArg) (x y : RawArg) (k : ℕ) (c d p q u v : List ℕ) → FitsInst s (Call n b ys c p u) →
    Both line (inst_parts s (Call n b ys c p u)) (inst_parts t (Copy x y k d q v)) → ⊥
call_no_copy line s t n b ys x y k c d p q u v f h =
    let before : List Part = word_part word.Open ∷ listed (map arg_parts ys) ++ word_part word.Close ∷ end_parts p u in
    let behind : List Part = copy_pointers x y ++ copy_length k ++ end_parts q v in
    let as_call = copy_as_call line c d b (blank ∷ token (64 ∷ name_text n) ∷ before) (blank ∷ word_part word.Memcpy ∷ behind) h in
    let mark = memcpy_mark in
    let marked : Both line (kept (call_head b) c ∷ blank ∷ token (64 ∷ name_text n) ∷ before) (kept (call_head None) as_call.0 ∷ blank ∷ token (64 ∷ mark.0) ∷ behind) =
    subst (λ w. Both line (kept (call_head b) c ∷ blank ∷ token (64 ∷ name_text n) ∷ before) (kept (call_head None) as_call.0 ∷ blank ∷ token w ∷ behind)) mark.1 as_call.1 in
    let heads = both_call_head line b None c as_call.0 (name_text n) mark.0 before behind marked in
    let names = both_token line (64 ∷ name_text n) (64 ∷ mark.0) before behind (both_blank line (token (64 ∷ name_text n) ∷ before) (token (64 ∷ mark.0) ∷ behind) heads.rest) in
    own_no_memcpy n f.0 (names.same ∙ sym mark.1)

leads_apart : (line : List ℕ) (s t : Scale) (i j : RawInst) → Both line (inst_parts s i) (inst_parts t j) → ((lead_is i ≡ lead_is j) → ⊥) → i ≡ j
leads_apart line s t i j h apart = absurd (apart (one_lead line s t i j h))

-- two instructions
pub inst_one : (line : List ℕ) (s t : Scale) (i j : RawInst) → FitsInst s i → FitsInst t j → Both line (inst_parts s i) (inst_parts t j) → i ≡ j
unfolding lead_is
inst_one line s t (Alloca n a u) (Alloca m b v) f g h = alloca_one line s t n m a b u v h
inst_one line s t (Gep a m c i u) (Gep b n d j v) f g h = gep_one line s t a b m n c d i j u v f g h
inst_one line s t (Step a m xs c i u) (Step b n ys d j v) f g h = step_one line s t a b m n xs ys c d i j u v f g h
inst_one line s t (Gep a m c i u) (Step b n ys d j v) f g h = absurd (gep_no_step line s t a b m n ys c d i j u v f g h)
inst_one line s t (Step a m xs c i u) (Gep b n d j v) f g h =
    absurd (gep_no_step line t s b a n m xs d c j i v u g f (flip line (inst_parts s (Step a m xs c i u)) (inst_parts t (Gep b n d j v)) h))
inst_one line s t (Load ty p u) (Load tz q v) f g h = load_one line s t ty tz p q u v f g h
inst_one line s t (Store ty a p u) (Store tz b q v) f g h = store_one line s t ty tz a b p q u v f g h
inst_one line s t (Copy a x n c p u) (Copy b y m d q v) f g h = copy_one line s t a b x y n m c d p q u v f g h
inst_one line s t (Call n a xs c p u) (Call m b ys d q v) f g h = call_one line s t n m a b xs ys c d p q u v f g h
inst_one line s t (Call n b ys c p u) (Copy x y k d q v) f g h = absurd (call_no_copy line s t n b ys x y k c d p q u v f h)
inst_one line s t (Copy x y k d q v) (Call n b ys c p u) f g h =
    absurd (call_no_copy line t s n b ys x y k c d p q u v g (flip line (inst_parts s (Copy x y k d q v)) (inst_parts t (Call n b ys c p u)) h))
inst_one line s t (Bin op f ty a p u) (Bin or g tz b q v) k l h = bin_one line s t op or f g ty tz a b p q u v k l h
inst_one line s t (Cmp op f ty a p u) (Cmp or g tz b q v) k l h = cmp_one line s t op or f g ty tz a b p q u v k l h
inst_one line s t (Select c ty a p u) (Select d tz b q v) f g h = select_one line s t c d ty tz a b p q u v f g h
inst_one line s t (Cast op f a p x u) (Cast or g b q y v) k l h = cast_line_one line s t op or f g a b x y p q u v k l h
inst_one line s t (Phi ty xs u) (Phi tz ys v) f g h = phi_one line s t ty tz xs ys u v f g h
inst_one line s t i j f g h = leads_apart line s t i j h (λ e. cc)

words_apart : (line : List ℕ) (a b : List ℕ) (ps qs : List Part) → bytes_eq a b ≡ false → Both line (token a ∷ ps) (token b ∷ qs) → ⊥
words_apart line a b ps qs differ h = let passes = same a b (both_token line a b ps qs h).same in cc

br_no_ret : bytes_eq (spelling word.Br) (spelling word.Ret) ≡ false
unfolding spelling
br_no_ret = refl

br_no_unreachable : bytes_eq (spelling word.Br) (spelling word.Unreachable) ≡ false
unfolding spelling
br_no_unreachable = refl

ret_no_unreachable : bytes_eq (spelling word.Ret) (spelling word.Unreachable) ≡ false
unfolding spelling
ret_no_unreachable = refl

label_no_truth : bytes_eq (spelling word.Label) (type_word I1) ≡ false
unfolding spelling type_word
label_no_truth = refl

jump_no_branch : (line : List ℕ) (c : RawVal) (n m i : Name) (u v : List ℕ) → Both line (term_parts (Br n u)) (term_parts (CondBr c m i v)) → ⊥
jump_no_branch line c n m i u v h =
    words_apart line (spelling word.Label) (type_word I1) _ _ label_no_truth (both_lead line word.Br _ _ h)

-- two terminators
pub term_one : (line : List ℕ) (i j : RawTerm) → FitsTerm i → FitsTerm j → Both line (term_parts i) (term_parts j) → i ≡ j
term_one line (Br n u) (Br m v) f g h = jump_one line n m u v f g h
term_one line (CondBr c n i u) (CondBr d m j v) f g h = branch_one line c d n m i j u v f g h
term_one line (Ret a u) (Ret b v) f g h = ret_one line a b u v f g h
term_one line (Unreachable u) (Unreachable v) f g h = unreachable_one line u v h
term_one line (Br n u) (CondBr d m j v) f g h = absurd (jump_no_branch line d n m j u v h)
term_one line (CondBr c n i u) (Br m v) f g h = absurd (jump_no_branch line c m n i v u (flip line (term_parts (CondBr c n i u)) (term_parts (Br m v)) h))
term_one line (Br n u) (Ret b v) f g h = absurd (words_apart line (spelling word.Br) (spelling word.Ret) _ _ br_no_ret h)
term_one line (CondBr c n i u) (Ret b v) f g h = absurd (words_apart line (spelling word.Br) (spelling word.Ret) _ _ br_no_ret h)
term_one line (Ret a u) (Br m v) f g h = absurd (words_apart line (spelling word.Br) (spelling word.Ret) _ _ br_no_ret (flip line (term_parts (Ret a u)) (term_parts (Br m v)) h))
term_one line (Ret a u) (CondBr d m j v) f g h = absurd (words_apart line (spelling word.Br) (spelling word.Ret) _ _ br_no_ret (flip line (term_parts (Ret a u)) (term_parts (CondBr d m j v)) h))
term_one line (Br n u) (Unreachable v) f g h = absurd (words_apart line (spelling word.Br) (spelling word.Unreachable) _ _ br_no_unreachable h)
term_one line (CondBr c n i u) (Unreachable v) f g h = absurd (words_apart line (spelling word.Br) (spelling word.Unreachable) _ _ br_no_unreachable h)
term_one line (Unreachable u) (Br m v) f g h =
    absurd (words_apart line (spelling word.Br) (spelling word.Unreachable) _ _ br_no_unreachable (flip line (term_parts (Unreachable u)) (term_parts (Br m v)) h))
term_one line (Unreachable u) (CondBr d m j v) f g h =
    absurd (words_apart line (spelling word.Br) (spelling word.Unreachable) _ _ br_no_unreachable (flip line (term_parts (Unreachable u)) (term_parts (CondBr d m j v)) h))
term_one line (Ret a u) (Unreachable v) f g h = absurd (words_apart line (spelling word.Ret) (spelling word.Unreachable) _ _ ret_no_unreachable h)
term_one line (Unreachable u) (Ret b v) f g h =
    absurd (words_apart line (spelling word.Ret) (spelling word.Unreachable) _ _ ret_no_unreachable (flip line (term_parts (Unreachable u)) (term_parts (Ret b v)) h))
