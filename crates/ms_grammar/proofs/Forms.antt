-- Two readings of one instruction, or of one terminator, are one.
use Rattle.std.proofs.Common.{◌≡◌, ℕ, List, [], ◌∷◌, ◌++◌, Option, Some, None, sym, ap, subst, ◌∙◌}
use Rattle.ms_ir.specs.declared.names.Ty.{Ty}
use Rattle.ms_ir.specs.declared.names.Ty.TheVariants.{I1, Ptr}
use Rattle.ms_ir.specs.declared.names.Name.{Name}
use Rattle.ms_grammar.specs.Parts.{Part, blank, kept, tail}
use Rattle.ms_grammar.specs.Form.{Scale, value_part, type_part, typed_parts, comma_parts, word_part, inst_parts, term_parts, target_parts, ret_parts}
use Rattle.ms_grammar.specs.Fits.{IsNamed, IsValue, FitsInst, FitsTerm}
use Rattle.ms_grammar.specs.declared.line.RawVal.{RawVal}
use Rattle.ms_grammar.specs.declared.line.RawInst.TheVariants.{Load, Store, Select, Bin, Cast}
use Rattle.ms_grammar.specs.declared.keyword.Keyword.TheVariants as word
use Rattle.ms_grammar.specs.declared.line.RawTerm.TheVariants.{Br, CondBr, Ret, Unreachable}
use Rattle.ms_grammar.specs.Words.{spelling, type_word}
use Rattle.ms_grammar.proofs.Objects.{void_no_type}
use Rattle.ms_grammar.proofs.Both.{Both, Agree, both_lead, both_type, both_typed, both_tail, both_blank, both_name, both_word, both_token, both_value, flip}
use Rattle.ms_grammar.proofs.Opcodes.{both_bin, both_cast}
use Rattle.ms_ir.specs.declared.inst.CastOp.{CastOp}
use Rattle.ms_ir.specs.declared.inst.Op.{Op}
use Rattle.ms_ir.specs.declared.inst.Flags.{Flags}

pub load_one : (line : List ℕ) (s t : Scale) (ty tz : Ty) (p q : RawVal) (u v : List ℕ) → FitsInst s (Load ty p u) → FitsInst t (Load tz q v) →
    Both line (inst_parts s (Load ty p u)) (inst_parts t (Load tz q v)) → Load ty p u ≡ Load tz q v
load_one line s t ty tz p q u v f g b =
    let types = both_type line ty tz (comma_parts ++ typed_parts Ptr p ++ kept tail u ∷ []) (comma_parts ++ typed_parts Ptr q ++ kept tail v ∷ []) (both_lead line word.Load _ _ b) in
    let ptrs = both_typed line Ptr Ptr p q (kept tail u ∷ []) (kept tail v ∷ []) f.1 g.1 (both_lead line word.Comma _ _ types.rest) in
    let tails = both_tail line u v ptrs.rest in
    ap (λ x. Load x p u) types.same ∙ ap (λ x. Load tz x u) ptrs.value_same ∙ ap (λ x. Load tz q x) tails

pub store_one : (line : List ℕ) (s t : Scale) (ty tz : Ty) (a b p q : RawVal) (u v : List ℕ) → FitsInst s (Store ty a p u) → FitsInst t (Store tz b q v) →
    Both line (inst_parts s (Store ty a p u)) (inst_parts t (Store tz b q v)) → Store ty a p u ≡ Store tz b q v
store_one line s t ty tz a b p q u v f g h =
    let vals = both_typed line ty tz a b (comma_parts ++ typed_parts Ptr p ++ kept tail u ∷ []) (comma_parts ++ typed_parts Ptr q ++ kept tail v ∷ []) f.1 g.1 (both_lead line word.Store _ _ h) in
    let ptrs = both_typed line Ptr Ptr p q (kept tail u ∷ []) (kept tail v ∷ []) f.2 g.2 (both_lead line word.Comma _ _ vals.rest) in
    let tails = both_tail line u v ptrs.rest in
    ap (λ x. Store x a p u) vals.type_same ∙ ap (λ x. Store tz x p u) vals.value_same ∙ ap (λ x. Store tz b x u) ptrs.value_same ∙ ap (λ x. Store tz b q x) tails

pub select_one : (line : List ℕ) (s t : Scale) (c d : RawVal) (ty tz : Ty) (a b p q : RawVal) (u v : List ℕ) → FitsInst s (Select c ty a p u) → FitsInst t (Select d tz b q v) →
    Both line (inst_parts s (Select c ty a p u)) (inst_parts t (Select d tz b q v)) → Select c ty a p u ≡ Select d tz b q v
select_one line s t c d ty tz a b p q u v f g h =
    let conds = both_typed line I1 I1 c d (comma_parts ++ typed_parts ty a ++ comma_parts ++ typed_parts ty p ++ kept tail u ∷ [])
    (comma_parts ++ typed_parts tz b ++ comma_parts ++ typed_parts tz q ++ kept tail v ∷ []) f.0 g.0 (both_lead line word.Select _ _ h) in
    let firsts = both_typed line ty tz a b (comma_parts ++ typed_parts ty p ++ kept tail u ∷ []) (comma_parts ++ typed_parts tz q ++ kept tail v ∷ []) f.1 g.1
    (both_lead line word.Comma _ _ conds.rest) in
    let seconds = both_typed line ty tz p q (kept tail u ∷ []) (kept tail v ∷ []) f.2 g.2 (both_lead line word.Comma _ _ firsts.rest) in
    let tails = both_tail line u v seconds.rest in
    ap (λ x. Select x ty a p u) conds.value_same ∙ ap (λ x. Select d x a p u) firsts.type_same ∙ ap (λ x. Select d tz x p u) firsts.value_same
    ∙ ap (λ x. Select d tz b x u) seconds.value_same ∙ ap (λ x. Select d tz b q x) tails

both_target : (line : List ℕ) (n m : Name) (ps qs : List Part) → IsNamed n → IsNamed m → Both line (target_parts n ++ ps) (target_parts m ++ qs) → Agree n m line ps qs
both_target line n m ps qs h k b = both_name line 37 n m ps qs h k (both_lead line word.Label _ _ b)

pub jump_one : (line : List ℕ) (n m : Name) (u v : List ℕ) → FitsTerm (Br n u) → FitsTerm (Br m v) → Both line (term_parts (Br n u)) (term_parts (Br m v)) → Br n u ≡ Br m v
jump_one line n m u v f g h =
    let targets = both_target line n m (kept tail u ∷ []) (kept tail v ∷ []) f g (both_lead line word.Br _ _ h) in
    let tails = both_tail line u v targets.rest in
    ap (λ x. Br x u) targets.same ∙ ap (λ x. Br m x) tails

pub branch_one : (line : List ℕ) (c d : RawVal) (n m i j : Name) (u v : List ℕ) → FitsTerm (CondBr c n i u) → FitsTerm (CondBr d m j v) →
    Both line (term_parts (CondBr c n i u)) (term_parts (CondBr d m j v)) → CondBr c n i u ≡ CondBr d m j v
branch_one line c d n m i j u v f g h =
    let conds = both_typed line I1 I1 c d (comma_parts ++ target_parts n ++ comma_parts ++ target_parts i ++ kept tail u ∷ [])
    (comma_parts ++ target_parts m ++ comma_parts ++ target_parts j ++ kept tail v ∷ []) f.0 g.0 (both_lead line word.Br _ _ h) in
    let firsts = both_target line n m (comma_parts ++ target_parts i ++ kept tail u ∷ []) (comma_parts ++ target_parts j ++ kept tail v ∷ []) f.1 g.1
    (both_lead line word.Comma _ _ conds.rest) in
    let seconds = both_target line i j (kept tail u ∷ []) (kept tail v ∷ []) f.2 g.2 (both_lead line word.Comma _ _ firsts.rest) in
    let tails = both_tail line u v seconds.rest in
    ap (λ x. CondBr x n i u) conds.value_same ∙ ap (λ x. CondBr d x i u) firsts.same ∙ ap (λ x. CondBr d m x u) seconds.same ∙ ap (λ x. CondBr d m j x) tails

given_void : (line : List ℕ) (ty : Ty) (a : RawVal) (u v : List ℕ) → Both line (word_part word.Void ∷ kept tail u ∷ []) (typed_parts ty a ++ kept tail v ∷ []) → ⊥
given_void line ty a u v h = void_no_type ty (both_token line (spelling word.Void) (type_word ty) (kept tail u ∷ []) (blank ∷ value_part a ∷ kept tail v ∷ []) h).same

pub given_one : (line : List ℕ) (a b : Option (Ty × RawVal)) (u v : List ℕ) → FitsTerm (Ret a u) → FitsTerm (Ret b v) → Both line (ret_parts a ++ kept tail u ∷ []) (ret_parts b ++ kept tail v ∷ []) →
    Ret a u ≡ Ret b v
given_one line None None u v f g h = ap (λ x. Ret None x) (both_tail line u v (both_word line word.Void _ _ h))
given_one line None (Some y) u v f g h = absurd (given_void line y.0 y.1 u v h)
given_one line (Some x) None u v f g h = absurd (given_void line x.0 x.1 v u (flip line _ _ h))
given_one line (Some x) (Some y) u v f g h =
    let vals = both_typed line x.0 y.0 x.1 y.1 (kept tail u ∷ []) (kept tail v ∷ []) f.1 g.1 h in
    let tails = both_tail line u v vals.rest in
    ap (λ t. Ret (Some (t, x.1)) u) vals.type_same ∙ ap (λ a. Ret (Some (y.0, a)) u) vals.value_same ∙ ap (λ t. Ret (Some y) t) tails

pub ret_one : (line : List ℕ) (a b : Option (Ty × RawVal)) (u v : List ℕ) → FitsTerm (Ret a u) → FitsTerm (Ret b v) → Both line (term_parts (Ret a u)) (term_parts (Ret b v)) → Ret a u ≡ Ret b v
ret_one line a b u v f g h = given_one line a b u v f g (both_lead line word.Ret _ _ h)

pub unreachable_one : (line : List ℕ) (u v : List ℕ) → Both line (term_parts (Unreachable u)) (term_parts (Unreachable v)) → Unreachable u ≡ Unreachable v
unreachable_one line u v h = ap (λ x. Unreachable x) (both_tail line u v (both_word line word.Unreachable _ _ h))

pub bin_one : (line : List ℕ) (s t : Scale) (op or : Op) (f g : Flags) (ty tz : Ty) (a b p q : RawVal) (u v : List ℕ) → FitsInst s (Bin op f ty a p u) → FitsInst t (Bin or g tz b q v) →
    Both line (inst_parts s (Bin op f ty a p u)) (inst_parts t (Bin or g tz b q v)) → Bin op f ty a p u ≡ Bin or g tz b q v
bin_one line s t op or f g ty tz a b p q u v x y h =
    let ops = both_bin line op or f g ty tz (blank ∷ value_part a ∷ comma_parts ++ value_part p ∷ kept tail u ∷ []) (blank ∷ value_part b ∷ comma_parts ++ value_part q ∷ kept tail v ∷ []) x.0 y.0 h in
    let firsts = both_typed line ty tz a b (comma_parts ++ value_part p ∷ kept tail u ∷ []) (comma_parts ++ value_part q ∷ kept tail v ∷ []) x.2 y.2 ops.rest in
    let seconds = both_value line ty p q (kept tail u ∷ []) (kept tail v ∷ []) x.3 (subst (λ t. IsValue t q) (sym firsts.type_same) y.3) (both_lead line word.Comma _ _ firsts.rest) in
    let tails = both_tail line u v seconds.rest in
    ap (λ o. Bin o f ty a p u) ops.op_same ∙ ap (λ k. Bin or k ty a p u) ops.flags_same ∙ ap (λ t. Bin or g t a p u) firsts.type_same ∙ ap (λ c. Bin or g tz c p u) firsts.value_same
    ∙ ap (λ c. Bin or g tz b c u) seconds.same ∙ ap (λ c. Bin or g tz b q c) tails

pub cast_line_one : (line : List ℕ) (s t : Scale) (op or : CastOp) (f g : Flags) (a b x y : Ty) (p q : RawVal) (u v : List ℕ) → FitsInst s (Cast op f a p x u) → FitsInst t (Cast or g b q y v) →
    Both line (inst_parts s (Cast op f a p x u)) (inst_parts t (Cast or g b q y v)) → Cast op f a p x u ≡ Cast or g b q y v
cast_line_one line s t op or f g a b x y p q u v k l h =
    let ops = both_cast line op or f g a b (blank ∷ value_part p ∷ blank ∷ word_part word.To ∷ blank ∷ type_part x ∷ kept tail u ∷ [])
    (blank ∷ value_part q ∷ blank ∷ word_part word.To ∷ blank ∷ type_part y ∷ kept tail v ∷ []) k.0 l.0 h in
    let vals = both_typed line a b p q (blank ∷ word_part word.To ∷ blank ∷ type_part x ∷ kept tail u ∷ []) (blank ∷ word_part word.To ∷ blank ∷ type_part y ∷ kept tail v ∷ []) k.4 l.4 ops.rest in
    let tos = both_type line x y (kept tail u ∷ []) (kept tail v ∷ []) (both_lead line word.To _ _ (both_blank line _ _ vals.rest)) in
    let tails = both_tail line u v tos.rest in
    ap (λ z. Cast z f a p x u) ops.op_same ∙ ap (λ z. Cast or z a p x u) ops.flags_same ∙ ap (λ z. Cast or g z p x u) vals.type_same ∙ ap (λ z. Cast or g b z x u) vals.value_same
    ∙ ap (λ z. Cast or g b q z u) tos.same ∙ ap (λ z. Cast or g b q y z) tails
