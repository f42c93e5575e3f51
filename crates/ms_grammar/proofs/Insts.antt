-- Two readings of one instruction are one: the forms with kept parts, and those with flags or entries.
use Rattle.std.proofs.Common.{◌≡◌, ◌≢◌, ℕ, ℤ, true, false, List, [], ◌∷◌, ◌++◌, map, refl, sym, ap, subst, ◌∙◌, inl, inr, append_assoc, append-nil}
use Rattle.std.specs.Str.{bytes_eq}
use Rattle.ms_lex.specs.declared.token.Token.{Token}
use Rattle.ms_ir.specs.declared.names.Ty.{Ty}
use Rattle.ms_ir.specs.declared.names.Ty.TheVariants.{Ptr}
use Rattle.ms_ir.specs.declared.inst.Pred.{Pred}
use Rattle.ms_ir.specs.declared.inst.Flags.{Flags}
use Rattle.ms_grammar.specs.Words.{spelling, predicate_word}
use Rattle.ms_grammar.specs.Kept.{Each, AreMany, IsTailItem, IsObject, object_tokens}
use Rattle.ms_grammar.specs.Parts.{Part, Class, blank, token, kept, tail, object, gep_head, indices, Spells, texts, kept_text, joined}
use Rattle.ms_grammar.specs.Form.{Scale, value_part, local_part, word_part, typed_parts, comma_parts, entry_parts, further, listed, inst_parts}
use Rattle.ms_grammar.specs.Fits.{IsValue, IsEntryOf, FitsInst, offset_of, no_flags}
use Rattle.ms_grammar.specs.declared.line.RawVal.{RawVal}
use Rattle.ms_grammar.specs.declared.line.RawEntry.{RawEntry}
use Rattle.ms_grammar.specs.declared.line.RawInst.TheVariants.{Alloca, Gep, Cmp, Phi}
use Rattle.ms_grammar.specs.declared.keyword.Keyword.TheVariants as word
use Rattle.ms_grammar.proofs.Steps.{same, one_of}
use Rattle.ms_grammar.specs.Scan.{Stops}
use Rattle.ms_grammar.proofs.Walks.{one_attributes}
use Rattle.ms_grammar.proofs.Tails.{BeginsTail, tail_second}
use Rattle.ms_grammar.proofs.Objects.{objects_cut, indices_cut, object_stops, tail_stops}
use Rattle.ms_grammar.proofs.Both.{Both, Agree, both_blank, both_token, both_word, both_lead, both_type, both_typed, both_value, both_name, both_tail, both_flag, blank_not_first, token_not_first, along, same_run, texts_append, texts_cut, starts_with, skip_blank, flip}
use Rattle.ms_grammar.proofs.Opcodes.{predicate_one, predicate_no_samesign}

-- kept text of runs that have the same texts
after_cut : (line : List ℕ) (c d : Class) (s t : List ℕ) (ps qs : List Part) (b : Both line (kept c s ∷ ps) (kept d t ∷ qs)) →
    texts line b.one.0 ≡ texts line b.other.0 → s ≡ kept_text line b.one.0 → t ≡ kept_text line b.other.0 → Agree s t line ps qs
after_cut line c d s t ps qs b cut is is' =
    let runs = same_run line b.one.0 b.other.0 b.one.1 b.other.1 (sym b.one.2 ∙ b.other.2) cut in
    record { same = is ∙ ap (λ r. kept_text line r) runs.run ∙ sym is'; rest = record { tokens = b.one.1; one = b.one.4; other = along line qs b.one.1 b.other.1 runs.behind b.other.4 } }

first_of : (a b : ℕ) (s t : List ℕ) → a ∷ s ≡ b ∷ t → a ≡ b
first_of a b s t e = cc

pub alloca_one : (line : List ℕ) (s t : Scale) (n m : ℕ) (a b u v : List ℕ) → Both line (inst_parts s (Alloca n a u)) (inst_parts t (Alloca m b v)) → Alloca n a u ≡ Alloca m b v
alloca_one line s t n m a b u v h =
    let inner = both_lead line word.Alloca (kept (object n) a ∷ kept tail u ∷ []) (kept (object m) b ∷ kept tail v ∷ []) h in
    let cut = objects_cut (texts line inner.one.0) (texts line inner.other.0) (texts line inner.one.1) (texts line inner.other.1) (n ∷ inner.one.3.0.0) (m ∷ inner.other.3.0.0)
    (texts_cut line inner.tokens inner.one.0 inner.other.0 inner.one.1 inner.other.1 inner.one.2 inner.other.2) inner.one.3.0.1 inner.other.3.0.1 in
    let heads = after_cut line (object n) (object m) a b (kept tail u ∷ []) (kept tail v ∷ []) inner cut.run inner.one.3.1 inner.other.3.1 in
    let tails = both_tail line u v heads.rest in
    ap (λ x. Alloca x a u) (first_of n m inner.one.3.0.0 inner.other.3.0.0 cut.value) ∙ ap (λ x. Alloca m x u) heads.same ∙ ap (λ x. Alloca m b x) tails

-- what the head of a getelementptr says
pub record AgreeHead (x y : List ℕ) (s t : List ℕ) (line : List ℕ) (ps qs : List Part) : Type 0 where
  pub sizes : x ≡ y
  pub text : s ≡ t
  pub rest : Both line ps qs

regroup : (tokens run before typed rest : List Token) → tokens ≡ run ++ rest → run ≡ before ++ typed → tokens ≡ before ++ (typed ++ rest)
regroup tokens run before typed rest a b = a ∙ ap (λ r. r ++ rest) b ∙ append_assoc before typed rest

head_stops : (line : List ℕ) (sizes : List ℕ) (typed rest : List Token) → IsObject sizes (texts line typed) → Stops false (texts line (typed ++ rest))
head_stops line sizes typed rest is =
    let shown : texts line (typed ++ rest) ≡ object_tokens is.counts is.member ++ texts line rest = texts_append line typed rest ∙ ap (λ ts. ts ++ texts line rest) is.tokens in
    subst (λ ts. Stops false ts) (sym shown) (object_stops false is.counts is.member (texts line rest))

pub both_gep_head : (line : List ℕ) (x y s t : List ℕ) (ps qs : List Part) → Both line (kept (gep_head x) s ∷ ps) (kept (gep_head y) t ∷ qs) → AgreeHead x y s t line ps qs
both_gep_head line x y s t ps qs b =
    let one = b.one.3 in
    let other = b.other.3 in
    let whole = regroup b.tokens b.one.0 one.before one.object b.one.1 b.one.2 one.whole in
    let whole' = regroup b.tokens b.other.0 other.before other.object b.other.1 b.other.2 other.whole in
    let before_same = one_attributes (texts line one.before) (texts line other.before) (texts line (one.object ++ b.one.1)) (texts line (other.object ++ b.other.1))
    (texts_cut line b.tokens one.before other.before (one.object ++ b.one.1) (other.object ++ b.other.1) whole whole') one.attributes other.attributes
    (head_stops line x one.object b.one.1 one.sized) (head_stops line y other.object b.other.1 other.sized) in
    let befores = same_run line one.before other.before (one.object ++ b.one.1) (other.object ++ b.other.1) (sym whole ∙ whole') before_same in
    let cut = objects_cut (texts line one.object) (texts line other.object) (texts line b.one.1) (texts line b.other.1) x y
    (texts_cut line (one.object ++ b.one.1) one.object other.object b.one.1 b.other.1 refl befores.behind) one.sized other.sized in
    let objects = same_run line one.object other.object b.one.1 b.other.1 befores.behind cut.run in
    record {
      sizes = cut.value;
      text = one.is ∙ ap (λ r. joined (kept_text line r ∷ kept_text line one.object ∷ [])) befores.run ∙ ap (λ r. joined (kept_text line other.before ∷ kept_text line r ∷ [])) objects.run ∙ sym other.is;
      rest = record { tokens = b.one.1; one = b.one.4; other = along line qs b.one.1 b.other.1 objects.behind b.other.4 };
    }

pub rest_tail : (line : List ℕ) (rest : List Token) (u : List ℕ) → Spells line rest (kept tail u ∷ []) → AreMany IsTailItem (texts line rest)
rest_tail line rest u h =
    let whole : rest ≡ h.0 = h.2 ∙ ap (λ r. h.0 ++ r) h.4 ∙ append-nil h.0 in subst (λ r. AreMany IsTailItem (texts line r)) (sym whole) h.3.0

pub record AgreeIndices (x y : List ℤ) (s t u v : List ℕ) : Type 0 where
  pub values : x ≡ y
  pub text : s ≡ t
  pub tail_same : u ≡ v

both_indices : (line : List ℕ) (x y : List ℤ) (s t u v : List ℕ) → Both line (kept (indices x) s ∷ kept tail u ∷ []) (kept (indices y) t ∷ kept tail v ∷ []) → AgreeIndices x y s t u v
both_indices line x y s t u v b =
    let cut = indices_cut (texts line b.one.0) (texts line b.other.0) (texts line b.one.1) (texts line b.other.1) x y
    (texts_cut line b.tokens b.one.0 b.other.0 b.one.1 b.other.1 b.one.2 b.other.2) b.one.3.0 b.other.3.0
    (tail_stops (texts line b.one.1) (rest_tail line b.one.1 u b.one.4)) (tail_stops (texts line b.other.1) (rest_tail line b.other.1 v b.other.4)) in
    let heads = after_cut line (indices x) (indices y) s t (kept tail u ∷ []) (kept tail v ∷ []) b cut.run b.one.3.1 b.other.3.1 in
    record { values = cut.value; text = heads.same; tail_same = both_tail line u v heads.rest }

pub gep_one : (line : List ℕ) (s t : Scale) (a b : RawVal) (m n : ℤ) (c d i j u v : List ℕ) → FitsInst s (Gep a m c i u) → FitsInst t (Gep b n d j v) →
    Both line (inst_parts s (Gep a m c i u)) (inst_parts t (Gep b n d j v)) → Gep a m c i u ≡ Gep b n d j v
gep_one line s t a b m n c d i j u v f g h =
    let heads = both_gep_head line s.sizes t.sizes c d (comma_parts ++ typed_parts Ptr a ++ comma_parts ++ kept (indices s.indices) i ∷ kept tail u ∷ [])
    (comma_parts ++ typed_parts Ptr b ++ comma_parts ++ kept (indices t.indices) j ∷ kept tail v ∷ []) (both_lead line word.Getelementptr _ _ h) in
    let bases = both_typed line Ptr Ptr a b (comma_parts ++ kept (indices s.indices) i ∷ kept tail u ∷ []) (comma_parts ++ kept (indices t.indices) j ∷ kept tail v ∷ []) f.0 g.0
    (both_lead line word.Comma _ _ heads.rest) in
    let ends = both_indices line s.indices t.indices i j u v (both_lead line word.Comma _ _ bases.rest) in
    let offsets : m ≡ n = f.2 ∙ ap (λ x. offset_of x s.indices) heads.sizes ∙ ap (λ x. offset_of t.sizes x) ends.values ∙ sym g.2 in
    ap (λ x. Gep x m c i u) bases.value_same ∙ ap (λ x. Gep b x c i u) offsets ∙ ap (λ x. Gep b n x i u) heads.text ∙ ap (λ x. Gep b n d x u) ends.text ∙ ap (λ x. Gep b n d j x) ends.tail_same

pub cmp_one : (line : List ℕ) (s t : Scale) (op or : Pred) (f g : Flags) (ty tz : Ty) (a b p q : RawVal) (u v : List ℕ) → FitsInst s (Cmp op f ty a p u) → FitsInst t (Cmp or g tz b q v) →
    Both line (inst_parts s (Cmp op f ty a p u)) (inst_parts t (Cmp or g tz b q v)) → Cmp op f ty a p u ≡ Cmp or g tz b q v
cmp_one line s t op or f g ty tz a b p q u v x y h =
    let ps : List Part = typed_parts ty a ++ comma_parts ++ value_part p ∷ kept tail u ∷ [] in
    let qs : List Part = typed_parts tz b ++ comma_parts ++ value_part q ∷ kept tail v ∷ [] in
    let flags = both_flag line (spelling word.Samesign) f.samesign g.samesign (blank ∷ token (predicate_word op) ∷ blank ∷ ps) (blank ∷ token (predicate_word or) ∷ blank ∷ qs)
    (blank_not_first line (spelling word.Samesign) (token (predicate_word op) ∷ blank ∷ ps) (token_not_first line (spelling word.Samesign) (predicate_word op) (blank ∷ ps) (predicate_no_samesign op)))
    (blank_not_first line (spelling word.Samesign) (token (predicate_word or) ∷ blank ∷ qs) (token_not_first line (spelling word.Samesign) (predicate_word or) (blank ∷ qs) (predicate_no_samesign or)))
    (both_word line word.Icmp _ _ h) in
    let ops = both_token line (predicate_word op) (predicate_word or) (blank ∷ ps) (blank ∷ qs) (both_blank line _ _ flags.rest) in
    let firsts = both_typed line ty tz a b (comma_parts ++ value_part p ∷ kept tail u ∷ []) (comma_parts ++ value_part q ∷ kept tail v ∷ []) x.2 y.2 (both_blank line ps qs ops.rest) in
    let seconds = both_value line ty p q (kept tail u ∷ []) (kept tail v ∷ []) x.3 (subst (λ t. IsValue t q) (sym firsts.type_same) y.3) (both_lead line word.Comma _ _ firsts.rest) in
    let tails = both_tail line u v seconds.rest in
    let flags_same : f ≡ g = x.0 ∙ ap (λ b. record no_flags { samesign = b }) flags.same ∙ sym y.0 in
    ap (λ o. Cmp o f ty a p u) (predicate_one op or ops.same) ∙ ap (λ k. Cmp or k ty a p u) flags_same ∙ ap (λ t. Cmp or g t a p u) firsts.type_same ∙ ap (λ c. Cmp or g tz c p u) firsts.value_same
    ∙ ap (λ c. Cmp or g tz b c u) seconds.same ∙ ap (λ c. Cmp or g tz b q c) tails

square_no_tail : BeginsTail (spelling word.OpenSquare) → ⊥
unfolding spelling
square_no_tail (inl e) = let told : bytes_eq (spelling word.OpenSquare) (spelling word.Align) ≡ true = same (spelling word.OpenSquare) (spelling word.Align) e in cc
square_no_tail (inr e) = cc

-- a tail is no further entry
tail_no_entry : (line : List ℕ) (u : List ℕ) (ps : List Part) → Both line (kept tail u ∷ []) (word_part word.Comma ∷ blank ∷ word_part word.OpenSquare ∷ ps) → ⊥
tail_no_entry line u ps b =
    let first = starts_with line b.tokens (spelling word.Comma) (blank ∷ word_part word.OpenSquare ∷ ps) b.other in
    let comma = one_of line b.tokens b.other.0 b.other.1 (spelling word.Comma) b.other.2 b.other.3 in
    let second = starts_with line b.other.1 (spelling word.OpenSquare) ps (skip_blank line b.other.1 (word_part word.OpenSquare ∷ ps) b.other.4) in
    let shown : texts line b.tokens ≡ spelling word.Comma ∷ spelling word.OpenSquare ∷ second.0 =
    ap (λ ts. texts line ts) comma.whole ∙ ap (λ c. c ∷ texts line b.other.1) comma.bytes ∙ ap (λ ts. spelling word.Comma ∷ ts) second.1 in
    square_no_tail (tail_second (texts line b.tokens) (spelling word.Comma) (spelling word.OpenSquare) second.0 (rest_tail line b.tokens u b.one) shown)

both_entry : (line : List ℕ) (ty tz : Ty) (e f : RawEntry) (ps qs : List Part) → ty ≡ tz → IsEntryOf ty e → IsEntryOf tz f → Both line (entry_parts e ++ ps) (entry_parts f ++ qs) → Agree e f line ps qs
both_entry line ty tz e f ps qs types x y h =
    let vals = both_value line ty e.val f.val (word_part word.Comma ∷ blank ∷ local_part e.from ∷ blank ∷ word_part word.CloseSquare ∷ ps)
    (word_part word.Comma ∷ blank ∷ local_part f.from ∷ blank ∷ word_part word.CloseSquare ∷ qs) x.0 (subst (λ t. IsValue t f.val) (sym types) y.0) (both_lead line word.OpenSquare _ _ h) in
    let names = both_name line 37 e.from f.from (blank ∷ word_part word.CloseSquare ∷ ps) (blank ∷ word_part word.CloseSquare ∷ qs) x.1 y.1 (both_lead line word.Comma _ _ vals.rest) in
    record {
      same = ap (λ v. record { val = v; from = e.from }) vals.same ∙ ap (λ n. record { val = f.val; from = n }) names.same;
      rest = both_word line word.CloseSquare ps qs (both_blank line _ _ names.rest);
    }

pub record AgreeEntries (xs ys : List RawEntry) (u v : List ℕ) : Type 0 where
  pub entries : xs ≡ ys
  pub tail_same : u ≡ v

both_further_entries : (line : List ℕ) (ty tz : Ty) (xs ys : List RawEntry) (u v : List ℕ) → ty ≡ tz → Each (IsEntryOf ty) xs → Each (IsEntryOf tz) ys →
    Both line (further (map entry_parts xs) ++ kept tail u ∷ []) (further (map entry_parts ys) ++ kept tail v ∷ []) → AgreeEntries xs ys u v
both_further_entries line ty tz [] [] u v types f g h = record { entries = refl; tail_same = both_tail line u v h }
both_further_entries line ty tz [] (y ∷ ys) u v types f g h = absurd (tail_no_entry line u _ h)
both_further_entries line ty tz (x ∷ xs) [] u v types f g h = absurd (tail_no_entry line v _ (flip line _ _ h))
both_further_entries line ty tz (x ∷ xs) (y ∷ ys) u v types f g h =
    let firsts = both_entry line ty tz x y (further (map entry_parts xs) ++ kept tail u ∷ []) (further (map entry_parts ys) ++ kept tail v ∷ []) types f.0 g.0 (both_lead line word.Comma _ _ h) in
    let more = both_further_entries line ty tz xs ys u v types f.1 g.1 firsts.rest in
    record { entries = ap (λ e. e ∷ xs) firsts.same ∙ ap (λ es. y ∷ es) more.entries; tail_same = more.tail_same }

both_entries : (line : List ℕ) (ty tz : Ty) (xs ys : List RawEntry) (u v : List ℕ) → ty ≡ tz → xs ≢ [] → ys ≢ [] → Each (IsEntryOf ty) xs → Each (IsEntryOf tz) ys →
    Both line (listed (map entry_parts xs) ++ kept tail u ∷ []) (listed (map entry_parts ys) ++ kept tail v ∷ []) → AgreeEntries xs ys u v
both_entries line ty tz [] ys u v types some some' f g h = absurd (some refl)
both_entries line ty tz (x ∷ xs) [] u v types some some' f g h = absurd (some' refl)
both_entries line ty tz (x ∷ xs) (y ∷ ys) u v types some some' f g h =
    let firsts = both_entry line ty tz x y (further (map entry_parts xs) ++ kept tail u ∷ []) (further (map entry_parts ys) ++ kept tail v ∷ []) types f.0 g.0 h in
    let more = both_further_entries line ty tz xs ys u v types f.1 g.1 firsts.rest in
    record { entries = ap (λ e. e ∷ xs) firsts.same ∙ ap (λ es. y ∷ es) more.entries; tail_same = more.tail_same }

pub phi_one : (line : List ℕ) (s t : Scale) (ty tz : Ty) (xs ys : List RawEntry) (u v : List ℕ) → FitsInst s (Phi ty xs u) → FitsInst t (Phi tz ys v) →
    Both line (inst_parts s (Phi ty xs u)) (inst_parts t (Phi tz ys v)) → Phi ty xs u ≡ Phi tz ys v
phi_one line s t ty tz xs ys u v f g h =
    let types = both_type line ty tz (blank ∷ listed (map entry_parts xs) ++ kept tail u ∷ []) (blank ∷ listed (map entry_parts ys) ++ kept tail v ∷ []) (both_lead line word.Phi _ _ h) in
    let lists = both_entries line ty tz xs ys u v types.same f.0 g.0 f.1 g.1 (both_blank line _ _ types.rest) in
    ap (λ x. Phi x xs u) types.same ∙ ap (λ x. Phi tz x u) lists.entries ∙ ap (λ x. Phi tz ys x) lists.tail_same
