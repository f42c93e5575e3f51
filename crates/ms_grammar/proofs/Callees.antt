-- Two readings of one call, or of one memcpy, are one; no line is both.
use Rattle.std.proofs.Common.{◌≡◌, ℕ, true, List, [], ◌∷◌, ◌++◌, Option, map, refl, sym, ap, subst, ◌∙◌, append_assoc}
use Rattle.ms_lex.specs.declared.token.Token.{Token}
use Rattle.ms_ir.specs.declared.names.Ty.{Ty}
use Rattle.ms_ir.specs.declared.names.Ty.TheVariants.{I1, I64}
use Rattle.ms_ir.specs.declared.names.Name.{Name}
use Rattle.ms_grammar.specs.Kept.{AreMany, IsTailItem}
use Rattle.ms_grammar.specs.Parts.{Part, blank, token, kept, tail, copy_head, Spells, texts, joined}
use Rattle.ms_grammar.specs.Form.{Scale, word_part, arg_parts, comma_parts, listed, copy_pointers, copy_length, end_parts, inst_parts, name_text}
use Rattle.ms_grammar.specs.Fits.{FitsInst}
use Rattle.ms_grammar.specs.declared.line.RawArg.{RawArg}
use Rattle.ms_grammar.specs.declared.line.RawInst.TheVariants.{Copy, Call}
use Rattle.ms_grammar.specs.declared.keyword.Keyword.TheVariants as word
use Rattle.ms_grammar.specs.Scan.{Stops}
use Rattle.ms_grammar.proofs.Walks.{comma_stops}
use Rattle.ms_grammar.proofs.Tails.{tail_first}
use Rattle.ms_grammar.proofs.Insts.{rest_tail}
use Rattle.ms_grammar.proofs.Args.{both_arg, both_args, comma_begins_mark}
use Rattle.ms_grammar.proofs.Calls.{both_call_head, mark_one}
use Rattle.ms_grammar.proofs.Both.{Both, Agree, both_blank, both_word, both_lead, both_type, both_count, both_post, both_tail, both_name, word_named, along, same_run, texts_cut}

-- attributes behind arguments end before a tail
tail_stops_post : (line : List ℕ) (u : List ℕ) (rest : List Token) → Spells line rest (kept tail u ∷ []) → Stops true (texts line rest)
tail_stops_post line u rest h = by_first (texts line rest) (rest_tail line rest u h)
  where
    by_first : (ts : List (List ℕ)) → AreMany IsTailItem ts → Stops true ts
    by_first [] many = tt
    by_first (t ∷ ts) many = subst (λ s. Stops true (s ∷ ts)) (sym (tail_first (t ∷ ts) t ts many refl)) (comma_stops true ts)

pub record AgreeEnds (p q u v : List ℕ) : Type 0 where
  pub post_same : p ≡ q
  pub tail_same : u ≡ v

both_ends : (line : List ℕ) (p q u v : List ℕ) → Both line (end_parts p u) (end_parts q v) → AgreeEnds p q u v
both_ends line p q u v h =
    let posts = both_post line p q (kept tail u ∷ []) (kept tail v ∷ []) (tail_stops_post line u) (tail_stops_post line v) h in
    record { post_same = posts.same; tail_same = both_tail line u v posts.rest }

pub call_one : (line : List ℕ) (s t : Scale) (n m : Name) (a b : Option Ty) (xs ys : List RawArg) (c d p q u v : List ℕ) → FitsInst s (Call n a xs c p u) → FitsInst t (Call m b ys d q v) →
    Both line (inst_parts s (Call n a xs c p u)) (inst_parts t (Call m b ys d q v)) → Call n a xs c p u ≡ Call m b ys d q v
call_one line s t n m a b xs ys c d p q u v f g h =
    let ps : List Part = word_part word.Open ∷ listed (map arg_parts xs) ++ word_part word.Close ∷ end_parts p u in
    let qs : List Part = word_part word.Open ∷ listed (map arg_parts ys) ++ word_part word.Close ∷ end_parts q v in
    let heads = both_call_head line a b c d (name_text n) (name_text m) ps qs h in
    let names = both_name line 64 n m ps qs (word_named n f.0.0) (word_named m g.0.0) (both_blank line (token (64 ∷ name_text n) ∷ ps) (token (64 ∷ name_text m) ∷ qs) heads.rest) in
    let args = both_args line xs ys (end_parts p u) (end_parts q v) f.2 g.2 (both_word line word.Open _ _ names.rest) in
    let ends = both_ends line p q u v args.rest in
    ap (λ x. Call x a xs c p u) names.same ∙ ap (λ x. Call m x xs c p u) heads.ret ∙ ap (λ x. Call m b x c p u) args.same ∙ ap (λ x. Call m b ys x p u) heads.text
    ∙ ap (λ x. Call m b ys d x u) ends.post_same ∙ ap (λ x. Call m b ys d q x) ends.tail_same

both_copy_head : (line : List ℕ) (s t : List ℕ) (ps qs : List Part) → Both line (kept copy_head s ∷ ps) (kept copy_head t ∷ qs) → Agree s t line ps qs
both_copy_head line s t ps qs h =
    let x = h.one.3 in
    let y = h.other.3 in
    let one : h.tokens ≡ x.mark ++ (x.result ++ h.one.1) = h.one.2 ∙ ap (λ r. r ++ h.one.1) x.whole ∙ append_assoc x.mark x.result h.one.1 in
    let other : h.tokens ≡ y.mark ++ (y.result ++ h.other.1) = h.other.2 ∙ ap (λ r. r ++ h.other.1) y.whole ∙ append_assoc y.mark y.result h.other.1 in
    let marks = same_run line x.mark y.mark (x.result ++ h.one.1) (y.result ++ h.other.1) (sym one ∙ other)
    (mark_one (texts line x.mark) (texts line y.mark) (texts line (x.result ++ h.one.1)) (texts line (y.result ++ h.other.1)) (texts_cut line h.tokens x.mark y.mark _ _ one other) x.marked y.marked) in
    let results = same_run line x.result y.result h.one.1 h.other.1 marks.behind (x.result_is ∙ sym y.result_is) in
    let runs : h.one.0 ≡ h.other.0 = x.whole ∙ ap (λ r. r ++ x.result) marks.run ∙ ap (λ r. y.mark ++ r) results.run ∙ sym y.whole in
    record { same = x.is ∙ ap (λ r. joined (texts line r)) runs ∙ sym y.is; rest = record { tokens = h.one.1; one = h.one.4; other = along line qs h.one.1 h.other.1 results.behind h.other.4 } }

arg_of : (a b : RawArg) → a.ty ≡ b.ty → a.text ≡ b.text → a.val ≡ b.val → a ≡ b
arg_of a b e f g = ap (λ t. record { ty = t; val = a.val; text = a.text }) e ∙ ap (λ v. record { ty = b.ty; val = v; text = a.text }) g ∙ ap (λ s. record { ty = b.ty; val = b.val; text = s }) f

pub copy_one : (line : List ℕ) (s t : Scale) (a b x y : RawArg) (n m : ℕ) (c d p q u v : List ℕ) → FitsInst s (Copy a x n c p u) → FitsInst t (Copy b y m d q v) →
    Both line (inst_parts s (Copy a x n c p u)) (inst_parts t (Copy b y m d q v)) → Copy a x n c p u ≡ Copy b y m d q v
copy_one line s t a b x y n m c d p q u v f g h =
    let heads = both_copy_head line c d (blank ∷ word_part word.Memcpy ∷ copy_pointers a x ++ copy_length n ++ end_parts p u)
    (blank ∷ word_part word.Memcpy ∷ copy_pointers b y ++ copy_length m ++ end_parts q v) h in
    let tos = both_arg line a b (comma_parts ++ arg_parts x ++ comma_parts ++ copy_length n ++ end_parts p u) (comma_parts ++ arg_parts y ++ comma_parts ++ copy_length m ++ end_parts q v)
    f.2 g.2 (comma_begins_mark line (blank ∷ arg_parts x ++ comma_parts ++ copy_length n ++ end_parts p u)) (comma_begins_mark line (blank ∷ arg_parts y ++ comma_parts ++ copy_length m ++ end_parts q v)) (both_word line word.Open _ _ (both_word line word.Memcpy _ _ (both_blank line _ _ heads.rest))) in
    let froms = both_arg line x y (comma_parts ++ copy_length n ++ end_parts p u) (comma_parts ++ copy_length m ++ end_parts q v)
    f.3 g.3 (comma_begins_mark line (blank ∷ copy_length n ++ end_parts p u)) (comma_begins_mark line (blank ∷ copy_length m ++ end_parts q v)) (both_lead line word.Comma _ _ tos.rest) in
    let widths = both_type line I64 I64 _ _ (both_lead line word.Comma _ _ froms.rest) in
    let lens = both_count line n m _ _ (both_blank line _ _ widths.rest) in
    let flags = both_type line I1 I1 _ _ (both_lead line word.Comma _ _ lens.rest) in
    let ends = both_ends line p q u v (both_word line word.Close (end_parts p u) (end_parts q v) (both_word line word.False (word_part word.Close ∷ end_parts p u) (word_part word.Close ∷ end_parts q v) (both_blank line (word_part word.False ∷ word_part word.Close ∷ end_parts p u) (word_part word.False ∷ word_part word.Close ∷ end_parts q v) flags.rest))) in
    ap (λ z. Copy z x n c p u) (arg_of a b tos.type_same tos.text_same tos.value_same) ∙ ap (λ z. Copy b z n c p u) (arg_of x y froms.type_same froms.text_same froms.value_same)
    ∙ ap (λ z. Copy b y z c p u) lens.same ∙ ap (λ z. Copy b y m z p u) heads.same ∙ ap (λ z. Copy b y m d z u) ends.post_same ∙ ap (λ z. Copy b y m d q z) ends.tail_same
