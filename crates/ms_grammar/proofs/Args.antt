-- Arguments, one after another, are told by their tokens.
use Rattle.std.proofs.Common.{◌≡◌, ◌≢◌, ◌⊎◌, ℕ, true, false, List, [], ◌∷◌, ◌++◌, Some, map, refl, sym, ap, subst, ◌∙◌, inl, inr}
use Rattle.std.specs.Str.{bytes_eq}
use Rattle.ms_lex.specs.Kinds.{is_number}
use Rattle.ms_lex.specs.declared.token.Token.{Token}
use Rattle.ms_ir.specs.declared.names.Ty.{Ty}
use Rattle.ms_grammar.specs.Words.{spelling, type_word}
use Rattle.ms_grammar.specs.Numbers.{Means, numeral, yes, no}
use Rattle.ms_grammar.specs.Kept.{Each, AreMany, IsAttribute}
use Rattle.ms_grammar.specs.Scan.{free, IsMember}
use Rattle.ms_grammar.specs.Parts.{Part, blank, apart, attributes, Spells, texts, kept_text}
use Rattle.ms_grammar.specs.Form.{value_part, word_part, arg_parts, further, listed, name_text}
use Rattle.ms_grammar.specs.Fits.{IsValue, IsArg}
use Rattle.ms_grammar.specs.declared.line.RawVal.{RawVal}
use Rattle.ms_grammar.specs.declared.line.RawVal.TheVariants.{Num, Local, Global}
use Rattle.ms_grammar.specs.declared.line.RawArg.{RawArg}
use Rattle.ms_grammar.specs.declared.keyword.Keyword.TheVariants as word
use Rattle.ms_grammar.proofs.Steps.{same, one_of}
use Rattle.ms_grammar.proofs.Walks.{differs, attributes_end, comma_stops, close_stops}
use Rattle.ms_grammar.proofs.Objects.{type_no_close}
use Rattle.ms_grammar.proofs.Lists.{Parts, one_member}
use Rattle.ms_grammar.proofs.Both.{Both, Agree, both_blank, both_token, both_type, both_value, both_word, both_lead, skip_blank, along, same_run, texts_cut, starts_with}

unlike : (s t : List ℕ) → bytes_eq s t ≡ false → s ≢ t
unlike s t fails e = let passes = same s t e in cc

number_member : (v : List ℕ) → is_number v ≡ true → IsMember v
unfolding spelling
number_member v h = record {
  passes = record { no_open = differs is_number v (spelling word.Open) h refl; no_equals = differs is_number v (spelling word.Equals) h refl };
  no_comma = differs is_number v (spelling word.Comma) h refl;
  no_close = differs is_number v (spelling word.Close) h refl;
}

true_member : IsMember (spelling word.True)
unfolding spelling
true_member = record { passes = record { no_open = refl; no_equals = refl }; no_comma = refl; no_close = refl }

false_member : IsMember (spelling word.False)
unfolding spelling
false_member = record { passes = record { no_open = refl; no_equals = refl }; no_comma = refl; no_close = refl }

pub local_member : (s : List ℕ) → IsMember (37 ∷ s)
unfolding spelling
local_member s = record { passes = record { no_open = refl; no_equals = refl }; no_comma = refl; no_close = refl }

global_member : (s : List ℕ) → IsMember (64 ∷ s)
unfolding spelling
global_member s = record { passes = record { no_open = refl; no_equals = refl }; no_comma = refl; no_close = refl }

means_member : (ty : Ty) (n : ℕ) (v : List ℕ) → Means ty n v → IsMember v
means_member ty n v (numeral spelled value) = number_member v spelled
means_member ty n v (yes one is spelled) = subst (λ s. IsMember s) (sym spelled) true_member
means_member ty n v (no one is spelled) = subst (λ s. IsMember s) (sym spelled) false_member

-- the first token of a value, and what stands behind it
pub record ValueHead (line : List ℕ) (rest : List Token) (ps : List Part) : Type 0 where
  pub text : List ℕ
  pub left : List Token
  pub whole : texts line rest ≡ text ∷ texts line left
  pub member : IsMember text
  pub spelled : Spells line left ps

head_texts : (line : List ℕ) (rest run left : List Token) (s : List ℕ) → rest ≡ run ++ left → texts line run ≡ s ∷ [] → texts line rest ≡ s ∷ texts line left
head_texts line rest run left s a b =
    let one = one_of line rest run left s a b in ap (λ ts. texts line ts) one.whole ∙ ap (λ c. c ∷ texts line left) one.bytes

pub value_head : (line : List ℕ) (rest : List Token) (a : RawVal) (ps : List Part) → Spells line rest (value_part a ∷ ps) → ValueHead line rest ps
value_head line rest (Num own n) ps h =
    record { text = h.3.0; left = h.1; whole = head_texts line rest h.0 h.1 h.3.0 h.2 h.3.1; member = means_member own n h.3.0 h.3.2; spelled = h.4 }
value_head line rest (Local n) ps h =
    record { text = 37 ∷ name_text n; left = h.1; whole = head_texts line rest h.0 h.1 (37 ∷ name_text n) h.2 h.3; member = local_member (name_text n); spelled = h.4 }
value_head line rest (Global n) ps h =
    record { text = 64 ∷ name_text n; left = h.1; whole = head_texts line rest h.0 h.1 (64 ∷ name_text n) h.2 h.3; member = global_member (name_text n); spelled = h.4 }

-- parts that begin with a comma or a closing parenthesis
pub record StartsMark (line : List ℕ) (rest : List Token) : Type 0 where
  pub mark : List ℕ
  pub more : List (List ℕ)
  pub whole : texts line rest ≡ mark ∷ more
  pub is : (mark ≡ spelling word.Comma) ⊎ (mark ≡ spelling word.Close)

abbrev pub BeginsMark : List ℕ → List Part → Type 0
BeginsMark line ps = (rest : List Token) → Spells line rest ps → StartsMark line rest

pub comma_begins_mark : (line : List ℕ) (ps : List Part) → BeginsMark line (word_part word.Comma ∷ ps)
comma_begins_mark line ps rest h = let first = starts_with line rest (spelling word.Comma) ps h in record { mark = spelling word.Comma; more = first.0; whole = first.1; is = inl refl }

pub close_begins_mark : (line : List ℕ) (ps : List Part) → BeginsMark line (word_part word.Close ∷ ps)
close_begins_mark line ps rest h = let first = starts_with line rest (spelling word.Close) ps h in record { mark = spelling word.Close; more = first.0; whole = first.1; is = inr refl }

mark_parts : (m : List ℕ) → (m ≡ spelling word.Comma) ⊎ (m ≡ spelling word.Close) → Parts m
mark_parts m (inl e) = subst (λ t. Parts t) (sym e) (record { stops = comma_stops false [] })
mark_parts m (inr e) = subst (λ t. Parts t) (sym e) (record { stops = close_stops false [] })

pub mark_unlike : (v m : List ℕ) → IsMember v → (m ≡ spelling word.Comma) ⊎ (m ≡ spelling word.Close) → v ≢ m
mark_unlike v m h (inl e) f = unlike v (spelling word.Comma) h.no_comma (f ∙ e)
mark_unlike v m h (inr e) f = unlike v (spelling word.Close) h.no_close (f ∙ e)

pub record AgreeArg (a b : RawArg) (line : List ℕ) (ps qs : List Part) : Type 0 where
  pub type_same : a.ty ≡ b.ty
  pub text_same : a.text ≡ b.text
  pub value_same : a.val ≡ b.val
  pub rest : Both line ps qs

members : (line : List ℕ) (tokens us vs ps qs : List Token) (v w : List ℕ) (left gone : List Token) → tokens ≡ us ++ ps → tokens ≡ vs ++ qs →
    AreMany IsAttribute (texts line us) → AreMany IsAttribute (texts line vs) → texts line ps ≡ v ∷ texts line left → texts line qs ≡ w ∷ texts line gone →
    IsMember v → IsMember w → StartsMark line left → StartsMark line gone → texts line us ≡ texts line vs
members line tokens us vs ps qs v w left gone a b c d e f v_is w_is p q =
    let first = attributes_end false free (texts line us) c refl in
    let second = attributes_end false free (texts line vs) d refl in
    let p_texts : texts line ps ≡ v ∷ p.mark ∷ p.more = e ∙ ap (λ ts. v ∷ ts) p.whole in
    let q_texts : texts line qs ≡ w ∷ q.mark ∷ q.more = f ∙ ap (λ ts. w ∷ ts) q.whole in
    let cut : texts line us ++ v ∷ p.mark ∷ p.more ≡ texts line vs ++ w ∷ q.mark ∷ q.more =
    ap (λ ts. texts line us ++ ts) (sym p_texts) ∙ texts_cut line tokens us vs ps qs a b ∙ ap (λ ts. texts line vs ++ ts) q_texts in
    (one_member (Some free) (texts line us) (texts line vs) v w p.mark q.mark p.more q.more first.last second.last cut first.walks second.walks first.ends second.ends
    v_is.passes w_is.passes (mark_parts p.mark p.is) (mark_parts q.mark q.is) (mark_unlike v q.mark v_is q.is) (mark_unlike w p.mark w_is p.is)).run

both_member : (line : List ℕ) (s t : List ℕ) (a b : RawVal) (ps qs : List Part) → BeginsMark line ps → BeginsMark line qs →
    Both line (apart attributes s ∷ blank ∷ value_part a ∷ ps) (apart attributes t ∷ blank ∷ value_part b ∷ qs) → Agree s t line (blank ∷ value_part a ∷ ps) (blank ∷ value_part b ∷ qs)
both_member line s t a b ps qs marks marks' h =
    let one = value_head line h.one.1 a ps (skip_blank line h.one.1 (value_part a ∷ ps) h.one.4) in
    let other = value_head line h.other.1 b qs (skip_blank line h.other.1 (value_part b ∷ qs) h.other.4) in
    let cut = members line h.tokens h.one.0 h.other.0 h.one.1 h.other.1 one.text other.text one.left other.left h.one.2 h.other.2 h.one.3.0 h.other.3.0 one.whole other.whole
    one.member other.member (marks one.left one.spelled) (marks' other.left other.spelled) in
    let runs = same_run line h.one.0 h.other.0 h.one.1 h.other.1 (sym h.one.2 ∙ h.other.2) cut in
    record {
      same = h.one.3.1 ∙ ap (λ r. kept_text line r) runs.run ∙ sym h.other.3.1;
      rest = record { tokens = h.one.1; one = h.one.4; other = along line (blank ∷ value_part b ∷ qs) h.one.1 h.other.1 runs.behind h.other.4 };
    }

pub both_arg : (line : List ℕ) (a b : RawArg) (ps qs : List Part) → IsArg a → IsArg b → BeginsMark line ps → BeginsMark line qs →
    Both line (arg_parts a ++ ps) (arg_parts b ++ qs) → AgreeArg a b line ps qs
both_arg line a b ps qs f g marks marks' h =
    let types = both_type line a.ty b.ty (apart attributes a.text ∷ blank ∷ value_part a.val ∷ ps) (apart attributes b.text ∷ blank ∷ value_part b.val ∷ qs) h in
    let kept_same = both_member line a.text b.text a.val b.val ps qs marks marks' types.rest in
    let value = both_value line a.ty a.val b.val ps qs f (subst (λ t. IsValue t b.val) (sym types.same) g) (both_blank line (value_part a.val ∷ ps) (value_part b.val ∷ qs) kept_same.rest) in
    record { type_same = types.same; text_same = kept_same.same; value_same = value.same; rest = value.rest }

arg_same : (a b : RawArg) (line : List ℕ) (ps qs : List Part) → AgreeArg a b line ps qs → a ≡ b
arg_same a b line ps qs h =
    ap (λ t. record { ty = t; val = a.val; text = a.text }) h.type_same ∙ ap (λ v. record { ty = b.ty; val = v; text = a.text }) h.value_same ∙ ap (λ s. record { ty = b.ty; val = b.val; text = s }) h.text_same

further_marks : (line : List ℕ) (xs : List RawArg) (ps : List Part) → BeginsMark line (further (map arg_parts xs) ++ word_part word.Close ∷ ps)
further_marks line [] ps = close_begins_mark line ps
further_marks line (a ∷ more) ps = comma_begins_mark line (blank ∷ (arg_parts a ++ further (map arg_parts more)) ++ word_part word.Close ∷ ps)

pub comma_no_close : spelling word.Comma ≢ spelling word.Close
unfolding spelling
comma_no_close = unlike (spelling word.Comma) (spelling word.Close) refl

pub both_further : (line : List ℕ) (xs ys : List RawArg) (ps qs : List Part) → Each IsArg xs → Each IsArg ys →
    Both line (further (map arg_parts xs) ++ word_part word.Close ∷ ps) (further (map arg_parts ys) ++ word_part word.Close ∷ qs) → Agree xs ys line ps qs
both_further line [] [] ps qs f g h = record { same = refl; rest = both_word line word.Close ps qs h }
both_further line [] (b ∷ ys) ps qs f g h =
    absurd (comma_no_close (sym (both_token line (spelling word.Close) (spelling word.Comma) ps (blank ∷ (arg_parts b ++ further (map arg_parts ys)) ++ word_part word.Close ∷ qs) h).same))
both_further line (a ∷ xs) [] ps qs f g h =
    absurd (comma_no_close (both_token line (spelling word.Comma) (spelling word.Close) (blank ∷ (arg_parts a ++ further (map arg_parts xs)) ++ word_part word.Close ∷ ps) qs h).same)
both_further line (a ∷ xs) (b ∷ ys) ps qs f g h =
    let args = both_arg line a b (further (map arg_parts xs) ++ word_part word.Close ∷ ps) (further (map arg_parts ys) ++ word_part word.Close ∷ qs) f.0 g.0
    (further_marks line xs ps) (further_marks line ys qs)
    (both_lead line word.Comma (arg_parts a ++ further (map arg_parts xs) ++ word_part word.Close ∷ ps) (arg_parts b ++ further (map arg_parts ys) ++ word_part word.Close ∷ qs) h) in
    let more = both_further line xs ys ps qs f.1 g.1 args.rest in
    let first : a ≡ b = arg_same a b line (further (map arg_parts xs) ++ word_part word.Close ∷ ps) (further (map arg_parts ys) ++ word_part word.Close ∷ qs) args in
    record { same = ap (λ x. x ∷ xs) first ∙ ap (λ zs. b ∷ zs) more.same; rest = more.rest }

-- the arguments of a call, up to its closing parenthesis
pub both_args : (line : List ℕ) (xs ys : List RawArg) (ps qs : List Part) → Each IsArg xs → Each IsArg ys →
    Both line (listed (map arg_parts xs) ++ word_part word.Close ∷ ps) (listed (map arg_parts ys) ++ word_part word.Close ∷ qs) → Agree xs ys line ps qs
both_args line [] [] ps qs f g h = record { same = refl; rest = both_word line word.Close ps qs h }
both_args line [] (b ∷ ys) ps qs f g h =
    absurd (type_no_close b.ty (both_token line (spelling word.Close) (type_word b.ty) ps
    (apart attributes b.text ∷ blank ∷ value_part b.val ∷ further (map arg_parts ys) ++ word_part word.Close ∷ qs) h).same)
both_args line (a ∷ xs) [] ps qs f g h =
    absurd (type_no_close a.ty (sym (both_token line (type_word a.ty) (spelling word.Close)
    (apart attributes a.text ∷ blank ∷ value_part a.val ∷ further (map arg_parts xs) ++ word_part word.Close ∷ ps) qs h).same))
both_args line (a ∷ xs) (b ∷ ys) ps qs f g h =
    let args = both_arg line a b (further (map arg_parts xs) ++ word_part word.Close ∷ ps) (further (map arg_parts ys) ++ word_part word.Close ∷ qs) f.0 g.0
    (further_marks line xs ps) (further_marks line ys qs) h in
    let more = both_further line xs ys ps qs f.1 g.1 args.rest in
    let first : a ≡ b = arg_same a b line (further (map arg_parts xs) ++ word_part word.Close ∷ ps) (further (map arg_parts ys) ++ word_part word.Close ∷ qs) args in
    record { same = ap (λ x. x ∷ xs) first ∙ ap (λ zs. b ∷ zs) more.same; rest = more.rest }
