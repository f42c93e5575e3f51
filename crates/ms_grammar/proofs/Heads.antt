-- The line of a function is told by its tokens.
use Rattle.std.proofs.Common.{◌≡◌, ◌≢◌, ◌⊎◌, ℕ, Bool, true, false, List, [], ◌∷◌, ◌++◌, Option, map, refl, sym, ap, subst, ◌∙◌, inl, inr, append_assoc}
use Rattle.ms_lex.specs.declared.token.Token.{Token}
use Rattle.ms_ir.specs.declared.names.Ty.{Ty}
use Rattle.ms_ir.specs.declared.names.Name.{Name}
use Rattle.ms_ir.specs.declared.names.Name.TheVariants as name
use Rattle.ms_ir.specs.declared.names.Param.{Param}
use Rattle.ms_grammar.specs.Words.{spelling, type_word}
use Rattle.ms_grammar.specs.Kept.{Each}
use Rattle.ms_grammar.specs.Parts.{Part, blank, token, apart, attributes, post, Spells, texts, result_word}
use Rattle.ms_grammar.specs.Form.{word_part, local_part, named_parts, param_parts, dots_parts, further, listed, front_parts, head_parts, name_text}
use Rattle.ms_grammar.specs.Fits.{MayBeNamed, IsParam, FitsHead}
use Rattle.ms_grammar.specs.declared.line.Head.{Head}
use Rattle.ms_grammar.specs.declared.keyword.Keyword.{Keyword}
use Rattle.ms_grammar.specs.declared.keyword.Keyword.TheVariants as word
use Rattle.ms_grammar.proofs.Steps.{same}
use Rattle.ms_grammar.specs.Scan.{Stops}
use Rattle.ms_grammar.proofs.Walks.{stops_at, comma_stops, close_stops}
use Rattle.ms_grammar.proofs.Objects.{type_no_close, type_no_dots}
use Rattle.ms_grammar.proofs.Args.{StartsMark, BeginsMark, local_member, mark_unlike, comma_begins_mark, close_begins_mark, comma_no_close}
use Rattle.ms_grammar.proofs.Calls.{result_one, word_stops}
use Rattle.ms_grammar.proofs.Both.{Both, Agree, both_blank, both_token, both_word, both_lead, both_type, both_name, both_attributes, both_post, flip, starts_with, skip_blank, StopsAll, behind_first}

local_stops : (s : List ℕ) (ts : List (List ℕ)) → Stops false ((37 ∷ s) ∷ ts)
unfolding spelling
local_stops s ts = stops_at false (37 ∷ s) ts refl refl refl refl

mark_stops : (line : List ℕ) (rest : List Token) → StartsMark line rest → Stops false (texts line rest)
mark_stops line rest m = by_mark m.mark m.more m.whole m.is
  where
    by_mark : (mark : List ℕ) (more : List (List ℕ)) → texts line rest ≡ mark ∷ more → (mark ≡ spelling word.Comma) ⊎ (mark ≡ spelling word.Close) → Stops false (texts line rest)
    by_mark mark more whole (inl e) = subst (λ ts. Stops false ts) (sym (whole ∙ ap (λ t. t ∷ more) e)) (comma_stops false more)
    by_mark mark more whole (inr e) = subst (λ ts. Stops false ts) (sym (whole ∙ ap (λ t. t ∷ more) e)) (close_stops false more)

named_stops : (line : List ℕ) (n : Name) (ps : List Part) → BeginsMark line ps → (rest : List Token) → Spells line rest (named_parts n ++ ps) → Stops false (texts line rest)
named_stops line (name.Word text) ps marks rest h =
    let first = starts_with line rest (37 ∷ text) ps (skip_blank line rest (local_part (name.Word text) ∷ ps) h) in subst (λ ts. Stops false ts) (sym first.1) (local_stops text first.0)
named_stops line (name.Number n) ps marks rest h =
    let first = starts_with line rest (37 ∷ name_text (name.Number n)) ps (skip_blank line rest (local_part (name.Number n) ∷ ps) h) in
    subst (λ ts. Stops false ts) (sym first.1) (local_stops (name_text (name.Number n)) first.0)
named_stops line name.Absent ps marks rest h = mark_stops line rest (marks rest h)

no_local : (line : List ℕ) (s : List ℕ) (ps qs : List Part) → BeginsMark line ps → Both line ps (blank ∷ token (37 ∷ s) ∷ qs) → ⊥
no_local line s ps qs marks b =
    let mark = marks b.tokens b.one in
    let first = starts_with line b.tokens (37 ∷ s) qs (skip_blank line b.tokens (token (37 ∷ s) ∷ qs) b.other) in
    mark_unlike (37 ∷ s) mark.mark (local_member s) mark.is (heads (37 ∷ s) mark.mark first.0 mark.more (sym first.1 ∙ mark.whole))
  where
    heads : (a b : List ℕ) (s t : List (List ℕ)) → a ∷ s ≡ b ∷ t → a ≡ b
    heads a b s t e = cc

both_named : (line : List ℕ) (n m : Name) (ps qs : List Part) → MayBeNamed n → MayBeNamed m → BeginsMark line ps → BeginsMark line qs →
    Both line (named_parts n ++ ps) (named_parts m ++ qs) → Agree n m line ps qs
both_named line (name.Word s) (name.Word t) ps qs f g marks marks' h = both_name line 37 (name.Word s) (name.Word t) ps qs f g (both_blank line _ _ h)
both_named line (name.Word s) (name.Number m) ps qs f g marks marks' h = both_name line 37 (name.Word s) (name.Number m) ps qs f g (both_blank line _ _ h)
both_named line (name.Number n) (name.Word t) ps qs f g marks marks' h = both_name line 37 (name.Number n) (name.Word t) ps qs f g (both_blank line _ _ h)
both_named line (name.Number n) (name.Number m) ps qs f g marks marks' h = both_name line 37 (name.Number n) (name.Number m) ps qs f g (both_blank line _ _ h)
both_named line name.Absent name.Absent ps qs f g marks marks' h = record { same = refl; rest = h }
both_named line name.Absent (name.Word t) ps qs f g marks marks' h = absurd (no_local line t ps qs marks h)
both_named line name.Absent (name.Number m) ps qs f g marks marks' h = absurd (no_local line (name_text (name.Number m)) ps qs marks h)
both_named line (name.Word s) name.Absent ps qs f g marks marks' h = absurd (no_local line s qs ps marks' (flip line (blank ∷ token (37 ∷ s) ∷ ps) qs h))
both_named line (name.Number n) name.Absent ps qs f g marks marks' h =
    absurd (no_local line (name_text (name.Number n)) qs ps marks' (flip line (blank ∷ token (37 ∷ name_text (name.Number n)) ∷ ps) qs h))

both_param : (line : List ℕ) (a b : Param) (ps qs : List Part) → IsParam a → IsParam b → BeginsMark line ps → BeginsMark line qs →
    Both line (param_parts a ++ ps) (param_parts b ++ qs) → Agree a b line ps qs
both_param line a b ps qs f g marks marks' h =
    let types = both_type line a.ty b.ty (apart attributes a.text ∷ named_parts a.name ++ ps) (apart attributes b.text ∷ named_parts b.name ++ qs) h in
    let kept_same = both_attributes line a.text b.text (named_parts a.name ++ ps) (named_parts b.name ++ qs) (named_stops line a.name ps marks) (named_stops line b.name qs marks') types.rest in
    let names = both_named line a.name b.name ps qs f g marks marks' kept_same.rest in
    record {
      same = ap (λ t. record { ty = t; text = a.text; name = a.name }) types.same ∙ ap (λ s. record { ty = b.ty; text = s; name = a.name }) kept_same.same
          ∙ ap (λ n. record { ty = b.ty; text = b.text; name = n }) names.same;
      rest = names.rest;
    }

-- the parameters that follow, and whether the function is variadic
pub record AgreeParams (xs ys : List Param) (v w : Bool) (line : List ℕ) (ps qs : List Part) : Type 0 where
  pub params : xs ≡ ys
  pub variadic : v ≡ w
  pub rest : Both line ps qs

further_begin : (line : List ℕ) (xs : List Param) (v : Bool) (ps : List Part) → BeginsMark line (further (map param_parts xs ++ dots_parts v) ++ word_part word.Close ∷ ps)
further_begin line [] true ps = comma_begins_mark line (blank ∷ word_part word.Dots ∷ word_part word.Close ∷ ps)
further_begin line [] false ps = close_begins_mark line ps
further_begin line (x ∷ xs) v ps = comma_begins_mark line (blank ∷ (param_parts x ++ further (map param_parts xs ++ dots_parts v)) ++ word_part word.Close ∷ ps)

assoc_both : (line : List ℕ) (a f c b g d : List Part) → Both line ((a ++ f) ++ c) ((b ++ g) ++ d) → Both line (a ++ (f ++ c)) (b ++ (g ++ d))
assoc_both line a f c b g d h =
    subst (λ l. Both line l (b ++ (g ++ d))) (append_assoc a f c) (subst (λ r. Both line ((a ++ f) ++ c) r) (append_assoc b g d) h)

dots_no_close : spelling word.Dots ≢ spelling word.Close
unfolding spelling
dots_no_close e = let passes = same (spelling word.Dots) (spelling word.Close) e in cc

result_first : (line : List ℕ) (ret : Option Ty) (ps : List Part) → StopsAll false line (blank ∷ token (result_word ret) ∷ ps)
result_first line ret ps rest h =
    let first = starts_with line rest (result_word ret) ps (skip_blank line rest (token (result_word ret) ∷ ps) h) in subst (λ ts. Stops false ts) (sym first.1) (word_stops ret first.0)

pub both_further_params : (line : List ℕ) (xs ys : List Param) (v w : Bool) (ps qs : List Part) → Each IsParam xs → Each IsParam ys →
    Both line (further (map param_parts xs ++ dots_parts v) ++ word_part word.Close ∷ ps) (further (map param_parts ys ++ dots_parts w) ++ word_part word.Close ∷ qs) → AgreeParams xs ys v w line ps qs
both_further_params line [] [] true true ps qs f g h =
    record { params = refl; variadic = refl; rest = both_word line word.Close ps qs (both_word line word.Dots _ _ (both_lead line word.Comma _ _ h)) }
both_further_params line [] [] false false ps qs f g h = record { params = refl; variadic = refl; rest = both_word line word.Close ps qs h }
both_further_params line [] [] true false ps qs f g h = absurd (comma_no_close (both_token line (spelling word.Comma) (spelling word.Close) _ qs h).same)
both_further_params line [] [] false true ps qs f g h = absurd (comma_no_close (sym (both_token line (spelling word.Close) (spelling word.Comma) ps _ h).same))
both_further_params line [] (y ∷ ys) true w ps qs f g h = absurd (type_no_dots y.ty (both_token line (spelling word.Dots) (type_word y.ty) _ _ (both_lead line word.Comma _ _ h)).same)
both_further_params line [] (y ∷ ys) false w ps qs f g h = absurd (comma_no_close (sym (both_token line (spelling word.Close) (spelling word.Comma) ps _ h).same))
both_further_params line (x ∷ xs) [] v true ps qs f g h = absurd (type_no_dots x.ty (sym (both_token line (type_word x.ty) (spelling word.Dots) _ _ (both_lead line word.Comma _ _ h)).same))
both_further_params line (x ∷ xs) [] v false ps qs f g h = absurd (comma_no_close (both_token line (spelling word.Comma) (spelling word.Close) _ qs h).same)
both_further_params line (x ∷ xs) (y ∷ ys) v w ps qs f g h =
    let left : List Part = further (map param_parts xs ++ dots_parts v) in
    let right : List Part = further (map param_parts ys ++ dots_parts w) in
    let firsts = both_param line x y (left ++ word_part word.Close ∷ ps) (right ++ word_part word.Close ∷ qs) f.0 g.0 (further_begin line xs v ps) (further_begin line ys w qs)
    (assoc_both line (param_parts x) left (word_part word.Close ∷ ps) (param_parts y) right (word_part word.Close ∷ qs) (both_lead line word.Comma _ _ h)) in
    let more = both_further_params line xs ys v w ps qs f.1 g.1 firsts.rest in
    record { params = ap (λ p. p ∷ xs) firsts.same ∙ ap (λ zs. y ∷ zs) more.params; variadic = more.variadic; rest = more.rest }

-- the parameters of a function, up to its closing parenthesis
pub both_params : (line : List ℕ) (xs ys : List Param) (v w : Bool) (ps qs : List Part) → Each IsParam xs → Each IsParam ys →
    Both line (listed (map param_parts xs ++ dots_parts v) ++ word_part word.Close ∷ ps) (listed (map param_parts ys ++ dots_parts w) ++ word_part word.Close ∷ qs) → AgreeParams xs ys v w line ps qs
both_params line [] [] true true ps qs f g h = record { params = refl; variadic = refl; rest = both_word line word.Close ps qs (both_word line word.Dots _ _ h) }
both_params line [] [] false false ps qs f g h = record { params = refl; variadic = refl; rest = both_word line word.Close ps qs h }
both_params line [] [] true false ps qs f g h = absurd (dots_no_close (both_token line (spelling word.Dots) (spelling word.Close) _ qs h).same)
both_params line [] [] false true ps qs f g h = absurd (dots_no_close (sym (both_token line (spelling word.Close) (spelling word.Dots) ps _ h).same))
both_params line [] (y ∷ ys) true w ps qs f g h = absurd (type_no_dots y.ty (both_token line (spelling word.Dots) (type_word y.ty) _ _ h).same)
both_params line [] (y ∷ ys) false w ps qs f g h = absurd (type_no_close y.ty (both_token line (spelling word.Close) (type_word y.ty) ps _ h).same)
both_params line (x ∷ xs) [] v true ps qs f g h = absurd (type_no_dots x.ty (sym (both_token line (type_word x.ty) (spelling word.Dots) _ _ h).same))
both_params line (x ∷ xs) [] v false ps qs f g h = absurd (type_no_close x.ty (sym (both_token line (type_word x.ty) (spelling word.Close) _ qs h).same))
both_params line (x ∷ xs) (y ∷ ys) v w ps qs f g h =
    let left : List Part = further (map param_parts xs ++ dots_parts v) in
    let right : List Part = further (map param_parts ys ++ dots_parts w) in
    let firsts = both_param line x y (left ++ word_part word.Close ∷ ps) (right ++ word_part word.Close ∷ qs) f.0 g.0 (further_begin line xs v ps) (further_begin line ys w qs)
    (assoc_both line (param_parts x) left (word_part word.Close ∷ ps) (param_parts y) right (word_part word.Close ∷ qs) h) in
    let more = both_further_params line xs ys v w ps qs f.1 g.1 firsts.rest in
    record { params = ap (λ p. p ∷ xs) firsts.same ∙ ap (λ zs. y ∷ zs) more.params; variadic = more.variadic; rest = more.rest }

-- what the line of a function says, and what stands behind its attributes
pub head_same : (line : List ℕ) (k : Keyword) (a b : Head) (ps qs : List Part) → FitsHead a → FitsHead b → StopsAll true line ps → StopsAll true line qs →
    Both line (head_parts k a ++ ps) (head_parts k b ++ qs) → Agree a b line ps qs
head_same line k a b ps qs f g stop stop' h =
    let left : List Part = listed (map param_parts a.params ++ dots_parts a.variadic) in
    let right : List Part = listed (map param_parts b.params ++ dots_parts b.variadic) in
    let shown = assoc_both line (front_parts k a ++ left) (word_part word.Close ∷ apart post a.post ∷ []) ps (front_parts k b ++ right) (word_part word.Close ∷ apart post b.post ∷ []) qs h in
    let attrs = both_attributes line a.attrs b.attrs (blank ∷ token (result_word a.ret) ∷ blank ∷ token (64 ∷ a.name) ∷ word_part word.Open ∷ left ++ word_part word.Close ∷ apart post a.post ∷ ps)
    (blank ∷ token (result_word b.ret) ∷ blank ∷ token (64 ∷ b.name) ∷ word_part word.Open ∷ right ++ word_part word.Close ∷ apart post b.post ∷ qs)
    (result_first line a.ret (blank ∷ token (64 ∷ a.name) ∷ word_part word.Open ∷ left ++ word_part word.Close ∷ apart post a.post ∷ ps))
    (result_first line b.ret (blank ∷ token (64 ∷ b.name) ∷ word_part word.Open ∷ right ++ word_part word.Close ∷ apart post b.post ∷ qs)) (both_word line k _ _ shown) in
    let rets = both_token line (result_word a.ret) (result_word b.ret) _ _ (both_blank line _ _ attrs.rest) in
    let names = both_token line (64 ∷ a.name) (64 ∷ b.name) _ _ (both_blank line _ _ rets.rest) in
    let params = both_params line a.params b.params a.variadic b.variadic (apart post a.post ∷ ps) (apart post b.post ∷ qs) f.1 g.1 (both_word line word.Open _ _ names.rest) in
    let posts = both_post line a.post b.post ps qs stop stop' params.rest in
    record {
      same = ap (λ x. record a { attrs = x }) attrs.same ∙ ap (λ x. record a { attrs = b.attrs; ret = x }) (result_one a.ret b.ret rets.same)
          ∙ ap (λ x. record a { attrs = b.attrs; ret = b.ret; name = x }) (behind_first 64 64 a.name b.name names.same)
          ∙ ap (λ x. record a { attrs = b.attrs; ret = b.ret; name = b.name; params = x }) params.params
          ∙ ap (λ x. record a { attrs = b.attrs; ret = b.ret; name = b.name; params = b.params; variadic = x }) params.variadic
          ∙ ap (λ x. record b { post = x }) posts.same;
      rest = posts.rest;
    }
