-- Parameters, read one by one from the tokens of a line.
use Rattle.std.proofs.Common.{◌≡◌, ◌⊎◌, ℕ, ◌+◌, ◌<◌, ◌≤◌, Bool, true, false, List, [], ◌∷◌, ◌++◌, length, map, take, drop, refl, sym, ap, subst, ◌∙◌, inl, inr, append_assoc, append-nil, arith}
use Rattle.std.proofs.lemmas.List.{drop-drop, length-drop}
use Rattle.ms_lex.specs.declared.token.Token.{Token}
use Rattle.ms_ir.specs.declared.names.Ty.{Ty}
use Rattle.ms_ir.specs.declared.names.Name.{Name}
use Rattle.ms_ir.specs.declared.names.Name.TheVariants as name
use Rattle.ms_ir.specs.declared.names.Param.{Param}
use Rattle.ms_grammar.specs.Words.{spelling, type_word}
use Rattle.ms_grammar.specs.Kept.{Each, AreMany, IsAttribute}
use Rattle.ms_grammar.specs.Scan.{Stops}
use Rattle.ms_grammar.specs.Parts.{Part, blank, apart, attributes, Spells, texts, bytes_at, kept_text}
use Rattle.ms_grammar.specs.Form.{word_part, local_part, named_parts, param_parts, dots_parts, further, name_text}
use Rattle.ms_grammar.specs.Fits.{IsNamed, MayBeNamed, IsParam}
use Rattle.ms_grammar.specs.declared.keyword.Keyword.TheVariants as word
use Rattle.ms_grammar.proofs.Steps.{same}
use Rattle.ms_grammar.proofs.Walks.{stops_at, comma_stops, close_stops}
use Rattle.ms_grammar.proofs.Args.{StartsMark, BeginsMark, local_member, mark_unlike, comma_begins_mark, close_begins_mark, comma_no_close}
use Rattle.ms_grammar.proofs.Objects.{type_no_close, type_no_dots}
use Rattle.ms_grammar.proofs.Both.{skip_blank, starts_with, along}
use Rattle.ms_line.specs.Params.{taken_by, IsNameFirst, NoParam, IsParamFirst, list_parts, HasMember, IsList, NoNext, IsDots, IsMore, IsLast, AreParams}
use Rattle.ms_line.specs.declared.params.FoundParam.{FoundParam}
use Rattle.ms_line.proofs.InstLines.{named_may}
use Rattle.ms_line.proofs.Cells.{put_blank, put_token, put_first, put_apart, peel, behind_token, behind_run, behind_one, heads}

-- a local that stands first
named_taken : (n : Name) → IsNamed n → taken_by n ≡ 1
named_taken (name.Word text) h = refl
named_taken (name.Number n) h = refl
named_taken name.Absent h = absurd h

named_parts_are : (n : Name) (ps : List Part) → IsNamed n → named_parts n ++ ps ≡ blank ∷ local_part n ∷ ps
named_parts_are (name.Word text) ps h = refl
named_parts_are (name.Number n) ps h = refl
named_parts_are name.Absent ps h = absurd h

-- what stands behind a local, whatever it is
behind_named : (line : List ℕ) (tokens : List Token) (m : Name) (ps : List Part) → IsNamed m → Spells line tokens (named_parts m ++ ps) → Spells line (drop 1 tokens) ps
behind_named line tokens m ps named h =
    behind_token line tokens (37 ∷ name_text m) ps (skip_blank line tokens (local_part m ∷ ps) (subst (λ qs. Spells line tokens qs) (named_parts_are m ps named) h))

-- a mark is no local
no_mark_local : (line : List ℕ) (tokens : List Token) (s : List ℕ) (ts : List (List ℕ)) → StartsMark line tokens → texts line tokens ≡ (37 ∷ s) ∷ ts → ⊥
no_mark_local line tokens s ts m e = mark_unlike (37 ∷ s) m.mark (local_member s) m.is (heads (37 ∷ s) m.mark ts m.more (sym e ∙ m.whole))

pub name_found : (line : List ℕ) (tokens rest : List Token) (t : Token) (n : Name) → tokens ≡ t ∷ rest → IsNamed n → bytes_at line t ≡ 37 ∷ name_text n → IsNameFirst line tokens n
name_found line tokens rest t n e named b = record {
  fits = named_may n named;
  within = let some : length tokens ≡ length (t ∷ rest) = ap (λ ts. length ts) e in omega (arith, named_taken n named, some);
  on = λ ps h. subst (λ qs. Spells line tokens qs) (sym (named_parts_are n ps named))
      (put_blank line tokens (local_part n ∷ ps) (put_token line tokens rest t (37 ∷ name_text n) ps e b (along line ps rest (drop (taken_by n) tokens) (sym rest_is) h)));
  back = λ m ps fits marks h. by_name m ps fits marks h;
}
  where
    rest_is : drop (taken_by n) tokens ≡ rest
    rest_is = ap (λ k. drop k tokens) (named_taken n named) ∙ ap (λ ts. drop 1 ts) e

    shown : texts line tokens ≡ (37 ∷ name_text n) ∷ texts line rest
    shown = ap (λ ts. texts line ts) e ∙ ap (λ c. c ∷ texts line rest) b

    one_taken : drop (taken_by n) tokens ≡ drop 1 tokens
    one_taken = ap (λ k. drop k tokens) (named_taken n named)

    by_name : (m : Name) (ps : List Part) → MayBeNamed m → BeginsMark line ps → Spells line tokens (named_parts m ++ ps) → Spells line (drop (taken_by n) tokens) ps
    by_name (name.Word text) ps fits marks h = along line ps (drop (taken_by n) tokens) (drop 1 tokens) one_taken (behind_named line tokens (name.Word text) ps fits h)
    by_name (name.Number k) ps fits marks h = along line ps (drop (taken_by n) tokens) (drop 1 tokens) one_taken (behind_named line tokens (name.Number k) ps fits h)
    by_name name.Absent ps fits marks h = absurd (no_mark_local line tokens (name_text n) (texts line rest) (marks tokens h) shown)

pub name_none : (line : List ℕ) (tokens rest : List Token) (t : Token) → tokens ≡ t ∷ rest → ((n : Name) → IsNamed n → bytes_at line t ≡ 37 ∷ name_text n → ⊥) →
    IsNameFirst line tokens name.Absent
name_none line tokens rest t e none = record {
  fits = tt;
  within = omega arith;
  on = λ ps h. h;
  back = λ m ps fits marks h. by_name m ps fits h;
}
  where
    no_local : (m : Name) (ps : List Part) → IsNamed m → Spells line tokens (named_parts m ++ ps) → ⊥
    no_local m ps named h =
        none m named (peel line tokens rest t (37 ∷ name_text m) ps e (skip_blank line tokens (local_part m ∷ ps) (subst (λ qs. Spells line tokens qs) (named_parts_are m ps named) h))).bytes

    by_name : (m : Name) (ps : List Part) → MayBeNamed m → Spells line tokens (named_parts m ++ ps) → Spells line tokens ps
    by_name (name.Word text) ps fits h = absurd (no_local (name.Word text) ps fits h)
    by_name (name.Number k) ps fits h = absurd (no_local (name.Number k) ps fits h)
    by_name name.Absent ps fits h = h

-- what attributes cannot take in
local_stops : (s : List ℕ) (ts : List (List ℕ)) → Stops false ((37 ∷ s) ∷ ts)
unfolding spelling
local_stops s ts = stops_at false (37 ∷ s) ts refl refl refl refl

mark_stops : (line : List ℕ) (rest : List Token) → StartsMark line rest → Stops false (texts line rest)
mark_stops line rest m = by_mark m.mark m.more m.whole m.is
  where
    by_mark : (mark : List ℕ) (more : List (List ℕ)) → texts line rest ≡ mark ∷ more → (mark ≡ spelling word.Comma) ⊎ (mark ≡ spelling word.Close) → Stops false (texts line rest)
    by_mark mark more whole (inl e) = subst (λ ts. Stops false ts) (sym (whole ∙ ap (λ t. t ∷ more) e)) (comma_stops false more)
    by_mark mark more whole (inr e) = subst (λ ts. Stops false ts) (sym (whole ∙ ap (λ t. t ∷ more) e)) (close_stops false more)

named_stops : (line : List ℕ) (n : Name) (ps : List Part) → MayBeNamed n → BeginsMark line ps → (rest : List Token) → Spells line rest (named_parts n ++ ps) → Stops false (texts line rest)
named_stops line (name.Word text) ps fits marks rest h =
    let first = starts_with line rest (37 ∷ text) ps (skip_blank line rest (local_part (name.Word text) ∷ ps) h) in subst (λ ts. Stops false ts) (sym first.1) (local_stops text first.0)
named_stops line (name.Number n) ps fits marks rest h =
    let first = starts_with line rest (37 ∷ name_text (name.Number n)) ps (skip_blank line rest (local_part (name.Number n) ∷ ps) h) in
    subst (λ ts. Stops false ts) (sym first.1) (local_stops (name_text (name.Number n)) first.0)
named_stops line name.Absent ps fits marks rest h = mark_stops line rest (marks rest h)

-- a front of attributes that is as long as any other that ends there
abbrev pub IsWholeFront : List ℕ → List Token → ℕ → Type 0
IsWholeFront line tokens n =
    (run rest : List Token) → tokens ≡ run ++ rest → AreMany IsAttribute (texts line run) → Stops false (texts line rest) → n ≡ length run

three_taken : (tokens rest : List Token) (t : Token) (n k : ℕ) → tokens ≡ t ∷ rest → drop (1 + n + k) tokens ≡ drop k (drop n rest)
three_taken tokens rest t n k e =
    let sum : 1 + n + k ≡ 1 + (n + k) = omega arith in
    ap (λ j. drop j tokens) sum ∙ behind_one tokens rest t (n + k) e ∙ sym (drop-drop k n rest)

pub param_found : (line : List ℕ) (tokens rest : List Token) (t : Token) (ty : Ty) (n : ℕ) (text : List ℕ) (own : Name) (taken : ℕ) → tokens ≡ t ∷ rest → bytes_at line t ≡ type_word ty →
    n ≤ length rest → AreMany IsAttribute (texts line (take n rest)) → IsWholeFront line rest n → text ≡ kept_text line (take n rest) → IsNameFirst line (drop n rest) own →
    taken ≡ 1 + n + taken_by own → IsParamFirst line tokens (record { param = record { ty = ty; text = text; name = own }; taken = taken })
param_found line tokens rest t ty n text own taken e b few many whole kept first count = record {
  fits = first.fits;
  within = let some : length tokens ≡ length (t ∷ rest) = ap (λ ts. length ts) e in let left = length-drop n rest in let within = first.within in omega (arith, some, left, within, count);
  on = λ ps h.
      put_token line tokens rest t (type_word ty) (apart attributes text ∷ named_parts own ++ ps) e b
      (put_apart line rest n attributes text (named_parts own ++ ps) (many, kept) (first.on ps (along line ps (drop (taken_by own) (drop n rest)) (drop taken tokens) (sym where_is) h)));
  back = λ p ps fits marks h.
      let inner = (peel line tokens rest t (type_word p.ty) (apart attributes p.text ∷ named_parts p.name ++ ps) e h).spelled in
      let run_is = whole inner.0 inner.1 inner.2 inner.3.0 (named_stops line p.name ps fits marks inner.1 inner.4) in
      let behind = behind_run line rest inner.0 inner.1 n (named_parts p.name ++ ps) inner.2 run_is inner.4 in
      along line ps (drop taken tokens) (drop (taken_by own) (drop n rest)) where_is (first.back p.name ps fits marks behind);
}
  where
    where_is : drop taken tokens ≡ drop (taken_by own) (drop n rest)
    where_is = ap (λ j. drop j tokens) count ∙ three_taken tokens rest t n (taken_by own) e

pub no_param_type : (line : List ℕ) (tokens rest : List Token) (t : Token) → tokens ≡ t ∷ rest → ((ty : Ty) → bytes_at line t ≡ type_word ty → ⊥) → NoParam line tokens
no_param_type line tokens rest t e none = λ p ps fits marks h. none p.ty (peel line tokens rest t (type_word p.ty) (apart attributes p.text ∷ named_parts p.name ++ ps) e h).bytes

-- the members that follow a first one
further_parts : List Param → Bool → List Part → List Part
further_parts xs v ps = further (map param_parts xs ++ dots_parts v) ++ word_part word.Close ∷ ps

first_member : (x : Param) (xs : List Param) (v : Bool) (ps : List Part) → list_parts (x ∷ xs) v ps ≡ param_parts x ++ further_parts xs v ps
unfolding further_parts
first_member x xs v ps = append_assoc (param_parts x) (further (map param_parts xs ++ dots_parts v)) (word_part word.Close ∷ ps)

further_begin : (line : List ℕ) (xs : List Param) (v : Bool) (ps : List Part) → BeginsMark line (further_parts xs v ps)
unfolding further_parts
further_begin line [] true ps = comma_begins_mark line (blank ∷ word_part word.Dots ∷ word_part word.Close ∷ ps)
further_begin line [] false ps = close_begins_mark line ps
further_begin line (x ∷ xs) v ps = comma_begins_mark line (blank ∷ (param_parts x ++ further (map param_parts xs ++ dots_parts v)) ++ word_part word.Close ∷ ps)

-- behind a comma a list goes on
further_more : (xs : List Param) (v : Bool) (ps : List Part) → HasMember xs v → further_parts xs v ps ≡ word_part word.Comma ∷ blank ∷ list_parts xs v ps
unfolding further_parts
further_more [] true ps h = refl
further_more [] false ps h = absurd (cc)
further_more (x ∷ xs) v ps h = refl

-- dots
dots_no_type : (line : List ℕ) (tokens : List Token) (x : Param) (ps : List Part) (ts : List (List ℕ)) → texts line tokens ≡ spelling word.Dots ∷ ts → Spells line tokens (param_parts x ++ ps) → ⊥
dots_no_type line tokens x ps ts e h =
    let first = starts_with line tokens (type_word x.ty) (apart attributes x.text ∷ named_parts x.name ++ ps) h in
    type_no_dots x.ty (heads (spelling word.Dots) (type_word x.ty) ts first.0 (sym e ∙ first.1))

-- a list that begins with dots
dots_list : (line : List ℕ) (tokens : List Token) (ps : List Part) (ts : List (List ℕ)) → texts line tokens ≡ spelling word.Dots ∷ ts → (list : IsList line tokens ps) →
    Spells line tokens (word_part word.Dots ∷ word_part word.Close ∷ ps)
dots_list line tokens ps ts e list = by_list list.params list.variadic list.some list.spelled
  where
    by_list : (xs : List Param) (v : Bool) → HasMember xs v → Spells line tokens (list_parts xs v ps) → Spells line tokens (word_part word.Dots ∷ word_part word.Close ∷ ps)
    by_list [] true some h = h
    by_list [] false some h = absurd (cc)
    by_list (x ∷ xs) v some h = absurd (dots_no_type line tokens x (further_parts xs v ps) ts e (subst (λ qs. Spells line tokens qs) (first_member x xs v ps) h))

pub dots_found : (line : List ℕ) (tokens : List Token) (ts us : List (List ℕ)) → texts line tokens ≡ spelling word.Dots ∷ ts → texts line (drop 1 tokens) ≡ spelling word.Close ∷ us →
    0 < length tokens → 0 < length (drop 1 tokens) → IsDots line tokens
dots_found line tokens ts us e f some more = record {
  within = let left = length-drop 1 tokens in omega (arith, left, some, more);
  on = λ ps h.
      put_first line tokens (spelling word.Dots) ts (word_part word.Close ∷ ps) e
      (put_first line (drop 1 tokens) (spelling word.Close) us ps f (along line ps (drop 1 (drop 1 tokens)) (drop 2 tokens) (drop-drop 1 1 tokens) h));
  back = λ ps list.
      let inner = behind_token line tokens (spelling word.Dots) (word_part word.Close ∷ ps) (dots_list line tokens ps ts e list) in
      along line ps (drop 2 tokens) (drop 1 (drop 1 tokens)) (sym (drop-drop 1 1 tokens)) (behind_token line (drop 1 tokens) (spelling word.Close) ps inner);
}

pub no_dots : (line : List ℕ) (tokens : List Token) (ts : List (List ℕ)) → texts line tokens ≡ spelling word.Dots ∷ ts →
    ((us : List (List ℕ)) × (texts line (drop 1 tokens) ≡ spelling word.Close ∷ us) → ⊥) → NoNext line tokens
no_dots line tokens ts e none = λ ps list.
    none (starts_with line (drop 1 tokens) (spelling word.Close) ps
    (behind_token line tokens (spelling word.Dots) (word_part word.Close ∷ ps) (dots_list line tokens ps ts e list)))

-- a list that begins with no dots begins with a parameter
record FirstParam (line : List ℕ) (tokens : List Token) (ps : List Part) : Type 0 where
  pub first : Param
  pub params : List Param
  pub variadic : Bool
  pub fits : IsParam first
  pub more : Each IsParam params
  pub spelled : Spells line tokens (param_parts first ++ further_parts params variadic ps)

param_list : (line : List ℕ) (tokens : List Token) (ps : List Part) → ((ts : List (List ℕ)) × (texts line tokens ≡ spelling word.Dots ∷ ts) → ⊥) → IsList line tokens ps → FirstParam line tokens ps
param_list line tokens ps none list = by_list list.params list.variadic list.some list.fits list.spelled
  where
    by_list : (xs : List Param) (v : Bool) → HasMember xs v → Each IsParam xs → Spells line tokens (list_parts xs v ps) → FirstParam line tokens ps
    by_list [] true some fits h = absurd (none (starts_with line tokens (spelling word.Dots) (word_part word.Close ∷ ps) h))
    by_list [] false some fits h = absurd (cc)
    by_list (x ∷ xs) v some fits h =
        record { first = x; params = xs; variadic = v; fits = fits.0; more = fits.1; spelled = subst (λ qs. Spells line tokens qs) (first_member x xs v ps) h }

pub no_next_param : (line : List ℕ) (tokens : List Token) → ((ts : List (List ℕ)) × (texts line tokens ≡ spelling word.Dots ∷ ts) → ⊥) → NoParam line tokens → NoNext line tokens
no_next_param line tokens none fails = λ ps list.
    let p = param_list line tokens ps none list in fails p.first (further_parts p.params p.variadic ps) p.fits (further_begin line p.params p.variadic ps) p.spelled

-- what stands behind the parameter that was found
behind_param : (line : List ℕ) (tokens : List Token) (found : FoundParam) (ps : List Part) → IsParamFirst line tokens found → (p : FirstParam line tokens ps) →
    Spells line (drop found.taken tokens) (further_parts p.params p.variadic ps)
behind_param line tokens found ps is p = is.back p.first (further_parts p.params p.variadic ps) p.fits (further_begin line p.params p.variadic ps) p.spelled

pub no_next_mark : (line : List ℕ) (tokens : List Token) (found : FoundParam) → ((ts : List (List ℕ)) × (texts line tokens ≡ spelling word.Dots ∷ ts) → ⊥) → IsParamFirst line tokens found →
    ((ts : List (List ℕ)) × (texts line (drop found.taken tokens) ≡ spelling word.Comma ∷ ts) → ⊥) → ((ts : List (List ℕ)) × (texts line (drop found.taken tokens) ≡ spelling word.Close ∷ ts) → ⊥) →
    NoNext line tokens
no_next_mark line tokens found none is no_comma no_close = λ ps list.
    let p = param_list line tokens ps none list in
    by_mark (further_begin line p.params p.variadic ps (drop found.taken tokens) (behind_param line tokens found ps is p))
  where
    by_case : (mark : List ℕ) (more : List (List ℕ)) → texts line (drop found.taken tokens) ≡ mark ∷ more → (mark ≡ spelling word.Comma) ⊎ (mark ≡ spelling word.Close) → ⊥
    by_case mark more whole (inl e) = no_comma (more, whole ∙ ap (λ t. t ∷ more) e)
    by_case mark more whole (inr e) = no_close (more, whole ∙ ap (λ t. t ∷ more) e)

    by_mark : StartsMark line (drop found.taken tokens) → ⊥
    by_mark m = by_case m.mark m.more m.whole m.is

apart_marks : (line : List ℕ) (tokens : List Token) (ts : List (List ℕ)) (ps : List Part) → texts line tokens ≡ spelling word.Comma ∷ ts → Spells line tokens (word_part word.Close ∷ ps) → ⊥
apart_marks line tokens ts ps e h =
    let first = starts_with line tokens (spelling word.Close) ps h in comma_no_close (heads (spelling word.Comma) (spelling word.Close) ts first.0 (sym e ∙ first.1))

pub more_found : (line : List ℕ) (tokens : List Token) (found : FoundParam) (ts : List (List ℕ)) → ((ts : List (List ℕ)) × (texts line tokens ≡ spelling word.Dots ∷ ts) → ⊥) →
    IsParamFirst line tokens found → texts line (drop found.taken tokens) ≡ spelling word.Comma ∷ ts → 0 < length (drop found.taken tokens) → IsMore line tokens found.param (found.taken + 1)
unfolding further_parts
more_found line tokens found ts none is e some = record {
  fits = is.fits;
  some = omega arith;
  within = let left = length-drop found.taken tokens in let within = is.within in omega (arith, left, some, within);
  on = λ xs v ps has h. subst (λ qs. Spells line tokens qs) (sym (first_member found.param xs v ps))
      (is.on (further_parts xs v ps) (subst (λ qs. Spells line (drop found.taken tokens) qs) (sym (further_more xs v ps has))
      (put_first line (drop found.taken tokens) (spelling word.Comma) ts (blank ∷ list_parts xs v ps) e
      (put_blank line (drop 1 (drop found.taken tokens)) (list_parts xs v ps) (along line (list_parts xs v ps) (drop 1 (drop found.taken tokens)) (drop (found.taken + 1) tokens) (drop-drop 1 found.taken tokens) h)))));
  back = λ ps list. let p = param_list line tokens ps none list in by_more ps p.params p.variadic p.more (behind_param line tokens found ps is p);
}
  where
    by_more : (ps : List Part) (xs : List Param) (v : Bool) → Each IsParam xs → Spells line (drop found.taken tokens) (further_parts xs v ps) → IsList line (drop (found.taken + 1) tokens) ps
    by_more ps [] false fits h = absurd (apart_marks line (drop found.taken tokens) ts ps e h)
    by_more ps [] true fits h = record {
      params = [];
      variadic = true;
      some = refl;
      fits = tt;
      spelled = along line (list_parts [] true ps) (drop (found.taken + 1) tokens) (drop 1 (drop found.taken tokens)) (sym (drop-drop 1 found.taken tokens))
          (skip_blank line (drop 1 (drop found.taken tokens)) (list_parts [] true ps) (behind_token line (drop found.taken tokens) (spelling word.Comma) (blank ∷ list_parts [] true ps) h));
    }
    by_more ps (x ∷ xs) v fits h = record {
      params = x ∷ xs;
      variadic = v;
      some = tt;
      fits = fits;
      spelled = along line (list_parts (x ∷ xs) v ps) (drop (found.taken + 1) tokens) (drop 1 (drop found.taken tokens)) (sym (drop-drop 1 found.taken tokens))
          (skip_blank line (drop 1 (drop found.taken tokens)) (list_parts (x ∷ xs) v ps) (behind_token line (drop found.taken tokens) (spelling word.Comma) (blank ∷ list_parts (x ∷ xs) v ps) h));
    }

-- behind a closing parenthesis nothing of the list is left
pub last_found : (line : List ℕ) (tokens : List Token) (found : FoundParam) (ts : List (List ℕ)) → ((ts : List (List ℕ)) × (texts line tokens ≡ spelling word.Dots ∷ ts) → ⊥) →
    IsParamFirst line tokens found → texts line (drop found.taken tokens) ≡ spelling word.Close ∷ ts → 0 < length (drop found.taken tokens) → IsLast line tokens found.param (found.taken + 1)
unfolding further_parts
last_found line tokens found ts none is e some = record {
  fits = is.fits;
  within = let left = length-drop found.taken tokens in let within = is.within in omega (arith, left, some, within);
  on = λ ps h. subst (λ qs. Spells line tokens qs) (sym (first_member found.param [] false ps))
      (is.on (further_parts [] false ps) (put_first line (drop found.taken tokens) (spelling word.Close) ts ps e
      (along line ps (drop 1 (drop found.taken tokens)) (drop (found.taken + 1) tokens) (drop-drop 1 found.taken tokens) h)));
  back = λ ps list. let p = param_list line tokens ps none list in by_last ps p.params p.variadic (behind_param line tokens found ps is p);
}
  where
    no_comma : (ps : List Part) → Spells line (drop found.taken tokens) (word_part word.Comma ∷ ps) → ⊥
    no_comma ps h =
        let first = starts_with line (drop found.taken tokens) (spelling word.Comma) ps h in comma_no_close (heads (spelling word.Comma) (spelling word.Close) first.0 ts (sym first.1 ∙ e))

    by_last : (ps : List Part) (xs : List Param) (v : Bool) → Spells line (drop found.taken tokens) (further_parts xs v ps) → Spells line (drop (found.taken + 1) tokens) ps
    by_last ps [] false h =
        along line ps (drop (found.taken + 1) tokens) (drop 1 (drop found.taken tokens)) (sym (drop-drop 1 found.taken tokens)) (behind_token line (drop found.taken tokens) (spelling word.Close) ps h)
    by_last ps [] true h = absurd (no_comma (blank ∷ list_parts [] true ps) h)
    by_last ps (x ∷ xs) v h = absurd (no_comma (blank ∷ list_parts (x ∷ xs) v ps) h)

-- parameters so far, with what is left of the list behind them
pub record IsSoFar (line : List ℕ) (tokens : List Token) (params : List Param) (at : ℕ) : Type 0 where
  pub fits : Each IsParam params
  pub within : at ≤ length tokens
  pub on : (xs : List Param) (v : Bool) (ps : List Part) → HasMember xs v → Spells line (drop at tokens) (list_parts xs v ps) → Spells line tokens (list_parts (params ++ xs) v ps)
  pub back : (xs : List Param) (v : Bool) (ps : List Part) → Each IsParam xs → Spells line tokens (list_parts xs v ps) → IsList line (drop at tokens) ps

pub none_so_far : (line : List ℕ) (tokens : List Token) (params : List Param) → params ≡ [] → ((ts : List (List ℕ)) × (texts line tokens ≡ spelling word.Close ∷ ts) → ⊥) → IsSoFar line tokens params 0
none_so_far line tokens params none no_close = record {
  fits = subst (λ ys. Each IsParam ys) (sym none) tt;
  within = omega arith;
  on = λ xs v ps has h. subst (λ ys. Spells line tokens (list_parts (ys ++ xs) v ps)) (sym none) h;
  back = λ xs v ps fits h. record { params = xs; variadic = v; some = by_list xs v ps h; fits = fits; spelled = h };
}
  where
    by_list : (xs : List Param) (v : Bool) (ps : List Part) → Spells line tokens (list_parts xs v ps) → HasMember xs v
    by_list [] true ps h = refl
    by_list [] false ps h = absurd (no_close (starts_with line tokens (spelling word.Close) ps h))
    by_list (x ∷ xs) v ps h = tt

each_push : (xs : List Param) (p : Param) → Each IsParam xs → IsParam p → Each IsParam (xs ++ p ∷ [])
each_push [] p h k = (k, tt)
each_push (x ∷ xs) p h k = (h.0, each_push xs p h.1 k)

-- one more parameter
pub more_so_far : (line : List ℕ) (tokens : List Token) (params : List Param) (at taken : ℕ) (p : Param) (more : List Param) → IsSoFar line tokens params at → IsMore line (drop at tokens) p taken →
    more ≡ params ++ p ∷ [] → IsSoFar line tokens more (at + taken)
more_so_far line tokens params at taken p more so is e = record {
  fits = subst (λ ys. Each IsParam ys) (sym e) (each_push params p so.fits is.fits);
  within = let left = length-drop at tokens in let a = so.within in let b = is.within in omega (arith, left, a, b);
  on = λ xs v ps has h. subst (λ ys. Spells line tokens (list_parts (ys ++ xs) v ps)) (sym e)
      (subst (λ ys. Spells line tokens (list_parts ys v ps)) (sym (append_assoc params (p ∷ []) xs))
      (so.on (p ∷ xs) v ps tt (is.on xs v ps has (along line (list_parts xs v ps) (drop taken (drop at tokens)) (drop (at + taken) tokens) (drop-drop taken at tokens) h))));
  back = λ xs v ps fits h. list_along ps (is.back ps (so.back xs v ps fits h));
}
  where
    list_along : (ps : List Part) → IsList line (drop taken (drop at tokens)) ps → IsList line (drop (at + taken) tokens) ps
    list_along ps h = subst (λ ts. IsList line ts ps) (drop-drop taken at tokens) h

-- the whole list
pub last_so_far : (line : List ℕ) (tokens : List Token) (params : List Param) (at taken : ℕ) (p : Param) (more : List Param) → IsSoFar line tokens params at → IsLast line (drop at tokens) p taken →
    more ≡ params ++ p ∷ [] → AreParams line tokens (record { params = more; variadic = false; taken = at + taken })
last_so_far line tokens params at taken p more so is e = record {
  fits = subst (λ ys. Each IsParam ys) (sym e) (each_push params p so.fits is.fits);
  within = let left = length-drop at tokens in let a = so.within in let b = is.within in omega (arith, left, a, b);
  on = λ ps h. subst (λ ys. Spells line tokens (list_parts ys false ps)) (sym e)
      (so.on (p ∷ []) false ps tt (is.on ps (along line ps (drop taken (drop at tokens)) (drop (at + taken) tokens) (drop-drop taken at tokens) h)));
  back = λ xs v ps fits h. along line ps (drop (at + taken) tokens) (drop taken (drop at tokens)) (sym (drop-drop taken at tokens)) (is.back ps (so.back xs v ps fits h));
}

pub dots_so_far : (line : List ℕ) (tokens : List Token) (params : List Param) (at : ℕ) → IsSoFar line tokens params at → IsDots line (drop at tokens) →
    AreParams line tokens (record { params = params; variadic = true; taken = at + 2 })
dots_so_far line tokens params at so is = record {
  fits = so.fits;
  within = let left = length-drop at tokens in let a = so.within in let b = is.within in omega (arith, left, a, b);
  on = λ ps h. subst (λ ys. Spells line tokens (list_parts ys true ps)) (append-nil params)
      (so.on [] true ps refl (is.on ps (along line ps (drop 2 (drop at tokens)) (drop (at + 2) tokens) (drop-drop 2 at tokens) h)));
  back = λ xs v ps fits h. along line ps (drop (at + 2) tokens) (drop 2 (drop at tokens)) (sym (drop-drop 2 at tokens)) (is.back ps (so.back xs v ps fits h));
}

dots_no_close : spelling word.Dots ≡ spelling word.Close → ⊥
unfolding spelling
dots_no_close e = let passes = same (spelling word.Dots) (spelling word.Close) e in cc

-- a list that begins with its closing parenthesis
pub empty_found : (line : List ℕ) (tokens : List Token) (ts : List (List ℕ)) (params : List Param) → params ≡ [] → texts line tokens ≡ spelling word.Close ∷ ts → 0 < length tokens →
    AreParams line tokens (record { params = params; variadic = false; taken = 1 })
empty_found line tokens ts params none e some = record {
  fits = subst (λ ys. Each IsParam ys) (sym none) tt;
  within = omega arith;
  on = λ ps h. subst (λ ys. Spells line tokens (list_parts ys false ps)) (sym none) (put_first line tokens (spelling word.Close) ts ps e h);
  back = λ xs v ps fits h. by_list xs v ps h;
}
  where
    by_list : (xs : List Param) (v : Bool) (ps : List Part) → Spells line tokens (list_parts xs v ps) → Spells line (drop 1 tokens) ps
    by_list [] true ps h =
        let first = starts_with line tokens (spelling word.Dots) (word_part word.Close ∷ ps) h in
        absurd (dots_no_close (heads (spelling word.Dots) (spelling word.Close) first.0 ts (sym first.1 ∙ e)))
    by_list [] false ps h = behind_token line tokens (spelling word.Close) ps h
    by_list (x ∷ xs) v ps h =
        let first = starts_with line tokens (type_word x.ty) (apart attributes x.text ∷ named_parts x.name ++ further_parts xs v ps) (subst (λ qs. Spells line tokens qs) (first_member x xs v ps) h) in
        absurd (type_no_close x.ty (heads (spelling word.Close) (type_word x.ty) ts first.0 (sym e ∙ first.1)))
