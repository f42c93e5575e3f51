-- The lines of functions, read from the tokens of a line.
use Rattle.std.proofs.Common.{◌≡◌, ℕ, ◌+◌, ◌<◌, ◌≤◌, true, false, List, [], ◌∷◌, ◌++◌, Option, Some, None, length, map, take, drop, refl, sym, ap, subst, ◌∙◌, append_assoc, append-nil, arith}
use Rattle.std.proofs.lemmas.List.{drop-drop, length-drop}
use Rattle.ms_lex.specs.Kinds.{is_word}
use Rattle.ms_lex.specs.declared.token.Token.{Token}
use Rattle.ms_ir.specs.declared.names.Ty.{Ty}
use Rattle.ms_grammar.specs.Words.{spelling}
use Rattle.ms_grammar.specs.Kept.{AreMany, IsAttribute, IsPostItem}
use Rattle.ms_grammar.specs.Scan.{Stops}
use Rattle.ms_grammar.specs.Parts.{Part, blank, token, apart, attributes, post, result_word, Spells, texts, bytes_at, kept_text}
use Rattle.ms_grammar.specs.Form.{no_scale, word_part, global_part, param_parts, dots_parts, listed, head_parts, brace_parts}
use Rattle.ms_grammar.specs.Fits.{FitsHead, IsResult}
use Rattle.ms_grammar.specs.declared.line.Head.{Head}
use Rattle.ms_grammar.specs.declared.line.Line.{Line}
use Rattle.ms_grammar.specs.declared.line.Line.TheVariants as said
use Rattle.ms_grammar.specs.declared.keyword.Keyword.{Keyword}
use Rattle.ms_grammar.specs.declared.keyword.Keyword.TheVariants as word
use Rattle.ms_grammar.proofs.Walks.{brace_stops}
use Rattle.ms_grammar.proofs.Calls.{word_stops}
use Rattle.ms_grammar.proofs.Both.{skip_blank, starts_with, along, StopsAll}
use Rattle.ms_grammar.proofs.Heads.{head_same}
use Rattle.ms_line.specs.Shapes.{shape_of}
use Rattle.ms_line.specs.Spelled.{SpellLine, Finds}
use Rattle.ms_line.specs.Params.{list_parts, NoParams, AreParams}
use Rattle.ms_line.specs.Heads.{signature_parts, opening_parts, NoSignature, IsSignature, NoFront, IsFront, NoHead, IsHead}
use Rattle.ms_line.specs.declared.shape.Shape.TheVariants as shape
use Rattle.ms_line.specs.declared.found.Said.TheVariants.{Whole}
use Rattle.ms_line.specs.declared.params.FoundParams.{FoundParams}
use Rattle.ms_line.specs.declared.heads.Signature.{Signature}
use Rattle.ms_line.specs.declared.heads.Front.{Front}
use Rattle.ms_line.specs.declared.heads.FoundHead.{FoundHead}
use Rattle.ms_line.proofs.ParamLemmas.{IsWholeFront}
use Rattle.ms_line.proofs.Cells.{put_blank, put_token, put_first, put_apart, peel, behind_token, behind_run}

pub first_result : (line : List ℕ) (tokens rest : List Token) (t : Token) (ret : Option Ty) (name : List ℕ) (ps : List Part) → tokens ≡ t ∷ rest →
    Spells line tokens (signature_parts ret name ps) → bytes_at line t ≡ result_word ret
first_result line tokens rest t ret name ps e h = (peel line tokens rest t (result_word ret) (blank ∷ global_part name ∷ word_part word.Open ∷ ps) e h).bytes

-- the cells of a signature, and what stands behind it
pub record SignatureCells (line : List ℕ) (t u : Token) (behind : List Token) (ret : Option Ty) (name : List ℕ) (ps : List Part) : Type 0 where
  pub given : bytes_at line t ≡ result_word ret
  pub global : bytes_at line u ≡ 64 ∷ name
  pub opening : (ts : List (List ℕ)) × (texts line behind ≡ spelling word.Open ∷ ts)
  pub spelled : Spells line (drop 1 behind) ps

pub signature_cells : (line : List ℕ) (tokens rest behind : List Token) (t u : Token) (ret : Option Ty) (name : List ℕ) (ps : List Part) → tokens ≡ t ∷ rest → rest ≡ u ∷ behind →
    Spells line tokens (signature_parts ret name ps) → SignatureCells line t u behind ret name ps
signature_cells line tokens rest behind t u ret name ps e f h =
    let first = peel line tokens rest t (result_word ret) (blank ∷ global_part name ∷ word_part word.Open ∷ ps) e h in
    let second = peel line rest behind u (64 ∷ name) (word_part word.Open ∷ ps) f (skip_blank line rest (global_part name ∷ word_part word.Open ∷ ps) first.spelled) in
    record {
      given = first.bytes;
      global = second.bytes;
      opening = starts_with line behind (spelling word.Open) ps second.spelled;
      spelled = behind_token line behind (spelling word.Open) ps second.spelled;
    }

pub signature_found : (line : List ℕ) (tokens rest behind : List Token) (t u : Token) (ret : Option Ty) (name : List ℕ) (ts : List (List ℕ)) → tokens ≡ t ∷ rest → rest ≡ u ∷ behind →
    bytes_at line t ≡ result_word ret → bytes_at line u ≡ 64 ∷ name → is_word name ≡ true → texts line behind ≡ spelling word.Open ∷ ts → 0 < length behind →
    IsSignature line tokens (record { ret = ret; name = name })
signature_found line tokens rest behind t u ret name ts e f given global word_is opening some = record {
  word = word_is;
  within = let one : length tokens ≡ length (t ∷ rest) = ap (λ ks. length ks) e in let two : length rest ≡ length (u ∷ behind) = ap (λ ks. length ks) f in omega (arith, one, two, some);
  on = λ ps h.
      put_token line tokens rest t (result_word ret) (blank ∷ global_part name ∷ word_part word.Open ∷ ps) e given
      (put_blank line rest (global_part name ∷ word_part word.Open ∷ ps)
      (put_token line rest behind u (64 ∷ name) (word_part word.Open ∷ ps) f global
      (put_first line behind (spelling word.Open) ts ps opening (along line ps (drop 1 behind) (drop 3 tokens) (sym three) h))));
  back = λ ret' name' ps h. along line ps (drop 3 tokens) (drop 1 behind) three (signature_cells line tokens rest behind t u ret' name' ps e f h).spelled;
}
  where
    three : drop 3 tokens ≡ drop 1 behind
    three = ap (λ ks. drop 3 ks) (e ∙ ap (λ r. t ∷ r) f)

-- what stands behind attributes before a signature
result_first : (line : List ℕ) (ret : Option Ty) (ps : List Part) (rest : List Token) → Spells line rest (blank ∷ token (result_word ret) ∷ ps) → Stops false (texts line rest)
result_first line ret ps rest h =
    let first = starts_with line rest (result_word ret) ps (skip_blank line rest (token (result_word ret) ∷ ps) h) in subst (λ ts. Stops false ts) (sym first.1) (word_stops ret first.0)

-- what stands behind the attributes
behind_attributes : (line : List ℕ) (k : Keyword) (tokens : List Token) (n : ℕ) (attrs : List ℕ) (ret : Option Ty) (name : List ℕ) (ps : List Part) → IsWholeFront line (drop 1 tokens) n →
    Spells line tokens (opening_parts k attrs ret name ps) → Spells line (drop n (drop 1 tokens)) (signature_parts ret name ps)
behind_attributes line k tokens n attrs ret name ps whole h =
    let inner = behind_token line tokens (spelling k) (apart attributes attrs ∷ blank ∷ signature_parts ret name ps) h in
    let run_is = whole inner.0 inner.1 inner.2 inner.3.0 (result_first line ret (blank ∷ global_part name ∷ word_part word.Open ∷ ps) inner.1 inner.4) in
    let behind = behind_run line (drop 1 tokens) inner.0 inner.1 n (blank ∷ signature_parts ret name ps) inner.2 run_is inner.4 in
    skip_blank line (drop n (drop 1 tokens)) (signature_parts ret name ps) behind

four_taken : (tokens : List Token) (n : ℕ) → drop (n + 4) tokens ≡ drop 3 (drop n (drop 1 tokens))
four_taken tokens n =
    let sum : n + 4 ≡ 1 + (n + 3) = omega arith in
    ap (λ j. drop j tokens) sum ∙ sym (drop-drop (n + 3) 1 tokens) ∙ sym (drop-drop 3 n (drop 1 tokens))

pub front_found : (k : Keyword) (line : List ℕ) (tokens : List Token) (n : ℕ) (text : List ℕ) (own : Signature) (ts : List (List ℕ)) → texts line tokens ≡ spelling k ∷ ts → 0 < length tokens →
    n ≤ length (drop 1 tokens) → AreMany IsAttribute (texts line (take n (drop 1 tokens))) → IsWholeFront line (drop 1 tokens) n → text ≡ kept_text line (take n (drop 1 tokens)) →
    IsSignature line (drop n (drop 1 tokens)) own → IsFront k line tokens (record { attrs = text; signature = own; taken = n + 4 })
front_found k line tokens n text own ts e some few many whole kept is = record {
  word = is.word;
  within = let one = length-drop 1 tokens in let two = length-drop n (drop 1 tokens) in let three = is.within in omega (arith, one, two, three, some);
  on = λ ps h.
      put_first line tokens (spelling k) ts (apart attributes text ∷ blank ∷ signature_parts own.ret own.name ps) e
      (put_apart line (drop 1 tokens) n attributes text (blank ∷ signature_parts own.ret own.name ps) (many, kept)
      (put_blank line (drop n (drop 1 tokens)) (signature_parts own.ret own.name ps)
      (is.on ps (along line ps (drop 3 (drop n (drop 1 tokens))) (drop (n + 4) tokens) (sym (four_taken tokens n)) h))));
  back = λ attrs ret name ps h.
      along line ps (drop (n + 4) tokens) (drop 3 (drop n (drop 1 tokens))) (four_taken tokens n) (is.back ret name ps (behind_attributes line k tokens n attrs ret name ps whole h));
}

pub no_front_word : (k : Keyword) (line : List ℕ) (tokens : List Token) → ((ts : List (List ℕ)) × (texts line tokens ≡ spelling k ∷ ts) → ⊥) → NoFront k line tokens
no_front_word k line tokens none = λ attrs ret name ps h. none (starts_with line tokens (spelling k) (apart attributes attrs ∷ blank ∷ signature_parts ret name ps) h)

pub no_front_signature : (k : Keyword) (line : List ℕ) (tokens : List Token) (n : ℕ) → IsWholeFront line (drop 1 tokens) n → NoSignature line (drop n (drop 1 tokens)) → NoFront k line tokens
no_front_signature k line tokens n whole none = λ attrs ret name ps h. none ret name ps (behind_attributes line k tokens n attrs ret name ps whole h)

-- the parts of a function's line, one behind another
head_whole : (k : Keyword) (h : Head) (ps : List Part) → head_parts k h ++ ps ≡ opening_parts k h.attrs h.ret h.name (list_parts h.params h.variadic (apart post h.post ∷ ps))
head_whole k h ps =
    ap (λ qs. opening_parts k h.attrs h.ret h.name qs)
    (append_assoc (listed (map param_parts h.params ++ dots_parts h.variadic)) (word_part word.Close ∷ apart post h.post ∷ []) ps)

-- a front of attributes behind arguments that is as long as any other that ends there
abbrev pub IsWholePost : List ℕ → List Token → ℕ → Type 0
IsWholePost line tokens n =
    (run rest : List Token) → tokens ≡ run ++ rest → AreMany IsPostItem (texts line run) → Stops true (texts line rest) → n ≡ length run

behind_all : (tokens : List Token) (a b n : ℕ) → drop (a + b + n) tokens ≡ drop n (drop b (drop a tokens))
behind_all tokens a b n =
    sym (drop-drop n (a + b) tokens) ∙ ap (λ ts. drop n ts) (sym (drop-drop b a tokens))

pub head_found : (k : Keyword) (line : List ℕ) (tokens : List Token) (front : Front) (list : FoundParams) (n : ℕ) (text : List ℕ) → IsFront k line tokens front →
    AreParams line (drop front.taken tokens) list → n ≤ length (drop list.taken (drop front.taken tokens)) →
    AreMany IsPostItem (texts line (take n (drop list.taken (drop front.taken tokens)))) → IsWholePost line (drop list.taken (drop front.taken tokens)) n →
    text ≡ kept_text line (take n (drop list.taken (drop front.taken tokens))) →
    IsHead k line tokens (record {
      head = record { attrs = front.attrs; ret = front.signature.ret; name = front.signature.name; params = list.params; variadic = list.variadic; post = text };
      taken = front.taken + list.taken + n;
    })
head_found k line tokens front list n text is are few many whole kept = record {
  fits = (is.word, are.fits);
  within =
      let one = length-drop front.taken tokens in
      let two = length-drop list.taken (drop front.taken tokens) in
      let first = is.within in
      let second = are.within in
      omega (arith, one, two, few, first, second);
  on = λ ps h.
      subst (λ qs. Spells line tokens qs) (sym (head_whole k own ps))
      (is.on (list_parts list.params list.variadic (apart post text ∷ ps)) (are.on (apart post text ∷ ps)
      (put_apart line (drop list.taken (drop front.taken tokens)) n post text ps (many, kept)
      (along line ps (drop n (drop list.taken (drop front.taken tokens))) (drop (front.taken + list.taken + n) tokens) (sym (behind_all tokens front.taken list.taken n)) h))));
  back = λ h ps fits stops spelled.
      let opened = is.back h.attrs h.ret h.name (list_parts h.params h.variadic (apart post h.post ∷ ps)) (subst (λ qs. Spells line tokens qs) (head_whole k h ps) spelled) in
      let inner = are.back h.params h.variadic (apart post h.post ∷ ps) fits.1 opened in
      let run_is = whole inner.0 inner.1 inner.2 inner.3.0 (stops inner.1 inner.4) in
      along line ps (drop (front.taken + list.taken + n) tokens) (drop n (drop list.taken (drop front.taken tokens))) (behind_all tokens front.taken list.taken n)
      (behind_run line (drop list.taken (drop front.taken tokens)) inner.0 inner.1 n ps inner.2 run_is inner.4);
}
  where
    own : Head
    own = record { attrs = front.attrs; ret = front.signature.ret; name = front.signature.name; params = list.params; variadic = list.variadic; post = text }

pub no_head_front : (k : Keyword) (line : List ℕ) (tokens : List Token) → NoFront k line tokens → NoHead k line tokens
no_head_front k line tokens none = λ h ps fits stops spelled.
    none h.attrs h.ret h.name (list_parts h.params h.variadic (apart post h.post ∷ ps)) (subst (λ qs. Spells line tokens qs) (head_whole k h ps) spelled)

pub no_head_params : (k : Keyword) (line : List ℕ) (tokens : List Token) (front : Front) → IsFront k line tokens front → NoParams line (drop front.taken tokens) → NoHead k line tokens
no_head_params k line tokens front is none = λ h ps fits stops spelled.
    none h.params h.variadic (apart post h.post ∷ ps) fits.1
    (is.back h.attrs h.ret h.name (list_parts h.params h.variadic (apart post h.post ∷ ps)) (subst (λ qs. Spells line tokens qs) (head_whole k h ps) spelled))

-- what stands behind the attributes of a function's line
none_stops : (line : List ℕ) → StopsAll true line []
none_stops line [] h = tt
none_stops line (t ∷ ts) h = absurd (cc)

open_stops : (line : List ℕ) → StopsAll true line brace_parts
open_stops line rest h =
    let first = starts_with line rest (spelling word.OpenBrace) [] (skip_blank line rest (word_part word.OpenBrace ∷ []) h) in
    subst (λ ts. Stops true ts) (sym first.1) (brace_stops true first.0)

unended : (line : List ℕ) (tokens : List Token) (k : Keyword) (h : Head) → Spells line tokens (head_parts k h) → Spells line tokens (head_parts k h ++ [])
unended line tokens k h s = subst (λ ps. Spells line tokens ps) (sym (append-nil (head_parts k h))) s

-- the line of a declared function
pub declare_found : (line : List ℕ) (tokens : List Token) (found : FoundHead) → IsHead word.Declare line tokens found → drop found.taken tokens ≡ [] →
    Finds shape.Declare line tokens (Some (Whole (said.Declare found.head)))
declare_found line tokens found is end = (
  said.Declare found.head,
  record {
    scale = no_scale;
    spelled = subst (λ ps. Spells line tokens ps) (append-nil (head_parts word.Declare found.head)) (is.on [] end);
    fits = is.fits;
  },
  (refl, tt),
)

pub no_declare : (line : List ℕ) (tokens : List Token) → ((h : Head) → FitsHead h → Spells line tokens (head_parts word.Declare h ++ []) → ⊥) → Finds shape.Declare line tokens None
no_declare line tokens none = λ w s e. by_line w s e
  where
    by_line : (w : Line) → SpellLine line tokens w → shape_of w ≡ shape.Declare → ⊥
    by_line (said.Declare h) s e = none h s.fits (unended line tokens word.Declare h s.spelled)
    by_line w s e = cc

pub no_declare_head : (line : List ℕ) (tokens : List Token) → NoHead word.Declare line tokens → Finds shape.Declare line tokens None
no_declare_head line tokens none = no_declare line tokens (λ h fits s. none h [] fits (none_stops line) s)

pub no_declare_end : (line : List ℕ) (tokens : List Token) (found : FoundHead) → IsHead word.Declare line tokens found → (drop found.taken tokens ≡ [] → ⊥) → Finds shape.Declare line tokens None
no_declare_end line tokens found is none = no_declare line tokens (λ h fits s. none (is.back h [] fits (none_stops line) s))

-- the line of a defined function
pub define_found : (line : List ℕ) (tokens : List Token) (found : FoundHead) (ts : List (List ℕ)) → IsHead word.Define line tokens found →
    texts line (drop found.taken tokens) ≡ spelling word.OpenBrace ∷ ts → drop 1 (drop found.taken tokens) ≡ [] → IsResult found.head.ret × (found.head.variadic ≡ false) →
    Finds shape.Define line tokens (Some (Whole (said.Define found.head)))
define_found line tokens found ts is e end may = (
  said.Define found.head,
  record {
    scale = no_scale;
    spelled = is.on brace_parts
        (put_blank line (drop found.taken tokens) (word_part word.OpenBrace ∷ []) (put_first line (drop found.taken tokens) (spelling word.OpenBrace) ts [] e end));
    fits = (is.fits, may.0, may.1);
  },
  (refl, tt),
)

pub record IsDefine (line : List ℕ) (tokens : List Token) : Type 0 where
  pub head : Head
  pub fits : FitsHead head
  pub may : IsResult head.ret × (head.variadic ≡ false)
  pub spelled : Spells line tokens (head_parts word.Define head ++ brace_parts)

pub no_define : (line : List ℕ) (tokens : List Token) → (IsDefine line tokens → ⊥) → Finds shape.Define line tokens None
no_define line tokens none = λ w s e. by_line w s e
  where
    by_line : (w : Line) → SpellLine line tokens w → shape_of w ≡ shape.Define → ⊥
    by_line (said.Define h) s e = none (record { head = h; fits = s.fits.0; may = (s.fits.1, s.fits.2); spelled = s.spelled })
    by_line w s e = cc

pub no_define_head : (line : List ℕ) (tokens : List Token) → NoHead word.Define line tokens → Finds shape.Define line tokens None
no_define_head line tokens none = no_define line tokens (λ d. none d.head brace_parts d.fits (open_stops line) d.spelled)

-- what stands behind the line's attributes
brace_behind : (line : List ℕ) (tokens : List Token) (found : FoundHead) → IsHead word.Define line tokens found → IsDefine line tokens → Spells line (drop found.taken tokens) (word_part word.OpenBrace ∷ [])
brace_behind line tokens found is d = skip_blank line (drop found.taken tokens) (word_part word.OpenBrace ∷ []) (is.back d.head brace_parts d.fits (open_stops line) d.spelled)

pub no_define_brace : (line : List ℕ) (tokens : List Token) (found : FoundHead) → IsHead word.Define line tokens found →
    ((ts : List (List ℕ)) × (texts line (drop found.taken tokens) ≡ spelling word.OpenBrace ∷ ts) → ⊥) → Finds shape.Define line tokens None
no_define_brace line tokens found is none =
    no_define line tokens (λ d. none (starts_with line (drop found.taken tokens) (spelling word.OpenBrace) [] (brace_behind line tokens found is d)))

pub no_define_end : (line : List ℕ) (tokens : List Token) (found : FoundHead) → IsHead word.Define line tokens found → (drop 1 (drop found.taken tokens) ≡ [] → ⊥) → Finds shape.Define line tokens None
no_define_end line tokens found is none =
    no_define line tokens (λ d. none (behind_token line (drop found.taken tokens) (spelling word.OpenBrace) [] (brace_behind line tokens found is d)))

-- the head that was found is the one that is written
pub no_define_may : (line : List ℕ) (tokens : List Token) (found : FoundHead) (ts : List (List ℕ)) → IsHead word.Define line tokens found →
    texts line (drop found.taken tokens) ≡ spelling word.OpenBrace ∷ ts → drop 1 (drop found.taken tokens) ≡ [] → (IsResult found.head.ret × (found.head.variadic ≡ false) → ⊥) →
    Finds shape.Define line tokens None
no_define_may line tokens found ts is e end none = no_define line tokens by_define
  where
    spelled : Spells line tokens (head_parts word.Define found.head ++ brace_parts)
    spelled = is.on brace_parts
        (put_blank line (drop found.taken tokens) (word_part word.OpenBrace ∷ []) (put_first line (drop found.taken tokens) (spelling word.OpenBrace) ts [] e end))

    by_define : IsDefine line tokens → ⊥
    by_define d =
        let one = (head_same line word.Define d.head found.head brace_parts brace_parts d.fits is.fits (open_stops line) (open_stops line)
        (record { tokens = tokens; one = d.spelled; other = spelled })).same in
        none (subst (λ h. IsResult h.ret × (h.variadic ≡ false)) one d.may)

-- what is known of the tokens behind the first word
pub record FrontFacts (line : List ℕ) (n : ℕ) (text : List ℕ) (own : Signature) (rest : List Token) : Type 0 where
  pub few : n ≤ length rest
  pub many : AreMany IsAttribute (texts line (take n rest))
  pub whole : IsWholeFront line rest n
  pub kept : text ≡ kept_text line (take n rest)
  pub is : IsSignature line (drop n rest) own

pub front_told : (k : Keyword) (line : List ℕ) (tokens rest : List Token) (n : ℕ) (text : List ℕ) (own : Signature) (ts : List (List ℕ)) → texts line tokens ≡ spelling k ∷ ts → 0 < length tokens →
    rest ≡ drop 1 tokens → FrontFacts line n text own rest → IsFront k line tokens (record { attrs = text; signature = own; taken = n + 4 })
front_told k line tokens rest n text own ts e some rest_is facts =
    let f = subst (λ r. FrontFacts line n text own r) rest_is facts in front_found k line tokens n text own ts e some f.few f.many f.whole f.kept f.is

-- what is known of the tokens behind the parameters
pub record PostFacts (line : List ℕ) (n : ℕ) (text : List ℕ) (rest : List Token) : Type 0 where
  pub few : n ≤ length rest
  pub many : AreMany IsPostItem (texts line (take n rest))
  pub whole : IsWholePost line rest n
  pub kept : text ≡ kept_text line (take n rest)

pub head_told : (k : Keyword) (line : List ℕ) (tokens inner rest : List Token) (front : Front) (list : FoundParams) (n : ℕ) (text : List ℕ) → IsFront k line tokens front →
    inner ≡ drop front.taken tokens → rest ≡ drop list.taken inner → AreParams line inner list → PostFacts line n text rest →
    IsHead k line tokens (record {
      head = record { attrs = front.attrs; ret = front.signature.ret; name = front.signature.name; params = list.params; variadic = list.variadic; post = text };
      taken = front.taken + list.taken + n;
    })
head_told k line tokens inner rest front list n text is inner_is rest_is are facts =
    let f = subst (λ r. PostFacts line n text r) (rest_is ∙ ap (λ ts. drop list.taken ts) inner_is) facts in
    head_found k line tokens front list n text is (subst (λ r. AreParams line r list) inner_is are) f.few f.many f.whole f.kept
