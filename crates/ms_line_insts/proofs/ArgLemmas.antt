-- Arguments and what follows them.
use Rattle.std.proofs.Common.{◌≡◌, ℕ, true, List, [], ◌∷◌, ◌++◌, map, length, refl, sym, ap, subst, ◌∙◌, inl, inr, arith, append_assoc, ◌<◌, Result, Ok, Err, Bor}
use Rattle.std.proofs.Math.ListN.{length-append}
use Rattle.std.specs.Prelude.{All, IfOk, MatchOption, Option, Some, None, ◌≤◌}
use Rattle.ms_lex.specs.Line.{IsTokenOf}
use Rattle.ms_lex.specs.declared.token.Token.{Token}
use Rattle.ms_ir.specs.declared.names.Ty.{Ty}
use Rattle.ms_ir.specs.declared.names.Ty.TheVariants.{Ptr}
use Rattle.ms_grammar.specs.Words.{spelling, type_word}
use Rattle.ms_grammar.specs.Numbers.{IsCount}
use Rattle.ms_grammar.specs.Kept.{Each, AreMany, IsTailItem}
use Rattle.ms_grammar.specs.Scan.{Stops, IsMember, IsListMark}
use Rattle.ms_grammar.specs.Parts.{Part, blank, token, count, kept, apart, attributes, tail, SpellsPart, Spells, texts, bytes_at, kept_text}
use Rattle.ms_grammar.specs.Form.{word_part, type_part, value_part, arg_parts, further, listed, end_parts}
use Rattle.ms_grammar.specs.Fits.{IsValue, IsArg}
use Rattle.ms_grammar.specs.declared.line.RawVal.{RawVal}
use Rattle.ms_grammar.specs.declared.line.RawArg.{RawArg}
use Rattle.ms_grammar.specs.declared.keyword.Keyword.TheVariants as word
use Rattle.ms_grammar.proofs.Tails.{tail_first}
use Rattle.ms_grammar.proofs.Walks.{comma_stops}
use Rattle.ms_grammar.proofs.Objects.{type_no_close}
use Rattle.ms_grammar.proofs.Args.{value_head, comma_no_close}
use Rattle.ms_grammar.proofs.Both.{starts_with}
use Rattle.ms_grammar.proofs.Insts.{rest_tail}
use Rattle.ms_line_insts.specs.Front.{Spelt, NoLead, Leads, NoFront, Front, Behind, Always, NoFrontIf, FrontIf}
use Rattle.ms_line_insts.specs.ListFronts.{NoList, ListFront, behind_comma}
use Rattle.ms_line_insts.specs.Cuts.{NoCut, Cut, HasAttributes, HasPost, StopsPost, StartsMember}
use Rattle.ms_line_insts.specs.CallFronts.{StartsMark, BeginsMark, IsPointerArg, EndsClosed, closed_args}
use Rattle.ms_line_insts.proofs.Fronts.{alone, blank_on, blank_off, value_single, single_back, front_single, none_single, front_after, none_after, IsSingle}
use Rattle.ms_line_insts.proofs.CutLemmas.{of_behind}
use Rattle.ms_line_insts.proofs.Lists.{of_parts, themselves, spelt_themselves}

first_is : (line : List ℕ) (t : Token) (r : List Token) (s : List ℕ) (ts : List (List ℕ)) → texts line (t ∷ r) ≡ s ∷ ts → bytes_at line t ≡ s
first_is line t r s ts e = cc

-- a value and a mark behind it
member_starts : (line : List ℕ) (rest : List Token) (v : RawVal) (ps : List Part) → BeginsMark line ps → Spelt line rest (value_part v ∷ ps) → StartsMember line rest
member_starts line [] v ps marks h =
    let head = value_head line [] v ps h.spells in absurd (let e = head.whole in cc)
member_starts line (t ∷ r) v ps marks h =
    let head = value_head line (t ∷ r) v ps h.spells in
    let b = single_back line (t ∷ r) t r (value_part v) ps refl (value_single v) h in
    let mark = marks r b.further in
    record {
      value = t;
      mark = mark.mark;
      more = mark.more;
      whole = ap (λ l. t ∷ l) mark.whole;
      is_member = subst (λ s. IsMember s) (sym (first_is line t r head.text (texts line head.left) head.whole)) head.member;
      is_mark = mark.is_mark;
    }

-- the attributes of an argument, and its value
pub record ArgMid (line : List ℕ) (us vs : List Token) (text : List ℕ) (v : RawVal) (ps : List Part) : Type 0 where
  pub same : text ≡ kept_text line us
  pub further : Spelt line vs (value_part v ∷ ps)

pub arg_mid : (line : List ℕ) (tokens us vs : List Token) (text : List ℕ) (v : RawVal) (ps : List Part) → Cut (HasAttributes line) (StartsMember line) line tokens us vs → BeginsMark line ps →
    Spelt line tokens (apart attributes text ∷ blank ∷ value_part v ∷ ps) → ArgMid line us vs text v ps
arg_mid line tokens us vs text v ps a marks h =
    let s = h.spells in
    let left = blank_off line s.1 (value_part v ∷ ps) (record { spells = s.4 }) in
    let same = a.one s.0 s.1 s.2 s.3.0 (member_starts line s.1 v ps marks left) in
    record { same = s.3.1 ∙ ap (λ r. kept_text line r) same.front; further = of_behind line s.1 vs (value_part v ∷ ps) same.behind left }

pub arg_no : (line : List ℕ) (tokens : List Token) (text : List ℕ) (v : RawVal) (ps : List Part) → NoCut (HasAttributes line) (StartsMember line) tokens → BeginsMark line ps →
    Spelt line tokens (apart attributes text ∷ blank ∷ value_part v ∷ ps) → ⊥
arg_no line tokens text v ps none marks h =
    let s = h.spells in
    none s.0 s.1 s.2 s.3.0 (member_starts line s.1 v ps marks (blank_off line s.1 (value_part v ∷ ps) (record { spells = s.4 })))

arg_shorter : (us vs tokens : List Token) → tokens ≡ us ++ vs → (n : ℕ) → n < length vs → n < length tokens
arg_shorter us vs tokens e n h = let l : length tokens ≡ length (us ++ vs) = ap length e in omega (arith, length-append us vs)

pub arg_found : (line : List ℕ) (tokens mid us vs rest : List Token) (ty : Ty) (v : RawVal) → Front Always (λ x. type_part x ∷ []) line tokens ty mid →
    Cut (HasAttributes line) (StartsMember line) line mid us vs → Front (IsValue ty) (λ x. value_part x ∷ []) line vs v rest →
    (text : List ℕ) → text ≡ kept_text line us → FrontIf (BeginsMark line) IsArg arg_parts line tokens (record { ty = ty; val = v; text = text }) rest
arg_found line tokens mid us vs rest ty v a b d text is = record {
  fits = d.fits;
  owned = d.owned;
  shorter = let one = a.shorter in let two = arg_shorter us vs mid b.whole (length rest) d.shorter in omega arith;
  on = λ ps h. a.on (apart attributes text ∷ blank ∷ value_part v ∷ ps)
      (record { spells = (us, vs, b.whole, (b.passes, is), (blank_on line vs (value_part v ∷ ps) (d.on ps h)).spells) });
  back = λ y ps marks g h.
      let types = a.back y.ty (apart attributes y.text ∷ blank ∷ value_part y.val ∷ ps) tt h in
      let m = arg_mid line mid us vs y.text y.val ps b marks types.further in
      let vals = d.back y.val ps (subst (λ t. IsValue t y.val) types.same g) m.further in
      record {
        same = ap (λ t. record { ty = t; val = y.val; text = y.text }) types.same ∙ ap (λ w. record { ty = ty; val = w; text = y.text }) vals.same
            ∙ ap (λ s. record { ty = ty; val = v; text = s }) (m.same ∙ sym is);
        further = vals.further;
      };
}

pub arg_none : (line : List ℕ) (tokens mid us vs : List Token) (ty : Ty) → Front Always (λ x. type_part x ∷ []) line tokens ty mid →
    Cut (HasAttributes line) (StartsMember line) line mid us vs → NoFront (IsValue ty) (λ x. value_part x ∷ []) line vs → NoFrontIf (BeginsMark line) IsArg arg_parts line tokens
arg_none line tokens mid us vs ty a b none y ps marks g h =
    let types = a.back y.ty (apart attributes y.text ∷ blank ∷ value_part y.val ∷ ps) tt h in
    let m = arg_mid line mid us vs y.text y.val ps b marks types.further in
    none y.val ps (subst (λ t. IsValue t y.val) types.same g) m.further

pub pointer_found : (line : List ℕ) (tokens : List Token) (x : RawArg) (rest : List Token) → FrontIf (BeginsMark line) IsArg arg_parts line tokens x rest → x.ty ≡ Ptr →
    FrontIf (BeginsMark line) IsPointerArg arg_parts line tokens x rest
pointer_found line tokens x rest a e =
    record { fits = (e, a.fits); owned = a.owned; shorter = a.shorter; on = a.on; back = λ y ps marks g h. a.back y ps marks g.1 h }

pub pointer_none : (line : List ℕ) (tokens : List Token) (x : RawArg) (rest : List Token) → FrontIf (BeginsMark line) IsArg arg_parts line tokens x rest → (x.ty ≡ Ptr → ⊥) →
    NoFrontIf (BeginsMark line) IsPointerArg arg_parts line tokens
pointer_none line tokens x rest a other y ps marks g h = other (sym (ap (λ (z : RawArg). z.ty) (a.back y ps marks g.1 h).same) ∙ g.0)

-- the same behind a comma
pub comma_found : {X : Type 0} (Next : List Part → Type 0) (Fits : X → Type 0) (parts : X → List Part) (line : List ℕ) (tokens mid : List Token) (x : X) (rest : List Token) →
    Leads (word_part word.Comma ∷ blank ∷ []) line tokens mid → FrontIf Next Fits parts line mid x rest → FrontIf Next Fits (behind_comma parts) line tokens x rest
comma_found Next Fits parts line tokens mid x rest a b = record {
  fits = b.fits;
  owned = b.owned;
  shorter = let one = a.shorter in let two = b.shorter in omega arith;
  on = λ ps h. a.on (parts x ++ ps) (b.on ps h);
  back = λ y ps next g h. b.back y ps next g (a.back (parts y ++ ps) h);
}

pub comma_none : {X : Type 0} (Next : List Part → Type 0) (Fits : X → Type 0) (parts : X → List Part) (line : List ℕ) (tokens mid : List Token) →
    Leads (word_part word.Comma ∷ blank ∷ []) line tokens mid → NoFrontIf Next Fits parts line mid → NoFrontIf Next Fits (behind_comma parts) line tokens
comma_none Next Fits parts line tokens mid a none y ps next g h = none y ps next g (a.back (parts y ++ ps) h)

-- parts that begin with a mark
word_starts : (line : List ℕ) (rest : List Token) (s : List ℕ) (ps : List Part) → IsListMark s → Spelt line rest (token s ∷ ps) → StartsMark line rest
word_starts line [] s ps is h = let first = starts_with line [] s ps h.spells in absurd (let e = first.1 in cc)
word_starts line (t ∷ r) s ps is h =
    let first = starts_with line (t ∷ r) s ps h.spells in
    record { mark = t; more = r; whole = refl; is_mark = subst (λ b. IsListMark b) (sym (first_is line t r s first.0 first.1)) is }

pub comma_marks : (line : List ℕ) (ps : List Part) → BeginsMark line (word_part word.Comma ∷ ps)
comma_marks line ps rest h = word_starts line rest (spelling word.Comma) ps (inl refl) h

pub close_marks : (line : List ℕ) (ps : List Part) → BeginsMark line (word_part word.Close ∷ ps)
close_marks line ps rest h = word_starts line rest (spelling word.Close) ps (inr refl) h

pub args_next : (line : List ℕ) (ys : List RawArg) (ps : List Part) → EndsClosed ps → BeginsMark line (further (map arg_parts ys) ++ ps)
args_next line [] ps ends = subst (λ l. BeginsMark line l) (sym ends.1) (close_marks line ends.0)
args_next line (y ∷ ys) ps ends = comma_marks line (blank ∷ (arg_parts y ++ further (map arg_parts ys)) ++ ps)

heads : (a b : List ℕ) (s t : List (List ℕ)) → a ∷ s ≡ b ∷ t → a ≡ b
heads a b s t e = cc

two_words : (line : List ℕ) (tokens : List Token) (s t : List ℕ) (ps qs : List Part) → Spelt line tokens (token s ∷ ps) → Spelt line tokens (token t ∷ qs) → s ≡ t
two_words line tokens s t ps qs a b =
    let one = starts_with line tokens s ps a.spells in
    let other = starts_with line tokens t qs b.spells in
    heads s t one.0 other.0 (sym one.1 ∙ other.1)

-- a closing parenthesis is no further argument
pub arg_no_end : (line : List ℕ) (tokens : List Token) (x : RawArg) (rest : List Token) → FrontIf (BeginsMark line) IsArg (behind_comma arg_parts) line tokens x rest →
    (ps : List Part) → EndsClosed ps → Spelt line tokens ps → ⊥
arg_no_end line tokens x rest a ps ends h =
    let close = of_parts line tokens ps (word_part word.Close ∷ ends.0) ends.1 h in
    let whole = a.on (themselves line rest) (spelt_themselves line rest) in
    comma_no_close (two_words line tokens (spelling word.Comma) (spelling word.Close) (blank ∷ arg_parts x ++ themselves line rest) ends.0 whole close)

-- no arguments, or some
pub no_args : (line : List ℕ) (tokens rest : List Token) → Leads (word_part word.Close ∷ []) line tokens rest → Front (Each IsArg) closed_args line tokens [] rest
no_args line tokens rest a = record { fits = tt; owned = a.owned; shorter = a.shorter; on = a.on; back = back }
  where
    back : (ys : List RawArg) (ps : List Part) → Each IsArg ys → Spelt line tokens (closed_args ys ++ ps) → Behind ys [] line rest ps
    back [] ps g h = record { same = refl; further = a.back ps h }
    back (y ∷ ys) ps g h =
        let close = a.on (themselves line rest) (spelt_themselves line rest) in
        absurd (type_no_close y.ty (two_words line tokens (spelling word.Close) (type_word y.ty) (themselves line rest) _ close h))

pub some_args_found : (line : List ℕ) (tokens mid : List Token) (xs : List RawArg) (rest : List Token) → NoLead (word_part word.Close ∷ []) line tokens →
    ListFront EndsClosed IsArg arg_parts line tokens xs mid → Leads (word_part word.Close ∷ []) line mid rest → Front (Each IsArg) closed_args line tokens xs rest
some_args_found line tokens mid xs rest none a b = record {
  fits = a.fits;
  owned = b.owned;
  shorter = let one = a.shorter in let two = b.shorter in omega arith;
  on = λ ps h. of_parts line tokens (listed (map arg_parts xs) ++ (word_part word.Close ∷ ps)) (closed_args xs ++ ps) (sym (append_assoc (listed (map arg_parts xs)) (word_part word.Close ∷ []) ps))
      (a.on (word_part word.Close ∷ ps) (b.on ps h));
  back = back;
}
  where
    back : (ys : List RawArg) (ps : List Part) → Each IsArg ys → Spelt line tokens (closed_args ys ++ ps) → Behind ys xs line rest ps
    back [] ps g h = absurd (none ps h)
    back (y ∷ ys) ps g h =
        let one = a.back (y ∷ ys) (word_part word.Close ∷ ps) (λ e. cc) (ps, refl) g
        (of_parts line tokens (closed_args (y ∷ ys) ++ ps) (listed (map arg_parts (y ∷ ys)) ++ (word_part word.Close ∷ ps)) (append_assoc (listed (map arg_parts (y ∷ ys))) (word_part word.Close ∷ []) ps) h) in
        record { same = one.same; further = b.back ps one.further }

pub some_args_none : (line : List ℕ) (tokens : List Token) → NoLead (word_part word.Close ∷ []) line tokens → NoList EndsClosed IsArg arg_parts line tokens → NoFront (Each IsArg) closed_args line tokens
some_args_none line tokens none list [] ps g h = none ps h
some_args_none line tokens none list (y ∷ ys) ps g h =
    list (y ∷ ys) (word_part word.Close ∷ ps) (λ e. cc) (ps, refl) g
    (of_parts line tokens (closed_args (y ∷ ys) ++ ps) (listed (map arg_parts (y ∷ ys)) ++ (word_part word.Close ∷ ps)) (append_assoc (listed (map arg_parts (y ∷ ys))) (word_part word.Close ∷ []) ps) h)

pub open_args_none : (line : List ℕ) (tokens mid : List Token) (xs : List RawArg) → NoLead (word_part word.Close ∷ []) line tokens → ListFront EndsClosed IsArg arg_parts line tokens xs mid →
    NoLead (word_part word.Close ∷ []) line mid → NoFront (Each IsArg) closed_args line tokens
open_args_none line tokens mid xs none a unclosed [] ps g h = none ps h
open_args_none line tokens mid xs none a unclosed (y ∷ ys) ps g h =
    let one = a.back (y ∷ ys) (word_part word.Close ∷ ps) (λ e. cc) (ps, refl) g
    (of_parts line tokens (closed_args (y ∷ ys) ++ ps) (listed (map arg_parts (y ∷ ys)) ++ (word_part word.Close ∷ ps)) (append_assoc (listed (map arg_parts (y ∷ ys))) (word_part word.Close ∷ []) ps) h) in
    unclosed ps one.further

-- numbers of 0 or more
count_single : (n : ℕ) → IsSingle (count n)
count_single n = record { one = λ line run h. alone line run h.0 h.1 }

one_text : (s t : List ℕ) → s ∷ [] ≡ t ∷ [] → s ≡ t
one_text s t e = cc

counted : (line : List ℕ) (t : Token) (n : ℕ) → SpellsPart line (t ∷ []) (count n) → IsCount n (bytes_at line t)
counted line t n s = subst (λ b. IsCount n b) (sym (one_text (bytes_at line t) s.0 s.1)) s.2

pub count_found : (line : List ℕ) (tokens : List Token) (t : Token) (rest : List Token) (n : ℕ) → tokens ≡ t ∷ rest → All (IsTokenOf line) rest → IsCount n (bytes_at line t) →
    Front Always (λ m. count m ∷ []) line tokens n rest
count_found line tokens t rest n e owned is =
    front_single Always count line tokens t rest n e owned count_single tt (bytes_at line t, refl, is) (λ y g s. (counted line t y s).value ∙ sym is.value)

pub count_none : (line : List ℕ) (tokens : List Token) (t : Token) (rest : List Token) → tokens ≡ t ∷ rest → ((n : ℕ) → IsCount n (bytes_at line t) → ⊥) →
    NoFront Always (λ m. count m ∷ []) line tokens
count_none line tokens t rest e none = none_single Always count line tokens t rest e count_single (λ y g s. none y (counted line t y s))

-- what stands behind arguments
tail_stops_post : (line : List ℕ) (u : List ℕ) (rest : List Token) → Spells line rest (kept tail u ∷ []) → Stops true (texts line rest)
tail_stops_post line u rest h = by_first (texts line rest) (rest_tail line rest u h)
  where
    by_first : (ts : List (List ℕ)) → AreMany IsTailItem ts → Stops true ts
    by_first [] many = tt
    by_first (t ∷ ts) many = subst (λ s. Stops true (s ∷ ts)) (sym (tail_first (t ∷ ts) t ts many refl)) (comma_stops true ts)

pub end_none : (line : List ℕ) (tokens us vs : List Token) → Cut (HasPost line) (StopsPost line) line tokens us vs → ((rest : List ℕ) → Spelt line vs (kept tail rest ∷ []) → ⊥) →
    (behind rest : List ℕ) → Spelt line tokens (end_parts behind rest) → ⊥
end_none line tokens us vs a none behind rest h =
    let s = h.spells in
    let same = a.one s.0 s.1 s.2 s.3.0 (tail_stops_post line rest s.1 s.4) in
    none rest (of_behind line s.1 vs (kept tail rest ∷ []) same.behind (record { spells = s.4 }))

pub end_found : (line : List ℕ) (tokens us vs : List Token) → Cut (HasPost line) (StopsPost line) line tokens us vs → (behind rest : List ℕ) → behind ≡ kept_text line us →
    Spelt line vs (kept tail rest ∷ []) → Spelt line tokens (end_parts behind rest)
end_found line tokens us vs a behind rest is h = record { spells = (us, vs, a.whole, (a.passes, is), h.spells) }

pub count_told : (line : List ℕ) (tokens : List Token) (t : Token) (rest : List Token) → tokens ≡ t ∷ rest → All (IsTokenOf line) rest → (found : Option ℕ) →
    MatchOption found ((n : ℕ) × IsCount n (bytes_at line t) × (4096 < n)) (λ n. IsCount n (bytes_at line t) × (n ≤ 4096)) →
    (n : ℕ) × Front Always (λ m. count m ∷ []) line tokens n rest × MatchOption found (4096 < n) (λ m. (m ≡ n) × (m ≤ 4096))
count_told line tokens t rest e owned None h = (h.0, count_found line tokens t rest h.0 e owned h.1, h.2)
count_told line tokens t rest e owned (Some m) h = (m, count_found line tokens t rest m e owned h.0, (refl, h.1))

-- the same behind a comma, of what a call gave
pub read_comma : {X E : Type 0} (Next : List Part → Type 0) (Fits : X → Type 0) (parts : X → List Part) (line : List ℕ) (tokens mid : List Token) (r : Result (Option (X × Bor (List Token))) E) →
    Leads (word_part word.Comma ∷ blank ∷ []) line tokens mid → IfOk r (λ found. MatchOption found (NoFrontIf Next Fits parts line mid) (λ f. FrontIf Next Fits parts line mid f.0 f.1.now)) →
    IfOk r (λ found. MatchOption found (NoFrontIf Next Fits (behind_comma parts) line tokens) (λ f. FrontIf Next Fits (behind_comma parts) line tokens f.0 f.1.now))
read_comma Next Fits parts line tokens mid (Err e) a h = tt
read_comma Next Fits parts line tokens mid (Ok None) a h = comma_none Next Fits parts line tokens mid a h
read_comma Next Fits parts line tokens mid (Ok (Some f)) a h = comma_found Next Fits parts line tokens mid f.0 f.1.now a h

-- a length behind its type
pub read_length : (front : List Part) (line : List ℕ) (tokens mid : List Token) (r : Option (Option ℕ × Bor (List Token))) → Leads front line tokens mid →
    MatchOption r (NoFront Always (λ n. count n ∷ []) line mid)
    (λ f. (n : ℕ) × Front Always (λ m. count m ∷ []) line mid n f.1.now × MatchOption f.0 (4096 < n) (λ m. (m ≡ n) × (m ≤ 4096))) →
    MatchOption r (NoFront Always (λ n. front ++ count n ∷ []) line tokens)
    (λ f. (n : ℕ) × Front Always (λ m. front ++ count m ∷ []) line tokens n f.1.now × MatchOption f.0 (4096 < n) (λ m. (m ≡ n) × (m ≤ 4096)))
read_length front line tokens mid None a none = none_after Always (λ (n : ℕ). count n ∷ []) front line tokens mid a none
read_length front line tokens mid (Some f) a h = (h.0, front_after Always (λ (n : ℕ). count n ∷ []) front line tokens mid h.0 f.1.now a h.1, h.2)
