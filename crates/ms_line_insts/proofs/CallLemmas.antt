-- What stands before the arguments of a call.
use Rattle.std.proofs.Common.{◌≡◌, ◌≤◌, ℕ, false, List, [], ◌∷◌, ◌++◌, Option, length, refl, sym, ap, subst, ◌∙◌, arith, append_assoc}
use Rattle.std.specs.Prelude.{All}
use Rattle.std.proofs.Math.ListN.{length-append}
use Rattle.ms_lex.specs.Line.{IsTokenOf}
use Rattle.ms_lex.specs.declared.token.Token.{Token}
use Rattle.ms_ir.specs.declared.names.Ty.{Ty}
use Rattle.ms_ir.specs.declared.names.Name.{Name}
use Rattle.ms_grammar.specs.Words.{spelling}
use Rattle.ms_grammar.specs.Kept.{IsCallType}
use Rattle.ms_grammar.specs.Scan.{Stops}
use Rattle.ms_grammar.specs.Parts.{Part, blank, token, kept, call_head, copy_head, texts, bytes_at, kept_text, joined, result_word}
use Rattle.ms_grammar.specs.Form.{word_part, name_text}
use Rattle.ms_grammar.specs.Fits.{IsOwnName, IsWordName, IsResult}
use Rattle.ms_grammar.specs.declared.keyword.Keyword.TheVariants as word
use Rattle.ms_grammar.proofs.Calls.{regroup, word_stops, result_one}
use Rattle.ms_grammar.proofs.Both.{texts_append, starts_with, name_one, behind_first, word_named}
use Rattle.ms_line_insts.specs.Front.{Spelt, Leads, NoFront, Front, Always}
use Rattle.ms_line_insts.specs.Cuts.{Cut, BeginsCall, HasAttributes, StopsAttributes, TypesCallee, NamesCallee}
use Rattle.ms_line_insts.specs.CallFronts.{NamesResult, NoResult, IsCallStart, call_start_parts, copy_start_parts, callee_parts}
use Rattle.ms_line_insts.proofs.Fronts.{blank_on, blank_off, front_single, none_single, token_single, only_text}
use Rattle.ms_line_insts.proofs.CutLemmas.{of_behind}

-- the name of a callee
pub callee_found : (line : List ℕ) (tokens : List Token) (t : Token) (rest : List Token) (n : Name) → tokens ≡ t ∷ rest → All (IsTokenOf line) rest → IsOwnName n →
    bytes_at line t ≡ 64 ∷ name_text n → Front IsOwnName callee_parts line tokens n rest
callee_found line tokens t rest n e owned own is =
    front_single IsOwnName (λ (m : Name). token (64 ∷ name_text m)) line tokens t rest n e owned (λ y. token_single (64 ∷ name_text y)) own (ap (λ s. s ∷ []) is)
    (λ y g s. name_one y n (word_named y g.0) (word_named n own.0) (behind_first 64 64 (name_text y) (name_text n) (sym (only_text (bytes_at line t) (64 ∷ name_text y) s) ∙ is)))

pub callee_none : (line : List ℕ) (tokens : List Token) (t : Token) (rest : List Token) → tokens ≡ t ∷ rest → ((n : Name) → IsOwnName n → bytes_at line t ≡ 64 ∷ name_text n → ⊥) →
    NoFront IsOwnName callee_parts line tokens
callee_none line tokens t rest e none =
    none_single IsOwnName (λ (m : Name). token (64 ∷ name_text m)) line tokens t rest e (λ y. token_single (64 ∷ name_text y)) (λ y g s. none y g (only_text (bytes_at line t) (64 ∷ name_text y) s))

pub callee_other : (line : List ℕ) (t : Token) (n : Name) → IsWordName n → bytes_at line t ≡ 64 ∷ name_text n → (IsOwnName n → ⊥) → (m : Name) → IsOwnName m → bytes_at line t ≡ 64 ∷ name_text m → ⊥
callee_other line t n word is other m own e =
    let same : m ≡ n = name_one m n (word_named m own.0) (word_named n word) (behind_first 64 64 (name_text m) (name_text n) (sym e ∙ is)) in
    other (subst (λ x. IsOwnName x) same own)

result_stops : (line : List ℕ) (ret : Option Ty) (result rest : List Token) → texts line result ≡ result_word ret ∷ [] → Stops false (texts line (result ++ rest))
result_stops line ret result rest is =
    let at : texts line (result ++ rest) ≡ result_word ret ∷ texts line rest = texts_append line result rest ∙ ap (λ ts. ts ++ texts line rest) is in
    subst (λ ts. Stops false ts) (sym at) (word_stops ret (texts line rest))

-- behind the words and attributes of a call
pub record CallMid (line : List ℕ) (mark before at : List Token) (ret : Option Ty) (head : List ℕ) (ps : List Part) : Type 0 where
  pub given : List Token
  pub written : List Token
  pub rest : List Token
  pub whole : at ≡ given ++ (written ++ rest)
  pub given_is : texts line given ≡ result_word ret ∷ []
  pub written_is : IsCallType (texts line written)
  pub text : head ≡ joined (texts line mark ++ kept_text line before ∷ result_word ret ∷ kept_text line written ∷ [])
  pub further : Spelt line rest ps

pub call_mid : (line : List ℕ) (tokens mark behind before at : List Token) (ret : Option Ty) (head : List ℕ) (ps : List Part) → Cut (BeginsCall line) Always line tokens mark behind →
    Cut (HasAttributes line) (StopsAttributes line) line behind before at → Spelt line tokens (kept (call_head ret) head ∷ ps) → CallMid line mark before at ret head ps
call_mid line tokens mark behind before at ret head ps a b h =
    let s = h.spells in
    let x = s.3 in
    let one = a.one x.mark (x.before ++ (x.result ++ (x.written ++ s.1))) (regroup tokens s.0 x.mark x.before x.result x.written s.1 s.2 x.whole) x.marked tt in
    let two = b.one x.before (x.result ++ (x.written ++ s.1)) (sym one.behind) x.attributes (result_stops line ret x.result (x.written ++ s.1) x.result_is) in
    record {
      given = x.result;
      written = x.written;
      rest = s.1;
      whole = sym two.behind;
      given_is = x.result_is;
      written_is = x.written_is;
      text = x.is ∙ ap (λ r. joined (texts line r ++ kept_text line x.before ∷ result_word ret ∷ kept_text line x.written ∷ [])) one.front
          ∙ ap (λ r. joined (texts line mark ++ kept_text line r ∷ result_word ret ∷ kept_text line x.written ∷ [])) two.front;
      further = record { spells = s.4 };
    }

no_result : (line : List ℕ) (at given left : List Token) (ret : Option Ty) → NoResult line at → at ≡ given ++ left → texts line given ≡ result_word ret ∷ [] → ⊥
no_result line at [] left ret none e is = cc
no_result line at (t ∷ []) left ret none e is = none t left ret e (only_text (bytes_at line t) (result_word ret) is)
no_result line at (t ∷ (u ∷ us)) left ret none e is = cc

pub call_no_result : (line : List ℕ) (mark before at : List Token) (ret : Option Ty) (head : List ℕ) (ps : List Part) → NoResult line at → CallMid line mark before at ret head ps → ⊥
call_no_result line mark before at ret head ps none m = no_result line at m.given (m.written ++ m.rest) ret none m.whole m.given_is

pub record ResultAt (ret found : Option Ty) (left rest : List Token) : Type 0 where
  pub same : ret ≡ found
  pub behind : left ≡ rest

result_at : (line : List ℕ) (at given left rest : List Token) (ret found : Option Ty) → NamesResult line at found rest → at ≡ given ++ left → texts line given ≡ result_word ret ∷ [] → ResultAt ret found left rest
result_at line at [] left rest ret found r e is = absurd (cc)
result_at line at (t ∷ []) left rest ret found r e is =
    let cells : t ∷ left ≡ r.word_token ∷ rest = sym e ∙ r.whole in
    let first : t ≡ r.word_token = cc in
    record { same = result_one ret found (sym (only_text (bytes_at line t) (result_word ret) is) ∙ ap (λ u. bytes_at line u) first ∙ r.bytes); behind = cc }
result_at line at (t ∷ (u ∷ us)) left rest ret found r e is = absurd (cc)

pub call_result : (line : List ℕ) (mark before at rest : List Token) (ret found : Option Ty) (head : List ℕ) (ps : List Part) → NamesResult line at found rest →
    (m : CallMid line mark before at ret head ps) → ResultAt ret found (m.written ++ m.rest) rest
call_result line mark before at rest ret found head ps r m = result_at line at m.given (m.written ++ m.rest) rest ret found r m.whole m.given_is

names_callee : (line : List ℕ) (rest : List Token) (n : List ℕ) (ps : List Part) → Spelt line rest (token (64 ∷ n) ∷ ps) → NamesCallee line rest
names_callee line [] n ps h = let first = starts_with line [] (64 ∷ n) ps h.spells in absurd (let e = first.1 in cc)
names_callee line (t ∷ r) n ps h =
    let first = starts_with line (t ∷ r) (64 ∷ n) ps h.spells in
    record { callee = t; more = r; name = n; whole = refl; bytes = cell (bytes_at line t) (64 ∷ n) (texts line r) first.0 first.1 }
  where
    cell : (a b : List ℕ) (s u : List (List ℕ)) → a ∷ s ≡ b ∷ u → a ≡ b
    cell a b s u e = cc

-- behind all that stands before the name of a callee
pub record CallHead (line : List ℕ) (mark before written at : List Token) (ret found : Option Ty) (head : List ℕ) (n : List ℕ) (ps : List Part) : Type 0 where
  pub same : ret ≡ found
  pub text : head ≡ joined (texts line mark ++ kept_text line before ∷ result_word found ∷ kept_text line written ∷ [])
  pub further : Spelt line at (token (64 ∷ n) ∷ ps)

pub call_head_back : (line : List ℕ) (tokens mark behind before at after written at_callee : List Token) (ret found : Option Ty) (head n : List ℕ) (ps : List Part) →
    Cut (BeginsCall line) Always line tokens mark behind → Cut (HasAttributes line) (StopsAttributes line) line behind before at → NamesResult line at found after →
    Cut (TypesCallee line) (NamesCallee line) line after written at_callee → Spelt line tokens (kept (call_head ret) head ∷ blank ∷ token (64 ∷ n) ∷ ps) →
    CallHead line mark before written at_callee ret found head n ps
call_head_back line tokens mark behind before at after written at_callee ret found head n ps a b r w h =
    let m = call_mid line tokens mark behind before at ret head (blank ∷ token (64 ∷ n) ∷ ps) a b h in
    let given = call_result line mark before at after ret found head (blank ∷ token (64 ∷ n) ∷ ps) r m in
    let left = blank_off line m.rest (token (64 ∷ n) ∷ ps) m.further in
    let cut = w.one m.written m.rest (sym given.behind) m.written_is (names_callee line m.rest n ps left) in
    record {
      same = given.same;
      text = m.text ∙ ap (λ x. joined (texts line mark ++ kept_text line before ∷ result_word x ∷ kept_text line m.written ∷ [])) given.same
          ∙ ap (λ x. joined (texts line mark ++ kept_text line before ∷ result_word found ∷ kept_text line x ∷ [])) cut.front;
      further = of_behind line m.rest at_callee (token (64 ∷ n) ∷ ps) cut.behind left;
    }

apart : {X : Type 0} (m b r w x : List X) → (((m ++ b) ++ r) ++ w) ++ x ≡ m ++ (b ++ (r ++ (w ++ x)))
apart m b r w x = append_assoc ((m ++ b) ++ r) w x ∙ append_assoc (m ++ b) r (w ++ x) ∙ append_assoc m b (r ++ (w ++ x))

pub call_head_on : (line : List ℕ) (tokens mark behind before at after written at_callee : List Token) (found : Option Ty) (head : List ℕ) (ps : List Part) →
    Cut (BeginsCall line) Always line tokens mark behind → Cut (HasAttributes line) (StopsAttributes line) line behind before at → NamesResult line at found after →
    Cut (TypesCallee line) (NamesCallee line) line after written at_callee → head ≡ joined (texts line mark ++ kept_text line before ∷ result_word found ∷ kept_text line written ∷ []) →
    Spelt line at_callee ps → Spelt line tokens (kept (call_head found) head ∷ ps)
call_head_on line tokens mark behind before at after written at_callee found head ps a b r w is h =
    let given : List Token = r.word_token ∷ [] in
    record {
      spells = (
        ((mark ++ before) ++ given) ++ written,
        at_callee,
        a.whole ∙ ap (λ l. mark ++ l) (b.whole ∙ ap (λ l. before ++ l) (r.whole ∙ ap (λ l. r.word_token ∷ l) w.whole)) ∙ sym (apart mark before given written at_callee),
        record {
          mark = mark;
          before = before;
          result = given;
          written = written;
          whole = refl;
          marked = a.passes;
          attributes = b.passes;
          result_is = ap (λ s. s ∷ []) r.bytes;
          written_is = w.passes;
          is = is;
        },
        h.spells,
      );
    }

cut_shorter : (us vs tokens : List Token) → tokens ≡ us ++ vs → length vs ≤ length tokens
cut_shorter us vs tokens e = let l : length tokens ≡ length (us ++ vs) = ap length e in omega (arith, length-append us vs)

word_shorter : (t : Token) (vs tokens : List Token) → tokens ≡ t ∷ vs → length vs ≤ length tokens
word_shorter t vs tokens e = let l : length tokens ≡ length (t ∷ vs) = ap length e in omega arith

pub call_found : (line : List ℕ) (tokens mark behind before at after written at_callee at_open rest : List Token) (found : Option Ty) (head : List ℕ) (callee : Name) →
    Cut (BeginsCall line) Always line tokens mark behind → Cut (HasAttributes line) (StopsAttributes line) line behind before at → NamesResult line at found after → IsResult found →
    Cut (TypesCallee line) (NamesCallee line) line after written at_callee → Front IsOwnName callee_parts line at_callee callee at_open → Leads (word_part word.Open ∷ []) line at_open rest →
    head ≡ joined (texts line mark ++ kept_text line before ∷ result_word found ∷ kept_text line written ∷ []) →
    Front IsCallStart call_start_parts line tokens (found, head, callee) rest
call_found line tokens mark behind before at after written at_callee at_open rest found head callee a b r fits w n open_ is = record {
  fits = (n.fits, fits);
  owned = open_.owned;
  shorter =
      let one = cut_shorter mark behind tokens a.whole in
      let two = cut_shorter before at behind b.whole in
      let three = word_shorter r.word_token after at r.whole in
      let four = cut_shorter written at_callee after w.whole in
      let five = n.shorter in
      let six = open_.shorter in
      omega arith;
  on = λ ps h.
      call_head_on line tokens mark behind before at after written at_callee found head (blank ∷ token (64 ∷ name_text callee) ∷ word_part word.Open ∷ ps) a b r w is
      (blank_on line at_callee (token (64 ∷ name_text callee) ∷ word_part word.Open ∷ ps) (n.on (word_part word.Open ∷ ps) (open_.on ps h)));
  back = λ y ps g h.
      let m = call_head_back line tokens mark behind before at after written at_callee y.0 found y.1 (name_text y.2) (word_part word.Open ∷ ps) a b r w h in
      let named = n.back y.2 (word_part word.Open ∷ ps) g.0 m.further in
      record {
        same = ap (λ (x : Option Ty). (x, y.1, y.2)) m.same ∙ ap (λ (x : List ℕ). (found, x, y.2)) (m.text ∙ sym is) ∙ ap (λ (x : Name). (found, head, x)) named.same;
        further = open_.back ps named.further;
      };
}

-- a memcpy up to its name
pub record CopyHead (line : List ℕ) (mark behind : List Token) (head : List ℕ) (ps : List Part) : Type 0 where
  pub text : head ≡ joined (texts line mark ++ spelling word.Void ∷ [])
  pub further : Spelt line behind (word_part word.Void ∷ ps)

pub copy_head_back : (line : List ℕ) (tokens mark behind : List Token) (head : List ℕ) (ps : List Part) → Cut (BeginsCall line) Always line tokens mark behind →
    Spelt line tokens (kept copy_head head ∷ ps) → CopyHead line mark behind head ps
copy_head_back line tokens mark behind head ps a h =
    let s = h.spells in
    let x = s.3 in
    let one = a.one x.mark (x.result ++ s.1) (s.2 ∙ ap (λ r. r ++ s.1) x.whole ∙ append_assoc x.mark x.result s.1) x.marked tt in
    record {
      text = x.is ∙ ap (λ r. joined (texts line r)) x.whole ∙ ap joined (texts_append line x.mark x.result ∙ ap (λ ts. texts line x.mark ++ ts) x.result_is)
          ∙ ap (λ r. joined (texts line r ++ spelling word.Void ∷ [])) one.front;
      further = record { spells = (x.result, s.1, sym one.behind, x.result_is, s.4) };
    }

pub copy_head_on : (line : List ℕ) (tokens mark behind : List Token) (head : List ℕ) (ps : List Part) → Cut (BeginsCall line) Always line tokens mark behind →
    head ≡ joined (texts line mark ++ spelling word.Void ∷ []) → Spelt line behind (word_part word.Void ∷ ps) → Spelt line tokens (kept copy_head head ∷ ps)
copy_head_on line tokens mark behind head ps a is h =
    let s = h.spells in
    record {
      spells = (
        mark ++ s.0,
        s.1,
        a.whole ∙ ap (λ l. mark ++ l) s.2 ∙ sym (append_assoc mark s.0 s.1),
        record {
          mark = mark;
          result = s.0;
          whole = refl;
          marked = a.passes;
          result_is = s.3;
          is = is ∙ ap joined (sym (texts_append line mark s.0 ∙ ap (λ ts. texts line mark ++ ts) s.3));
        },
        s.4,
      );
    }

pub copy_found : (line : List ℕ) (tokens mark behind at_name at_open rest : List Token) (head : List ℕ) → Cut (BeginsCall line) Always line tokens mark behind →
    Leads (word_part word.Void ∷ []) line behind at_name → Leads (word_part word.Memcpy ∷ []) line at_name at_open → Leads (word_part word.Open ∷ []) line at_open rest →
    head ≡ joined (texts line mark ++ spelling word.Void ∷ []) → Front Always copy_start_parts line tokens head rest
copy_found line tokens mark behind at_name at_open rest head a v n o is = record {
  fits = tt;
  owned = o.owned;
  shorter = let one = cut_shorter mark behind tokens a.whole in let two = v.shorter in let three = n.shorter in let four = o.shorter in omega arith;
  on = λ ps h.
      copy_head_on line tokens mark behind head (blank ∷ word_part word.Memcpy ∷ word_part word.Open ∷ ps) a is
      (v.on (blank ∷ word_part word.Memcpy ∷ word_part word.Open ∷ ps) (blank_on line at_name (word_part word.Memcpy ∷ word_part word.Open ∷ ps) (n.on (word_part word.Open ∷ ps) (o.on ps h))));
  back = λ y ps g h.
      let m = copy_head_back line tokens mark behind y (blank ∷ word_part word.Memcpy ∷ word_part word.Open ∷ ps) a h in
      let name = blank_off line at_name (word_part word.Memcpy ∷ word_part word.Open ∷ ps) (v.back (blank ∷ word_part word.Memcpy ∷ word_part word.Open ∷ ps) m.further) in
      record { same = m.text ∙ sym is; further = o.back ps (n.back (word_part word.Open ∷ ps) name) };
}
