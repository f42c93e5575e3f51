-- What the tables answer of an instruction is what the function says of it.
use Rattle.std.proofs.Common.{◌≡◌, ◌↔◌, ℕ, ℤ, pos, ◌+ℤ◌, Bool, true, false, cond, List, Option, Some, None, refl, sym, ap, ◌∙◌, subst, ⊎_elim, arith}
use Rattle.std.specs.Prelude.{◌&&◌, ◌||◌, not, int_lt, int_le, ◌≤ℤ◌, ◌<ℤ◌}
use Rattle.std.proofs.lemmas.Bool.{and_parts, and_from, false≢true, both_ways, cases_Bool, not-true, not_from_false, cond-true}
use Rattle.std.proofs.lemmas.Int.{ints}
use Rattle.ms_ir.specs.declared.names.LocalNo.{LocalNo}
use Rattle.ms_ir.specs.declared.names.InstNo.{InstNo}
use Rattle.ms_ir.specs.declared.inst.Val.{Val}
use Rattle.ms_ir.specs.declared.inst.Inst.{Inst}
use Rattle.ms_ir.specs.declared.inst.Inst.TheVariants.{Load, Store, Copy, Call}
use Rattle.ms_ir.specs.Func.{Placed, Block, FuncState, IsAt, IsNowhere}
use Rattle.ms_meaning.specs.Values.{size_of}
use Rattle.ms_meaning.specs.Memory.{HoldsByte}
use Rattle.ms_alias.specs.declared.loc.Root.{Root}
use Rattle.ms_alias.specs.declared.loc.Root.TheVariants.{Local}
use Rattle.ms_alias.specs.declared.loc.Loc.{Loc}
use Rattle.ms_alias.specs.declared.loc.Loc.TheVariants.{Bytes, ReadBy}
use Rattle.ms_alias.specs.declared.origins.Origin.{Origin}
use Rattle.ms_alias.specs.declared.sets.Set.{Set}
use Rattle.ms_alias.specs.declared.sets.Set.TheVariants.{Alloca}
use Rattle.ms_alias.specs.Roots.{pointer_of, HasRoot, IsFixed}
use Rattle.ms_alias.specs.Captured.{IsCaptured}
use Rattle.ms_alias.specs.Reaches.{Reach, Span, Called, IsReachOf, IsWritten, IsLocRead, IsLocWritten, ReadsLoc, WritesLoc}
use Rattle.ms_alias.specs.Meeting.{MustWrite}
use Rattle.ms_alias.specs.Tables.{AliasState, same_root, set_of, is_turning, origin_of, origin_in, val_origin, bytes_at, read_loc, written_loc, read_reach, write_reach, holds_byte, must_hold, caught_at, IsReadBy, IsWrittenBy, IsReachBy, IsOrigins, IsAliasOf, IsFor}
use Rattle.ms_alias.proofs.Makers.{not_nowhere}
use Rattle.ms_alias.proofs.RootLemmas.{one_root, origin_told, turning_from, turning_to, read_from, read_to, written_from, written_to}
use Rattle.ms_alias.proofs.Reaching.{root_is, root_same}

abbrev pub Somewhere : List Block → ℕ → (Placed → Type 0) → Type 0
Somewhere blocks n P = (b : ℕ) × (place : ℕ) × (x : Placed) × IsAt blocks n b place x × P x

gone : (blocks : List Block) (n : ℕ) (P : Placed → Type 0) → IsNowhere blocks n → Somewhere blocks n P → ⊥
gone blocks n P no_where h = not_nowhere blocks n h.0 h.1 h.2 h.3 no_where

pub gone_read : (f : FuncState) (origins : List Origin) (i : ℕ) → IsNowhere f.blocks i → (u : Reach) → (None ≡ Some u) ↔ IsReadBy f origins i u
gone_read f origins i no_where u = ((λ e. cc), λ h. absurd (gone f.blocks i (λ x. read_reach origins x.inst ≡ Some u) no_where h))

pub gone_written : (f : FuncState) (origins : List Origin) (i : ℕ) → IsNowhere f.blocks i → (u : Reach) → (None ≡ Some u) ↔ IsWrittenBy f origins i u
gone_written f origins i no_where u = ((λ e. cc), λ h. absurd (gone f.blocks i (λ x. write_reach origins x.inst ≡ Some u) no_where h))

pub gone_reads : (f : FuncState) (i : InstNo) → IsNowhere f.blocks i.0 → (loc : Loc) → (None ≡ Some loc) ↔ ReadsLoc f i loc
gone_reads f i no_where loc = ((λ e. cc), λ h. absurd (gone f.blocks i.0 (λ x. IsLocRead f i x.inst loc) no_where h))

pub gone_writes : (f : FuncState) (i : InstNo) → IsNowhere f.blocks i.0 → (loc : Loc) → (None ≡ Some loc) ↔ WritesLoc f i loc
gone_writes f i no_where loc = ((λ e. cc), λ h. absurd (gone f.blocks i.0 (λ x. IsLocWritten f x.inst loc) no_where h))

-- the bytes where a value points to
abbrev IsBytes : FuncState → Val → ℕ → Loc → Type 0
IsBytes f v len loc = (p : Root) × (pointer_of v ≡ Some p) × (r : Root) × (from : ℤ) × HasRoot f p r from × (loc ≡ Bytes r from len)

bytes_in : (f : FuncState) (origins : List Origin) (v : Val) (len : ℕ) (loc : Loc) → IsOrigins f origins → (o : Option Root) → pointer_of v ≡ o → bytes_at len (origin_in origins o) ≡ Some loc → IsBytes f v len loc
bytes_in f origins v len loc is None p e = cc
bytes_in f origins v len loc is (Some q) p e =
    let same : loc ≡ Bytes (origin_of origins q).root (origin_of origins q).offset len = cc in
    (q, p, (origin_of origins q).root, (origin_of origins q).offset, origin_told f origins is q, same)

bytes_from : (f : FuncState) (origins : List Origin) (v : Val) (len : ℕ) (loc : Loc) → IsOrigins f origins → bytes_at len (val_origin origins v) ≡ Some loc → IsBytes f v len loc
bytes_from f origins v len loc is e = bytes_in f origins v len loc is (pointer_of v) refl e

bytes_to : (f : FuncState) (origins : List Origin) (v : Val) (len : ℕ) (loc : Loc) → IsOrigins f origins → IsBytes f v len loc → bytes_at len (val_origin origins v) ≡ Some loc
bytes_to f origins v len loc is h =
    let o : Origin = origin_of origins h.0 in
    let one = one_root f h.0 o.root h.2 o.offset h.3 (origin_told f origins is h.0) h.4 in
    ap (λ q. bytes_at len (origin_in origins q)) h.1 ∙ ap (λ r. Some (Bytes r o.offset len)) one.0 ∙ ap (λ z. Some (Bytes h.2 z len)) one.1 ∙ ap Some (sym h.5)

call_read : (b : Bool) (i : InstNo) (loc : Loc) → cond b (Some (ReadBy i)) None ≡ Some loc → (b ≡ true) × (loc ≡ ReadBy i)
call_read true i loc e = (refl, cc)
call_read false i loc e = cc

loc_read_from : (f : FuncState) (origins : List Origin) (i : InstNo) (inst : Inst) (loc : Loc) → IsOrigins f origins → read_loc origins i inst ≡ Some loc → IsLocRead f i inst loc
loc_read_from f origins i (Load ty ptr tail) loc is e = bytes_from f origins ptr (size_of ty) loc is e
loc_read_from f origins i (Copy to from len head tail) loc is e = bytes_from f origins from.val len loc is e
loc_read_from f origins i (Call callee ret args effects head tail) loc is e = call_read (effects.arg_read || effects.other_read || effects.hidden_read) i loc e
loc_read_from f origins i inst loc is e = cc

loc_read_to : (f : FuncState) (origins : List Origin) (i : InstNo) (inst : Inst) (loc : Loc) → IsOrigins f origins → IsLocRead f i inst loc → read_loc origins i inst ≡ Some loc
loc_read_to f origins i (Load ty ptr tail) loc is h = bytes_to f origins ptr (size_of ty) loc is h
loc_read_to f origins i (Copy to from len head tail) loc is h = bytes_to f origins from.val len loc is h
loc_read_to f origins i (Call callee ret args effects head tail) loc is h =
    cond-true (effects.arg_read || effects.other_read || effects.hidden_read) (Some (ReadBy i)) None h.0 ∙ ap Some (sym h.1)
loc_read_to f origins i inst loc is h = absurd h

loc_written_from : (f : FuncState) (origins : List Origin) (inst : Inst) (loc : Loc) → IsOrigins f origins → written_loc origins inst ≡ Some loc → IsLocWritten f inst loc
loc_written_from f origins (Store ty val ptr tail) loc is e = bytes_from f origins ptr (size_of ty) loc is e
loc_written_from f origins (Copy to from len head tail) loc is e = bytes_from f origins to.val len loc is e
loc_written_from f origins inst loc is e = cc

loc_written_to : (f : FuncState) (origins : List Origin) (inst : Inst) (loc : Loc) → IsOrigins f origins → IsLocWritten f inst loc → written_loc origins inst ≡ Some loc
loc_written_to f origins (Store ty val ptr tail) loc is h = bytes_to f origins ptr (size_of ty) loc is h
loc_written_to f origins (Copy to from len head tail) loc is h = bytes_to f origins to.val len loc is h
loc_written_to f origins inst loc is h = absurd h

-- the instruction of a number is this one
abbrev Found : FuncState → ℕ → Inst → Type 0
Found f n inst = Somewhere f.blocks n (λ x. x.inst ≡ inst)

abbrev Each : FuncState → ℕ → Inst → Type 0
Each f n inst = (b place : ℕ) (x : Placed) → IsAt f.blocks n b place x → x.inst ≡ inst

pub reads_told : (f : FuncState) (a : AliasState) → IsAliasOf f a → (i : InstNo) (inst : Inst) → Found f i.0 inst → Each f i.0 inst → (r : Option Loc) → r ≡ read_loc a.origins i inst → (loc : Loc) → (r ≡ Some loc) ↔ ReadsLoc f i loc
reads_told f a is i inst found each r e loc = (
  λ s. (found.0, found.1, found.2, found.3, loc_read_from f a.origins i found.2.inst loc is.origins (ap (read_loc a.origins i) found.4 ∙ sym e ∙ s)),
  λ h. e ∙ ap (read_loc a.origins i) (sym (each h.0 h.1 h.2 h.3)) ∙ loc_read_to f a.origins i h.2.inst loc is.origins h.4,
)

pub writes_told : (f : FuncState) (a : AliasState) → IsAliasOf f a → (i : InstNo) (inst : Inst) → Found f i.0 inst → Each f i.0 inst → (r : Option Loc) → r ≡ written_loc a.origins inst → (loc : Loc) → (r ≡ Some loc) ↔ WritesLoc f i loc
writes_told f a is i inst found each r e loc = (
  λ s. (found.0, found.1, found.2, found.3, loc_written_from f a.origins found.2.inst loc is.origins (ap (written_loc a.origins) found.4 ∙ sym e ∙ s)),
  λ h. e ∙ ap (written_loc a.origins) (sym (each h.0 h.1 h.2 h.3)) ∙ loc_written_to f a.origins h.2.inst loc is.origins h.4,
)

pub reach_from : (f : FuncState) (origins : List Origin) (loc : Loc) (u : Reach) → IsOrigins f origins → IsReachBy f origins loc u → IsReachOf f loc u
reach_from f origins (Bytes root from len) u is h = h
reach_from f origins (ReadBy j) u is h = (h.0, h.1, h.2, h.3, read_from f origins h.2.inst u is h.4)

pub reach_to : (f : FuncState) (origins : List Origin) (loc : Loc) (u : Reach) → IsOrigins f origins → IsReachOf f loc u → IsReachBy f origins loc u
reach_to f origins (Bytes root from len) u is h = h
reach_to f origins (ReadBy j) u is h = (h.0, h.1, h.2, h.3, read_to f origins h.2.inst u is h.4)

holds_from : (from : ℤ) (len : ℕ) (k : ℤ) → holds_byte from len k ≡ true → HoldsByte from len k
holds_from from len k e =
    let both = and_parts (int_le from k) (int_lt k (from +ℤ pos len)) e in
    let p = both.0 in
    let q = both.1 in
    (le_from from k p, lt_from k (from +ℤ pos len) q) where
      le_from : (a b : ℤ) → int_le a b ≡ true → a ≤ℤ b
      le_from a b e = grind (arith, ints)

      lt_from : (a b : ℤ) → int_lt a b ≡ true → a <ℤ b
      lt_from a b e = grind (arith, ints)

holds_to : (from : ℤ) (len : ℕ) (k : ℤ) → HoldsByte from len k → holds_byte from len k ≡ true
holds_to from len k h = and_from (int_le from k) (int_lt k (from +ℤ pos len)) (le_to from k h.0) (lt_to k (from +ℤ pos len) h.1) where
  le_to : (a b : ℤ) → a ≤ℤ b → int_le a b ≡ true
  le_to a b h = grind (arith, ints)

  lt_to : (a b : ℤ) → a <ℤ b → int_lt a b ≡ true
  lt_to a b h = grind (arith, ints)

pub fixed_told : (f : FuncState) (a : AliasState) → IsAliasOf f a → (root : Root) → (not (is_turning a.turning root) ≡ true) ↔ IsFixed f root
fixed_told f a is root = (
  λ t turns. both_ways (is_turning a.turning root) (not-true (is_turning a.turning root) t) (turning_to f a.turning is.turning root turns),
  λ fixed. ⊎_elim (λ (t : is_turning a.turning root ≡ true). absurd (fixed (turning_from f a.turning is.turning root t))) (λ (o : is_turning a.turning root ≡ false). not_from_false (is_turning a.turning root) o) (cases_Bool (is_turning a.turning root)),
)

must_from : (f : FuncState) (a : AliasState) → IsAliasOf f a → (i : ℕ) (root : Root) (k : ℤ) (ou : Option Reach) → ((u : Reach) → (ou ≡ Some u) ↔ IsWrittenBy f a.origins i u) → must_hold a ou root k ≡ true → MustWrite f i root k
must_from f a is i root k None hu e = absurd (false≢true e)
must_from f a is i root k (Some (Called args other hidden)) hu e = absurd (false≢true e)
must_from f a is i root k (Some (Span r from len)) hu e =
    let x = and_parts (same_root r root && not (is_turning a.turning root)) (holds_byte from len k) e in
    let y = and_parts (same_root r root) (not (is_turning a.turning root)) x.0 in
    let w = (hu (Span r from len)).0 refl in
    let same = root_is r root y.0 in
    (w.0, w.1, w.2, w.3, (fixed_told f a is root).0 y.1, from, len, subst (λ s. IsWritten f w.2.inst (Span s from len)) same (written_from f a.origins w.2.inst (Span r from len) is.origins w.4), holds_from from len k x.1)

pub must_write_told : (f : FuncState) (a : AliasState) → IsAliasOf f a → (i : ℕ) (root : Root) (k : ℤ) (ou : Option Reach) → ((u : Reach) → (ou ≡ Some u) ↔ IsWrittenBy f a.origins i u)
    → (r : Bool) → r ≡ must_hold a ou root k → (r ≡ true) ↔ MustWrite f i root k
must_write_told f a is i root k ou hu r e = (
  λ t. must_from f a is i root k ou hu (sym e ∙ t),
  λ h.
      let u = (hu (Span root h.5 h.6)).1 (h.0, h.1, h.2, h.3, written_to f a.origins h.2.inst (Span root h.5 h.6) is.origins h.7) in
      e ∙ ap (λ x. must_hold a x root k) u ∙ and_from (same_root root root && not (is_turning a.turning root)) (holds_byte h.5 h.6 k)
      (and_from (same_root root root) (not (is_turning a.turning root)) (root_same root) ((fixed_told f a is root).1 h.4)) (holds_to h.5 h.6 k h.8),
)

caught_in : (f : FuncState) (a : AliasState) → IsAliasOf f a → (l : LocalNo) (s : Set) → IsFor a.bases f l s → caught_at a.captured s ≡ true → IsCaptured f l
caught_in f a is l (Alloca c) h e =
    let there = is.captured.sound c e in
    let same : Some (Local there.0) ≡ Some (Local l) = sym there.1 ∙ h.0 in
    let one : there.0 ≡ l = cc in
    subst (IsCaptured f) one there.2
caught_in f a is l s h e = absurd (false≢true e)

pub captured_told : (f : FuncState) (a : AliasState) → IsAliasOf f a → (l : LocalNo) (r : Bool) → r ≡ caught_at a.captured (set_of a.bases (Local l)) → (r ≡ true) ↔ IsCaptured f l
captured_told f a is l r e = (
  λ t. caught_in f a is l (set_of a.bases (Local l)) (is.room.sets l) (sym e ∙ t),
  λ h. let there = is.captured.complete l h in e ∙ ap (caught_at a.captured) there.1 ∙ there.2,
)
