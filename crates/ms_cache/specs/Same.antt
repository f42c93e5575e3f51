-- When two queries are one, and what is hashed of them.
use Rattle.std.specs.Prelude.{◌≡◌, ◌==◌, ◌&&◌, ◌++◌, Bool, true, false}
use Rattle.std.specs.Ordering.{int_eq}
use Rattle.std.specs.Bool.{Decides}
use Rattle.std.specs.Cmp.{IsEquivalence, decided, unsigned_Decides, signed_Decides, first_so, second_so}
use Rattle.std.specs.Hash as fed
use Rattle.std.proofs.Common.{ap, sym, true≢false}
use Rattle.ms_alias.specs.declared.loc.Root.{Root}
use Rattle.ms_alias.specs.declared.loc.Root.TheVariants.{Local, Global}
use Rattle.ms_alias.specs.declared.loc.Loc.{Loc}
use Rattle.ms_alias.specs.declared.loc.Loc.TheVariants.{Bytes, ReadBy}
use Rattle.ms_alias.specs.Tables.{same_root}
use Rattle.ms_cache.specs.declared.query.Query.{Query}

abbrev pub same_loc : Loc → Loc → Bool
same_loc (Bytes r from len) (Bytes s at size) = same_root r s && int_eq from at && len == size
same_loc (ReadBy i) (ReadBy j) = i.0 == j.0
same_loc _ _ = false

abbrev pub same_query : Query → Query → Bool
same_query a b = a.inst.0 == b.inst.0 && same_loc a.loc b.loc

-- the writes to a hasher
abbrev pub root_writes : Root → fed.HashWrites
root_writes (Local l) = fed.u64 l.0
root_writes (Global g) = fed.u32 g.0

abbrev pub loc_writes : Loc → fed.HashWrites
loc_writes (Bytes r from len) = root_writes r ++ fed.i64 from ++ fed.u32 len
loc_writes (ReadBy j) = fed.u32 j.0

abbrev pub query_writes : Query → fed.HashWrites
query_writes q = fed.u32 q.inst.0 ++ loc_writes q.loc

joined : (a b : Bool) → a ≡ true → b ≡ true → (a && b) ≡ true
joined true b p q = q
joined false b p q = absurd (true≢false (sym p))

differ : {A : Type 0} → false ≡ true → A
differ e = absurd (true≢false (sym e))

same_root-Decides : (r s : Root) → Decides (same_root r s) (r ≡ s)
same_root-Decides (Local k) (Local l) = (λ e. (λ i. Local (record { 0 = (unsigned_Decides k.0 l.0).0 e i })), λ e. (unsigned_Decides k.0 l.0).1 (cc))
same_root-Decides (Global g) (Global h) = (λ e. (λ i. Global (record { 0 = (unsigned_Decides g.0 h.0).0 e i })), λ e. (unsigned_Decides g.0 h.0).1 (cc))
same_root-Decides (Local k) (Global h) = (differ, λ e. cc)
same_root-Decides (Global g) (Local l) = (differ, λ e. cc)

same_loc-Decides : (a b : Loc) → Decides (same_loc a b) (a ≡ b)
same_loc-Decides (Bytes r from len) (Bytes s at size) = (
  λ e.
      let front = first_so (same_root r s && int_eq from at) (len == size) e in
      (λ i. Bytes ((same_root-Decides r s).0 (first_so (same_root r s) (int_eq from at) front) i)
      ((signed_Decides from at).0 (second_so (same_root r s) (int_eq from at) front) i)
      ((unsigned_Decides len size).0 (second_so (same_root r s && int_eq from at) (len == size) e) i)),
  λ e.
      joined _ _ (joined _ _ ((same_root-Decides r s).1 (cc)) ((signed_Decides from at).1 (cc))) ((unsigned_Decides len size).1 (cc)),
)
same_loc-Decides (ReadBy i) (ReadBy j) = (λ e. (λ n. ReadBy (record { 0 = (unsigned_Decides i.0 j.0).0 e n })), λ e. (unsigned_Decides i.0 j.0).1 (cc))
same_loc-Decides (Bytes r from len) (ReadBy j) = (differ, λ e. cc)
same_loc-Decides (ReadBy i) (Bytes s at size) = (differ, λ e. cc)

-- the test holds of one query and itself alone
pub same_query-Decides : (a b : Query) → Decides (same_query a b) (a ≡ b)
same_query-Decides a b = (
  λ e.
      let inst = first_so (a.inst.0 == b.inst.0) (same_loc a.loc b.loc) e in
      let loc = second_so (a.inst.0 == b.inst.0) (same_loc a.loc b.loc) e in
      (λ n. record { inst = record { 0 = (unsigned_Decides a.inst.0 b.inst.0).0 inst n }; loc = (same_loc-Decides a.loc b.loc).0 loc n }),
  λ e.
      joined _ _ ((unsigned_Decides a.inst.0 b.inst.0).1 (ap (λ (q : Query). q.inst.0) e)) ((same_loc-Decides a.loc b.loc).1 (ap (λ (q : Query). q.loc) e)),
)

pub same_query_equiv : IsEquivalence same_query
same_query_equiv = decided same_query same_query-Decides
