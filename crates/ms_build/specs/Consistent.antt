-- Forms in which each access is the one that leaves the place before it.
use Rattle.std.specs.Prelude.{◌≡◌, ℕ, true, false, List, Some, slice_get}
use Rattle.ms_paths.specs.Flow.{Block as Run}
use Rattle.ms_flow.specs.declared.sources.Source.{Source}
use Rattle.ms_flow.specs.Flow.{sources_of}
use Rattle.ms_form.specs.declared.access.Access.TheVariants.{Entry}
use Rattle.ms_form.specs.Form.{FormState}
use Rattle.ms_build.specs.Accesses.{has_phi, enters_at, operand_at, leaving_at}

-- Each entering access and each operand is the access that leaves the block before it; that of the entry is Entry.
-- A slot leads from a reached block to a reached block, so that nothing is asked of the others.
pub record IsConsistent (g : List Run) (f : FormState) : Type 0 where
  pub entry : has_phi f 0 ≡ false → enters_at f 0 ≡ Some Entry
  pub enters : (b slot : ℕ) (e : Source) → has_phi f b ≡ false → slice_get (sources_of g b) slot ≡ Some e → enters_at f b ≡ leaving_at f e.from
  pub operands : (b slot : ℕ) (e : Source) → has_phi f b ≡ true → slice_get (sources_of g b) slot ≡ Some e → operand_at f b slot ≡ leaving_at f e.from
