-- The slots of a form and the edges of its graph.
use Rattle.std.proofs.Common.{◌≡◌, ◌<◌, ◌≤◌, ℕ, List, length, get_or, Some, refl, ap, ◌∙◌, subst, arith}
use Rattle.std.specs.Prelude.{slice_get, slice_index, Contains}
use Rattle.std.proofs.lemmas.List.{get_or_default}
use Rattle.std.proofs.lemmas.List.FromFn.{get_or-map-range_with_len, length-map-range_with_len}
use Rattle.std.proofs.lemmas.Option.{slice_get-get_or}
use Rattle.ms_paths.specs.Flow.{Block as Run, HasEdge, IsReached}
use Rattle.ms_flow.specs.declared.sources.Source.{Source}
use Rattle.ms_flow.specs.Table.{next_of}
use Rattle.ms_flow.specs.Flow.{FlowState, sources_of}
use Rattle.ms_form.specs.Form.{FormState, HasPlaces}
use Rattle.ms_form.specs.Counts.{pred_count, pred_counts}
use Rattle.ms_build.specs.Settled.{slot_count}

pub blocks_of_form : (flow : FlowState) (insts : ℕ) (f : FormState) → HasPlaces (pred_counts flow) insts f → length f.phis ≡ length flow.graph
blocks_of_form flow insts f p = p.blocks ∙ length-map-range_with_len (pred_count flow) 0 (length flow.graph)

-- a block of the form has a slot for each edge to it from a reached block, and may have more
pub slots_of_form : (flow : FlowState) (insts : ℕ) (f : FormState) (b : ℕ) → HasPlaces (pred_counts flow) insts f → b < length flow.graph → length (sources_of flow.graph b) ≤ slot_count f b
slots_of_form flow insts f b p lt =
    let least = p.slots b in
    let count : get_or (pred_counts flow) b 0 ≡ pred_count flow b = get_or-map-range_with_len (pred_count flow) 0 (length flow.graph) b b 0 lt (omega arith) in
    omega arith

-- the slot of an edge from a reached block
pub record IsSlot (g : List Run) (a b : ℕ) : Type 0 where
  pub slot : ℕ
  pub source : Source
  pub found : slice_get (sources_of g b) slot ≡ Some source
  pub from : source.from ≡ a

abbrev pub EdgesAll : List Run → Type 0
EdgesAll g = (a slot : ℕ) → IsReached g a → slot < length (next_of g a) → Contains (sources_of g (slice_index (next_of g a) slot)) (record { from = a; slot = slot })

pub slot_of_edge : (g : List Run) → EdgesAll g → (a b : ℕ) → IsReached g a → HasEdge g a b → IsSlot g a b
slot_of_edge g all a b r e =
    let k : ℕ = e.0 in
    let to : slice_index (next_of g a) k ≡ b = get_or_default (next_of g a) k 0 b e.1 ∙ e.2 in
    let s : Source = record { from = a; slot = k } in
    let h : Contains (sources_of g b) s = subst (λ (x : ℕ). Contains (sources_of g x) s) to (all a k r e.1) in
    record { slot = h.0; source = s; found = slice_get-get_or (sources_of g b) h.0 s h.1 ∙ ap Some h.2; from = refl }
