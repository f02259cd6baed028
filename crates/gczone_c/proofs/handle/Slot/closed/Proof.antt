-- `closed` makes a null pointer, which owns nothing.
use Rattle.std.proofs.Common.{[], ◌∷◌, refl, lit<}
use Rattle.std.specs.Prelude.{None}
use Rattle.std.proofs.raw_atomic.Walks.{proved}
use base.Fml.{ftrue}
use types.Kit.{‵, ◌⊛◌, ◌$◌, ◌∵◌, !, qed, done, drop, feq_i, suffices}
use types.Run.{enter, lit, no_more, and_then, returns}
use types.Part.{agg}
use types.ByLocal.{alloc_all, pass_all, free_all, look_at, sets}
use denote.RawPtr.{Ptr, null_ptr, ptr_val}
use denote.Steps.{nothing}
use denote.Triple.Walked.{Stays, walk_of, says, ends_at}
use Rattle.gczone_c.proofs.Slots.{one, slot_in}
use Rattle.gczone_c.specs.contracts.handle.Slot.closed as f
use Rattle.gczone_c.proofs.handle.Slot.closed.Statement.{statement}
use Rattle.gczone_c.proofs.handle.Slot.closed.Code as code

abbrev stays : Stays f.ended.signature.params f.ended.kept
stays = tt

pub closed_spec : {M : Type 1} → statement M
closed_spec 𝓤 𝓛 𝓜 𝓡 wired =
    let c = f.clauses 𝓛 𝓜.mem 𝓡.returns in
    let W = walk_of 𝓛 f.ended stays c in
    let unfolded = code.unfolded 𝓤 𝓛.H 𝓜 𝓡 wired in
    proved 𝓛 f.ended stays c 𝓜 𝓡 tt f.Key.name code.function unfolded (λ κs. tt) (λ κs. tt) (λ κs qs bounds a n are.
    let y : W.Ghost = ((κs, qs, bounds, a, tt), tt) in
    qed 𝓛 ((‵ ftrue ⊛ ‵ ftrue) ∷ ‵ ftrue ∷ []) ∵ drop ! $ drop ! $
    enter ! _ _ _ _ _ $ alloc_all ! (λ l. pass_all ! refl tt $
    sets ! (agg ! (and_then ! (lit ! tt) (no_more !))) refl (tt, (record { fits = lit< tt }, tt)) $
    returns ! (look_at ! 0 refl) $ free_all ! refl $
    feq_i ! Ptr null_ptr null_ptr refl $ slot_in ! null_ptr None $
    suffices ! _ (ends_at 𝓛 f.ended stays c y (one (ptr_val null_ptr)) (record { at = null_ptr; held = None }) tt tt) $
    says ! refl $ nothing ! $ nothing ! $ done !))
