-- `of` hands what the loose box owns to the slot.
use Rattle.std.proofs.Common.{List, [], ◌∷◌, ◌++◌, refl, sym, subst}
use Rattle.std.specs.Prelude.{Some}
use Rattle.std.specs.contracts.alloc.Global as heap
use Rattle.std.specs.contracts.impls.GlobalAllocator.TheImpl.{ghosts}
use Rattle.std.proofs.alloc.Global.TheLaws as heap_laws
use Rattle.std.proofs.raw_atomic.Walks.{proved_at}
use mir.Val.{Val, vptr}
use base.Logic.{SProp, ent, id⊢}
use base.Fml.{ftrue}
use prog.Wp.{WpFn}
use contract.Running.{tables}
use types.Kit.{‵, ◌⊛◌, ◌$◌, ◌∵◌, !, qed, join, done, drop, keep, split, fsplit, suffices, use1}
use types.Run.{enter, of_opd, no_more, and_then, fld, stop, returns}
use types.Part.{agg, sub, whole}
use types.ByLocal.{alloc_all, pass_all, free_all, look_at, get, get_in, sets}
use denote.Exit.{yes}
use denote.RattleType.{RattleType, owns}
use denote.RawPtr.{block_ptr}
use denote.Signature.{plain, types_at}
use denote.Steps.{nothing}
use denote.Triple.Walked.{Stays, AllGo, walk_of, says, stay_dropped, Goes-dropped, ends_at}
use Rattle.gczone_c.specs.Owned.{owns_box}
use Rattle.gczone_c.specs.contracts.held.Held.{the_row as held_row}
use Rattle.gczone_c.proofs.LooseValues.{both, Loose, loose_good, loose_out}
use Rattle.gczone_c.proofs.Slots.{one, slot_in, SlotRow}
use Rattle.gczone_c.specs.contracts.handle.Slot.of as f
use Rattle.gczone_c.proofs.handle.Slot.of.Statement.{statement}
use Rattle.gczone_c.proofs.handle.Slot.of.Code as code

abbrev Z : RattleType
Z = heap.the_row

abbrev Given : RattleType
Given = Loose held_row Z heap_laws.the_row_laws ghosts

abbrev stays : Stays f.ended.signature.params f.ended.kept
stays = (stay_dropped (plain (λ _. Given)) yes, tt)

pub of_spec : {M : Type 1} → statement M
of_spec 𝓤 𝓛 𝓜 𝓡 wired =
    let c = f.clauses 𝓛 𝓜.mem 𝓡.returns in
    let 𝓣 = tables 𝓤 𝓛.H 𝓜 𝓡 𝓡.env in
    let goes : AllGo 𝓛 f.signature.lifetimes f.signature.params f.ended.kept stays =
    (Goes-dropped 𝓛 0 (plain (λ _. Given)) yes (λ κs x w. refl), tt) in
    proved_at 𝓛 f.ended stays c 𝓜 𝓡 goes f.Key.name code.function (code.unfolded 𝓤 𝓛.H 𝓜 𝓡 wired) (λ z are.
    let v = z.0.3.0 in
    let Post : Val → SProp 𝓤 = (walk_of 𝓛 f.ended stays c).post z in
    let Run : List Val → SProp 𝓤 = λ us. WpFn 𝓤 𝓛.H 𝓣.C 𝓣.Λ code.function us Post in
    let params = owns (types_at f.signature.params z.0.0) z.0.3 z.0.4 in
    qed 𝓛 ((‵ ftrue ⊛ ‵ params) ∷ ‵ ftrue ∷ []) ∵ split ! $ drop ! $ fsplit ! $
    loose_out held_row Z heap_laws.the_row_laws ghosts ! v z.0.4.0 (λ b o h placed words fits.
    let w : Val = both (vptr b o) h in
    let good = loose_good held_row Z heap_laws.the_row_laws ghosts b o h fits in
    keep ! (0 ∷ []) $ use1 𝓛 (‵ (owns_box held_row (block_ptr b o) (Some v.value))) (id⊢ 𝓤 _) $
    let one_word = subst (λ (us : List Val). ent 𝓤 (Run (w ∷ [])) (Run us)) (sym (λ i. words i ++ [])) in
    suffices ! (Run (w ∷ [])) (one_word (id⊢ 𝓤 (Run (w ∷ [])))) $
    enter ! 𝓣.C 𝓣.Λ code.function (w ∷ []) Post $ alloc_all ! (λ l. pass_all ! refl (good, tt) $
    sets ! (of_opd ! (get_in ! (fld ! refl (stop !)) (sub ! 0 refl (whole !)))) refl (tt, tt) $
    sets ! (of_opd ! (get ! refl)) refl (tt, tt) $
    sets ! (agg ! (and_then ! (get ! refl) (no_more !))) refl (tt, (tt, tt)) $
    returns ! (look_at ! 0 refl) $ free_all ! refl $ slot_in ! (block_ptr b o) (Some v.value) $
    let made : SlotRow.Denot = record { at = block_ptr b o; held = Some v.value } in
    suffices ! _ (ends_at 𝓛 f.ended stays c z (one (vptr b o)) made (tt, tt) (tt, tt)) $ says ! refl $
    nothing ! $ nothing ! $ join ! $ nothing ! $ done !)))
