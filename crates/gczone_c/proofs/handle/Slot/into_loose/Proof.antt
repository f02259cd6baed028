-- `into_loose` hands what the slot owns to the loose box.
use Rattle.std.proofs.Common.{◌≡◌, List, [], ◌∷◌, ◌++◌, refl, sym, subst}
use Rattle.std.specs.Prelude.{IsSome}
use Rattle.std.specs.contracts.alloc.Global as heap
use Rattle.std.specs.contracts.impls.GlobalAllocator.TheImpl.{ghosts}
use Rattle.std.proofs.alloc.Calls.{Al, handle_tells}
use Rattle.std.proofs.alloc.Global.TheLaws as heap_laws
use Rattle.std.proofs.raw_atomic.Walks.{proved_at}
use mir.Syntax.{impl, tnil, dnil}
use mir.Val.{Val, vptr}
use base.Logic.{SProp, ent, id⊢}
use base.Fml.{ftrue}
use prog.Wp.{WpFn}
use contract.Monad.{fact}
use contract.Running.{tables}
use types.Kit.{‵, raw, ◌⊛◌, ◌$◌, ◌∵◌, !, qed, join, done, drop, move, keep, split, fsplit, suffices}
use types.Run.{enter, of_opd, no_more, and_then, fld, stop, returns}
use types.Part.{agg, sub, whole}
use types.ByLocal.{alloc_all, pass_all, free_all, look_at, get, get_in, sets}
use denote.Exit.{yes}
use denote.RattleType.{RattleType, owns}
use denote.RawPtr.{Ptr, block_ptr, ptr_val}
use denote.Signature.{plain, types_at}
use denote.Steps.{nothing}
use denote.Triple.Walked.{Stays, AllGo, walk_of, says, stay_dropped, Goes-dropped, ends_at}
use Rattle.gczone_c.specs.contracts.held.Held.{the_row as held_row}
use Rattle.gczone_c.proofs.LooseValues.{both, Loose, loose_good, loose_in}
use Rattle.gczone_c.proofs.Slots.{one, slot_out, filled, SlotRow}
use Rattle.gczone_c.specs.contracts.handle.Slot.into_loose as f
use Rattle.gczone_c.proofs.handle.Slot.into_loose.Statement.{statement}
use Rattle.gczone_c.proofs.handle.Slot.into_loose.Code as code

abbrev Z : RattleType
Z = heap.the_row

abbrev Given : RattleType
Given = Loose held_row Z heap_laws.the_row_laws ghosts

abbrev al : Al
al = record { row = Z; laws = heap_laws.the_row_laws; g = ghosts; d = impl [] tnil dnil; drops = impl [] tnil dnil }

abbrev stays : Stays f.ended.signature.params f.ended.kept
stays = (stay_dropped (plain (λ _. SlotRow)) yes, (stay_dropped (plain (λ _. Z)) yes, tt))

pub into_loose_spec : {M : Type 1} → statement M
into_loose_spec 𝓤 𝓛 𝓜 𝓡 wired =
    let c = f.clauses 𝓛 𝓜.mem 𝓡.returns in
    let 𝓣 = tables 𝓤 𝓛.H 𝓜 𝓡 𝓡.env in
    let goes : AllGo 𝓛 f.signature.lifetimes f.signature.params f.ended.kept stays = (
      Goes-dropped 𝓛 0 (plain (λ _. SlotRow)) yes (λ κs x w. refl),
      (Goes-dropped 𝓛 0 (plain (λ _. Z)) yes (λ κs x w. refl), tt),
    ) in
    proved_at 𝓛 f.ended stays c 𝓜 𝓡 goes f.Key.name code.function (code.unfolded 𝓤 𝓛.H 𝓜 𝓡 wired) (λ z are.
    let v = z.0.3.0 in
    let vs = z.0.4.0 in
    let a = z.0.3.1.0 in
    let Post : Val → SProp 𝓤 = (walk_of 𝓛 f.ended stays c).post z in
    let Run : List Val → SProp 𝓤 = λ ws. WpFn 𝓤 𝓛.H 𝓣.C 𝓣.Λ code.function ws Post in
    let params = owns (types_at f.signature.params z.0.0) z.0.3 z.0.4 in
    qed 𝓛 ((‵ ftrue ⊛ ‵ params) ∷ raw (fact 𝓤 (IsSome v.held)) ∷ []) ∵ split ! $ drop ! $ fsplit ! $
    slot_out ! v vs (λ word. move ! (1 ∷ []) $ fsplit ! $ handle_tells al ! a z.0.4.1.0 (λ h handle fits.
    -- [the handle; what the slot owns; that it is open]
    keep ! (0 ∷ 2 ∷ 3 ∷ []) $ move ! (1 ∷ 2 ∷ []) $ filled ! v.at v.held (λ x b o is_some placed.
    let w : Val = one (vptr b o) in
    let words : vs ≡ w ∷ [] = subst (λ (p : Ptr). vs ≡ one (ptr_val p) ∷ []) placed word in
    let whole_word = sym (λ i. words i ++ (handle i ++ [])) in
    let two_words = subst (λ (ts : List Val). ent 𝓤 (Run (w ∷ h ∷ [])) (Run ts)) whole_word in
    suffices ! (Run (w ∷ h ∷ [])) (two_words (id⊢ 𝓤 (Run (w ∷ h ∷ [])))) $
    enter ! 𝓣.C 𝓣.Λ code.function (w ∷ h ∷ []) Post $
    alloc_all ! (λ l. pass_all ! refl ((tt, (tt, tt)), (fits, tt)) $
    let good = loose_good held_row Z heap_laws.the_row_laws ghosts b o h fits in
    sets ! (of_opd ! (get_in ! (fld ! refl (stop !)) (sub ! 0 refl (whole !)))) refl (tt, tt) $
    sets ! (of_opd ! (get ! refl)) refl (tt, tt) $
    sets ! (agg ! (and_then ! (get ! refl) (and_then ! (get ! refl) (no_more !)))) refl good $
    returns ! (look_at ! 0 refl) $ free_all ! refl $
    loose_in held_row Z heap_laws.the_row_laws ghosts ! b o h a x $
    let made : Given.Denot = record { at = block_ptr b o; alloc = a; value = x } in
    suffices ! _ (ends_at 𝓛 f.ended stays c z (both (vptr b o) h) made (tt, (tt, tt)) (tt, (tt, tt))) $
    says ! is_some $ nothing ! $ nothing ! $ join ! $ nothing ! $ join ! $ nothing ! $ done !)))))
