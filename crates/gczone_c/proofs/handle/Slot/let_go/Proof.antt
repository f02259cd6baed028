-- `let_go` drops a null pointer, which owns nothing.
use Rattle.std.proofs.Common.{◌≡◌, List, [], ◌∷◌, ◌++◌, refl, sym, subst, lit<}
use Rattle.std.specs.Prelude.{None, Option}
use Rattle.std.proofs.raw_atomic.Walks.{proved_at}
use mir.Val.{Val, vunit}
use base.Logic.{SProp, ent, id⊢}
use base.Fml.{ftrue}
use prog.Wp.{WpFn}
use contract.Monad.{fact}
use contract.Running.{tables}
use types.Kit.{‵, raw, ◌⊛◌, ◌$◌, ◌∵◌, !, qed, join, done, drop, move, split, fsplit, feq_i, feq_l, suffices, rewrite}
use types.Kit.{group}
use types.Run.{enter, of_opd, unit_lit, returns}
use types.ByLocal.{alloc_all, pass_all, free_all, look_at, sets}
use denote.Exit.{yes}
use denote.RattleType.{owns}
use denote.RawPtr.{Ptr, null_ptr, ptr_val}
use denote.Signature.{plain, types_at}
use denote.Steps.{nothing, heard}
use denote.Triple.Walked.{Stays, AllGo, walk_of, stay_dropped, Goes-dropped, ends_at}
use Rattle.gczone_c.specs.Owned.{owns_box}
use Rattle.gczone_c.specs.declared.held.Held.{Held}
use Rattle.gczone_c.specs.contracts.held.Held.{the_row as held_row}
use Rattle.gczone_c.proofs.Slots.{one, slot_out, SlotRow}
use Rattle.gczone_c.specs.contracts.handle.Slot.let_go as f
use Rattle.gczone_c.proofs.handle.Slot.let_go.Statement.{statement}
use Rattle.gczone_c.proofs.handle.Slot.let_go.Code as code

abbrev stays : Stays f.ended.signature.params f.ended.kept
stays = (stay_dropped (plain (λ _. SlotRow)) yes, tt)

pub let_go_spec : {M : Type 1} → statement M
let_go_spec 𝓤 𝓛 𝓜 𝓡 wired =
    let c = f.clauses 𝓛 𝓜.mem 𝓡.returns in
    let 𝓣 = tables 𝓤 𝓛.H 𝓜 𝓡 𝓡.env in
    let goes : AllGo 𝓛 f.signature.lifetimes f.signature.params f.ended.kept stays =
    (Goes-dropped 𝓛 0 (plain (λ _. SlotRow)) yes (λ κs x w. refl), tt) in
    proved_at 𝓛 f.ended stays c 𝓜 𝓡 goes f.Key.name code.function (code.unfolded 𝓤 𝓛.H 𝓜 𝓡 wired) (λ z are.
    let v = z.0.3.0 in
    let vs = z.0.4.0 in
    let Post : Val → SProp 𝓤 = (walk_of 𝓛 f.ended stays c).post z in
    let Run : List Val → SProp 𝓤 = λ us. WpFn 𝓤 𝓛.H 𝓣.C 𝓣.Λ code.function us Post in
    let w : Val = one (ptr_val null_ptr) in
    let params = owns (types_at f.signature.params z.0.0) z.0.3 z.0.4 in
    qed 𝓛 ((‵ ftrue ⊛ ‵ params) ∷ raw (fact 𝓤 (v.held ≡ None)) ∷ []) ∵ split ! $ drop ! $ fsplit ! $
    slot_out ! v vs (λ word. move ! (2 ∷ []) $ heard ! _ (λ is_none.
    rewrite ! 0 (λ (h : Option Held). ‵ (owns_box held_row v.at h)) is_none refl $ feq_l ! (λ is_null. drop ! $
    let words : vs ≡ w ∷ [] = subst (λ (p : Ptr). vs ≡ one (ptr_val p) ∷ []) is_null word in
    let one_word = subst (λ (us : List Val). ent 𝓤 (Run (w ∷ [])) (Run us)) (sym (λ i. words i ++ [])) in
    suffices ! (Run (w ∷ [])) (one_word (id⊢ 𝓤 (Run (w ∷ [])))) $
    enter ! 𝓣.C 𝓣.Λ code.function (w ∷ []) Post $
    alloc_all ! (λ l. pass_all ! refl ((tt, (record { fits = lit< tt }, tt)), tt) $
    sets ! (of_opd ! (unit_lit !)) refl (tt, tt) $ returns ! (look_at ! 0 refl) $ free_all ! refl $
    suffices ! _ (ends_at 𝓛 f.ended stays c z vunit tt (tt, tt) (tt, tt)) $
    nothing ! $ feq_i ! _ (vunit ∷ []) _ refl $ nothing ! $ nothing ! $ join ! $ nothing ! $ group ! 3 $ done !)))))
