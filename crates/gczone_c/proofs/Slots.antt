-- A `Slot` as machine values. Assumes `Logic`.
--     one, one_good           the one word of a slot
--     slot_out, slot_in       a slot by value is what its pointer owns
--     filled                  the pointer of a slot that holds a box is not null
use Rattle.std.proofs.Common.{◌≡◌, List, [], ◌∷◌, ◌++◌, refl, subst}
use Rattle.std.specs.Prelude.{ℕ, Option, None, Some, IsSome}
use Rattle.std.specs.Box.Ownership.{box_owns}
use Rattle.std.proofs.lemmas.Bool.{false≢true}
use seplogic.Ra.Ura.{Ura}
use mir.Raw.{raw as bare}
use mir.Val.{Val, vstruct, vcons, vnil, of_list}
use base.Fml.{Fml}
use base.Logic.{never, fst∗}
use contract.Monad.{fact}
use types.Logic.{Logic, sem}
use types.Kit.{Item, Goal, Seq, Step, step, ‵, raw, ◌$◌, move, drop, fsplit, fjoin, fpick, fpack, feq_i, feq_l}
use denote.Memory.{lone}
use denote.RattleType.{RattleType, Valss}
use denote.Builtin.{RawPtr}
use denote.RawPtr.{Ptr, block_ptr, null_ptr, ptr_val, in_a_block}
use denote.Steps.{nothing, heard}
use denote.Struct.Struct.{within}
use denote.Struct.Owning.{shape}
use Rattle.gczone_c.specs.Owned.{may_free, owns_box}
use Rattle.gczone_c.specs.declared.held.Held.{Held}
use Rattle.gczone_c.specs.contracts.held.Held.{the_row as held_row}
use Rattle.gczone_c.specs.contracts.handle.Slot as slot

abbrev pub one : Val → Val
one v = vstruct (vcons v vnil)

abbrev pub SlotRow : RattleType
SlotRow = slot.the_row

abbrev owned : Held → Ptr → Fml
owned x p = box_owns may_free held_row p x

module _ {M : Type 1} {𝓤 : Ura M} {𝓛 : Logic 𝓤} {K : Type 0} {Γ : List (Item 𝓤)} {G : Goal 𝓤 𝓛.H} where
  pub slot_out : K → (d : SlotRow.Denot) (vs : List Val)
      → (vs ≡ one (ptr_val d.at) ∷ [] → Seq K 𝓛 (‵ (owns_box held_row d.at d.held) ∷ Γ) G)
      → Seq K 𝓛 (‵ (SlotRow.own_val d vs) ∷ Γ) G
  slot_out t d vs k =
      fsplit t $ fpick t (λ vss. fsplit t $ feq_l t (λ whole. fsplit t $ feq_l t (λ pointer. drop t $
      k (subst (λ (ps : List Val). vs ≡ vstruct (of_list (ps ++ [])) ∷ []) pointer whole))))

  pub slot_in : K → (p : Ptr) (held : Option Held)
      → Step K 𝓛 (‵ (SlotRow.own_val (record { at = p; held = held }) (one (ptr_val p) ∷ [])) ∷ Γ) G
      (‵ (owns_box held_row p held) ∷ Γ) G
  slot_in t p held = step (λ s.
      let word : Val = one (ptr_val p) in
      nothing t $ feq_i t (List Val) (ptr_val p ∷ []) (ptr_val p ∷ []) refl $
      fjoin t $ feq_i t (List Val) (word ∷ []) (word ∷ []) refl $ fjoin t $
      fpack t (Valss (RawPtr ∷ [])) (within (shape slot.the_type) (p, tt) (word ∷ [])) (ptr_val p ∷ [], tt) $
      fjoin t $ s)

  pub filled : K → (p : Ptr) (held : Option Held)
      → ((x : Held) (b o : ℕ) → held ≡ Some x → p ≡ block_ptr b o → Seq K 𝓛 (‵ (owned x (block_ptr b o)) ∷ Γ) G)
      → Seq K 𝓛 (‵ (owns_box held_row p held) ∷ raw (fact 𝓤 (IsSome held)) ∷ Γ) G
  filled t p None k = move t (1 ∷ []) $ heard t (IsSome {T = Held} None) (λ bad. absurd (false≢true bad))
  filled t p (Some x) k =
      let lost = sem 𝓛 (may_free (bare (lone (held_row).mir)) null_ptr) in
      move t (1 ∷ []) $ drop t $ in_a_block t p (owned x) (fst∗ 𝓤 (never 𝓤) lost) (λ b o placed. k x b o refl placed)
