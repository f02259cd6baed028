use Rattle.std.proofs.Common.{◌≡◌, ◌≤◌, ◌∙◌, ℕ, List, arith, length, subst, sym}
use Rattle.arena_table.specs.Sets.{arena_bit}
use Rattle.arena_table.specs.Slots.{Arena}
use Rattle.arena_table.specs.Indexed.{IndexState, IsIndexed, words_at}
use Rattle.arena_table.proofs.arenas.make_room.Goals as goal

-- sets with the same bits and more room say the same
indexed_more : (arenas new_arenas : List Arena) (old new : IndexState) → IsIndexed arenas old → new_arenas ≡ arenas
    → ((z : ℕ) → length (words_at old.open_ z) ≤ length (words_at new.open_ z))
    → ((z a : ℕ) → arena_bit (words_at new.owned z) a ≡ arena_bit (words_at old.owned z) a)
    → ((z a : ℕ) → arena_bit (words_at new.open_ z) a ≡ arena_bit (words_at old.open_ z) a) → IsIndexed new_arenas new
indexed_more arenas new_arenas old new h e kept owned open_bits = subst (λ l. IsIndexed l new) (sym e) (record {
  owned = record { zones = h.owned.zones; bits = λ z a l. owned z a ∙ h.owned.bits z a l };
  open_ = λ z a l. open_bits z a ∙ h.open_ z a l;
  covered = λ z a l o. (let k = h.covered z a l o in let m = kept z in omega (arith, k, m));
})

pub returns-clause-indexed : goal.returns-clause-indexed
returns-clause-indexed c = indexed_more _ _ _ _ c.requires c.reserve.ensures.same c.cover.ensures.open_kept
    c.cover.ensures.owned c.cover.ensures.open_

pub returns-in_err-cover-clause-indexed : goal.returns-in_err-cover-clause-indexed
returns-in_err-cover-clause-indexed c = indexed_more _ _ _ _ c.requires c.reserve.ensures.same
    c.cover.ensures.open_kept c.cover.ensures.owned c.cover.ensures.open_

pub returns-in_err-cover-2-clause-indexed : goal.returns-in_err-cover-2-clause-indexed
returns-in_err-cover-2-clause-indexed c = indexed_more _ _ _ _ c.requires c.reserve.ensures.same
    c.cover.ensures.open_kept c.cover.ensures.owned c.cover.ensures.open_

pub returns-in_err-cover-3-clause-indexed : goal.returns-in_err-cover-3-clause-indexed
returns-in_err-cover-3-clause-indexed c = indexed_more _ _ _ _ c.requires c.reserve.ensures.same
    c.cover.ensures.open_kept c.cover.ensures.owned c.cover.ensures.open_
