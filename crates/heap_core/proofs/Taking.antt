-- What sweeping leaves of the cells that stand in arenas.
use Rattle.std.proofs.Common.{◌≡◌, ◌==◌, ◌&&◌, ◌∙◌, ℕ, Option, None, ap, sym, subst, refl, if◌then◌else◌}
use Rattle.std.specs.Int.{bit_at}
use Rattle.gz_names.specs.declared.numbers.Place.{Place}
use Rattle.arena_table.specs.Cells.{CellState}
use Rattle.arena_table.specs.Slots.{cell_at}
use Rattle.arena_table.specs.Table.{ArenasState}
use Rattle.heap_core.specs.Heap.{HeapState}
use Rattle.heap_core.specs.Shape.{stored_at}
use Rattle.heap_core.proofs.MakingCells.{stored-seen}
use Rattle.heap_core.proofs.Views.{with_state}

-- an arena taken in has lost the cells of a word, and no other arena has lost any
pub taken-stored : (h k : HeapState) (s t : ArenasState) (a freed : ℕ) → with_state h s ≡ k
    → ((p : Place) → cell_at t.arenas p ≡ (if (p.0 == a) && (bit_at freed p.1 == 1) then None else cell_at s.arenas p))
    → (p : Place) → stored_at (with_state h t).shape p
    ≡ (if (p.0 == a) && (bit_at freed p.1 == 1) then None else stored_at k.shape p)
taken-stored h k s t a freed v cells p =
    subst (λ (j : HeapState). stored_at (with_state h t).shape p
    ≡ (if (p.0 == a) && (bit_at freed p.1 == 1) then None else stored_at j.shape p)) v
    (stored-seen (with_state h t).shape t.arenas p refl
    ∙ (cells p ∙ ap (λ (o : Option CellState). if (p.0 == a) && (bit_at freed p.1 == 1) then None else o)
    (sym (stored-seen (with_state h s).shape s.arenas p refl))))

-- arenas handed to sweeping keep their cells
pub handed-stored : (h k : HeapState) (s t : ArenasState) → with_state h s ≡ k
    → ((p : Place) → cell_at t.arenas p ≡ cell_at s.arenas p) → (p : Place)
    → stored_at (with_state h t).shape p ≡ stored_at k.shape p
handed-stored h k s t v cells p =
    subst (λ (j : HeapState). stored_at (with_state h t).shape p ≡ stored_at j.shape p) v
    (stored-seen (with_state h t).shape t.arenas p refl
    ∙ (cells p ∙ sym (stored-seen (with_state h s).shape s.arenas p refl)))
