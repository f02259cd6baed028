-- What names cells names present ones, so that no two of what it names come to one place.
use Rattle.std.proofs.Common.{◌≡◌, ℕ, List, Contains, Option, Some, None, IsSome, inl, inr}
use Rattle.std.proofs.Common.{sym}
use Rattle.std.proofs.Common.{◌∙◌, ap, subst}
use Rattle.std.proofs.lemmas.Option.{none-some}
use Rattle.gz_names.specs.Moves.{GoApart}
use Rattle.gz_names.specs.declared.moves.Move.{Move}
use Rattle.gz_names.specs.declared.numbers.Place.{Place}
use Rattle.arena_table.specs.Cells.{CellState}
use Rattle.weak_maps.specs.Delegates.{DelegateRow}
use Rattle.weak_maps.specs.Moving.{IsNamed}
use Rattle.weak_maps.specs.WeakMaps as weak
use Rattle.weak_maps.specs.declared.entries.WeakEntry.{WeakEntry}
use Rattle.weak_maps.proofs.Forwarding.{GoApart-less}
use Rattle.heap_core.specs.Heap.{HeapState}
use Rattle.heap_core.specs.Moving.{AreCarried, MayRelocate}
use Rattle.heap_core.specs.Shape.{IsPresent, Shape, cell_of}

none-held : (o : Option CellState) → o ≡ None → IsSome o → ⊥
none-held None e held = cc held
none-held (Some cell) e held = none-some cell (sym e)

-- no cell stands where one goes
pub present-apart : (s : Shape) (zone : ℕ) (moves : List Move) → AreCarried s zone moves → GoApart (IsPresent s) moves
present-apart s zone moves are = record {
  apart = are.apart;
  free = λ p held goal. none-held (cell_of s p) (ap (cell_of s) (sym goal.2) ∙ are.free goal.0 goal.1) held;
  clear = λ p left goal. none-held (cell_of s p) (ap (cell_of s) (sym goal.2) ∙ are.free goal.0 goal.1)
      (subst (IsPresent s) left.2 (are.from left.0 left.1).0);
}

module _ (h : HeapState) (may : MayRelocate h) (zone : ℕ) (moves : List Move) (are : AreCarried h.shape zone moves)
  where
    pub watched-apart : GoApart (Contains h.weak_names.watched) moves
    watched-apart = GoApart-less (IsPresent h.shape) (Contains h.weak_names.watched) moves may.watched_held
        (present-apart h.shape zone moves are)

    module _ (sound : weak.IsSound h.shape.weak) where
      entry-present : (entry : WeakEntry) → Contains h.shape.weak.entries entry → IsPresent h.shape entry.map
          × IsPresent h.shape entry.key × IsPresent h.shape entry.value
      entry-present entry has =
          may.sound.1.entries_held entry.map entry.key entry.value ((sound.found entry.map entry.key entry.value).0 has)

      row-present : (row : DelegateRow) → Contains h.shape.weak.delegates.rows row → IsPresent h.shape row.map
          × IsPresent h.shape row.key × IsPresent h.shape row.target
      row-present row has =
          let value = sound.entered row has in
          let held = may.sound.1.entries_held row.map row.key value.0 value.1 in
          let leads = may.delegates row.map row.key value.0 row.target value.1 (sound.delegates.found row has) in (
            held.0,
            held.1,
            may.sound.1.fields_held row.key row.target 0 leads.1,
          )

      named-present : (p : Place) → IsNamed h.shape.weak p → IsPresent h.shape p
      named-present p (inl (entry, has, inl map)) = subst (IsPresent h.shape) map (entry-present entry has).0
      named-present p (inl (entry, has, inr (inl key))) = subst (IsPresent h.shape) key (entry-present entry has).1
      named-present p (inl (entry, has, inr (inr value))) = subst (IsPresent h.shape) value (entry-present entry has).2
      named-present p (inr (row, has, inl map)) = subst (IsPresent h.shape) map (row-present row has).0
      named-present p (inr (row, has, inr (inl key))) = subst (IsPresent h.shape) key (row-present row has).1
      named-present p (inr (row, has, inr (inr target))) = subst (IsPresent h.shape) target (row-present row has).2

      pub named-apart : GoApart (IsNamed h.shape.weak) moves
      named-apart = GoApart-less (IsPresent h.shape) (IsNamed h.shape.weak) moves named-present
          (present-apart h.shape zone moves are)
