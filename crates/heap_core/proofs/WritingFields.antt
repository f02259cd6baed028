-- What a written field changes in the heap.
use Rattle.std.proofs.Common.{◌≡◌, ◌<◌, ℕ, zero, suc, Bool, true, false, List, [], ◌∷◌, length, Option, Some, None}
use Rattle.std.proofs.Common.{if◌then◌else◌, option_map, refl, sym, ◌∙◌, ap, subst, arith}
use Rattle.std.proofs.lemmas.List.{length-map}
use Rattle.std.specs.Option.{ForSome}
use Rattle.gz_names.specs.declared.numbers.Place.{Place}
use Rattle.cell_bits.specs.declared.bits.Bits.{Bits}
use Rattle.arena_table.specs.Cells.{CellState, with_value}
use Rattle.arena_table.specs.Slots.{Arena, cell_at, change_at, change_cell, with_field}
use Rattle.arena_table.specs.Table.{ArenasState, is_place}
use Rattle.arena_table.proofs.Changing.{length-change_at}
use Rattle.heap_core.specs.Shape.{ArenaShape, AreWhole, Shape, IsPresent, arena_shape, arena_shapes, is_white}
use Rattle.heap_core.specs.Heap.{HeapState, bits_of}
use Rattle.heap_core.specs.Changes.{Writes}
use Rattle.heap_core.proofs.Views.{with_state}
use Rattle.heap_core.proofs.MakingCells.{cells-seen, stored-seen, whole-change, colours-change, out_at, out-change}
use Rattle.heap_core.proofs.MakingCells.{visible, zone_at, zone-change}

-- a present cell lies in an arena
pub present-within : (s : Shape) (xs : List Arena) (p : Place) → s.arenas ≡ arena_shapes xs → IsPresent s p
    → p.0 < length xs
present-within s xs p e h = by xs p.0 (subst (λ (ss : List ArenaShape). IsPresent (record s { arenas = ss }) p) e h)
  where
    by : (ys : List Arena) (a : ℕ) → IsPresent (record s { arenas = arena_shapes ys }) (a, p.1) → a < length ys
    by [] a k = absurd (cc k)
    by (y ∷ ys) zero k = omega arith
    by (y ∷ ys) (suc a) k = (let rest = by ys a k in omega arith)

pub values-within : (h k : HeapState) (s : ArenasState) (v : Option Place) → with_state h s ≡ k
    → ForSome v (IsPresent k.shape) → ForSome v (λ p. p.0 < length s.arenas)
values-within h k s v e held = λ p f. present-within (with_state h s).shape s.arenas p refl
    (subst (λ (k : HeapState). IsPresent k.shape p) (sym e) (held p f))

-- a change of a cell is seen where the cell is
visible-map : (g : CellState → CellState) (o : Option Bits) (k : ℕ) (c : Option CellState)
    → visible o k (option_map g c) ≡ option_map g (visible o k c)
visible-map g None k c = refl
visible-map g (Some b) k c = by (is_white b k)
  where
    by : (t : Bool) → (if t then None else option_map g c) ≡ option_map g (if t then None else c)
    by true = refl
    by false = refl

pub writes-seen : (h k : HeapState) (s t : ArenasState) (p : Place) (f : ℕ) (v : Option Place) → with_state h s ≡ k
    → t ≡ record s { arenas = change_at (with_field p.1 f v) s.arenas p.0 }
    → ((q : Place) → cell_at t.arenas q
    ≡ (if is_place q p then option_map (with_value f v) (cell_at s.arenas q) else cell_at s.arenas q))
    → Writes k p f v (with_state h t)
writes-seen h k s t p f v e t_is cells = subst (λ (k : HeapState). Writes k p f v (with_state h t)) e (record {
  rest = ap (λ bs. record (with_state h t) { colours = bs })
      (ap bits_of arenas ∙ colours-change (with_field p.1 f v) (λ x. refl) s.arenas p.0)
      ∙ (ap (λ n. record (with_state h t) { colours = bits_of s.arenas; made = n })
      (ap (λ (x : ArenasState). x.made) t_is)
      ∙ ap (λ d. record (with_state h t) { colours = bits_of s.arenas; made = s.made; delayed = d })
      (ap (λ (x : ArenasState). x.delayed) t_is));
  sized = length-map t.arenas arena_shape
      ∙ (ap length arenas ∙ (length-change_at (with_field p.1 f v) s.arenas p.0
      ∙ sym (length-map s.arenas arena_shape)));
  zones = λ q. ap (λ ys. zone_at ys q.0) arenas ∙ zone-change (with_field p.1 f v) (λ x. refl) s.arenas p.0 q.0;
  outs = λ a. ap (λ ys. out_at ys a) arenas ∙ out-change (with_field p.1 f v) (λ x. refl) s.arenas p.0 a;
  cells = λ q. cells-seen (with_state h t).shape t.arenas q refl
      ∙ (ap (λ o. visible o q.1 (cell_at t.arenas q))
      (ap (λ ys. out_at ys q.0) arenas ∙ out-change (with_field p.1 f v) (λ x. refl) s.arenas p.0 q.0)
      ∙ (ap (visible (out_at s.arenas q.0) q.1) (cells q)
      ∙ (by q (is_place q p) ∙ ap (λ c. if is_place q p then option_map (with_value f v) c else c)
      (sym (cells-seen (with_state h s).shape s.arenas q refl)))));
  stored = λ q. stored-seen (with_state h t).shape t.arenas q refl
      ∙ (cells q ∙ ap (λ c. if is_place q p then option_map (with_value f v) c else c)
      (sym (stored-seen (with_state h s).shape s.arenas q refl)));
  whole = λ w. subst (λ ys. AreWhole (arena_shapes ys)) (sym arenas)
      (whole-change (with_field p.1 f v) (λ x. length-change_at (change_cell (with_value f v)) x.slots p.1) s.arenas p.0
      w);
})
  where
    arenas : t.arenas ≡ change_at (with_field p.1 f v) s.arenas p.0
    arenas = ap (λ (x : ArenasState). x.arenas) t_is

    by : (q : Place) (b : Bool)
        → visible (out_at s.arenas q.0) q.1 (if b then option_map (with_value f v) (cell_at s.arenas q)
        else cell_at s.arenas q)
        ≡ (if b then option_map (with_value f v) (visible (out_at s.arenas q.0) q.1 (cell_at s.arenas q))
        else visible (out_at s.arenas q.0) q.1 (cell_at s.arenas q))
    by q true = visible-map (with_value f v) (out_at s.arenas q.0) q.1 (cell_at s.arenas q)
    by q false = refl
