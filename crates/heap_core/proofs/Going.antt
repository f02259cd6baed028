-- Cells of a zone are carried where moves take them, by what each call does.
use Rattle.std.proofs.Common.{◌≡◌, ◌⊎◌, ◌<◌, ◌==◌, ℕ, List, length, map, Contains, IsSome, None, option_map, slice_get}
use Rattle.std.proofs.Common.{if◌then◌else◌, sym, ◌∙◌, ap, subst, arith}
use Rattle.std.proofs.lemmas.List.{length-map}
use Rattle.std.proofs.lemmas.List.Elements.{All-contains_itself, All-weaker}
use Rattle.gz_names.specs.declared.moves.Move.{Move}
use Rattle.gz_names.specs.declared.numbers.Place.{Place}
use Rattle.gz_names.specs.declared.zone_sets.ZoneSet.{ZoneSet}
use Rattle.arena_table.specs.Indexed.{is_owned}
use Rattle.arena_table.specs.Moving.{GoInside, MayMove, MovesCells, all_forwarded, forwarded, in_zone}
use Rattle.arena_table.specs.Slots.{Arena, cell_at}
use Rattle.arena_table.specs.Table.{ArenasState}
use Rattle.wrappers.specs.WrapperMaps.{WrappersState}
use Rattle.weak_maps.specs.Moving.{table_forwarded}
use Rattle.weak_maps.specs.WeakMaps as weak
use Rattle.heap_core.specs.Heap.{HeapState, bits_of}
use Rattle.heap_core.specs.Moving.{Carries, Forwards, LeadsInto, MayForward, bare, wrappers_forwarded, zones_now}
use Rattle.heap_core.specs.Shape.{arena_shapes}
use Rattle.heap_core.specs.TargetZones.{AreTargetsNoted}
use Rattle.heap_core.proofs.Arrived.{Arrives, arrived, carries, noted-arrived}
use Rattle.heap_core.proofs.Carrying.{stands-gone}
use Rattle.heap_core.proofs.Leading.{IsCarried, MayCarry, carried-by, all-mine, gone-listed, leads, may-move, seen-kept}

-- moves that take cells to arenas that were made
pub inside-moves : (xs : List Arena) (moves : List Move) → ((m : Move) → Contains moves m → m.to.0 < length xs)
    → GoInside xs moves
inside-moves xs moves made =
    All-weaker (Contains moves) (λ m. m.to.0 < length xs) made moves (All-contains_itself moves)

pub inside-after : (xs ys : List Arena) (moves : List Move) → MayMove xs moves → MovesCells xs moves ys
    → GoInside ys moves
inside-after xs ys moves goes went = inside-moves ys moves
    (λ m has. (let made = goes.made m has in let same = went.sized in omega (arith, made, same)))

-- the cells went, and those of the zone lead to where cells have gone
pub record GoesInside (h : HeapState) (s t u : ArenasState) (zone : ℕ) (moves : List Move) : Type 0 where
  pub carried : IsCarried h s.arenas zone moves
  pub went : MovesCells s.arenas moves t.arenas
  pub inner_is : u ≡ record t { arenas = in_zone (all_forwarded moves) zone t.arenas }
  pub inner : (p : Place) → cell_at u.arenas p ≡ (if is_owned zone (slice_get t.arenas p.0)
      then option_map (forwarded moves) (cell_at t.arenas p) else cell_at t.arenas p)

-- others lead to where cells have gone, by the lists of the wrappers then
pub record OthersGo (h : HeapState) (s u v : ArenasState) (noted : List ZoneSet) (zone : ℕ) (moves : List Move) :
    Type 0 where
  pub are_noted : AreTargetsNoted s.arenas noted
  pub others : Forwards (LeadsInto (wrappers_forwarded moves zone h.shape.wrappers) noted zone) moves u v
  pub entries : weak.IsSound (table_forwarded moves h.shape.weak)

module _ (h : HeapState) (s t u : ArenasState) (zone : ℕ) (moves : List Move) (c : GoesInside h s t u zone moves) where
  abbrev pub gone_wrappers : WrappersState
  gone_wrappers = wrappers_forwarded moves zone h.shape.wrappers

  goes : MayMove s.arenas moves
  goes = may-move h.shape s.arenas c.carried.seen c.carried.may.kept zone moves c.carried.are

  inner-arenas : u.arenas ≡ in_zone (all_forwarded moves) zone t.arenas
  inner-arenas = ap (λ (x : ArenasState). x.arenas) c.inner_is

  -- others may be forwarded then
  pub may-forward-others : MayForward u.arenas gone_wrappers moves
  may-forward-others = record {
    standing = λ z k p at. (let q = gone-listed h s.arenas zone moves c.carried z k p at in
        subst (λ (r : Place). IsSome (cell_at u.arenas r)) q.2
        (stands-gone s.arenas t.arenas u.arenas zone moves goes c.went c.inner q.0
        (subst IsSome (seen-kept h.shape s.arenas c.carried.seen c.carried.may.kept q.0) q.1)));
    inside = inside-moves u.arenas moves (λ m has. (let made = goes.made m has in
        let long = ap length inner-arenas
        ∙ length-map t.arenas (λ (x : Arena). if x.zone == zone then all_forwarded moves x else x) in
        let same = c.went.sized in omega (arith, made, long, same)));
    clear = goes.apart.clear;
  }

  -- and what leads into the zone leads to where cells have gone
  pub arrives : (noted : List ZoneSet) (v : ArenasState) → OthersGo h s u v noted zone moves
      → Arrives h s.arenas t.arenas v.arenas zone moves (LeadsInto gone_wrappers noted zone)
  arrives noted v o = record {
    carried = c.carried;
    gone = record {
      order = c.carried.order;
      may = goes;
      mine = all-mine h.shape s.arenas c.carried.seen c.carried.may.kept zone moves c.carried.are;
      went = c.went;
      inner = λ p. ap (λ xs. cell_at xs p) (sym inner-arenas) ∙ c.inner p;
      those = λ p is. o.others.those p is ∙ ap (λ xs. option_map (forwarded moves) (cell_at xs p)) inner-arenas;
      others = λ p. subst (λ xs. (cell_at v.arenas p ≡ cell_at xs p)
          ⊎ (cell_at v.arenas p ≡ option_map (forwarded moves) (cell_at xs p))) inner-arenas (o.others.others p);
      leads = leads h s.arenas zone moves c.carried noted o.are_noted;
    };
    kept = o.others.kept ∙ ap (map bare) inner-arenas;
    entries = o.entries;
  }

-- the arenas before, when cells went, when those of the zone lead to where cells have gone, and when others do
pub record Steps : Type 0 where
  pub before : ArenasState
  pub gone : ArenasState
  pub inner : ArenasState
  pub done : ArenasState

-- what the calls of a move did to all that names cells, from the parts of a heap
pub record CallsMove (h b : HeapState) (a : Steps) (noted : List ZoneSet) (zone : ℕ) (moves : List Move) : Type 0 where
  pub is : b ≡ h
  pub seen : b.shape.arenas ≡ arena_shapes a.before.arenas
  pub coloured : b.colours ≡ bits_of a.before.arenas
  pub made : b.made ≡ a.before.made
  pub delayed : b.delayed ≡ a.before.delayed
  pub may : MayCarry h zone moves
  pub went : MovesCells a.before.arenas moves a.gone.arenas
  pub went_is : a.gone ≡ record a.before { arenas = a.gone.arenas; reserved = None }
  pub inner_is : a.inner ≡ record a.gone { arenas = in_zone (all_forwarded moves) zone a.gone.arenas }
  pub inner : (p : Place) → cell_at a.inner.arenas p ≡ (if is_owned zone (slice_get a.gone.arenas p.0)
      then option_map (forwarded moves) (cell_at a.gone.arenas p) else cell_at a.gone.arenas p)
  pub wrappers : WrappersState
  pub wrappers_are : wrappers ≡ wrappers_forwarded moves zone b.shape.wrappers
  pub others : Forwards (LeadsInto wrappers noted zone) moves a.inner a.done
  pub are_noted : AreTargetsNoted a.before.arenas noted
  pub entries : weak.IsSound (table_forwarded moves b.shape.weak)

module _ (h b : HeapState) (a : Steps) (noted : List ZoneSet) (zone : ℕ) (moves : List Move)
    (c : CallsMove h b a noted zone moves) where
  carried : IsCarried h a.before.arenas zone moves
  carried = carried-by h b a.before.arenas zone moves c.is c.seen c.coloured c.may

  goes-inside : GoesInside h a.before a.gone a.inner zone moves
  goes-inside = record { carried = carried; went = c.went; inner_is = c.inner_is; inner = c.inner }

  wrappers-gone : c.wrappers ≡ wrappers_forwarded moves zone h.shape.wrappers
  wrappers-gone = c.wrappers_are ∙ ap (λ (x : HeapState). wrappers_forwarded moves zone x.shape.wrappers) c.is

  arrived-there : Arrives h a.before.arenas a.gone.arenas a.done.arenas zone moves
      (LeadsInto (wrappers_forwarded moves zone h.shape.wrappers) noted zone)
  arrived-there = arrives h a.before a.gone a.inner zone moves goes-inside noted a.done (record {
    are_noted = c.are_noted;
    others = subst (λ (w : WrappersState). Forwards (LeadsInto w noted zone) moves a.inner a.done) wrappers-gone
        c.others;
    entries = subst (λ (x : HeapState). weak.IsSound (table_forwarded moves x.shape.weak)) c.is c.entries;
  })

  pub noted-moved : AreTargetsNoted a.done.arenas noted
  noted-moved = noted-arrived h a.before.arenas a.gone.arenas a.done.arenas zone moves
      (LeadsInto (wrappers_forwarded moves zone h.shape.wrappers) noted zone) arrived-there noted c.are_noted

  made-same : a.done.made ≡ b.made
  made-same = ap (λ (x : ArenasState). x.made) c.others.rest ∙ ap (λ (x : ArenasState). x.made) c.inner_is
      ∙ ap (λ (x : ArenasState). x.made) c.went_is ∙ sym c.made

  delayed-same : a.done.delayed ≡ b.delayed
  delayed-same = ap (λ (x : ArenasState). x.delayed) c.others.rest ∙ ap (λ (x : ArenasState). x.delayed) c.inner_is
      ∙ ap (λ (x : ArenasState). x.delayed) c.went_is ∙ sym c.delayed

  -- the heap that the calls leave
  pub carries-moved : Carries (zones_now h) h zone moves (record (arrived b a.done.arenas zone moves) {
    shape = record (arrived b a.done.arenas zone moves).shape { wrappers = c.wrappers };
    made = a.done.made;
    delayed = a.done.delayed;
  })
  carries-moved = subst (Carries (zones_now h) h zone moves) (sym (after ∙ ap
      (λ (x : HeapState). arrived x a.done.arenas zone moves) c.is))
      (carries h a.before.arenas a.gone.arenas a.done.arenas zone moves
      (LeadsInto (wrappers_forwarded moves zone h.shape.wrappers) noted zone) arrived-there)
    where
      after : record (arrived b a.done.arenas zone moves) {
        shape = record (arrived b a.done.arenas zone moves).shape { wrappers = c.wrappers };
        made = a.done.made;
        delayed = a.done.delayed;
      } ≡ arrived b a.done.arenas zone moves
      after = λ j. record (arrived b a.done.arenas zone moves) {
        shape = record (arrived b a.done.arenas zone moves).shape { wrappers = c.wrappers_are j };
        made = made-same j;
        delayed = delayed-same j;
      }
