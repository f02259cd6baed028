-- What keeps the zones of all targets noted.
use Rattle.std.proofs.Common.{◌≡◌, ◌<◌, ◌==◌, ◌&&◌, ◌++◌, ◌∷◌, ◌↔◌, ℕ, zero, suc, Bool, true, false, List, [], length}
use Rattle.std.proofs.Common.{replicate, Option, Some, None, IsSomeAnd, OnErr, OnOk, Result, Ok, Err, slice_get}
use Rattle.std.proofs.Common.{IsSome, is_some}
use Rattle.std.proofs.Common.{option_map, if◌then◌else◌, refl, sym, ◌∙◌, ap, subst}
use Rattle.std.specs.Int.{bit_at}
use Rattle.gz_names.specs.declared.commands.Kind.{Kind}
use Rattle.gz_names.specs.declared.commands.Kind.TheVariants as kind
use Rattle.gz_names.specs.declared.names.Name.{Name}
use Rattle.gz_names.specs.declared.numbers.CompNo.{CompNo}
use Rattle.gz_names.specs.declared.numbers.Place.{Place}
use Rattle.gz_names.specs.declared.zone_sets.ZoneSet.{ZoneSet}
use Rattle.cell_bits.specs.declared.bits.Bits.{Bits}
use Rattle.arena_table.specs.Cells.{CellState, field_count, field_of, with_value}
use Rattle.arena_table.specs.Indexed.{in_zones}
use Rattle.arena_table.specs.Slots.{Arena, cell_at, cell_in, change_at, empty_arena, handed_out, taken_in, with_bits}
use Rattle.arena_table.specs.Slots.{with_cell, with_field}
use Rattle.arena_table.specs.Table.{ArenasState, grown_to, in_these, is_place, new_cell, put_at}
use Rattle.wrappers.specs.TargetZones.{IsNoted}
use Rattle.heap_core.specs.Changes.{wrapper_cell}
use Rattle.wrappers.specs.WrapperMaps.{list_of}
use Rattle.wrappers.specs.declared.wrapper_maps.WrapperKey.{WrapperKey}
use Rattle.gz_names.specs.Zones.{HasZone}
use Rattle.heap_core.specs.Heap.{HeapState}
use Rattle.heap_core.specs.Shape.{IsPresent, Shape, cell_of, field_in, is_white, zone_of}
use Rattle.heap_core.specs.TargetZones.{AreTargetsNoted, IsListedWrapper, IsTargetNoted, IsWrapperOf, owner_in}
use Rattle.heap_core.proofs.MakingCells.{IsMade, cells-seen, out_at, put-kept, put-zone, visible, zone_at}
use Rattle.heap_core.proofs.Views.{with_state}
use Rattle.heap_core.proofs.Places.{place-is}

-- a wrapper of this target stood at this place
pub record StoodAt (xs : List Arena) (p target : Place) : Type 0 where
  pub cell : CellState
  pub at : cell_at xs p ≡ Some cell
  pub wraps : IsWrapperOf cell target

-- arenas keep their zones, no wrapper is new, and no zone is taken out
pub noted-kept : (xs ys : List Arena) (old new : List ZoneSet)
    → ((a zone : ℕ) → owner_in xs a ≡ Some zone → owner_in ys a ≡ Some zone)
    → ((p target : Place) (cell : CellState) → cell_at ys p ≡ Some cell → IsWrapperOf cell target → StoodAt xs p target)
    → ((a b : ℕ) → IsNoted old a b → IsNoted new a b)
    → AreTargetsNoted xs old → AreTargetsNoted ys new
noted-kept xs ys old new zones cells more noted = record {
  targets = λ p target cell at wraps.
      let was = cells p target cell at wraps in
      let is = noted.targets p target was.cell was.at was.wraps in
      record {
        from = is.from;
        to = is.to;
        from_is = zones p.0 is.from is.from_is;
        to_is = zones target.0 is.to is.to_is;
        is_noted = more is.from is.to is.is_noted;
      };
}

pub noted-none : (noted : List ZoneSet) → AreTargetsNoted [] noted
noted-none noted = record { targets = λ p target cell at wraps. absurd (cc at) }

-- the zones of arenas that are changed, and of those that are made
pub owner-change : (f : Arena → Arena) → ((x : Arena) → (f x).zone ≡ x.zone) → (xs : List Arena) (i a : ℕ)
    → owner_in (change_at f xs i) a ≡ owner_in xs a
owner-change f k [] i a = refl
owner-change f k (x ∷ xs) zero zero = ap (λ z. Some z) (k x)
owner-change f k (x ∷ xs) zero (suc a) = refl
owner-change f k (x ∷ xs) (suc i) zero = refl
owner-change f k (x ∷ xs) (suc i) (suc a) = owner-change f k xs i a

pub owner-these : (f : Arena → Arena) → ((x : Arena) → (f x).zone ≡ x.zone) → (word : ℕ) (xs : List Arena) (a : ℕ)
    → owner_in (in_these f word xs) a ≡ owner_in xs a
owner-these f k word [] a = refl
owner-these f k word (x ∷ xs) zero = by (in_zones word x.zone)
  where
    by : (t : Bool) → Some (if t then f x else x).zone ≡ Some x.zone
    by true = ap (λ z. Some z) (k x)
    by false = refl
owner-these f k word (x ∷ xs) (suc a) = owner-these f k word xs a

owner-more : (xs : List Arena) (zone a z : ℕ) → owner_in xs a ≡ Some z
    → owner_in (xs ++ empty_arena zone ∷ []) a ≡ Some z
owner-more [] zone a z e = absurd (cc e)
owner-more (x ∷ xs) zone zero z e = e
owner-more (x ∷ xs) zone (suc a) z e = owner-more xs zone a z e

owner-grown : (xs : List Arena) (zone b a z : ℕ) → owner_in xs a ≡ Some z → owner_in (grown_to xs zone b) a ≡ Some z
owner-grown xs zone b a z e = by (b == length xs)
  where
    by : (t : Bool) → owner_in (if t then xs ++ empty_arena zone ∷ [] else xs) a ≡ Some z
    by true = owner-more xs zone a z e
    by false = e

pub owner-put : (xs : List Arena) (zone : ℕ) (p : Place) (cell : CellState) (a z : ℕ) → owner_in xs a ≡ Some z
    → owner_in (put_at xs zone p cell) a ≡ Some z
owner-put xs zone p cell a z e = owner-change (with_cell p.1 cell) (λ x. refl) (grown_to xs zone p.0) p.0 a ∙
    owner-grown xs zone p.0 a z e

-- the zone of an arena that stands there
owner-there : (xs : List Arena) (a : ℕ) → IsSomeAnd (slice_get xs a) (λ x. x.is_out ≡ false)
    → owner_in xs a ≡ Some (zone_at xs a)
owner-there [] a k = absurd k
owner-there (x ∷ xs) zero k = refl
owner-there (x ∷ xs) (suc a) k = owner-there xs a k

-- the cells of arenas that keep their slots
cells-change : (f : Arena → Arena) → ((x : Arena) → (f x).slots ≡ x.slots) → (xs : List Arena) (i a k : ℕ)
    → cell_at (change_at f xs i) (a, k) ≡ cell_at xs (a, k)
cells-change f s [] i a k = refl
cells-change f s (x ∷ xs) zero zero k = ap (λ slots. cell_in slots k) (s x)
cells-change f s (x ∷ xs) zero (suc a) k = refl
cells-change f s (x ∷ xs) (suc i) zero k = refl
cells-change f s (x ∷ xs) (suc i) (suc a) k = cells-change f s xs i a k

cells-these : (f : Arena → Arena) → ((x : Arena) → (f x).slots ≡ x.slots) → (word : ℕ) (xs : List Arena) (a k : ℕ)
    → cell_at (in_these f word xs) (a, k) ≡ cell_at xs (a, k)
cells-these f s word [] a k = refl
cells-these f s word (x ∷ xs) zero k = by (in_zones word x.zone)
  where
    by : (t : Bool) → cell_in (if t then f x else x).slots k ≡ cell_in x.slots k
    by true = ap (λ slots. cell_in slots k) (s x)
    by false = refl
cells-these f s word (x ∷ xs) (suc a) k = cells-these f s word xs a k

stood-same : (xs ys : List Arena) → ((p : Place) → cell_at ys p ≡ cell_at xs p) → (p target : Place) (cell : CellState)
    → cell_at ys p ≡ Some cell → IsWrapperOf cell target → StoodAt xs p target
stood-same xs ys same p target cell at wraps = record { cell = cell; at = sym (same p) ∙ at; wraps = wraps }

pub noted-same : (xs ys : List Arena) (noted : List ZoneSet) → ((a : ℕ) → owner_in ys a ≡ owner_in xs a)
    → ((p : Place) → cell_at ys p ≡ cell_at xs p) → AreTargetsNoted xs noted → AreTargetsNoted ys noted
noted-same xs ys noted owners cells n = noted-kept xs ys noted noted (λ a z e. owners a ∙ e) (stood-same xs ys cells)
    (λ a b e. e) n

-- a cell is delayed, or is not any more
pub noted-delayed : (s t : ArenasState) (noted : List ZoneSet) → t ≡ record s { delayed = t.delayed }
    → AreTargetsNoted s.arenas noted → AreTargetsNoted t.arenas noted
noted-delayed s t noted is n = subst (λ (xs : List Arena). AreTargetsNoted xs noted)
    (sym (ap (λ (x : ArenasState). x.arenas) is)) n

-- bits are set or cleared, and arenas are handed to sweeping
pub noted-set_bits : (s t : ArenasState) (a : ℕ) (bits : Bits) (noted : List ZoneSet)
    → t ≡ record s { arenas = change_at (with_bits bits) s.arenas a } → AreTargetsNoted s.arenas noted
    → AreTargetsNoted t.arenas noted
noted-set_bits s t a bits noted is n = subst (λ (x : ArenasState). AreTargetsNoted x.arenas noted) (sym is)
    (noted-same s.arenas (change_at (with_bits bits) s.arenas a) noted
    (owner-change (with_bits bits) (λ x. refl) s.arenas a)
    (λ p. cells-change (with_bits bits) (λ x. refl) s.arenas a p.0 p.1) n)

pub noted-handed : (s t : ArenasState) (word : ℕ) (noted : List ZoneSet)
    → t ≡ record s { arenas = in_these handed_out word s.arenas; reserved = None } → AreTargetsNoted s.arenas noted
    → AreTargetsNoted t.arenas noted
noted-handed s t word noted is n = subst (λ (x : ArenasState). AreTargetsNoted x.arenas noted) (sym is)
    (noted-same s.arenas (in_these handed_out word s.arenas) noted (owner-these handed_out (λ x. refl) word s.arenas)
    (λ p. cells-these handed_out (λ x. refl) word s.arenas p.0 p.1) n)

pub noted-hand_out : {T E : Type 0} (s t : ArenasState) (word : ℕ) (noted : List ZoneSet) (result : Result T E)
    → OnOk result (t ≡ record s { arenas = in_these handed_out word s.arenas; reserved = None }) → OnErr result (t ≡ s)
    → AreTargetsNoted s.arenas noted → AreTargetsNoted t.arenas noted
noted-hand_out s t word noted (Ok x) ok err n = noted-handed s t word noted ok n
noted-hand_out s t word noted (Err e) ok err n = subst (λ (x : ArenasState). AreTargetsNoted x.arenas noted) (sym err) n

-- an arena comes back without some of its cells
pub noted-taken : (s t : ArenasState) (a freed : ℕ) (bits : Bits) (noted : List ZoneSet)
    → t ≡ record s { arenas = change_at (taken_in freed bits) s.arenas a; reserved = None }
    → ((p : Place) → cell_at t.arenas p ≡ (if (p.0 == a) && (bit_at freed p.1 == 1) then None else cell_at s.arenas p))
    → AreTargetsNoted s.arenas noted → AreTargetsNoted t.arenas noted
noted-taken s t a freed bits noted is cells n = noted-kept s.arenas t.arenas noted noted
    (λ b z e. ap (λ (x : ArenasState). owner_in x.arenas b) is ∙
    (owner-change (taken_in freed bits) (λ x. refl) s.arenas a b ∙ e))
    (λ p target cell at wraps. record {
      cell = cell;
      at = left p cell ((p.0 == a) && (bit_at freed p.1 == 1))
          (sym (cells p) ∙ at);
      wraps = wraps;
    })
    (λ b c e. e) n
  where
    left : (p : Place) (cell : CellState) (b : Bool) → (if b then None else cell_at s.arenas p) ≡ Some cell
        → cell_at s.arenas p ≡ Some cell
    left p cell true e = absurd (cc e)
    left p cell false e = e

-- a field of a cell that is no wrapper is written
pub noted-written : (s t : ArenasState) (place : Place) (f : ℕ) (v : Option Place) (noted : List ZoneSet)
    → t ≡ record s { arenas = change_at (with_field place.1 f v) s.arenas place.0 }
    → ((p : Place) → cell_at t.arenas p ≡ (if is_place p place then option_map (with_value f v) (cell_at s.arenas p)
    else cell_at s.arenas p)) → (option_map (λ (cell : CellState). cell.kind) (cell_at s.arenas place) ≡ Some
    kind.Wrapper → ⊥) → AreTargetsNoted s.arenas noted → AreTargetsNoted t.arenas noted
noted-written s t place f v noted is cells other n = noted-kept s.arenas t.arenas noted noted
    (λ b z e. ap (λ (x : ArenasState). owner_in x.arenas b) is ∙
    (owner-change (with_field place.1 f v) (λ x. refl) s.arenas place.0 b ∙ e))
    (λ p target cell at wraps. stood p target cell (is_place p place) refl (sym (cells p) ∙ at) wraps)
    (λ b c e. e) n
  where
    no_wrapper : (o : Option CellState) (target : Place) (cell : CellState)
        → (option_map (λ (c : CellState). c.kind) o ≡ Some kind.Wrapper → ⊥) → option_map (with_value f v) o ≡ Some cell
        → IsWrapperOf cell target → ⊥
    no_wrapper None target cell other e wraps = absurd (cc e)
    no_wrapper (Some c) target cell other e wraps = other
        (ap (λ (o : Option CellState). option_map (λ (d : CellState). d.kind) o) e ∙ ap (λ k. Some k) wraps.kind_is)

    stood : (p target : Place) (cell : CellState) (b : Bool) → is_place p place ≡ b
        → (if b then option_map (with_value f v) (cell_at s.arenas p) else cell_at s.arenas p) ≡ Some cell
        → IsWrapperOf cell target → StoodAt s.arenas p target
    stood p target cell true same e wraps =
        absurd (no_wrapper (cell_at s.arenas p) target cell
        (subst (λ (q : Place). option_map (λ (c : CellState). c.kind) (cell_at s.arenas q) ≡ Some kind.Wrapper → ⊥)
        (sym (place-is p place same)) other) e wraps)
    stood p target cell false same e wraps = record { cell = cell; at = e; wraps = wraps }

-- a cell is made: a wrapper, whose target's zone is noted, or a cell whose fields are null
pub record IsNotedWith (xs : List Arena) (noted : List ZoneSet) (zone : ℕ) (cell : CellState) : Type 0 where
  pub targets : (target : Place) → IsWrapperOf cell target
      → (to : ℕ) × (owner_in xs target.0 ≡ Some to) × IsNoted noted zone to

pub noted-made : (s t : ArenasState) (zone : ℕ) (p : Place) (cell : CellState) (old new : List ZoneSet)
    (is_kept : Bool) → IsMade s t zone p cell is_kept → IsNotedWith s.arenas new zone cell
    → ((a b : ℕ) → IsNoted old a b → IsNoted new a b)
    → AreTargetsNoted s.arenas old → AreTargetsNoted t.arenas new
noted-made s t zone p cell old new is_kept m with more n = record {
  targets = λ q target c at wraps. by q target c (is_place q p) refl (sym (stands q) ∙ at) wraps;
}
  where
    xs : List Arena
    xs = s.arenas

    owners : (a z : ℕ) → owner_in xs a ≡ Some z → owner_in t.arenas a ≡ Some z
    owners a z e = ap (λ ys. owner_in ys a) m.arenas_is ∙
        (owner-change (with_bits m.bits) (λ x. refl) m.put p.0 a ∙
        (ap (λ ys. owner_in ys a) m.put_is ∙ owner-put xs zone p cell a z e))

    stands : (q : Place) → cell_at t.arenas q ≡ (if is_place q p then Some cell else cell_at xs q)
    stands q = ap (λ ys. cell_at ys q) m.arenas_is ∙ (cells-change (with_bits m.bits) (λ x. refl) m.put p.0 q.0 q.1 ∙
        m.cells q)

    stays : IsSomeAnd (slice_get m.put p.0) (λ x. x.is_out ≡ false)
    stays = subst (λ ys. IsSomeAnd (slice_get ys p.0) (λ x. x.is_out ≡ false)) (sym m.put_is)
        (put-kept xs zone p cell m.place_is)

    here : owner_in t.arenas p.0 ≡ Some zone
    here = ap (λ ys. owner_in ys p.0) m.arenas_is ∙ (owner-change (with_bits m.bits) (λ x. refl) m.put p.0 p.0 ∙
        (owner-there m.put p.0 stays ∙ ap (λ z. Some z)
        (ap (λ ys. zone_at ys p.0) m.put_is ∙ put-zone xs zone p cell m.place_is)))

    by : (q target : Place) (c : CellState) (b : Bool) → is_place q p ≡ b
        → (if b then Some cell else cell_at xs q) ≡ Some c → IsWrapperOf c target → IsTargetNoted t.arenas new q target
    by q target c true same e wraps =
        let is : cell ≡ c = cc e in
        let to = with.targets target (subst (λ (d : CellState). IsWrapperOf d target) (sym is) wraps) in
        record {
          from = zone;
          to = to.0;
          from_is = ap (λ (r : Place). owner_in t.arenas r.0) (place-is q p same) ∙ here;
          to_is = owners target.0 to.0 to.1;
          is_noted = to.2;
        }
    by q target c false same e wraps =
        let is = n.targets q target c e wraps in
        record {
          from = is.from;
          to = is.to;
          from_is = owners q.0 is.from is.from_is;
          to_is = owners target.0 is.to is.to_is;
          is_noted = more is.from is.to is.is_noted;
        }

-- a cell whose fields are null is no wrapper of anything
pub null-noted : (xs : List Arena) (noted : List ZoneSet) (zone : ℕ) (k : Kind) (comp : CompNo) (name : Name)
    → IsNotedWith xs noted zone (new_cell k comp name)
null-noted xs noted zone k comp name = record {
  targets = λ target wraps. absurd
      (null (field_count k) target wraps.target_is);
}
  where
    null : (n : ℕ) (target : Place) → field_of (record {
      kind = k;
      comp = comp;
      name = name;
      fields = replicate n None;
    }) 0 ≡ Some target → ⊥
    null zero target e = cc e
    null (suc n) target e = cc e

pub wrapper-noted : (xs : List Arena) (noted : List ZoneSet) (zone : ℕ) (comp : CompNo) (number : ℕ) (target : Place)
    (to : ℕ) → owner_in xs target.0 ≡ Some to → IsNoted noted zone to
    → IsNotedWith xs noted zone (wrapper_cell comp number target)
wrapper-noted xs noted zone comp number target to owner is = record {
  targets = λ other wraps.
      let same : target ≡ other = cc wraps.target_is in
      (to, subst (λ (p : Place). owner_in xs p.0 ≡ Some to) same owner, is);
}

-- a cell that is seen stands in the arenas
visible-some : (out : Option Bits) (k : ℕ) (o : Option CellState) (cell : CellState) → visible out k o ≡ Some cell
    → o ≡ Some cell
visible-some None k o cell e = e
visible-some (Some bits) k o cell e = by (is_white bits k) e
  where
    by : (b : Bool) → (if b then None else o) ≡ Some cell → o ≡ Some cell
    by true e = absurd (cc e)
    by false e = e

stands-seen : (h k : HeapState) (s : ArenasState) (p : Place) (cell : CellState) → with_state h s ≡ k
    → cell_of k.shape p ≡ Some cell → cell_at s.arenas p ≡ Some cell
stands-seen h k s p cell view at = visible-some (out_at s.arenas p.0) p.1 (cell_at s.arenas p) cell
    (sym (cells-seen (with_state h s).shape s.arenas p refl) ∙ (ap (λ (x : HeapState). cell_of x.shape p) view ∙ at))

-- a cell that is present stands in the arenas
pub present-stands : (h k : HeapState) (s : ArenasState) (p : Place) → with_state h s ≡ k → IsPresent k.shape p
    → IsSome (cell_at s.arenas p)
present-stands h k s p view = go (cell_of k.shape p) refl
  where
    go : (o : Option CellState) → cell_of k.shape p ≡ o → IsSome o → IsSome (cell_at s.arenas p)
    go None at some = absurd (cc some)
    go (Some cell) at some = ap is_some (stands-seen h k s p cell view at)

pub owner-seen : (xs : List Arena) (a z : ℕ) → owner_in xs a ≡ Some z → zone_at xs a ≡ z
owner-seen [] a z e = absurd (cc e)
owner-seen (x ∷ xs) zero z e = cc e
owner-seen (x ∷ xs) (suc a) z e = owner-seen xs a z e

pub stands-other : (h k : HeapState) (s : ArenasState) (p : Place) (n : ℕ) → with_state h s ≡ k
    → IsSomeAnd (cell_of k.shape p) (λ cell. n < length cell.fields)
    → (option_map (λ (cell : CellState). cell.kind) (cell_of k.shape p) ≡ Some kind.Wrapper → ⊥)
    → option_map (λ (cell : CellState). cell.kind) (cell_at s.arenas p) ≡ Some kind.Wrapper → ⊥
stands-other h k s p n view present other wraps = go (cell_of k.shape p) refl present
  where
    go : (o : Option CellState) → cell_of k.shape p ≡ o → IsSomeAnd o (λ cell. n < length cell.fields) → ⊥
    go None at some = some
    go (Some cell) at some = other (ap (λ (o : Option CellState). option_map (λ (c : CellState). c.kind) o)
        (at ∙ sym (stands-seen h k s p cell view at)) ∙ wraps)

-- the zone of a listed wrapper's target is noted
pub target-noted : (h k : HeapState) (s : ArenasState) (noted : List ZoneSet) (zone word : ℕ) → with_state h s ≡ k
    → AreTargetsNoted s.arenas noted → ((b : ℕ) → HasZone word b ↔ IsNoted noted zone b) → (p target : Place)
    → IsListedWrapper k.shape zone p target → HasZone word (zone_of k.shape target)
target-noted h k s noted zone word view n word_is p target w = go (cell_of k.shape p) refl w.kind_is
  where
    zones : (q : Place) (z : ℕ) → owner_in s.arenas q.0 ≡ Some z → zone_of k.shape q ≡ z
    zones q z e = sym (ap (λ (x : HeapState). zone_of x.shape q) view) ∙ owner-seen s.arenas q.0 z e

    go : (o : Option CellState) → cell_of k.shape p ≡ o
        → option_map (λ (cell : CellState). cell.kind) o ≡ Some kind.Wrapper → HasZone word (zone_of k.shape target)
    go None at is = absurd (cc is)
    go (Some cell) at is =
        let held : field_of cell 0 ≡ Some target = sym (ap (λ (o : Option CellState). field_in o 0) at) ∙ w.target_is in
        let t = n.targets p target cell (stands-seen h k s p cell view at)
        (record { kind_is = cc is; target_is = held }) in
        let from : t.from ≡ zone = sym (zones p t.from t.from_is) ∙ w.zone_is in
        subst (λ z. HasZone word z) (sym (zones target t.to t.to_is))
        ((word_is t.to).1 (subst (λ z. IsNoted noted z t.to) from t.is_noted))

pub none-listed : (s : Shape) (zone : ℕ) (p target : Place) → list_of s.wrappers zone ≡ []
    → IsListedWrapper s zone p target → ⊥
none-listed s zone p target none w = cc (sym (ap (λ (es : List (WrapperKey × Place)). option_map
    (λ (e : WrapperKey × Place). e.1) (slice_get es w.index)) none) ∙ w.listed)
