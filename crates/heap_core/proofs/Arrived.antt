-- The heap when cells went where moves take them, and all leads to where they have gone.
use Rattle.std.proofs.Common.{◌≡◌, ◌≢◌, ◌<◌, ◌==◌, ℕ, zero, suc, Bool, true, false, List, [], ◌∷◌, length}
use Rattle.std.proofs.Common.{map}
use Rattle.std.proofs.Common.{Contains, Option, Some, None, IsSome, is_some, option_map, slice_get, if◌then◌else◌, inl}
use Rattle.std.proofs.Common.{inr}
use Rattle.std.proofs.Common.{get_or, refl, sym, ◌∙◌, ap, subst, eqb-true, arith}
use Rattle.std.proofs.lemmas.Bool.{false≢true}
use Rattle.std.specs.Int.{bit_at}
use Rattle.std.proofs.lemmas.List.{length-map}
use Rattle.std.proofs.lemmas.Option.{none-some, same_Some}
use Rattle.gz_names.specs.Moves.{moved}
use Rattle.gz_names.specs.declared.moves.Move.{Move}
use Rattle.gz_names.specs.declared.numbers.Place.{Place}
use Rattle.gz_names.proofs.Moving.{contained, moved-apart, moved-at, moved-cases}
use Rattle.cell_bits.specs.declared.bits.Bits.{Bits}
use Rattle.cell_bits.specs.declared.bits.Colour.{Colour}
use Rattle.cell_bits.specs.declared.bits.Colour.TheVariants as colour
use Rattle.gz_names.specs.declared.zone_sets.ZoneSet.{ZoneSet}
use Rattle.arena_table.specs.Cells.{CellState, field_of, joined}
use Rattle.arena_table.specs.Indexed.{is_owned}
use Rattle.arena_table.specs.Moving.{AreBitsOf, all_forwarded, black_bit, forwarded, gob_bit}
use Rattle.arena_table.specs.Moving.{in_zone}
use Rattle.arena_table.specs.Slots.{Arena, cell_at, is_out_at}
use Rattle.weak_maps.specs.Moving.{table_forwarded}
use Rattle.weak_maps.specs.WeakMaps as weak
use Rattle.weak_refs.specs.WeakNames.{names_forwarded}
use Rattle.heap_core.specs.Heap.{HeapState, bits_of, colour_in, colour_of}
use Rattle.heap_core.specs.Moving.{Carries, bare, wrappers_forwarded, zones_now}
use Rattle.heap_core.specs.Shape.{ArenaShape, AreWhole, IsPresent, arena_shape, arena_shapes, cell_of}
use Rattle.heap_core.specs.Shape.{out_of}
use Rattle.heap_core.specs.Shape.{zone_of}
use Rattle.heap_core.specs.TargetZones.{AreTargetsNoted, IsTargetNoted, IsWrapperOf}
use Rattle.heap_core.proofs.Carrying.{Gone, back-gone, cells-gone, goal-cases}
use Rattle.heap_core.proofs.Forwarded.{no_cell}
use Rattle.heap_core.proofs.Leading.{IsCarried, is-kept, seen-kept, zone-seen}
use Rattle.heap_core.proofs.MakingCells.{zone_at}
use Rattle.heap_core.proofs.Naming.{present-apart}
use Rattle.heap_core.proofs.Relocated.{WentTo, shows}
use Rattle.heap_core.proofs.Views.{not_out-seen}

-- lists with the same part of each element
all-parts : {X Y : Type 0} (part : X → Y) (xs ys : List X)
    → ((a : ℕ) → option_map part (slice_get ys a) ≡ option_map part (slice_get xs a)) → map part ys ≡ map part xs
all-parts part [] [] same = refl
all-parts part [] (y ∷ ys) same = absurd (none-some (part y) (sym (same zero)))
all-parts part (x ∷ xs) [] same = absurd (none-some (part x) (same zero))
all-parts part (x ∷ xs) (y ∷ ys) same =
    ap (λ z. z ∷ map part ys) (same_Some (part y) (part x) (same zero))
    ∙ ap (λ zs. part x ∷ zs) (all-parts part xs ys (λ a. same (suc a)))

-- a part that does not depend on the cells
module _ {Y : Type 0} (part : Arena → Y) (same : (x : Arena) → part (bare x) ≡ part x) where
  by-bare : (xs : List Arena) → map part xs ≡ map part (map bare xs)
  by-bare [] = refl
  by-bare (x ∷ xs) = ap (λ y. y ∷ map part xs) (sym (same x)) ∙ ap (λ ys. part (bare x) ∷ ys) (by-bare xs)

  pub parts-bare : (xs ys : List Arena) → map bare ys ≡ map bare xs → map part ys ≡ map part xs
  parts-bare xs ys kept = by-bare ys ∙ ap (map part) kept ∙ sym (by-bare xs)

parts-zone : {Y : Type 0} (part : Arena → Y) (f : Arena → Arena) → ((x : Arena) → part (f x) ≡ part x) → (zone : ℕ)
    (xs : List Arena) → map part (in_zone f zone xs) ≡ map part xs
parts-zone part f same zone [] = refl
parts-zone part f same zone (x ∷ xs) =
    ap (λ y. y ∷ map part (in_zone f zone xs)) (by (x.zone == zone))
    ∙ ap (λ ys. part x ∷ ys) (parts-zone part f same zone xs)
  where
    by : (b : Bool) → part (if b then f x else x) ≡ part x
    by true = same x
    by false = refl

part-at : {Y : Type 0} (part : Arena → Y) (xs ys : List Arena) → map part ys ≡ map part xs → (a : ℕ)
    → option_map part (slice_get ys a) ≡ option_map part (slice_get xs a)
part-at part xs ys same a = sym (get ys a) ∙ ap (λ zs. slice_get zs a) same ∙ get xs a
  where
    get : (zs : List Arena) (a : ℕ) → slice_get (map part zs) a ≡ option_map part (slice_get zs a)
    get [] a = refl
    get (z ∷ zs) zero = refl
    get (z ∷ zs) (suc a) = get zs a

-- the zone of an arena, and whether it is out, by what there is of it
zone_part : Option ℕ → ℕ
zone_part None = 0
zone_part (Some z) = z

zone-from : (zs : List Arena) (a : ℕ)
    → zone_at zs a ≡ zone_part (option_map (λ (x : Arena). x.zone) (slice_get zs a))
unfolding zone_part
zone-from [] a = refl
zone-from (z ∷ zs) zero = refl
zone-from (z ∷ zs) (suc a) = zone-from zs a

out_part : Option Bool → Bool
out_part None = false
out_part (Some b) = b

out-from : (zs : List Arena) (a : ℕ)
    → is_out_at zs a ≡ out_part (option_map (λ (x : Arena). x.is_out) (slice_get zs a))
unfolding out_part
out-from [] a = refl
out-from (z ∷ zs) zero = refl
out-from (z ∷ zs) (suc a) = out-from zs a

-- a colour by the two bits of a slot
colour_by : ℕ → ℕ → Colour
colour_by b g = if b == 1 then colour.Black else (if g == 1 then colour.Gray else colour.White)

colour-at : (xs : List Arena) (p : Place) → colour_in (slice_get (bits_of xs) p.0) p.1
    ≡ colour_by (black_bit (slice_get xs p.0) p.1) (gob_bit (slice_get xs p.0) p.1)
unfolding colour_by
colour-at xs (a, k) = by xs a
  where
    by : (xs : List Arena) (a : ℕ) → colour_in (slice_get (bits_of xs) a) k
        ≡ colour_by (black_bit (slice_get xs a) k) (gob_bit (slice_get xs a) k)
    by [] a = refl
    by (x ∷ xs) zero = refl
    by (x ∷ xs) (suc a) = by xs a

colour-same : (xs ys : List Arena) (p q : Place) → AreBitsOf xs p ys q
    → colour_in (slice_get (bits_of ys) q.0) q.1 ≡ colour_in (slice_get (bits_of xs) p.0) p.1
colour-same xs ys p q same =
    colour-at ys q
    ∙ ap (λ b. colour_by b (gob_bit (slice_get ys q.0) q.1)) same.black
    ∙ ap (colour_by (black_bit (slice_get xs p.0) p.1)) same.gob ∙ sym (colour-at xs p)

colour-clear : (ys : List Arena) (q : Place) → black_bit (slice_get ys q.0) q.1 ≡ 0
    → gob_bit (slice_get ys q.0) q.1 ≡ 0 → colour_in (slice_get (bits_of ys) q.0) q.1 ≡ colour.White
unfolding colour_by
colour-clear ys q black gob =
    colour-at ys q ∙ ap (λ b. colour_by b (gob_bit (slice_get ys q.0) q.1)) black ∙ ap (colour_by 0) gob

-- the heap when cells of a zone went where moves take them, by its arenas
abbrev pub arrived : HeapState → List Arena → ℕ → List Move → HeapState
arrived h us zone moves = record h {
  shape = record h.shape {
    arenas = arena_shapes us;
    wrappers = wrappers_forwarded moves zone h.shape.wrappers;
    weak = table_forwarded moves h.shape.weak;
    regs = map (option_map (moved moves)) h.shape.regs;
    slots = map (option_map (moved moves)) h.shape.slots;
  };
  colours = bits_of us;
  weak_names = names_forwarded moves h.weak_names;
}

-- the heap's arenas, those to which the cells went, and those in which all leads to where cells have gone
pub record Arrives (h : HeapState) (xs ys us : List Arena) (zone : ℕ) (moves : List Move) (Those : Place → Type 0) :
    Type 0 where
  pub carried : IsCarried h xs zone moves
  pub gone : Gone xs ys (in_zone (all_forwarded moves) zone ys) us zone moves Those
  pub kept : map bare us ≡ map bare (in_zone (all_forwarded moves) zone ys)
  pub entries : weak.IsSound (table_forwarded moves h.shape.weak)

module _ (h : HeapState) (xs ys us : List Arena) (zone : ℕ) (moves : List Move) (Those : Place → Type 0)
    (c : Arrives h xs ys us zone moves Those) where
  abbrev k : HeapState
  k = arrived h us zone moves

  arenas-are : k.shape.arenas ≡ arena_shapes us
  arenas-are = refl

  -- the parts of arenas that stay
  parts : {Y : Type 0} (part : Arena → Y) → ((x : Arena) → part (bare x) ≡ part x)
      → ((x : Arena) → part (all_forwarded moves x) ≡ part x) → map part us ≡ map part ys
  parts part bares goes = parts-bare part bares (in_zone (all_forwarded moves) zone ys) us c.kept
      ∙ parts-zone part (all_forwarded moves) goes zone ys

  zones-all : map (λ (x : Arena). x.zone) us ≡ map (λ (x : Arena). x.zone) xs
  zones-all = parts (λ x. x.zone) (λ x. refl) (λ x. refl) ∙ all-parts (λ (x : Arena). x.zone) xs ys c.gone.went.zones

  zone-same : (a : ℕ) → zone_at us a ≡ zone_at xs a
  zone-same a = zone-from us a ∙ ap zone_part (part-at (λ (x : Arena). x.zone) xs us zones-all a) ∙ sym (zone-from xs a)

  out-same : (a : ℕ) → is_out_at us a ≡ false
  out-same a = out-from us a
      ∙ ap out_part (part-at (λ (x : Arena). x.is_out) ys us (parts (λ x. x.is_out) (λ x. refl) (λ x. refl)) a)
      ∙ sym (out-from ys a) ∙ c.gone.went.outs a ∙ is-kept h.shape xs c.carried.seen c.carried.may.kept a

  outs-are : (a : ℕ) → out_of k.shape a ≡ None
  outs-are a = not_out-seen us a (out-same a)

  -- where cells are
  old-cell : (p : Place) → cell_of h.shape p ≡ cell_at xs p
  old-cell p = seen-kept h.shape xs c.carried.seen c.carried.may.kept p

  new-cell : (p : Place) → cell_of k.shape p ≡ cell_at us p
  new-cell p = seen-kept k.shape us arenas-are outs-are p

  cells-are : (p : Place) → IsPresent h.shape p
      → cell_of k.shape (moved moves p) ≡ option_map (forwarded moves) (cell_of h.shape p)
  cells-are p held = new-cell (moved moves p)
      ∙ cells-gone xs ys (in_zone (all_forwarded moves) zone ys) us zone moves Those c.gone p (subst IsSome
      (old-cell p) held)
      ∙ ap (option_map (forwarded moves)) (sym (old-cell p))

  back-are : (q : Place) → IsPresent k.shape q → (p : Place) × IsPresent h.shape p × (moved moves p ≡ q)
  back-are q held =
      let p = back-gone xs ys (in_zone (all_forwarded moves) zone ys) us zone moves Those c.gone q (subst IsSome
      (new-cell q) held) in
      (p.0, subst IsSome (sym (old-cell p.0)) p.1, p.2)

  zones-are : (p : Place) → IsPresent h.shape p → zone_of k.shape (moved moves p) ≡ zone_of h.shape p
  zones-are p held = elim (moved-cases moves p) [
    | inl w ↦
        (let has = contained moves w.0 w.1 w.2 in
        same-zone (moved moves p) ∙ ap (zone_of h.shape) w.4 ∙ (c.carried.are.made w.1 has).1 ∙ sym
        (c.carried.are.from w.1 has).1
        ∙ ap (zone_of h.shape) w.3)
    | inr s ↦ same-zone (moved moves p) ∙ ap (zone_of h.shape) s.0
  ]
    where
      same-zone : (q : Place) → zone_of k.shape q ≡ zone_of h.shape q
      same-zone q = zone-seen k.shape us arenas-are outs-are q ∙ zone-same q.0
          ∙ sym (zone-seen h.shape xs c.carried.seen c.carried.may.kept q)

  present-are : (p : Place) → IsPresent h.shape p → IsPresent k.shape (moved moves p)
  present-are p held = subst IsSome (sym (cells-are p held)) (some (cell_of h.shape p) held)
    where
      some : (o : Option CellState) → IsSome o → IsSome (option_map (forwarded moves) o)
      some None is = is
      some (Some cell) is = is

-- the colours
module _ (h : HeapState) (xs ys us : List Arena) (zone : ℕ) (moves : List Move) (Those : Place → Type 0)
    (c : Arrives h xs ys us zone moves Those) where
  bits-same : (p : Place) → AreBitsOf ys p us p
  bits-same p = record {
    black = bit (λ b. b.black) (λ o. black_bit o p.1) (λ x. refl) refl;
    gob = bit (λ b. b.gob) (λ o. gob_bit o p.1) (λ x. refl) refl;
  }
    where
      all-bits : option_map (λ (x : Arena). x.bits) (slice_get us p.0) ≡ option_map (λ (x : Arena). x.bits)
          (slice_get ys p.0)
      all-bits = part-at (λ (x : Arena). x.bits) ys us
          (parts h xs ys us zone moves Those c (λ x. x.bits) (λ x. refl) (λ x. refl)) p.0

      bit : (word : Bits → ℕ) (of : Option Arena → ℕ) → ((x : Arena) → of (Some x) ≡ bit_at (word x.bits) p.1)
          → of None ≡ 0 → of (slice_get us p.0) ≡ of (slice_get ys p.0)
      bit word of some none = by (slice_get us p.0) (slice_get ys p.0) all-bits
        where
          by : (o q : Option Arena) → option_map (λ (x : Arena). x.bits) o ≡ option_map (λ (x : Arena). x.bits) q
              → of o ≡ of q
          by None None e = refl
          by None (Some y) e = absurd (none-some y.bits e)
          by (Some x) None e = absurd (none-some x.bits (sym e))
          by (Some x) (Some y) e = some x ∙ ap (λ (b : Bits). bit_at (word b) p.1) (same_Some x.bits y.bits e) ∙ sym
              (some y)

  bits-then : (p q : Place) → AreBitsOf xs p ys q → AreBitsOf xs p us q
  bits-then p q one = (let two = bits-same q in record { black = two.black ∙ one.black; gob = two.gob ∙ one.gob })

  colours-at : (p q : Place) → AreBitsOf xs p ys q → colour_of (arrived h us zone moves) q ≡ colour_of h p
  colours-at p q one = colour-same xs us p q (bits-then p q one) ∙ ap (λ bs. colour_in (slice_get bs p.0) p.1)
      (sym c.carried.coloured)

  colours-go : (p : Place) → IsPresent h.shape p → colour_of (arrived h us zone moves) (moved moves p) ≡ colour_of h p
  colours-go p held = elim (moved-cases moves p) [
    | inl w ↦
        (let has = contained moves w.0 w.1 w.2 in
        ap (colour_of (arrived h us zone moves)) w.4 ∙ colours-at w.1.from w.1.to (c.gone.went.bits w.1 has)
        ∙ ap (colour_of h) w.3)
    | inr s ↦ ap (colour_of (arrived h us zone moves)) s.0
        ∙ colours-at p p (c.gone.went.other_bits p s.1 (c.gone.may.apart.free p
        (subst IsSome (old-cell h xs ys us zone moves Those c p) held)))
  ]

  clear-go : ((p : Place) → colour_of h p ≢ colour.White → IsPresent h.shape p)
      → (q : Place) → colour_of (arrived h us zone moves) q ≢ colour.White
      → IsPresent (arrived h us zone moves).shape q
  clear-go all q not_white = elim (goal-cases moves q) [
    | inl g ↦ (let from = present-are h xs ys us zone moves Those c g.0.from (c.carried.are.from g.0 g.1).0 in
        subst (IsPresent (arrived h us zone moves).shape) (goal-is g.0 g.1 ∙ g.2) from)
    | inr none ↦ elim (moved-cases moves q) [
      | inl w ↦
          (let clear = c.gone.went.left_bits q (w.1, contained moves w.0 w.1 w.2, w.3) in
          let same = bits-same q in
          absurd (not_white (colour-clear us q (same.black ∙ clear.black) (same.gob ∙ clear.gob))))
      | inr s ↦ subst (IsPresent (arrived h us zone moves).shape) s.0
          (present-are h xs ys us zone moves Those c q (all q (λ white. not_white
          (colours-at q q (c.gone.went.other_bits q s.1 none) ∙ white))))
    ]
  ]
    where
      goal-is : (m : Move) → Contains moves m → moved moves m.from ≡ m.to
      goal-is m has = moved-at moves has.0 m c.carried.order (read moves has.0 m has.1 has.2)
        where
          read : (ms : List Move) (i : ℕ) (n : Move) → i < length ms → get_or ms i n ≡ n → slice_get ms i ≡ Some n
          read [] i n lt e = absurd (omega (arith, lt))
          read (m ∷ ms) zero n lt e = ap Some e
          read (m ∷ ms) (suc i) n lt e = read ms i n (omega (arith, lt)) e

-- so the heap shows what it showed
module _ (h : HeapState) (xs ys us : List Arena) (zone : ℕ) (moves : List Move) (Those : Place → Type 0)
    (c : Arrives h xs ys us zone moves Those) where
  went-to : WentTo h.shape (arrived h us zone moves).shape zone moves
  went-to = record {
    states = refl;
    comps = refl;
    wrappers = refl;
    weak_is = refl;
    regs = refl;
    slots = refl;
    objects = refl;
    cells = cells-are h xs ys us zone moves Those c;
    back = back-are h xs ys us zone moves Those c;
    zones = zones-are h xs ys us zone moves Those c;
    apart = λ p q a b same. moved-apart (IsPresent h.shape) moves
        (present-apart h.shape zone moves c.carried.are) p q a b same;
    stays = λ p held other. elim (moved-cases moves p) [
      | inl w ↦ absurd (other (ap (zone_of h.shape) (sym w.3) ∙ (c.carried.are.from w.1
          (contained moves w.0 w.1 w.2)).1))
      | inr s ↦ s.0
    ];
    was_sound = c.carried.entries;
    is_sound = c.entries;
  }

  pub carries : Carries (zones_now h) h zone moves (arrived h us zone moves)
  carries = record {
    rest = refl;
    cells = cells-are h xs ys us zone moves Those c;
    back = back-are h xs ys us zone moves Those c;
    zones = zones-are h xs ys us zone moves Those c;
    colours = colours-go h xs ys us zone moves Those c;
    clear = clear-go h xs ys us zone moves Those c;
    owners = zones-of us ∙ zones-all h xs ys us zone moves Those c ∙ sym (zones-of xs)
        ∙ ap (map (λ (s : ArenaShape). s.zone)) (sym c.carried.seen);
    outs = outs-are h xs ys us zone moves Those c;
    whole = λ whole a arena at. long a arena at whole;
    sized = λ sized. length-map us (λ (x : Arena). x.bits)
        ∙ sym (length-map us arena_shape);
    shows = λ g was. shows h (arrived h us zone moves) zone moves went-to refl g was;
  }
    where
      zones-of : (zs : List Arena) → map (λ (s : ArenaShape). s.zone) (arena_shapes zs) ≡ map (λ (x : Arena). x.zone) zs
      zones-of [] = refl
      zones-of (z ∷ zs) = ap (λ ns. z.zone ∷ ns) (zones-of zs)

      lengths : (a : ℕ) → option_map (λ (x : Arena). length x.slots) (slice_get us a)
          ≡ option_map (λ (x : Arena). length x.slots) (slice_get xs a)
      lengths a = part-at (λ (x : Arena). length x.slots) ys us
          (parts h xs ys us zone moves Those c (λ x. length x.slots) (λ x. length-map x.slots no_cell)
          (λ x. length-map x.slots (option_map (forwarded moves)))) a ∙ c.gone.went.whole a

      slots-seen : (zs : List Arena) (a : ℕ) → option_map (λ (s : ArenaShape). length s.slots)
          (slice_get (arena_shapes zs) a)
          ≡ option_map (λ (x : Arena). length x.slots) (slice_get zs a)
      slots-seen [] a = refl
      slots-seen (z ∷ zs) zero = refl
      slots-seen (z ∷ zs) (suc a) = slots-seen zs a

      long : (a : ℕ) (arena : ArenaShape) → slice_get (arrived h us zone moves).shape.arenas a ≡ Some arena
          → AreWhole h.shape.arenas → length arena.slots ≡ 64
      long a arena at whole = by (slice_get h.shape.arenas a) refl
          (sym (ap (option_map (λ (s : ArenaShape). length s.slots)) at)
          ∙ slots-seen us a ∙ lengths a ∙ sym (slots-seen xs a)
          ∙ ap (λ ss. option_map (λ (s : ArenaShape). length s.slots) (slice_get ss a)) (sym c.carried.seen))
        where
          by : (o : Option ArenaShape) → slice_get h.shape.arenas a ≡ o
              → Some (length arena.slots) ≡ option_map (λ (s : ArenaShape). length s.slots) o
              → length arena.slots ≡ 64
          by None found e = absurd (none-some (length arena.slots) (sym e))
          by (Some s) found e = same_Some (length arena.slots) (length s.slots) e ∙ whole a s found

-- the zones of all targets are noted as they were
module _ (h : HeapState) (xs ys us : List Arena) (zone : ℕ) (moves : List Move) (Those : Place → Type 0)
    (c : Arrives h xs ys us zone moves Those) where
  owner-same : (p : Place) → option_map (λ (x : Arena). x.zone) (slice_get us (moved moves p).0)
      ≡ option_map (λ (x : Arena). x.zone) (slice_get xs p.0)
  owner-same p = part-at (λ (x : Arena). x.zone) xs us (zones-all h xs ys us zone moves Those c) (moved moves p).0
      ∙ elim (moved-cases moves p) [
        | inl w ↦
            (let both = c.gone.mine w.1 (contained moves w.0 w.1 w.2) in
            ap (λ (q : Place). option_map (λ (x : Arena). x.zone) (slice_get xs q.0)) w.4
            ∙ owned-zone (slice_get xs w.1.to.0) both.1 ∙ sym (owned-zone (slice_get xs w.1.from.0) both.0)
            ∙ ap (λ (q : Place). option_map (λ (x : Arena). x.zone) (slice_get xs q.0)) w.3)
        | inr s ↦ ap (λ (q : Place). option_map (λ (x : Arena). x.zone) (slice_get xs q.0)) s.0
      ]
    where
      owned-zone : (o : Option Arena) → is_owned zone o ≡ true → option_map (λ (x : Arena). x.zone) o ≡ Some zone
      owned-zone None own = absurd (false≢true own)
      owned-zone (Some x) own = ap Some (eqb-true x.zone zone own)

  pub noted-arrived : (noted : List ZoneSet) → AreTargetsNoted xs noted → AreTargetsNoted us noted
  noted-arrived noted was = record {
    targets = λ q target cell at wraps.
        (let p = back-gone xs ys (in_zone (all_forwarded moves) zone ys) us zone moves Those c.gone q (ap is_some at) in
        by p.0 q target cell wraps p.2 (cell_at xs p.0) refl
        (sym (cells-gone xs ys (in_zone (all_forwarded moves) zone ys) us zone moves Those c.gone p.0 p.1) ∙ ap
        (cell_at us) p.2 ∙ at));
  }
    where
      field-back : (os : List (Option Place)) (target : Place)
          → joined (slice_get (map (option_map (moved moves)) os) 0) ≡ Some target
          → (t : Place) × (joined (slice_get os 0) ≡ Some t) × (moved moves t ≡ target)
      field-back [] target at = absurd (none-some target at)
      field-back (None ∷ os) target at = absurd (none-some target at)
      field-back (Some t ∷ os) target at = (t, refl, same_Some (moved moves t) target at)

      by : (p q target : Place) (cell : CellState) → IsWrapperOf cell target → moved moves p ≡ q
          → (o : Option CellState) → cell_at xs p ≡ o → option_map (forwarded moves) o ≡ Some cell
          → IsTargetNoted us noted q target
      by p q target cell wraps goes-to None at e = absurd (none-some cell e)
      by p q target cell wraps goes-to (Some was_cell) at e =
          let same : forwarded moves was_cell ≡ cell = same_Some (forwarded moves was_cell) cell e in
          let t = field-back was_cell.fields target (ap (λ (d : CellState). field_of d 0) same ∙ wraps.target_is) in
          let is = was.targets p t.0 was_cell at (record {
            kind_is = ap (λ (d : CellState). d.kind) same ∙ wraps.kind_is;
            target_is = t.1;
          }) in
          record {
            from = is.from;
            to = is.to;
            from_is = ap (λ (r : Place). option_map (λ (x : Arena). x.zone) (slice_get us r.0)) (sym goes-to)
                ∙ owner-same p ∙ is.from_is;
            to_is = ap (λ (r : Place). option_map (λ (x : Arena). x.zone) (slice_get us r.0)) (sym t.2)
                ∙ owner-same t.0 ∙ is.to_is;
            is_noted = is.is_noted;
          }
