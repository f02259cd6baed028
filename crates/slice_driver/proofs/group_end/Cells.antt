-- What the end of a group leaves of the arenas.
use Rattle.std.proofs.Common.{◌≡◌, ◌⊎◌, ◌+◌, ◌<◌, ◌==◌, ◌&&◌, if◌then◌else◌, ℕ, zero, suc, Bool, true, false, not, cond}
use Rattle.std.proofs.Common.{inl, inr, refl, sym, ap, ◌∙◌, arith, eqb, eqb-true, eq-eqb, Option, None, Some, IsSome}
use Rattle.std.proofs.Common.{is_some, List, [], ◌∷◌, length, nat_lt, slice_get}
use Rattle.std.proofs.lemmas.Bool.{lt-ltb}
use Rattle.std.specs.Int.{bit_at}
use Rattle.std.specs.List.{list_any}
use Rattle.gz_names.specs.Zones.{HasZone, zones_in}
use Rattle.gz_names.specs.declared.numbers.Place.{Place}
use Rattle.gz_names.specs.declared.zone_sets.ZoneSet.{ZoneSet}
use Rattle.cell_bits.specs.declared.bits.Bits.{Bits}
use Rattle.cell_bits.specs.declared.bits.Colour.{Colour}
use Rattle.cell_bits.specs.declared.bits.Colour.TheVariants as colour
use Rattle.cell_bits.specs.Colours as bits
use Rattle.arena_table.specs.Cells.{CellState}
use Rattle.arena_table.specs.Indexed.{in_zones}
use Rattle.arena_table.specs.Slots.{cell_in, no_zone}
use Rattle.colour_defs.specs.Ends.{arenas_from}
use Rattle.colour_defs.specs.Graph.{is_among}
use Rattle.colour_defs.proofs.Membership.{among_from, among_to}
use Rattle.colour_defs.proofs.ZoneSets.{zones_in-has}
use Rattle.heap_core.specs.Shape.{ArenaShape, AreWhole, Shape, cell_in_arena, cell_of, is_white, out_in, out_of}
use Rattle.heap_core.specs.Shape.{present_in, stored_at, stored_in, zone_in, zone_of}
use Rattle.heap_core.specs.Heap.{HeapState, colour_in, colour_of}
use Rattle.heap_core.specs.Sweeping.{handed}
use Rattle.slice_driver.specs.Worlds.{outs_from, owners_of}
use Rattle.slice_driver.proofs.basics.Owners.{owner_by}

abbrev pub is_white_colour : Colour → Bool
is_white_colour colour.White = true
is_white_colour colour.Gray = false
is_white_colour colour.Black = false

-- white, in a zone of the group
abbrev pub is_dead : HeapState → ZoneSet → Place → Bool
is_dead h g p = in_zones g.bits (zone_of h.shape p) && is_white_colour (colour_of h p)

pub same_test : (a b : Bool) → (a ≡ true → b ≡ true) → (b ≡ true → a ≡ true) → a ≡ b
same_test true b f g = sym (f refl)
same_test false true f g = g refl
same_test false false f g = refl

-- a word whose bits are all below 64 has a zone where its bit is set
pub in_zones_has : (g : ZoneSet) → ((z : ℕ) → bit_at g.bits z ≡ 1 → z < 64) → (z : ℕ) → in_zones g.bits z ≡ true
    → HasZone g.bits z
unfolding HasZone
in_zones_has g small z e = let set : bit_at g.bits z ≡ 1 = eqb-true _ _ e in (small z set, set)

pub has_in_zones : (g : ZoneSet) (z : ℕ) → HasZone g.bits z → in_zones g.bits z ≡ true
unfolding HasZone
has_in_zones g z here = eq-eqb _ _ here.1

pub listed_zones : (g : ZoneSet) → ((z : ℕ) → bit_at g.bits z ≡ 1 → z < 64) → (z : ℕ)
    → list_any (eqb z) (zones_in g) ≡ in_zones g.bits z
listed_zones g small z = same_test _ _ (λ e. has_in_zones g z ((zones_in-has g z).0 (among_to z (zones_in g) e)))
    (λ e. among_from z (zones_in g) ((zones_in-has g z).1 (in_zones_has g small z e)))

-- and so by the owner of an arena
pub listed_owners : (g : ZoneSet) → ((z : ℕ) → bit_at g.bits z ≡ 1 → z < 64) → (z : ℕ)
    → is_among (zones_in g) (owner_by z) ≡ in_zones g.bits z
listed_owners g small z = go (nat_lt z no_zone) refl
  where
    go : (b : Bool) → nat_lt z no_zone ≡ b
        → is_among (zones_in g) (if b then Some z else None) ≡ in_zones g.bits z
    go true e = listed_zones g small z
    go false e = sym (none (in_zones g.bits z) refl)
      where
        none : (t : Bool) → in_zones g.bits z ≡ t → in_zones g.bits z ≡ false
        none true has = absurd (let lt = lt-ltb z no_zone (small z (eqb-true _ _ has)) in cc (lt, e))
        none false has = has

pub white_test : (b : Bits) (i : ℕ) → is_white b i ≡ is_white_colour (bits.colour_of b i)
white_test b i = go (bit_at b.black i == 1) (bit_at b.gob i == 1)
  where
    go : (s t : Bool) → (not s && not t) ≡ is_white_colour (cond s colour.Black (cond t colour.Gray colour.White))
    go true t = refl
    go false true = refl
    go false false = refl

-- what becomes of an arena
abbrev hand : ℕ → Option ArenaShape → Option Bits → Option ArenaShape
hand word None own = None
hand word (Some arena) None = None
hand word (Some arena) (Some own) = Some (cond (in_zones word arena.zone) (record arena { out = Some own }) arena)

handed_at : (word : ℕ) (arenas : List ArenaShape) (colours : List Bits) (a : ℕ)
    → slice_get (handed word arenas colours) a ≡ hand word (slice_get arenas a) (slice_get colours a)
handed_at word [] colours a = refl
handed_at word (arena ∷ arenas) [] zero = refl
handed_at word (arena ∷ arenas) [] (suc a) = none word (slice_get arenas a)
  where
    none : (word : ℕ) (o : Option ArenaShape) → None ≡ hand word o None
    none word None = refl
    none word (Some x) = refl
handed_at word (arena ∷ arenas) (own ∷ colours) zero = refl
handed_at word (arena ∷ arenas) (own ∷ colours) (suc a) = handed_at word arenas colours a

-- each arena has its bits
pub bits_there : (arenas : List ArenaShape) (colours : List Bits) → length colours ≡ length arenas
    → (a : ℕ) (arena : ArenaShape) → slice_get arenas a ≡ Some arena → (own : Bits) × (slice_get colours a ≡ Some own)
bits_there [] colours e a arena at = absurd (cc at)
bits_there (x ∷ arenas) [] e a arena at = absurd (omega arith)
bits_there (x ∷ arenas) (own ∷ colours) e zero arena at = (own, refl)
bits_there (x ∷ arenas) (own ∷ colours) e (suc a) arena at = bits_there arenas colours (omega arith) a arena at

no_bits_there : (arenas : List ArenaShape) (colours : List Bits) → length colours ≡ length arenas → (a : ℕ)
    → slice_get arenas a ≡ None → slice_get colours a ≡ None
no_bits_there [] [] e a at = refl
no_bits_there [] (own ∷ colours) e a at = absurd (omega arith)
no_bits_there (x ∷ arenas) [] e a at = refl
no_bits_there (x ∷ arenas) (own ∷ colours) e zero at = absurd (cc at)
no_bits_there (x ∷ arenas) (own ∷ colours) e (suc a) at = no_bits_there arenas colours (omega arith) a at

module _ (h k : HeapState) (g : ZoneSet) (arenas_are : k.shape.arenas ≡ handed g.bits h.shape.arenas h.colours)
    (sized : length h.colours ≡ length h.shape.arenas) (kept : (a : ℕ) → out_of h.shape a ≡ None) where
  arena_at : (a : ℕ) → slice_get k.shape.arenas a ≡ hand g.bits (slice_get h.shape.arenas a) (slice_get h.colours a)
  arena_at a = ap (λ (xs : List ArenaShape). slice_get xs a) arenas_are ∙ handed_at g.bits h.shape.arenas h.colours a

  pub cell_at_end : (p : Place) → cell_of k.shape p ≡ (if is_dead h g p then None else cell_of h.shape p)
  cell_at_end p = ap (λ o. cell_in_arena o p.1) (arena_at p.0)
      ∙ go (slice_get h.shape.arenas p.0) (slice_get h.colours p.0) refl refl
    where
      go : (o : Option ArenaShape) (b : Option Bits) → slice_get h.shape.arenas p.0 ≡ o → slice_get h.colours p.0 ≡ b
          → cell_in_arena (hand g.bits o b) p.1
          ≡ cond (in_zones g.bits (zone_in o) && is_white_colour (colour_in b p.1)) None (cell_in_arena o p.1)
      go None b e f = none (in_zones g.bits 0 && is_white_colour (colour_in b p.1))
        where
          none : (t : Bool) → ◌≡◌ {A = Option CellState} None (cond t None None)
          none true = refl
          none false = refl
      go (Some arena) None e f =
          absurd (let own = bits_there h.shape.arenas h.colours sized p.0 arena e in cc (own.1, f))
      go (Some arena) (Some own) e f = by (in_zones g.bits arena.zone)
        where
          whole : arena.out ≡ None
          whole = sym (ap out_in e) ∙ kept p.0

          by : (t : Bool) → cell_in_arena (Some (cond t (record arena { out = Some own }) arena)) p.1
              ≡ cond (t && is_white_colour (colour_in (Some own) p.1)) None (cell_in_arena (Some arena) p.1)
          by true = ap (λ b. cond b None (cell_in arena.slots p.1)) (white_test own p.1)
              ∙ ap (λ o. cond (is_white_colour (bits.colour_of own p.1)) None (present_in o arena.slots p.1))
              (sym whole)
          by false = refl

  pub stored_at_end : (p : Place) → stored_at k.shape p ≡ stored_at h.shape p
  stored_at_end p = ap (λ o. stored_in o p.1) (arena_at p.0)
      ∙ go (slice_get h.shape.arenas p.0) (slice_get h.colours p.0) refl refl
    where
      go : (o : Option ArenaShape) (b : Option Bits) → slice_get h.shape.arenas p.0 ≡ o → slice_get h.colours p.0 ≡ b
          → stored_in (hand g.bits o b) p.1 ≡ stored_in o p.1
      go None b e f = refl
      go (Some arena) None e f =
          absurd (let own = bits_there h.shape.arenas h.colours sized p.0 arena e in cc (own.1, f))
      go (Some arena) (Some own) e f = by (in_zones g.bits arena.zone)
        where
          by : (t : Bool) → stored_in (Some (cond t (record arena { out = Some own }) arena)) p.1
              ≡ stored_in (Some arena) p.1
          by true = refl
          by false = refl

  pub zone_at_end : (p : Place) → zone_of k.shape p ≡ zone_of h.shape p
  zone_at_end p = ap zone_in (arena_at p.0) ∙ go (slice_get h.shape.arenas p.0) (slice_get h.colours p.0) refl refl
    where
      go : (o : Option ArenaShape) (b : Option Bits) → slice_get h.shape.arenas p.0 ≡ o → slice_get h.colours p.0 ≡ b
          → zone_in (hand g.bits o b) ≡ zone_in o
      go None b e f = refl
      go (Some arena) None e f =
          absurd (let own = bits_there h.shape.arenas h.colours sized p.0 arena e in cc (own.1, f))
      go (Some arena) (Some own) e f = by (in_zones g.bits arena.zone)
        where
          by : (t : Bool) → zone_in (Some (cond t (record arena { out = Some own }) arena)) ≡ arena.zone
          by true = refl
          by false = refl

  -- exactly the arenas of the group are out, with the bits that they have
  pub out_at_end : (a : ℕ) → out_of k.shape a ≡ cond (in_zones g.bits (zone_in (slice_get h.shape.arenas a)))
      (slice_get h.colours a) None
  out_at_end a = ap out_in (arena_at a) ∙ go (slice_get h.shape.arenas a) (slice_get h.colours a) refl refl
    where
      go : (o : Option ArenaShape) (b : Option Bits) → slice_get h.shape.arenas a ≡ o → slice_get h.colours a ≡ b
          → out_in (hand g.bits o b) ≡ cond (in_zones g.bits (zone_in o)) b None
      go None b e f = none (in_zones g.bits 0) b (sym f ∙ no_bits_there h.shape.arenas h.colours sized a e)
        where
          none : (t : Bool) (b : Option Bits) → b ≡ None → None ≡ cond t b None
          none true b e = sym e
          none false b e = refl
      go (Some arena) None e f = absurd (let own = bits_there h.shape.arenas h.colours sized a arena e in cc (own.1, f))
      go (Some arena) (Some own) e f = by (in_zones g.bits arena.zone)
        where
          by : (t : Bool) → out_in (Some (cond t (record arena { out = Some own }) arena)) ≡ cond t (Some own) None
          by true = refl
          by false = sym (ap out_in e) ∙ kept a

  pub whole_at_end : AreWhole h.shape.arenas → AreWhole k.shape.arenas
  whole_at_end w a arena at = go (slice_get h.shape.arenas a) (slice_get h.colours a) refl (sym (arena_at a) ∙ at)
    where
      go : (o : Option ArenaShape) (b : Option Bits) → slice_get h.shape.arenas a ≡ o → hand g.bits o b ≡ Some arena
          → length arena.slots ≡ 64
      go None b e f = absurd (cc f)
      go (Some x) None e f = absurd (cc f)
      go (Some x) (Some own) e f = by (in_zones g.bits x.zone) f
        where
          by : (t : Bool) → Some (cond t (record x { out = Some own }) x) ≡ Some arena → length arena.slots ≡ 64
          by true f = ap (λ (o : Option ArenaShape). slots_in o) (sym f) ∙ w a x e
            where
              slots_in : Option ArenaShape → ℕ
              slots_in None = 0
              slots_in (Some y) = length y.slots
          by false f = w a arena (e ∙ f)

handed_owners : (word : ℕ) (arenas : List ArenaShape) (colours : List Bits) → length colours ≡ length arenas
    → owners_of (handed word arenas colours) ≡ owners_of arenas
handed_owners word [] colours e = refl
handed_owners word (arena ∷ arenas) [] e = absurd (omega arith)
handed_owners word (arena ∷ arenas) (own ∷ colours) e = λ i. owner_by (by (in_zones word arena.zone) i)
    ∷ handed_owners word arenas colours (omega arith) i
  where
    by : (t : Bool) → (cond t (record arena { out = Some own }) arena).zone ≡ arena.zone
    by true = refl
    by false = refl

pub handed_length : (word : ℕ) (arenas : List ArenaShape) (colours : List Bits) → length colours ≡ length arenas
    → length (handed word arenas colours) ≡ length arenas
handed_length word [] colours e = refl
handed_length word (arena ∷ arenas) [] e = absurd (omega arith)
handed_length word (arena ∷ arenas) (own ∷ colours) e = ap suc (handed_length word arenas colours (omega arith))

all_kept : (arenas : List ArenaShape) → ((a : ℕ) → out_in (slice_get arenas a) ≡ None) → (n : ℕ)
    → outs_from n arenas ≡ []
all_kept [] kept n = refl
all_kept (arena ∷ arenas) kept n = ap (λ o. cond (is_some o) (n ∷ outs_from (suc n) arenas) (outs_from (suc n) arenas))
    (kept 0) ∙ all_kept arenas (λ a. kept (suc a)) (suc n)

-- where no arena is out, the list of those that are is empty
pub none_out_listed : (s : Shape) → ((a : ℕ) → out_of s a ≡ None) → outs_from 0 s.arenas ≡ []
none_out_listed s kept = all_kept s.arenas kept 0

-- by the owner of the first arena
arenas_by : (n : ℕ) (o : Option ℕ) (owner : List (Option ℕ)) (zones : List ℕ) → arenas_from n (o ∷ owner) zones
    ≡ cond (is_among zones o) (n ∷ arenas_from (n + 1) owner zones) (arenas_from (n + 1) owner zones)
arenas_by n None owner zones = refl
arenas_by n (Some z) owner zones = refl

handed_listed : (g : ZoneSet) → ((z : ℕ) → bit_at g.bits z ≡ 1 → z < 64)
    → (arenas : List ArenaShape) (colours : List Bits) → length colours ≡ length arenas
    → ((a : ℕ) → out_in (slice_get arenas a) ≡ None) → (n : ℕ) → outs_from n (handed g.bits arenas colours)
    ≡ arenas_from n (owners_of arenas) (zones_in g)
handed_listed g small [] colours e kept n = refl
handed_listed g small (arena ∷ arenas) [] e kept n = absurd (omega arith)
handed_listed g small (arena ∷ arenas) (own ∷ colours) e kept n =
    by (in_zones g.bits arena.zone) (handed_listed g small arenas colours (omega arith) (λ a. kept (suc a)) (suc n)
    ∙ ap (λ m. arenas_from m (owners_of arenas) (zones_in g)) (let next : suc n ≡ n + 1 = omega arith in next))
    ∙ ap (λ t. cond t (n ∷ arenas_from (n + 1) (owners_of arenas) (zones_in g))
    (arenas_from (n + 1) (owners_of arenas) (zones_in g))) (sym (listed_owners g small arena.zone))
    ∙ sym (arenas_by n (owner_by arena.zone) (owners_of arenas) (zones_in g))
  where
    by : (t : Bool) → outs_from (suc n) (handed g.bits arenas colours) ≡ arenas_from (n + 1) (owners_of arenas)
        (zones_in g) → outs_from n (cond t (record arena { out = Some own }) arena ∷ handed g.bits arenas colours)
        ≡ cond t (n ∷ arenas_from (n + 1) (owners_of arenas) (zones_in g))
        (arenas_from (n + 1) (owners_of arenas) (zones_in g))
    by true rest = ap (λ xs. n ∷ xs) rest
    by false rest = ap (λ o. cond (is_some o) (n ∷ outs_from (suc n) (handed g.bits arenas colours))
        (outs_from (suc n) (handed g.bits arenas colours))) (kept 0) ∙ rest

pub owners_at_end : (h k : HeapState) (g : ZoneSet) → k.shape.arenas ≡ handed g.bits h.shape.arenas h.colours
    → length h.colours ≡ length h.shape.arenas → owners_of k.shape.arenas ≡ owners_of h.shape.arenas
owners_at_end h k g e sized = ap owners_of e ∙ handed_owners g.bits h.shape.arenas h.colours sized

pub outs_at_end : (h k : HeapState) (g : ZoneSet) → k.shape.arenas ≡ handed g.bits h.shape.arenas h.colours
    → length h.colours ≡ length h.shape.arenas → ((z : ℕ) → bit_at g.bits z ≡ 1 → z < 64)
    → ((a : ℕ) → out_of h.shape a ≡ None)
    → outs_from 0 k.shape.arenas ≡ arenas_from 0 (owners_of h.shape.arenas) (zones_in g)
outs_at_end h k g e sized small kept = ap (outs_from 0) e ∙ handed_listed g small h.shape.arenas h.colours sized kept 0

-- where no arena is out, what stands at a place is present
pub stored_present : (s : Shape) → ((a : ℕ) → out_of s a ≡ None) → (p : Place) → stored_at s p ≡ cell_of s p
stored_present s kept p = go (slice_get s.arenas p.0) refl
  where
    go : (o : Option ArenaShape) → slice_get s.arenas p.0 ≡ o → stored_in o p.1 ≡ cell_in_arena o p.1
    go None e = refl
    go (Some arena) e = ap (λ o. present_in o arena.slots p.1) (sym (sym (ap out_in e) ∙ kept p.0))

-- some arena is out, or none is
pub some_out : (s : Shape) → ((a : ℕ) × IsSome (out_of s a)) ⊎ ((a : ℕ) → out_of s a ≡ None)
some_out s = go s.arenas
  where
    head : (o : Option Bits) → IsSome o ⊎ (o ≡ None)
    head None = inr refl
    head (Some b) = inl refl

    step : (arena : ArenaShape) (arenas : List ArenaShape) → ((a : ℕ) × IsSome (out_in (slice_get arenas a)))
        ⊎ ((a : ℕ) → out_in (slice_get arenas a) ≡ None) → ((a : ℕ) × IsSome (out_in (slice_get (arena ∷ arenas) a)))
        ⊎ ((a : ℕ) → out_in (slice_get (arena ∷ arenas) a) ≡ None)
    step arena arenas (inl r) = inl (suc r.0, r.1)
    step arena arenas (inr none) = elim (head arena.out) [ inl some ↦ inl (0, some) | inr here ↦ inr (all here none) ]
      where
        all : arena.out ≡ None → ((a : ℕ) → out_in (slice_get arenas a) ≡ None) → (a : ℕ)
            → out_in (slice_get (arena ∷ arenas) a) ≡ None
        all here none zero = here
        all here none (suc a) = none a

    go : (arenas : List ArenaShape) → ((a : ℕ) × IsSome (out_in (slice_get arenas a)))
        ⊎ ((a : ℕ) → out_in (slice_get arenas a) ≡ None)
    go [] = inr (λ a. refl)
    go (arena ∷ arenas) = step arena arenas (go arenas)

-- a zone is in a set, or isn't
pub zone_or_not : (g : ZoneSet) → ((z : ℕ) → bit_at g.bits z ≡ 1 → z < 64) → (z : ℕ)
    → HasZone g.bits z ⊎ (HasZone g.bits z → ⊥)
zone_or_not g small z = go (in_zones g.bits z) refl
  where
    go : (t : Bool) → in_zones g.bits z ≡ t → HasZone g.bits z ⊎ (HasZone g.bits z → ⊥)
    go true e = inl (in_zones_has g small z e)
    go false e = inr (λ here. cc (has_in_zones g z here, e))

-- where a cell is there is an arena
pub arena_there : (s : Shape) (p : Place) (cell : CellState) → cell_of s p ≡ Some cell
    → ((arena : ArenaShape) → slice_get s.arenas p.0 ≡ Some arena → ⊥) → ⊥
arena_there s p cell e none = go (slice_get s.arenas p.0) refl
  where
    go : (o : Option ArenaShape) → slice_get s.arenas p.0 ≡ o → ⊥
    go None at = cc (e, ap (λ o. cell_in_arena o p.1) at)
    go (Some arena) at = none arena at
