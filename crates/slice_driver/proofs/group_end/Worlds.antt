-- The world after the end of a group.
use Rattle.std.proofs.Common.{◌≡◌, ◌↔◌, ℕ, Bool, true, false, not, cond, refl, sym, ap, ◌∙◌, subst, Option, None, Some}
use Rattle.std.proofs.Common.{is_some, if◌then◌else◌, List, map, Contains}
use Rattle.std.specs.FinMap as places
use Rattle.std.specs.FinSet as set
use Rattle.gz_names.specs.Order.{name_cmp}
use Rattle.gz_names.specs.Zones.{HasZone, zones_in}
use Rattle.gz_names.specs.declared.names.Name.{Name}
use Rattle.gz_names.specs.declared.numbers.Place.{Place}
use Rattle.gz_names.specs.declared.zone_sets.ZoneSet.{ZoneSet}
use Rattle.cell_bits.specs.declared.bits.Bits.{Bits}
use Rattle.cell_bits.specs.declared.bits.Colour.{Colour}
use Rattle.cell_bits.specs.declared.bits.Colour.TheVariants as colour
use Rattle.arena_table.specs.Indexed.{in_zones}
use Rattle.colour_defs.specs.Graph.{IsInZones}
use Rattle.colour_defs.specs.Graph as graph
use Rattle.colour_defs.specs.World.{World, Collection, BlackClosure, Has, IsPresent, WeakNames}
use Rattle.colour_defs.specs.Ends.{IsGrayOf, IsLawfulEnd, IsWhiteOf, Lists, arenas_from, zones_without}
use Rattle.colour_defs.proofs.Lists.{first_of_both, second_of_both, both_of}
use Rattle.colour_defs.proofs.Membership.{in_zone, zone_in}
use Rattle.colour_defs.proofs.Names.{names_apart}
use Rattle.colour_defs.proofs.ZoneSets.{zones_in-has}
use Rattle.heap_core.specs.Shape.{name_at, zone_of}
use Rattle.heap_core.specs.Heap.{HeapState, colour_of}
use Rattle.barriers.specs.Colours.{IsBlack, IsWhite}
use Rattle.slice_driver.specs.Collector.{CollectorState}
use Rattle.slice_driver.specs.GroupEnd.{AreColoured, IsGrayHere}
use Rattle.slice_driver.proofs.abstraction.Named.{place_of, present_named, some_one}
use Rattle.slice_driver.proofs.abstraction.Lying.{zone_named}
use Rattle.slice_driver.proofs.group_end.Ready.{AtGroupEnd}
use Rattle.slice_driver.proofs.group_end.Colours.{coloured_here}
use Rattle.slice_driver.proofs.group_end.Cells.{has_in_zones, in_zones_has, is_dead, is_white_colour, none_out_listed}
use Rattle.slice_driver.proofs.group_end.Maps.{entries_are, has_named_by, has_placed_by, named_by, named_by_has}
use Rattle.slice_driver.proofs.group_end.Maps.{placed_by, placed_by_has, set_of, set_of_has}

abbrev pub is_black_colour : Colour → Bool
is_black_colour colour.White = false
is_black_colour colour.Gray = false
is_black_colour colour.Black = true

abbrev is_black_at : HeapState → Place → Bool
is_black_at h p = is_black_colour (colour_of h p)

is_black_test : (h : HeapState) (p : Place) → is_black_at h p ≡ true → IsBlack h p
is_black_test h p e = go (colour_of h p) refl e
  where
    go : (t : Colour) → colour_of h p ≡ t → is_black_colour t ≡ true → IsBlack h p
    go colour.White at e = absurd (cc e)
    go colour.Gray at e = absurd (cc e)
    go colour.Black at e = at

pub is_white_test : (h : HeapState) (p : Place) → is_white_colour (colour_of h p) ≡ true → IsWhite h p
is_white_test h p e = go (colour_of h p) refl e
  where
    go : (t : Colour) → colour_of h p ≡ t → is_white_colour t ≡ true → IsWhite h p
    go colour.White at e = at
    go colour.Gray at e = absurd (cc e)
    go colour.Black at e = absurd (cc e)

-- whether what lies at a place stays, and whether a name does
abbrev pub kept_place : HeapState → ZoneSet → Option Place → Bool
kept_place h g None = false
kept_place h g (Some p) = not (is_dead h g p)

abbrev pub is_kept : HeapState → ZoneSet → World → Name → Bool
is_kept h g w x = kept_place h g (places.get w.places x)

abbrev pub ended_collection : Collection → ZoneSet → List ZoneSet → Collection
ended_collection k g rest =
    record k { marking = zones_without k.marking (zones_in g); groups = Some (map zones_in rest) }

-- what weak slots and watches still name: what is placed
abbrev pub if_placed : places.FinMap name_cmp (ℕ × ℕ) → Option Name → Option Name
if_placed there None = None
if_placed there (Some x) = if places.contains_key there x then Some x else None

abbrev pub weak_left : places.FinMap name_cmp (ℕ × ℕ) → WeakNames → WeakNames
weak_left there weak = record {
  slots = map (if_placed there) weak.slots;
  watched = set.retain weak.watched (places.contains_key there);
}

abbrev pub ended : HeapState → World → Collection → ZoneSet → List ZoneSet → World
ended h w k g rest = record w {
  places = places.retain_keys w.places (is_kept h g w);
  out = arenas_from 0 w.owner (zones_in g);
  white = placed_by (is_dead h g) (places.entries w.places);
  black = set_of (named_by (λ p. is_black_at h p) (places.entries w.places));
  weak = weak_left (places.retain_keys w.places (is_kept h g w)) w.weak;
  collection = Some (ended_collection k g rest);
}

pub not_true : (b : Bool) → not b ≡ true → b ≡ false
not_true true e = absurd (cc e)
not_true false e = refl

pub get_ended : (h : HeapState) (g : ZoneSet) (w : World) (x : Name)
    → places.get (places.retain_keys w.places (is_kept h g w)) x ≡ cond (is_kept h g w x) (places.get w.places x) None
get_ended h g w x = places.get-retain_keys w.places (is_kept h g w) x
    (λ y e. ap (is_kept h g w) (sym (names_apart x y e)))

-- what is at a place after the end was there before, and is not dead
pub ended_place : (h : HeapState) (g : ZoneSet) (w : World) (x : Name) (p : Place)
    → places.get (places.retain_keys w.places (is_kept h g w)) x ≡ Some p → (places.get w.places x ≡ Some p)
    × (is_dead h g p ≡ false)
ended_place h g w x p e = go (places.get w.places x) refl (sym (get_ended h g w x) ∙ e)
  where
    by : (q : Place) (t : Bool) → is_dead h g q ≡ t → places.get w.places x ≡ Some q
        → cond (not t) (Some q) None ≡ Some p → (places.get w.places x ≡ Some p) × (is_dead h g p ≡ false)
    by q true t at f = absurd (cc f)
    by q false t at f = let same : q ≡ p = some_one q p f in (at ∙ f, subst (λ z. is_dead h g z ≡ false) same t)

    go : (o : Option Place) → places.get w.places x ≡ o
        → cond (kept_place h g (places.get w.places x)) (places.get w.places x) None ≡ Some p
        → (places.get w.places x ≡ Some p) × (is_dead h g p ≡ false)
    go None at f = absurd (cc (subst (λ z. cond (kept_place h g z) z None ≡ Some p) at f))
    go (Some q) at f = by q (is_dead h g q) refl at
        (subst (λ b. cond (not b) (Some q) None ≡ Some p) refl
        (subst (λ z. cond (kept_place h g z) z None ≡ Some p) at f))

pub place_ended : (h : HeapState) (g : ZoneSet) (w : World) (x : Name) (p : Place) → places.get w.places x ≡ Some p
    → is_dead h g p ≡ false → places.get (places.retain_keys w.places (is_kept h g w)) x ≡ Some p
place_ended h g w x p at alive = get_ended h g w x ∙ ap (λ z. cond (kept_place h g z) z None) at
    ∙ ap (λ b. cond (not b) (Some p) None) alive

pub gone_ended : (h : HeapState) (g : ZoneSet) (w : World) (x : Name) (p : Place) → places.get w.places x ≡ Some p
    → is_dead h g p ≡ true → places.get (places.retain_keys w.places (is_kept h g w)) x ≡ None
gone_ended h g w x p at dead = get_ended h g w x ∙ ap (λ z. cond (kept_place h g z) z None) at
    ∙ ap (λ b. cond (not b) (Some p) None) dead

module _ (c : CollectorState) (flown : ℕ → Option Bits) (w : World) (k : Collection) (g : ZoneSet) (rest : List ZoneSet)
    (ending : AtGroupEnd c flown w k g rest) where
  col : AreColoured c.heap w.graph k (zones_without k.marking (zones_in g))
  col = coloured_here c flown w k g rest ending

  zone_is : (x : Name) (p : Place) → name_at c.heap.shape p ≡ Some x
      → graph.zone_of w.graph x ≡ Some (zone_of c.heap.shape p)
  zone_is x p named = zone_named c.heap ending.represents.placed.lies.graph w.graph p x
      ending.represents.placed.lies.shown
      ending.represents.placed.lies.part.part named

  in_group : (x : Name) (p : Place) → name_at c.heap.shape p ≡ Some x → HasZone g.bits (zone_of c.heap.shape p)
      → IsInZones w.graph (zones_in g) x
  in_group x p named here = in_zone w.graph (zones_in g) x (zone_of c.heap.shape p) (zone_is x p named)
      ((zones_in-has g _).1 here)

  group_has : (x : Name) (p : Place) → name_at c.heap.shape p ≡ Some x → IsInZones w.graph (zones_in g) x
      → HasZone g.bits (zone_of c.heap.shape p)
  group_has x p named here =
      let z = zone_in w.graph (zones_in g) x here in
      let same : z.0 ≡ zone_of c.heap.shape p = some_one _ _ (sym z.1 ∙ zone_is x p named) in
      subst (λ n. HasZone g.bits n) same ((zones_in-has g z.0).0 z.2)

  -- exactly the dead places have the white names of the group
  pub dead_white : (x : Name) (p : Place) → places.get w.places x ≡ Some p → is_dead c.heap g p ≡ true
      → IsWhiteOf w k (zones_in g) x
  dead_white x p there dead =
      let named = (ending.represents.placed.lies.places_are x p).0 there in record {
        present = ap is_some there;
        here = in_group x p named (in_zones_has g ending.ready.small _ (first_of_both _ _ dead));
        white = (col.white x p named).0
            (is_white_test c.heap p (second_of_both (in_zones g.bits (zone_of c.heap.shape p)) _ dead));
      }

  pub white_dead : (x : Name) (p : Place) → places.get w.places x ≡ Some p → IsWhiteOf w k (zones_in g) x
      → is_dead c.heap g p ≡ true
  white_dead x p there white =
      let named = (ending.represents.placed.lies.places_are x p).0 there in
      both_of _ _ (has_in_zones g _ (group_has x p named white.here))
      (ap is_white_colour ((col.white x p named).1 white.white))

  gone : (x : Name) → IsWhiteOf w k (zones_in g) x → places.get (ended c.heap w k g rest).places x ≡ None
  gone x white =
      let p = place_of c.heap w ending.represents.placed.lies x white.present in
      let there = (ending.represents.placed.lies.places_are x p.0).1 p.1 in
      gone_ended c.heap g w x p.0 there (white_dead x p.0 there white)

  stay : (x : Name) → (IsWhiteOf w k (zones_in g) x → ⊥) → places.get (ended c.heap w k g rest).places x
      ≡ places.get w.places x
  stay x not_white = go (places.get w.places x) refl
    where
      by : (p : Place) (t : Bool) → is_dead c.heap g p ≡ t → places.get w.places x ≡ Some p
          → places.get (ended c.heap w k g rest).places x ≡ places.get w.places x
      by p true t there = absurd (not_white (dead_white x p there t))
      by p false t there = place_ended c.heap g w x p there t ∙ sym there

      go : (o : Option Place) → places.get w.places x ≡ o → places.get (ended c.heap w k g rest).places x
          ≡ places.get w.places x
      go None e = get_ended c.heap g w x ∙ ap (λ z. cond (kept_place c.heap g z) z None) e ∙ sym e
      go (Some p) e = by p (is_dead c.heap g p) refl e

  white_are : (x : Name) (p : Place) → Contains {X = Name × (ℕ × ℕ)} (ended c.heap w k g rest).white (x, p)
      ↔ (IsWhiteOf w k (zones_in g) x × (places.get w.places x ≡ Some p))
  white_are x p = (
    λ l. (let r = placed_by_has (is_dead c.heap g) (places.entries w.places) x p l in
        let there = (entries_are w.places x p).0 r.0 in
        (dead_white x p there r.1, there)),
    λ r. has_placed_by (is_dead c.heap g) (places.entries w.places) x p ((entries_are w.places x p).1 r.1)
        (white_dead x p r.1 r.0),
  )

  -- exactly the names of black places are black
  pub black_has : (x : Name) → Has (ended c.heap w k g rest).black x → (p : Place) × (places.get w.places x ≡ Some p)
      × IsBlack c.heap p
  black_has x b =
      let r = named_by_has (λ p. is_black_at c.heap p) (places.entries w.places) x ((set_of_has _ x).0 b) in
      (r.0, (entries_are w.places x r.0).0 r.1, is_black_test c.heap r.0 r.2)

  pub has_black : (x : Name) (p : Place) → places.get w.places x ≡ Some p → IsBlack c.heap p
      → Has (ended c.heap w k g rest).black x
  has_black x p there b =
      (set_of_has _ x).1 (has_named_by (λ q. is_black_at c.heap q) (places.entries w.places) x p
      ((entries_are w.places x p).1 there) (ap is_black_colour b))

  pub alive : (p : Place) → (IsWhite c.heap p → ⊥) → is_dead c.heap g p ≡ false
  alive p not_white = go (is_dead c.heap g p) refl
    where
      go : (t : Bool) → is_dead c.heap g p ≡ t → is_dead c.heap g p ≡ false
      go true t = absurd (not_white
          (is_white_test c.heap p (second_of_both (in_zones g.bits (zone_of c.heap.shape p)) _ t)))
      go false t = t

  black_are : (x : Name) → Has (ended c.heap w k g rest).black x
      ↔ (BlackClosure k x × IsPresent (ended c.heap w k g rest) x)
  black_are x = (
    λ b. (let r = black_has x b in (
      (col.black x r.0 ((ending.represents.placed.lies.places_are x r.0).0 r.1)).0 r.2,
      ap is_some (place_ended c.heap g w x r.0 r.1 (alive r.0 (λ white. cc (r.2, white)))),
    )),
    λ r. go (places.get (ended c.heap w k g rest).places x) refl r.0 r.1,
  )
    where
      go : (o : Option Place) → places.get (ended c.heap w k g rest).places x ≡ o → BlackClosure k x → is_some o ≡ true
          → Has (ended c.heap w k g rest).black x
      go None e b there = absurd (cc there)
      go (Some p) e b there =
          (let q = ended_place c.heap g w x p e in
          has_black x p q.0 ((col.black x p ((ending.represents.placed.lies.places_are x p).0 q.0)).1 b))

  gray_of_group : (x : Name) → IsGrayHere c.heap g x → IsGrayOf w k (zones_in g) x
  gray_of_group x is = record {
    present = present_named c.heap w ending.represents.placed.lies is.place x is.named;
    here = in_group x is.place is.named is.here;
    gray = (col.gray x is.place is.named).0 is.gray;
  }

  group_gray : (x : Name) → IsGrayOf w k (zones_in g) x → IsGrayHere c.heap g x
  group_gray x is = (let p = place_of c.heap w ending.represents.placed.lies x is.present in record {
    place = p.0;
    named = p.1;
    here = group_has x p.0 p.1 is.here;
    gray = (col.gray x p.0 p.1).1 is.gray;
  })

  pub lawful_end : (grays : List Name) → Lists (IsGrayHere c.heap g) grays
      → IsLawfulEnd w k (zones_in g) (map zones_in rest) grays (ended c.heap w k g rest)
  lawful_end grays l = record {
    ready = ending.represents.placed.lies.out_is ∙ none_out_listed c.heap.shape ending.ready.kept;
    grays_are = record {
      ascending = l.ascending;
      has = λ x. ((λ m. gray_of_group x ((l.has x).0 m)), λ is. (l.has x).1 (group_gray x is));
    };
    graph_is = refl;
    owner_is = refl;
    preparing_is = refl;
    gone = gone;
    stay = stay;
    white_are = white_are;
    out_is = refl;
    collection_is = refl;
    black_are = λ settled x. black_are x;
  }
