-- Whose the arenas are, and which are out.
use Rattle.std.proofs.Common.{◌≡◌, ◌∙◌, ◌↔◌, inl, inr, ℕ, ◌+◌, ◌<◌, ◌≤◌, Bool, true, false, cond, List, [], ◌∷◌}
use Rattle.std.proofs.Common.{◌++◌, length, get_or, drop, map, reverse, set, Option, Some, None, refl, sym, ap, subst}
use Rattle.std.proofs.Common.{arith, IsTrue}
use Rattle.std.specs.Prelude.{nat_eq, slice_get}
use Rattle.std.specs.BTreeMap as tree
use Rattle.std.specs.List.{list_any}
use Rattle.std.specs.Option.{option_map}
use Rattle.std.proofs.Math.Seq.{map-set_same}
use Rattle.std.proofs.lemmas.List.{drop-map, drop_more, reverse-append, length-map}
use Rattle.std.proofs.lemmas.Option.{slice_get-get_or, slice_get-map}
use Rattle.gz_names.specs.Zones.{HasZone, zones_in}
use Rattle.gz_names.specs.declared.zone_sets.ZoneSet.{ZoneSet}
use Rattle.colour_defs.specs.Ends.{arenas_from}
use Rattle.colour_defs.specs.Graph.{GraphState, is_among}
use Rattle.colour_defs.specs.World.{IsPlaceFor}
use Rattle.colour_defs.proofs.Lists.{get_push_here}
use Rattle.colour_defs.proofs.Membership.{among_from, among_to}
use Rattle.colour_defs.proofs.ZoneSets.{zones_in-has}
use Rattle.plain_graph.specs.Indexed.{order_of}
use Rattle.judge.specs.Slots.{owner_of, owners_of}
use Rattle.judge.specs.Cells.{Cells, HasCell}
use Rattle.judge.specs.Stages.{LiesIn, Shown}
use Rattle.judge.specs.declared.arenas.Arena.{Arena}

-- the zone of an arena
pub owner_at : (arenas : List Arena) (i : ℕ) (d : Arena) → i < length arenas
    → slice_get (owners_of arenas) i ≡ Some (owner_of (get_or arenas i d))
owner_at arenas i d below =
    slice_get-map owner_of arenas i ∙ ap (option_map owner_of) (slice_get-get_or arenas i d below)

-- an arena that is written over
pub same_owner : (arenas : List Arena) (i : ℕ) (was now : Arena) → was ≡ get_or arenas i was
    → now.owner ≡ was.owner → owners_of (set arenas i now) ≡ owners_of arenas
same_owner arenas i was now at same = map-set_same owner_of arenas i now was (same ∙ ap owner_of at)

-- an arena more
pub owner_pushed : (xs ys : List Arena) (a : Arena) (n : ℕ) → ys ≡ xs ++ a ∷ [] → n ≤ length xs → length xs ≤ n
    → slice_get (owners_of ys) n ≡ Some (owner_of a)
owner_pushed xs ys a n e le ge =
    let same : n ≡ length xs = omega arith in
    slice_get-map owner_of ys n ∙ ap (option_map owner_of)
    (ap (λ zs. slice_get zs n) e ∙ ap (slice_get (xs ++ a ∷ [])) same ∙ get_push_here xs a)

pub same_length : (xs ys : List Arena) → owners_of xs ≡ owners_of ys → length xs ≡ length ys
same_length xs ys e = sym (length-map xs owner_of) ∙ ap length e ∙ length-map ys owner_of

-- whether an arena is of one of some zones
pub zone_test : (zones : ZoneSet) (z : ℕ) (r : Bool) → (IsTrue r ↔ HasZone zones.bits z)
    → list_any (nat_eq z) (zones_in zones) ≡ r
zone_test zones z true has = among_from z (zones_in zones) ((zones_in-has zones z).1 (has.0 refl))
zone_test zones z false has = go (list_any (nat_eq z) (zones_in zones)) refl
  where
    go : (b : Bool) → list_any (nat_eq z) (zones_in zones) ≡ b → b ≡ false
    go true e = absurd (let t = has.1 ((zones_in-has zones z).0 (among_to z (zones_in zones) e)) in cc t)
    go false e = refl

-- the arenas of some zones from one on
pub from_first : (n : ℕ) (o : Option ℕ) (os : List (Option ℕ)) (zones : List ℕ)
    → arenas_from n (o ∷ os) zones
    ≡ cond (is_among zones o) (n ∷ arenas_from (n + 1) os zones) (arenas_from (n + 1) os zones)
from_first n None os zones = refl
from_first n (Some z) os zones = refl

pub from_one : (arenas : List Arena) (i : ℕ) (d : Arena) (zones : List ℕ) → i < length arenas
    → arenas_from i (drop i (owners_of arenas)) zones
    ≡ cond (is_among zones (get_or arenas i d).owner)
    (i ∷ arenas_from (i + 1) (drop (i + 1) (owners_of arenas)) zones)
    (arenas_from (i + 1) (drop (i + 1) (owners_of arenas)) zones)
from_one arenas i d zones below =
    ap (λ os. arenas_from i os zones)
    (drop-map owner_of i arenas ∙ ap (map owner_of) (drop_more arenas i d below))
    ∙ from_first i (get_or arenas i d).owner (map owner_of (drop (i + 1) arenas)) zones
    ∙ ap (λ os. cond (is_among zones (get_or arenas i d).owner) (i ∷ arenas_from (i + 1) os zones)
    (arenas_from (i + 1) os zones)) (sym (drop-map owner_of (i + 1) arenas))

-- an arena that is looked at: it is of one of the zones, or not
pub record IsLooked (arenas : List Arena) (i : ℕ) (zones : ZoneSet) (r : Bool) : Type 0 where
  pub below : i < length arenas
  pub one : Arena
  pub one_is : get_or arenas i one ≡ one
  pub test : r ≡ is_among (zones_in zones) one.owner

pub looked_at : (arenas : List Arena) (i : ℕ) (zones : ZoneSet) (r : Bool) → IsLooked arenas i zones r
    → arenas_from i (drop i (owners_of arenas)) (zones_in zones)
    ≡ cond r (i ∷ arenas_from (i + 1) (drop (i + 1) (owners_of arenas)) (zones_in zones))
    (arenas_from (i + 1) (drop (i + 1) (owners_of arenas)) (zones_in zones))
looked_at arenas i zones r l =
    from_one arenas i l.one (zones_in zones) l.below
    ∙ ap (λ b. cond b (i ∷ arenas_from (i + 1) (drop (i + 1) (owners_of arenas)) (zones_in zones))
    (arenas_from (i + 1) (drop (i + 1) (owners_of arenas)) (zones_in zones)))
    (ap (λ (a : Arena). is_among (zones_in zones) a.owner) l.one_is ∙ sym l.test)

pub stays_in : (arenas : List Arena) (i : ℕ) (zones : ZoneSet) (out rest : List ℕ) → IsLooked arenas i zones false
    → reverse out ≡ arenas_from (i + 1) (drop (i + 1) (owners_of arenas)) (zones_in zones) ++ rest
    → reverse out ≡ arenas_from i (drop i (owners_of arenas)) (zones_in zones) ++ rest
stays_in arenas i zones out rest l e = e ∙ ap (λ xs. xs ++ rest) (sym (looked_at arenas i zones false l))

pub goes_out : (arenas : List Arena) (i : ℕ) (zones : ZoneSet) (out new rest : List ℕ) → IsLooked arenas i zones true
    → new ≡ out ++ i ∷ []
    → reverse out ≡ arenas_from (i + 1) (drop (i + 1) (owners_of arenas)) (zones_in zones) ++ rest
    → reverse new ≡ arenas_from i (drop i (owners_of arenas)) (zones_in zones) ++ rest
goes_out arenas i zones out new rest l more e =
    ap reverse more ∙ reverse-append out (i ∷ []) ∙ ap (λ xs. i ∷ xs) e
    ∙ ap (λ xs. xs ++ rest) (sym (looked_at arenas i zones true l))

-- past the last arena there is none
pub from_none : (owners : List (Option ℕ)) (n : ℕ) (zones rest : List ℕ) → drop n owners ≡ []
    → rest ≡ arenas_from n (drop n owners) zones ++ rest
from_none owners n zones rest none = ap (λ os. arenas_from n os zones ++ rest) (sym none)

-- where cells lie
pub lies_same : (g : GraphState) (s t : Shown) → t.owners ≡ s.owners → t.cells ≡ s.cells → LiesIn g s t
lies_same g s t owners cells = inr (cells, owners)

pub lies_after : (g : GraphState) (old mid new : Shown) → mid.owners ≡ old.owners → mid.cells ≡ old.cells
    → mid.out ≡ old.out → LiesIn g mid new → LiesIn g old new
lies_after g old mid new owners cells out (inr l) = inr (l.0 ∙ cells, l.1 ∙ owners)
lies_after g old mid new owners cells out (inl l) = inl (record {
  name = l.name;
  zone = l.zone;
  place = l.place;
  of = l.of;
  fresh = λ h. l.fresh (subst (λ (cs : Cells). HasCell cs l.name) (sym cells) h);
  updates = subst (λ (cs : Cells). tree.Updates order_of cs new.cells l.name (Some l.place)) cells l.updates;
  lies = λ w laid. l.lies w (record {
    owners_are = laid.owners_are ∙ sym owners;
    out_is = laid.out_is ∙ sym out;
    places_are = λ x. laid.places_are x ∙ ap (λ (cs : Cells). tree.get order_of cs x) (sym cells);
  });
})

pub lies_before : (g : GraphState) (old mid new : Shown) → new.owners ≡ mid.owners → new.cells ≡ mid.cells
    → LiesIn g old mid → LiesIn g old new
lies_before g old mid new owners cells (inr l) = inr (cells ∙ l.0, owners ∙ l.1)
lies_before g old mid new owners cells (inl l) = inl (record {
  name = l.name;
  zone = l.zone;
  place = l.place;
  of = l.of;
  fresh = l.fresh;
  updates = subst (λ (cs : Cells). tree.Updates order_of old.cells cs l.name (Some l.place)) (sym cells) l.updates;
  lies = λ w laid. subst (λ (os : List (Option ℕ)). IsPlaceFor w l.zone l.place os) (sym owners) (l.lies w laid);
})
