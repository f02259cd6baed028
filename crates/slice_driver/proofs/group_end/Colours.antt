-- As a group ends, each present cell has the colour that is lawful.
use Rattle.std.proofs.Common.{◌≡◌, ◌⊎◌, ℕ, Bool, true, false, inl, inr, refl, sym, ap, ◌∙◌, subst, eqb, Option, Some}
use Rattle.std.proofs.Common.{List}
use Rattle.std.specs.List.{list_any}
use Rattle.gz_names.specs.Zones.{zones_in}
use Rattle.gz_names.specs.declared.names.Name.{Name}
use Rattle.gz_names.specs.declared.numbers.Place.{Place}
use Rattle.gz_names.specs.declared.zone_sets.ZoneSet.{ZoneSet}
use Rattle.cell_bits.specs.declared.bits.Bits.{Bits}
use Rattle.cell_bits.specs.declared.bits.Colour.{Colour}
use Rattle.cell_bits.specs.declared.bits.Colour.TheVariants as colour
use Rattle.colour_defs.specs.Graph.{IsInZones}
use Rattle.colour_defs.specs.Graph as graph
use Rattle.colour_defs.specs.World.{World, Collection, LiveClosure}
use Rattle.colour_defs.specs.Ends.{IsGrayAtEnd, zones_without}
use Rattle.colour_defs.proofs.Membership.{among_from, among_to, in_zone, without_has, without_was, zone_in}
use Rattle.colour_defs.proofs.ZoneSets.{zones_in-has}
use Rattle.heap_core.specs.Shape.{is_marking_state, name_at, state_in, state_of, zone_of}
use Rattle.heap_core.specs.Heap.{HeapState, colour_of}
use Rattle.zones.specs.declared.states.State.TheVariants as state
use Rattle.barriers.specs.Colours.{IsBlack, IsGray, IsSeen, IsWhite}
use Rattle.slice_driver.specs.Collector.{CollectorState, heap_with}
use Rattle.slice_driver.specs.GroupEnd.{AreColoured}
use Rattle.slice_driver.proofs.abstraction.Named.{named_present, some_one}
use Rattle.slice_driver.proofs.abstraction.Lying.{zone_named}
use Rattle.slice_driver.proofs.group_end.Places.{pending_live, seen_pending, states_are}
use Rattle.slice_driver.proofs.group_end.Ready.{AtGroupEnd, black_is, gray, heap_is, inv, is_black, marking_zone}
use Rattle.slice_driver.proofs.group_end.Ready.{ordered, runs}
use Rattle.slice_driver.proofs.group_end.Ready.{tied}

pub colours_are : (h : HeapState) (p : Place) → IsWhite h p ⊎ (IsGray h p ⊎ IsBlack h p)
colours_are h p = go (colour_of h p) refl
  where
    go : (t : Colour) → colour_of h p ≡ t → IsWhite h p ⊎ (IsGray h p ⊎ IsBlack h p)
    go colour.White e = inl e
    go colour.Gray e = inr (inl e)
    go colour.Black e = inr (inr e)

is_false : (b : Bool) → (b ≡ true → ⊥) → b ≡ false
is_false true none = absurd (none refl)
is_false false none = refl

module _ (c : CollectorState) (flown : ℕ → Option Bits) (w : World) (k : Collection) (g : ZoneSet) (rest : List ZoneSet)
    (ending : AtGroupEnd c flown w k g rest) where
  abbrev pub later : List ℕ
  later = zones_without k.marking (zones_in g)

  zone_is : (x : Name) (p : Place) → name_at c.heap.shape p ≡ Some x
      → graph.zone_of w.graph x ≡ Some (zone_of c.heap.shape p)
  zone_is x p named = zone_named c.heap ending.represents.placed.lies.graph w.graph p x
      ending.represents.placed.lies.shown
      ending.represents.placed.lies.part.part named

  -- a cell of a zone that is not marked black only is in no zone that marks on
  not_later : (x : Name) (p : Place) → name_at c.heap.shape p ≡ Some x
      → (state_of c.heap.shape p ≡ state.MarkBlackOnly → ⊥) → IsInZones w.graph later x → ⊥
  not_later x p named other in_later =
      let z = zone_in w.graph later x in_later in
      let same : z.0 ≡ zone_of c.heap.shape p = some_one _ _ (sym z.1 ∙ zone_is x p named) in
      let was = without_was k.marking (zones_in g) z.0 z.2 in
      elim (marking_zone c flown w k g rest ending z.0
      (((runs c flown w k g rest ending).marking_are z.0).0 was.0)) [
        | inl mine ↦ cc (among_from z.0 (zones_in g) ((zones_in-has g z.0).1 mine), was.1)
        | inr l ↦ other (subst (λ n. state_in c.heap.shape n ≡ state.MarkBlackOnly) same l.0)
      ]

  is_later : (x : Name) (p : Place) → name_at c.heap.shape p ≡ Some x → state_of c.heap.shape p ≡ state.MarkBlackOnly
      → IsInZones w.graph later x
  is_later x p named only =
      let z : ℕ = zone_of c.heap.shape p in
      in_zone w.graph later x z (zone_is x p named)
      (without_has k.marking (zones_in g) z
      (((runs c flown w k g rest ending).marking_are z).1 (ap is_marking_state only))
      (is_false (list_any (eqb z) (zones_in g))
      (λ among. (let both : state_in c.heap.shape z ≡ state.MarkBlackAndGray =
      ending.ready.marked.begun z ((zones_in-has g z).0 (among_to z (zones_in g) among)) in cc (both, only)))))

  -- what is live and outside the zones that mark on is seen
  seen_is : (x : Name) (p : Place) → name_at c.heap.shape p ≡ Some x → (IsInZones w.graph later x → ⊥) → LiveClosure k x
      → IsSeen c.heap p
  seen_is x p named out live = elim (states_are c.heap.shape p) [
    | inl other ↦ (inv c flown w k g rest ending).holds.colours.no_white p (named_present c.heap.shape p x named)
        other
    | inr (inl only) ↦ absurd (out (is_later x p named only))
    | inr (inr both) ↦ pending_live c.heap c.stack c.lists (inv c flown w k g rest ending)
        (gray c flown w k g rest ending) g ending.ready.marked (ordered c flown w k g rest ending) p
        (((tied c flown w k g rest ending).live x p named).1 live)
        ((ordered c flown w k g rest ending).only _ both)
  ]

  seen_live : (x : Name) (p : Place) → name_at c.heap.shape p ≡ Some x → IsSeen c.heap p → LiveClosure k x
  seen_live x p named seen =
      ((tied c flown w k g rest ending).live x p named).0
      (seen_pending c.heap c.stack c.lists (inv c flown w k g rest ending)
      (gray c flown w k g rest ending) g ending.ready.marked p seen)

  gray_at_end : (x : Name) (p : Place) → name_at c.heap.shape p ≡ Some x → IsGray c.heap p
      → IsGrayAtEnd w.graph k later x
  gray_at_end x p named is = record {
    elsewhere = not_later x p named (λ only. (inv c flown w k g rest ending).holds.colours.no_gray p only is);
    live = seen_live x p named (inl is);
    not_black = λ b. cc (black_is c flown w k g rest ending x p named b, is);
  }

  at_end_gray : (x : Name) (p : Place) → name_at c.heap.shape p ≡ Some x → IsGrayAtEnd w.graph k later x
      → IsGray c.heap p
  at_end_gray x p named is = elim (seen_is x p named is.elsewhere is.live) [
    | inl gray ↦ gray
    | inr black ↦ absurd (is.not_black (is_black c flown w k g rest ending x p named black))
  ]

  pub coloured_here : AreColoured c.heap w.graph k later
  coloured_here = record {
    black = λ x p named.
        (is_black c flown w k g rest ending x p named, black_is c flown w k g rest ending x p named);
    gray = λ x p named. (gray_at_end x p named, at_end_gray x p named);
    white = λ x p named. (
      λ white. record {
        not_gray = λ gray. cc (at_end_gray x p named gray, white);
        not_black = λ b. cc (black_is c flown w k g rest ending x p named b, white);
      },
      λ is. elim (colours_are c.heap p) [
        | inl white ↦ white
        | inr (inl gray) ↦ absurd (is.not_gray (gray_at_end x p named gray))
        | inr (inr black) ↦ absurd (is.not_black (is_black c flown w k g rest ending x p named black))
      ],
    );
  }

  pub coloured : AreColoured (heap_with c flown) w.graph k later
  coloured = subst (λ h. AreColoured h w.graph k later) (sym (heap_is c flown w k g rest ending)) coloured_here
