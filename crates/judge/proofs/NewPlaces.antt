-- A cell that is new lies in its place by the definitions.
use Rattle.std.proofs.Common.{◌≡◌, ◌∙◌, inl, inr, Option, Some, None, ap, is_some, subst, sym}
use Rattle.std.specs.BTreeMap as tree
use Rattle.gz_names.specs.declared.names.Name.{Name}
use Rattle.colour_defs.specs.Graph.{GraphState, zone_of}
use Rattle.colour_defs.specs.World.{IsPlaceFor}
use Rattle.plain_graph.specs.Indexed.{order_of}
use Rattle.judge.specs.Cells.{Cells, GivesPlace, GivesPlaces, HasCell}
use Rattle.judge.specs.Represents.{IsInPlace, LiesInPlace}
use Rattle.judge.specs.Stages.{Changes, GetsPlace, LiesIn, Shown}
use Rattle.judge.specs.declared.former.Change.{Change}
use Rattle.judge.proofs.Watching.{same_or_not}

-- the name that gets a place has it then
gets : (h : GraphState) (old new : Shown) (l : GetsPlace h old new) → tree.get order_of new.cells l.name ≡ Some l.place
gets h old new l = l.updates.1

unmoved : (h : GraphState) (old new : Shown) → GetsPlace h old new → new.cells ≡ old.cells → ⊥
unmoved h old new l same =
    l.fresh (ap is_some (ap (λ (cs : Cells). tree.get order_of cs l.name) (sym same) ∙ gets h old new l))

-- where the change wakes nothing
none_placed : (h : GraphState) (old new : Shown) → LiesIn h old new → new.cells ≡ old.cells → new.owners ≡ old.owners
none_placed h old new (inr l) same = l.1
none_placed h old new (inl l) same = absurd (unmoved h old new l same)

-- the name that is woken
is_name : (h : GraphState) (x : Name) (old new : Shown) → GivesPlace h old.cells x new.cells → (l : GetsPlace h old new)
    → x ≡ l.name
is_name h x old new gives l = elim (same_or_not x l.name) [
  | inl same ↦ same
  | inr other ↦ absurd (l.fresh (ap is_some (sym (gives.others l.name other) ∙ gets h old new l)))
]

one_placed : (h : GraphState) (x : Name) (old new : Shown) → LiesIn h old new → GivesPlace h old.cells x new.cells
    → IsInPlace h x old new
one_placed h x old new (inr l) gives = record {
  found = λ c. l.1;
  made = λ none z zone. absurd (none (subst (λ cs. HasCell cs x) l.0 (gives.made z zone)));
}
one_placed h x old new (inl l) gives = record {
  found = λ c. absurd (unmoved h old new l (gives.found c));
  made = λ none z zone.
      let same : x ≡ l.name = is_name h x old new gives l in
      let zones : l.zone ≡ z = cc (l.of, ap (zone_of h) (sym same), zone) in (
        l.place,
        (λ w owners out places. subst (λ n. IsPlaceFor w n l.place new.owners) zones
            (l.lies w (record { owners_are = owners; out_is = out; places_are = places }))),
        ap (tree.get order_of new.cells) same ∙ gets h old new l,
      );
}

placed : (h : GraphState) (x : Option Name) (old new : Shown) → LiesIn h old new → GivesPlaces h x old.cells new.cells
    → LiesInPlace h x old new
placed h None old new l gives = none_placed h old new l gives
placed h (Some x) old new l gives = one_placed h x old new l gives

pub places_new : (k : Change) (h : GraphState) (x also : Option Name) (old new : Shown) → Changes k h x also old new
    → LiesInPlace h x old new
places_new k h x also old new c = placed h x old new c.lies c.places
