use Rattle.std.proofs.Common.{◌≡◌, ◌<◌, ◌∙◌, None, length, sym, arith}
use Rattle.std.proofs.lemmas.List.{with_items_is}
use Rattle.wrappers.specs.WrapperMaps.{lists_of, place_at}
use Rattle.wrappers.proofs.Finding.{place_at-home}
use Rattle.wrappers.proofs.Adding.{AreSound-add, place_at-add}
use Rattle.wrappers.proofs.wrapper_maps.Wrappers.add.Goals as goal

pub add_in_zone-requires-clause-absent : goal.add_in_zone-requires-clause-absent
add_in_zone-requires-clause-absent c =
    let lists = lists_of c.self.inside.maps.items in
    let one = rw (← c.self.view_is) at c.requires.one_zone in
    let none : place_at lists c.args.comp.0 c.args.target ≡ None = rw (← c.self.view_is) at c.requires.absent in
    rw c.deref_mut.ensures.value (sym (place_at-home lists c.args.zone c.args.comp.0 c.args.target one) ∙ none)

pub invariant_of-self-2 : goal.invariant_of-self-2
invariant_of-self-2 c =
    let lists = lists_of c.self.inside.maps.items in
    let one = rw (← c.self.view_is) at c.requires.one_zone in
    let none : place_at lists c.args.comp.0 c.args.target ≡ None = rw (← c.self.view_is) at c.requires.absent in
    let kept = with_items_is c.self.inside.maps c.add_in_zone.new.maps (omega arith) in
    let below : c.args.comp.0 < 256 = omega arith in
    rw (kept, c.in_ok-add_in_zone.ensures.ok, c.deref_mut.ensures.value)
    (AreSound-add lists c.self.inside.homes c.args.zone c.args.comp.0 c.args.target c.args.place c.self.invariant
    c.add_in_zone.ensures.below below none one)

pub returns-clause-found : goal.returns-clause-found
returns-clause-found c =
    let lists = lists_of c.self.inside.maps.items in
    let none : place_at lists c.args.comp.0 c.args.target ≡ None = rw (← c.self.view_is) at c.requires.absent in
    let kept = with_items_is c.self.inside.maps c.add_in_zone.new.maps (omega arith) in
    let inside : c.args.zone < length lists = rw c.self.invariant.zones c.add_in_zone.ensures.below in
    rw (← c.self.view_is, kept, c.in_ok-add_in_zone.ensures.ok, c.deref_mut.ensures.value)
    (place_at-add lists c.args.zone c.args.comp.0 c.args.target c.args.place inside none)
