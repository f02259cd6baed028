use Rattle.std.proofs.Common.{◌≡◌, length, ap, arith}
use Rattle.std.proofs.lemmas.List.{with_items_is, length-map}
use Rattle.std.specs.Int.{bit_at}
use Rattle.wrappers.specs.WrapperMaps.{lists_of, list_at}
use Rattle.wrappers.proofs.Finding.{AreApart-from_sound}
use Rattle.wrappers.proofs.Dropping.{AreSound-DropsDead, without_dead-DropsDead}
use Rattle.wrappers.proofs.wrapper_maps.Wrappers.drop_dead.Goals as goal

pub invariant_of-self : goal.invariant_of-self
invariant_of-self g c =
    let kept = with_items_is c.self.inside.maps c.drop_in_zones.new.maps (omega arith) in
    let was : length c.self.inside.maps.items ≡ 64 = rw length-map at c.self.invariant.zones in
    let dropped = rw c.deref_mut.ensures.value at c.drop_in_zones.ensures in
    rw kept (AreSound-DropsDead (lists_of c.self.inside.maps.items) (lists_of c.drop_in_zones.new.maps)
    c.self.inside.homes c.args.zones.bits _ c.self.invariant
    (rw length-map (omega (arith, was, ap length c.deref_mut.ensures.value))) dropped)

pub returns-clause-dropped : goal.returns-clause-dropped
returns-clause-dropped g c =
    let kept = with_items_is c.self.inside.maps c.drop_in_zones.new.maps (omega arith) in
    let dropped = rw c.deref_mut.ensures.value at c.drop_in_zones.ensures in
    λ is_dead says z. rw (kept, ← c.self.view_is)
    (without_dead-DropsDead (bit_at c.args.zones.bits z) _ is_dead (list_at (lists_of c.self.inside.maps.items) z)
    (list_at (lists_of c.drop_in_zones.new.maps) z) says (dropped z))

pub returns-clause-apart : goal.returns-clause-apart
returns-clause-apart g c = rw (← c.self.view_is) (AreApart-from_sound _ c.self.inside.homes c.self.invariant)
