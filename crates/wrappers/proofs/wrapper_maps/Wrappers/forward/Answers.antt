use Rattle.std.proofs.Common.{◌≡◌, ◌∙◌, List, length, set, sym, ap, subst, arith}
use Rattle.std.proofs.lemmas.List.{with_items_is, length-map}
use Rattle.gz_names.specs.declared.numbers.Place.{Place}
use Rattle.wrappers.specs.declared.wrapper_maps.WrapperKey.{WrapperKey}
use Rattle.wrappers.specs.WrapperMaps.{WrappersState, AreSound, all_forwarded, list_at, lists_of}
use Rattle.wrappers.proofs.Finding.{AreApart-from_sound}
use Rattle.wrappers.proofs.Forwarding.{AreSound-forwarded}
use Rattle.wrappers.proofs.wrapper_maps.Wrappers.forward.Goals as goal

pub invariant_of-self : goal.invariant_of-self
invariant_of-self c =
    let kept = with_items_is c.self.inside.maps c.forward_in_zone.new.maps (omega arith) in
    let items = c.self.inside.maps.items in
    let zone = c.args.zone in
    let gone : lists_of c.forward_in_zone.new.maps
    ≡ set (lists_of items) zone (all_forwarded c.args.moves.now (list_at (lists_of items) zone)) =
    c.forward_in_zone.ensures
    ∙ ap (λ l. set (lists_of l) zone (all_forwarded c.args.moves.now (list_at (lists_of l) zone)))
    c.deref_mut.ensures.value in
    rw kept (subst (λ l. AreSound l c.self.inside.homes) (sym gone)
    (AreSound-forwarded (lists_of items) c.self.inside.homes zone c.args.moves.now c.self.invariant))

pub returns-clause-lists : goal.returns-clause-lists
returns-clause-lists c =
    let kept = with_items_is c.self.inside.maps c.forward_in_zone.new.maps (omega arith) in
    let items = c.self.inside.maps.items in
    let zone = c.args.zone in
    let moves = c.args.moves.now in
    let named : lists_of items ≡ c.args.self.now.lists = ap (λ (w : WrappersState). w.lists) c.self.view_is in
    let made : List (List (WrapperKey × Place)) → WrappersState = λ l. record { lists = l } in
    ap made (ap lists_of kept ∙ (c.forward_in_zone.ensures
    ∙ (ap (λ l. set (lists_of l) zone (all_forwarded moves (list_at (lists_of l) zone))) c.deref_mut.ensures.value
    ∙ ap (λ l. set l zone (all_forwarded moves (list_at l zone))) named)))

pub returns-clause-apart : goal.returns-clause-apart
returns-clause-apart c =
    let kept = with_items_is c.self.inside.maps c.forward_in_zone.new.maps (omega arith) in
    let items = c.self.inside.maps.items in
    let zone = c.args.zone in
    let gone : lists_of c.forward_in_zone.new.maps
    ≡ set (lists_of items) zone (all_forwarded c.args.moves.now (list_at (lists_of items) zone)) =
    c.forward_in_zone.ensures
    ∙ ap (λ l. set (lists_of l) zone (all_forwarded c.args.moves.now (list_at (lists_of l) zone)))
    c.deref_mut.ensures.value in
    rw kept (AreApart-from_sound (lists_of c.forward_in_zone.new.maps) c.self.inside.homes
    (subst (λ l. AreSound l c.self.inside.homes) (sym gone)
    (AreSound-forwarded (lists_of items) c.self.inside.homes zone c.args.moves.now c.self.invariant)))
