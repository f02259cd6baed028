use Rattle.std.proofs.Common.{List, Some, subst, sym}
use Rattle.std.specs.Map.Iter.{deref_pair}
use Rattle.std.proofs.lemmas.Map.Iter.{rest_all, rest_more}
use Rattle.gz_names.specs.Zones.{zones_in}
use Rattle.gz_names.specs.declared.names.Name.{Name}
use Rattle.judge.specs.Starts.{IsBlackOutside}
use Rattle.judge.proofs.Colours.{PicksOn, picked_are, picks_less, picks_more, picks_start}
use Rattle.judge.proofs.collection.left_blacks.Goals as goal

pub loop-name-init : goal.loop-name-init
loop-name-init c =
    picks_start (λ x. IsBlackOutside c.args.graph.now (zones_in c.args.preparation.now.zones)
    (Some c.args.preparation.now.black) x) c.args.places.now.entries
    _ _ c.into_iter-name-iterator.ensures.into_iter_gives.0 c.new-names.ensures.items

pub loop-name-preserved-then-not-is_left_black : goal.loop-name-preserved-then-not-is_left_black
loop-name-preserved-then-not-is_left_black c =
    picks_less (λ x. IsBlackOutside c.args.graph.now (zones_in c.args.preparation.now.zones)
    (Some c.args.preparation.now.black) x) c.args.places.now.entries
    c.loop-name.name-iterator c.next.new.self _ c.loop-name.names.items
    (rest_more deref_pair _ _ _ _ c.in-Some.is c.next.ensures.steps)
    (λ h. let t = c.is_left_black.ensures.1 h in cc (t, c.if-not-is_left_black.true)) c.loop-name.invariant

pub loop-name-preserved : goal.loop-name-preserved
loop-name-preserved c =
    subst (λ (ns : List Name). PicksOn (λ x. IsBlackOutside c.args.graph.now (zones_in c.args.preparation.now.zones)
    (Some c.args.preparation.now.black) x)
    c.args.places.now.entries c.next.new.self ns) (sym c.in_ok-push.ensures.items)
    (picks_more (λ x. IsBlackOutside c.args.graph.now (zones_in c.args.preparation.now.zones)
    (Some c.args.preparation.now.black) x)
    c.args.places.now.entries c.loop-name.name-iterator c.next.new.self _ c.loop-name.names.items
    (rest_more deref_pair _ _ _ _ c.in-Some.is c.next.ensures.steps)
    (c.is_left_black.ensures.0 c.if-not-is_left_black.false) c.loop-name.invariant)

pub returns : goal.returns
returns c =
    (picked_are c.args.places.now c.loop-name.name-iterator
    (λ x. IsBlackOutside c.args.graph.now (zones_in c.args.preparation.now.zones)
    (Some c.args.preparation.now.black) x) c.loop-name.names.items
    c.into_iter-name-iterator.ensures.into_iter_gives.5
    (rest_all deref_pair _ _ _ c.in-None.is c.next.ensures.steps) c.loop-name.invariant).has
