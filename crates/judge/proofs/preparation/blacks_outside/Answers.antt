use Rattle.std.proofs.Common.{List, subst, sym}
use Rattle.std.specs.Map.Iter.{deref_pair}
use Rattle.std.proofs.lemmas.Map.Iter.{rest_all, rest_more}
use Rattle.gz_names.specs.Zones.{zones_in}
use Rattle.gz_names.specs.declared.names.Name.{Name}
use Rattle.judge.specs.Starts.{IsBlackElsewhere}
use Rattle.judge.proofs.Colours.{PicksOn, picked_are, picks_less, picks_more, picks_start}
use Rattle.judge.proofs.preparation.blacks_outside.Goals as goal

pub loop-name-init : goal.loop-name-init
loop-name-init c =
    picks_start (λ x. IsBlackElsewhere c.args.graph.now (zones_in c.args.zones) c.args.black.now.names x)
    c.args.places.now.entries
    _ _ c.into_iter-name-iterator.ensures.into_iter_gives.0 c.new-names.ensures.items

pub loop-name-preserved-then-not-is_black_outside : goal.loop-name-preserved-then-not-is_black_outside
loop-name-preserved-then-not-is_black_outside c =
    picks_less (λ x. IsBlackElsewhere c.args.graph.now (zones_in c.args.zones) c.args.black.now.names x)
    c.args.places.now.entries
    c.loop-name.name-iterator c.next.new.self _ c.loop-name.names.items
    (rest_more deref_pair _ _ _ _ c.in-Some.is c.next.ensures.steps)
    (λ h. let t = c.is_black_outside.ensures.1 h in cc (t, c.if-not-is_black_outside.true)) c.loop-name.invariant

pub loop-name-preserved : goal.loop-name-preserved
loop-name-preserved c =
    subst (λ (ns : List Name). PicksOn
    (λ x. IsBlackElsewhere c.args.graph.now (zones_in c.args.zones) c.args.black.now.names x)
    c.args.places.now.entries c.next.new.self ns) (sym c.in_ok-push.ensures.items)
    (picks_more (λ x. IsBlackElsewhere c.args.graph.now (zones_in c.args.zones) c.args.black.now.names x)
    c.args.places.now.entries c.loop-name.name-iterator c.next.new.self _ c.loop-name.names.items
    (rest_more deref_pair _ _ _ _ c.in-Some.is c.next.ensures.steps)
    (c.is_black_outside.ensures.0 c.if-not-is_black_outside.false) c.loop-name.invariant)

pub returns : goal.returns
returns c =
    (picked_are c.args.places.now c.loop-name.name-iterator
    (λ x. IsBlackElsewhere c.args.graph.now (zones_in c.args.zones) c.args.black.now.names x) c.loop-name.names.items
    c.into_iter-name-iterator.ensures.into_iter_gives.5
    (rest_all deref_pair _ _ _ c.in-None.is c.next.ensures.steps) c.loop-name.invariant).has
