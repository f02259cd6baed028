use Rattle.std.proofs.Common.{Contains, List, subst, sym}
use Rattle.std.specs.Map.Iter.{deref_pair}
use Rattle.std.proofs.lemmas.Map.Iter.{rest_all, rest_more}
use Rattle.gz_names.specs.declared.names.Name.{Name}
use Rattle.judge.proofs.Colours.{PicksOn, picked_are, picks_less, picks_more, picks_start}
use Rattle.judge.proofs.world.World.gray_names.Goals as goal

pub loop-name-init : goal.loop-name-init
loop-name-init c =
    picks_start (λ x. Contains c.args.self.now.black.names x → ⊥) c.args.self.now.places.entries _ _
    c.into_iter-name-iterator.ensures.into_iter_gives.0 c.new-names.ensures.items

pub loop-name-preserved-then-contains : goal.loop-name-preserved-then-contains
loop-name-preserved-then-contains c =
    picks_less (λ x. Contains c.args.self.now.black.names x → ⊥) c.args.self.now.places.entries
    c.loop-name.name-iterator c.next.new.self _ c.loop-name.names.items
    (rest_more deref_pair _ _ _ _ c.in-Some.is c.next.ensures.steps)
    (λ n. n (c.contains.ensures.0 c.if-contains.true)) c.loop-name.invariant

pub loop-name-preserved : goal.loop-name-preserved
loop-name-preserved c =
    subst (λ (ns : List Name). PicksOn (λ x. Contains c.args.self.now.black.names x → ⊥) c.args.self.now.places.entries
    c.next.new.self ns) (sym c.in_ok-push.ensures.items)
    (picks_more (λ x. Contains c.args.self.now.black.names x → ⊥) c.args.self.now.places.entries
    c.loop-name.name-iterator c.next.new.self _ c.loop-name.names.items
    (rest_more deref_pair _ _ _ _ c.in-Some.is c.next.ensures.steps)
    (λ h. let t = c.contains.ensures.1 h in cc (t, c.if-contains.false)) c.loop-name.invariant)

pub returns : goal.returns
returns c =
    picked_are c.args.self.now.places c.loop-name.name-iterator (λ x. Contains c.args.self.now.black.names x → ⊥)
    c.loop-name.names.items c.into_iter-name-iterator.ensures.into_iter_gives.5
    (rest_all deref_pair _ _ _ c.in-None.is c.next.ensures.steps) c.loop-name.invariant
