use Rattle.std.proofs.Common.{◌≡◌, ◌-◌, ◌+◌, ℕ, refl, subst, arith}
use Rattle.weak_maps.proofs.Kept.{KeepsRows-same}
use Rattle.weak_maps.proofs.Dropping.{Visited, Visited-all, Visited-more, Visited-none, Visited-passed, none_among}
use Rattle.weak_maps.proofs.Dropping.{none_owned, some_among}
use Rattle.weak_maps.proofs.tables.WeakMaps.drop_entries_in.Goals as goal

pub returns-then-not-may_own-clause-dropped : goal.returns-then-not-may_own-clause-dropped
returns-then-not-may_own-clause-dropped c =
    none_owned c.args.arena c.args.slots c.args.self.now.table (c.if-not-may_own.ensures.none refl)

pub returns-then-not-may_own-clause-rows : goal.returns-then-not-may_own-clause-rows
returns-then-not-may_own-clause-rows c = KeepsRows-same c.args.self.now.table c.may_own.ensures.sound

pub loop-slot-init : goal.loop-slot-init
loop-slot-init c =
    Visited-none c.args.arena c.args.slots c.args.self.now 64 (omega (arith, c.ranges.slots.fits)) (omega arith)
    c.may_own.ensures.parallel c.may_own.ensures.sound

pub loop-slot-preserved-in-Some : goal.loop-slot-preserved-in-Some
loop-slot-preserved-in-Some c =
    let n = c.loop-slot.slot - 1 in
    let next : c.loop-slot.slot ≡ n + 1 = omega (arith, c.loop-slot-test.true) in
    Visited-more c.args.arena c.args.slots c.args.self.now c.loop-slot.self c.drop_entries_of.new.self n
    c.in-Some.place (some_among c.args.arena c.args.slots n c.in-Some.place c.in-Some.ensures)
    (subst (λ (i : ℕ). Visited c.args.arena c.args.slots i c.args.self.now c.loop-slot.self) next
    c.loop-slot.invariant) (record {
      dropped = c.drop_entries_of.ensures.dropped;
      fewer = c.drop_entries_of.ensures.fewer;
      rows = c.drop_entries_of.ensures.rows;
      carries = c.drop_entries_of.ensures.carries;
      parallel = c.drop_entries_of.ensures.parallel;
      sound = c.drop_entries_of.ensures.sound;
    })

pub loop-slot-preserved : goal.loop-slot-preserved
loop-slot-preserved c =
    Visited-passed c.args.arena c.args.slots c.args.self.now c.loop-slot.self c.loop-slot.slot (c.loop-slot.slot - 1)
    (omega (arith, c.loop-slot-test.true))
    (none_among c.args.arena c.args.slots (c.loop-slot.slot - 1) c.in_default.ensures) c.loop-slot.invariant

pub returns-clause-dropped : goal.returns-clause-dropped
returns-clause-dropped c =
    Visited-all c.args.arena c.args.slots c.args.self.now c.loop-slot.self c.loop-slot.slot
    (omega (arith, c.loop-slot-test.false)) c.loop-slot.invariant
