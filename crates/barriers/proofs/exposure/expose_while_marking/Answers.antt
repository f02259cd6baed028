use Rattle.std.proofs.Common.{◌∙◌, [], List, ap, arith, length}
use Rattle.heap_core.specs.Heap.{HeapState}
use Rattle.gz_names.specs.declared.numbers.Place.{Place}
use Rattle.barriers.proofs.Turning.{turn_effect}
use Rattle.barriers.proofs.Exposing.{exposes}
use Rattle.barriers.proofs.Scans.{once_kept}
use Rattle.barriers.proofs.WeakPoint.{spread_point}
use Rattle.barriers.proofs.exposure.expose_while_marking.Goals as goal

pub turn-requires-clause-marks : goal.turn-requires-clause-marks
turn-requires-clause-marks g c = record {
  covers = c.requires.covers;
  colours = c.requires.invariant.holds.colours;
  piles = c.requires.invariant.holds.piles;
}

pub drain-requires : goal.drain-requires
drain-requires g c =
    let inv = c.requires.invariant in
    let effect = turn_effect _ _ _ _ _ c.turn.ensures.turns in
    record {
      counted = ap (λ (z : HeapState). z.ledger) effect.grows.spreads.blackens.rest ∙ c.requires.counted;
      covers = c.turn.ensures.covers;
      holds = effect.invariant [] inv.holds;
      weak = spread_point _ _ _ _ _ effect.grows.spreads inv.holds.colours inv.weak;
      once = once_kept _ _ _ _ effect.grows.spreads.scans inv.once;
    }

pub returns : goal.returns
returns g c =
    let inv = c.requires.invariant in
    let effect = turn_effect _ _ _ _ _ c.turn.ensures.turns in
    let none = ap (λ (ps : List Place). length ps) inv.none_woken in
    record {
      exposes = exposes _ _ c.args.place _ _ _ _ inv effect c.drain.ensures.invariant c.drain.ensures.spreads;
      steps = omega (arith, c.drain.ensures.steps, effect.grows.spreads.grays, none);
      covers = c.drain.ensures.covers;
      origin = c.drain.ensures.origin ∙ c.turn.ensures.origin;
    }
