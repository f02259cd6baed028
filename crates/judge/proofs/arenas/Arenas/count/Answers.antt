use Rattle.std.proofs.Common.{◌≡◌, ◌∙◌, ◌<◌, List, length, get_or, arith, ap, subst}
use Rattle.gz_names.specs.Zones.{zones_in}
use Rattle.colour_defs.specs.Graph.{is_among}
use Rattle.judge.specs.declared.arenas.Arena.{Arena}
use Rattle.judge.proofs.Tallies.{arenas_more, byte_is, byte_most}
use Rattle.judge.proofs.arenas.Arenas.count.Goals as goal

pub loop-arena-preserved : goal.loop-arena-preserved
loop-arena-preserved c =
    let items = c.args.self.now.arenas.items in
    let i = c.loop-arena.arena-index in
    let arena = c.arena-item.result in
    let value = c.deref-arena-items.ensures.value in
    let below : i < length items = subst (λ (xs : List Arena). i < length xs) value c.loop-arena-test.true in
    let is : arena ≡ get_or items i arena = c.arena-item.is ∙ ap (λ (xs : List Arena). get_or xs i arena) value in
    let zones = c.args.zones in
    let has = subst (λ (a : Arena). c.is_of.result ≡ is_among (zones_in zones) a.owner) is c.is_of.ensures in
    let more = arenas_more zones items i arena c.is_of.result below has in record {
      few = omega (arith, c.from-count.ensures, byte_most c.is_of.result);
      counted = omega (arith, c.from-count.ensures, byte_is c.is_of.result, more);
    }
