use Rattle.std.proofs.Common.{arith}
use Rattle.zone_edges.proofs.Words.{size-bound}
use Rattle.zone_edges.proofs.Steps.{opened, grown, has_room}
use Rattle.zone_edges.proofs.search.Search.open.Goals as goal

pub bounds-self-self : goal.bounds-self-self
bounds-self-self c = has_room c.args.self.now c.args.zone c.requires.search c.requires.inside c.requires.fresh

pub bounds-self-self-2 : goal.bounds-self-self-2
bounds-self-self-2 c = has_room c.args.self.now c.args.zone c.requires.search c.requires.inside c.requires.fresh

pub returns-clause-search : goal.returns-clause-search
returns-clause-search c =
    rw (c.from.ensures, c.index.ensures.value)
    (opened c.args.self.now c.args.zone c.only-level.result c.union-self.result c.requires.search c.requires.inside
    c.requires.fresh c.requires.leads c.only-level.ensures c.union-self.ensures)

pub returns-clause-fewer : goal.returns-clause-fewer
returns-clause-fewer c =
    omega (
      arith,
      grown c.args.self.now c.args.zone c.only-level.result c.union-self.result c.requires.search
          c.requires.inside c.requires.fresh c.only-level.ensures c.union-self.ensures,
      size-bound 64 c.union-self.result.bits,
    )
