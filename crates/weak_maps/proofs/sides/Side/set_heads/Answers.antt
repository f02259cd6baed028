use Rattle.std.proofs.Common.{◌≡◌, length}
use Rattle.gz_names.specs.declared.numbers.Place.{Place}
use Rattle.weak_maps.specs.Heads.{head_of}
use Rattle.weak_maps.specs.Moving.{exchanged}
use Rattle.weak_maps.specs.Sides.{IsSound}
use Rattle.weak_maps.proofs.Exchanging.{AreHeads-exchanged}
use Rattle.weak_maps.proofs.Siding.{IsSide-sound}
use Rattle.weak_maps.proofs.sides.Side.set_heads.Goals as goal

pub invariant_of-self : goal.invariant_of-self
invariant_of-self c = record {
  seated = c.self.invariant.seated;
  heads_are = AreHeads-exchanged c.self.inside.heads c.args.heads (length c.self.inside.lists.items) c.requires.0
      (rw (← c.self.view_is) at c.requires.1) c.self.invariant.heads_are;
  black_waits = c.self.invariant.black_waits;
  gray_waits = c.self.invariant.gray_waits;
}

pub returns-clause-side : goal.returns-clause-side
returns-clause-side c =
    IsSide-sound c.args.heads c.self.inside.lists.items c.self.inside.seats.items c.self.inside.black
    c.self.inside.gray (record {
      seated = c.self.invariant.seated;
      heads_are = AreHeads-exchanged c.self.inside.heads c.args.heads (length c.self.inside.lists.items) c.requires.0
          (rw (← c.self.view_is) at c.requires.1) c.self.invariant.heads_are;
      black_waits = c.self.invariant.black_waits;
      gray_waits = c.self.invariant.gray_waits;
    })
