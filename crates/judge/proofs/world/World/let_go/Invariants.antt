use Rattle.std.proofs.Common.{◌≡◌, take}
use Rattle.judge.specs.Arenas.{AreSameArenas}
use Rattle.judge.specs.Cells.{LetsGo}
use Rattle.judge.proofs.world.World.let_go.Given as goal

abbrev pub invariant-loop-name : goal.invariant-loop-name
invariant-loop-name l = record {
  phase : l.self.phase ≡ l.fn.self.phase;
  former : l.self.former ≡ l.fn.self.former;
  black : l.self.black ≡ l.fn.self.black;
  whites : l.self.whites ≡ l.fn.self.whites;
  arenas : AreSameArenas l.fn.self.arenas l.self.arenas;
  tally : l.self.tally ≡ l.fn.self.tally;
  weak : l.self.weak ≡ l.fn.self.weak;
  told : l.self.told ≡ l.fn.self.told;
  places : LetsGo (take l.name-index l.whites) l.fn.self.places l.self.places;
}
