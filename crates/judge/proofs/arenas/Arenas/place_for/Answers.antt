use Rattle.std.proofs.Common.{◌∙◌, ◌∷◌, ◌++◌, [], Some, ap, arith, length, subst, sym}
use Rattle.std.proofs.lemmas.List.{length-map}
use Rattle.colour_defs.specs.World.{IsPlaceFor}
use Rattle.judge.specs.Arenas.{owners_in}
use Rattle.judge.specs.Slots.{owner_of}
use Rattle.judge.proofs.NewCells.{found_in, found_place, new_place}
use Rattle.judge.proofs.arenas.Arenas.place_for.Goals as goal

pub returns-in-Some-clause-place : goal.returns-in-Some-clause-place
returns-in-Some-clause-place c = λ w has.
    let old = c.args.self.now in
    let mid = c.loop-arena.self in
    let found = found_in old mid c.args.zone c.loop-arena.arena c.in-Some.place c.loop-arena.invariant.same
    c.in-Some.ensures.some c.loop-arena.invariant.full in
    subst (λ os. IsPlaceFor w c.args.zone c.in-Some.place os)
    (sym (c.free_in.ensures.same.arenas.owners ∙ c.loop-arena.invariant.same.arenas.owners))
    (found_place old c.args.zone c.in-Some.place found w has)

pub returns-clause-place : goal.returns-clause-place
returns-clause-place c =
    let old = c.args.self.now in
    let mid = c.loop-arena.self in
    let owners = c.loop-arena.invariant.same.arenas.owners in
    let many = sym (length-map mid.arenas.items owner_of) ∙ ap length owners in
    new_place old c.args.zone c.first_of.result (owners_in c.make.new.self)
    (λ n below. c.loop-arena.invariant.full n (omega (
      arith,
      below,
      c.loop-arena-test.false,
      c.len-arena-end.ensures,
      old.arenas.ok.0,
      length-map old.arenas.items owner_of,
    )))
    (c.first_of.ensures ∙ ap (λ n. (n, 0)) (c.in_ok-arena.ensures.number ∙ many))
    (c.in_ok-arena.ensures.owners ∙ ap (λ os. os ++ Some c.args.zone ∷ []) owners)
