use Rattle.std.proofs.Common.{◌≡◌, ◌<◌, ◌^◌, true, length, Some, None, if◌then◌else◌}
use Rattle.std.proofs.Common.{ap, sym, ◌∙◌, subst, arith}
use Rattle.gz_names.specs.declared.moves.Leaving.{Leaving}
use Rattle.gz_names.specs.declared.moves.Move.{Move}
use Rattle.gz_names.specs.Moves.{AreKept, StandsAt, leaves, number_of}
use Rattle.gz_names.proofs.Moving.{IsArenaOf, number-fits, number-found, not-left}
use Rattle.gz_names.proofs.moves.Moves.number_of.Goals as goal

pub find_arena-requires : goal.find_arena-requires
find_arena-requires c =
    let kept : AreKept c.args.self.now c.as_slice.result.now = subst (AreKept c.args.self.now)
    (sym c.as_slice.ensures.value)
    (subst (λ l. AreKept l c.self.inside.arenas.items) c.self.view_is c.self.invariant) in
    kept.ascending

pub number_of-requires-clause-fits : goal.number_of-requires-clause-fits
number_of-requires-clause-fits c = λ set.
    (let ms = c.args.self.now in
    let arenas = c.self.inside.arenas.items in
    let kept : AreKept ms arenas = subst (λ l. AreKept l arenas) c.self.view_is c.self.invariant in
    let there = subst (λ l. StandsAt l c.arena.result c.in_ok-at.at) c.as_slice.ensures.value c.in_ok-at.ensures in
    let one = c.index.result.now in
    let below : c.args.place.1 < 64 = omega (arith, c.slot.ensures.value, c.slot.ensures.below) in
    let at : IsArenaOf arenas c.args.place c.in_ok-at.at one = record {
      within = there.0;
      is = sym c.index.ensures;
      same = ap (λ (x : Leaving). x.arena) c.index.ensures ∙ there.1 one ∙ c.arena.ensures;
    } in
    let fits = number-fits ms arenas kept c.args.place c.in_ok-at.at one at below
    (subst (λ s. leaves one s ≡ true) c.slot.ensures.value set) in
    let small : length ms < 2 ^ 64 =
    (let v = c.self.inside.moves in let long = ap (length {A = Move}) c.self.view_is in
    omega (arith, v.ok, v.small, long)) in
    subst (λ s. number_of one s < 2 ^ 64) (sym c.slot.ensures.value) (omega (arith, fits, small)))

pub returns-clause-number : goal.returns-clause-number
returns-clause-number c =
    let ms = c.args.self.now in
    let arenas = c.self.inside.arenas.items in
    let kept : AreKept ms arenas = subst (λ l. AreKept l arenas) c.self.view_is c.self.invariant in
    let there = subst (λ l. StandsAt l c.arena.result c.in_ok-at.at) c.as_slice.ensures.value c.in_ok-at.ensures in
    let one = c.index.result.now in
    let below : c.args.place.1 < 64 = omega (arith, c.slot.ensures.value, c.slot.ensures.below) in
    let at : IsArenaOf arenas c.args.place c.in_ok-at.at one = record {
      within = there.0;
      is = sym c.index.ensures;
      same = ap (λ (x : Leaving). x.arena) c.index.ensures ∙ there.1 one ∙ c.arena.ensures;
    } in
    number-found ms arenas kept c.args.place c.in_ok-at.at one at below c.number_of.result
    (subst (λ s. c.number_of.result ≡ (if leaves one s then Some (number_of one s) else None)) c.slot.ensures.value
    c.number_of.ensures)

pub returns-in_err-at-clause-number : goal.returns-in_err-at-clause-number
returns-in_err-at-clause-number c =
    let kept : AreKept c.args.self.now c.as_slice.result.now = subst (AreKept c.args.self.now)
    (sym c.as_slice.ensures.value)
    (subst (λ l. AreKept l c.self.inside.arenas.items) c.self.view_is c.self.invariant) in
    rw c.from_residual.ensures (not-left c.args.self.now c.as_slice.result.now kept c.args.place
    (λ k d lt same. c.in_err-at.ensures k d lt (same ∙ sym c.arena.ensures)))
