use Rattle.std.proofs.Common.{◌≡◌, ◌∙◌, ap, sym, inl, inr}
use Rattle.std.specs.Option.{option_copied}
use Rattle.gz_names.proofs.Moving.{outside}
use Rattle.gz_names.proofs.moves.find_arena.Goals.{then-arena-first-via-then-arena-first}
use Rattle.gz_names.proofs.moves.find_arena.Goals.{then-arena-first-via-else-arena-first+then-last-arena}
use Rattle.gz_names.proofs.moves.find_arena.Goals as goal

pub returns-then-arena-first : goal.returns-then-arena-first
returns-then-arena-first c =
    outside c.args.arenas.now c.in_ok-first.first.now c.in_ok-last.last.now c.args.arena c.requires
    (sym c.first.ensures.value ∙ ap option_copied c.in_ok-first.was)
    (sym c.last.ensures.value ∙ ap option_copied c.in_ok-last.was)
    (elim c.then-arena-first.branch [
      | then-arena-first-via-then-arena-first w ↦ inl w.if-arena-first.true
      | then-arena-first-via-else-arena-first+then-last-arena w ↦ inr w.if-last-arena.true
    ])
