use Rattle.std.proofs.Common.{◌≡◌, map, take}
use Rattle.cell_bits.specs.declared.bits.Bits.{Bits}
use Rattle.mark_ahead.proofs.black_words.black_words.Given as goal

abbrev pub invariant-loop-arena : goal.invariant-loop-arena
invariant-loop-arena l = l.words.items ≡ map (λ (bits : Bits). bits.black) (take l.arena l.heap.colours)
